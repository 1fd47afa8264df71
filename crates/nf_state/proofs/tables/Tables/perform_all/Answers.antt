use Rattle.std.proofs.Common.{ℕ, ◌≡◌, ◌==◌, List, length, vec_len, ap, sym, ◌∙◌, arith}
use Rattle.std.proofs.lemmas.Bool.{false≢true}
use Rattle.nf_defs.specs.Tables.{Tables}
use Rattle.nf_words.specs.Prelude.{deeds_done, told_deeds}
use Rattle.nf_words.specs.declared.answer.Deed.{Deed}
use Rattle.nf_state.proofs.Stamps.{deeds_some, stamped_some}
use Rattle.nf_state.proofs.tables.Tables.perform_all.Goals as goal

pub returns : goal.returns
returns c =
    let t = c.args.self.now.tables in
    let deeds = c.args.deeds in
    let held = c.into_vec-deeds.ensures in
    let stamped : (Tables → Tables) = λ t. record t { meta = record t.meta { last = c.args.moment } } in
    let long : vec_len c.into_vec-deeds.result ≡ length c.into_vec-deeds.result.items = omega arith in
    let some = deeds_some t deeds c.requires.bears c.requires.order (λ none.
    false≢true (sym c.if-is_empty.false ∙ c.is_empty.ensures ∙ ap (λ (n : ℕ). n == 0) (long ∙ ap (λ (all : List Deed). length all) (held ∙ none)))) in
    c.stamp.ensures
    ∙ ap stamped (c.perform_each.ensures ∙ ap (deeds_done t) held)
    ∙ sym (stamped_some t (deeds_done t deeds) c.args.moment (told_deeds t deeds) some)
