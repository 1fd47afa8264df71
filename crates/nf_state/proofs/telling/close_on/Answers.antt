use Rattle.std.proofs.Common.{ℕ, ◌==◌, ◌++◌, ◌∙◌, List, ap, subst}
use Rattle.std.specs.List.{flat_map}
use Rattle.std.proofs.lemmas.List.{take_all}
use Rattle.nf_base.specs.declared.changes.Change.{Change}
use Rattle.nf_defs.specs.Prelude.{IsRising, share_key}
use Rattle.nf_shares.specs.Kept.{ids_of}
use Rattle.nf_shares.specs.declared.entries.Entry.{Entry}
use Rattle.nf_state.proofs.Closing.{closed_on}
use Rattle.nf_state.proofs.telling.close_on.Goals as goal
use Rattle.nf_state.specs.Gone.{closed_entry}

pub returns : goal.returns
returns c =
    let t = c.args.view.now.tables in
    let entries = c.entries-entry-items in
    let rows = c.shares.ensures in
    let numbers = entries.ensures.numbers ∙ ap (ids_of (λ row. row.node == c.args.leaf)) rows in
    c.loop-entry.invariant
    ∙ ap (λ (changes : List Change). c.args.changes.now ++ changes)
    (ap (flat_map (λ (entry : Entry ℕ). closed_entry t c.args.leaf entry.share)) (take_all c.loop-entry.entry-index entries.result.now c.loop-entry-test.false)
    ∙ closed_on t c.args.leaf entries.result.now c.requires (subst (IsRising share_key) rows entries.ensures.rising) numbers)
