use Rattle.std.proofs.Common.{◌≡◌, Some, ap, sym, ◌∙◌}
use Rattle.std.specs.Prelude.{option_copied}
use Rattle.nf_defs.specs.Prelude.{user_row}
use Rattle.nf_words.specs.State.{State}
use Rattle.nf_view.proofs.Sizes.{no_charge, root_charge}
use Rattle.nf_view.proofs.view.View.charge.Goals as goal

pub returns-in-Some : goal.returns-in-Some
returns-in-Some c =
    let t = c.args.self.now.tables in
    let rows = ap (λ (s : State). user_row s.tables.users c.args.user) c.self.view_is in
    let there : user_row t.users c.args.user ≡ Some c.in-Some.row.now = sym rows ∙ sym c.row.ensures ∙ ap option_copied c.in-Some.is in
    c.size.ensures ∙ root_charge t c.args.user c.in-Some.row.now c.requires there

pub returns-in-None : goal.returns-in-None
returns-in-None c =
    let t = c.args.self.now.tables in
    let rows = ap (λ (s : State). user_row s.tables.users c.args.user) c.self.view_is in
    no_charge t c.args.user c.requires (sym rows ∙ sym c.row.ensures ∙ ap option_copied c.in-None.is)
