use Rattle.std.proofs.Common.{ℕ, Bool, ◌&&◌, if◌then◌else◌, Some, None, is_some, ap, sym, ◌∙◌, ◌≡◌}
use Rattle.nf_words.specs.Prelude.{Call, is_wider, perms_after, State}
use Rattle.nf_words.specs.declared.answer.Breach.TheVariants as rule
use Rattle.nf_decide.proofs.deciding.Call.perms_fault.Goals as goal

pub returns-in-Some : goal.returns-in-Some
returns-in-Some c =
    let t = c.args.self.now.state.tables in
    let row = c.args.row.now in
    let state : c.self.inside.view ≡ c.args.self.now.state = ap (λ (call : Call). call.state) c.self.view_is in
    c.widened.ensures
    ∙ ap (λ (perms : ℕ). if is_wider t.shares row.parent perms then Some rule.Widened else None)
    (c.perms_after.ensures ∙ ap (λ (s : State). perms_after s.tables c.args.perms row) state)
    ∙ sym (ap (λ (b : Bool). if b && is_wider t.shares row.parent (perms_after t c.args.perms row) then Some rule.Widened else None)
    (ap is_some c.in-Some.is))
