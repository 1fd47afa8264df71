use Rattle.std.proofs.Common.{◌==◌, List, if◌then◌else◌, ap, sym, ◌∙◌}
use Rattle.nf_charge.specs.Totals.{HeldTotals, total_of}
use Rattle.nf_charge.specs.declared.totals.Total.{Total}
use Rattle.nf_charge.proofs.Totaling.{total_put}
use Rattle.nf_charge.proofs.totals.Totals.put.Goals as goal

pub returns-then-is_some : goal.returns-then-is_some
returns-then-is_some c known = (
  sym (ap (λ (held : HeldTotals). held.known) c.self.view_is) ∙ known,
  λ user.
      ap (λ (totals : List Total). total_of totals user) c.put.ensures.rows
      ∙ total_put c.args.total c.self.inside.totals.rows user
      ∙ ap (λ (held : HeldTotals). if c.args.total.owner == user then c.args.total.bytes else total_of held.totals user) c.self.view_is,
)
