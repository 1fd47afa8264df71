use Rattle.std.proofs.Common.{[], ◌∷◌}
use Rattle.nf_defs.specs.Keys.{member_key}
use Rattle.nf_defs.proofs.Puts.{dropped_rising}
use Rattle.nf_people.proofs.people.People.drop_member.Goals as goal

pub invariant_of-self : goal.invariant_of-self
invariant_of-self c = (
  c.self.invariant.0,
  rw c.drop_row.ensures.rows (dropped_rising member_key (c.args.group ∷ c.args.user ∷ []) c.self.inside.members.items c.self.invariant.1),
)
