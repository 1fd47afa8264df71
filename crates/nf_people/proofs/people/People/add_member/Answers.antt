use Rattle.nf_defs.specs.Keys.{member_key}
use Rattle.nf_defs.proofs.Puts.{put_rising}
use Rattle.nf_people.proofs.people.People.add_member.Goals as goal

pub invariant_of-self-2 : goal.invariant_of-self-2
invariant_of-self-2 c =
    (c.self.invariant.0, rw c.in_ok-put.ensures.ok (put_rising member_key c.args.row c.self.inside.members.items c.self.invariant.1))
