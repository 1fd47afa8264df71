use Rattle.std.proofs.Common.{arith, rules}
use Rattle.nf_site.specs.Kept.{entry, moment_of}
use Rattle.nf_site.proofs.Steps.{held_step}
use Rattle.nf_site.proofs.site.Site.fail.Goals as goal

pub invariant_of-self : goal.invariant_of-self
invariant_of-self c =
    let site = c.args.self.now in
    let e = entry c.args.seat (moment_of site.kept.state c.args.now) c.args.event c.args.mark in
    held_step c.self.inside _ site e c.self.view_is c.self.invariant
    (omega arith) c.requires.asked c.requires.marked c.requires.room (search rules) c.push_reserved.ensures.capacity
