use Rattle.std.proofs.Common.{◌+◌, ◌-◌, ◌≤◌, arith}
use Rattle.nf_extents.proofs.Rooms.{apart_pushed, apart_to, moved_takes, pushed_takes}
use Rattle.nf_extents.proofs.gaps.Gaps.append.Goals as goal
use Rattle.nf_extents.proofs.gaps.Gaps.append.Goals.{then-self-extent+in_ok-push, else-self-extent}

pub invariant_of-self-2 : goal.invariant_of-self-2
invariant_of-self-2 c =
    let place = c.args.extent.now.place in
    let size = c.args.extent.now.size in
    let end = c.self.inside.end in
    let behind : c.self.inside.end ≤ c.args.extent.now.place = rw (← c.self.view_is) at c.requires.behind in
    elim c.if-self-extent.branch [
      | then-self-extent+in_ok-push w ↦ (
        rw (w.self-inside-is, w.in_ok-push.ensures.items)
            (apart_to 0 (end + (place - end)) (place + size) _ (omega arith) (apart_pushed 0 end end (place - end) c.self.inside.gaps.items c.self.invariant.0 (omega arith) (omega arith))),
        c.requires.fits,
      )
      | else-self-extent w ↦ (rw w.self-inside-is (apart_to 0 end (place + size) c.self.inside.gaps.items (omega arith) c.self.invariant.0), c.requires.fits)
    ]

pub returns-clause-taken : goal.returns-clause-taken
returns-clause-taken c =
    let place = c.args.extent.now.place in
    let size = c.args.extent.now.size in
    let end = c.self.inside.end in
    let behind : c.self.inside.end ≤ c.args.extent.now.place = rw (← c.self.view_is) at c.requires.behind in
    elim c.if-self-extent.branch [
      | then-self-extent+in_ok-push w ↦ rw (w.self-inside-is, ← c.self.view_is, w.in_ok-push.ensures.items)
          (pushed_takes c.self.inside.gaps.items end c.self.invariant.0 place size behind)
      | else-self-extent w ↦ rw (w.self-inside-is, ← c.self.view_is) (moved_takes c.self.inside.gaps.items end c.self.invariant.0 place size (omega arith))
    ]
