use Rattle.std.proofs.Common.{◌≡◌, ◌^◌, ◌-◌, get_or, refl, arith}
use Rattle.nf_extents.specs.declared.gaps.Extent.{Extent}
use Rattle.nf_extents.proofs.Rooms.{apart_one, apart_with_none, apart_with_one, end_more, end_skips, rest_more, rest_skips}
use Rattle.nf_extents.proofs.gaps.Gaps.around.Goals as goal
use Rattle.nf_extents.proofs.gaps.Gaps.around.Goals.{then-extent-gt0+else-not-ends_before+in_ok-append, else-extent-gt0}

-- what is read past the end of a list
abbrev nowhere : Extent
nowhere = record { place = 0; size = 0 }

pub returns-then-not-ends_before-clause-apart : goal.returns-then-not-ends_before-clause-apart
returns-then-not-ends_before-clause-apart c =
    let l = c.loop-extent in (
      λ never. cc,
      λ apart.
          let one = apart_one c.args.used.now l.extent-index nowhere c.loop-extent-test.true l.gaps.end (2 ^ 62) c.if-extent-gt0.true (l.invariant.apart.0 apart) in
          c.if-not-ends_before.ensures.1 (one.0, one.1),
    )

pub loop-extent-preserved : goal.loop-extent-preserved
loop-extent-preserved c =
    let l = c.loop-extent in
    let used = c.args.used.now in
    let at = l.extent-index in
    let there = c.loop-extent-test.true in
    elim c.if-extent-gt0.branch [
      | then-extent-gt0+else-not-ends_before+in_ok-append w ↦
          let some = w.if-extent-gt0.true in
          let fits = w.if-not-ends_before.ensures.0 refl in
          let ends = w.in_ok-append.ensures.end in
          rw w.gaps-is (record {
            apart = rw ends (
              λ apart. (apart_one used at nowhere there l.gaps.end (2 ^ 62) some (l.invariant.apart.0 apart)).2,
              λ apart. l.invariant.apart.1 (apart_with_one used at nowhere there l.gaps.end (2 ^ 62) some fits.0 apart),
            );
            rest = rest_more used at nowhere there l.gaps w.append.new.self l.invariant.rest w.in_ok-append.ensures.taken;
            end = rw ends (λ some_end. end_more used at nowhere there some);
            fits = rw ends fits.1;
          })
      | else-extent-gt0 w ↦
          let none : (get_or used at nowhere).size ≡ 0 = omega (arith, w.if-extent-gt0.false) in
          let same = apart_with_none used at nowhere there l.gaps.end (2 ^ 62) none in
          rw w.gaps-is (record {
            apart = (λ apart. same.0 (l.invariant.apart.0 apart), λ apart. l.invariant.apart.1 (same.1 apart));
            rest = rest_skips used at nowhere there l.gaps none l.invariant.rest;
            end = λ some. end_skips used at nowhere there (l.gaps.end - 1) (l.invariant.end some);
            fits = l.invariant.fits;
          })
    ]
