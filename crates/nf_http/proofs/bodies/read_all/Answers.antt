use Rattle.std.proofs.Common.{arith, rules, ◌≡◌, ◌≤◌, ◌-◌, ◌++◌, [], sym, subst, refl, length, take}
use Rattle.std.specs.Io.KnownBytes.{Consumes}
use Rattle.std.proofs.lemmas.Grind.{common_steps}
use Rattle.nf_http.proofs.Rooms.{held-grown}
use Rattle.std.proofs.KnownBytes.{Consumes-trans, Consumes-kept}
use Rattle.nf_http.proofs.bodies.read_all.Goals as goal

pub loop-at-preserved : goal.loop-at-preserved
loop-at-preserved g c =
    let l = c.loop-at in
    let n = c.in-Ok.count in
    let h = c.in-Ok.ensures in
    let room : n ≤ length c.read.new.room = omega (arith, h) in
    let grown = held-grown l.room c.read.new.room 0 l.at (length l.room - l.at) n (omega arith) (omega arith) room in
    record {
      inside = omega (arith, h);
      taken = subst (Consumes (g.S.Ends.left c.args.source.now) (g.S.Ends.left c.read.new.self)) (sym grown) (Consumes-trans _ _ _ _ _ l.invariant.taken h.bytes.0);
      same = search rules;
      other_bytes = search rules;
      other_faults = search rules;
    }

pub returns-in-Ok-eq0-clause-err : goal.returns-in-Ok-eq0-clause-err
returns-in-Ok-eq0-clause-err g c =
    let l = c.loop-at in
    let h = c.in-Ok-eq0.ensures in
    let none : take c.in-Ok-eq0.field-0 c.read.new.room ≡ [] = rw c.in-Ok-eq0.field-0-test refl in
    let end = h.bytes.1 c.in-Ok-eq0.field-0-test (omega arith) in
    ((take l.at l.room ++ [], grind (arith, common_steps), Consumes-trans _ _ _ _ _ l.invariant.taken (subst (Consumes _ _) none h.bytes.0)), end)

pub returns-in-Err-clause-err : goal.returns-in-Err-clause-err
returns-in-Err-clause-err g c =
    let l = c.loop-at in
    (take l.at l.room, grind (arith, common_steps), Consumes-kept _ _ _ _ l.invariant.taken c.in-Err.ensures.bytes)
