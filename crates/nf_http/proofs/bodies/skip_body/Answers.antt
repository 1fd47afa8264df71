use Rattle.std.proofs.Common.{arith, rules, ◌++◌, [], take}
use Rattle.std.proofs.KnownBytes.{Consumes-trans}
use Rattle.nf_http.proofs.Portions.{Consumes_held, Consumes_filled, portion_counts, portion_empties}
use Rattle.nf_http.proofs.bodies.skip_body.Goals as goal

pub loop-rest-init : goal.loop-rest-init
loop-rest-init g c =
    let held = c.args.buffer.now in
    let n = c.skip_held.result in
    let h = c.skip_held.ensures in
    record {
      empty = portion_empties held _ c.args.length n h.count h.held;
      taken = (
        take n held,
        portion_counts [] held c.args.length c.args.length n (omega arith) h.count,
        rw h.held (Consumes_held held n (g.S.Ends.left c.args.source.now)),
      );
      same = search rules;
      other_bytes = search rules;
      other_faults = search rules;
    }

pub loop-rest-preserved : goal.loop-rest-preserved
loop-rest-preserved g c =
    let l = c.loop-rest in
    let before = l.invariant.taken in
    let f = c.in-Ok.ensures.ok in
    let held = c.fill.new.self in
    let n = c.skip_held-rest.result in
    let h = c.skip_held-rest.ensures in
    let filled = Consumes_filled _ before.0 l.buffer held f.0 _ _ before.2 f.2 f.4 in
    record {
      empty = portion_empties held _ l.rest n h.count h.held;
      taken = (
        before.0 ++ take n held,
        portion_counts before.0 held l.rest c.args.length n before.1 h.count,
        rw h.held (Consumes-trans _ _ _ _ _ filled (Consumes_held held n (g.S.Ends.left c.fill.new.source))),
      );
      same = search rules;
      other_bytes = search rules;
      other_faults = search rules;
    }
