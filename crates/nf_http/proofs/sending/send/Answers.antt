use Rattle.std.proofs.Common.{◌≡◌, ◌+◌, ◌-◌, ℕ, List, length, take, drop, arith, rules}
use Rattle.std.proofs.KnownBytes.{Appends-nil, Appends-trans}
use Rattle.std.proofs.Math.Seq.{take-add}
use Rattle.std.proofs.lemmas.Grind.{common_steps}
use Rattle.std.specs.Io.KnownBytes.{Appends}
use Rattle.std.specs.declared.option.Option.{Option}
use Rattle.nf_http.proofs.sending.send.Goals as goal

sends_more : (bytes : List ℕ) (at n : ℕ) (a b c : Option (List ℕ)) → Appends a b (take at bytes)
    → Appends b c (take n (take (length bytes - at) (drop at bytes))) → Appends a c (take (at + n) bytes)
sends_more bytes at n a b c p q =
    let rest : take (length bytes - at) (drop at bytes) ≡ drop at bytes = grind (arith, common_steps) in
    rw (take-add at n bytes) (Appends-trans a b c _ _ p (rw rest at q))

pub loop-at-init : goal.loop-at-init
loop-at-init g c = record {
  inside = search rules;
  sent = Appends-nil (g.O.Ends.written c.args.sink.now);
  same = search rules;
  other_bytes = search rules;
  other_faults = search rules;
  begun = search rules;
}

pub loop-at-preserved : goal.loop-at-preserved
loop-at-preserved g c =
    let h = c.in_ok-at.ensures in
    let l = c.loop-at in
    record {
      inside = omega arith;
      sent = sends_more c.args.bytes.now l.at c.in_ok-at.field-0 _ _ _ l.invariant.sent h.bytes;
      same = search rules;
      other_bytes = search rules;
      other_faults = search rules;
      begun = search rules;
    }
