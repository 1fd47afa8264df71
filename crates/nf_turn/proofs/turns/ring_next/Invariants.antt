use Rattle.std.proofs.Common.{◌≡◌}
use Rattle.nf_turn.proofs.turns.ring_next.Given as goal

abbrev pub invariant-loop-ahead : goal.invariant-loop-ahead
invariant-loop-ahead g l = (l.place.table_id ≡ l.fn.place.table_id) × (l.place.id ≡ l.fn.place.id) × (l.place.me ≡ l.fn.place.me)
