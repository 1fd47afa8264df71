use Rattle.std.proofs.Common.{◌≡◌, []}
use Rattle.nf_turn.specs.Views.{memory_in}
use Rattle.nf_turn.specs.declared.view.View.TheVariants.{Waiting}
use Rattle.nf_turn.proofs.turns.wait_for_turn.Given as goal

abbrev pub invariant-loop : goal.invariant-loop
invariant-loop g l = record {
  table : l.place.table_id ≡ l.fn.place.table_id;
  id : l.place.id ≡ l.fn.place.id;
  waits : l.place.me ≡ (Waiting l.mine (memory_in l.counter.key.first.value l.fn.place.me), []);
}
