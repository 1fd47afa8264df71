use Rattle.std.proofs.Common.{rules, arith}
use Rattle.nf_turn.proofs.Staying.{may_set}
use Rattle.nf_turn.proofs.turns.set_bell.Goals as goal

pub swap-requires : goal.swap-requires
swap-requires g c = let key = c.args.counter.now.key in (search rules, search rules, may_set g.W.Book.book key.seats key.first.value _ _ _ _ _ (omega arith))
