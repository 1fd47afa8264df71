use Rattle.std.proofs.Common.{◌+◌, ◌*◌}
use Rattle.vectors_seats.proofs.turns.+count_by+fn-count_by-rest.Given as goal

abbrev pub decreases-count_by : goal.decreases-count_by
decreases-count_by g l = 2 * l.others + 1

abbrev pub decreases-rest : goal.decreases-rest
decreases-rest g l = 2 * l.fewer + 2
