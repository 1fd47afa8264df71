use Rattle.std.proofs.Common.{◌+◌, ◌*◌, length}
use Rattle.nf_server.proofs.workers.+workers.Given as goal

abbrev pub decreases-all : goal.decreases-all
decreases-all g l = 3 * length l.workers.now

abbrev pub decreases-beside : goal.decreases-beside
decreases-beside g l = 3 * length l.rest.now + 2

abbrev pub decreases-beside-others : goal.decreases-beside-others
decreases-beside-others g l = 3 * length l.rest.now + 1
