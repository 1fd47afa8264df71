use Rattle.filesd.proofs.Beginning.{demo_first}
use Rattle.cases.proofs.events.serve_cast.Goals as goal

pub start-requires-clause-first : goal.start-requires-clause-first
start-requires-clause-first g c = demo_first c.in_ok-first.first.rows c.in_ok-first.ensures.rows
