use Rattle.std.proofs.Common.{true}
use Rattle.nf_charge.proofs.Totaling.{totals_none}
use Rattle.nf_charge.proofs.totals.Totals.new.Goals as goal

pub returns : goal.returns
returns c = totals_none (record { totals = c.new.result.rows; known = true }) c.new.ensures
