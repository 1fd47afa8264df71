-- Rows of nodes that rise by their numbers rise by their keys.
use Rattle.std.proofs.Common.{◌<◌, List, get_or}
use Rattle.std.specs.List.{AllPairs}
use Rattle.std.specs.declared.cmp.Ordering.TheVariants.{Less}
use Rattle.nf_base.specs.declared.rows.NodeRow.{NodeRow}
use Rattle.nf_defs.proofs.Puts.{compared}
use Rattle.nf_defs.specs.Prelude.{IsRising, node_key}

pub nodes_rise : (some : List NodeRow) → AllPairs (λ (a b : NodeRow). a.id < b.id) some → IsRising node_key some
nodes_rise some rising i j d before within = compared (get_or some i d).id (get_or some j d).id Less (rising i j d before within)
