use Rattle.nf_told.proofs.Orders as orders
use Rattle.nf_told.proofs.laws.keys_keep_order.Goals as goal

pub returns : goal.returns
returns c = orders.keys_keep_order
