use Rattle.std.proofs.Common.{ℕ, [], ◌∷◌}
use Rattle.nf_defs.specs.Prelude.{item_key}
use Rattle.nf_table.proofs.Dropped.{dropped_in_turn}
use Rattle.nf_trash.proofs.Kept.{left_out}
use Rattle.nf_trash.proofs.trash.Trash.drop_all.Goals as goal

pub invariant_of-self : goal.invariant_of-self
invariant_of-self c =
    let nodes = c.args.nodes.now in
    let rows = c.self.inside.items.rows in
    rw (c.drop_all.ensures.rows, dropped_in_turn item_key (λ (node : ℕ). node ∷ []) nodes rows, c.leave_out.ensures.items)
    (left_out nodes rows c.self.inside.aged.items c.self.invariant)
