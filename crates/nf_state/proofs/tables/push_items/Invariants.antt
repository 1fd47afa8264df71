use Rattle.std.proofs.Common.{◌≡◌, ◌++◌, map, take}
use Rattle.nf_base.specs.declared.rows.Row.TheVariants.{Item}
use Rattle.nf_state.proofs.tables.push_items.Given as goal

-- those of the items so far
abbrev pub invariant-loop-item : goal.invariant-loop-item
invariant-loop-item l = l.list ≡ l.initial.list ++ map Item (take l.item-index l.items)
