use Rattle.std.proofs.Common.{◌≡◌, map, take}
use Rattle.serde_json.specs.View.{view}
use Rattle.nf_dav.specs.Reply.{item_object}
use Rattle.nf_dav.proofs.listings.item_values.Given as goal

abbrev pub invariant-loop-item : goal.invariant-loop-item
invariant-loop-item l = map view l.values.items ≡ map item_object (take l.item-index l.items)
