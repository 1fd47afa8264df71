use Rattle.std.proofs.Common.{◌≡◌, map, take}
use Rattle.serde_json.specs.View.{view}
use Rattle.nf_ocs.specs.Told.{share_object}
use Rattle.nf_ocs.proofs.told.share_values.Given as goal

abbrev pub invariant-loop-share : goal.invariant-loop-share
invariant-loop-share l = map view l.values.items ≡ map share_object (take l.share-index l.shares)
