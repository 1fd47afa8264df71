use Rattle.std.proofs.Common.{◌≡◌, map, take}
use Rattle.serde_json.specs.View.{view}
use Rattle.nf_dav.specs.Reply.{version_object}
use Rattle.nf_dav.proofs.listings.version_values.Given as goal

abbrev pub invariant-loop-version : goal.invariant-loop-version
invariant-loop-version l = map view l.values.items ≡ map version_object (take l.version-index l.versions)
