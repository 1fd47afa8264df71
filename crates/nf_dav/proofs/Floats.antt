-- A listing has no float, nor has what is told of the trash or of versions, so their text is known.
use Rattle.std.proofs.Common.{◌≡◌, List, [], ◌∷◌, refl, ap, map}
use Rattle.std.specs.Prelude.{Bool, false, ◌||◌}
use Rattle.serde_json.specs.View.{items_of}
use Rattle.serde_json.specs.Written.{has_float, items_have_float}
use Rattle.nf_words.specs.declared.listing.ItemLine.{ItemLine}
use Rattle.nf_words.specs.declared.listing.ListingLine.{ListingLine}
use Rattle.nf_words.specs.declared.listing.VersionLine.{VersionLine}
use Rattle.nf_dav.specs.Reply.{item_object, line_object, listing_object, trash_object, version_object, versions_object}

lines_have_no_float : (lines : List ListingLine) → items_have_float (items_of (map line_object lines)) ≡ false
lines_have_no_float [] = refl
lines_have_no_float (line ∷ lines) = lines_have_no_float lines

pub listing_has_no_float : (lines : List ListingLine) → has_float (listing_object lines) ≡ false
listing_has_no_float lines = ap (λ (float : Bool). float || false) (lines_have_no_float lines)

items_have_none : (items : List ItemLine) → items_have_float (items_of (map item_object items)) ≡ false
items_have_none [] = refl
items_have_none (item ∷ items) = items_have_none items

pub trash_has_no_float : (items : List ItemLine) → has_float (trash_object items) ≡ false
trash_has_no_float items = ap (λ (float : Bool). float || false) (items_have_none items)

moments_have_none : (versions : List VersionLine) → items_have_float (items_of (map version_object versions)) ≡ false
moments_have_none [] = refl
moments_have_none (version ∷ versions) = moments_have_none versions

pub versions_have_no_float : (versions : List VersionLine) → has_float (versions_object versions) ≡ false
versions_have_no_float versions = ap (λ (float : Bool). float || false) (moments_have_none versions)
