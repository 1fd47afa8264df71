-- What is told of shares has no float, so its text is known.
use Rattle.std.proofs.Common.{◌≡◌, List, ℕ, [], ◌∷◌, Option, None, Some, refl, map}
use Rattle.std.specs.Prelude.{false, decimal, option_and_then, option_map}
use Rattle.serde_json.specs.Data.{Data}
use Rattle.serde_json.specs.View.{items_of}
use Rattle.serde_json.specs.Written.{has_float, items_have_float}
use Rattle.nf_words.specs.declared.sharing.ShareLine.{ShareLine}
use Rattle.nf_dates.specs.Dates.{end_date}
use Rattle.nf_ocs.specs.Told.{envelope, name_in, share_object, shares_array, text_or_null, token_in}

text_has_none : (text : Option (List ℕ)) → has_float (text_or_null text) ≡ false
text_has_none None = refl
text_has_none (Some text) = refl

share_has_none : (share : ShareLine) → has_float (share_object share) ≡ false
share_has_none share =
    rw (text_has_none (option_and_then end_date share.until), text_has_none (option_map decimal share.parent), text_has_none (name_in share.to), text_has_none (token_in share.to)) refl

shares_have_none : (shares : List ShareLine) → items_have_float (items_of (map share_object shares)) ≡ false
shares_have_none [] = refl
shares_have_none (share ∷ shares) = rw (share_has_none share) (shares_have_none shares)

in_envelope : (inner : Data) → has_float inner ≡ false → has_float (envelope inner) ≡ false
in_envelope inner none = rw none refl

pub share_has_no_float : (share : ShareLine) → has_float (envelope (share_object share)) ≡ false
share_has_no_float share = in_envelope (share_object share) (share_has_none share)

pub shares_have_no_float : (shares : List ShareLine) → has_float (envelope (shares_array shares)) ≡ false
shares_have_no_float shares = in_envelope (shares_array shares) (shares_have_none shares)
