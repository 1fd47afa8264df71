-- A list in JSON has as many items as the vector of its values.
use Rattle.std.proofs.Common.{◌≡◌, List, [], ◌∷◌, length, suc, refl, ap}
use Rattle.serde_json.specs.View.{items_view}
use Rattle.serde_json.specs.declared.value.Value.{Value}
use Rattle.case_files.specs.Listed.{count_of}

pub count_of-items_view : (values : List Value) → count_of (items_view values) ≡ length values
count_of-items_view [] = refl
count_of-items_view (value ∷ values) = ap suc (count_of-items_view values)
