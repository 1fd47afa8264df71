-- JSON objects of texts and numbers.
use Rattle.std.specs.Prelude.{ℕ, List}
use Rattle.std.specs.List.{fold}
use Rattle.std.specs.Borrow.{Bor}
use Rattle.serde_json.specs.Data.{Data, null, number, string, object, Members, no_members, put, unsigned}
use Rattle.nf_json.specs.declared.objects.Said.{Said}
use Rattle.nf_json.specs.declared.objects.Said.TheVariants as said

-- what a member says
abbrev pub data_of : Said → Data
data_of (said.Text text) = string text.now
data_of (said.Number n) = number (unsigned n)
data_of said.Null = null

-- with one more member
abbrev pub with_member : Members → Bor (List ℕ) × Said → Members
with_member members m = put m.0.now (data_of m.1) members

abbrev pub object_of : List (Bor (List ℕ) × Said) → Data
object_of members = object (fold with_member no_members members)
