-- The parameters that are sent: in a form (URL Standard, section 5.1) or in a JSON object (RFC 8259, section 4).
use Rattle.std.specs.Prelude.{ℕ, List, bytes_eq, Option, None, Some, option_and_then, is_some, if◌then◌else◌}
use Rattle.std.specs.List.{find}
use Rattle.std.specs.Option.{option_map_or}
use Rattle.std.specs.Str.{is_utf8}
use Rattle.std.specs.Str.Lossy.{utf8_lossy}
use Rattle.form_urlencoded.specs.Form.{decode, raw_pairs}
use Rattle.serde_json.specs.Data.{Data, Num, null, boolean, number, string, array, object}
use Rattle.serde_json.specs.Find.{as_object, get, is_float}
use Rattle.serde_json.specs.Read.{read}
use Rattle.serde_json.specs.View.{view}
use Rattle.serde_json.specs.Written.{compact_text}
use Rattle.nf_ocs.specs.declared.sent.Given.{Given}
use Rattle.nf_ocs.specs.declared.sent.Given.TheVariants.{Absent, Text, Other}
use Rattle.nf_ocs.specs.declared.sent.Body.{Body}
use Rattle.nf_ocs.specs.declared.sent.Body.TheVariants as body

-- where parameters stand
pub data Fields : Type 0 where
  form : List ℕ → Fields
  json : Data → Fields

-- ---- a form

-- the text of a name or a value: what is no UTF-8 becomes U+FFFD
abbrev pub text_of : List ℕ → List ℕ
text_of bytes = utf8_lossy (decode bytes)

-- the first pair of a name counts
abbrev pub in_pairs : List ℕ → List (List ℕ × List ℕ) → Given
in_pairs name pairs = option_map_or (λ pair. Text (text_of pair.1)) (find (λ pair. bytes_eq (text_of pair.0) name) pairs) Absent

abbrev pub in_form : List ℕ → List ℕ → Given
in_form name bytes = in_pairs name (raw_pairs bytes)

-- ---- a JSON object

-- the object that bytes are the text of
abbrev pub only_object : Data → Option Data
only_object value = if is_some (as_object value) then Some value else None

abbrev pub object_in : List ℕ → Option Data
object_in bytes = if is_utf8 bytes then option_and_then only_object (read bytes) else None

-- a whole number is as good as its text
abbrev pub given_number : Num → Given
given_number n = if is_float n then Other else Text (compact_text (number n))

abbrev pub given_by : Data → Given
given_by (string text) = Text text
given_by (number n) = given_number n
given_by null = Other
given_by (boolean b) = Other
given_by (array items) = Other
given_by (object inside) = Other

abbrev pub in_object : List ℕ → Data → Given
in_object name value = option_map_or given_by (get name value) Absent

-- ---- a body and a query

abbrev pub in_fields : List ℕ → Fields → Given
in_fields name (form bytes) = in_form name bytes
in_fields name (json value) = in_object name value

abbrev pub or_else : Given → Given → Given
or_else Absent more = more
or_else (Text text) more = Text text
or_else Other more = Other

-- what is given for a name: in the body, or where it isn't there in the query
abbrev pub given_in : Fields → List ℕ → List ℕ → Given
given_in fields query name = or_else (in_fields name fields) (in_form name query)

-- the fields of a body that was read
abbrev pub fields_of : Body → Fields
fields_of (body.Form bytes) = form bytes.now
fields_of (body.Json value) = json (view value)
