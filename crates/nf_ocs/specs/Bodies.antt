-- The head and the body of an OCS request.
use Rattle.std.specs.Prelude.{◌≡◌, ⊤, ℕ, Bool, false, ◌||◌, ◌==◌, nat_lt, List, [], length, codes, Option, Result, Ok, Err, if◌then◌else◌}
use Rattle.std.specs.List.{before_first}
use Rattle.std.specs.Option.{option_map_or}
use Rattle.httparse.specs.Grammar.{trim_ows}
use Rattle.nf_base.specs.declared.limits.TheConstants.{MAX_OCS_BODY}
use Rattle.nf_base.specs.Naming.{same_ignoring_case}
use Rattle.nf_http.specs.Fields.{first_value}
use Rattle.nf_http.specs.Head.{Head, length_of}
use Rattle.nf_words.specs.declared.answer.Denial.{Denial}
use Rattle.nf_words.specs.declared.answer.Denial.TheVariants as denial
use Rattle.serde_json.specs.Data.{Data}
use Rattle.nf_ocs.specs.Sent.{Fields, fields_of, form, json, object_in}
use Rattle.nf_ocs.specs.declared.Unread.{Unread}
use Rattle.nf_ocs.specs.declared.Unread.TheVariants.{Refused, Memory}
use Rattle.nf_ocs.specs.declared.sent.Body.{Body}

-- the message says that it is an OCS request (Nextcloud developer manual, OCS Share API)
abbrev pub says_ocs : Head → Bool
says_ocs head =
    option_map_or (λ value. same_ignoring_case value (codes "true")) (first_value (codes "OCS-APIRequest") head.fields) false

abbrev pub is_semicolon : ℕ → Bool
is_semicolon b = b == 59

-- the media type of the body, without its parameters; no bytes where none is given (RFC 9110, section 8.3)
abbrev pub media_type : Head → List ℕ
media_type head =
    option_map_or (λ value. trim_ows (before_first is_semicolon value)) (first_value (codes "Content-Type") head.fields) []

-- a body without a type is a form, and so is one without a byte, whatever its type
abbrev pub is_form : List ℕ → List ℕ → Bool
is_form kind bytes = length bytes == 0 || length kind == 0 || same_ignoring_case kind (codes "application/x-www-form-urlencoded")

abbrev pub is_json : List ℕ → Bool
is_json kind = same_ignoring_case kind (codes "application/json")

abbrev pub object_or_refusal : Option Data → Result Fields Denial
object_or_refusal object = option_map_or (λ value. Ok (json value)) object (Err denial.Body)

-- `body`: it is too long, of another type, or no JSON object
abbrev pub body_of : Head → List ℕ → Result Fields Denial
body_of head bytes =
    if nat_lt MAX_OCS_BODY (length_of head) then Err denial.Body
    else if is_form (media_type head) bytes then Ok (form bytes)
    else if is_json (media_type head) then object_or_refusal (object_in bytes)
    else Err denial.Body

-- a body that was read has these fields, or is refused so; want of memory is free
abbrev pub GivesBody : Result Fields Denial → Result Body Unread → Type 0
GivesBody due (Ok body) = due ≡ Ok (fields_of body)
GivesBody due (Err (Refused refusal)) = due ≡ Err refusal
GivesBody due (Err Memory) = ⊤
