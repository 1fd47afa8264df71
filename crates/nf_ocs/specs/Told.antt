-- The JSON of what is told of shares (Nextcloud developer manual, OCS Share API; RFC 8259).
use Rattle.std.specs.Prelude.{ℕ, List, map, codes, decimal, Option, None, Some, option_map, option_and_then}
use Rattle.std.specs.Option.{option_map_or}
use Rattle.serde_json.specs.Data.{Data, null, number, string, array, object, member, no_members, no_items, unsigned}
use Rattle.serde_json.specs.View.{items_of}
use Rattle.serde_json.specs.Written.{compact_text}
use Rattle.nf_dates.specs.Dates.{end_date}
use Rattle.nf_words.specs.declared.sharing.Recipient.{Recipient}
use Rattle.nf_words.specs.declared.sharing.Recipient.TheVariants.{User, Group, Link}
use Rattle.nf_words.specs.declared.sharing.ShareLine.{ShareLine}

-- whom a share is for: the number of the kind, the name, and the token
abbrev pub type_number : Recipient → ℕ
type_number (User name) = 0
type_number (Group name) = 1
type_number (Link token) = 3

abbrev pub name_in : Recipient → Option (List ℕ)
name_in (User name) = Some name
name_in (Group name) = Some name
name_in (Link token) = None

abbrev pub token_in : Recipient → Option (List ℕ)
token_in (User name) = None
token_in (Group name) = None
token_in (Link token) = Some token

abbrev pub text_or_null : Option (List ℕ) → Data
text_or_null text = option_map_or string text null

-- the object of a share, by rising key
abbrev pub share_object : ShareLine → Data
share_object share =
    object
    (member (codes "expiration") (text_or_null (option_and_then end_date share.until))
    (member (codes "file_source") (number (unsigned share.node))
    (member (codes "id") (string (decimal share.id))
    (member (codes "parent") (text_or_null (option_map decimal share.parent))
    (member (codes "permissions") (number (unsigned share.permissions))
    (member (codes "share_type") (number (unsigned (type_number share.to)))
    (member (codes "share_with") (text_or_null (name_in share.to))
    (member (codes "token") (text_or_null (token_in share.to))
    (member (codes "uid_file_owner") (string share.owner)
    (member (codes "uid_owner") (string share.initiator) no_members))))))))))

abbrev pub shares_array : List ShareLine → Data
shares_array shares = array (items_of (map share_object shares))

-- the envelope of an answer to an OCS request that isn't refused
abbrev pub meta_object : Data
meta_object =
    object
    (member (codes "message") (string (codes "OK"))
    (member (codes "status") (string (codes "ok")) (member (codes "statuscode") (number (unsigned 200)) no_members)))

abbrev pub envelope : Data → Data
envelope inner =
    object (member (codes "ocs") (object (member (codes "data") inner (member (codes "meta") meta_object no_members))) no_members)

-- what is told: a share, some shares, or nothing more
abbrev pub share_body : ShareLine → List ℕ
share_body share = compact_text (envelope (share_object share))

abbrev pub shares_body : List ShareLine → List ℕ
shares_body shares = compact_text (envelope (shares_array shares))

abbrev pub plain_body : List ℕ
plain_body = compact_text (envelope (array no_items))
