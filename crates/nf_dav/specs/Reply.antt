-- The bytes of answers (RFC 9110, section 15; RFC 9112, sections 4 to 6).
use Rattle.std.specs.Prelude.{ℕ, Bool, true, false, List, [], ◌++◌, map, if◌then◌else◌, length, codes, decimal}
use Rattle.serde_json.specs.Data.{Data, number, string, array, object, member, no_members, unsigned}
use Rattle.serde_json.specs.View.{items_of}
use Rattle.serde_json.specs.Written.{compact_text}
use Rattle.nf_access.specs.declared.Cause.{Cause}
use Rattle.nf_access.specs.declared.Cause.TheVariants as cause
use Rattle.nf_base.specs.declared.name.NameFault.{NameFault}
use Rattle.nf_base.specs.declared.name.NameFault.TheVariants as fault
use Rattle.nf_base.specs.declared.rows.NodeKind.{NodeKind}
use Rattle.nf_base.specs.declared.rows.NodeKind.TheVariants as kind
use Rattle.nf_words.specs.Limits.{count_of}
use Rattle.nf_words.specs.declared.answer.Denial.{Denial}
use Rattle.nf_words.specs.declared.answer.Denial.TheVariants as denial
use Rattle.nf_routes.specs.Methods.{allow_of}
use Rattle.nf_words.specs.declared.answer.Limit.{Limit}
use Rattle.nf_words.specs.declared.answer.Limit.TheVariants as limit
use Rattle.nf_words.specs.declared.answer.Excess.{Excess}
use Rattle.nf_words.specs.declared.answer.LockKey.{LockKey}
use Rattle.nf_words.specs.declared.answer.LockKey.TheVariants.{Node, Slot}
use Rattle.nf_words.specs.declared.answer.Parameter.{Parameter}
use Rattle.nf_words.specs.declared.answer.Parameter.TheVariants as parameter
use Rattle.nf_words.specs.declared.answer.Breach.{Breach}
use Rattle.nf_words.specs.declared.answer.Breach.TheVariants as rule
use Rattle.nf_words.specs.declared.answer.TargetFault.{TargetFault}
use Rattle.nf_words.specs.declared.answer.TargetFault.TheVariants as target
use Rattle.nf_words.specs.declared.answer.UploadFault.{UploadFault}
use Rattle.nf_words.specs.declared.answer.UploadFault.TheVariants as misfit
use Rattle.nf_words.specs.declared.route.Route.{Route}
use Rattle.nf_dav.specs.declared.replies.Manner.{Manner}
use Rattle.nf_words.specs.declared.listing.ItemLine.{ItemLine}
use Rattle.nf_words.specs.declared.listing.ListingLine.{ListingLine}
use Rattle.nf_words.specs.declared.listing.VersionLine.{VersionLine}
use Rattle.nf_words.specs.declared.sharing.ShareLine.{ShareLine}
use Rattle.nf_ocs.specs.Told.{plain_body, share_body, shares_body}

-- the status of a denial and its phrase
abbrev pub status_of : Denial → List ℕ
status_of denial.BadMessage = codes "400 Bad Request"
status_of (denial.BadName fault) = codes "400 Bad Request"
status_of (denial.BadParameter field) = codes "400 Bad Request"
status_of (denial.Upload fault) = codes "400 Bad Request"
status_of denial.Token = codes "401 Unauthorized"
status_of denial.NotYou = codes "403 Forbidden"
status_of denial.ForbiddenName = codes "403 Forbidden"
status_of (denial.BrokenLink share cause) = codes "403 Forbidden"
status_of denial.NoShare = codes "403 Forbidden"
status_of (denial.BadTarget cause) = codes "403 Forbidden"
status_of (denial.Rule rule) = codes "403 Forbidden"
status_of denial.NotFound = codes "404 Not Found"
status_of (denial.Method route) = codes "405 Method Not Allowed"
status_of (denial.Exists route) = codes "405 Method Not Allowed"
status_of denial.Kind = codes "409 Conflict"
status_of denial.NoParent = codes "409 Conflict"
status_of denial.Overwrite = codes "412 Precondition Failed"
status_of denial.OcsHeader = codes "412 Precondition Failed"
status_of denial.TooLarge = codes "413 Payload Too Large"
status_of denial.Body = codes "415 Unsupported Media Type"
status_of (denial.Locked key) = codes "423 Locked"
status_of denial.Head = codes "431 Request Header Fields Too Large"
status_of denial.Store = codes "500 Internal Server Error"
status_of (denial.Damaged damage) = codes "500 Internal Server Error"
status_of denial.RunFull = codes "500 Internal Server Error"
status_of denial.Coding = codes "501 Not Implemented"
status_of denial.Memory = codes "503 Service Unavailable"
status_of (denial.Limit limit) = codes "507 Insufficient Storage"
status_of (denial.Quota excess) = codes "507 Insufficient Storage"

-- its reason
abbrev pub reason_of : Denial → List ℕ
reason_of denial.BadMessage = codes "bad-message"
reason_of (denial.BadName fault) = codes "bad-name"
reason_of (denial.BadParameter field) = codes "bad-parameter"
reason_of (denial.Upload fault) = codes "upload"
reason_of denial.Token = codes "token"
reason_of denial.NotYou = codes "not-you"
reason_of denial.ForbiddenName = codes "forbidden-name"
reason_of (denial.BrokenLink share cause) = codes "broken-link"
reason_of denial.NoShare = codes "no-share"
reason_of (denial.BadTarget cause) = codes "bad-target"
reason_of (denial.Rule rule) = codes "rule"
reason_of denial.NotFound = codes "not-found"
reason_of (denial.Method route) = codes "method"
reason_of (denial.Exists route) = codes "exists"
reason_of denial.Kind = codes "kind"
reason_of denial.NoParent = codes "no-parent"
reason_of denial.Overwrite = codes "overwrite"
reason_of denial.OcsHeader = codes "ocs-header"
reason_of denial.TooLarge = codes "too-large"
reason_of denial.Body = codes "body"
reason_of (denial.Locked key) = codes "locked"
reason_of denial.Head = codes "head"
reason_of denial.Store = codes "store"
reason_of (denial.Damaged damage) = codes "damaged"
reason_of denial.RunFull = codes "run-full"
reason_of denial.Coding = codes "coding"
reason_of denial.Memory = codes "memory"
reason_of (denial.Limit limit) = codes "limit"
reason_of (denial.Quota excess) = codes "quota"

-- the word of a bad name's fault
abbrev pub fault_word : NameFault → List ℕ
fault_word fault.Empty = codes "empty"
fault_word fault.Long = codes "long"
fault_word fault.NotUtf8 = codes "not-utf8"
fault_word fault.Slash = codes "slash"
fault_word fault.Zero = codes "zero"
fault_word fault.Dots = codes "dots"
fault_word fault.Deep = codes "deep"
fault_word fault.Memory = codes "memory"

-- the word of what makes a target unfit
abbrev pub cause_word : TargetFault → List ℕ
cause_word target.Root = codes "root"
cause_word target.Same = codes "same"
cause_word target.Inside = codes "inside"
cause_word target.Mount = codes "mount"

-- the word of why a share is broken
abbrev pub link_word : Cause → List ℕ
link_word cause.Ended = codes "ended"
link_word cause.Expired = codes "expired"
link_word cause.NoReshare = codes "no-reshare"
link_word cause.NotMember = codes "not-member"
link_word cause.MovedOut = codes "moved-out"
link_word cause.Narrowed = codes "narrowed"

-- the word of a limit
abbrev pub limit_word : Limit → List ℕ
limit_word limit.Users = codes "users"
limit_word limit.Groups = codes "groups"
limit_word limit.Tokens = codes "tokens"
limit_word limit.Members = codes "members"
limit_word limit.Nodes = codes "nodes"
limit_word limit.Depth = codes "depth"
limit_word limit.Shares = codes "shares"
limit_word limit.Mounts = codes "mounts"
limit_word limit.Versions = codes "versions"
limit_word limit.Pieces = codes "pieces"
limit_word limit.Uploads = codes "uploads"
limit_word limit.Pending = codes "pending"

-- the word of a field
abbrev pub field_word : Parameter → List ℕ
field_word parameter.Destination = codes "destination"
field_word parameter.Overwrite = codes "overwrite"
field_word parameter.Depth = codes "depth"
field_word parameter.Total = codes "total"
field_word parameter.Id = codes "id"
field_word parameter.At = codes "at"
field_word parameter.Path = codes "path"
field_word parameter.ShareType = codes "shareType"
field_word parameter.ShareWith = codes "shareWith"
field_word parameter.Permissions = codes "permissions"
field_word parameter.ExpireDate = codes "expireDate"
field_word parameter.Password = codes "password"
field_word parameter.UserId = codes "userid"
field_word parameter.Token = codes "token"
field_word parameter.Quota = codes "quota"
field_word parameter.GroupId = codes "groupid"
field_word parameter.Key = codes "key"
field_word parameter.Value = codes "value"

-- the word of a rule of sharing, or of new names and tokens
abbrev pub rule_word : Breach → List ℕ
rule_word rule.Root = codes "root"
rule_word rule.SelfShare = codes "self"
rule_word rule.Past = codes "past"
rule_word rule.Already = codes "already"
rule_word rule.Widened = codes "widened"
rule_word rule.Chain = codes "chain"
rule_word rule.TokenTaken = codes "token-taken"
rule_word rule.Taken = codes "taken"

-- the line of a route's methods (RFC 9110, section 10.2.1)
abbrev pub allow_line : Route → List ℕ
allow_line route = codes "Allow: " ++ allow_of route ++ codes "\r\n"

-- the line that only some denials have: what the route takes, and how to be known (section 11.6.1)
abbrev pub own_line : Denial → List ℕ
own_line (denial.Exists route) = allow_line route
own_line (denial.Method route) = allow_line route
own_line denial.Token = codes "WWW-Authenticate: Bearer\r\n"
own_line other = []

-- the line that ends the session
abbrev pub close_line : Bool → List ℕ
close_line close = if close then codes "Connection: close\r\n" else []

-- the head of an answer with a body of n bytes
abbrev pub head_bytes : List ℕ → Bool → List ℕ → List ℕ → ℕ → List ℕ
head_bytes status close own kind n =
    codes "HTTP/1.1 " ++ status ++ codes "\r\n" ++ close_line close ++ own
    ++ codes "Content-Type: " ++ kind ++ codes "\r\nContent-Length: " ++ decimal n ++ codes "\r\n\r\n"

-- the objects of refusals, by rising key
abbrev pub name_object : List ℕ → Data
name_object fault = object (member (codes "fault") (string fault) (member (codes "reason") (string (codes "bad-name")) no_members))

abbrev pub field_object : List ℕ → Data
field_object field = object (member (codes "field") (string field) (member (codes "reason") (string (codes "bad-parameter")) no_members))

-- what doesn't fit an upload: what it is, and of a total that which was told and that of the chunks
abbrev pub misfit_object : List ℕ → Data
misfit_object fault = object (member (codes "fault") (string fault) (member (codes "reason") (string (codes "upload")) no_members))

abbrev pub total_object : ℕ → ℕ → Data
total_object declared sum =
    object
    (member (codes "declared") (number (unsigned declared))
    (member (codes "fault") (string (codes "total"))
    (member (codes "reason") (string (codes "upload")) (member (codes "sum") (number (unsigned sum)) no_members))))

abbrev pub upload_object : UploadFault → Data
upload_object misfit.Number = misfit_object (codes "number")
upload_object misfit.Destination = misfit_object (codes "destination")
upload_object (misfit.Total declared sum) = total_object declared sum

abbrev pub target_object : List ℕ → Data
target_object cause = object (member (codes "cause") (string cause) (member (codes "reason") (string (codes "bad-target")) no_members))

abbrev pub rule_object : List ℕ → Data
rule_object rule = object (member (codes "reason") (string (codes "rule")) (member (codes "rule") (string rule) no_members))

abbrev pub link_object : ℕ → List ℕ → Data
link_object share cause =
    object
    (member (codes "cause") (string cause)
    (member (codes "reason") (string (codes "broken-link")) (member (codes "share") (number (unsigned share)) no_members)))

abbrev pub damage_object : ℕ → Data
damage_object blob = object (member (codes "blob") (number (unsigned blob)) (member (codes "reason") (string (codes "damaged")) no_members))

abbrev pub limit_object : ℕ → List ℕ → Data
limit_object count which =
    object
    (member (codes "count") (number (unsigned count))
    (member (codes "reason") (string (codes "limit")) (member (codes "which") (string which) no_members)))

abbrev pub quota_object : Excess → Data
quota_object excess =
    object
    (member (codes "charge") (number (unsigned excess.charge))
    (member (codes "quota") (number (unsigned excess.quota))
    (member (codes "reason") (string (codes "quota")) (member (codes "size") (number (unsigned excess.size)) no_members))))

abbrev pub locked_object : LockKey → Data
locked_object (Node node) = object (member (codes "node") (number (unsigned node)) (member (codes "reason") (string (codes "locked")) no_members))
locked_object (Slot folder name) =
    object
    (member (codes "folder") (number (unsigned folder))
    (member (codes "name") (string name) (member (codes "reason") (string (codes "locked")) no_members)))

abbrev pub reason_object : List ℕ → Data
reason_object reason = object (member (codes "reason") (string reason) no_members)

-- the object of a denial: its reason and what only some denials say, by rising key
abbrev pub refusal_object : Denial → Data
refusal_object (denial.BadName f) = name_object (fault_word f)
refusal_object (denial.BadParameter field) = field_object (field_word field)
refusal_object (denial.Upload fault) = upload_object fault
refusal_object (denial.BadTarget cause) = target_object (cause_word cause)
refusal_object (denial.BrokenLink share cause) = link_object share (link_word cause)
refusal_object (denial.Rule rule) = rule_object (rule_word rule)
refusal_object (denial.Damaged damage) = damage_object damage.blob
refusal_object (denial.Locked key) = locked_object key
refusal_object (denial.Limit l) = limit_object (count_of l) (limit_word l)
refusal_object (denial.Quota excess) = quota_object excess
refusal_object other = reason_object (reason_of other)

-- the number of its status
abbrev pub code_of : Denial → ℕ
code_of denial.BadMessage = 400
code_of (denial.BadName fault) = 400
code_of (denial.BadParameter field) = 400
code_of (denial.Upload fault) = 400
code_of denial.Token = 401
code_of denial.NotYou = 403
code_of denial.ForbiddenName = 403
code_of (denial.BrokenLink share cause) = 403
code_of denial.NoShare = 403
code_of (denial.BadTarget cause) = 403
code_of (denial.Rule rule) = 403
code_of denial.NotFound = 404
code_of (denial.Method route) = 405
code_of (denial.Exists route) = 405
code_of denial.Kind = 409
code_of denial.NoParent = 409
code_of denial.Overwrite = 412
code_of denial.OcsHeader = 412
code_of denial.TooLarge = 413
code_of denial.Body = 415
code_of (denial.Locked key) = 423
code_of denial.Head = 431
code_of denial.Store = 500
code_of (denial.Damaged damage) = 500
code_of denial.RunFull = 500
code_of denial.Coding = 501
code_of denial.Memory = 503
code_of (denial.Limit limit) = 507
code_of (denial.Quota excess) = 507

-- the envelope of an answer to an OCS request that is refused
abbrev pub meta_object : List ℕ → ℕ → Data
meta_object message statuscode =
    object
    (member (codes "message") (string message)
    (member (codes "status") (string (codes "failure")) (member (codes "statuscode") (number (unsigned statuscode)) no_members)))

abbrev pub envelope : Denial → Data
envelope d =
    object
    (member (codes "ocs")
    (object (member (codes "data") (refusal_object d) (member (codes "meta") (meta_object (reason_of d) (code_of d)) no_members))) no_members)

abbrev pub refusal_body : Bool → Denial → List ℕ
refusal_body ocs d = compact_text (if ocs then envelope d else refusal_object d)

-- how a refusal is written: whether it ends the session, answers an OCS request, and has its head alone (RFC 9110, section 9.3.2)
abbrev pub refusal_reply : Manner → Denial → List ℕ
refusal_reply manner d =
    let body = refusal_body manner.ocs d in
    head_bytes (status_of d) manner.close (own_line d) (codes "application/json") (length body)
    ++ (if manner.head_only then [] else body)

-- that to a message whose head couldn't be taken, or whose body was cut: it ends the session
abbrev pub last_manner : Manner
last_manner = record { close = true; ocs = false; head_only = false }

-- the answer that invites a body (RFC 9110, section 15.2.1)
abbrev pub continue_reply : List ℕ
continue_reply = codes "HTTP/1.1 100 Continue\r\n\r\n"

-- the word of what a node is
abbrev pub kind_word : NodeKind → List ℕ
kind_word kind.Folder = codes "folder"
kind_word kind.File = codes "file"

-- the object of a line of a listing, by rising key
abbrev pub line_object : ListingLine → Data
line_object line =
    object
    (member (codes "changed") (number (unsigned line.changed))
    (member (codes "id") (number (unsigned line.id))
    (member (codes "kind") (string (kind_word line.kind))
    (member (codes "name") (string line.name)
    (member (codes "owner") (string line.owner)
    (member (codes "permissions") (number (unsigned line.permissions))
    (member (codes "size") (number (unsigned line.size)) no_members)))))))

abbrev pub listing_object : List ListingLine → Data
listing_object listing = object (member (codes "entries") (array (items_of (map line_object listing))) no_members)

abbrev pub listing_body : List ListingLine → List ℕ
listing_body listing = compact_text (listing_object listing)

-- the object of an item of the trash, by rising key
abbrev pub item_object : ItemLine → Data
item_object item =
    object
    (member (codes "at") (number (unsigned item.at))
    (member (codes "id") (number (unsigned item.id))
    (member (codes "kind") (string (kind_word item.kind))
    (member (codes "name") (string item.name) (member (codes "size") (number (unsigned item.size)) no_members)))))

abbrev pub trash_object : List ItemLine → Data
trash_object items = object (member (codes "items") (array (items_of (map item_object items))) no_members)

abbrev pub trash_body : List ItemLine → List ℕ
trash_body items = compact_text (trash_object items)

-- the object of a version, by rising key
abbrev pub version_object : VersionLine → Data
version_object version =
    object (member (codes "at") (number (unsigned version.at)) (member (codes "size") (number (unsigned version.size)) no_members))

abbrev pub versions_object : List VersionLine → Data
versions_object versions = object (member (codes "versions") (array (items_of (map version_object versions))) no_members)

abbrev pub versions_body : List VersionLine → List ℕ
versions_body versions = compact_text (versions_object versions)

-- an answer whose body is that JSON
abbrev pub json_reply : Bool → List ℕ → List ℕ
json_reply close body = head_bytes (codes "200 OK") close [] (codes "application/json") (length body) ++ body

-- the answer to what is listed
abbrev pub listing_reply : Bool → List ListingLine → List ℕ
listing_reply close listing = json_reply close (listing_body listing)

-- and to what is in the trash
abbrev pub items_reply : Bool → List ItemLine → List ℕ
items_reply close items = json_reply close (trash_body items)

-- and to which versions a file has
abbrev pub versions_reply : Bool → List VersionLine → List ℕ
versions_reply close versions = json_reply close (versions_body versions)

-- that to what is asked about shares: a share, some shares, or nothing more
abbrev pub share_reply : Bool → ShareLine → List ℕ
share_reply close share = json_reply close (share_body share)

abbrev pub shares_reply : Bool → List ShareLine → List ℕ
shares_reply close shares = json_reply close (shares_body shares)

abbrev pub plain_reply : Bool → List ℕ
plain_reply close = json_reply close plain_body

-- the head of an answer with a file of that size
abbrev pub file_head : Bool → ℕ → List ℕ
file_head close size = head_bytes (codes "200 OK") close [] (codes "application/octet-stream") size

-- the answer to what was made, which has no body
abbrev pub made_reply : Bool → List ℕ
made_reply close = codes "HTTP/1.1 201 Created\r\n" ++ close_line close ++ codes "Content-Length: 0\r\n\r\n"

-- and to what was done, which has no length either (RFC 9110, section 15.3.5)
abbrev pub done_reply : Bool → List ℕ
done_reply close = codes "HTTP/1.1 204 No Content\r\n" ++ close_line close ++ codes "\r\n"
