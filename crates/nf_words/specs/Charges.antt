-- What a user's files take up, and the rule that no quota is passed.
use Rattle.std.specs.Prelude.{ℕ, ◌+◌, ◌-◌, ◌==◌, ◌&&◌, Bool, nat_lt, sum_by, Option, None, Some, option_map, option_and_then, if◌then◌else◌}
use Rattle.std.specs.Option.{option_map_or, option_or}
use Rattle.nf_base.specs.declared.rows.NodeRow.{NodeRow}
use Rattle.nf_defs.specs.Prelude.{Access, is_present, item_row, owner_of, Tables, user_row}
use Rattle.nf_defs.specs.declared.Found.{Found}
use Rattle.nf_defs.specs.declared.Found.TheVariants.{At, Free, Missing}
use Rattle.nf_words.specs.Calls.{Call, asked_by, asker_of, places_of}
use Rattle.nf_words.specs.Listing.{bytes_of, size_of}
use Rattle.nf_words.specs.Places.{crosses, transfer_of}
use Rattle.nf_words.specs.declared.request.Making.{Making}
use Rattle.nf_words.specs.declared.request.Making.TheVariants as making
use Rattle.nf_words.specs.declared.request.Places.{Places}
use Rattle.nf_words.specs.declared.request.Transfer.{Transfer}
use Rattle.nf_words.specs.declared.answer.Denial.{Denial}
use Rattle.nf_words.specs.declared.answer.Denial.TheVariants as denial
use Rattle.nf_words.specs.declared.answer.Excess.{Excess}
use Rattle.nf_base.specs.declared.rows.ItemRow.{ItemRow}
use Rattle.nf_words.specs.Trash.{item_size}
use Rattle.nf_base.specs.declared.rows.VersionRow.{VersionRow}
use Rattle.nf_words.specs.Versions.{content_size, version_row}
use Rattle.nf_words.specs.Uploads.{whole_of}
use Rattle.nf_words.specs.declared.request.UploadAsk.TheVariants as upload
use Rattle.nf_words.specs.declared.request.Wanted.{Wanted}
use Rattle.nf_words.specs.declared.request.Wanted.TheVariants as wanted

-- the bytes of a row that count for a user: those of what is the user's and present, whoever wrote it
abbrev pub counted_for : Tables → ℕ → NodeRow → ℕ
counted_for t user row =
    if row.owner == user && is_present t.users t.nodes row.id then sum_by (λ piece. piece.size) row.content else 0

-- the charge of a user: the sum of these
unfoldable pub charge_of : Tables → ℕ → ℕ
charge_of t user = sum_by (counted_for t user) t.nodes

abbrev pub quota_of : Tables → ℕ → ℕ
quota_of t user = option_map_or (λ row. row.quota) (user_row t.users user) 0

-- so many bytes of a user's may not stand where so many were: they are more, and with them the charge would pass the quota
abbrev pub is_over : Tables → ℕ → ℕ → ℕ → Bool
is_over t user old new = nat_lt old new && nat_lt (quota_of t user) (charge_of t user - old + new)

abbrev pub excess : Tables → ℕ → ℕ → ℕ → Option Excess
excess t user old new =
    if is_over t user old new then Some (record { charge = charge_of t user; quota = quota_of t user; size = new }) else None

-- where a body of so many bytes is put there, the owner of what it replaces, or of its folder, is charged for it, whoever wrote it
abbrev pub excess_at : Tables → ℕ → Found → Option Excess
excess_at t length (At node) = excess t (owner_of t.nodes node) (bytes_of t.nodes node) length
excess_at t length (Free folder) = excess t (owner_of t.nodes folder) 0 length
excess_at t length (Missing depth) = None

-- where copies are put, the owner of their folder is charged for all of them, in the place of what they replace
abbrev pub copy_excess : Tables → Transfer → Option Excess
copy_excess t transfer =
    excess t (owner_of t.nodes transfer.folder) (option_map_or (size_of t.nodes) transfer.replaced 0) (size_of t.nodes transfer.node)

-- what is moved is charged anew where it comes to another owner
abbrev pub carry_excess : Tables → Transfer → Option Excess
carry_excess t transfer = if crosses t.nodes transfer then copy_excess t transfer else None

-- what comes back is charged anew
abbrev pub restore_excess : Tables → ItemRow → Option Excess
restore_excess t item = excess t item.owner 0 (item_size t item)

-- and so is a version that is its file's content again, in the place of what the file has
abbrev pub back_excess : Tables → ℕ → VersionRow → Option Excess
back_excess t node version = excess t (owner_of t.nodes node) (bytes_of t.nodes node) (content_size version.content)

-- by how much what is made would pass the quota of who is charged for it
abbrev pub exceeded : Tables → Places → Making → Option Excess
exceeded t places making.Nothing = None
exceeded t places (making.File length) = option_and_then (excess_at t length) places.target
exceeded t places making.Folder = None
exceeded t places making.Moved = option_and_then (carry_excess t) (transfer_of t.nodes places)
exceeded t places making.Copied = option_and_then (copy_excess t) (transfer_of t.nodes places)
exceeded t places making.Shared = None
exceeded t places making.Told = None
exceeded t places (making.Restored item) = option_and_then (restore_excess t) (item_row t.items item)
exceeded t places (making.Sent node) = None
exceeded t places (making.Refilled node at) = option_and_then (back_excess t node) (version_row t.versions node at)
exceeded t places making.Assembled = None

-- and what the chunks of an upload have together
abbrev pub assembled_excess : Call → Wanted → Option Excess
assembled_excess call (wanted.Upload (upload.Join dir spot total)) =
    let t = call.state.tables in
    option_and_then (excess_at t (content_size (whole_of t.chunks (asker_of call) dir))) (places_of call).target
assembled_excess call other = None

-- `quota`: the step would take a charge beyond its quota
unfoldable pub quota_rule : Access → Call → Option Denial
quota_rule access call =
    option_map denial.Quota
    (option_or (exceeded call.state.tables (places_of call) (asked_by call).makes) (assembled_excess call call.request.wanted))
