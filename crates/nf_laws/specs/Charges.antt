-- What a user's files take up, and that no step takes that beyond the user's quota.
use Rattle.std.specs.Prelude.{◌≡◌, ◌↔◌, ◌≤◌, ◌≢◌, ◌⊎◌, ℕ, ◌+◌, ◌==◌, ◌&&◌, not, if◌then◌else◌, List, [], ◌∷◌, ◌++◌, Option, None, Some, Err, IsOk, sum_by}
use Rattle.std.specs.Option.{option_or}
use Rattle.nf_base.specs.declared.rows.NodeRow.{NodeRow}
use Rattle.nf_base.specs.declared.rows.UserRow.{UserRow}
use Rattle.nf_defs.specs.Prelude.{is_present, owner_of, Tables, user_row}
use Rattle.nf_defs.specs.declared.Found.{Found}
use Rattle.nf_defs.specs.declared.Found.TheVariants.{At, Free, Missing}
use Rattle.nf_words.specs.Listing.{size_of}
use Rattle.nf_words.specs.Prelude.{access_of, after, answer_at, answer_to, AreSound, asked_of, asker_of, assembled_excess, bytes_of, Call, call_of, charge_of, content_size, earlier_rules, end_lost, end_unallowed, end_unreached, exceeded, excess_at, found, goal_at, IsSound, last_number, limit_at, limit_rule, locked_rule, MayCome, node_of_key, Pass, pieces_of, place_of, places_of, quota_of, room_rule, Rule, State, whole_of}
use Rattle.nf_words.specs.declared.answer.By.{By}
use Rattle.nf_words.specs.declared.answer.Denial.TheVariants as denial
use Rattle.nf_words.specs.declared.answer.Excess.{Excess}
use Rattle.nf_words.specs.declared.answer.Goal.TheVariants.{Store}
use Rattle.nf_words.specs.declared.answer.LockKey.{LockKey}
use Rattle.nf_words.specs.declared.answer.LockKey.TheVariants.{Node, Slot}
use Rattle.nf_words.specs.declared.history.Entry.{Entry}
use Rattle.nf_words.specs.declared.history.Event.TheVariants.{Begin, End}
use Rattle.nf_words.specs.declared.history.Outcome.TheVariants.{Body}
use Rattle.nf_words.specs.declared.request.Request.{Request}
use Rattle.nf_words.specs.declared.request.Spot.{Spot}
use Rattle.nf_words.specs.declared.request.UploadAsk.TheVariants as upload
use Rattle.nf_words.specs.declared.request.Wanted.TheVariants as want
use Rattle.nf_words.specs.declared.request.Words.{Words}

-- ---- what is charged

-- the bytes of a row, where it is the user's
abbrev pub owned_bytes : ℕ → NodeRow → ℕ
owned_bytes user row = if row.owner == user then sum_by (λ piece. piece.size) row.content else 0

-- those of all rows that are the user's
abbrev pub bytes_owned : List NodeRow → ℕ → ℕ
bytes_owned rows user = sum_by (owned_bytes user) rows

-- the bytes of a row, where it is the user's and not present: it is in the trash
abbrev pub trashed_bytes : Tables → ℕ → NodeRow → ℕ
trashed_bytes t user row = if row.owner == user && not (is_present t.users t.nodes row.id) then sum_by (λ piece. piece.size) row.content else 0

-- those of all rows that are the user's and not present
abbrev pub bytes_trashed : Tables → ℕ → ℕ
bytes_trashed t user = sum_by (trashed_bytes t user) t.nodes

-- what a user is charged for and what of the user's is not present are all that is the user's
abbrev pub ChargesLeaveOutTrash : Type 0
ChargesLeaveOutTrash = (t : Tables) (user : ℕ) → charge_of t user + bytes_trashed t user ≡ bytes_owned t.nodes user

-- a charge can be told, however large the site
abbrev pub ChargesAreFew : Type 0
ChargesAreFew = (t : Tables) (user : ℕ) → AreSound t → charge_of t user ≤ last_number

-- so a user's charge is the size of the user's root
abbrev pub ChargeIsSizeOfRoot : Type 0
ChargeIsSizeOfRoot =
    (t : Tables) (user : ℕ) (row : UserRow) → AreSound t → user_row t.users user ≡ Some row → charge_of t user ≡ size_of t.nodes row.root

-- the bytes of what a body is stored over
abbrev pub bytes_at : List NodeRow → LockKey → ℕ
bytes_at rows (Node node) = bytes_of rows node
bytes_at rows (Slot folder name) = 0

-- the owner is charged for some bytes in the place of others, and no other charge is another
pub record IsCharged (before after : Tables) (owner old new : ℕ) : Type 0 where
  pub owned : charge_of after owner + old ≡ charge_of before owner + new
  pub others : (user : ℕ) → user ≢ owner → charge_of after user ≡ charge_of before user

-- whoever stores a body, the owner of what it is stored over, or of the folder that it is stored in, is charged for it, and no one else
abbrev pub WritesAreCharged : Type 0
WritesAreCharged =
    (n : ℕ) (s : State) (e : Entry) (by : By) (key : LockKey) (digest : List ℕ) (size : ℕ) → IsSound s → MayCome n s e
    → goal_at s e.seat ≡ Some (Store by key size) → e.event ≡ End (Body digest size) → IsOk (answer_at s e e.mark)
    → IsCharged s.tables (after s e).tables (owner_of s.tables.nodes (node_of_key key)) (bytes_at s.tables.nodes key) size

-- who is charged for what is put there
abbrev pub charged_at : List NodeRow → Found → ℕ
charged_at rows (At node) = owner_of rows node
charged_at rows (Free folder) = owner_of rows folder
charged_at rows (Missing depth) = 0

-- the bytes of what is there
abbrev pub bytes_there : List NodeRow → Found → ℕ
bytes_there rows (At node) = bytes_of rows node
bytes_there rows (Free folder) = 0
bytes_there rows (Missing depth) = 0

-- and so it is with what the chunks of an upload have together, whoever joins them
abbrev pub JoinsAreCharged : Type 0
JoinsAreCharged =
    (n : ℕ) (s : State) (e : Entry) (words : Words) (request : Request) (dir : List ℕ) (spot : Spot) (total : Option ℕ) → IsSound s → MayCome n s e
    → e.event ≡ Begin words request → request.wanted ≡ want.Upload (upload.Join dir spot total) → IsOk (answer_at s e e.mark)
    → IsCharged s.tables (after s e).tables (charged_at s.tables.nodes (found (call_of s e.seat e.moment words request) spot))
    (bytes_there s.tables.nodes (found (call_of s e.seat e.moment words request) spot))
    (content_size (whole_of s.tables.chunks (asker_of (call_of s e.seat e.moment words request)) dir))

-- ---- what no step passes

-- whatever step is taken, and however it is marked, a charge that rises stays within its quota. One that is above it already, since its
-- quota was lowered, rises no further
abbrev pub QuotasAreKept : Type 0
QuotasAreKept =
    (n : ℕ) (s : State) (e : Entry) (user : ℕ) → IsSound s → MayCome n s e
    → (charge_of (after s e).tables user ≤ charge_of s.tables user)
    ⊎ (charge_of (after s e).tables user ≤ quota_of (after s e).tables user)

-- ---- who is refused

-- every rule before that of quotas
abbrev pub rules_before : List Rule
rules_before = earlier_rules ++ locked_rule ∷ limit_rule ∷ room_rule ∷ []

-- the End of a PUT passes every rule before that of quotas: who stores is reached and may, its name is still free, and no limit is passed
pub record EndReaches (s : State) (now : ℕ) (by : By) (key : LockKey) (length : ℕ) : Type 0 where
  pub reached : end_unreached (access_of s) s.tables now by (node_of_key key) ≡ None
  pub allowed : end_unallowed (access_of s) s.tables now by key ≡ None
  pub there : end_lost s.tables key ≡ None
  pub few : limit_at s.tables (pieces_of length) (place_of key) ≡ None

-- by how much a request passes the quota of who would be charged: of what it makes, or of what the chunks of an upload have together
abbrev pub excess_of : Call → Option Excess
excess_of call =
    option_or (exceeded call.state.tables (places_of call) (asked_of call.request.wanted).makes) (assembled_excess call call.request.wanted)

-- a request, and the End of a PUT, is refused for a quota exactly where every rule before passes it, and what it would put somewhere is more
-- than what that replaces and takes the charge of the owner there beyond the quota; the refusal tells the charge, the quota, and the bytes
-- that would come
pub record QuotaExactly : Type 0 where
  pub begin : (s : State) (seat now : ℕ) (words : Words) (request : Request) (excess : Excess)
      → (answer_to s seat now (Begin words request) ≡ Err (denial.Quota excess))
      ↔ (Pass rules_before (access_of s) (call_of s seat now words request)
      × (excess_of (call_of s seat now words request) ≡ Some excess))
  pub body : (s : State) (seat now : ℕ) (by : By) (key : LockKey) (wanted length : ℕ) (digest : List ℕ) (excess : Excess)
      → goal_at s seat ≡ Some (Store by key wanted)
      → (answer_to s seat now (End (Body digest length)) ≡ Err (denial.Quota excess))
      ↔ (EndReaches s now by key length × (excess_at s.tables length (place_of key) ≡ Some excess))
