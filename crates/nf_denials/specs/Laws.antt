-- What a refusal by shares tells, and when it is made.
use Rattle.std.specs.Prelude.{◌≡◌, ◌≢◌, ◌⊎◌, ℕ, ◌&&◌, ◌||◌, ◌++◌, is_some, All, Bool, false, true, Contains, List, Option, None, Some, Ok, Err, option_and_then}
use Rattle.nf_access.specs.Broken.{IsFirstBroken, first_received}
use Rattle.nf_access.specs.Laws.{IsRefused}
use Rattle.nf_access.specs.Shares.{Ground, chain_of, ground_of}
use Rattle.nf_access.specs.declared.Cause.{Cause}
use Rattle.nf_base.specs.declared.perms.Act.{Act}
use Rattle.nf_base.specs.declared.rows.ShareRow.{ShareRow}
use Rattle.nf_base.specs.declared.rows.UserRow.{UserRow}
use Rattle.nf_defs.specs.Prelude.{is_folder, is_rooted}
use Rattle.nf_defs.specs.declared.Seeker.{Seeker}
use Rattle.nf_defs.specs.declared.Seeker.TheVariants.{Link}
use Rattle.nf_laws.specs.Reads.{IsWellAsked}
use Rattle.nf_words.specs.Prelude.{access_of, answer_to, asked_by, asker_of, Call, call_of, caller_row, end_unreached, first_refused, goal_at, is_itself, is_owner, lacks_version, link_of, IsSound, may_by, mount_above, mount_of, Need, needed, needed_by, needed_for, node_asked, node_of_key, seeker_of, source_refused, State, unnamed_by, unopened, unreached_by, way_of}
use Rattle.nf_words.specs.Needed.{version_needs}
use Rattle.nf_words.specs.declared.answer.By.{By}
use Rattle.nf_words.specs.declared.answer.Denial.{Denial}
use Rattle.nf_words.specs.declared.answer.Denial.TheVariants.{BrokenLink, Kind, NoShare, NotFound}
use Rattle.nf_words.specs.declared.answer.Goal.TheVariants.{Chunk, Serve, Store}
use Rattle.nf_words.specs.declared.answer.LockKey.{LockKey}
use Rattle.nf_words.specs.declared.answer.Reply.TheVariants.{Closed}
use Rattle.nf_base.specs.declared.content.Piece.{Piece}
use Rattle.nf_words.specs.declared.history.Event.TheVariants.{Begin, End}
use Rattle.nf_words.specs.declared.history.Outcome.{Outcome}
use Rattle.nf_words.specs.declared.history.Outcome.TheVariants.{Body}
use Rattle.nf_words.specs.declared.request.Request.{Request}
use Rattle.nf_words.specs.declared.request.Spot.{Spot}
use Rattle.nf_words.specs.declared.request.VersionAsk.{VersionAsk}
use Rattle.nf_words.specs.declared.request.Wanted.TheVariants.{Version}
use Rattle.nf_words.specs.declared.request.Words.{Words}

-- ---- what is told

-- the chain of the first share that the seeker receives on the node has that link, which is the first that is broken, from its owner's end,
-- and the cause is its first
pub record IsLink (g : Ground) (now : ℕ) (who : Seeker) (act : Option Act) (node link : ℕ) (cause : Cause) : Type 0 where
  pub share : ShareRow
  pub received : first_received g.members g.shares who node ≡ Some share
  pub broken : IsFirstBroken g now act (chain_of g.shares share.id) link cause

-- the denial tells that link, or that no share is received
abbrev pub IsTold : Ground → ℕ → Seeker → Option Act → ℕ → Denial → Type 0
IsTold g now who act node NoShare = first_received g.members g.shares who node ≡ None
IsTold g now who act node (BrokenLink link cause) = IsLink g now who act node link cause
IsTold g now who act node other = ⊥

-- no chain of shares lets the seeker in, or do the act where one is asked for, and the denial tells why
pub record IsShut (g : Ground) (now : ℕ) (who : Seeker) (act : Option Act) (node : ℕ) (denial : Denial) : Type 0 where
  pub refused : IsRefused g now who act node
  pub told : IsTold g now who act node denial

-- of a mount that doesn't reach the seeker
abbrev pub UnreachedIsTold : Type 0
UnreachedIsTold =
    (s : State) (who : Seeker) (now mount : ℕ) (denial : Denial) → IsSound s
    → unreached_by (access_of s) (ground_of s.tables) who now mount ≡ Some denial → IsShut (ground_of s.tables) now who None mount denial

-- by that mount the seeker is shut out of the act; and where no mount is on the way, no share is either
abbrev pub IsShutBy : Ground → ℕ → Seeker → Act → Option ℕ → Denial → Type 0
IsShutBy g now who act None denial = denial ≡ NoShare
IsShutBy g now who act (Some mount) denial = IsShut g now who (Some act) mount denial

-- a need that may not be met, and by whose mount nothing lets the seeker meet it
pub record IsUnmet (s : State) (now : ℕ) (who : Seeker) (needs : List Need) (denial : Denial) : Type 0 where
  pub need : Need
  pub among : Contains needs need
  pub unmet : may_by (access_of s) s.tables.nodes who now need.act need.node need.mount ≡ false
  pub shut : IsShutBy (ground_of s.tables) now who need.act need.mount denial

-- of an act that the seeker may not do
abbrev pub ActsAreTold : Type 0
ActsAreTold =
    (s : State) (who : Seeker) (now : ℕ) (needs : List Need) (denial : Denial) → IsSound s
    → first_refused (access_of s) (ground_of s.tables) who now needs ≡ Some denial → IsUnmet s now who needs denial

-- ---- of requests

-- what shares refuse
abbrev pub is_of_shares : Denial → Bool
is_of_shares NoShare = true
is_of_shares (BrokenLink link cause) = true
is_of_shares other = false

-- a path of the request goes by the mount
abbrev pub GoesBy : Call → ℕ → Type 0
GoesBy call mount =
    (option_and_then (mount_of call) (asked_by call).source ≡ Some mount) ⊎ (option_and_then (mount_of call) (asked_by call).target ≡ Some mount)

-- a path's mount doesn't reach who asks
pub record IsKeptOut (call : Call) (denial : Denial) : Type 0 where
  pub mount : ℕ
  pub goes : GoesBy call mount
  pub shut : IsShut (ground_of call.state.tables) call.now (seeker_of call) None mount denial

-- all that a request needs: at its paths, and where it is about versions
abbrev pub all_needed : Call → List Need
all_needed call = needed call ++ needed_for (access_of call.state) call call.request.wanted

-- a request that is refused by shares is refused for a mount that its paths go by, or for an act that it needs
abbrev pub BeginsTellTheirBreak : Type 0
BeginsTellTheirBreak =
    (s : State) (seat now : ℕ) (words : Words) (request : Request) (denial : Denial) → IsSound s
    → answer_to s seat now (Begin words request) ≡ Err denial → is_of_shares denial ≡ true
    → let call = call_of s seat now words request in
    IsKeptOut call denial ⊎ IsUnmet s now (seeker_of call) (all_needed call) denial

-- where a need is by no mount, who asks may do it
abbrev pub IsMetByNone : Call → Need → Type 0
IsMetByNone call need =
    need.mount ≡ None
    → may_by (access_of call.state) call.state.tables.nodes (seeker_of call) call.now need.act need.node need.mount ≡ true

-- who is known may do all that a request needs by no mount: a path in the own root leads to one's own. So may whoever sees a file of whose
-- versions something is asked: it is the own where no mount is at it or above it. So what is unmet is by a mount
pub record OwnIsNotRefused : Type 0 where
  pub paths : (s : State) (seat now : ℕ) (words : Words) (request : Request) (user : UserRow) → IsSound s
      → let call = call_of s seat now words request in
      caller_row call ≡ Some user → All (IsMetByNone call) (needed call)
  pub versions : (s : State) (seat now : ℕ) (words : Words) (request : Request)
      → let call = call_of s seat now words request in
      unnamed_by call request.wanted ≡ None → All (IsMetByNone call) (needed_for (access_of s) call request.wanted)

-- who asks by a link that is there, or was granted to store by one, is never told that there is no share: it is the link's own
pub record LinksTellTheirChain : Type 0 where
  pub begins : (s : State) (seat now : ℕ) (words : Words) (request : Request) (share : ShareRow) → IsSound s
      → link_of (call_of s seat now words request) ≡ Some share → answer_to s seat now (Begin words request) ≢ Err NoShare
  pub ends : (s : State) (seat now link : ℕ) (by : By) (key : LockKey) (wanted : ℕ) (outcome : Outcome) → IsSound s
      → goal_at s seat ≡ Some (Store by key wanted) → by.seeker ≡ Link link → answer_to s seat now (End outcome) ≢ Err NoShare

-- by a mount that doesn't reach who asks: the source, where it isn't a mount to be left or renamed itself, and the target of a request whose
-- source isn't refused and whose upload, where it is about one, is there
pub data IsStoppedAt (call : Call) (mount : ℕ) : Type 0 where
  at_source : (spot : Spot) → (asked_by call).source ≡ Some spot → mount_of call spot ≡ Some mount
      → ((asked_by call).removes && is_itself (seeker_of call) spot.path) ≡ false → IsStoppedAt call mount
  at_target : (spot : Spot) → (asked_by call).target ≡ Some spot → mount_of call spot ≡ Some mount
      → option_and_then (λ spot. source_refused (access_of call.state) call (way_of call spot)) (asked_by call).source ≡ None
      → unopened call call.request.wanted ≡ None → IsStoppedAt call mount

-- the answer is that of the mount alone, whatever the names behind it
abbrev pub UnreachedIsRefused : Type 0
UnreachedIsRefused =
    (s : State) (seat now : ℕ) (words : Words) (request : Request) (mount : ℕ) (denial : Denial)
    → let call = call_of s seat now words request in
    IsWellAsked call → IsStoppedAt call mount
    → unreached_by (access_of s) (ground_of s.tables) (seeker_of call) now mount ≡ Some denial
    → answer_to s seat now (Begin words request) ≡ Err denial

-- ---- of versions

-- the file is present, and who asks owns it or has a mount at it or above it
abbrev pub is_seen : Call → ℕ → Bool
is_seen call node =
    let t = call.state.tables in
    is_rooted t.nodes node && (is_owner t.nodes (seeker_of call) node || is_some (mount_above t.nodes t.mounts (asker_of call) node))

-- the file of whose versions something is asked is seen so, and who asks may do what that needs
pub record IsLetAsk (call : Call) (ask : VersionAsk) : Type 0 where
  pub seen : is_seen call (node_asked ask) ≡ true
  pub may : All (λ (need : Need). may_by (access_of call.state) call.state.tables.nodes (seeker_of call) call.now need.act need.node need.mount ≡ true)
      (version_needs (access_of call.state) call ask)

-- what is told of versions is so: `kind` of a folder, and `not-found` of what isn't seen or of a version that a file hasn't. Whether it is a
-- folder or has that version, they alone are told who may do what is asked: who doesn't see it is told that there is none, and who may not
-- do it is told what shares refuse
pub record VersionsTellTheirCause : Type 0 where
  pub kind : (s : State) (seat now : ℕ) (words : Words) (request : Request) (ask : VersionAsk)
      → let call = call_of s seat now words request in
      request.wanted ≡ Version ask → answer_to s seat now (Begin words request) ≡ Err Kind
      → IsLetAsk call ask × (is_folder s.tables.nodes (node_asked ask) ≡ true)
  pub lost : (s : State) (seat now : ℕ) (words : Words) (request : Request) (ask : VersionAsk)
      → let call = call_of s seat now words request in
      request.wanted ≡ Version ask → answer_to s seat now (Begin words request) ≡ Err NotFound
      → (is_seen call (node_asked ask) ≡ false)
      ⊎ (IsLetAsk call ask × (is_folder s.tables.nodes (node_asked ask) ≡ false) × (lacks_version s.tables.versions ask ≡ true))
  pub unseen : (s : State) (seat now : ℕ) (words : Words) (request : Request) (ask : VersionAsk)
      → let call = call_of s seat now words request in
      request.wanted ≡ Version ask → IsWellAsked call → is_seen call (node_asked ask) ≡ false
      → answer_to s seat now (Begin words request) ≡ Err NotFound
  pub shut : (s : State) (seat now : ℕ) (words : Words) (request : Request) (ask : VersionAsk) (denial : Denial)
      → let call = call_of s seat now words request in
      request.wanted ≡ Version ask → IsWellAsked call → is_seen call (node_asked ask) ≡ true
      → first_refused (access_of s) (ground_of s.tables) (seeker_of call) now (version_needs (access_of s) call ask) ≡ Some denial
      → answer_to s seat now (Begin words request) ≡ Err denial

-- ---- of bodies

-- a body is decided by the tables of its own moment. It is refused where who stores doesn't own what it is stored over, or the folder that it
-- is stored in, and isn't let in any more by the mount that the request went by; or may not do any more what was granted
pub record RevokedIsRefused : Type 0 where
  pub reach : (s : State) (seat now : ℕ) (by : By) (key : LockKey) (wanted length mount : ℕ) (digest : List ℕ) (denial : Denial)
      → goal_at s seat ≡ Some (Store by key wanted) → by.mount ≡ Some mount → is_owner s.tables.nodes by.seeker (node_of_key key) ≡ false
      → unreached_by (access_of s) (ground_of s.tables) by.seeker now mount ≡ Some denial
      → answer_to s seat now (End (Body digest length)) ≡ Err denial
  pub acts : (s : State) (seat now : ℕ) (by : By) (key : LockKey) (wanted length : ℕ) (digest : List ℕ) (denial : Denial)
      → goal_at s seat ≡ Some (Store by key wanted) → end_unreached (access_of s) s.tables now by (node_of_key key) ≡ None
      → first_refused (access_of s) (ground_of s.tables) by.seeker now (needed_by by key) ≡ Some denial
      → answer_to s seat now (End (Body digest length)) ≡ Err denial

-- the mount by which it was granted to store doesn't let who stores in, who doesn't own the node
pub record IsKeptOutBy (s : State) (now : ℕ) (by : By) (node : ℕ) (denial : Denial) : Type 0 where
  pub mount : ℕ
  pub goes : by.mount ≡ Some mount
  pub other : is_owner s.tables.nodes by.seeker node ≡ false
  pub shut : IsShut (ground_of s.tables) now by.seeker None mount denial

-- a body that is refused by shares is refused for that mount, or for the act that storing needs
abbrev pub EndsTellTheirBreak : Type 0
EndsTellTheirBreak =
    (s : State) (seat now : ℕ) (by : By) (key : LockKey) (wanted : ℕ) (outcome : Outcome) (denial : Denial) → IsSound s
    → goal_at s seat ≡ Some (Store by key wanted) → answer_to s seat now (End outcome) ≡ Err denial → is_of_shares denial ≡ true
    → IsKeptOutBy s now by (node_of_key key) denial ⊎ IsUnmet s now by.seeker (needed_by by key) denial

-- a chunk is its user's own, so none is refused by shares
abbrev pub ChunksTellNoShare : Type 0
ChunksTellNoShare =
    (s : State) (seat now user : ℕ) (dir : List ℕ) (number wanted : ℕ) (outcome : Outcome) (denial : Denial)
    → goal_at s seat ≡ Some (Chunk user dir number wanted) → answer_to s seat now (End outcome) ≡ Err denial → is_of_shares denial ≡ false

-- what was granted to be read is read
abbrev pub ReadsGoOn : Type 0
ReadsGoOn =
    (s : State) (seat now : ℕ) (outcome : Outcome) (content : List Piece) → goal_at s seat ≡ Some (Serve content)
    → answer_to s seat now (End outcome) ≡ Ok Closed
