-- What was stored is what is read.
use Rattle.std.specs.Prelude.{◌≡◌, ℕ, ◌+◌, ◌≤◌, List, [], ◌∷◌, ◌++◌, length, take, Option, None, Some, Ok, IsOk, ◌≢◌, All}
use Rattle.nf_access.specs.Access.{Allows}
use Rattle.nf_access.specs.Shares.{ground_of}
use Rattle.nf_base.specs.declared.content.Piece.{Piece}
use Rattle.nf_base.specs.declared.perms.Act.TheVariants.{Read}
use Rattle.nf_base.specs.declared.rows.NodeRow.{NodeRow}
use Rattle.nf_base.specs.declared.rows.ShareRow.{ShareRow}
use Rattle.nf_defs.specs.Prelude.{Leads, node_row}
use Rattle.nf_words.specs.Prelude.{access_of, after, answer_to, blob_for, Call, call_of, content_in, forbidden_rule, goal_at, IsLegalFrom, IsSound, link_of, MayCome, not_you_rule, replay, root_of, seeker_of, State, token_rule, unlinked}
use Rattle.nf_words.specs.declared.answer.By.{By}
use Rattle.nf_words.specs.declared.answer.Goal.TheVariants.{Serve, Store}
use Rattle.nf_words.specs.declared.answer.LockKey.{LockKey}
use Rattle.nf_words.specs.declared.answer.LockKey.TheVariants.{Node, Slot}
use Rattle.nf_words.specs.declared.answer.Reply.TheVariants.{Granted}
use Rattle.nf_words.specs.declared.history.Entry.{Entry}
use Rattle.nf_words.specs.declared.history.Event.TheVariants.{Begin, End}
use Rattle.nf_words.specs.declared.history.Mark.TheVariants.{Answered}
use Rattle.nf_words.specs.declared.history.Outcome.TheVariants.{Body}
use Rattle.nf_words.specs.declared.request.Request.{Request}
use Rattle.nf_words.specs.declared.request.Spot.{Spot}
use Rattle.nf_words.specs.declared.request.Wanted.TheVariants.{Get}
use Rattle.nf_words.specs.declared.request.Words.{Words}
use Rattle.nf_words.specs.declared.answer.Mode.TheVariants.{Exclusive}
use Rattle.nf_words.specs.declared.history.Ticket.{Ticket}

-- a path leads from a root to the file that is stored over, or to the folder and the name that is free in it
abbrev pub LeadsToKey : List NodeRow → ℕ → List (List ℕ) → LockKey → Type 0
LeadsToKey rows root path (Node node) = Leads rows root path node
LeadsToKey rows root path (Slot folder name) =
    (front : List (List ℕ)) × (path ≡ front ++ name ∷ []) × Leads rows root front folder

-- at an entry the body of a PUT is stored at the end of a path
pub record IsStored (n : ℕ) (s : State) (e : Entry) (root : ℕ) (path : List (List ℕ)) (content : List Piece) : Type 0 where
  pub sound : IsSound s
  pub may : MayCome n s e
  pub answered : e.mark ≡ Answered
  pub by : By
  pub key : LockKey
  pub size : ℕ
  pub digest : List ℕ
  pub granted : goal_at s e.seat ≡ Some (Store by key size)
  pub brought : e.event ≡ End (Body digest size)
  pub accepted : IsOk (answer_to s e.seat e.moment e.event)
  pub led : LeadsToKey s.tables.nodes root path key
  pub body : content ≡ content_in (blob_for s.tables.meta.next_blob size) digest size

-- each node to which a front of a path leads is as it was
abbrev pub PathStays : List NodeRow → List NodeRow → ℕ → List (List ℕ) → Type 0
PathStays before after root path =
    (k node : ℕ) → k ≤ length path → Leads before root (take k path) node → node_row after node ≡ node_row before node

-- no rule of who asks or of names refuses the call, and where it comes by a link, there is one
pub record IsWellAsked (call : Call) : Type 0 where
  pub token : token_rule (access_of call.state) call ≡ None
  pub not_you : not_you_rule (access_of call.state) call ≡ None
  pub forbidden : forbidden_rule (access_of call.state) call ≡ None
  pub linked : unlinked call ≡ None

-- no other seat stores over the node
abbrev pub IsFreeToRead : State → ℕ → ℕ → Type 0
IsFreeToRead s seat node =
    All (λ (ticket : Ticket). ticket.seat ≢ seat → ticket.hold ≢ Some (record { key = Node node; mode = Exclusive })) s.tickets

-- whoever asks by a link is let read by a chain of live shares
abbrev pub IsLetRead : Call → Option ShareRow → Type 0
IsLetRead call None = Unit {0}
IsLetRead call (Some link) =
    (share : ShareRow) × (up : List ShareRow) × Allows (ground_of call.state.tables) call.now (seeker_of call) link.node Read share up

-- a GET of a path from what the caller's paths lead from: by whose root that is, or by a link to it that lets it be read; which no rule of
-- who asks or of names refuses, and where nobody else stores
pub record IsReadBy (s : State) (seat now : ℕ) (words : Words) (request : Request) (root : ℕ) (path : List (List ℕ)) : Type 0 where
  pub spot : Spot
  pub wanted : request.wanted ≡ Get spot
  pub of_path : spot.path ≡ path
  pub from : root_of (call_of s seat now words request) ≡ root
  pub asked : IsWellAsked (call_of s seat now words request)
  pub reads : IsLetRead (call_of s seat now words request) (link_of (call_of s seat now words request))
  pub free : (node : ℕ) → Leads s.tables.nodes root path node → IsFreeToRead s seat node

-- what a PUT stored is what a later GET of the path is granted, while the nodes of its path stay as they are
abbrev pub StoredIsRead : Type 0
StoredIsRead =
    (n : ℕ) (s : State) (e : Entry) (es : List Entry) (root : ℕ) (path : List (List ℕ)) (content : List Piece)
    (seat now : ℕ) (words : Words) (request : Request)
    → IsStored n s e root path content
    → IsLegalFrom (n + 1) (after s e) es
    → PathStays (after s e).tables.nodes (replay (after s e) es).tables.nodes root path
    → IsReadBy (replay (after s e) es) seat now words request root path
    → answer_to (replay (after s e) es) seat now (Begin words request) ≡ Ok (Granted (Serve content))
