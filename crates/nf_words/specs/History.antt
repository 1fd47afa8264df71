-- Legal histories: lists of entries, each of which may come in the state that those before it made.
use Rattle.std.specs.Prelude.{◌≡◌, ◌≢◌, ℕ, ◌+◌, ◌≤◌, ◌&&◌, true, not, List, [], ◌∷◌, length, Option, None, Some, IsNone, IfSome, is_some, Result, Err}
use Rattle.nf_base.specs.declared.limits.TheConstants.{MAX_BODY, MAX_ENTRIES, MAX_QUOTA}
use Rattle.nf_words.specs.Asked.{asked_of, is_about_shares}
use Rattle.nf_words.specs.Calls.{is_by_link}
use Rattle.nf_words.specs.State.{State, goal_at, ticket_of}
use Rattle.nf_words.specs.Step.{step, answer_to, changes_to, without}
use Rattle.nf_words.specs.declared.answer.Denial.{Denial}
use Rattle.nf_words.specs.declared.answer.Denial.TheVariants as denial
use Rattle.nf_words.specs.declared.answer.Reply.{Reply}
use Rattle.nf_words.specs.declared.history.Entry.{Entry}
use Rattle.nf_words.specs.declared.history.Event.{Event}
use Rattle.nf_words.specs.declared.history.Event.TheVariants.{Begin, End, Sweep}
use Rattle.nf_words.specs.declared.history.Mark.{Mark}
use Rattle.nf_words.specs.declared.history.Mark.TheVariants as mark
use Rattle.nf_words.specs.declared.history.Outcome.{Outcome}
use Rattle.nf_words.specs.declared.history.Outcome.TheVariants.{Sent, Gone, Body}
use Rattle.nf_words.specs.declared.answer.Goal.{Goal}
use Rattle.nf_words.specs.declared.answer.Goal.TheVariants.{Chunk, Serve, Store}
use Rattle.nf_words.specs.declared.request.Making.{Making}
use Rattle.nf_words.specs.declared.request.Making.TheVariants as making
use Rattle.nf_words.specs.declared.request.PeopleAsk.{PeopleAsk}
use Rattle.nf_words.specs.declared.request.PeopleAsk.TheVariants as people
use Rattle.nf_words.specs.declared.request.Request.{Request}
use Rattle.nf_words.specs.declared.request.ShareAsk.{ShareAsk}
use Rattle.nf_words.specs.declared.request.ShareAsk.TheVariants as ask
use Rattle.nf_words.specs.declared.request.Spot.{Spot}
use Rattle.nf_words.specs.declared.request.Until.{Until}
use Rattle.nf_words.specs.declared.request.Until.TheVariants as until
use Rattle.nf_words.specs.declared.request.UploadAsk.{UploadAsk}
use Rattle.nf_words.specs.declared.request.UploadAsk.TheVariants as upload
use Rattle.nf_words.specs.declared.request.Wanted.{Wanted}
use Rattle.nf_words.specs.declared.request.Wanted.TheVariants as wanted
use Rattle.nf_words.specs.Sharing.{is_end_moment}

-- a step whose store failed or that found no memory: the rows stay, and the ticket of an End goes
abbrev pub failed : State → ℕ → ℕ → Event → State
failed s seat now event = record (without s seat event) { seen = now }

-- the state after an entry
abbrev pub after_mark : State → Entry → Mark → State
after_mark s e mark.Answered = step s e.seat e.moment e.event
after_mark s e mark.Store = failed s e.seat e.moment e.event
after_mark s e mark.Memory = failed s e.seat e.moment e.event

abbrev pub after : State → Entry → State
after s e = after_mark s e e.mark

-- the answer of an entry
abbrev pub answer_at : State → Entry → Mark → Result Reply Denial
answer_at s e mark.Answered = answer_to s e.seat e.moment e.event
answer_at s e mark.Store = Err denial.Store
answer_at s e mark.Memory = Err denial.Memory

-- the state after some entries
abbrev pub replay : State → List Entry → State
replay s [] = s
replay s (e ∷ es) = replay (after s e) es

-- ---- what may be asked

-- a body that is to be stored isn't too long
abbrev pub IsShort : Making → Type 0
IsShort making.Nothing = Unit {0}
IsShort (making.File length) = length ≤ MAX_BODY
IsShort making.Folder = Unit {0}
IsShort making.Moved = Unit {0}
IsShort making.Copied = Unit {0}
IsShort making.Shared = Unit {0}
IsShort making.Told = Unit {0}
IsShort (making.Restored item) = Unit {0}
IsShort (making.Sent node) = Unit {0}
IsShort (making.Refilled node at) = Unit {0}
IsShort making.Assembled = Unit {0}

-- a place names its user exactly where the caller isn't a link and nothing is asked about shares
abbrev pub NamesUser : Request → Spot → Type 0
NamesUser request spot = is_some spot.user ≡ (not (is_by_link request.caller) && not (is_about_shares request.wanted))

-- an end is one that a date tells
abbrev pub IsEnd : Option ℕ → Type 0
IsEnd until = IfSome until (λ (moment : ℕ). is_end_moment moment ≡ true)

abbrev pub end_in : Until → Option ℕ
end_in until.Keep = None
end_in until.Never = None
end_in (until.At moment) = Some moment

abbrev pub EndsAtDays : ShareAsk → Type 0
EndsAtDays (ask.New spot to perms until) = IsEnd until
EndsAtDays (ask.List spot with_me) = Unit {0}
EndsAtDays (ask.Show share) = Unit {0}
EndsAtDays (ask.Set share perms until) = IsEnd (end_in until)
EndsAtDays (ask.End share) = Unit {0}

-- a quota isn't too large
abbrev pub IsModest : PeopleAsk → Type 0
IsModest (people.NewUser name token quota) = quota ≤ MAX_QUOTA
IsModest (people.NewGroup name) = Unit {0}
IsModest (people.AddMember user group) = Unit {0}
IsModest (people.DropMember user group) = Unit {0}
IsModest (people.SetQuota user quota) = quota ≤ MAX_QUOTA
IsModest (people.AddToken user token) = Unit {0}

-- a chunk isn't too long
abbrev pub IsSmall : UploadAsk → Type 0
IsSmall (upload.New user dir to) = Unit {0}
IsSmall (upload.Chunk user dir name to length) = length ≤ MAX_BODY
IsSmall (upload.Drop user dir) = Unit {0}
IsSmall (upload.Join dir spot total) = Unit {0}

abbrev pub IsInBounds : Wanted → Type 0
IsInBounds (wanted.Share asked) = EndsAtDays asked
IsInBounds (wanted.People asked) = IsModest asked
IsInBounds (wanted.Upload asked) = IsSmall asked
IsInBounds other = Unit {0}

pub record MayWant (request : Request) : Type 0 where
  pub bounds : IsInBounds request.wanted
  pub short : IsShort (asked_of request.wanted).makes
  pub source : IfSome (asked_of request.wanted).source (NamesUser request)
  pub target : IfSome (asked_of request.wanted).target (NamesUser request)

-- a body is for a goal that stores one, and has its length
abbrev pub MayBring : Goal → Outcome → Type 0
MayBring goal Sent = Unit {0}
MayBring goal Gone = Unit {0}
MayBring (Serve content) (Body digest length) = ⊥
MayBring (Store by key wanted) (Body digest length) = length ≡ wanted
MayBring (Chunk user dir number wanted) (Body digest length) = length ≡ wanted

-- the End of what the seat was granted
abbrev pub MayEnd : Option Goal → Outcome → Type 0
MayEnd None outcome = ⊥
MayEnd (Some goal) outcome = MayBring goal outcome

-- the event may come from the seat: a Begin or a sweep where it has no ticket, an End where it has one
abbrev pub MayAsk : State → ℕ → Event → Type 0
MayAsk s seat (Begin words request) = IsNone (ticket_of s seat) × MayWant request
MayAsk s seat (End outcome) = MayEnd (goal_at s seat) outcome
MayAsk s seat Sweep = IsNone (ticket_of s seat)

-- an End brings a body
abbrev pub HasBody : Event → Type 0
HasBody (Begin words request) = ⊥
HasBody (End Sent) = ⊥
HasBody (End Gone) = ⊥
HasBody (End (Body digest length)) = Unit {0}
HasBody Sweep = ⊥

-- a Begin or a sweep leaves room for the Ends of all tickets and its own two entries, after n entries
abbrev pub LeavesRoom : ℕ → State → Event → Type 0
LeavesRoom n s (Begin words request) = n + length s.tickets + 2 ≤ MAX_ENTRIES
LeavesRoom n s (End outcome) = Unit {0}
LeavesRoom n s Sweep = n + length s.tickets + 2 ≤ MAX_ENTRIES

-- the step may be marked so: a store fails only where it has something to change
abbrev pub MayBear : State → Entry → Mark → Type 0
MayBear s e mark.Answered = Unit {0}
MayBear s e mark.Store = changes_to s e.seat e.moment e.event ≢ []
MayBear s e mark.Memory = HasBody e.event

-- ---- legal histories

-- the entry may come after n entries that led to the state
pub record MayCome (n : ℕ) (s : State) (e : Entry) : Type 0 where
  pub not_before : s.seen ≤ e.moment
  pub asked : MayAsk s e.seat e.event
  pub room : LeavesRoom n s e.event
  pub marked : MayBear s e e.mark

-- the entries may come one after the other, the first of them after n others
abbrev pub IsLegalFrom : ℕ → State → List Entry → Type 0
IsLegalFrom n s [] = Unit {0}
IsLegalFrom n s (e ∷ es) = MayCome n s e × IsLegalFrom (n + 1) (after s e) es

abbrev pub IsLegal : State → List Entry → Type 0
IsLegal s es = IsLegalFrom 0 s es
