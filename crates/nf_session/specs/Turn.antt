-- One turn of a session: a message, and its answer.
use Rattle.std.specs.Prelude.{◌≡◌, ◌⊎◌, ℕ, Bool, true, false, ◌||◌, bytes_eq, codes, List, Option, None, Some, is_some, Result, Ok, Err, if◌then◌else◌}
use Rattle.nf_http.specs.Head.{Head, closes_session}
use Rattle.nf_http.specs.declared.wire.WireFault.{WireFault}
use Rattle.nf_outside.specs.Lent.{Taken}
use Rattle.nf_words.specs.declared.answer.Denial.{Denial}
use Rattle.nf_words.specs.declared.answer.Denial.TheVariants as denial
use Rattle.nf_dav.specs.Reply.{refusal_reply, listing_reply, made_reply, done_reply, items_reply, share_reply, shares_reply, plain_reply, versions_reply}
use Rattle.nf_dav.specs.declared.replies.Manner.{Manner}
use Rattle.nf_routes.specs.Targets.{is_ocs}
use Rattle.nf_session.specs.Book.{denial_of_piece}
use Rattle.nf_session.specs.Files.{SendsFile}
use Rattle.nf_session.specs.Steps.{Scene, Heads, Invites, Judges, TakesEarly, TakesIn, Says, Closes, EndsBy, is_granted, is_unsent}
use Rattle.nf_session.specs.declared.backend.Ending.{Ending}
use Rattle.nf_session.specs.declared.backend.Ending.TheVariants as ending
use Rattle.nf_session.specs.declared.begun.Begun.{Begun}
use Rattle.nf_session.specs.declared.ended.Ended.{Ended}
use Rattle.nf_session.specs.declared.ended.Ended.TheVariants as ended
use Rattle.nf_session.specs.declared.response.Response.{Response}
use Rattle.nf_session.specs.declared.response.Response.TheVariants as response

-- ---- how a response ends the session

-- a message may close it
abbrev pub end_of_close : Bool → Option Ended
end_of_close closes = if closes then Some ended.Closed else None

-- what finds the run full ends it by itself
abbrev pub end_of_denial : Bool → Denial → Option Ended
end_of_denial closes denial.RunFull = Some ended.RunFull
end_of_denial closes refusal = end_of_close closes

abbrev pub end_of : Bool → Response → Option Ended
end_of closes (response.Denied refusal) = end_of_denial closes refusal
end_of closes (response.Lost fault) = end_of_close closes
end_of closes (response.File content first) = end_of_close closes
end_of closes response.Made = end_of_close closes
end_of closes response.Done = end_of_close closes
end_of closes (response.Listing lines) = end_of_close closes
end_of closes (response.Share line) = end_of_close closes
end_of closes (response.Shares lines) = end_of_close closes
end_of closes (response.Items lines) = end_of_close closes
end_of closes (response.Versions lines) = end_of_close closes
end_of closes response.Plain = end_of_close closes

-- ---- the response

-- how a message is to be answered: whether it closes the session, is an OCS request, and has no body in its answer
pub record Way : Type 0 where
  pub closes : Bool
  pub ocs : Bool
  pub head_only : Bool

abbrev pub way_by : Bool → Head → Way
way_by closes head = record { closes = closes; ocs = is_ocs head.target; head_only = bytes_eq head.method (codes "HEAD") }

-- a message closes the session by itself, or by its body that wasn't sent
abbrev pub way_of : Head → Begun → Way
way_of head begun = way_by (closes_session head || is_unsent head begun) head

-- the response says that the session ends exactly where it does by this message
abbrev pub says_close : Bool → Way → Response → Bool
says_close last way v = last || is_some (end_of way.closes v)

abbrev pub manner_of : Bool → Way → Response → Manner
manner_of last way v = record { close = says_close last way v; ocs = way.ocs; head_only = way.head_only }

abbrev pub Writes : {C T : Type 0} → Manner → Response → Scene C → Scene C → Result T Ended → Type 0
Writes manner (response.Denied refusal) a b result = Says a b (refusal_reply manner refusal) result
Writes manner (response.Lost fault) a b result = Says a b (refusal_reply manner (denial_of_piece fault)) result
Writes manner (response.File content first) a b result = SendsFile manner.close content first a b result
Writes manner response.Made a b result = Says a b (made_reply manner.close) result
Writes manner response.Done a b result = Says a b (done_reply manner.close) result
Writes manner (response.Listing lines) a b result = Says a b (listing_reply manner.close lines) result
Writes manner (response.Share line) a b result = Says a b (share_reply manner.close line) result
Writes manner (response.Shares lines) a b result = Says a b (shares_reply manner.close lines) result
Writes manner (response.Items lines) a b result = Says a b (items_reply manner.close lines) result
Writes manner (response.Versions lines) a b result = Says a b (versions_reply manner.close lines) result
Writes manner response.Plain a b result = Says a b (plain_reply manner.close) result

-- the response is written, and how it ends the session; or what kept it from being written
abbrev pub Responds : {C : Type 0} → Bool → Way → Response → Scene C → Scene C → Result (Option Ended) Ended → Type 0
Responds last way v a b (Ok end) = (end ≡ end_of way.closes v) × Writes {T = Unit {0}} (manner_of last way v) v a b (Ok tt)
Responds last way v a b (Err by) = Writes {T = Unit {0}} (manner_of last way v) v a b (Err by)

-- what is still granted while it is written
abbrev pub stays_granted : Response → Bool
stays_granted (response.File content first) = true
stays_granted (response.Lost fault) = true
stays_granted (response.Denied refusal) = false
stays_granted response.Made = false
stays_granted response.Done = false
stays_granted (response.Listing lines) = false
stays_granted (response.Share line) = false
stays_granted (response.Shares lines) = false
stays_granted (response.Items lines) = false
stays_granted (response.Versions lines) = false
stays_granted response.Plain = false

-- a file that was written whole is sent
abbrev pub how_of : {T : Type 0} → Response → Result T Ended → Ending
how_of (response.File content first) (Ok sent) = ending.Sent
how_of (response.File content first) (Err end) = ending.Gone
how_of (response.Lost fault) result = ending.Gone
how_of (response.Denied refusal) result = ending.Gone
how_of response.Made result = ending.Gone
how_of response.Done result = ending.Gone
how_of (response.Listing lines) result = ending.Gone
how_of (response.Share line) result = ending.Gone
how_of (response.Shares lines) result = ending.Gone
how_of (response.Items lines) result = ending.Gone
how_of (response.Versions lines) result = ending.Gone
how_of response.Plain result = ending.Gone

-- how the message ends the session: by what kept its response from being written, or as the response says
abbrev pub end_by : Result (Option Ended) Ended → Option Ended
end_by (Ok end) = end
end_by (Err by) = Some by

-- ---- a message

-- the body was taken, and the message answered
pub record Answers {C : Type 0} (reads : C → Taken → C → Type 0) (last : Bool) (head : Head) (begun : Begun)
    (a b : Scene C) (end : Option Ended) : Type 0 where
  pub taken : Scene C
  pub sent : Scene C
  pub response : Response
  pub result : Result (Option Ended) Ended
  pub takes : TakesIn reads head a taken begun (Ok response)
  pub responds : Responds last (way_of head begun) response taken sent result
  pub closes : Closes reads (how_of response result) (stays_granted response) sent b
  pub ends : end ≡ end_by result

-- or it was cut: what was granted is gone
pub record CutsShort {C : Type 0} (reads : C → Taken → C → Type 0) (head : Head) (begun : Begun)
    (a b : Scene C) (end : Option Ended) : Type 0 where
  pub cut : Scene C
  pub sent : Scene C
  pub fault : WireFault
  pub by : Ended
  pub takes : TakesIn reads head a cut begun (Err fault)
  pub responds : EndsBy fault cut sent by
  pub closes : Closes reads ending.Gone (is_granted begun) sent b
  pub ends : end ≡ Some by

-- or its sender couldn't be told to send it: what was granted is gone
pub record StopsShort {C : Type 0} (reads : C → Taken → C → Type 0) (head : Head) (begun : Begun)
    (a b : Scene C) (end : Option Ended) : Type 0 where
  pub sent : Scene C
  pub by : Ended
  pub invites : Invites {T = Unit {0}} head begun a sent (Err by)
  pub closes : Closes reads ending.Gone (is_granted begun) sent b
  pub ends : end ≡ Some by

-- a body that is taken before the request is looked for was cut: nothing was asked
pub record CutsEarly {C : Type 0} (head : Head) (a b : Scene C) (end : Option Ended) : Type 0 where
  pub cut : Scene C
  pub fault : WireFault
  pub by : Ended
  pub takes : TakesEarly head a cut (Err fault)
  pub responds : EndsBy fault cut b by
  pub ends : end ≡ Some by

-- the request is judged, and whoever waits for it is told to send the body
abbrev pub MeetsWith : {C : Type 0} → (C → Taken → C → Type 0) → Bool → Head → List ℕ → Scene C → Scene C → Option Ended → Type 0
MeetsWith {C} reads last head body a b end =
    (m : Scene C) × (begun : Begun) × Judges reads head body a m begun
    × (StopsShort reads head begun m b end
    ⊎ ((n : Scene C) × Invites {T = Unit {0}} head begun m n (Ok tt)
    × (Answers reads last head begun n b end ⊎ CutsShort reads head begun n b end)))

-- what becomes of a head that was taken: the body that its request may go by is taken, or cut; and the request is met
abbrev pub Meets : {C : Type 0} → (C → Taken → C → Type 0) → Bool → Head → Scene C → Scene C → Option Ended → Type 0
Meets {C} reads last head a b end =
    CutsEarly head a b end
    ⊎ ((m : Scene C) × (body : List ℕ) × TakesEarly head a m (Ok body) × MeetsWith reads last head body m b end)

-- one turn: the input ended; or no message stands at its front; or one was taken
abbrev pub Turn : {C : Type 0} → (C → Taken → C → Type 0) → Bool → Scene C → Scene C → Option Ended → Type 0
Turn {C} reads last a b end =
    (Heads a b (Ok None) × (end ≡ Some ended.Closed))
    ⊎ ((m : Scene C) × (fault : WireFault) × (by : Ended) × Heads a m (Err fault) × EndsBy fault m b by
    × (end ≡ Some by))
    ⊎ ((m : Scene C) × (head : Head) × Heads a m (Ok (Some head)) × Meets reads last head m b end)
