-- What is acknowledged is stored.
use Rattle.std.specs.Prelude.{ℕ, Bool, List, Option, Some, Ok}
use Rattle.std.specs.Option.{IfSome}
use Rattle.nf_http.specs.Head.{Head}
use Rattle.nf_outside.specs.Lent.{Taken}
use Rattle.nf_session.specs.Prelude.{Answers, Heads, Invites, Judges, Scene, TakesEarly, TellsRows}
use Rattle.nf_session.specs.declared.begun.Begun.{Begun}
use Rattle.nf_session.specs.declared.ended.Ended.{Ended}
use Rattle.nf_session.specs.declared.response.Response.{Response}
use Rattle.nf_session.specs.declared.response.Response.TheVariants as response

-- the answer's status is below 300: something was made or done, or shares, the trash, a folder or a file are told
abbrev pub IsBelow300 : Response → Type 0
IsBelow300 response.Made = Unit {0}
IsBelow300 response.Done = Unit {0}
IsBelow300 (response.Listing lines) = Unit {0}
IsBelow300 (response.Share line) = Unit {0}
IsBelow300 (response.Shares lines) = Unit {0}
IsBelow300 (response.Items lines) = Unit {0}
IsBelow300 (response.Versions lines) = Unit {0}
IsBelow300 response.Plain = Unit {0}
IsBelow300 (response.File content first) = Unit {0}
IsBelow300 (response.Denied refusal) = ⊥
IsBelow300 (response.Lost fault) = ⊥

-- a turn took a head, and its message was answered so
pub record Acknowledges {C : Type 0} (reads : C → Taken → C → Type 0) (last : Bool) (a b : Scene C) (end : Option Ended) : Type 0 where
  pub head : Head
  pub behind : Scene C
  pub heads : Heads a behind (Ok (Some head))
  pub taken : Scene C
  pub early : List ℕ
  pub takes : TakesEarly head behind taken (Ok early)
  pub judged : Scene C
  pub begun : Begun
  pub judges : Judges reads head early taken judged begun
  pub invited : Scene C
  pub invites : Invites {T = Unit {0}} head begun judged invited (Ok tt)
  pub answers : Answers reads last head begun invited b end
  pub below : IsBelow300 answers.response

-- over a store that tells, what it has by then are the rows of all that the seat has seen, the message's own steps among it; this is so
-- also where the answer isn't written whole
abbrev pub AcknowledgedIsStored : {C : Type 0} → (C → Taken → C → Type 0) → Type 0
AcknowledgedIsStored {C} reads =
    (last : Bool) (a b : Scene C) (end : Option Ended) → Acknowledges reads last a b end → IfSome b.book.told (λ _. TellsRows b.book)
