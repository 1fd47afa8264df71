-- Which turns bring the bodies of chunks, and read files.
use Rattle.std.specs.Prelude.{◌≡◌, ℕ, Bool, List, Option, Ok, Vec}
use Rattle.std.specs.declared.alloc.Global.{Global}
use Rattle.nf_base.specs.declared.content.Piece.{Piece}
use Rattle.nf_http.specs.Head.{Head}
use Rattle.nf_joins.specs.Bytes.{ReadsOut}
use Rattle.nf_outside.specs.Lent.{Taken}
use Rattle.nf_session.specs.Prelude.{Answers, Bodies, Invites, Judges, Scene, StoresBody}
use Rattle.nf_session.specs.declared.begun.Begun.TheVariants as begun
use Rattle.nf_session.specs.declared.ended.Ended.{Ended}
use Rattle.nf_session.specs.declared.response.Response.TheVariants as response
use Rattle.nf_words.specs.declared.answer.Goal.TheVariants as goal
use Rattle.nf_words.specs.declared.answer.Reply.TheVariants as reply

-- a turn that was granted to take a chunk's body, and answered that it was made, took one of that length from its input and brought it to its End
abbrev pub TurnsBring : {C : Type 0} → (C → Taken → C → Type 0) → Type 0
TurnsBring {C} reads =
    (last : Bool) (head : Head) (a b : Scene C) (user : ℕ) (dir : List ℕ) (number size : ℕ) (end : Option Ended)
    → (answers : Answers reads last head (begun.Asked (Ok (reply.Granted (goal.Chunk user dir number size)))) a b end)
    → answers.response ≡ response.Made
    → (taken : Scene C) × (body : List ℕ) × Bodies a taken size body × StoresBody reads body taken answers.taken response.Made

-- a turn that was granted a content, and wrote its answer, a file, whole, read it out
abbrev pub TurnsRead : {C : Type 0} → (C → Taken → C → Type 0) → Type 0
TurnsRead {C} reads =
    (last : Bool) (head : Head) (early : List ℕ) (k m a b : Scene C) (content other : List Piece) (first : Option (Vec ℕ Global))
    (end ended : Option Ended)
    → Judges reads head early k m (begun.Asked (Ok (reply.Granted (goal.Serve content))))
    → Invites {T = Unit {0}} head (begun.Asked (Ok (reply.Granted (goal.Serve content)))) m a (Ok tt)
    → (answers : Answers reads last head (begun.Asked (Ok (reply.Granted (goal.Serve content)))) a b end)
    → answers.response ≡ response.File other first → answers.result ≡ Ok ended
    → ReadsOut k.book m.book answers.taken answers.sent content
