-- What each step of a turn touches.
use Rattle.std.proofs.Common.{ℕ, ◌≡◌, Bool, true, false, List, [], ◌∷◌, Option, Result, Ok, Err, refl, sym, ap, subst, ◌∙◌}
use Rattle.nf_http.specs.Head.{Head}
use Rattle.nf_outside.specs.Lent.{Taken}
use Rattle.nf_words.specs.declared.answer.Goal.TheVariants as goal
use Rattle.nf_words.specs.declared.answer.Reply.TheVariants as reply
use Rattle.nf_base.specs.declared.content.Piece.{Piece}
use Rattle.nf_session.specs.Prelude.{Book, Closes, Judges, OnlyAsks, OnlyWrites, Passes, Responds, Says, Scene, Starts, Way}
use Rattle.nf_session.specs.declared.backend.Ending.{Ending}
use Rattle.nf_session.specs.declared.begun.Begun.{Begun}
use Rattle.nf_session.specs.declared.begun.Begun.TheVariants as begun
use Rattle.nf_session.specs.declared.ended.Ended.{Ended}
use Rattle.nf_session.specs.declared.ended.Ended.TheVariants as ended
use Rattle.nf_session.specs.declared.response.Response.{Response}
use Rattle.nf_session.specs.declared.response.Response.TheVariants as response
use Rattle.nf_promises.specs.Kept.{SaysStored}

asks_none : {C : Type 0} (a b : Scene C) → b ≡ a → OnlyAsks a b
asks_none {C} a b same = subst (λ (x : Scene C). OnlyAsks a x) (sym same) refl

asks_book : {C : Type 0} (a b : Scene C) → b ≡ record a { book = b.book } → OnlyAsks a b
asks_book {C} a b only = only ∙ ap (λ (c : C). record a { book = b.book; lent = c }) (sym (ap (λ (x : Scene C). x.lent) only))

writes_none : {C : Type 0} (a b : Scene C) → b ≡ a → OnlyWrites a b
writes_none {C} a b same = subst (λ (x : Scene C). OnlyWrites a x) (sym same) refl

writes_all : {C : Type 0} (a b : Scene C) → b ≡ record a { output = b.output } → OnlyWrites a b
writes_all {C} a b only =
    only ∙ ap (λ (n : ℕ). record a { output = b.output; write_faults = n }) (sym (ap (λ (x : Scene C). x.write_faults) only))

-- ---- the book, the clock and the dice alone

pub judges_only : {C : Type 0} (reads : C → Taken → C → Type 0) (head : Head) (early : List ℕ) (a b : Scene C) (v : Begun)
    → Judges reads head early a b v → OnlyAsks a b
judges_only reads head early a b (begun.Unasked refusal) (is, same) = asks_none a b same
judges_only reads head early a b (begun.Asked answer) (r, now, words, asked, read, begins, only) = only

pub passes_only : {C : Type 0} (reads : C → Taken → C → Type 0) (body : List ℕ) (a b : Scene C) (begun : Begun) (v : Response)
    → Passes reads body a b begun v → OnlyAsks a b
passes_only reads body a b (begun.Unasked refusal) v (is, same) = asks_none a b same
passes_only reads body a b (begun.Asked (Ok (reply.Granted (goal.Serve content)))) v starts = asks_book a b starts.only
passes_only reads body a b (begun.Asked (Ok (reply.Granted (goal.Store by key length)))) v (now, answer, read, ends, is, only) = only
passes_only reads body a b (begun.Asked (Ok (reply.Granted (goal.Chunk user dir number length)))) v (now, answer, read, ends, is, only) = only
passes_only reads body a b (begun.Asked other) v passes = asks_none a b passes.1

pub closes_only : {C : Type 0} (reads : C → Taken → C → Type 0) (how : Ending) (granted : Bool) (a b : Scene C) → Closes reads how granted a b
    → OnlyAsks a b
closes_only reads how true a b (now, read, ends, only) = only
closes_only reads how false a b same = asks_none a b same

-- ---- the first piece

-- what a file's first piece isn't responded by
abbrev pub StartsOther : Response → Type 0
StartsOther (response.File content first) = Unit {0}
StartsOther (response.Lost fault) = Unit {0}
StartsOther other = ⊥

pub starts_other : (a b : Book) (content : List Piece) (v : Response) → Starts a b content v → StartsOther v
starts_other a b content (response.File other first) starts = tt
starts_other a b content (response.Lost fault) starts = tt
starts_other a b [] other never = never
starts_other a b (piece ∷ pieces) other never = never

-- ---- the output alone

pub says_only : {C T : Type 0} (a b : Scene C) (bytes : List ℕ) (result : Result T Ended) → Says a b bytes result → OnlyWrites a b
says_only a b bytes (Ok sent) wrote = writes_all a b wrote.only
says_only a b bytes (Err ended.Memory) same = writes_none a b same
says_only a b bytes (Err ended.WriteFault) part = part.only
says_only a b bytes (Err other) never = absurd never

pub stored_only : {C : Type 0} (last : Bool) (way : Way) (v : Response) (a b : Scene C) (result : Result (Option Ended) Ended) → SaysStored v
    → Responds last way v a b result → OnlyWrites a b
stored_only last way response.Made a b (Ok end) says (is, wrote) = writes_all a b wrote.only
stored_only last way response.Made a b (Err by) says wrote = says_only {T = Unit {0}} a b _ (Err by) wrote
stored_only last way response.Done a b (Ok end) says (is, wrote) = writes_all a b wrote.only
stored_only last way response.Done a b (Err by) says wrote = says_only {T = Unit {0}} a b _ (Err by) wrote
stored_only last way other a b result says responds = absurd says

-- ---- one of these

pub book_of : {C : Type 0} (a b : Scene C) → OnlyWrites a b → b.book ≡ a.book
book_of {C} a b only = ap (λ (x : Scene C). x.book) only

pub output_of : {C : Type 0} (a b : Scene C) → OnlyAsks a b → b.output ≡ a.output
output_of {C} a b only = ap (λ (x : Scene C). x.output) only

pub input_of : {C : Type 0} (a b : Scene C) → OnlyAsks a b → b.input ≡ a.input
input_of {C} a b only = ap (λ (x : Scene C). x.input) only
