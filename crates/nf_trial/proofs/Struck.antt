-- What the store failed at is a strike of the seat.
use Rattle.std.proofs.Common.{◌≡◌, ◌∙◌, ℕ, ◌≤◌, ◌||◌, Bool, true, false, List, Result, Err, sym, refl, subst, arith, inl, inr}
use Rattle.std.specs.Prelude.{MatchBool, Vec}
use Rattle.std.specs.declared.alloc.Global.{Global}
use Rattle.nf_base.specs.declared.content.Piece.{Piece}
use Rattle.nf_session.specs.Book.{Answer, Begins, Book, Ends, Enters, GivesPiece, Passes, Strikes, Struck, is_unmade, state_after}
use Rattle.nf_session.specs.Laws.{is_failed}
use Rattle.nf_session.specs.declared.backend.Backend.{Ghosts as BackendOf}
use Rattle.nf_session.specs.declared.backend.Ending.{Ending}
use Rattle.nf_session.specs.declared.backend.Ending.TheVariants as ending
use Rattle.nf_session.specs.declared.backend.PieceFault.{PieceFault}
use Rattle.nf_session.specs.declared.backend.PieceFault.TheVariants as fault
use Rattle.nf_words.specs.declared.answer.Denial.TheVariants as denial
use Rattle.nf_words.specs.declared.history.Event.{Event}
use Rattle.nf_words.specs.declared.history.Mark.{Mark}
use Rattle.nf_words.specs.declared.history.Mark.TheVariants as mark
use Rattle.nf_words.specs.declared.request.Request.{Request}
use Rattle.nf_words.specs.declared.request.Words.{Words}
use Rattle.nf_words.proofs.Marks.{marked_store}
use Rattle.nf_trial.specs.Noted.{IsNoted, Watched, is_lost}
use Rattle.nf_trial.specs.Trials.{Risen}

-- ---- counts

struck_risen : (a b : ℕ) → Struck a b → Risen a b
struck_risen a b struck = grind arith

risen_on : (a b c : ℕ) → Risen a b → b ≤ c → Risen a c
risen_on a b c (inl less) on = inl (omega arith)
risen_on a b c (inr most) on = inr (omega arith)

on_risen : (a b c : ℕ) → a ≤ b → Risen b c → Risen a c
on_risen a b c on (inl less) = inl (omega arith)
on_risen a b c on (inr most) = inr most

-- ---- answers

is_store : (answer : Answer) → is_failed answer ≡ true → answer ≡ Err denial.Store
is_store (Err denial.Store) failed = refl
is_store answer failed = cc

enters_struck : (a b : Book) (now : ℕ) (event : Event) (answer : Answer) → Enters a b now event answer → answer ≡ Err denial.Store
    → Struck a.strikes b.strikes
enters_struck a b now event answer enters is =
    let marked : enters.entry.mark ≡ mark.Store = (marked_store (state_after a enters.others) enters.entry).0 (sym enters.answer_is ∙ is) in
    subst (λ (m : Mark). Strikes m a.strikes b.strikes) marked enters.strikes

entered : (answer : Answer) (P Q : Type 0) → answer ≡ Err denial.Store → MatchBool (is_unmade answer) P Q → Q
entered answer P Q is = subst (λ (x : Answer). MatchBool (is_unmade x) P Q → Q) (sym is) (λ q. q)

pub begins_struck : (a b : Book) (now : ℕ) (words : Words) (request : Request) (answer : Answer) → Begins a b now words request answer
    → is_failed answer ≡ true → Risen a.strikes b.strikes
begins_struck a b now words request answer begins failed =
    let is = is_store answer failed in
    struck_risen a.strikes b.strikes (enters_struck a b now _ answer (entered answer _ _ is begins.entry) is)

begun_lasts : (a b : Book) (now : ℕ) (event : Event) (answer : Answer) (unmade : Bool)
    → MatchBool unmade (Passes a b) (Enters a b now event answer) → a.strikes ≤ b.strikes
begun_lasts a b now event answer true passes = passes.waits.lasts.strikes
begun_lasts a b now event answer false enters = enters.lasts.strikes

pub begins_lasts : (a b : Book) (now : ℕ) (words : Words) (request : Request) (answer : Answer) → Begins a b now words request answer
    → a.strikes ≤ b.strikes
begins_lasts a b now words request answer begins = begun_lasts a b now _ answer (is_unmade answer) begins.entry

pub ends_struck : (a b : Book) (now : ℕ) (how : Ending) (answer : Answer) → Ends a b now how answer → is_failed answer ≡ true
    → Risen a.strikes b.strikes
ends_struck a b now ending.Sent answer ends failed = absurd (cc (sym (is_store answer failed) ∙ ends.answered))
ends_struck a b now ending.Gone answer ends failed = absurd (cc (sym (is_store answer failed) ∙ ends.answered))
ends_struck a b now (ending.Body bytes) answer ends failed =
    struck_risen a.strikes b.strikes (enters_struck a b now _ answer ends.enters (is_store answer failed))

pub ends_lasts : (a b : Book) (now : ℕ) (how : Ending) (answer : Answer) → Ends a b now how answer → a.strikes ≤ b.strikes
ends_lasts a b now ending.Sent answer ends = ends.enters.lasts.strikes
ends_lasts a b now ending.Gone answer ends = ends.enters.lasts.strikes
ends_lasts a b now (ending.Body bytes) answer ends = ends.enters.lasts.strikes

pub piece_struck : (a b : Book) (content : List Piece) (index : ℕ) (result : Result (Vec ℕ Global) PieceFault)
    → GivesPiece a b content index result → is_lost result ≡ true → Risen a.strikes b.strikes
piece_struck a b content index (Err fault.Store) gives lost = struck_risen a.strikes b.strikes gives.given
piece_struck a b content index result gives lost = cc

pub piece_lasts : (a b : Book) (content : List Piece) (index : ℕ) (result : Result (Vec ℕ Global) PieceFault)
    → GivesPiece a b content index result → a.strikes ≤ b.strikes
piece_lasts a b content index result gives = gives.waits.lasts.strikes

-- ---- what is noted

or_true : (x y : Bool) (P : Type 0) → (x ≡ true → P) → (y ≡ true → P) → (x || y) ≡ true → P
or_true true y P left right is = left refl
or_true false y P left right is = right is

-- behind a call that counts what it failed at
pub still_noted : {B L : Type 0} (k : BackendOf B L) (w : Watched B) (after : B) (failed : Bool) → IsNoted k w
    → (k.book w.backend).strikes ≤ (k.book after).strikes → (failed ≡ true → Risen (k.book w.backend).strikes (k.book after).strikes)
    → IsNoted k (record w { backend = after; has_failed = w.has_failed || failed })
still_noted k w after failed noted lasts struck = record {
  lasts = omega (arith, noted.lasts, lasts);
  counted = or_true w.has_failed failed _
      (λ had. risen_on _ _ _ (noted.counted had) lasts)
      (λ now. on_risen _ _ _ noted.lasts (struck now));
}
