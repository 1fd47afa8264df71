-- How a history grows by each step of a turn, and what a seat's own entries make of its state, where no other's came between.
use Rattle.std.proofs.Common.{ℕ, ◌≡◌, Option, Result, ap, arith, List, [], ◌++◌, length, sym, subst, ◌∙◌}
use Rattle.nf_http.specs.Head.{Head}
use Rattle.nf_http.specs.declared.wire.WireFault.{WireFault}
use Rattle.nf_session.specs.Prelude.{Answer, Book, Enters, Heads, Lasts, Scene, state_after, state_of}
use Rattle.nf_session.proofs.Moving.{Moves, no_others}
use Rattle.nf_promises.specs.Kept.{OnlyOwn}
use Rattle.std.proofs.lemmas.List.{append-nil}
use Rattle.nf_words.proofs.Histories.{replay_more}
use Rattle.nf_words.specs.Prelude.{after, answer_at, MayCome, opened, replay, State}
use Rattle.nf_words.specs.declared.history.Entry.{Entry}
use Rattle.nf_words.specs.declared.history.Event.{Event}
use Rattle.nf_base.specs.declared.rows.Row.{Row}

pub heads_same : {C : Type 0} (a b : Scene C) (result : Result (Option Head) WireFault) → Heads a b result → b.book ≡ a.book
heads_same {C} a b result heads = ap (λ (x : Scene C). x.book) heads.only

-- where no other's entry came between two books, none did between two others on the way
pub only_within : {a x y c : Book} {n m k p q r : ℕ} → Moves a x n p → Moves x y m q → Moves y c k r → OnlyOwn a c → OnlyOwn x y
only_within first middle last only =
    omega (arith, first.onward.lasts.entries, middle.onward.lasts.entries, last.onward.lasts.entries, only)

pub only_first : (a m b : Book) → Lasts a m → Lasts m b → OnlyOwn a b → OnlyOwn a m
only_first a m b first last only = omega (arith, first.entries, last.entries, only)

pub only_last : (a m b : Book) → Lasts a m → Lasts m b → OnlyOwn a b → OnlyOwn m b
only_last a m b first last only = omega (arith, first.entries, last.entries, only)

pub same_state : (a : Book) (others : List Entry) → others ≡ [] → state_after a others ≡ state_of a
same_state a others none =
    ap (λ (es : List Entry). replay (opened a.opening) (a.known ++ es)) none ∙ ap (replay (opened a.opening)) (append-nil a.known)

-- ---- an entry of the seat's own that follows

pub record Entered (a b : Book) (entry : Entry) (event : Event) (answer : Answer) : Type 0 where
  pub event_is : entry.event ≡ event
  pub seat_is : entry.seat ≡ a.seat
  pub count : ℕ
  pub may : MayCome count (state_of a) entry
  pub answer_is : answer_at (state_of a) entry entry.mark ≡ answer
  pub state : state_of b ≡ after (state_of a) entry

pub entered : (a b : Book) (now : ℕ) (event : Event) (answer : Answer) (enters : Enters a b now event answer) → OnlyOwn a b
    → Entered a b enters.entry event answer
entered a b now event answer enters only =
    let same : state_after a enters.others ≡ state_of a = same_state a enters.others (no_others a b now event answer enters only) in
    record {
      event_is = enters.event_is;
      seat_is = enters.seat_is;
      count = length (a.known ++ enters.others);
      may = subst (λ (s : State). MayCome (length (a.known ++ enters.others)) s enters.entry) same enters.may_come;
      answer_is = ap (λ (s : State). answer_at s enters.entry enters.entry.mark) (sym same) ∙ sym enters.answer_is;
      state = ap (λ (rows : List Row). replay (opened rows) b.known) enters.lasts.opening
          ∙ ap (replay (opened a.opening)) enters.known
          ∙ replay_more (opened a.opening) (a.known ++ enters.others) enters.entry
          ∙ ap (λ (s : State). after s enters.entry) same;
    }
