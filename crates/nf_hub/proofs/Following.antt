-- What a call does after others' entries came: the same, from what the seat knew before them.
use Rattle.std.proofs.Common.{◌≡◌, ℕ, max, List, [], ◌∷◌, ◌++◌, length, ap, ◌∙◌, subst, append_assoc, Result, Ok, Err}
use Rattle.std.specs.Prelude.{Bool, true, false, IfSome, OnOk, MatchBool, Vec}
use Rattle.std.specs.declared.alloc.Global.{Global}
use Rattle.nf_base.specs.declared.content.Piece.{Piece}
use Rattle.nf_session.specs.Book.{Answer, Begins, Book, EndsBody, EndsEmpty, Enters, GivesOrFails, GivesPiece, Passes, Stores, Strikes, Struck, is_unmade, state_after}
use Rattle.nf_session.specs.declared.backend.PieceFault.{PieceFault}
use Rattle.nf_session.specs.declared.backend.PieceFault.TheVariants as fault
use Rattle.nf_session.proofs.Lasting.{lasts_then, waits_then}
use Rattle.nf_words.specs.Prelude.{answer_at, MayCome, opened, replay, State}
use Rattle.nf_words.specs.declared.history.Entry.{Entry}
use Rattle.nf_words.specs.declared.history.Event.{Event}
use Rattle.nf_words.specs.declared.history.Event.TheVariants.{Begin}
use Rattle.nf_words.specs.declared.history.Outcome.{Outcome}
use Rattle.nf_words.specs.declared.request.Request.{Request}
use Rattle.nf_words.specs.declared.request.Words.{Words}

module _ (a m b : Book) (first : Passes a m) where
  abbrev pub come : List Entry
  come = first.waits.known.0

  -- the entries before a further one, seen from before the others
  pub seen_same : (others : List Entry) → m.known ++ others ≡ a.known ++ (come ++ others)
  seen_same others =
      ap (λ (es : List Entry). es ++ others) first.waits.known.1 ∙ append_assoc a.known first.waits.known.0 others

  pub state_same : (others : List Entry) → state_after m others ≡ state_after a (come ++ others)
  state_same others = λ i. replay (opened (first.waits.lasts.opening i)) (seen_same others i)

  pub passes_after : Passes m b → Passes a b
  passes_after passes = record {
    waits = waits_then a m b first.waits passes.waits;
    unstruck = passes.unstruck ∙ first.unstruck;
  }

  unfoldable pub enters_after : (now : ℕ) (event : Event) (answer : Answer) → Enters m b now event answer → Enters a b now event answer
  enters_after now event answer enters =
      let before = seen_same enters.others in
      let state = state_same enters.others in
      record {
        lasts = lasts_then a m b first.waits.lasts enters.lasts;
        others = come ++ enters.others;
        entry = enters.entry;
        own = enters.own ∙ ap (λ (own : List (Entry × Answer)). own ++ (enters.entry, answer) ∷ []) first.waits.own;
        known = enters.known ∙ ap (λ (es : List Entry). es ++ enters.entry ∷ []) before;
        seat_is = enters.seat_is ∙ first.waits.lasts.seat;
        event_is = enters.event_is;
        moment_is = enters.moment_is ∙ ap (λ (s : State). max s.seen now) state;
        answer_is = enters.answer_is ∙ ap (λ (s : State). answer_at s enters.entry enters.entry.mark) state;
        strikes = subst (λ (n : ℕ). Strikes enters.entry.mark n b.strikes) first.unstruck enters.strikes;
        may_come = subst (λ (es : List Entry). MayCome (length es) (state_after a (come ++ enters.others)) enters.entry) before
            (subst (λ (s : State). MayCome (length (m.known ++ enters.others)) s enters.entry) state enters.may_come);
        rows = enters.rows;
      }

  pub begins_after : (now : ℕ) (words : Words) (request : Request) (answer : Answer)
      → Begins m b now words request answer → Begins a b now words request answer
  begins_after now words request answer begins = record {
    entry = here (is_unmade answer) begins.entry;
    answered = begins.answered;
    full = begins.full;
    room = begins.room;
  }
    where
      here : (unmade : Bool) → MatchBool unmade (Passes m b) (Enters m b now (Begin words request) answer)
          → MatchBool unmade (Passes a b) (Enters a b now (Begin words request) answer)
      here true passes = passes_after passes
      here false enters = enters_after now (Begin words request) answer enters

  -- ---- pieces

  given_after : (piece : Piece) (result : Result (Vec ℕ Global) PieceFault) → GivesOrFails m b piece result → GivesOrFails a b piece result
  given_after piece (Ok bytes) given = (given.0, given.1 ∙ first.unstruck)
  given_after piece (Err fault.Store) given = subst (λ (n : ℕ). Struck n b.strikes) first.unstruck given
  given_after piece (Err (fault.Damaged damage)) given = (given.0 ∙ first.unstruck, given.1, given.2)
  given_after piece (Err fault.Memory) given = given ∙ first.unstruck

  pub gives_after : (content : List Piece) (index : ℕ) (result : Result (Vec ℕ Global) PieceFault)
      → GivesPiece m b content index result → GivesPiece a b content index result
  gives_after content index result gives = record {
    waits = waits_then a m b first.waits gives.waits;
    piece = gives.piece;
    at_index = gives.at_index;
    given = given_after gives.piece result gives.given;
  }

  -- ---- the End

  pub ends_empty_after : (now : ℕ) (how : Outcome) (answer : Answer) → EndsEmpty m b now how answer → EndsEmpty a b now how answer
  ends_empty_after now how answer ends = record {
    enters = enters_after now _ answer ends.enters;
    answered = ends.answered;
  }

  pub ends_body_after : (now : ℕ) (body : List ℕ) (answer : Answer) → EndsBody m b now body answer → EndsBody a b now body answer
  unfolding enters_after
  ends_body_after now body answer ends = record {
    enters = enters_after now _ answer ends.enters;
    answered = ends.answered;
    stored = subst (λ (s : State). OnOk answer (IfSome b.told (Stores s ends.enters.entry body))) (state_same ends.enters.others) ends.stored;
  }
