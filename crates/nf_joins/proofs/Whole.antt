-- What was sent in chunks is what is read, over a whole run.
use Rattle.std.proofs.Common.{◌≡◌, ℕ, ◌+◌, List, ◌∷◌, ◌++◌, length, Ok, sym, ap, subst, ◌∙◌, arith}
use Rattle.std.specs.List.{concat}
use Rattle.std.specs.Io.KnownBytes.{Appends}
use Rattle.std.proofs.lemmas.List.Elements.{filter_passes}
use Rattle.nf_base.specs.Content.{size_of}
use Rattle.nf_base.specs.declared.content.Piece.{Piece}
use Rattle.nf_base.specs.declared.rows.ChunkRow.{ChunkRow}
use Rattle.nf_dav.specs.Reply.{file_head}
use Rattle.nf_joins.proofs.Bodies.{both_told}
use Rattle.nf_joins.proofs.Coming.{all_came}
use Rattle.nf_joins.proofs.Fronts.{legal_behind, legal_front, replay_on}
use Rattle.nf_joins.proofs.Giving.{all_given, sizes}
use Rattle.nf_joins.proofs.Reading.{joined_read}
use Rattle.nf_joins.proofs.Rows.{upload_found}
use Rattle.nf_joins.specs.Bytes.{AreOfBodies, Came, IsOfBodies, OwnTellOn, Run}
use Rattle.nf_joins.specs.Joined.{content_at, IsReadAs}
use Rattle.nf_outside.specs.Lent.{Taken}
use Rattle.nf_session.proofs.Lasting.{tells_for}
use Rattle.nf_session.specs.Prelude.{HaveBytes, IsGiven, next_blob_of, OthersCame}
use Rattle.nf_words.proofs.Wholes.{chunks_numbers_rise}
use Rattle.nf_words.specs.Prelude.{after, answer_at, answer_to, chunks_of, IsLegalFrom, is_chunk_of, MayAsk, MayWant, opened, replay, State, whole_of}
use Rattle.nf_words.specs.declared.answer.Goal.TheVariants.{Serve}
use Rattle.nf_words.specs.declared.answer.Reply.{Reply}
use Rattle.nf_words.specs.declared.answer.Reply.TheVariants.{Granted}
use Rattle.nf_words.specs.declared.history.Entry.{Entry}
use Rattle.nf_words.specs.declared.history.Event.{Event}
use Rattle.nf_words.specs.declared.history.Event.TheVariants.{Begin}
use Rattle.nf_words.specs.declared.history.Mark.{Mark}
use Rattle.nf_words.specs.declared.history.Mark.TheVariants as mark

-- what one seat's store tells goes on
pub own_tell_on : OwnTellOn
own_tell_on a b lasts = record {
  opening = lasts.opening;
  next_blob = lasts.next_blob;
  told = tells_for (OthersCame a b) (Unit {0}) (next_blob_of a) a.told b.told (λ came. tt) lasts.told;
}

-- an answer that isn't a refusal is that of the step
stepped : (s : State) (e : Entry) (event : Event) (r : Reply) (m : Mark) → e.event ≡ event → answer_at s e m ≡ Ok r → answer_to s e.seat e.moment event ≡ Ok r
stepped s e event r mark.Answered same is = ap (answer_to s e.seat e.moment) (sym same) ∙ is
stepped s e event r mark.Store same is = absurd (cc)
stepped s e event r mark.Memory same is = absurd (cc)

module _ {C : Type 0} (reads : C → Taken → C → Type 0) (run : Run reads) where
  abbrev s0 : State
  s0 = opened run.a.opening

  -- the state before the join, and that of the GET
  abbrev s : State
  s = replay s0 run.front

  abbrev last : State
  last = replay s0 (run.a.known ++ run.get.enters.others)

  abbrev rows : List ChunkRow
  rows = chunks_of s.tables.chunks run.user run.dir

  abbrev whole : List Piece
  whole = whole_of s.tables.chunks run.user run.dir

  at : last ≡ replay (after s run.join) run.behind
  at = ap (replay s0) run.parts ∙ replay_on s0 run.front (run.join ∷ run.behind)

  legal : IsLegalFrom 0 s0 (run.front ++ run.join ∷ run.behind)
  legal = subst (λ (es : List Entry). IsLegalFrom 0 s0 es) run.parts run.legal

  rest : IsLegalFrom (length run.front + 1) (after s run.join) run.behind
  rest =
      let behind = legal_behind 0 s0 run.front (run.join ∷ run.behind) legal in
      subst (λ (k : ℕ). IsLegalFrom k (after s run.join) run.behind) (omega arith) behind.1

  read : IsReadAs last run.node whole
  read =
      subst (λ (x : State). IsReadAs x run.node whole) (sym at)
      (joined_read (length run.front) s run.join run.behind run.user run.dir run.node run.joins rest
      (ap (λ (x : State). content_at x run.node) (sym at) ∙ run.stays))

  content : run.content ≡ whole
  content =
      let e = run.get.enters.entry in
      let granted : answer_to last e.seat e.moment (Begin run.get.words run.get.request) ≡ Ok (Granted (Serve run.content)) =
      stepped last e (Begin run.get.words run.get.request) (Granted (Serve run.content)) e.mark run.get.enters.event_is (sym run.get.enters.answer_is) in
      let may : MayWant run.get.request = (subst (λ (ev : Event). MayAsk last e.seat ev) run.get.enters.event_is run.get.enters.may_come.asked).1 in
      read.is_all e.seat e.moment run.get.words run.get.request run.spot run.content may run.wanted run.led granted

  came : (bodies : List (List ℕ)) × Came reads run.a.opening run.b run.front rows bodies
  came =
      all_came reads run.a.opening run.b run.front run.user run.dir run.sound (legal_front 0 s0 run.front (run.join ∷ run.behind) legal) run.fresh run.brought
      rows (upload_found s run.user run.dir run.joins.sound) (filter_passes (is_chunk_of run.user run.dir) s.tables.chunks)

  have : HaveBytes (IsGiven run.c.book run.d.book) whole run.get.given
  have = subst (λ (pieces : List Piece). HaveBytes (IsGiven run.c.book run.d.book) pieces run.get.given) content run.get.writes.pieces.are_given

  all : length run.get.given ≡ length whole
  all = run.get.all ∙ ap length content

  pieces : AreOfBodies run.d.book.told came.0 run.get.given
  pieces =
      all_given reads run.a.opening run.b run.c.book run.d.book run.front run.get.enters.lasts.opening run.get.lasts rows came.0 run.get.given came.1 have all

  -- so what was written is a file of the bodies
  wrote : (bytes : List ℕ) → concat run.get.given ≡ bytes
      → Appends run.c.output run.d.output (file_head run.get.close (length bytes) ++ bytes)
  wrote bytes same =
      let size : size_of run.content ≡ length (concat run.get.given) =
      sizes reads run.a.opening run.b run.c.book run.d.book run.front run.get.enters.lasts.opening run.get.lasts run.content run.get.given
      run.get.writes.pieces.are_given run.get.all in
      subst (λ (b : List ℕ). Appends run.c.output run.d.output (file_head run.get.close (length b) ++ b)) same
      (subst (λ (n : ℕ). Appends run.c.output run.d.output (file_head run.get.close n ++ concat run.get.given)) size run.get.writes.bytes_are)

  pub sent_read : IsOfBodies reads run
  sent_read = record {
    rise = chunks_numbers_rise s.tables run.joins.sound.rows run.user run.dir;
    bodies = came.0;
    came = came.1;
    pieces = pieces;
    written = both_told run.d.book.told (λ same other. wrote (concat came.0) same) pieces.bytes pieces.bytes;
  }
