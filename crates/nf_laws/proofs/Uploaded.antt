-- An upload that is joined is all its chunks, by rising number, or nothing is changed; and who has it then is charged for it.
use Rattle.std.proofs.Common.{◌≡◌, ◌≢◌, ℕ, ◌≤◌, not, filter, Bool, true, false, List, [], ◌∷◌, ◌++◌, Option, Result, Ok, Err, if◌then◌else◌, refl, sym, ap, subst, ◌∙◌, arith, length-append}
use Rattle.std.specs.Prelude.{IsOk}
use Rattle.std.specs.Option.{option_map_or}
use Rattle.std.proofs.lemmas.Bool.{false_from_ne_true}
use Rattle.nf_base.specs.declared.changes.Change.{Change}
use Rattle.nf_base.specs.declared.changes.Change.TheVariants.{Drop}
use Rattle.nf_base.specs.declared.changes.RowKey.TheVariants as keys
use Rattle.nf_base.specs.declared.content.Piece.{Piece}
use Rattle.nf_base.specs.declared.rows.NodeKind.TheVariants.{File}
use Rattle.nf_base.specs.declared.rows.NodeRow.{NodeRow}
use Rattle.nf_defs.specs.Prelude.{node_row, owner_of, put_all, Tables}
use Rattle.nf_defs.specs.declared.Found.{Found}
use Rattle.nf_defs.specs.declared.Found.TheVariants.{At, Free, Missing}
use Rattle.nf_laws.proofs.Abandoning.{upload_gone}
use Rattle.nf_laws.proofs.Acting.{accepted, given_for}
use Rattle.nf_laws.proofs.Chunking.{abandon_leaves, is_that, that_is}
use Rattle.nf_laws.proofs.Entries.{same_tables, step_changed, step_has}
use Rattle.nf_laws.proofs.Joining.{IsPlaced, join_charges, placed_at}
use Rattle.nf_laws.proofs.Plain.{assembled_filing, filing_rest}
use Rattle.nf_laws.proofs.Puts.{put_other}
use Rattle.nf_laws.proofs.Refilled.{added_made, filled_at, refilled_made}
use Rattle.nf_laws.proofs.Rows.{stamp, stamped_some}
use Rattle.nf_laws.specs.Charges.{bytes_there, charged_at, IsCharged, JoinsAreCharged}
use Rattle.nf_laws.specs.Uploads.{file_at, HasContent, IsJoined, JoinsAreWhole, RefusedJoinsKeep}
use Rattle.nf_words.proofs.Begins.{wanted_passes, WantedPasses}
use Rattle.nf_words.proofs.Ends.{known_change}
use Rattle.nf_words.proofs.Fits.{put_found}
use Rattle.nf_words.proofs.Known.{Known}
use Rattle.nf_words.proofs.Starts.{has_asker}
use Rattle.nf_words.proofs.Wholes.{chunks_numbers_rise}
use Rattle.nf_words.specs.Prelude.{abandoned, access_of, after, after_mark, allowed_of, answer_at, answered_by, AreSound, asker_of, assembled, assembled_at, Call, call_of, changed, charged, chunk_row, content_size, decision_of, found, IsSound, is_chunk_of, last_name, MayAsk, MayCome, MayWant, new_node, refilled, replaced, State, told, told_chunks, unsettled, upload_row, whole_of}
use Rattle.nf_words.specs.declared.answer.Allowed.{Allowed}
use Rattle.nf_words.specs.declared.answer.Denial.{Denial}
use Rattle.nf_words.specs.declared.history.Entry.{Entry}
use Rattle.nf_words.specs.declared.history.Event.{Event}
use Rattle.nf_words.specs.declared.history.Event.TheVariants.{Begin}
use Rattle.nf_words.specs.declared.history.Mark.{Mark}
use Rattle.nf_words.specs.declared.history.Mark.TheVariants as mark
use Rattle.nf_words.specs.declared.request.Request.{Request}
use Rattle.nf_words.specs.declared.request.Spot.{Spot}
use Rattle.nf_words.specs.declared.request.UploadAsk.TheVariants as upload
use Rattle.nf_words.specs.declared.request.Wanted.TheVariants as want
use Rattle.nf_words.specs.declared.request.Words.{Words}

-- ---- the tables then

-- none passes a test that those fail which are left
none_kept : {X : Type 0} (test : X → Bool) (xs : List X) → filter test (filter (λ x. not (test x)) xs) ≡ []
none_kept test [] = refl
none_kept {X = X} test (x ∷ xs) = here (test x) refl (none_kept test xs)
  where
    here : (b : Bool) → test x ≡ b → filter test (filter (λ x. not (test x)) xs) ≡ []
        → filter test (if not b then x ∷ filter (λ x. not (test x)) xs else filter (λ x. not (test x)) xs) ≡ []
    here true e rest = rest
    here false e rest = simp e rest

module _ (t : Tables) (now : ℕ) (name : List ℕ) (user : ℕ) (dir : List ℕ) (place : Found) where
  abbrev changes : List Change
  changes = assembled_at t now name (whole_of t.chunks user dir) place

  abbrev stored : Tables
  stored = replaced t changes

  abbrev made : Tables
  made = abandoned stored user dir

  -- at least the upload is dropped, so the moment is stamped
  joined_changed : changed t now (assembled t now name user dir place) ≡ stamp made now
  joined_changed =
      stamped_some t made now (told t (assembled t now name user dir place))
      (omega (
        arith,
        length-append changes ((told_chunks stored user dir ++ Drop (keys.Upload user dir) ∷ []) ++ []),
        length-append (told_chunks stored user dir ++ Drop (keys.Upload user dir) ∷ []) [],
        length-append (told_chunks stored user dir) (Drop (keys.Upload user dir) ∷ []),
      ))

  -- just nodes and versions are stored
  stored_rest : put_all t changes ≡ record t { nodes = (put_all t changes).nodes; versions = (put_all t changes).versions }
  stored_rest = filing_rest t changes (assembled_filing t now name (whole_of t.chunks user dir) place)

-- the file has the content, and no other node is another
record HasFile (t : Tables) (now : ℕ) (name : List ℕ) (content : List Piece) (place : Found) (nodes : List NodeRow) : Type 0 where
  content_is : HasContent t nodes now name content place
  others : (node : ℕ) → node ≢ file_at t place → node_row nodes node ≡ node_row t.nodes node

joined_file : (t : Tables) (now : ℕ) (name : List ℕ) (content : List Piece) (place : Found) → AreSound t → IsPlaced t place
    → HasFile t now name content place (put_all t (assembled_at t now name content place)).nodes
joined_file t now name content (At node) sound (row, there) =
    subst (λ (o : Option NodeRow). HasFile t now name content (At node) (put_all t (option_map_or (refilled t now content) o [])).nodes) (sym there)
    (subst (HasFile t now name content (At node)) (sym (ap (λ (u : Tables). u.nodes) (refilled_made t now content row)))
    (let is = filled_at t now node content row sound there in
    record { content_is = (is.row, is.there, is.itself); others = is.others }))
joined_file t now name content (Free folder) sound placed =
    let row = new_node t now folder name File content in
    subst (HasFile t now name content (Free folder))
    (sym (ap (λ (u : Tables). u.nodes) (added_made t row (unsettled t (charged t (owner_of t.nodes folder) 0 (content_size content)) []))))
    (record { content_is = put_found row t.nodes; others = λ node other. put_other row t.nodes node other })
joined_file t now name content (Missing depth) sound placed = absurd placed

-- ---- a join

module _ (n : ℕ) (s : State) (e : Entry) (words : Words) (request : Request) (dir : List ℕ) (spot : Spot) (total : Option ℕ) (sound : IsSound s)
    (may : MayCome n s e) (begins : e.event ≡ Begin words request) (wanted : request.wanted ≡ want.Upload (upload.Join dir spot total)) where
  abbrev call : Call
  call = call_of s e.seat e.moment words request

  abbrev t : Tables
  t = s.tables

  abbrev asker : ℕ
  asker = asker_of call

  abbrev place : Found
  place = found call spot

  abbrev act : Allowed
  act = assembled t e.moment (last_name spot) asker dir place

  -- that was done
  record IsDone : Type 0 where
    placed : IsPlaced t place
    known : Known t e.moment act
    tables : (after s e).tables ≡ stamp (made t e.moment (last_name spot) asker dir place) e.moment

  may_want : MayWant request
  may_want = (subst (λ (event : Event). MayAsk s e.seat event) begins may.asked).1

  done : (m : Mark) → IsOk (answer_at s e m) → (after_mark s e m).tables ≡ (after s e).tables → IsDone
  done mark.Answered ok same =
      let goes = ap (decision_of s e.seat e.moment) begins in
      let is = accepted call (subst (λ (d : Result Allowed Denial). IsOk (answered_by d)) goes ok) in
      let gives : allowed_of (access_of s) call ≡ act = given_for call (want.Upload (upload.Join dir spot total)) wanted in
      let decides : decision_of s e.seat e.moment e.event ≡ Ok act = goes ∙ is.0 ∙ ap (λ (a : Allowed). Ok a) gives in
      let p = subst (WantedPasses call) wanted (wanted_passes call may_want is.1) in
      let asking = has_asker call is.1.token p.place.linked in
      record {
        placed = placed_at call spot sound.rows asking p.place.target p.place.in_folder;
        known = known_change s e.seat e.moment e.event act sound may.asked decides;
        tables = sym same ∙ step_changed s e.seat e.moment e.event act decides ∙ joined_changed t e.moment (last_name spot) asker dir place;
      }
  done mark.Store ok same = absurd (cc)
  done mark.Memory ok same = absurd (cc)

  -- but for the meta row, nodes, versions, uploads and chunks all is as it was
  abbrev KeepsRest : Tables → Type 0
  KeepsRest u = u ≡ record t { meta = u.meta; nodes = u.nodes; versions = u.versions; uploads = u.uploads; chunks = u.chunks }

  whole : IsDone → IsJoined call dir spot (stamp (made t e.moment (last_name spot) asker dir place) e.moment)
  whole is =
      let file = joined_file t e.moment (last_name spot) (whole_of t.chunks asker dir) place sound.rows is.placed in
      let rest = stored_rest t e.moment (last_name spot) asker dir place in
      let leaves = abandon_leaves (stored t e.moment (last_name spot) asker dir place) asker dir in
      record {
        rise = chunks_numbers_rise t sound.rows asker dir;
        content = file.content_is;
        nodes = file.others;
        gone = upload_gone (stored t e.moment (last_name spot) asker dir place).uploads asker dir;
        chunks_gone = none_kept (is_chunk_of asker dir) (stored t e.moment (last_name spot) asker dir place).chunks;
        uploads = λ user of other.
            leaves.uploads user of (false_from_ne_true (is_that asker dir user of) (λ same. other (that_is asker dir user of same)))
            ∙ ap (λ (u : Tables). upload_row u.uploads user of) rest;
        chunks = λ user of number other.
            leaves.chunks user of number (false_from_ne_true (is_that asker dir user of) (λ same. other (that_is asker dir user of same)))
            ∙ ap (λ (u : Tables). chunk_row u.chunks user of number) rest;
        rest = subst (λ (u : Tables). KeepsRest (stamp (abandoned (record u { meta = (stored t e.moment (last_name spot) asker dir place).meta }) asker dir) e.moment))
            (sym rest) refl;
      }

  later : t.meta.last ≤ e.moment
  later = omega (arith, sound.seen, may.not_before)

  joined_whole : IsOk (answer_at s e e.mark) → IsJoined call dir spot (after s e).tables
  joined_whole ok = let is = done e.mark ok refl in subst (IsJoined call dir spot) (sym is.tables) (whole is)

  joined_charged : IsOk (answer_at s e e.mark)
      → IsCharged t (after s e).tables (charged_at t.nodes place) (bytes_there t.nodes place) (content_size (whole_of t.chunks asker dir))
  joined_charged ok =
      let is = done e.mark ok refl in
      subst (λ (u : Tables). IsCharged t u (charged_at t.nodes place) (bytes_there t.nodes place) (content_size (whole_of t.chunks asker dir))) (sym is.tables)
      (join_charges t e.moment (last_name spot) (whole_of t.chunks asker dir) sound.rows place asker dir later is.known is.placed)

pub joins_whole : JoinsAreWhole
joins_whole = joined_whole

pub joins_charged : JoinsAreCharged
joins_charged = joined_charged

-- what is refused, or failed, changes no row
pub refused_keep : RefusedJoinsKeep
refused_keep s e words request dir spot total refusal begins wanted is = here e.mark is
  where
    here : (m : Mark) → answer_at s e m ≡ Err refusal → (after_mark s e m).tables ≡ s.tables
    here mark.Answered is =
        step_has (λ t tickets decision. answered_by decision ≡ Err refusal → t ≡ s.tables) s e.seat e.moment e.event (λ other is. refl)
        (λ act decides is. absurd (cc)) is
    here mark.Store is = sym (same_tables s e.seat e.event)
    here mark.Memory is = sym (same_tables s e.seat e.event)
