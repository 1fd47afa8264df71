-- What the End of a chunk makes of the chunks.
use Rattle.std.proofs.Common.{◌≡◌, ◌⊎◌, ℕ, ◌==◌, ◌&&◌, Bool, true, false, List, [], ◌∷◌, ◌++◌, Option, None, Some, Result, Ok, if◌then◌else◌, inl, inr, refl, sym, ap, subst, ◌∙◌}
use Rattle.std.specs.Option.{option_map_or}
use Rattle.std.proofs.lemmas.Bool.{and_parts, eqb-true}
use Rattle.nf_base.specs.Content.{content_eq}
use Rattle.nf_base.specs.declared.changes.Change.{Change}
use Rattle.nf_base.specs.declared.changes.Change.TheVariants.{Put}
use Rattle.nf_base.specs.declared.rows.ChunkRow.{ChunkRow}
use Rattle.nf_base.specs.declared.rows.Row.TheVariants as rows
use Rattle.nf_base.specs.declared.rows.UploadRow.{UploadRow}
use Rattle.nf_defs.specs.Prelude.{chunk_key, put, put_all, Tables}
use Rattle.nf_joins.specs.Sent.{IsSent, IsThere}
use Rattle.nf_joins.proofs.Acts.{same_act}
use Rattle.nf_laws.proofs.Chunking.{chunk_leaves, is_that, that_is}
use Rattle.nf_laws.proofs.Entries.{same_tables, step_has}
use Rattle.nf_laws.proofs.Rows.{stamped_has}
use Rattle.nf_laws.proofs.Sent.{chunk_of}
use Rattle.nf_words.proofs.Bodies.{content_decides}
use Rattle.nf_words.proofs.Chunked.{chunk_found}
use Rattle.nf_words.proofs.Found.{found_passes}
use Rattle.nf_words.proofs.Passing.{not_refused}
use Rattle.nf_words.specs.Prelude.{access_of, after, after_mark, altered, answer_at, answered_by, blob_by, blob_for, changed, chunk_refusal, chunk_row, chunk_stored, content_in, decision_of, ends_at, ends_goal, goal_at, is_chunk_of, MayAsk, MayCome, State, told, upload_row, upload_touched}
use Rattle.nf_words.specs.History.{MayEnd}
use Rattle.nf_words.specs.declared.answer.Allowed.{Allowed}
use Rattle.nf_words.specs.declared.answer.Denial.{Denial}
use Rattle.nf_words.specs.declared.answer.Goal.{Goal}
use Rattle.nf_words.specs.declared.answer.Goal.TheVariants.{Chunk}
use Rattle.nf_words.specs.declared.history.Entry.{Entry}
use Rattle.nf_words.specs.declared.history.Event.{Event}
use Rattle.nf_words.specs.declared.history.Event.TheVariants.{End}
use Rattle.nf_words.specs.declared.history.Mark.{Mark}
use Rattle.nf_words.specs.declared.history.Mark.TheVariants as mark
use Rattle.nf_words.specs.declared.history.Outcome.{Outcome}
use Rattle.nf_words.specs.declared.history.Outcome.TheVariants.{Body, Gone, Sent}

-- ---- rows

row_same : (a b : ChunkRow) → a.user ≡ b.user → a.dir ≡ b.dir → a.number ≡ b.number → a.content ≡ b.content → a ≡ b
row_same a b users dirs numbers contents = λ i. record { user = users i; dir = dirs i; number = numbers i; content = contents i }

same_row : {a b : ChunkRow} → ◌≡◌ {A = Option ChunkRow} (Some a) (Some b) → a ≡ b
same_row same = cc

-- ---- the step

module _ (t : Tables) (now user : ℕ) (dir : List ℕ) (number : ℕ) (digest : List ℕ) (size : ℕ) where
  abbrev new : ChunkRow
  new = record { user = user; dir = dir; number = number; content = content_in (blob_for t.meta.next_blob size) digest size }

  abbrev act : Allowed
  act = chunk_stored t now user dir number digest size

  abbrev is_again : Bool
  is_again = option_map_or (λ (old : ChunkRow). content_eq old.content new.content) (chunk_row t.chunks user dir number) false

  abbrev changes : Bool → Option UploadRow → List Change
  changes again o = (if again then [] else Put (rows.Chunk new) ∷ []) ++ option_map_or (upload_touched now) o []

  stored_chunks : (again : Bool) (o : Option UploadRow) → (put_all t (changes again o)).chunks ≡ (if again then t.chunks else put chunk_key new t.chunks)
  stored_chunks true None = refl
  stored_chunks false None = refl
  stored_chunks again (Some upload) = here again (upload.touched == now)
    where
      here : (again same : Bool)
          → (put_all t ((if again then [] else Put (rows.Chunk new) ∷ []) ++ (if same then [] else Put (rows.Upload (record upload { touched = now })) ∷ []))).chunks
          ≡ (if again then t.chunks else put chunk_key new t.chunks)
      here true true = refl
      here true false = refl
      here false true = refl
      here false false = refl

  -- where it has that content already, that is its row
  again_there : (o : Option ChunkRow) → chunk_row t.chunks user dir number ≡ o
      → option_map_or (λ (old : ChunkRow). content_eq old.content new.content) o false ≡ true → chunk_row t.chunks user dir number ≡ Some new
  again_there None at is = absurd (cc)
  again_there (Some old) at is =
      let of = chunk_of user dir number old
      (found_passes (λ (x : ChunkRow). is_chunk_of user dir x && x.number == number) t.chunks old at) in
      at ∙ ap Some (row_same old new of.0 of.1.0 of.1.1 ((content_decides old.content new.content).0 is))

  -- so that is its row then
  stored_there : chunk_row (put_all t (changes is_again (upload_row t.uploads user dir))).chunks user dir number ≡ Some new
  stored_there =
      ap (λ (rows : List ChunkRow). chunk_row rows user dir number) (stored_chunks is_again (upload_row t.uploads user dir)) ∙ here is_again refl
    where
      here : (again : Bool) → is_again ≡ again → chunk_row (if again then t.chunks else put chunk_key new t.chunks) user dir number ≡ Some new
      here true is = again_there (chunk_row t.chunks user dir number) refl is
      here false is = chunk_found new t.chunks

  -- and each other chunk is as it was
  stored_row : (row : ChunkRow) → chunk_row (altered t now act).chunks row.user row.dir row.number ≡ Some row
      → (chunk_row t.chunks row.user row.dir row.number ≡ Some row) ⊎ (row ≡ new)
  stored_row row is = here (is_that user dir row.user row.dir && row.number == number) refl
    where
      here : (b : Bool) → (is_that user dir row.user row.dir && row.number == number) ≡ b
          → (chunk_row t.chunks row.user row.dir row.number ≡ Some row) ⊎ (row ≡ new)
      here false other = inl (sym ((chunk_leaves t new now).chunks row.user row.dir row.number other) ∙ is)
      here true same =
          let both = and_parts (is_that user dir row.user row.dir) (row.number == number) same in
          let that = that_is user dir row.user row.dir both.0 in
          let at : chunk_row (altered t now act).chunks row.user row.dir row.number ≡ chunk_row (altered t now act).chunks user dir number =
          λ i. chunk_row (altered t now act).chunks (that.0 i) (that.1 i) (eqb-true row.number number both.1 i) in
          inr (same_row (sym is ∙ at ∙ stored_there))

  changed_row : (row : ChunkRow) → chunk_row (changed t now act).chunks row.user row.dir row.number ≡ Some row
      → (chunk_row t.chunks row.user row.dir row.number ≡ Some row) ⊎ (row ≡ new)
  changed_row row =
      stamped_has (λ (u : Tables). chunk_row u.chunks row.user row.dir row.number ≡ Some row
      → (chunk_row t.chunks row.user row.dir row.number ≡ Some row) ⊎ (row ≡ new)) t (altered t now act) now (told t act) (λ is. inl is) (stored_row row)

-- ---- the entry

module _ (n : ℕ) (s : State) (e : Entry) (row : ChunkRow) (may : MayCome n s e) (user : ℕ) (dir : List ℕ) (number length : ℕ)
    (granted : goal_at s e.seat ≡ Some (Chunk user dir number length)) where
  abbrev t : Tables
  t = s.tables

  abbrev Was : Type 0
  Was = chunk_row t.chunks row.user row.dir row.number ≡ Some row

  abbrev decision : Result Allowed Denial
  decision = decision_of s e.seat e.moment e.event

  -- what is decided of a body that is stored
  record Decides (outcome : Outcome) (d : Result Allowed Denial) : Type 0 where
    digest : List ℕ
    size : ℕ
    brings : outcome ≡ Body digest size
    decides : d ≡ Ok (chunk_stored t e.moment user dir number digest size)
    row_is : row ≡ new t e.moment user dir number digest size

  acts : (outcome : Outcome) (does : Allowed) → ends_goal (access_of s) t e.moment outcome (Chunk user dir number length) ≡ Ok does
      → chunk_row (changed t e.moment does).chunks row.user row.dir row.number ≡ Some row → Was ⊎ Decides outcome (Ok does)
  acts Sent does goes is = inl (subst (λ (a : Allowed). chunk_row (changed t e.moment a).chunks row.user row.dir row.number ≡ Some row) (sym (same_act goes)) is)
  acts Gone does goes is = inl (subst (λ (a : Allowed). chunk_row (changed t e.moment a).chunks row.user row.dir row.number ≡ Some row) (sym (same_act goes)) is)
  acts (Body digest size) does goes is =
      let same = (not_refused (chunk_refusal t user dir number size) (chunk_stored t e.moment user dir number digest size) does goes).1 in
      elim (changed_row t e.moment user dir number digest size row
      (subst (λ (a : Allowed). chunk_row (changed t e.moment a).chunks row.user row.dir row.number ≡ Some row) (sym same) is)) [
        | inl was ↦ inl was
        | inr new ↦ inr (record { digest = digest; size = size; brings = refl; decides = ap (λ (a : Allowed). Ok a) (sym same); row_is = new })
      ]

  module _ (outcome : Outcome) (ends : e.event ≡ End outcome) where
    goes : decision ≡ ends_goal (access_of s) t e.moment outcome (Chunk user dir number length)
    goes = ap (decision_of s e.seat e.moment) ends ∙ ap (ends_at (access_of s) t e.moment outcome) granted

    -- the body has the length that was granted
    long : (digest : List ℕ) (size : ℕ) → outcome ≡ Body digest size → size ≡ length
    long digest size brings =
        let asked : MayEnd (goal_at s e.seat) outcome = subst (λ (ev : Event). MayAsk s e.seat ev) ends may.asked in
        subst (λ (o : Outcome). MayEnd (Some (Chunk user dir number length)) o) brings
        (subst (λ (o : Option Goal). MayEnd o outcome) granted asked)

    sends : e.mark ≡ mark.Answered → Decides outcome decision → IsSent s e row
    sends marked is =
        let of = λ (x : ChunkRow). goal_at s e.seat ≡ Some (Chunk x.user x.dir x.number is.size) in
        record {
          digest = is.digest;
          size = is.size;
          granted = subst of (sym is.row_is) (granted ∙ ap (λ (l : ℕ). Some (Chunk user dir number l)) (sym (long is.digest is.size is.brings)));
          brought = ends ∙ ap End is.brings;
          answered = ap (answer_at s e) marked ∙ ap answered_by is.decides;
          blob = ap blob_by is.decides;
          content = ap (λ (x : ChunkRow). x.content) is.row_is;
        }

    pub sent_step : IsThere (after s e) row → Was ⊎ IsSent s e row
    sent_step is = here e.mark refl is
      where
        here : (m : Mark) → e.mark ≡ m → IsThere (after_mark s e m) row → Was ⊎ IsSent s e row
        here mark.Answered marked is =
            elim (step_has (λ u tickets d. chunk_row u.chunks row.user row.dir row.number ≡ Some row → Was ⊎ Decides outcome d) s e.seat e.moment e.event
            (λ refusal is. inl is) (λ does decides is. acts outcome does (sym goes ∙ decides) is) is) [
              | inl was ↦ inl was
              | inr one ↦ inr (sends marked one)
            ]
        here mark.Store marked is = inl (subst (λ (u : Tables). chunk_row u.chunks row.user row.dir row.number ≡ Some row) (sym (same_tables s e.seat e.event)) is)
        here mark.Memory marked is = inl (subst (λ (u : Tables). chunk_row u.chunks row.user row.dir row.number ≡ Some row) (sym (same_tables s e.seat e.event)) is)
