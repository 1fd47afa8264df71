-- The tables with an upload or a chunk that is put, and those without an upload and its chunks, are sound.
use Rattle.std.proofs.Common.{◌≡◌, ◌≤◌, ◌+◌, ◌-◌, ◌&&◌, ◌==◌, ℕ, bytes_eq, Bool, true, false, not, List, [], ◌∷◌, ◌++◌, filter, find, get_or, length, Option, None, Some, if◌then◌else◌, inl, inr, refl, sym, ap, subst, ◌∙◌, arith, le_refl}
use Rattle.std.specs.Prelude.{is_some}
use Rattle.std.specs.List.{All}
use Rattle.std.specs.Option.{option_map_or}
use Rattle.std.proofs.lemmas.Bool.{and_from, and_parts, both_ways, cases_Bool, cond_both, eq-eqb, eqb-true, false_from_ne_true, not-true, not_from_false}
use Rattle.std.proofs.lemmas.List.Elements.{All-filter, All-weaker, filter_passes}
use Rattle.std.proofs.lemmas.List.Filters.{sum_by-filter_both}
use Rattle.std.proofs.lemmas.List.Kept.{AllPairs-filter}
use Rattle.std.proofs.lemmas.Slice.Eq.{bytes_eq-Decides}
use Rattle.std.specs.declared.cmp.Ordering.TheVariants.{Less}
use Rattle.nf_base.specs.declared.rows.ChunkRow.{ChunkRow}
use Rattle.nf_base.specs.declared.rows.UploadRow.{UploadRow}
use Rattle.nf_defs.proofs.Puts.{all_put, dropped_rising, put_rising}
use Rattle.nf_defs.specs.Prelude.{chunk_key, dropped, key_cmp, put, Tables, upload_key, user_row}
use Rattle.nf_laws.proofs.Rows.{found_is}
use Rattle.nf_laws.proofs.Sums.{number_passing, put_sum, put_sum_over, sum_passing}
use Rattle.nf_laws.proofs.Turned.{turned, turned_sound}
use Rattle.nf_laws.proofs.Uploads.{chunk_still, upload_still}
use Rattle.nf_words.proofs.Found.{found_passes, put_is_found, put_leaves}
use Rattle.nf_words.specs.Prelude.{abandoned, AreSound, chunk_row, content_size, is_chunk_of, IsChunkSound, IsNewChunk, IsNewUpload, IsTouched, IsUploadSound, pending_of, upload_row, uploads_of}
use Rattle.nf_words.specs.declared.limits.TheConstants.{MAX_PENDING, MAX_UPLOADS}

-- ---- look-ups of uploads

abbrev is_upload : ℕ → List ℕ → UploadRow → Bool
is_upload user dir row = row.user == user && bytes_eq row.dir dir

-- what passes is the user's, and has that name
pub upload_of : (user : ℕ) (dir : List ℕ) (row : UploadRow) → is_upload user dir row ≡ true → (row.user ≡ user) × (row.dir ≡ dir)
upload_of user dir row is =
    let both = and_parts (row.user == user) (bytes_eq row.dir dir) is in
    (eqb-true row.user user both.0, (bytes_eq-Decides row.dir dir).0 both.1)

pub same_name : (a b : ℕ) (x y : List ℕ) → a ∷ length x ∷ x ≡ b ∷ length y ∷ y → (a ≡ b) × (x ≡ y)
same_name a b x y same = (cc, cc)

-- two of one name have one key
upload_keyed : (user : ℕ) (dir : List ℕ) (row : UploadRow) → is_upload user dir row ≡ true → upload_key row ≡ user ∷ length dir ∷ dir
upload_keyed user dir row is =
    let of = upload_of user dir row is in
    ap (λ (n : ℕ). n ∷ length row.dir ∷ row.dir) of.0 ∙ ap (λ (name : List ℕ). user ∷ length name ∷ name) of.1

-- an upload is there still beside one that is put
pub upload_there : (row : UploadRow) (rows : List UploadRow) (user : ℕ) (dir : List ℕ) → is_some (upload_row rows user dir) ≡ true
    → is_some (upload_row (put upload_key row rows) user dir) ≡ true
upload_there row rows user dir there =
    elim (cases_Bool (is_upload user dir row)) [
      | inl is ↦
          ap is_some (put_is_found upload_key (is_upload user dir) row rows is
          (λ x passes. upload_keyed user dir x passes ∙ sym (upload_keyed user dir row is)))
      | inr other ↦
          ap is_some (put_leaves upload_key (is_upload user dir) row rows other
          (λ x same.
          let of = same_name row.user x.user row.dir x.dir same in
          ap (λ (n : ℕ). n == user && bytes_eq x.dir dir) (sym of.0)
          ∙ ap (λ (name : List ℕ). row.user == user && bytes_eq name dir) (sym of.1) ∙ other)) ∙ there
    ]

-- ---- an upload that is put

abbrev owned_by : ℕ → UploadRow → ℕ
owned_by user row = if row.user == user then 1 else 0

owned_so : (user : ℕ) (row : UploadRow) → (b : Bool) → (row.user == user) ≡ b → owned_by user row ≡ (if b then 1 else 0)
owned_so user row b is = ap (λ (b : Bool). if b then 1 else 0) is

module _ (t : Tables) (row : UploadRow) (sound : AreSound t) where
  abbrev uploads : List UploadRow
  uploads = put upload_key row t.uploads

  upload_put : IsUploadSound t row → ((user : ℕ) → length (uploads_of uploads user) ≤ MAX_UPLOADS) → AreSound (record t { uploads = uploads })
  upload_put fine few =
      let made = turned t t.versions uploads t.chunks in
      turned_sound t t.versions uploads t.chunks sound sound.others.versions sound.others.versions_rise sound.others.few_versions
      (record {
        uploads = all_put upload_key (IsUploadSound made) row t.uploads (upload_still t made (λ user is. is) (le_refl _) row fine)
            (All-weaker (IsUploadSound t) (IsUploadSound made) (upload_still t made (λ user is. is) (le_refl _)) t.uploads sound.others.uploads);
        uploads_rise = put_rising upload_key row t.uploads sound.others.uploads_rise;
        few_uploads = few;
        chunks = All-weaker (IsChunkSound t) (IsChunkSound made)
            (λ chunk is. chunk_still t made (le_refl _) chunk (upload_there row t.uploads chunk.user chunk.dir is.upload) is) t.chunks sound.others.chunks;
        chunks_rise = sound.others.chunks_rise;
        few_pending = sound.others.few_pending;
      })
      sound.few_pieces

  pub new_upload_sound : IsNewUpload t row → AreSound (record t { uploads = uploads })
  new_upload_sound is = upload_put (record { user = is.user; touched = is.touched }) few
    where
      few : (user : ℕ) → length (uploads_of uploads user) ≤ MAX_UPLOADS
      few user =
          let counts = number_passing (λ (one : UploadRow). one.user == user) uploads in
          let were = number_passing (λ (one : UploadRow). one.user == user) t.uploads in
          let sum = put_sum upload_key (owned_by user) row t.uploads in
          elim (cases_Bool (row.user == user)) [
            | inl own ↦
                omega (
                  arith,
                  counts,
                  were,
                  sum,
                  owned_so user row true own,
                  is.few,
                  ap (λ (n : ℕ). length (uploads_of t.uploads n)) (eqb-true row.user user own),
                )
            | inr other ↦ omega (arith, counts, were, sum, owned_so user row false other, sound.others.few_uploads user)
          ]

  pub touched_sound : IsTouched t row → AreSound (record t { uploads = uploads })
  touched_sound is = upload_put (record { user = user_there; touched = is.touched }) few
    where
      user : row.user ≡ is.old.user
      user = ap (λ (r : UploadRow). r.user) is.same

      dir : row.dir ≡ is.old.dir
      dir = ap (λ (r : UploadRow). r.dir) is.same

      sought : UploadRow → Bool
      sought = is_upload row.user row.dir

      itself : is_upload row.user row.dir row ≡ true
      itself = and_from (row.user == row.user) (bytes_eq row.dir row.dir) (eq-eqb row.user row.user refl) ((bytes_eq-Decides row.dir row.dir).1 refl)

      user_there : is_some (user_row t.users row.user) ≡ true
      user_there = ap (λ (n : ℕ). is_some (user_row t.users n)) user
          ∙ (found_is (IsUploadSound t) sought t.uploads is.old sound.others.uploads is.there).1.user

      few : (owner : ℕ) → length (uploads_of uploads owner) ≤ MAX_UPLOADS
      few owner =
          omega (
            arith,
            number_passing (λ (one : UploadRow). one.user == owner) uploads,
            number_passing (λ (one : UploadRow). one.user == owner) t.uploads,
            put_sum_over upload_key sought (owned_by owner) row is.old t.uploads
                (λ x passes. upload_keyed row.user row.dir x passes ∙ sym (upload_keyed row.user row.dir row itself)) sound.others.uploads_rise is.there,
            ap {B = ℕ} (λ (n : ℕ). if n == owner then 1 else 0) user,
            sound.others.few_uploads owner,
          )

-- ---- look-ups of chunks

abbrev is_numbered : ℕ → List ℕ → ℕ → ChunkRow → Bool
is_numbered user dir number row = is_chunk_of user dir row && row.number == number

-- what passes is the user's, of that upload and number
pub chunk_of : (user : ℕ) (dir : List ℕ) (number : ℕ) (row : ChunkRow) → is_numbered user dir number row ≡ true
    → (row.user ≡ user) × ((row.dir ≡ dir) × (row.number ≡ number))
chunk_of user dir number row is =
    let both = and_parts (is_chunk_of user dir row) (row.number == number) is in
    let own = and_parts (row.user == user) (bytes_eq row.dir dir) both.0 in
    (eqb-true row.user user own.0, ((bytes_eq-Decides row.dir dir).0 own.1, eqb-true row.number number both.1))

-- a chunk of one's upload and number has its key
pub chunk_keyed : (row x : ChunkRow) → is_numbered row.user row.dir row.number x ≡ true → chunk_key x ≡ chunk_key row
chunk_keyed row x passes =
    let of = chunk_of row.user row.dir row.number x passes in
    ap (λ (n : ℕ). n ∷ length x.dir ∷ x.dir ++ x.number ∷ []) of.0 ∙ ap (λ (dir : List ℕ). row.user ∷ length dir ∷ dir ++ x.number ∷ []) of.1.0
    ∙ ap (λ (n : ℕ). row.user ∷ length row.dir ∷ row.dir ++ n ∷ []) of.1.1

-- and the other way round
pub chunk_parts : (x row : ChunkRow) → chunk_key x ≡ chunk_key row → (x.user ≡ row.user) × ((x.dir ≡ row.dir) × (x.number ≡ row.number))
chunk_parts x row same =
    let ends = ends_same x.dir row.dir x.number row.number (names same) (lengths same) in
    (users same, ends)
  where
    users : {a b : ℕ} {xs ys : List ℕ} → a ∷ xs ≡ b ∷ ys → a ≡ b
    users same = cc

    lengths : {a b m n : ℕ} {xs ys : List ℕ} → a ∷ m ∷ xs ≡ b ∷ n ∷ ys → m ≡ n
    lengths same = cc

    names : {a b m n : ℕ} {xs ys : List ℕ} → a ∷ m ∷ xs ≡ b ∷ n ∷ ys → xs ≡ ys
    names same = cc

    first : {a b : ℕ} {xs ys : List ℕ} → a ∷ xs ≡ b ∷ ys → (a ≡ b) × (xs ≡ ys)
    first same = (cc, cc)

    ends_same : (xs ys : List ℕ) (m n : ℕ) → xs ++ m ∷ [] ≡ ys ++ n ∷ [] → length xs ≡ length ys → (xs ≡ ys) × (m ≡ n)
    ends_same [] [] m n same long = (refl, (first same).0)
    ends_same [] (y ∷ ys) m n same long = absurd (omega (arith, long))
    ends_same (x ∷ xs) [] m n same long = absurd (omega (arith, long))
    ends_same (x ∷ xs) (y ∷ ys) m n same long =
        let both = first same in
        let rest = ends_same xs ys m n both.1 (omega (arith, long)) in
        (ap (λ (n : ℕ). n ∷ xs) both.0 ∙ ap (λ (all : List ℕ). y ∷ all) rest.0, rest.1)

pub chunk_again : (row x : ChunkRow) → chunk_key x ≡ chunk_key row → is_numbered row.user row.dir row.number x ≡ true
chunk_again row x same =
    let of = chunk_parts x row same in
    and_from (is_chunk_of row.user row.dir x) (x.number == row.number)
    (and_from (x.user == row.user) (bytes_eq x.dir row.dir) (eq-eqb x.user row.user of.0) ((bytes_eq-Decides x.dir row.dir).1 of.1.0))
    (eq-eqb x.number row.number of.1.1)

-- ---- a chunk that is put

abbrev bytes_by : ℕ → ChunkRow → ℕ
bytes_by user row = if row.user == user then content_size row.content else 0

bytes_so : (user : ℕ) (row : ChunkRow) → (b : Bool) → (row.user == user) ≡ b → bytes_by user row ≡ (if b then content_size row.content else 0)
bytes_so user row b is = ap (λ (b : Bool). if b then content_size row.content else 0) is

module _ (t : Tables) (row : ChunkRow) (sound : AreSound t) (is : IsNewChunk t row) where
  abbrev chunks : List ChunkRow
  chunks = put chunk_key row t.chunks

  abbrev sought : ChunkRow → Bool
  sought one = is_chunk_of row.user row.dir one && one.number == row.number

  few_bytes : (user : ℕ) → pending_of chunks user ≤ MAX_PENDING
  few_bytes user =
      elim (cases_Bool (row.user == user)) [
        | inl own ↦ subst (λ (n : ℕ). pending_of chunks n ≤ MAX_PENDING) (eqb-true row.user user own) (here (chunk_row t.chunks row.user row.dir row.number) refl)
        | inr other ↦
            omega (
              arith,
              sum_passing (λ (one : ChunkRow). one.user == user) (λ one. content_size one.content) chunks,
              sum_passing (λ (one : ChunkRow). one.user == user) (λ one. content_size one.content) t.chunks,
              put_sum chunk_key (bytes_by user) row t.chunks,
              bytes_so user row false other,
              sound.others.few_pending user,
            )
      ]
    where
      passing : ChunkRow → Bool
      passing one = one.user == row.user

      own_bytes : bytes_by row.user row ≡ content_size row.content
      own_bytes = bytes_so row.user row true (eq-eqb row.user row.user refl)

      pending : (o : Option ChunkRow) → chunk_row t.chunks row.user row.dir row.number ≡ o
          → pending_of t.chunks row.user - option_map_or (λ one. content_size one.content) o 0 + content_size row.content ≤ MAX_PENDING
      pending o e =
          subst (λ (o : Option ChunkRow). pending_of t.chunks row.user - option_map_or (λ one. content_size one.content) o 0 + content_size row.content ≤ MAX_PENDING)
          e is.few_pending

      here : (o : Option ChunkRow) → chunk_row t.chunks row.user row.dir row.number ≡ o → pending_of chunks row.user ≤ MAX_PENDING
      here None e =
          omega (
            arith,
            sum_passing passing (λ one. content_size one.content) chunks,
            sum_passing passing (λ one. content_size one.content) t.chunks,
            put_sum chunk_key (bytes_by row.user) row t.chunks,
            own_bytes,
            pending None e,
          )
      here (Some old) e =
          let both = and_parts (is_chunk_of row.user row.dir old) (old.number == row.number) (found_passes sought t.chunks old e) in
          let own = and_parts (old.user == row.user) (bytes_eq old.dir row.dir) both.0 in
          omega (
            arith,
            sum_passing passing (λ one. content_size one.content) chunks,
            sum_passing passing (λ one. content_size one.content) t.chunks,
            put_sum_over chunk_key sought (bytes_by row.user) row old t.chunks (chunk_keyed row) sound.others.chunks_rise e,
            own_bytes,
            bytes_so row.user old true own.0,
            pending (Some old) e,
          )

  pub chunk_sound : AreSound (record t { chunks = chunks })
  chunk_sound =
      let made = turned t t.versions t.uploads chunks in
      turned_sound t t.versions t.uploads chunks sound sound.others.versions sound.others.versions_rise sound.others.few_versions
      (record {
        uploads = All-weaker (IsUploadSound t) (IsUploadSound made) (upload_still t made (λ user is. is) (le_refl _)) t.uploads sound.others.uploads;
        uploads_rise = sound.others.uploads_rise;
        few_uploads = sound.others.few_uploads;
        chunks = all_put chunk_key (IsChunkSound made) row t.chunks
            (chunk_still t made (le_refl _) row is.upload (record { upload = is.upload; some = is.some; few = is.few; one = is.one; pieces = is.pieces }))
            (All-weaker (IsChunkSound t) (IsChunkSound made) (λ one fine. chunk_still t made (le_refl _) one fine.upload fine) t.chunks sound.others.chunks);
        chunks_rise = put_rising chunk_key row t.chunks sound.others.chunks_rise;
        few_pending = few_bytes;
      })
      (omega (arith, is.few_pieces, put_sum chunk_key (λ (one : ChunkRow). length one.content) row t.chunks))

-- ---- an upload that goes

-- what is found of what stays is found
found_left : {X : Type 0} (test left : X → Bool) (xs : List X) → ((x : X) → test x ≡ true → left x ≡ true) → find test (filter left xs) ≡ find test xs
found_left test left [] stays = refl
found_left {X = X} test left (x ∷ xs) stays =
    cond_both (left x) (x ∷ filter left xs) (filter left xs) (λ rest. find test rest ≡ find test (x ∷ xs))
    (λ e. ap (λ (o : Option X). if test x then Some x else o) (found_left test left xs stays))
    (λ e. found_left test left xs stays ∙ simp (false_from_ne_true (test x) (λ is. both_ways (left x) e (stays x is))) refl)

-- the upload of a chunk of another stays
pub upload_stays : (user : ℕ) (dir : List ℕ) (uploads : List UploadRow) (row : ChunkRow) → is_chunk_of user dir row ≡ false
    → upload_row (dropped upload_key (user ∷ length dir ∷ dir) uploads) row.user row.dir ≡ upload_row uploads row.user row.dir
upload_stays user dir uploads row other =
    let key = user ∷ length dir ∷ dir in
    found_left (is_upload row.user row.dir) (λ (x : UploadRow). not (bytes_eq key (upload_key x))) uploads (λ x passes.
    not_from_false (bytes_eq key (upload_key x)) (false_from_ne_true (bytes_eq key (upload_key x)) (λ same.
    let of = upload_of row.user row.dir x passes in
    let is = same_name user x.user dir x.dir ((bytes_eq-Decides key (upload_key x)).0 same) in
    both_ways (is_chunk_of user dir row) other
    (and_from (row.user == user) (bytes_eq row.dir dir) (eq-eqb row.user user (sym of.0 ∙ sym is.0))
    ((bytes_eq-Decides row.dir dir).1 (sym of.1 ∙ sym is.1))))))

module _ (t : Tables) (user : ℕ) (dir : List ℕ) (sound : AreSound t) where
  abbrev key : List ℕ
  key = user ∷ length dir ∷ dir

  abbrev is_other : UploadRow → Bool
  is_other row = not (bytes_eq key (upload_key row))

  abbrev is_others : ChunkRow → Bool
  is_others row = not (is_chunk_of user dir row)

  abbrev gone : Tables
  gone = abandoned t user dir

  chunks_left : All (IsChunkSound gone) gone.chunks
  chunks_left k d within =
      let row = get_or gone.chunks k d in
      let fine = All-filter is_others (IsChunkSound t) t.chunks sound.others.chunks k d within in
      let other = not-true (is_chunk_of user dir row) (filter_passes is_others t.chunks k d within) in
      chunk_still t gone (le_refl _) row (ap is_some (upload_stays user dir t.uploads row other) ∙ fine.upload) fine

  few_left : (owner : ℕ) → length (uploads_of gone.uploads owner) ≤ MAX_UPLOADS
  few_left owner =
      omega (
        arith,
        number_passing (λ (one : UploadRow). one.user == owner) gone.uploads,
        number_passing (λ (one : UploadRow). one.user == owner) t.uploads,
        sum_by-filter_both is_other (λ row. not (is_other row)) (λ row. refl) (owned_by owner) t.uploads,
        sound.others.few_uploads owner,
      )

  pending_left : (owner : ℕ) → pending_of gone.chunks owner ≤ MAX_PENDING
  pending_left owner =
      let passing : ChunkRow → Bool = λ one. one.user == owner in
      let size : ChunkRow → ℕ = λ one. content_size one.content in
      omega (
        arith,
        sum_passing passing size gone.chunks,
        sum_passing passing size t.chunks,
        sum_by-filter_both is_others (λ row. not (is_others row)) (λ row. refl) (bytes_by owner) t.chunks,
        sound.others.few_pending owner,
      )

  pub abandoned_sound : AreSound (abandoned t user dir)
  abandoned_sound =
      turned_sound t t.versions gone.uploads gone.chunks sound sound.others.versions sound.others.versions_rise sound.others.few_versions
      (record {
        uploads = All-filter is_other (IsUploadSound gone) t.uploads
            (All-weaker (IsUploadSound t) (IsUploadSound gone) (upload_still t gone (λ user is. is) (le_refl _)) t.uploads sound.others.uploads);
        uploads_rise = dropped_rising upload_key key t.uploads sound.others.uploads_rise;
        few_uploads = few_left;
        chunks = chunks_left;
        chunks_rise = AllPairs-filter (λ a b. key_cmp (chunk_key a) (chunk_key b) ≡ Less) is_others t.chunks sound.others.chunks_rise;
        few_pending = pending_left;
      })
      (omega (arith, sound.few_pieces, sum_by-filter_both is_others (λ row. not (is_others row)) (λ row. refl) (λ (one : ChunkRow). length one.content) t.chunks))
