-- Which rows of uploads and chunks a step leaves as they are.
use Rattle.std.proofs.Common.{◌≡◌, ℕ, ◌==◌, ◌&&◌, ◌||◌, not, find, filter, length, bytes_eq, Bool, true, false, List, [], ◌∷◌, ◌++◌, Option, None, Some, if◌then◌else◌, refl, sym, ap, subst, ◌∙◌, inl, inr}
use Rattle.std.specs.List.{All, list_any}
use Rattle.std.specs.Option.{option_map_or}
use Rattle.std.proofs.lemmas.Bool.{and_from, and_parts, both_ways, cases_Bool, eq-eqb, eqb-true}
use Rattle.std.proofs.lemmas.List.{append-nil, same_from_push}
use Rattle.std.proofs.lemmas.List.Elements.{All-head, All-tail}
use Rattle.std.proofs.lemmas.Slice.Eq.{bytes_eq-Decides}
use Rattle.nf_base.specs.Content.{content_eq}
use Rattle.nf_base.specs.declared.changes.Change.{Change}
use Rattle.nf_base.specs.declared.changes.Change.TheVariants.{Put}
use Rattle.nf_base.specs.declared.rows.ChunkRow.{ChunkRow}
use Rattle.nf_base.specs.declared.rows.MetaRow.{MetaRow}
use Rattle.nf_base.specs.declared.rows.Row.TheVariants as rows
use Rattle.nf_base.specs.declared.rows.UploadRow.{UploadRow}
use Rattle.nf_defs.specs.Prelude.{chunk_key, put, put_all, Tables, upload_key}
use Rattle.nf_laws.specs.Access.{IsThatUpload, OnlyUploads}
use Rattle.nf_words.proofs.Chunked.{upload_is}
use Rattle.nf_words.proofs.Found.{put_leaves}
use Rattle.nf_words.specs.Prelude.{abandoned, abandons, chunk_put, chunk_row, deeds_done, is_chunk_of, touched_row, upload_row, upload_touched}

-- ---- what is found in rows that a test keeps

kept_found : {X : Type 0} (test keep : X → Bool) (xs : List X) → ((x : X) → test x ≡ true → keep x ≡ true) → find test (filter keep xs) ≡ find test xs
kept_found test keep [] keeps = refl
kept_found {X = X} test keep (x ∷ xs) keeps = here (keep x) (test x) refl refl (kept_found test keep xs keeps)
  where
    here : (k b : Bool) → keep x ≡ k → test x ≡ b → find test (filter keep xs) ≡ find test xs
        → find test (if k then x ∷ filter keep xs else filter keep xs) ≡ (if b then Some x else find test xs)
    here true true e f rest = simp f refl
    here true false e f rest = simp f rest
    here false true e f rest = absurd (both_ways (keep x) e (keeps x f))
    here false false e f rest = rest

-- ---- an upload, by its user and its name

-- the one of that user, under that name
abbrev pub is_that : ℕ → List ℕ → ℕ → List ℕ → Bool
is_that user dir of_user of_dir = of_user == user && bytes_eq of_dir dir

pub that_is : (user : ℕ) (dir : List ℕ) (of_user : ℕ) (of_dir : List ℕ) → is_that user dir of_user of_dir ≡ true → IsThatUpload user dir of_user of_dir
that_is user dir of_user of_dir is =
    let both = and_parts (of_user == user) (bytes_eq of_dir dir) is in (eqb-true of_user user both.0, (bytes_eq-Decides of_dir dir).0 both.1)

is_that_so : (user : ℕ) (dir : List ℕ) (of_user : ℕ) (of_dir : List ℕ) → of_user ≡ user → of_dir ≡ dir → is_that user dir of_user of_dir ≡ true
is_that_so user dir of_user of_dir users dirs =
    and_from (of_user == user) (bytes_eq of_dir dir) (eq-eqb of_user user users) ((bytes_eq-Decides of_dir dir).1 dirs)

-- nothing that is of another is of this one
never : (user : ℕ) (dir : List ℕ) (of_user : ℕ) (of_dir : List ℕ) (b : Bool) → is_that user dir of_user of_dir ≡ false
    → (b ≡ true → (of_user ≡ user) × (of_dir ≡ dir)) → b ≡ false
never user dir of_user of_dir false other so = refl
never user dir of_user of_dir true other so =
    let same = so refl in absurd (both_ways (is_that user dir of_user of_dir) other (is_that_so user dir of_user of_dir same.0 same.1))

-- ---- what is left as it is

-- no upload and no chunk is another but of those that pass a test
pub record LeavesOthers (before after : Tables) (is_one : ℕ → List ℕ → Bool) : Type 0 where
  pub uploads : (user : ℕ) (dir : List ℕ) → is_one user dir ≡ false → upload_row after.uploads user dir ≡ upload_row before.uploads user dir
  pub chunks : (user : ℕ) (dir : List ℕ) (number : ℕ) → is_one user dir ≡ false
      → chunk_row after.chunks user dir number ≡ chunk_row before.chunks user dir number
  pub rest : after ≡ record before { uploads = after.uploads; chunks = after.chunks }

-- so just those that pass it are others
pub only_these : (before after : Tables) (is_one : ℕ → List ℕ → Bool) (IsOne : ℕ → List ℕ → Type 0) → LeavesOthers before after is_one
    → ((user : ℕ) (dir : List ℕ) → is_one user dir ≡ true → IsOne user dir)
    → OnlyUploads before after IsOne (λ user dir number. IsOne user dir)
only_these before after is_one IsOne leaves so = record {
  uploads = λ user dir differs.
      elim (cases_Bool (is_one user dir)) [ inl is ↦ so user dir is | inr other ↦ absurd (differs (leaves.uploads user dir other)) ];
  chunks = λ user dir number differs.
      elim (cases_Bool (is_one user dir)) [ inl is ↦ so user dir is | inr other ↦ absurd (differs (leaves.chunks user dir number other)) ];
  rest = leaves.rest;
}

-- an upload that is put
pub upload_left : (row : UploadRow) (old : List UploadRow) (user : ℕ) (dir : List ℕ) → is_that row.user row.dir user dir ≡ false
    → upload_row (put upload_key row old) user dir ≡ upload_row old user dir
upload_left row old user dir other =
    put_leaves upload_key (λ (x : UploadRow). x.user == user && bytes_eq x.dir dir) row old (off row refl) (λ x same. off x same)
  where
    parts : (a b : ℕ) (c d : List ℕ) → a ∷ length c ∷ c ≡ b ∷ length d ∷ d → (a ≡ b) × (c ≡ d)
    parts a b c d same = (cc, cc)

    off : (x : UploadRow) → upload_key row ≡ upload_key x → (x.user == user && bytes_eq x.dir dir) ≡ false
    off x same =
        let keys = parts row.user x.user row.dir x.dir same in
        never row.user row.dir user dir (x.user == user && bytes_eq x.dir dir) other (λ is.
        let both = and_parts (x.user == user) (bytes_eq x.dir dir) is in
        (sym (eqb-true x.user user both.0) ∙ sym keys.0, sym ((bytes_eq-Decides x.dir dir).0 both.1) ∙ sym keys.1))

-- an upload that goes, with its chunks
pub abandon_leaves : (t : Tables) (user : ℕ) (dir : List ℕ) → LeavesOthers t (abandoned t user dir) (is_that user dir)
abandon_leaves t user dir = record {
  uploads = λ of_user of_dir other.
      kept_found (λ (x : UploadRow). x.user == of_user && bytes_eq x.dir of_dir)
      (λ (x : UploadRow). not (bytes_eq (user ∷ length dir ∷ dir) (upload_key x))) t.uploads (λ x is.
      let of = and_parts (x.user == of_user) (bytes_eq x.dir of_dir) is in
      ap not (never user dir of_user of_dir (bytes_eq (user ∷ length dir ∷ dir) (upload_key x)) other (λ same.
      let keys = parts user x.user dir x.dir ((bytes_eq-Decides (user ∷ length dir ∷ dir) (upload_key x)).0 same) in
      (sym (eqb-true x.user of_user of.0) ∙ sym keys.0, sym ((bytes_eq-Decides x.dir of_dir).0 of.1) ∙ sym keys.1))));
  chunks = λ of_user of_dir number other.
      kept_found (λ (x : ChunkRow). is_chunk_of of_user of_dir x && x.number == number) (λ (x : ChunkRow). not (is_chunk_of user dir x)) t.chunks
      (λ x is.
      let of = and_parts (is_chunk_of of_user of_dir x) (x.number == number) is in
      let own = and_parts (x.user == of_user) (bytes_eq x.dir of_dir) of.0 in
      ap not (never user dir of_user of_dir (is_chunk_of user dir x) other (λ same.
      let both = and_parts (x.user == user) (bytes_eq x.dir dir) same in (
        sym (eqb-true x.user of_user own.0) ∙ eqb-true x.user user both.0,
        sym ((bytes_eq-Decides x.dir of_dir).0 own.1) ∙ (bytes_eq-Decides x.dir dir).0 both.1,
      ))));
  rest = refl;
}
  where
    parts : (a b : ℕ) (c d : List ℕ) → a ∷ length c ∷ c ≡ b ∷ length d ∷ d → (a ≡ b) × (c ≡ d)
    parts a b c d same = (cc, cc)

-- ---- some of them go

abbrev pub is_among : List UploadRow → ℕ → List ℕ → Bool
is_among gone user dir = list_any (λ (row : UploadRow). is_that row.user row.dir user dir) gone

none_left : (a b : Bool) → (a || b) ≡ false → (a ≡ false) × (b ≡ false)
none_left false b none = (refl, none)
none_left true b none = absurd (cc)

pub abandons_leave : (t : Tables) (gone : List UploadRow) → LeavesOthers t (deeds_done t (abandons gone)) (is_among gone)
abandons_leave t [] = record { uploads = λ user dir other. refl; chunks = λ user dir number other. refl; rest = refl }
abandons_leave t (row ∷ gone) =
    let first = abandon_leaves t row.user row.dir in
    let more = abandons_leave (abandoned t row.user row.dir) gone in
    record {
      uploads = λ user dir other.
          let both = none_left (is_that row.user row.dir user dir) (is_among gone user dir) other in more.uploads user dir both.1 ∙ first.uploads user dir both.0;
      chunks = λ user dir number other.
          let both = none_left (is_that row.user row.dir user dir) (is_among gone user dir) other in
          more.chunks user dir number both.1 ∙ first.chunks user dir number both.0;
      rest = more.rest;
    }

-- one that is among them has what each of them has
pub among_has : (P : UploadRow → Type 0) (gone : List UploadRow) (user : ℕ) (dir : List ℕ) → All P gone → is_among gone user dir ≡ true
    → (row : UploadRow) × P row × IsThatUpload row.user row.dir user dir
among_has P [] user dir all is = absurd (cc)
among_has P (first ∷ gone) user dir all is =
    here (is_that first.user first.dir user dir) refl is (λ is. among_has P gone user dir (All-tail P first gone all) is)
  where
    Found : Type 0
    Found = (row : UploadRow) × P row × IsThatUpload row.user row.dir user dir

    here : (b : Bool) → is_that first.user first.dir user dir ≡ b → (b || is_among gone user dir) ≡ true → (is_among gone user dir ≡ true → Found) → Found
    here true e is rest = (first, All-head P first gone all, that_is first.user first.dir user dir e)
    here false e is rest = rest is

-- ---- a chunk that is stored

-- it alone is another, with its upload
module _ (t : Tables) (row : ChunkRow) (now : ℕ) where
  abbrev IsPart : ℕ → List ℕ → ℕ → Type 0
  IsPart user dir number = IsThatUpload row.user row.dir user dir × (number ≡ row.number)

  abbrev puts_chunk : Bool → List Change
  puts_chunk b = if b then [] else Put (rows.Chunk row) ∷ []

  chunk_left : (user : ℕ) (dir : List ℕ) (number : ℕ) → (is_that row.user row.dir user dir && number == row.number) ≡ false
      → chunk_row (put chunk_key row t.chunks) user dir number ≡ chunk_row t.chunks user dir number
  chunk_left user dir number other =
      put_leaves chunk_key (λ (x : ChunkRow). is_chunk_of user dir x && x.number == number) row t.chunks (off row refl) (λ x same. off x same)
    where
      parts : (a b : ℕ) (c d : List ℕ) (m n : ℕ) → a ∷ length c ∷ c ++ m ∷ [] ≡ b ∷ length d ∷ d ++ n ∷ [] → (a ≡ b) × (c ≡ d) × (m ≡ n)
      parts a b c d m n same =
          let rest : c ++ m ∷ [] ≡ d ++ n ∷ [] = cc in
          let both = same_from_push c d m n rest in (cc, both.0, both.1)

      off : (x : ChunkRow) → chunk_key row ≡ chunk_key x → (is_chunk_of user dir x && x.number == number) ≡ false
      off x same = here (is_chunk_of user dir x && x.number == number) refl
        where
          here : (b : Bool) → (is_chunk_of user dir x && x.number == number) ≡ b → b ≡ false
          here false e = refl
          here true e =
              let keys = parts row.user x.user row.dir x.dir row.number x.number same in
              let both = and_parts (is_chunk_of user dir x) (x.number == number) e in
              let own = and_parts (x.user == user) (bytes_eq x.dir dir) both.0 in
              absurd (both_ways (is_that row.user row.dir user dir && number == row.number) other
              (and_from (is_that row.user row.dir user dir) (number == row.number)
              (is_that_so row.user row.dir user dir (sym (eqb-true x.user user own.0) ∙ sym keys.0)
              (sym ((bytes_eq-Decides x.dir dir).0 own.1) ∙ sym keys.1))
              (eq-eqb number row.number (sym (eqb-true x.number number both.1) ∙ sym keys.2))))

  one_part : (user : ℕ) (dir : List ℕ) (number : ℕ) → (is_that row.user row.dir user dir && number == row.number) ≡ true → IsPart user dir number
  one_part user dir number is =
      let both = and_parts (is_that row.user row.dir user dir) (number == row.number) is in
      (that_is row.user row.dir user dir both.0, eqb-true number row.number both.1)

  abbrev touches : Option UploadRow → List Change
  touches upload = option_map_or (upload_touched now) upload []

  -- what the two changes leave
  pub record LeavesPart (made : Tables) : Type 0 where
    pub uploads : (user : ℕ) (dir : List ℕ) → is_that row.user row.dir user dir ≡ false → upload_row made.uploads user dir ≡ upload_row t.uploads user dir
    pub chunks : (user : ℕ) (dir : List ℕ) (number : ℕ) → (is_that row.user row.dir user dir && number == row.number) ≡ false
        → chunk_row made.chunks user dir number ≡ chunk_row t.chunks user dir number
    pub rest : made ≡ record t { uploads = made.uploads; chunks = made.chunks }

  put_part : (again : Bool) → LeavesPart (put_all t (puts_chunk again))
  put_part true = record { uploads = λ user dir other. refl; chunks = λ user dir number other. refl; rest = refl }
  put_part false = record { uploads = λ user dir other. refl; chunks = chunk_left; rest = refl }

  -- an upload that is touched after that
  touch_part : (again : Bool) (o : Option UploadRow) → upload_row t.uploads row.user row.dir ≡ o → LeavesPart (put_all t (puts_chunk again ++ touches o))
  touch_part again None e = subst (λ (changes : List Change). LeavesPart (put_all t changes)) (sym (append-nil (puts_chunk again))) (put_part again)
  touch_part again (Some upload) e = here again (upload.touched == now)
    where
      new : UploadRow
      new = touched_row now upload

      off : (user : ℕ) (dir : List ℕ) → is_that row.user row.dir user dir ≡ false → upload_row (put upload_key new t.uploads) user dir ≡ upload_row t.uploads user dir
      off user dir other =
          let is = upload_is t.uploads row.user row.dir upload e in
          upload_left new t.uploads user dir ((λ i. is_that (is.0 i) (is.1 i) user dir) ∙ other)

      here : (again same : Bool) → LeavesPart (put_all t (puts_chunk again ++ (if same then [] else Put (rows.Upload new) ∷ [])))
      here true true = put_part true
      here false true = put_part false
      here true false = record { uploads = off; chunks = λ user dir number other. refl; rest = refl }
      here false false = record { uploads = off; chunks = chunk_left; rest = refl }

  pub chunk_leaves : LeavesPart (put_all t (chunk_put t row ++ touches (upload_row t.uploads row.user row.dir)))
  chunk_leaves =
      touch_part (option_map_or (λ (old : ChunkRow). content_eq old.content row.content) (chunk_row t.chunks row.user row.dir row.number) false)
      (upload_row t.uploads row.user row.dir) refl

  -- so just they are others, in tables of another meta row
  pub only_part : (meta : MetaRow) (made : Tables) → LeavesPart made
      → OnlyUploads (record t { meta = meta }) (record made { meta = meta }) (IsThatUpload row.user row.dir) IsPart
  only_part meta made leaves = record {
    uploads = λ user dir differs.
        elim (cases_Bool (is_that row.user row.dir user dir)) [
          | inl is ↦ that_is row.user row.dir user dir is
          | inr other ↦ absurd (differs (leaves.uploads user dir other))
        ];
    chunks = λ user dir number differs.
        elim (cases_Bool (is_that row.user row.dir user dir && number == row.number)) [
          | inl is ↦ one_part user dir number is
          | inr other ↦ absurd (differs (leaves.chunks user dir number other))
        ];
    rest = ap (λ (u : Tables). record u { meta = meta }) leaves.rest;
  }
