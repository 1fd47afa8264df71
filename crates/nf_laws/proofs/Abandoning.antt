-- An upload that goes with its chunks, told as a list: its chunks are dropped one by one, and then it is.
use Rattle.std.proofs.Common.{◌≡◌, ◌≢◌, ℕ, ◌==◌, ◌&&◌, not, filter, length, get_or, bytes_eq, Bool, true, false, List, [], ◌∷◌, ◌++◌, Option, None, Some, if◌then◌else◌, map, refl, sym, ap, ◌∙◌, append_assoc, inl, inr}
use Rattle.std.specs.Prelude.{is_some}
use Rattle.std.specs.List.{All, Contains, list_any}
use Rattle.std.proofs.lemmas.Bool.{and_from, and_parts, both_ways, cases_Bool, cond_both, eq-eqb, eqb-true, false_from_ne_true, not-true}
use Rattle.std.proofs.lemmas.List.{same_from_push}
use Rattle.std.proofs.lemmas.List.Elements.{All-append, All-cons, All-contains_itself, All-filter, All-head, All-map, All-nil, All-tail, All-weaker, filter_passes}
use Rattle.std.proofs.lemmas.List.Folds.{list_any_at, list_any_none}
use Rattle.std.proofs.lemmas.Slice.Eq.{bytes_eq-Decides}
use Rattle.nf_base.specs.declared.changes.Change.{Change}
use Rattle.nf_base.specs.declared.changes.Change.TheVariants.{Drop}
use Rattle.nf_base.specs.declared.changes.RowKey.TheVariants as keys
use Rattle.nf_base.specs.declared.rows.ChunkRow.{ChunkRow}
use Rattle.nf_base.specs.declared.rows.UploadRow.{UploadRow}
use Rattle.nf_defs.proofs.ByName.{Contains-filter}
use Rattle.nf_defs.specs.Prelude.{chunk_key, dropped, IsDroppable, made, put_all, Tables, upload_key}
use Rattle.nf_laws.proofs.Rows.{each_fails, finds_none}
use Rattle.nf_words.specs.Prelude.{abandoned, chunk_row, chunks_of, is_chunk_of, told_chunks, told_deed, upload_row}
use Rattle.nf_words.specs.declared.answer.Deed.TheVariants as deed

-- ---- keys

upload_parts : (a b : ℕ) (c d : List ℕ) → a ∷ length c ∷ c ≡ b ∷ length d ∷ d → (a ≡ b) × (c ≡ d)
upload_parts a b c d same = (cc, cc)

chunk_parts : (a b : ℕ) (c d : List ℕ) (m n : ℕ) → a ∷ length c ∷ c ++ m ∷ [] ≡ b ∷ length d ∷ d ++ n ∷ [] → (a ≡ b) × (c ≡ d)
chunk_parts a b c d m n same =
    let rest : c ++ m ∷ [] ≡ d ++ n ∷ [] = cc in
    let both = same_from_push c d m n rest in (cc, both.0)

-- ---- rows that are dropped are found no more

pub upload_gone : (uploads : List UploadRow) (user : ℕ) (dir : List ℕ) → upload_row (dropped upload_key (user ∷ length dir ∷ dir) uploads) user dir ≡ None
upload_gone uploads user dir =
    finds_none (λ (x : UploadRow). x.user == user && bytes_eq x.dir dir) (dropped upload_key (user ∷ length dir ∷ dir) uploads)
    (All-weaker (λ (x : UploadRow). not (bytes_eq (user ∷ length dir ∷ dir) (upload_key x)) ≡ true)
    (λ (x : UploadRow). (x.user == user && bytes_eq x.dir dir) ≡ false)
    (λ x other.
    false_from_ne_true (x.user == user && bytes_eq x.dir dir) (λ is.
    let both = and_parts (x.user == user) (bytes_eq x.dir dir) is in
    both_ways (bytes_eq (user ∷ length dir ∷ dir) (upload_key x)) (not-true (bytes_eq (user ∷ length dir ∷ dir) (upload_key x)) other)
    ((bytes_eq-Decides (user ∷ length dir ∷ dir) (upload_key x)).1
    (sym (ap (λ (n : ℕ). n ∷ length x.dir ∷ x.dir) (eqb-true x.user user both.0)
    ∙ ap (λ (d : List ℕ). user ∷ length d ∷ d) ((bytes_eq-Decides x.dir dir).0 both.1))))))
    (dropped upload_key (user ∷ length dir ∷ dir) uploads)
    (filter_passes (λ (x : UploadRow). not (bytes_eq (user ∷ length dir ∷ dir) (upload_key x))) uploads))

-- one that is gone is gone where others go
pub upload_lost : (uploads : List UploadRow) (key : List ℕ) (user : ℕ) (dir : List ℕ) → upload_row uploads user dir ≡ None
    → upload_row (dropped upload_key key uploads) user dir ≡ None
upload_lost uploads key user dir none =
    finds_none (λ (x : UploadRow). x.user == user && bytes_eq x.dir dir) (dropped upload_key key uploads)
    (All-filter (λ (x : UploadRow). not (bytes_eq key (upload_key x))) (λ (x : UploadRow). (x.user == user && bytes_eq x.dir dir) ≡ false) uploads
    (each_fails (λ (x : UploadRow). x.user == user && bytes_eq x.dir dir) uploads none))

pub chunk_gone : (chunks : List ChunkRow) (user : ℕ) (dir : List ℕ) (number : ℕ)
    → chunk_row (dropped chunk_key (user ∷ length dir ∷ dir ++ number ∷ []) chunks) user dir number ≡ None
chunk_gone chunks user dir number =
    finds_none (λ (x : ChunkRow). is_chunk_of user dir x && x.number == number) (dropped chunk_key key chunks)
    (All-weaker (λ (x : ChunkRow). not (bytes_eq key (chunk_key x)) ≡ true) (λ (x : ChunkRow). (is_chunk_of user dir x && x.number == number) ≡ false)
    (λ x other.
    false_from_ne_true (is_chunk_of user dir x && x.number == number) (λ is.
    let both = and_parts (is_chunk_of user dir x) (x.number == number) is in
    let own = and_parts (x.user == user) (bytes_eq x.dir dir) both.0 in
    both_ways (bytes_eq key (chunk_key x)) (not-true (bytes_eq key (chunk_key x)) other)
    ((bytes_eq-Decides key (chunk_key x)).1
    (sym (ap (λ (n : ℕ). n ∷ length x.dir ∷ x.dir ++ x.number ∷ []) (eqb-true x.user user own.0)
    ∙ ap (λ (d : List ℕ). user ∷ length d ∷ d ++ x.number ∷ []) ((bytes_eq-Decides x.dir dir).0 own.1)
    ∙ ap (λ (n : ℕ). user ∷ length dir ∷ dir ++ n ∷ []) (eqb-true x.number number both.1))))))
    (dropped chunk_key key chunks)
    (filter_passes (λ (x : ChunkRow). not (bytes_eq key (chunk_key x))) chunks))
  where
    key : List ℕ
    key = user ∷ length dir ∷ dir ++ number ∷ []

-- so a row that is there is dropped from other tables
abbrev pub Differs : Tables → Change → Type 0
Differs t change = made t change ≢ t

pub upload_drop_differs : (t : Tables) (user : ℕ) (dir : List ℕ) → is_some (upload_row t.uploads user dir) ≡ true → Differs t (Drop (keys.Upload user dir))
upload_drop_differs t user dir there = λ same.
    both_ways (is_some (upload_row t.uploads user dir))
    (sym (ap (λ (u : Tables). is_some (upload_row u.uploads user dir)) same) ∙ ap is_some (upload_gone t.uploads user dir)) there

pub chunk_drop_differs : (t : Tables) (user : ℕ) (dir : List ℕ) (number : ℕ) → is_some (chunk_row t.chunks user dir number) ≡ true
    → Differs t (Drop (keys.Chunk user dir number))
chunk_drop_differs t user dir number there = λ same.
    both_ways (is_some (chunk_row t.chunks user dir number))
    (sym (ap (λ (u : Tables). is_some (chunk_row u.chunks user dir number)) same) ∙ ap is_some (chunk_gone t.chunks user dir number)) there

-- ---- chunks that are dropped one by one

abbrev drops_of : List ChunkRow → List Change
drops_of gone = map (λ (row : ChunkRow). Drop (keys.Chunk row.user row.dir row.number)) gone

abbrev is_of : List ChunkRow → ChunkRow → Bool
is_of gone row = list_any (λ (other : ChunkRow). bytes_eq (chunk_key other) (chunk_key row)) gone

abbrev left : List ChunkRow → List ChunkRow → List ChunkRow
left gone chunks = filter (λ row. not (is_of gone row)) chunks

all_left : (chunks : List ChunkRow) → left [] chunks ≡ chunks
all_left [] = refl
all_left (x ∷ chunks) = ap (λ (all : List ChunkRow). x ∷ all) (all_left chunks)

both_dropped : (one : ChunkRow) (gone chunks : List ChunkRow) → left gone (dropped chunk_key (chunk_key one) chunks) ≡ left (one ∷ gone) chunks
both_dropped one gone [] = refl
both_dropped one gone (x ∷ chunks) =
    let rest = both_dropped one gone chunks in
    elim (cases_Bool (bytes_eq (chunk_key one) (chunk_key x))) [
      | inl e ↦ simp e rest
      | inr e ↦ simp e (ap (λ (all : List ChunkRow). if not (is_of gone x) then x ∷ all else all) rest)
    ]

drops : (t : Tables) (gone : List ChunkRow) (rest : List Change)
    → put_all t (drops_of gone ++ rest) ≡ put_all (record t { chunks = left gone t.chunks }) rest
drops t [] rest = ap (λ (all : List ChunkRow). put_all (record t { chunks = all }) rest) (sym (all_left t.chunks))
drops t (one ∷ gone) rest =
    drops (record t { chunks = dropped chunk_key (chunk_key one) t.chunks }) gone rest
    ∙ ap (λ (all : List ChunkRow). put_all (record t { chunks = all }) rest) (both_dropped one gone t.chunks)

-- where all of an upload are, the others are left
module _ (user : ℕ) (dir : List ℕ) (gone : List ChunkRow) (own : All (λ (row : ChunkRow). is_chunk_of user dir row ≡ true) gone) where
  others_left : (chunks : List ChunkRow) → All (λ (row : ChunkRow). is_chunk_of user dir row ≡ true → Contains gone row) chunks
      → left gone chunks ≡ filter (λ row. not (is_chunk_of user dir row)) chunks
  others_left [] among = refl
  others_left (x ∷ chunks) among =
      let Among : ChunkRow → Type 0 = λ row. is_chunk_of user dir row ≡ true → Contains gone row in
      let rest = others_left chunks (All-tail Among x chunks among) in
      here (is_chunk_of user dir x) refl (All-head Among x chunks among) rest
    where
      here : (b : Bool) → is_chunk_of user dir x ≡ b → (is_chunk_of user dir x ≡ true → Contains gone x)
          → left gone chunks ≡ filter (λ row. not (is_chunk_of user dir row)) chunks
          → left gone (x ∷ chunks) ≡ filter (λ row. not (is_chunk_of user dir row)) (x ∷ chunks)
      here true e among rest =
          let at = among e in
          let is : is_of gone x ≡ true =
          list_any_at (λ (other : ChunkRow). bytes_eq (chunk_key other) (chunk_key x)) gone at.0 x at.1
          ((bytes_eq-Decides (chunk_key (get_or gone at.0 x)) (chunk_key x)).1 (ap chunk_key at.2)) in
          simp (is, e) rest
      here false e among rest =
          let none : is_of gone x ≡ false =
          list_any_none (λ (other : ChunkRow). bytes_eq (chunk_key other) (chunk_key x)) gone
          (All-weaker (λ (row : ChunkRow). is_chunk_of user dir row ≡ true) (λ (row : ChunkRow). bytes_eq (chunk_key row) (chunk_key x) ≡ false)
          (λ other is.
          false_from_ne_true (bytes_eq (chunk_key other) (chunk_key x)) (λ same.
          let both = and_parts (other.user == user) (bytes_eq other.dir dir) is in
          let parts = chunk_parts other.user x.user other.dir x.dir other.number x.number
          ((bytes_eq-Decides (chunk_key other) (chunk_key x)).0 same) in
          both_ways (is_chunk_of user dir x) e
          (and_from (x.user == user) (bytes_eq x.dir dir) (eq-eqb x.user user (sym parts.0 ∙ eqb-true other.user user both.0))
          ((bytes_eq-Decides x.dir dir).1 (sym parts.1 ∙ (bytes_eq-Decides other.dir dir).0 both.1)))))
          gone own) in
          simp (none, e) (ap (λ (all : List ChunkRow). x ∷ all) rest)

-- so an upload that goes
pub abandoned_put : (t : Tables) (user : ℕ) (dir : List ℕ) (rest : List Change)
    → put_all t (told_deed t (deed.Abandon user dir) ++ rest) ≡ put_all (abandoned t user dir) rest
abandoned_put t user dir rest =
    let gone = chunks_of t.chunks user dir in
    ap (put_all t) (append_assoc (told_chunks t user dir) (Drop (keys.Upload user dir) ∷ []) rest)
    ∙ drops t gone (Drop (keys.Upload user dir) ∷ rest)
    ∙ ap (λ (all : List ChunkRow). put_all (record t { chunks = all }) (Drop (keys.Upload user dir) ∷ rest))
    (others_left user dir gone (filter_passes (is_chunk_of user dir) t.chunks) t.chunks (λ k d within is.
    Contains-filter (is_chunk_of user dir) t.chunks (get_or t.chunks k d) (All-contains_itself t.chunks k d within) is))

-- where they were there before a step, too
abbrev pub WereChunks : Tables → List ChunkRow → Type 0
WereChunks t chunks = All (λ (row : ChunkRow). is_some (chunk_row t.chunks row.user row.dir row.number) ≡ true) chunks

pub abandoned_differs : (t u : Tables) (user : ℕ) (dir : List ℕ) → WereChunks t u.chunks → is_some (upload_row t.uploads user dir) ≡ true
    → All (Differs t) (told_deed u (deed.Abandon user dir))
abandoned_differs t u user dir were there =
    All-append (Differs t) (told_chunks u user dir) (Drop (keys.Upload user dir) ∷ [])
    (All-map (Differs t) (λ (row : ChunkRow). Drop (keys.Chunk row.user row.dir row.number)) (chunks_of u.chunks user dir)
    (All-weaker (λ (row : ChunkRow). is_some (chunk_row t.chunks row.user row.dir row.number) ≡ true)
    (λ (row : ChunkRow). Differs t (Drop (keys.Chunk row.user row.dir row.number)))
    (λ row was. chunk_drop_differs t row.user row.dir row.number was) (chunks_of u.chunks user dir)
    (All-filter (is_chunk_of user dir) (λ (row : ChunkRow). is_some (chunk_row t.chunks row.user row.dir row.number) ≡ true) u.chunks were)))
    (All-cons (Differs t) (Drop (keys.Upload user dir)) [] (upload_drop_differs t user dir there) (All-nil (Differs t)))

pub chunks_there : (rows : List ChunkRow) → All (λ (row : ChunkRow). is_some (chunk_row rows row.user row.dir row.number) ≡ true) rows
chunks_there [] = All-nil (λ (row : ChunkRow). is_some (chunk_row [] row.user row.dir row.number) ≡ true)
chunks_there (first ∷ rows) =
    All-cons (λ (row : ChunkRow). is_some (chunk_row (first ∷ rows) row.user row.dir row.number) ≡ true) first rows
    (rw (and_from (is_chunk_of first.user first.dir first) (first.number == first.number)
    (and_from (first.user == first.user) (bytes_eq first.dir first.dir) (eq-eqb first.user first.user refl) ((bytes_eq-Decides first.dir first.dir).1 refl))
    (eq-eqb first.number first.number refl)) refl)
    (All-weaker (λ (row : ChunkRow). is_some (chunk_row rows row.user row.dir row.number) ≡ true)
    (λ (row : ChunkRow). is_some (chunk_row (first ∷ rows) row.user row.dir row.number) ≡ true)
    (λ row there.
    cond_both (is_chunk_of row.user row.dir first && first.number == row.number) (Some first) (chunk_row rows row.user row.dir row.number)
    (λ (o : Option ChunkRow). is_some o ≡ true) (λ e. refl) (λ e. there))
    rows (chunks_there rows))

-- neither drops the meta row
pub abandoned_droppable : (t : Tables) (user : ℕ) (dir : List ℕ) → All IsDroppable (told_deed t (deed.Abandon user dir))
abandoned_droppable t user dir =
    All-append IsDroppable (told_chunks t user dir) (Drop (keys.Upload user dir) ∷ [])
    (All-map IsDroppable (λ (row : ChunkRow). Drop (keys.Chunk row.user row.dir row.number)) (chunks_of t.chunks user dir) (λ k d within is. cc))
    (All-cons IsDroppable (Drop (keys.Upload user dir)) [] (λ is. cc) (All-nil IsDroppable))
