-- What a sweep leaves: without the uploads that are idle and their chunks, and without items that go.
use Rattle.std.proofs.Common.{◌≡◌, ◌&&◌, ◌||◌, ◌==◌, ℕ, bytes_eq, Bool, true, false, not, List, [], ◌∷◌, ◌++◌, filter, find, get_or, length, inl, inr, None, Some, if◌then◌else◌, refl, sym, ap, subst, ◌∙◌}
use Rattle.std.specs.Prelude.{is_some}
use Rattle.std.specs.List.{All, Contains, list_any}
use Rattle.std.proofs.lemmas.Bool.{and_parts, both_ways, cases_Bool, eqb-true, false_from_ne_true, not-true}
use Rattle.std.proofs.lemmas.List.Elements.{All-contains_itself, All-filter, All-head, All-tail, filter_passes}
use Rattle.std.proofs.lemmas.List.Folds.{list_any_at}
use Rattle.std.proofs.lemmas.Option.{same_Some}
use Rattle.std.proofs.lemmas.Slice.Eq.{bytes_eq-Decides}
use Rattle.nf_base.specs.declared.rows.ChunkRow.{ChunkRow}
use Rattle.nf_base.specs.declared.rows.UploadRow.{UploadRow}
use Rattle.nf_defs.proofs.ByName.{Contains-filter}
use Rattle.nf_defs.specs.Prelude.{dropped, IsRising, Tables, upload_key}
use Rattle.nf_laws.proofs.Climbs.{some_there}
use Rattle.nf_laws.proofs.Discarding.{deeds_told}
use Rattle.nf_laws.proofs.Going.{purged_rest}
use Rattle.nf_laws.proofs.InTurn.{deeds_append}
use Rattle.nf_laws.proofs.Leaning.{any_found}
use Rattle.nf_laws.proofs.Restoring.{taken_at}
use Rattle.nf_laws.proofs.Rows.{finds_none, found_is, stamp, stamped_some}
use Rattle.nf_laws.proofs.Sent.{same_name, upload_stays}
use Rattle.nf_laws.proofs.Turning.{all_pass}
use Rattle.nf_laws.specs.Acts.{AreSwept, AreTaken}
use Rattle.nf_words.proofs.Known.{IsItem, KnownGoes}
use Rattle.nf_words.proofs.Sweeping.{uploads_there}
use Rattle.nf_words.specs.Prelude.{abandoned, abandons, AreSound, changed, deeds_done, done, is_chunk_of, is_idle, purges, told, upload_row}
use Rattle.nf_words.specs.declared.answer.Allowed.TheVariants as allowed
use Rattle.nf_words.specs.declared.answer.Deed.TheVariants as deed
use Rattle.nf_words.specs.declared.answer.Report.TheVariants.{Plain}

-- ---- lists that are left

-- what passes two tests, one after the other
filter_both : {X : Type 0} (p q both : X → Bool) → ((x : X) → both x ≡ (q x && p x)) → (xs : List X) → filter p (filter q xs) ≡ filter both xs
filter_both p q both are [] = refl
filter_both {X = X} p q both are (x ∷ xs) =
    here (q x) (filter_both p q both are xs) ∙ sym (ap (λ (b : Bool). if b then x ∷ filter both xs else filter both xs) (are x))
  where
    here : (b : Bool) → filter p (filter q xs) ≡ filter both xs
        → filter p (if b then x ∷ filter q xs else filter q xs) ≡ (if b && p x then x ∷ filter both xs else filter both xs)
    here true rest = ap (λ (left : List X). if p x then x ∷ left else left) rest
    here false rest = rest

-- tests that agree on all elements leave the same
filter_each : {X : Type 0} (p q : X → Bool) (xs : List X) → All (λ (x : X). p x ≡ q x) xs → filter p xs ≡ filter q xs
filter_each p q [] same = refl
filter_each {X = X} p q (x ∷ xs) same =
    ap (λ (b : Bool). if b then x ∷ filter p xs else filter p xs) (All-head (λ (x : X). p x ≡ q x) x xs same)
    ∙ ap (λ (left : List X). if q x then x ∷ left else left) (filter_each p q xs (All-tail (λ (x : X). p x ≡ q x) x xs same))

among_any : {X : Type 0} (test : X → Bool) (xs : List X) (x : X) → Contains xs x → test x ≡ true → list_any test xs ≡ true
among_any test xs x (k, within, is) passes = list_any_at test xs k x within (subst (λ y. test y ≡ true) (sym is) passes)

-- ---- uploads that go

-- nothing else is touched
abandons_rest : (u : Tables) (rows : List UploadRow)
    → deeds_done u (abandons rows) ≡ record u { uploads = (deeds_done u (abandons rows)).uploads; chunks = (deeds_done u (abandons rows)).chunks }
abandons_rest u [] = refl
abandons_rest u (row ∷ rows) = abandons_rest (abandoned u row.user row.dir) rows

-- the upload is one of those by its key
abbrev is_named : List UploadRow → UploadRow → Bool
is_named rows upload = list_any (λ row. bytes_eq (upload_key row) (upload_key upload)) rows

uploads_abandoned : (u : Tables) (rows : List UploadRow) → (deeds_done u (abandons rows)).uploads ≡ filter (λ upload. not (is_named rows upload)) u.uploads
uploads_abandoned u [] = all_pass (λ (upload : UploadRow). true) u.uploads (λ k d within. refl)
uploads_abandoned u (row ∷ rows) =
    uploads_abandoned (abandoned u row.user row.dir) rows
    ∙ filter_both (λ (upload : UploadRow). not (is_named rows upload)) (λ (upload : UploadRow). not (bytes_eq (upload_key row) (upload_key upload)))
    (λ (upload : UploadRow). not (is_named (row ∷ rows) upload))
    (λ upload. either (bytes_eq (upload_key row) (upload_key upload)) (is_named rows upload)) u.uploads
  where
    either : (a b : Bool) → not (a || b) ≡ (not a && not b)
    either true b = refl
    either false b = refl

-- where the rows rise, those that pass a test are named by those that do
named_so : (test : UploadRow → Bool) (uploads : List UploadRow) → IsRising upload_key uploads
    → All (λ (upload : UploadRow). is_named (filter test uploads) upload ≡ test upload) uploads
named_so test uploads rise k d within =
    elim (cases_Bool (test upload)) [
      | inl passes ↦
          among_any named (filter test uploads) upload (Contains-filter test uploads upload (All-contains_itself uploads k d within) passes)
          ((bytes_eq-Decides (upload_key upload) (upload_key upload)).1 refl) ∙ sym passes
      | inr fails ↦ false_from_ne_true (is_named (filter test uploads) upload) (λ is. never fails is) ∙ sym fails
    ]
  where
    upload : UploadRow
    upload = get_or uploads k d

    named : UploadRow → Bool
    named row = bytes_eq (upload_key row) (upload_key upload)

    Found : UploadRow → Type 0
    Found row = upload_row uploads row.user row.dir ≡ Some row

    there : All Found uploads
    there = uploads_there uploads rise

    never : test upload ≡ false → is_named (filter test uploads) upload ≡ true → ⊥
    never fails is =
        let row = some_there (find named (filter test uploads)) (sym (any_found named (filter test uploads)) ∙ is) in
        let both = found_is (λ (row : UploadRow). Found row × (test row ≡ true)) named (filter test uploads) row.0
        (λ i e among. (All-filter test Found uploads there i e among, filter_passes test uploads i e among)) row.1 in
        let of = same_name row.0.user upload.user row.0.dir upload.dir ((bytes_eq-Decides (upload_key row.0) (upload_key upload)).0 both.0) in
        let same : row.0 ≡ upload =
        same_Some row.0 upload
        (sym both.1.0 ∙ ap (λ (n : ℕ). upload_row uploads n row.0.dir) of.0 ∙ ap (upload_row uploads upload.user) of.1 ∙ there k d within) in
        both_ways (test upload) fails (subst (λ (row : UploadRow). test row ≡ true) same both.1.1)

-- ---- their chunks

abbrev has_upload : List UploadRow → ChunkRow → Bool
has_upload uploads row = is_some (upload_row uploads row.user row.dir)

-- those of an upload that goes have none, and the others have theirs
upload_after : (user : ℕ) (dir : List ℕ) (uploads : List UploadRow) (row : ChunkRow)
    → has_upload (dropped upload_key (user ∷ length dir ∷ dir) uploads) row ≡ (has_upload uploads row && not (is_chunk_of user dir row))
upload_after user dir uploads row =
    elim (cases_Bool (is_chunk_of user dir row)) [
      | inl own ↦ ap is_some (gone own) ∙ sym (ap (λ (b : Bool). has_upload uploads row && not b) own ∙ and_false (has_upload uploads row))
      | inr other ↦
          ap is_some (upload_stays user dir uploads row other)
          ∙ sym (ap (λ (b : Bool). has_upload uploads row && not b) other ∙ and_true (has_upload uploads row))
    ]
  where
    key : List ℕ
    key = user ∷ length dir ∷ dir

    and_false : (b : Bool) → (b && false) ≡ false
    and_false true = refl
    and_false false = refl

    and_true : (b : Bool) → (b && true) ≡ b
    and_true true = refl
    and_true false = refl

    gone : is_chunk_of user dir row ≡ true → upload_row (dropped upload_key key uploads) row.user row.dir ≡ None
    gone own =
        let of = and_parts (row.user == user) (bytes_eq row.dir dir) own in
        let left : UploadRow → Bool = λ x. not (bytes_eq key (upload_key x)) in
        finds_none (λ x. x.user == row.user && bytes_eq x.dir row.dir) (dropped upload_key key uploads) (λ k d within.
        let x = get_or (dropped upload_key key uploads) k d in
        false_from_ne_true (x.user == row.user && bytes_eq x.dir row.dir) (λ is.
        let named = and_parts (x.user == row.user) (bytes_eq x.dir row.dir) is in
        both_ways (bytes_eq key (upload_key x)) (not-true (bytes_eq key (upload_key x)) (filter_passes left uploads k d within))
        ((bytes_eq-Decides key (upload_key x)).1
        (ap (λ (n : ℕ). n ∷ length dir ∷ dir) (sym (eqb-true row.user user of.0) ∙ sym (eqb-true x.user row.user named.0))
        ∙ ap (λ (name : List ℕ). x.user ∷ length name ∷ name)
        (sym ((bytes_eq-Decides row.dir dir).0 of.1) ∙ sym ((bytes_eq-Decides x.dir row.dir).0 named.1))))))

-- so those that are left are those whose upload is
chunks_abandoned : (first : List ChunkRow) (u : Tables) (rows : List UploadRow) → u.chunks ≡ filter (has_upload u.uploads) first
    → (deeds_done u (abandons rows)).chunks ≡ filter (has_upload (deeds_done u (abandons rows)).uploads) first
chunks_abandoned first u [] are = are
chunks_abandoned first u (row ∷ rows) are =
    let other : ChunkRow → Bool = λ chunk. not (is_chunk_of row.user row.dir chunk) in
    let after = abandoned u row.user row.dir in
    chunks_abandoned first after rows
    (ap (filter other) are ∙ filter_both other (has_upload u.uploads) (has_upload after.uploads) (upload_after row.user row.dir u.uploads) first)

-- ---- a sweep

module _ (t : Tables) (now : ℕ) (tops : List ℕ) (sound : AreSound t) (goes : KnownGoes t tops) where
  abbrev idle : List UploadRow
  idle = filter (is_idle now) t.uploads

  -- without the items, and then without the uploads
  abbrev taken : Tables
  taken = deeds_done t (purges tops)

  abbrev left : Tables
  left = deeds_done taken (abandons idle)

  same_uploads : taken.uploads ≡ t.uploads
  same_uploads = ap (λ (u : Tables). u.uploads) (purged_rest t tops)

  same_chunks : taken.chunks ≡ t.chunks
  same_chunks = ap (λ (u : Tables). u.chunks) (purged_rest t tops)

  uploads_gone : left.uploads ≡ filter (λ row. not (is_idle now row)) t.uploads
  uploads_gone =
      uploads_abandoned taken idle ∙ ap (filter (λ (upload : UploadRow). not (is_named idle upload))) same_uploads
      ∙ filter_each (λ (upload : UploadRow). not (is_named idle upload)) (λ (upload : UploadRow). not (is_idle now upload)) t.uploads
      (λ k d within. ap not (named_so (is_idle now) t.uploads sound.others.uploads_rise k d within))

  chunks_gone : left.chunks ≡ filter (has_upload left.uploads) t.chunks
  chunks_gone =
      chunks_abandoned t.chunks taken idle
      (same_chunks ∙ all_pass (has_upload t.uploads) t.chunks (λ k d within. (sound.others.chunks k d within).upload)
      ∙ ap (λ (uploads : List UploadRow). filter (has_upload uploads) t.chunks) (sym same_uploads))

  -- items are taken beside uploads that go
  taken_beside : (made : Tables) (uploads : List UploadRow) (chunks : List ChunkRow) → AreTaken t made tops
      → AreTaken (record t { uploads = uploads; chunks = chunks }) (record made { uploads = uploads; chunks = chunks }) tops
  taken_beside made uploads chunks h = record {
    gone = h.gone;
    none = h.none;
    others = h.others;
    items = h.items;
    versions = h.versions;
    rest = ap (λ (u : Tables). record u { uploads = uploads; chunks = chunks }) h.rest;
  }

  -- at whatever moment
  swept_at : (moment : ℕ) → AreSwept t (stamp left moment) now tops
  swept_at moment = (
    record { uploads = uploads_gone; chunks = chunks_gone },
    subst (λ (made : Tables). AreTaken (record t { uploads = left.uploads; chunks = left.chunks }) (stamp made moment) tops)
        (sym (abandons_rest taken idle))
        (taken_beside (stamp taken moment) left.uploads left.chunks (taken_at t tops moment sound goes)),
  )

-- the moment is stamped where anything goes
swept_stamped : (t : Tables) (now : ℕ) (tops : List ℕ) (rows : List UploadRow) → KnownGoes t tops
    → (moment : ℕ) × (changed t now (done (purges tops ++ abandons rows) Plain) ≡ stamp (deeds_done t (purges tops ++ abandons rows)) moment)
swept_stamped t now [] [] goes = (t.meta.last, refl)
swept_stamped t now [] (row ∷ rows) goes = (
  now,
  stamped_some t (deeds_done t (abandons (row ∷ rows))) now (told t (allowed.Deeds (abandons (row ∷ rows)) Plain))
      (deeds_told t now (deed.Abandon row.user row.dir) (abandons rows) tt tt),
)
swept_stamped t now (top ∷ tops) rows goes = (
  now,
  stamped_some t (deeds_done t (purges (top ∷ tops) ++ abandons rows)) now (told t (allowed.Deeds (purges (top ∷ tops) ++ abandons rows) Plain))
      (deeds_told t now (deed.Purge top) (purges tops ++ abandons rows) tt (inl (All-head (IsItem t) top tops goes.items))),
)

pub swept_rows : (t : Tables) (now : ℕ) (tops : List ℕ) → AreSound t → KnownGoes t tops
    → AreSwept t (changed t now (done (purges tops ++ abandons (filter (is_idle now) t.uploads)) Plain)) now tops
swept_rows t now tops sound goes =
    let rows = filter (is_idle now) t.uploads in
    let stamps = swept_stamped t now tops rows goes in
    subst (λ (made : Tables). AreSwept t made now tops)
    (sym (stamps.1 ∙ ap (λ (u : Tables). stamp u stamps.0) (deeds_append t (purges tops) (abandons rows))))
    (swept_at t now tops sound goes stamps.0)
