-- Uploads that go: each is told of the tables before all of them, since it takes no chunk of another, and neither does what is done before.
use Rattle.std.proofs.Common.{◌≡◌, ◌≢◌, ℕ, suc, ◌==◌, bytes_eq, false, true, not, List, [], ◌∷◌, ◌++◌, filter, get_or, length, map, refl, sym, ap, ◌∙◌, arith}
use Rattle.std.specs.List.{All, AllPairs, flat_map}
use Rattle.std.proofs.lemmas.Bool.{and_parts, eqb-true, false_from_ne_true, not-false}
use Rattle.std.proofs.lemmas.Grind.{flat_map-append}
use Rattle.std.proofs.lemmas.List.Elements.{All-head, All-tail}
use Rattle.std.proofs.lemmas.Slice.Eq.{bytes_eq-Decides}
use Rattle.nf_base.specs.declared.changes.Change.{Change}
use Rattle.nf_base.specs.declared.changes.Change.TheVariants.{Drop}
use Rattle.nf_base.specs.declared.changes.RowKey.TheVariants as keys
use Rattle.nf_base.specs.declared.rows.ChunkRow.{ChunkRow}
use Rattle.nf_base.specs.declared.rows.UploadRow.{UploadRow}
use Rattle.nf_defs.specs.Prelude.{Tables, upload_key}
use Rattle.nf_laws.proofs.Plain.{filing_chunks, IsFiling}
use Rattle.nf_words.proofs.Known.{KnownGoes, KnownIdle}
use Rattle.nf_words.specs.Prelude.{abandoned, abandons, AreSound, chunks_of, deeds_done, is_chunk_of, purged, purges, told_deeds}
use Rattle.nf_words.specs.declared.answer.Deed.TheVariants as deed
use Rattle.nf_state.specs.Gone.{TellsDeeds, told_first}
use Rattle.nf_state.proofs.ToldFirst.{tell_both, told_both}
use Rattle.nf_state.proofs.ToldGone.{still_left}

-- a chunk of an upload is none of another
other_chunk : (user other : ℕ) (dir name : List ℕ) (row : ChunkRow) → user ∷ length dir ∷ dir ≢ other ∷ length name ∷ name
    → is_chunk_of user dir row ≡ true → is_chunk_of other name row ≡ false
other_chunk user other dir name row differ is =
    false_from_ne_true (is_chunk_of other name row) (λ also.
    let one = and_parts (row.user == user) (bytes_eq row.dir dir) is in
    let two = and_parts (row.user == other) (bytes_eq row.dir name) also in
    let users : user ≡ other = sym (eqb-true row.user user one.0) ∙ eqb-true row.user other two.0 in
    let names : dir ≡ name = sym ((bytes_eq-Decides row.dir dir).0 one.1) ∙ (bytes_eq-Decides row.dir name).0 two.1 in
    differ (ap (λ (n : ℕ). n ∷ length dir ∷ dir) users ∙ ap (λ (bytes : List ℕ). other ∷ length bytes ∷ bytes) names))

-- so the others keep theirs
others_keep : (user other : ℕ) (dir name : List ℕ) (rows : List ChunkRow) → user ∷ length dir ∷ dir ≢ other ∷ length name ∷ name
    → chunks_of (filter (λ row. not (is_chunk_of user dir row)) rows) other name ≡ chunks_of rows other name
others_keep user other dir name rows differ =
    still_left (is_chunk_of other name) (λ (row : ChunkRow). not (is_chunk_of user dir row)) rows
    (λ k d within goes. other_chunk user other dir name (get_or rows k d) differ (not-false (is_chunk_of user dir (get_or rows k d)) goes))

-- an upload has the same chunks in other tables
abbrev pub SameChunks : Tables → Tables → UploadRow → Type 0
SameChunks t u row = chunks_of u.chunks row.user row.dir ≡ chunks_of t.chunks row.user row.dir

-- what is told of one by its chunks
abbrev dropped_by : UploadRow → List ChunkRow → List Change
dropped_by row chunks = map (λ chunk. Drop (keys.Chunk chunk.user chunk.dir chunk.number)) chunks ++ Drop (keys.Upload row.user row.dir) ∷ []

abandons_told : (t u : Tables) (rows : List UploadRow) → AllPairs (λ (a b : UploadRow). upload_key a ≢ upload_key b) rows → All (SameChunks t u) rows
    → told_deeds u (abandons rows) ≡ flat_map (told_first t) (abandons rows)
abandons_told t u [] once same = refl
abandons_told t u (row ∷ rows) once same =
    let rest = abandons_told t (abandoned u row.user row.dir) rows
    (λ i j d before within. once (suc i) (suc j) d (omega (arith, before)) (omega (arith, within)))
    (λ k d within.
    let other : UploadRow = get_or rows k d in
    others_keep row.user other.user row.dir other.dir u.chunks (once 0 (suc k) d (omega arith) (omega (arith, within)))
    ∙ All-tail (SameChunks t u) row rows same k d within) in
    ap (λ (chunks : List ChunkRow). dropped_by row chunks ++ told_deeds (abandoned u row.user row.dir) (abandons rows)) (All-head (SameChunks t u) row rows same)
    ∙ ap (λ (changes : List Change). dropped_by row (chunks_of t.chunks row.user row.dir) ++ changes) rest

-- items that go take no chunk
purges_keep : (t : Tables) (nodes : List ℕ) → (deeds_done t (purges nodes)).chunks ≡ t.chunks
purges_keep t [] = refl
purges_keep t (node ∷ nodes) = purges_keep (purged t node) nodes

-- ---- a sweep, and an upload that becomes the content of a file

pub sweeping_tell : (t : Tables) (nodes : List ℕ) (rows : List UploadRow) → AreSound t → KnownGoes t nodes → KnownIdle t rows
    → TellsDeeds t (purges nodes ++ abandons rows)
sweeping_tell t nodes rows sound goes idle =
    let u = deeds_done t (purges nodes) in
    told_both t (purges nodes) (abandons rows)
    ∙ ap (λ (changes : List Change). changes ++ told_deeds u (abandons rows)) (tell_both t [] nodes sound sound goes tt)
    ∙ ap (λ (changes : List Change). flat_map (told_first t) (purges nodes) ++ changes)
    (abandons_told t u rows idle.once
    (λ k d within.
    let row : UploadRow = get_or rows k d in ap (λ (chunks : List ChunkRow). chunks_of chunks row.user row.dir) (purges_keep t nodes)))
    ∙ sym (flat_map-append (told_first t) (purges nodes) (abandons rows))

pub joining_tell : (t : Tables) (changes : List Change) (user : ℕ) (dir : List ℕ) → All IsFiling changes
    → TellsDeeds t (deed.Store changes ∷ deed.Abandon user dir ∷ [])
joining_tell t changes user dir filing =
    ap (λ (chunks : List ChunkRow).
    changes ++ ((map (λ chunk. Drop (keys.Chunk chunk.user chunk.dir chunk.number)) (chunks_of chunks user dir) ++ Drop (keys.Upload user dir) ∷ []) ++ []))
    (filing_chunks t changes filing)
