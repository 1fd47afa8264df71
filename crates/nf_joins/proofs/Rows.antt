-- Each chunk among the rows is found by its upload and its number.
use Rattle.std.proofs.Common.{◌≡◌, ℕ, ◌==◌, ◌&&◌, bytes_eq, get_or, List, [], ◌∷◌, Option, Some, refl, sym, ap, ◌∙◌}
use Rattle.std.specs.List.{All}
use Rattle.std.specs.declared.cmp.Ordering.TheVariants.{Equal, Less}
use Rattle.std.proofs.lemmas.Bool.{and_from, cond_both, eq-eqb}
use Rattle.std.proofs.lemmas.Cmp.{tied_itself}
use Rattle.std.proofs.lemmas.List.Elements.{All-cons, All-filter, All-nil}
use Rattle.std.proofs.lemmas.Slice.Eq.{bytes_eq-Decides}
use Rattle.nf_base.specs.declared.rows.ChunkRow.{ChunkRow}
use Rattle.nf_defs.proofs.Puts.{key_total}
use Rattle.nf_defs.specs.Prelude.{chunk_key, IsRising, key_cmp}
use Rattle.nf_joins.specs.Sent.{IsThere}
use Rattle.nf_laws.proofs.Sent.{chunk_keyed}
use Rattle.nf_words.proofs.Forgetting.{heads, tails}
use Rattle.nf_words.specs.Prelude.{chunk_row, chunks_of, IsSound, is_chunk_of, State}

abbrev Below : ChunkRow → ChunkRow → Type 0
Below a b = key_cmp (chunk_key a) (chunk_key b) ≡ Less

-- keys that rise differ
apart : (a b : ChunkRow) → Below a b → chunk_key a ≡ chunk_key b → ⊥
apart a b below same =
    let both : Less ≡ Equal = sym below ∙ ap (λ (key : List ℕ). key_cmp key (chunk_key b)) same ∙ tied_itself key_total (chunk_key b) in cc

each_found : (rows : List ChunkRow) → IsRising chunk_key rows → All (λ (row : ChunkRow). chunk_row rows row.user row.dir row.number ≡ Some row) rows
each_found [] rise = All-nil (λ (row : ChunkRow). chunk_row [] row.user row.dir row.number ≡ Some row)
each_found (first ∷ rows) rise =
    let rest = each_found rows (tails Below first rows rise) in
    let below = heads Below first rows rise in
    All-cons (λ (row : ChunkRow). chunk_row (first ∷ rows) row.user row.dir row.number ≡ Some row) first rows
    (rw (and_from (is_chunk_of first.user first.dir first) (first.number == first.number)
    (and_from (first.user == first.user) (bytes_eq first.dir first.dir) (eq-eqb first.user first.user refl) ((bytes_eq-Decides first.dir first.dir).1 refl))
    (eq-eqb first.number first.number refl)) refl)
    (λ k d within. here (get_or rows k d) (below k d within) (rest k d within))
  where
    here : (row : ChunkRow) → Below first row → chunk_row rows row.user row.dir row.number ≡ Some row
        → chunk_row (first ∷ rows) row.user row.dir row.number ≡ Some row
    here row below found =
        cond_both (is_chunk_of row.user row.dir first && first.number == row.number) (Some first) (chunk_row rows row.user row.dir row.number)
        (λ (o : Option ChunkRow). o ≡ Some row) (λ e. absurd (apart first row below (chunk_keyed row first e))) (λ e. found)

-- so are those of an upload in a sound state
pub upload_found : (s : State) (user : ℕ) (dir : List ℕ) → IsSound s → All (IsThere s) (chunks_of s.tables.chunks user dir)
upload_found s user dir sound =
    All-filter (is_chunk_of user dir) (IsThere s) s.tables.chunks (each_found s.tables.chunks sound.rows.others.chunks_rise)
