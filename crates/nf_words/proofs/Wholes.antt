-- How many pieces the chunks of an upload have together: no more than a content may.
use Rattle.std.proofs.Common.{◌≡◌, ℕ, ◌+◌, ◌<◌, ◌≤◌, ◌==◌, bytes_eq, get_or, length, true, List, [], ◌∷◌, ◌∙◌, sym, ap, arith}
use Rattle.std.specs.List.{All, AllPairs}
use Rattle.std.specs.Ordering.{nat_cmp, ordering_then}
use Rattle.std.specs.Cmp.{nat_cmp_total}
use Rattle.std.specs.declared.cmp.Ordering.{Ordering}
use Rattle.std.specs.declared.cmp.Ordering.TheVariants.{Equal, Less}
use Rattle.std.proofs.lemmas.Bool.{and_parts, eqb-true}
use Rattle.std.proofs.lemmas.Cmp.{ranked, tied_itself}
use Rattle.std.proofs.lemmas.List.Concat.{length-flat_map}
use Rattle.std.proofs.lemmas.List.Elements.{All-filter, All-head, All-tail, All-weaker, filter_passes}
use Rattle.std.proofs.lemmas.List.Kept.{AllPairs-filter}
use Rattle.std.proofs.lemmas.List.Sums.{sum_by-le}
use Rattle.std.proofs.lemmas.Slice.Eq.{bytes_eq-Decides}
use Rattle.nf_base.specs.declared.limits.TheConstants.{MAX_PIECES}
use Rattle.nf_base.specs.declared.rows.ChunkRow.{ChunkRow}
use Rattle.nf_defs.proofs.Puts.{chunk_cmp, key_total}
use Rattle.nf_defs.specs.Prelude.{chunk_key, key_cmp, Tables}
use Rattle.nf_words.proofs.Forgetting.{heads, tails}
use Rattle.nf_words.specs.Prelude.{AreSound, chunks_of, IsChunkSound, is_chunk_of, whole_of}

abbrev pub Rise : ChunkRow → ChunkRow → Type 0
Rise a b = a.number < b.number

-- chunks of one upload have different numbers, which rise
pub same_rise : (a b : ChunkRow) → a.user ≡ b.user → a.dir ≡ b.dir → key_cmp (chunk_key a) (chunk_key b) ≡ Less → Rise a b
same_rise a b users dirs less = ranked a.number b.number Less (sym (sym numbers ∙ whole ∙ less))
  where
    front : ordering_then (nat_cmp a.user b.user) (key_cmp (length a.dir ∷ a.dir) (length b.dir ∷ b.dir)) ≡ Equal
    front =
        ap (λ (n : ℕ). ordering_then (nat_cmp n b.user) (key_cmp (length a.dir ∷ a.dir) (length b.dir ∷ b.dir))) users
        ∙ ap (λ (r : Ordering). ordering_then r (key_cmp (length a.dir ∷ a.dir) (length b.dir ∷ b.dir))) (tied_itself nat_cmp_total b.user)
        ∙ ap (λ (dir : List ℕ). key_cmp (length dir ∷ dir) (length b.dir ∷ b.dir)) dirs
        ∙ tied_itself key_total (length b.dir ∷ b.dir)

    numbers : ordering_then (ordering_then (nat_cmp a.user b.user) (key_cmp (length a.dir ∷ a.dir) (length b.dir ∷ b.dir))) (nat_cmp a.number b.number)
        ≡ nat_cmp a.number b.number
    numbers = ap (λ (r : Ordering). ordering_then r (nat_cmp a.number b.number)) front

    whole : ordering_then (ordering_then (nat_cmp a.user b.user) (key_cmp (length a.dir ∷ a.dir) (length b.dir ∷ b.dir))) (nat_cmp a.number b.number)
        ≡ key_cmp (chunk_key a) (chunk_key b)
    whole = chunk_cmp a.user b.user a.dir b.dir a.number b.number

-- numbers that rise from above a first one are no more than lie between that and the last one
rising_few : (rows : List ChunkRow) (first : ℕ) → AllPairs Rise rows → All (λ (row : ChunkRow). first < row.number) rows
    → All (λ (row : ChunkRow). row.number ≤ MAX_PIECES) rows → first ≤ MAX_PIECES → first + length rows ≤ MAX_PIECES
rising_few [] first rise above below most = omega (arith, most)
rising_few (row ∷ rows) first rise above below most =
    omega (
      arith,
      All-head (λ (one : ChunkRow). first < one.number) row rows above,
      rising_few rows row.number (tails Rise row rows rise) (heads Rise row rows rise) (All-tail (λ (one : ChunkRow). one.number ≤ MAX_PIECES) row rows below)
          (All-head (λ (one : ChunkRow). one.number ≤ MAX_PIECES) row rows below),
    )

module _ (t : Tables) (sound : AreSound t) (user : ℕ) (dir : List ℕ) where
  abbrev chunks : List ChunkRow
  chunks = chunks_of t.chunks user dir

  abbrev Below : ChunkRow → ChunkRow → Type 0
  Below a b = key_cmp (chunk_key a) (chunk_key b) ≡ Less

  own : All (λ (row : ChunkRow). is_chunk_of user dir row ≡ true) chunks
  own = filter_passes (is_chunk_of user dir) t.chunks

  pub chunks_numbers_rise : AllPairs Rise chunks
  chunks_numbers_rise i j d before within =
      let a = get_or chunks i d in
      let b = get_or chunks j d in
      let one = and_parts (a.user == user) (bytes_eq a.dir dir) (own i d (omega (arith, before, within))) in
      let other = and_parts (b.user == user) (bytes_eq b.dir dir) (own j d within) in
      same_rise a b (eqb-true a.user user one.0 ∙ sym (eqb-true b.user user other.0))
      ((bytes_eq-Decides a.dir dir).0 one.1 ∙ sym ((bytes_eq-Decides b.dir dir).0 other.1))
      (AllPairs-filter Below (is_chunk_of user dir) t.chunks sound.others.chunks_rise i j d before within)

  pub few_chunks : length chunks ≤ MAX_PIECES
  few_chunks =
      omega (
        arith,
        rising_few chunks 0 chunks_numbers_rise
            (All-filter (is_chunk_of user dir) (λ (row : ChunkRow). 0 < row.number) t.chunks
            (All-weaker (IsChunkSound t) (λ (row : ChunkRow). 0 < row.number) (λ row s. omega (arith, s.some)) t.chunks sound.others.chunks))
            (All-filter (is_chunk_of user dir) (λ (row : ChunkRow). row.number ≤ MAX_PIECES) t.chunks
            (All-weaker (IsChunkSound t) (λ (row : ChunkRow). row.number ≤ MAX_PIECES) (λ row s. s.few) t.chunks sound.others.chunks))
            (omega arith),
      )

  -- each has at most one
  pub whole_few : length (whole_of t.chunks user dir) ≤ MAX_PIECES
  whole_few =
      omega (
        arith,
        few_chunks,
        length-flat_map (λ (row : ChunkRow). row.content) chunks,
        sum_by-le (λ (row : ChunkRow). length row.content) 1 chunks
            (All-filter (is_chunk_of user dir) (λ (row : ChunkRow). length row.content ≤ 1) t.chunks
            (All-weaker (IsChunkSound t) (λ (row : ChunkRow). length row.content ≤ 1) (λ row s. s.one) t.chunks sound.others.chunks)),
      )
