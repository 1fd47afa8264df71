-- What the chunks of an upload have together.
use Rattle.std.proofs.Common.{ℕ, ◌+◌, ◌<◌, ◌≤◌, ◌≡◌, true, List, [], ◌∷◌, ◌++◌, length, get_or, take, refl, sym, ap, ◌∙◌, arith, bytes_eq}
use Rattle.std.specs.Prelude.{◌==◌, sum_by}
use Rattle.std.specs.List.{All, flat_map}
use Rattle.std.specs.Ordering.{nat_cmp, ordering_then}
use Rattle.std.specs.declared.cmp.Ordering.{Ordering}
use Rattle.std.specs.declared.cmp.Ordering.TheVariants.{Less, Equal}
use Rattle.std.proofs.lemmas.Bool.{and_parts, eqb-true}
use Rattle.std.proofs.lemmas.Cmp.{ranked, tied_itself}
use Rattle.std.proofs.lemmas.Grind.{flat_map-append}
use Rattle.std.proofs.lemmas.List.{append-nil, take_more}
use Rattle.std.proofs.lemmas.List.Concat.{flat_map-cons, length-flat_map}
use Rattle.std.proofs.lemmas.List.Elements.{All-filter, All-head, All-tail, filter_passes}
use Rattle.std.proofs.lemmas.List.Kept.{AllPairs-filter}
use Rattle.std.proofs.lemmas.List.Sums.{sum_by-append, sum_by-cons}
use Rattle.std.proofs.lemmas.Slice.Eq.{bytes_eq-Decides}
use Rattle.nf_base.specs.declared.limits.TheConstants.{MAX_PIECES}
use Rattle.nf_base.specs.declared.rows.ChunkRow.{ChunkRow}
use Rattle.nf_defs.specs.Prelude.{IsRising, chunk_key, key_cmp}
use Rattle.nf_defs.proofs.Puts.{Below, below_rest, chunk_cmp, key_total, tail_rising}
use Rattle.nf_words.specs.Uploads.{chunks_of, is_chunk_of}
use Rattle.nf_uploads.specs.Laws.{IsNumbered, WholesFit}

-- ---- sums

-- the sum of what is joined is that of the sums
pub sum_joined : {X Y : Type 0} (size : Y → ℕ) (f : X → List Y) (xs : List X) → sum_by (λ x. sum_by size (f x)) xs ≡ sum_by size (flat_map f xs)
sum_joined size f [] = refl
sum_joined {X} {Y} size f (x ∷ xs) =
    sum_by-cons (λ x. sum_by size (f x)) x xs
    ∙ ap (λ (n : ℕ). sum_by size (f x) + n) (sum_joined size f xs)
    ∙ sym (sum_by-append size (f x) (flat_map f xs))
    ∙ ap (sum_by size) (sym (flat_map-cons f x xs))

-- what is joined, with what one more has
pub joined_more : {X Y : Type 0} (f : X → List Y) (xs : List X) (i : ℕ) (x : X) (joined part more : List Y) → i < length xs → x ≡ get_or xs i x
    → joined ≡ flat_map f (take i xs) → part ≡ f x → more ≡ joined ++ part → more ≡ flat_map f (take (i + 1) xs)
joined_more f xs i x joined part more within is so_far its with =
    with
    ∙ ap (λ list. list ++ part) so_far
    ∙ ap (λ list. flat_map f (take i xs) ++ list)
    (its ∙ ap f is ∙ sym (append-nil (f (get_or xs i x))) ∙ sym (flat_map-cons f (get_or xs i x) []))
    ∙ sym (flat_map-append f (take i xs) (get_or xs i x ∷ []))
    ∙ ap (flat_map f) (sym (take_more xs i x within))

-- of at most one each
few_each : {X : Type 0} (f : X → ℕ) (xs : List X) → All (λ x. f x ≤ 1) xs → sum_by f xs ≤ length xs
few_each f [] few = omega arith
few_each f (x ∷ xs) few =
    omega (arith, sum_by-cons f x xs, All-head (λ x. f x ≤ 1) x xs few, few_each f xs (All-tail (λ x. f x ≤ 1) x xs few))

-- ---- the chunks of an upload

-- of keys with one user and name that of the lower number is lower
rises : (u v : ℕ) (a b : List ℕ) (m n : ℕ) → u ≡ v → a ≡ b → key_cmp (u ∷ length a ∷ a ++ m ∷ []) (v ∷ length b ∷ b ++ n ∷ []) ≡ Less → m < n
rises u v a b m n same_user same_dir less =
    let first : ordering_then (nat_cmp u v) (key_cmp (length a ∷ a) (length b ∷ b)) ≡ Equal =
    rw (same_user, same_dir) (tied_itself key_total (v ∷ length b ∷ b)) in
    ranked m n Less
    (sym less ∙ sym (chunk_cmp u v a b m n) ∙ ap (λ (r : Ordering). ordering_then r (nat_cmp m n)) first)

module _ (user : ℕ) (dir : List ℕ) where
  abbrev IsOwn : ChunkRow → Type 0
  IsOwn row = is_chunk_of user dir row ≡ true

  above : (x y : ChunkRow) → IsOwn x → IsOwn y → Below chunk_key x y → x.number < y.number
  above x y own_x own_y less =
      let parts_x = and_parts (x.user == user) (bytes_eq x.dir dir) own_x in
      let parts_y = and_parts (y.user == user) (bytes_eq y.dir dir) own_y in
      rises x.user y.user x.dir y.dir x.number y.number
      (eqb-true x.user user parts_x.0 ∙ sym (eqb-true y.user user parts_y.0))
      ((bytes_eq-Decides x.dir dir).0 parts_x.1 ∙ sym ((bytes_eq-Decides y.dir dir).0 parts_y.1)) less

  -- they have numbers of their own, above one that is below all, so there are no more than such numbers
  few_numbers : (low : ℕ) (rows : List ChunkRow) → low ≤ MAX_PIECES → IsRising chunk_key rows → All IsOwn rows → All IsNumbered rows
      → All (λ row. low < row.number) rows → low + length rows ≤ MAX_PIECES
  few_numbers low [] within rising own numbered over = omega arith
  few_numbers low (x ∷ xs) within rising own numbered over =
      let first = All-head IsOwn x xs own in
      let others = All-tail IsOwn x xs own in
      let rest = few_numbers x.number xs (All-head IsNumbered x xs numbered).upto (tail_rising chunk_key x xs rising) others
      (All-tail IsNumbered x xs numbered)
      (λ k d less. above x (get_or xs k d) first (others k d less) (below_rest chunk_key x xs rising k d less)) in
      omega (arith, All-head (λ (row : ChunkRow). low < row.number) x xs over)

-- what they have is a content
pub wholes_fit : WholesFit
wholes_fit chunks user dir rising numbered =
    let rows = chunks_of chunks user dir in
    let all : All IsNumbered rows = All-filter (is_chunk_of user dir) IsNumbered chunks numbered in
    let few = few_numbers user dir 0 rows (omega arith) (AllPairs-filter (Below chunk_key) (is_chunk_of user dir) chunks rising)
    (filter_passes (is_chunk_of user dir) chunks) all (λ k d less. (all k d less).from) in
    omega (
      arith,
      length-flat_map (λ (row : ChunkRow). row.content) rows,
      few_each (λ (row : ChunkRow). length row.content) rows (λ k d less. (all k d less).piece),
    )
