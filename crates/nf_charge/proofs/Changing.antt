-- What a row that is filled anew makes of the sums.
use Rattle.std.proofs.Common.{ℕ, ◌+◌, ◌-◌, ◌*◌, ◌^◌, ◌<◌, ◌≤◌, ◌≡◌, Bool, true, false, List, sym, ap, ◌∙◌, subst, arith, length, get_or, set, sum_by, length-set}
use Rattle.std.specs.Prelude.{if◌then◌else◌}
use Rattle.std.specs.List.{All}
use Rattle.std.proofs.Math.Nat.{le_antisymm}
use Rattle.std.proofs.lemmas.List.{get_or_default}
use Rattle.std.proofs.lemmas.List.Elements.{All-set}
use Rattle.std.proofs.lemmas.List.Sums.{get_or-le-sum_by, sum_by-le, sum_by-le-sum_by, sum_by-set}
use Rattle.nf_base.specs.Content.{size_of}
use Rattle.nf_base.specs.declared.limits.TheConstants.{MAX_DEPTH, MAX_NODES}
use Rattle.nf_base.specs.declared.rows.NodeRow.{NodeRow}
use Rattle.nf_defs.specs.Tree.{is_under, is_under_within}
use Rattle.nf_charge.specs.Sums.{AreCarried, AreSums, IsRefill, MayCarry, bytes_under, part}
use Rattle.nf_charge.proofs.Counting.{part_le}
use Rattle.nf_charge.proofs.Filling.{ids_filled, under_filled}

same_sum : {X : Type 0} (f g : X → ℕ) (xs : List X) → ((x : X) → f x ≡ g x) → sum_by f xs ≡ sum_by g xs
same_sum f g xs same = le_antisymm (sum_by-le-sum_by f g xs (λ x. omega (arith, same x))) (sum_by-le-sum_by g f xs (λ x. omega (arith, same x)))

settled : (under : Bool) (after before old new p q : ℕ) → after + p ≡ before + q → p ≤ before → p ≡ (if under then old else 0)
    → q ≡ (if under then new else 0)
    → after ≡ (if under then before - old + new else before)
settled true after before old new p q sum within is was = omega arith
settled false after before old new p q sum within is was = omega arith

-- the new bytes are in the place of the old ones for each node that it is under
bytes_filled : (rows : List NodeRow) (at : ℕ) (row : NodeRow) (bytes top : ℕ) → at < length rows → IsRefill rows at row bytes
    → bytes_under (set rows at row) top
    ≡ (if is_under rows row.id top then bytes_under rows top - size_of (get_or rows at row).content + bytes else bytes_under rows top)
unfolding bytes_under
bytes_filled rows at row bytes top within refill =
    same_sum (part (set rows at row) top) (part rows top) (set rows at row)
    (λ r. ap (λ (b : Bool). if b then size_of r.content else 0) (under_filled rows at row bytes r.id top refill))
    ∙ settled (is_under rows row.id top) _ _ _ _ (part rows top (get_or rows at row)) (part rows top row)
    (sum_by-set (part rows top) rows at row row within) (get_or-le-sum_by (part rows top) rows at row within)
    (ap (λ (n : ℕ). if is_under rows n top then size_of (get_or rows at row).content else 0) (sym refill.same))
    (ap (λ (n : ℕ). if is_under rows row.id top then n else 0) refill.filled)

pub sums_filled : (rows : List NodeRow) (at : ℕ) (row : NodeRow) (bytes : ℕ) (before after : List ℕ) → at < length rows → bytes < 2 ^ 64
    → AreSums rows before
    → IsRefill rows at row bytes → AreCarried MAX_DEPTH rows row.id (size_of (get_or rows at row).content) bytes before after
    → AreSums (set rows at row) after
unfolding is_under
sums_filled rows at row bytes before after there small sums refill carried = record {
  weighed = record {
    long = carried.long ∙ sums.weighed.long ∙ sym (length-set rows at row);
    each = λ k d within.
        let inside : k < length rows = omega (arith, length-set rows at row) in
        let top = (get_or rows k d).id in
        carried.each k d inside
        ∙ ap (λ (n : ℕ). if is_under_within MAX_DEPTH rows row.id top then n - size_of (get_or rows at row).content + bytes else n)
        (sums.weighed.each k d inside)
        ∙ sym (bytes_filled rows at row bytes top there refill)
        ∙ ap (bytes_under (set rows at row)) (sym (ids_filled rows at row bytes k d inside refill));
  };
  sized = All-set (λ (row : NodeRow). size_of row.content < 2 ^ 64) rows at row (omega (arith, refill.filled)) sums.sized;
}

-- with the row that the code reads
pub sums_changed : (rows : List NodeRow) (at : ℕ) (row own d : NodeRow) (bytes old new : ℕ) (before after : List ℕ) → at < length rows
    → bytes < 2 ^ 64
    → AreSums rows before → own ≡ get_or rows at d → old ≡ size_of own.content → new ≡ bytes → AreCarried MAX_DEPTH rows own.id old new before after
    → IsRefill rows at row bytes → AreSums (set rows at row) after
sums_changed rows at row own d bytes old new before after there small sums is size told carried refill =
    let same = is ∙ get_or_default rows at d row there in
    sums_filled rows at row bytes before after there small sums refill
    (subst (λ (n : ℕ). AreCarried MAX_DEPTH rows row.id (size_of (get_or rows at row).content) n before after) told
    (subst (λ (n : ℕ). AreCarried MAX_DEPTH rows row.id n new before after) (size ∙ ap (λ (r : NodeRow). size_of r.content) same)
    (subst (λ (n : ℕ). AreCarried MAX_DEPTH rows n old new before after) (ap (λ (r : NodeRow). r.id) same ∙ sym refill.same) carried)))

-- no node has more bytes than fit
bytes_few : (rows : List NodeRow) (top : ℕ) → All (λ (row : NodeRow). size_of row.content < 2 ^ 64) rows
    → bytes_under rows top ≤ length rows * 18446744073709551615
unfolding bytes_under
bytes_few rows top sized =
    sum_by-le (part rows top) 18446744073709551615 rows (λ k d within. omega (arith, sized k d within, part_le rows top (get_or rows k d)))

-- the bytes of a row are in the sum of each node that it is under
bytes_there : (rows : List NodeRow) (at top : ℕ) (d : NodeRow) → at < length rows → is_under rows (get_or rows at d).id top ≡ true
    → size_of (get_or rows at d).content ≤ bytes_under rows top
unfolding bytes_under
bytes_there rows at top d within under =
    subst (λ (b : Bool). (if b then size_of (get_or rows at d).content else 0) ≤ sum_by (part rows top) rows) under
    (get_or-le-sum_by (part rows top) rows at d within)

pub may_fill : (rows : List NodeRow) (at : ℕ) (row d : NodeRow) (old bytes : ℕ) (sums : List ℕ) → at < length rows
    → length rows ≤ MAX_NODES → bytes < 2 ^ 64
    → AreSums rows sums → row ≡ get_or rows at d → old ≡ size_of row.content → MayCarry MAX_DEPTH rows row.id old bytes sums
unfolding is_under
may_fill rows at row d old bytes sums there few small are is size = λ k e within under.
    let top = (get_or rows k e).id in
    let sum = are.weighed.each k e within in
    let has = bytes_there rows at top d there (subst (λ (r : NodeRow). is_under rows r.id top ≡ true) is under) in
    let most = bytes_few rows top are.sized in
    let same = ap (λ (r : NodeRow). size_of r.content) is in
    (omega (arith, sum, has, same, size), omega (arith, sum, most))
