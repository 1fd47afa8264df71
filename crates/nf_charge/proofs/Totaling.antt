-- Totals of bytes by owner: when one is put, and when rows come, go or are filled anew.
use Rattle.std.proofs.Common.{ℕ, ◌+◌, ◌^◌, ◌<◌, ◌≤◌, ◌==◌, ◌≡◌, Bool, true, false, cond, List, [], ◌∷◌, ◌++◌, Option, Some, if◌then◌else◌, length, get_or, set, take, bytes_eq, refl, sym, ap, ◌∙◌, arith}
use Rattle.std.specs.List.{All, find, remove}
use Rattle.std.specs.Option.{option_map_or}
use Rattle.std.proofs.Math.Bool.{and-true}
use Rattle.std.proofs.lemmas.List.Sums.{sum_by-le, sum_by-remove, sum_by-set, sum_by_more, sum_by_more_le, sum_by_push}
use Rattle.nf_base.specs.Content.{size_of}
use Rattle.nf_base.specs.declared.limits.TheConstants.{MAX_NODES}
use Rattle.nf_base.specs.declared.rows.NodeRow.{NodeRow}
use Rattle.nf_defs.specs.Prelude.{put}
use Rattle.nf_table.proofs.Looked.{at_put}
use Rattle.nf_charge.proofs.Carrying.{if_false, if_true}
use Rattle.nf_charge.specs.Totals.{AreTotals, HeldTotals, IsAdded, IsReplaced, IsTaken, bytes_owned, owned_part, total_of}
use Rattle.nf_charge.specs.declared.totals.Total.{Total}

-- ---- totals

-- what one total tells, where it is the owner's
one_total : (own : Bool) (total : Total) (other : Option Total)
    → option_map_or (λ total. total.bytes) (cond own (Some total) other) 0 ≡ (if own then total.bytes else option_map_or (λ total. total.bytes) other 0)
one_total true total other = refl
one_total false total other = refl

-- a total is found by its owner alone
found_by_owner : (totals : List Total) (user : ℕ) → find (λ (total : Total). bytes_eq (total.owner ∷ []) (user ∷ [])) totals ≡ find (λ (total : Total). total.owner == user) totals
found_by_owner totals user = simp and-true

-- once a total is put it is its owner's, and those of the others are as before
pub total_put : (total : Total) (totals : List Total) (user : ℕ)
    → total_of (put (λ total. total.owner ∷ []) total totals) user ≡ (if total.owner == user then total.bytes else total_of totals user)
total_put total totals user =
    ap (λ (found : Option Total). option_map_or (λ total. total.bytes) found 0)
    (sym (found_by_owner (put (λ total. total.owner ∷ []) total totals) user) ∙ at_put (λ (total : Total). total.owner ∷ []) (user ∷ []) total totals
    ∙ ap (λ (found : Option Total). cond (bytes_eq (total.owner ∷ []) (user ∷ [])) (Some total) found) (found_by_owner totals user)
    ∙ ap (λ (own : Bool). cond own (Some total) (find (λ (total : Total). total.owner == user) totals)) (and-true (total.owner == user)))
    ∙ one_total (total.owner == user) total _

-- ---- rows

pub own_part : (owner : ℕ) (row : NodeRow) → (row.owner == owner) ≡ true → owned_part owner row ≡ size_of row.content
own_part owner row own = if_true (row.owner == owner) (size_of row.content) 0 own

pub other_part : (owner : ℕ) (row : NodeRow) → (row.owner == owner) ≡ false → owned_part owner row ≡ 0
other_part owner row other = if_false (row.owner == owner) (size_of row.content) 0 other

-- a row's part is within the sum, which is far below what fits
part_small : (owner : ℕ) (row : NodeRow) → size_of row.content < 2 ^ 64 → owned_part owner row ≤ 2 ^ 64
part_small owner row small = here (row.owner == owner)
  where
    here : (own : Bool) → (if own then size_of row.content else 0) ≤ 2 ^ 64
    here true = omega arith
    here false = omega arith

pub owned_small : (rows : List NodeRow) (owner : ℕ) → length rows ≤ MAX_NODES → All (λ (row : NodeRow). size_of row.content < 2 ^ 64) rows
    → bytes_owned rows owner < 2 ^ 127
unfolding bytes_owned
owned_small rows owner few sized =
    let most = sum_by-le (owned_part owner) (2 ^ 64) rows (λ k d within. part_small owner (get_or rows k d) (sized k d within)) in
    omega (arith, most)

-- the rows so far, and the next one
pub owned_more : (rows : List NodeRow) (owner at : ℕ) (row : NodeRow) → at < length rows → row ≡ get_or rows at row
    → bytes_owned (take (at + 1) rows) owner ≡ bytes_owned (take at rows) owner + owned_part owner row
unfolding bytes_owned
owned_more rows owner at row within is =
    sum_by_more (owned_part owner) rows at row within ∙ ap (λ (r : NodeRow). bytes_owned (take at rows) owner + owned_part owner r) (sym is)

-- the same, within the sum of all
pub owned_more_le : (rows : List NodeRow) (owner at : ℕ) (row : NodeRow) → at < length rows → row ≡ get_or rows at row
    → bytes_owned (take at rows) owner + owned_part owner row ≤ bytes_owned rows owner
unfolding bytes_owned
owned_more_le rows owner at row within is =
    let part = ap (owned_part owner) is in
    let most = sum_by_more_le (owned_part owner) rows at row within in
    omega (arith, part, most)

-- ---- totals of rows

pub totals_none : (held : HeldTotals) → held.totals ≡ [] → AreTotals [] held
unfolding bytes_owned
totals_none held none known owner = ap (λ (totals : List Total). total_of totals owner) none

-- with the next row
pub totals_more : (rows : List NodeRow) (at : ℕ) (row : NodeRow) (old new : HeldTotals) → at < length rows → row ≡ get_or rows at row
    → AreTotals (take at rows) old → IsAdded old row.owner (size_of row.content) new → AreTotals (take (at + 1) rows) new
totals_more rows at row old new within is are added known owner =
    let before = added known in
    let each : total_of old.totals owner ≡ bytes_owned (take at rows) owner = are before.0 owner in
    let more = owned_more rows owner at row within is in
    before.1 owner ∙ ap (λ (n : ℕ). n + owned_part owner row) each ∙ sym more

-- of a row more
pub totals_pushed : (rows : List NodeRow) (row : NodeRow) (old new : HeldTotals) → AreTotals rows old → IsAdded old row.owner (size_of row.content) new
    → AreTotals (rows ++ row ∷ []) new
unfolding bytes_owned
totals_pushed rows row old new are added known owner =
    let before = added known in
    before.1 owner ∙ ap (λ (n : ℕ). n + owned_part owner row) (are before.0 owner) ∙ sym (sum_by_push (owned_part owner) rows row)

-- of a row less
pub totals_removed : (rows : List NodeRow) (at : ℕ) (row : NodeRow) (old new : HeldTotals) → at < length rows → row ≡ get_or rows at row
    → AreTotals rows old → IsTaken old row.owner (size_of row.content) new → AreTotals (remove rows at) new
unfolding bytes_owned
totals_removed rows at row old new within is are taken known owner =
    let before = taken known in
    let less : total_of new.totals owner + owned_part owner row ≡ total_of old.totals owner = before.1 owner in
    let each : total_of old.totals owner ≡ bytes_owned rows owner = are before.0 owner in
    let left = sum_by-remove (owned_part owner) rows at row within in
    let part = ap (owned_part owner) is in
    omega (arith, less, each, left, part)

-- of a row with other bytes
pub totals_set : (rows : List NodeRow) (at : ℕ) (row was : NodeRow) (bytes : ℕ) (old new : HeldTotals) → at < length rows → was ≡ get_or rows at was
    → row.owner ≡ was.owner → size_of row.content ≡ bytes → AreTotals rows old → IsReplaced old was.owner (size_of was.content) bytes new
    → AreTotals (set rows at row) new
unfolding bytes_owned
totals_set rows at row was bytes old new within is same filled are replaced known owner =
    let before = replaced known in
    let each : total_of old.totals owner ≡ bytes_owned rows owner = are before.0 owner in
    let more : owned_part owner row ≡ (if was.owner == owner then bytes else 0) =
    ap (λ (n : ℕ). if n == owner then size_of row.content else 0) same ∙ ap (λ (n : ℕ). if was.owner == owner then n else 0) filled in
    let moved = sum_by-set (owned_part owner) rows at row was within in
    let part = ap (owned_part owner) is in
    omega (arith, before.1 owner, each, more, moved, part)

-- of rows of which one has only moved
pub totals_moved : (rows : List NodeRow) (at : ℕ) (row was : NodeRow) (held : HeldTotals) → at < length rows → was ≡ get_or rows at was
    → row.owner ≡ was.owner → row.content ≡ was.content → AreTotals rows held → AreTotals (set rows at row) held
totals_moved rows at row was held within is same content are =
    totals_set rows at row was (size_of was.content) held held within is same (ap size_of content) are (λ known. (known, λ user. refl))
