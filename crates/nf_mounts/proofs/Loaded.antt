-- The index that is made of rows.
use Rattle.std.proofs.Common.{ℕ, zero, suc, ◌<◌, ◌≡◌, ◌≢◌, ◌==◌, ◌&&◌, ◌+◌, Bool, true, false, not, cond, List, [], ◌∷◌, length, get_or, map, Option, Some, None, bytes_eq, refl, sym, ap, ◌∙◌, arith, add-one}
use Rattle.std.specs.Bool.{Decides}
use Rattle.std.specs.List.{All, AllPairs, filter, list_any}
use Rattle.std.specs.List.Sorted.{IsPermutation, IsSortedBy}
use Rattle.std.specs.Option.{option_map_or}
use Rattle.std.specs.Ordering.{is_lt}
use Rattle.std.specs.declared.cmp.Ordering.{Ordering}
use Rattle.std.specs.declared.cmp.Ordering.TheVariants.{Less, Equal, Greater}
use Rattle.std.proofs.lemmas.Bool.{both_ways}
use Rattle.std.proofs.lemmas.Bool.Decides.{nat_tests}
use Rattle.std.proofs.lemmas.List.{length-map}
use Rattle.std.proofs.lemmas.List.Elements.{All-cons, All-head, All-nil, All-tail, All-weaker}
use Rattle.std.proofs.lemmas.List.Folds.{list_any_none}
use Rattle.std.proofs.lemmas.List.Kept.{AllPairs-cons}
use Rattle.std.proofs.lemmas.List.Sorted.{All-permutation, IsPermutation-sym, length_permutation}
use Rattle.std.proofs.lemmas.Map.Keys.{IsDistinct-IsPermutation}
use Rattle.std.proofs.lemmas.Map.Made.{AllPairs-from_IsDistinct, IsDistinct-from_AllPairs}
use Rattle.std.proofs.lemmas.Slice.Eq.{bytes_eq-Decides}
use Rattle.sha2.specs.Sha256.{sha256}
use Rattle.nf_access.specs.Mounts.{mount_row}
use Rattle.nf_base.specs.declared.rows.MountRow.{MountRow}
use Rattle.nf_defs.specs.Prelude.{IsRising, key_cmp, mount_key}
use Rattle.nf_defs.proofs.Lookups.{bytes_turned, equal_bytes}
use Rattle.nf_defs.proofs.Puts.{below_rest, key_total, tail_rising, turned}
use Rattle.nf_mounts.specs.Kept.{IsNameIndex, entry_key, entry_of, is_listed}
use Rattle.nf_mounts.specs.declared.names.NamedMount.{NamedMount}
use Rattle.nf_mounts.proofs.Keys.{by_key, iff_same, key_same, none_below, same_entry}
use Rattle.nf_table.specs.Rows.{row_at}
use Rattle.nf_table.proofs.Looked.{same_bytes}

-- ---- entries that are sorted rise, if no two are the same

abbrev Lower : NamedMount → NamedMount → Type 0
Lower a b = key_cmp (entry_key a) (entry_key b) ≡ Less

same_keys : NamedMount → NamedMount → Bool
same_keys a b = bytes_eq (entry_key a) (entry_key b)

keys_decide : (a b : NamedMount) → Decides (same_keys a b) (a ≡ b)
unfolding same_keys
keys_decide a b =
    (λ e. same_entry a b ((bytes_eq-Decides (entry_key a) (entry_key b)).0 e), λ e. (bytes_eq-Decides (entry_key a) (entry_key b)).1 (ap entry_key e))

keys_turned : (a b : NamedMount) → same_keys a b ≡ same_keys b a
unfolding same_keys
keys_turned a b = bytes_turned (entry_key a) (entry_key b)

rise_from_next : (es : List NamedMount) → ((k : ℕ) (d : NamedMount) → k + 1 < length es → Lower (get_or es k d) (get_or es (suc k) d)) → IsRising entry_key es
rise_from_next [] next = λ i j d before within. absurd (omega arith)
rise_from_next (x ∷ xs) next = AllPairs-cons Lower x xs first (rise_from_next xs (λ k d within. next (suc k) d (omega arith)))
  where
    first : All (Lower x) xs
    first zero d within = next zero d (omega arith)
    first (suc k) d within =
        key_total.trans (entry_key x) (entry_key (get_or xs k d)) (entry_key (get_or xs (suc k) d)) (first k d (omega arith)) (next (suc k) d (omega arith))

less_or_more : (a b : NamedMount) → a ≢ b → is_lt (key_cmp (entry_key b) (entry_key a)) ≡ false → Lower a b
less_or_more a b differ not_less = here (key_cmp (entry_key a) (entry_key b)) refl
  where
    here : (r : Ordering) → key_cmp (entry_key a) (entry_key b) ≡ r → r ≡ Less
    here Less e = refl
    here Equal e = absurd (differ (same_entry a b ((bytes_eq-Decides (entry_key a) (entry_key b)).0 (equal_bytes (entry_key a) (entry_key b) Equal e))))
    here Greater e = let t : is_lt (key_cmp (entry_key b) (entry_key a)) ≡ true = ap is_lt (turned (entry_key a) (entry_key b) Greater e) in absurd (cc)

pub sorted_rise : (all es : List NamedMount) → AllPairs (λ (a b : NamedMount). a ≢ b) all → IsPermutation all es
    → IsSortedBy (λ a b. is_lt (key_cmp (entry_key a) (entry_key b))) es → IsRising entry_key es
sorted_rise all es apart moved sorted =
    rise_from_next es (λ k d within.
    rw (sym (add-one k))
    (less_or_more (get_or es k d) (get_or es (k + 1) d) (distinct k (k + 1) d (omega arith) within) (sorted k d (omega arith) within)))
  where
    distinct : AllPairs (λ (a b : NamedMount). a ≢ b) es
    distinct =
        AllPairs-from_IsDistinct keys_decide es
        (IsDistinct-IsPermutation same_keys keys_turned all es moved (IsDistinct-from_AllPairs keys_decide all apart))

-- ---- the entries of rows

abbrev pub shown : List MountRow → List MountRow
shown rows = filter (λ row. not row.left) rows

abbrev pub entries : List MountRow → List NamedMount
entries rows = map entry_of (shown rows)

-- what all rows have, all entries have
all_entries : (P : NamedMount → Type 0) (rows : List MountRow) → All (λ (row : MountRow). P (entry_of row)) rows → All P (entries rows)
all_entries P [] all = All-nil P
all_entries P (x ∷ xs) all = here (not x.left) (all_entries P xs (All-tail (λ (row : MountRow). P (entry_of row)) x xs all))
  where
    here : (b : Bool) → All P (entries xs) → All P (map entry_of (cond b (x ∷ shown xs) (shown xs)))
    here true rest = All-cons P (entry_of x) (entries xs) (All-head (λ (row : MountRow). P (entry_of row)) x xs all) rest
    here false rest = rest

apart_of : (x y : MountRow) → key_cmp (mount_key x) (mount_key y) ≡ Less → entry_of x ≢ entry_of y
apart_of x y less same =
    let key : mount_key x ≡ mount_key y = ap (λ (e : NamedMount). e.user ∷ e.node ∷ []) same in
    let differ : bytes_eq (mount_key x) (mount_key y) ≡ false = equal_bytes (mount_key x) (mount_key y) Less less in
    let equal = same_bytes (mount_key x) (mount_key y) key in
    both_ways (bytes_eq (mount_key x) (mount_key y)) differ equal

pub entries_apart : (rows : List MountRow) → IsRising mount_key rows → AllPairs (λ (a b : NamedMount). a ≢ b) (entries rows)
entries_apart [] rising = λ i j d before within. absurd (omega arith)
entries_apart (x ∷ xs) rising = here (not x.left) (entries_apart xs (tail_rising mount_key x xs rising))
  where
    rest_apart : All (λ (b : NamedMount). entry_of x ≢ b) (entries xs)
    rest_apart =
        all_entries (λ (b : NamedMount). entry_of x ≢ b) xs
        (All-weaker (λ (y : MountRow). key_cmp (mount_key x) (mount_key y) ≡ Less) (λ (y : MountRow). entry_of x ≢ entry_of y) (apart_of x) xs (below_rest mount_key x xs rising))

    here : (b : Bool) → AllPairs (λ (a b : NamedMount). a ≢ b) (entries xs) → AllPairs (λ (a b : NamedMount). a ≢ b) (map entry_of (cond b (x ∷ shown xs) (shown xs)))
    here true rest = AllPairs-cons (λ (a b : NamedMount). a ≢ b) (entry_of x) (entries xs) rest_apart rest
    here false rest = rest

-- ---- what is found among them

module _ (entry : NamedMount) where
  abbrev is_it : NamedMount → Bool
  is_it other = bytes_eq (entry_key other) (entry_key entry)

  -- an entry stands among those of the rows where it is listed
  any_entry : (rows : List MountRow) → IsRising mount_key rows → list_any is_it (entries rows) ≡ is_listed rows entry
  any_entry [] rising = refl
  any_entry (x ∷ xs) rising =
      let key = key_same (entry_of x) entry in
      let rest = any_entry xs (tail_rising mount_key x xs rising) in
      here (x.user == entry.user && x.node == entry.node) refl key rest
    where
      alone : (x.user == entry.user && x.node == entry.node) ≡ true → is_listed xs entry ≡ false
      alone mine =
          let user : x.user ≡ entry.user = grind (arith, nat_tests) in
          let node : x.node ≡ entry.node = grind (arith, nat_tests) in
          let none = none_below mount_key (mount_key x) xs (below_rest mount_key x xs rising) in
          let here : mount_row xs entry.user entry.node ≡ None =
          ap (λ (u : ℕ). mount_row xs u entry.node) (sym user) ∙ ap (mount_row xs x.user) (sym node) ∙ sym (by_key xs x.user x.node) ∙ none in
          ap (λ (o : Option MountRow). option_map_or (λ row. not row.left && bytes_eq (sha256 row.name) entry.name) o false) here

      here : (b : Bool) → (x.user == entry.user && x.node == entry.node) ≡ b
          → bytes_eq (entry_key (entry_of x)) (entry_key entry) ≡ ((x.user == entry.user && x.node == entry.node) && bytes_eq (sha256 x.name) entry.name)
          → list_any is_it (entries xs) ≡ is_listed xs entry → list_any is_it (entries (x ∷ xs)) ≡ is_listed (x ∷ xs) entry
      here true e key rest = let none = alone e in grind arith
      here false e key rest = grind arith

  -- what is found is the entry itself
  found_it : (es : List NamedMount) → row_at entry_key (entry_key entry) es ≡ cond (list_any is_it es) (Some entry) None
  found_it [] = refl
  found_it (x ∷ xs) = here (is_it x) refl (found_it xs)
    where
      here : (b : Bool) → is_it x ≡ b → row_at entry_key (entry_key entry) xs ≡ cond (list_any is_it xs) (Some entry) None
          → row_at entry_key (entry_key entry) (x ∷ xs) ≡ cond (list_any is_it (x ∷ xs)) (Some entry) None
      here true e rest =
          let same = same_entry x entry ((bytes_eq-Decides (entry_key x) (entry_key entry)).0 e) in
          rw e (ap Some same)
      here false e rest = rw e rest

-- a test that one passes in some order, one passes in another
any_moved : {X : Type 0} (p : X → Bool) (xs ys : List X) → IsPermutation xs ys → list_any p ys ≡ true → list_any p xs ≡ true
any_moved p xs ys moved some = here (list_any p xs) refl
  where
    here : (b : Bool) → list_any p xs ≡ b → b ≡ true
    here true e = refl
    here false e =
        let none = list_any_none p ys (All-permutation (λ x. p x ≡ false) xs ys moved (all_fail xs e)) in
        absurd (cc)
      where
        all_fail : (zs : List _) → list_any p zs ≡ false → All (λ x. p x ≡ false) zs
        all_fail [] none = All-nil (λ x. p x ≡ false)
        all_fail (z ∷ zs) none = All-cons (λ x. p x ≡ false) z zs (grind arith) (all_fail zs (grind arith))

pub index_loaded : (rows : List MountRow) (es : List NamedMount) → IsRising mount_key rows → IsPermutation (entries rows) es
    → IsSortedBy (λ a b. is_lt (key_cmp (entry_key a) (entry_key b))) es → IsNameIndex es rows
index_loaded rows es rising moved sorted = record {
  entries_rise = sorted_rise (entries rows) es (entries_apart rows rising) moved sorted;
  rows_rise = rising;
  listed = λ entry.
      found_it entry es
      ∙ ap (λ (b : Bool). cond b (Some entry) None)
      (iff_same (list_any (is_it entry) es) (list_any (is_it entry) (entries rows)) (any_moved (is_it entry) (entries rows) es moved)
      (any_moved (is_it entry) es (entries rows) (IsPermutation-sym (entries rows) es moved))
      ∙ any_entry entry rows rising);
  count = length_permutation (entries rows) es moved ∙ length-map (shown rows) entry_of;
}
