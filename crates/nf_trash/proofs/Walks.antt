-- A walk over items from the oldest on takes those that the rule has go.
use Rattle.std.proofs.Common.{◌≡◌, ◌<◌, ◌≤◌, ◌+◌, ◌-◌, ◌∙◌, ◌⊎◌, ℕ, suc, cond, Bool, true, false, List, [], ◌∷◌, ◌++◌, get_or, map, drop, reverse, refl, ap, inl, inr, arith}
use Rattle.std.specs.List.{All, filter, sum_by}
use Rattle.std.specs.Prelude.{◌&&◌, ◌||◌, if◌then◌else◌, nat_le, nat_lt, not}
use Rattle.std.proofs.lemmas.Bool.{le-leb, le-ltb, ltb-false}
use Rattle.std.proofs.lemmas.Bool.Decides.{nat_tests}
use Rattle.std.proofs.lemmas.List.{map-append, reverse-append}
use Rattle.std.proofs.lemmas.List.Elements.{All-head, All-tail}
use Rattle.std.proofs.lemmas.List.Sorted.{sum_by-IsPermutation}
use Rattle.std.proofs.lemmas.List.Sums.{sum_by-cons}
use Rattle.nf_base.specs.declared.rows.ItemRow.{ItemRow}
use Rattle.nf_retention.specs.Budget.{fitting}
use Rattle.nf_retention.specs.Trash.{AreNewestFirst, is_young, newest_first, trashed}
use Rattle.nf_retention.specs.declared.trash.Trashed.{Trashed}
use Rattle.nf_retention.proofs.Newest.{newest_right}
use Rattle.nf_trash.specs.Laws.{WalkIsGoing}
use Rattle.nf_trash.specs.Outgoing.{Walk, all_passed, goes, passed, starting}

-- past the last one
passed_last : (walk : Walk) (items : List Trashed) (last : Trashed) → all_passed walk (items ++ last ∷ []) ≡ passed (all_passed walk items) last
passed_last walk [] last = refl
passed_last walk (item ∷ items) last = passed_last (passed walk item) items last

-- all have been there for 30 days where the newest has
none_young : (now : ℕ) (items : List ItemRow) → All (λ item. item.at + 2592000 ≤ now) items → filter (is_young now) items ≡ []
none_young now [] old = refl
none_young now (first ∷ items) old =
    rw (le-ltb now (first.at + 2592000) (All-head (λ item. item.at + 2592000 ≤ now) first items old))
    (none_young now items (All-tail (λ item. item.at + 2592000 ≤ now) first items old))

-- so none behind one that isn't young is
older_old : (now : ℕ) (first : ItemRow) (items : List ItemRow) → AreNewestFirst (first ∷ items) → is_young now first ≡ false
    → filter (is_young now) items ≡ []
older_old now first items order old = none_young now items (λ k d within. lower (get_or items k d) (order 0 (suc k) d (omega arith) (omega arith)))
  where
    lower : (item : ItemRow) → (item.at < first.at) ⊎ ((item.at ≡ first.at) × (item.node ≤ first.node)) → item.at + 2592000 ≤ now
    lower item (inl under) = omega (arith, under, ltb-false now (first.at + 2592000) old)
    lower item (inr same) = omega (arith, same.0, ltb-false now (first.at + 2592000) old)

module _ (size : ItemRow → ℕ) (now bound : ℕ) where
  -- how many of some items stay where the newer ones have so many bytes together
  abbrev staying : ℕ → List ItemRow → ℕ
  staying newer items = if nat_le newer bound then fitting (bound - newer) (map size (filter (is_young now) items)) else 0

  -- their nodes
  abbrev nodes : List ItemRow → List ℕ
  nodes items = map (λ item. item.node) items

  -- without young ones none stays
  none_stays : (newer : ℕ) (items : List ItemRow) → filter (is_young now) items ≡ [] → staying newer items ≡ 0
  none_stays newer items none = rw none (here (nat_le newer bound))
    where
      here : (b : Bool) → cond {A = ℕ} b 0 0 ≡ 0
      here true = refl
      here false = refl

  -- one stays with those behind it, where it is young and fits
  one_more : (newer : ℕ) (first : ItemRow) (items : List ItemRow) → AreNewestFirst (first ∷ items)
      → staying newer (first ∷ items)
      ≡ (if is_young now first && nat_le (newer + size first) bound then suc (staying (newer + size first) items) else 0)
  one_more newer first items order = here (is_young now first) refl
    where
      fits : (b c d : Bool) → nat_le newer bound ≡ b → nat_le (size first) (bound - newer) ≡ c → nat_le (newer + size first) bound ≡ d
          → (if b then (if c then suc (fitting (bound - newer - size first) (map size (filter (is_young now) items))) else 0) else 0)
          ≡ (if d then suc (if d then fitting (bound - (newer + size first)) (map size (filter (is_young now) items)) else 0) else 0)
      fits true true true e f g = ap (λ (most : ℕ). suc (fitting most (map size (filter (is_young now) items)))) (omega arith)
      fits true true false e f g = absurd (grind (arith, nat_tests))
      fits true false true e f g = absurd (grind (arith, nat_tests))
      fits true false false e f g = refl
      fits false c true e f g = absurd (grind (arith, nat_tests))
      fits false c false e f g = refl

      here : (b : Bool) → is_young now first ≡ b
          → staying newer (first ∷ items) ≡ (if b && nat_le (newer + size first) bound then suc (staying (newer + size first) items) else 0)
      here true young = rw young (fits _ _ _ refl refl refl)
      here false old = rw old (none_stays newer items (older_old now first items order old))

  -- where a walk over some items stands, if so many of them stay
  record Stands (count newer : ℕ) (items : List ItemRow) (walk : Walk) : Type 0 where
    gone : walk.gone ≡ nodes (drop count items)
    left : count ≡ 0 → walk.left ≡ newer
    moment : walk.moment ≡ now
    most : walk.bound ≡ bound
    ended : walk.has_ended ≡ nat_lt 0 count

  -- past the next newer one
  stands_on : (before after newer : ℕ) (first : ItemRow) (items : List ItemRow) (walk : Walk)
      → after ≡ (if is_young now first && nat_le (newer + size first) bound then suc before else 0)
      → (is_young now first ≡ false → before ≡ 0) → (nat_le (newer + size first) bound ≡ false → before ≡ 0)
      → Stands before (newer + size first) items walk → Stands after newer (first ∷ items) (passed walk (trashed size first))
  stands_on before after newer first items walk one old over stands = here walk.has_ended (goes walk (trashed size first)) refl refl
    where
      goes_is : goes walk (trashed size first) ≡ (not (is_young now first) || nat_lt bound walk.left)
      goes_is = rw (stands.moment, stands.most) refl

      here : (e g : Bool) → walk.has_ended ≡ e → goes walk (trashed size first) ≡ g
          → Stands after newer (first ∷ items)
          (if e then walk else if g then record walk { gone = first.node ∷ walk.gone; left = walk.left - size first } else record walk { has_ended = true })
      here true g has goes =
          let more : after ≡ suc before = grind (arith, nat_tests, stands.ended) in
          record { gone = rw more stands.gone; left = λ none. absurd (omega arith); moment = stands.moment; most = stands.most; ended = rw more (grind (arith, nat_tests)) }
      here false true has goes =
          let none : before ≡ 0 = grind (arith, nat_tests, stands.ended) in
          let all : walk.left ≡ newer + size first = stands.left none in
          let more : after ≡ 0 = grind (arith, nat_tests) in
          record {
            gone = rw more (ap (λ (l : List ℕ). first.node ∷ l) (rw none at stands.gone));
            left = λ _. omega arith;
            moment = stands.moment;
            most = stands.most;
            ended = rw more has;
          }
      here false false has goes =
          let none : before ≡ 0 = grind (arith, nat_tests, stands.ended) in
          let all : walk.left ≡ newer + size first = stands.left none in
          let more : after ≡ 1 = grind (arith, nat_tests) in
          record { gone = rw more (rw none at stands.gone); left = λ none. absurd (omega arith); moment = stands.moment; most = stands.most; ended = rw more refl }

  -- ---- all of them

  -- what the walk is given of items, from the oldest on
  abbrev carried : List ItemRow → List Trashed
  carried items = map (trashed size) (reverse items)

  -- the newest comes last
  carried_more : (first : ItemRow) (items : List ItemRow) → carried (first ∷ items) ≡ carried items ++ trashed size first ∷ []
  carried_more first items =
      ap (map (trashed size)) (reverse-append (first ∷ []) items) ∙ map-append (trashed size) (reverse items) (first ∷ [])

  -- over all of them it stands where so many stay
  walks : (newer : ℕ) (items : List ItemRow) → AreNewestFirst items
      → Stands (staying newer items) newer items (all_passed (starting now bound (newer + sum_by size items)) (carried items))
  walks newer [] order = record {
    gone = rw (none_stays newer [] refl) refl;
    left = λ _. omega arith;
    moment = refl;
    most = refl;
    ended = rw (none_stays newer [] refl) refl;
  }
  walks newer (first ∷ items) order =
      let rest = walks (newer + size first) items (λ i j d before within. order (suc i) (suc j) d (omega arith) (omega arith)) in
      let total : newer + sum_by size (first ∷ items) ≡ newer + size first + sum_by size items = omega (arith, sum_by-cons size first items) in
      let walk = all_passed (starting now bound (newer + size first + sum_by size items)) (carried items) in
      let on = stands_on (staying (newer + size first) items) (staying newer (first ∷ items)) newer first items walk (one_more newer first items order)
      (λ is. none_stays (newer + size first) items (older_old now first items order is)) (λ is. rw is refl) rest in
      rw (carried_more first items, total, passed_last) on

  -- where none is newer, the rule's
  all_staying : (items : List ItemRow) → staying 0 items ≡ fitting bound (map size (filter (is_young now) items))
  all_staying items = rw (le-leb 0 bound (omega arith)) (ap (λ (most : ℕ). fitting most (map size (filter (is_young now) items))) (omega arith))

-- so it takes those that go
pub walk_going : WalkIsGoing
walk_going size now bound items =
    let newest = newest_right items in
    let total : sum_by size items ≡ 0 + sum_by size (newest_first items) =
    omega (arith, sum_by-IsPermutation size items (newest_first items) newest.1) in
    let stands = walks size now bound 0 (newest_first items) newest.0 in
    ap (λ (sum : ℕ). (all_passed (starting now bound sum) (carried size now bound (newest_first items))).gone) total ∙ stands.gone
    ∙ ap (λ (count : ℕ). nodes size now bound (drop count (newest_first items))) (all_staying size now bound (newest_first items))
