-- Extents that are apart, which bytes they use, and what becomes of that where one is added, shortened or removed.
use Rattle.std.proofs.Common.{◌≡◌, ℕ, zero, suc, ◌+◌, ◌-◌, ◌<◌, ◌≤◌, leb, ltb, Bool, true, false, not, ◌&&◌, ◌||◌, List, [], ◌∷◌, ◌++◌, length, get_or, set, take, drop, ◌↔◌, IsTrue, refl, sym, subst, add-one, drop-cons, arith}
use Rattle.std.specs.List.{remove}
use Rattle.std.proofs.lemmas.Bool.Decides.{nat_tests}
use Rattle.std.proofs.Math.Bool.{or-false, or-true}
use Rattle.std.proofs.lemmas.List.Folds.{list_any-append, list_any_kept, list_any_more}
use Rattle.nf_extents.specs.declared.gaps.Extent.{Extent}
use Rattle.nf_extents.specs.Room.{AreApart, IsRestOf, Room, Takes, is_in, is_used, with_bytes}

pub apart_from : (from later end : ℕ) (extents : List Extent) → from ≤ later → AreApart later extents end → AreApart from extents end
apart_from from later end [] before apart = omega arith
apart_from from later end (extent ∷ extents) before apart = (omega arith, apart.1, apart.2)

pub apart_to : (from end later : ℕ) (extents : List Extent) → end ≤ later → AreApart from extents end → AreApart from extents later
apart_to from end later [] before apart = omega arith
apart_to from end later (extent ∷ extents) before apart = (apart.0, apart.1, apart_to (extent.place + extent.size) end later extents before apart.2)

pub apart_fits : (from end : ℕ) (extents : List Extent) → AreApart from extents end → from ≤ end
apart_fits from end [] apart = apart
apart_fits from end (extent ∷ extents) apart = let rest : extent.place + extent.size ≤ end = apart_fits (extent.place + extent.size) end extents apart.2 in omega arith

-- an extent is put behind them
pub apart_pushed : (from end place size : ℕ) (extents : List Extent) → AreApart from extents end → end ≤ place → 0 < size →
    AreApart from (extents ++ record { place = place; size = size } ∷ []) (place + size)
apart_pushed from end place size [] apart behind some = (omega arith, some, omega arith)
apart_pushed from end place size (extent ∷ extents) apart behind some = (apart.0, apart.1, apart_pushed (extent.place + extent.size) end place size extents apart.2 behind some)

pub none_before : (from end byte : ℕ) (extents : List Extent) → AreApart from extents end → byte < from → is_used extents byte ≡ false
none_before from end byte [] apart before = refl
none_before from end byte (extent ∷ extents) apart before =
    let first : is_in extent byte ≡ false = grind (arith, nat_tests) in
    let rest : is_used extents byte ≡ false = none_before (extent.place + extent.size) end byte extents apart.2 (omega arith) in
    rw (first, rest)

pub none_behind : (from end byte : ℕ) (extents : List Extent) → AreApart from extents end → end ≤ byte → is_used extents byte ≡ false
none_behind from end byte [] apart behind = refl
none_behind from end byte (extent ∷ extents) apart behind =
    let fits : extent.place + extent.size ≤ end = apart_fits (extent.place + extent.size) end extents apart.2 in
    let first : is_in extent byte ≡ false = grind (arith, nat_tests) in
    let rest : is_used extents byte ≡ false = none_behind (extent.place + extent.size) end byte extents apart.2 behind in
    rw (first, rest)

-- the tests of a byte where the end moves: with the gap that this leaves, and without one
pushed_tests : (used : Bool) (end place size byte : ℕ) → (end ≤ byte → used ≡ false) → end ≤ place →
    ((used || ((leb end byte && ltb byte (end + (place - end))) || false)) || leb (place + size) byte) ≡ ((used || leb end byte) && not (leb place byte && ltb byte (place + size)))
pushed_tests used end place size byte none behind = grind (arith, nat_tests)

moved_tests : (used : Bool) (end size byte : ℕ) → (end ≤ byte → used ≡ false) →
    (used || leb (end + size) byte) ≡ ((used || leb end byte) && not (leb end byte && ltb byte (end + size)))
moved_tests used end size byte none = grind (arith, nat_tests)

module _ (gaps : List Extent) (end : ℕ) (apart : AreApart 0 gaps end) where
  pub pushed_takes : (place size : ℕ) → end ≤ place →
      Takes (record { place = place; size = size }) (record { gaps = gaps; end = end })
      (record { gaps = gaps ++ record { place = end; size = place - end } ∷ []; end = place + size })
  pushed_takes place size behind byte =
      rw (list_any-append (λ (extent : Extent). is_in extent byte) gaps (record { place = end; size = place - end } ∷ []))
      (pushed_tests (is_used gaps byte) end place size byte (none_behind 0 end byte gaps apart) behind)

  pub moved_takes : (place size : ℕ) → place ≡ end → Takes (record { place = place; size = size }) (record { gaps = gaps; end = end }) (record { gaps = gaps; end = place + size })
  moved_takes place size same byte = rw same (moved_tests (is_used gaps byte) end size byte (none_behind 0 end byte gaps apart))

-- the tests of a byte where the front of an extent is taken
front_tests : (rest : Bool) (place size taken byte : ℕ) → taken ≤ size → (byte < place + size → rest ≡ false) →
    ((leb (place + taken) byte && ltb byte (place + taken + (size - taken))) || rest) ≡ (((leb place byte && ltb byte (place + size)) || rest) && not (leb place byte && ltb byte (place + taken)))
front_tests rest place size taken byte fits none = grind (arith, nat_tests)

whole_tests : (rest : Bool) (place size byte : ℕ) → (byte < place + size → rest ≡ false) →
    rest ≡ (((leb place byte && ltb byte (place + size)) || rest) && not (leb place byte && ltb byte (place + size)))
whole_tests rest place size byte none = grind (arith, nat_tests)

-- the tests of a byte where what is taken is none of the first
behind_tests : (first rest taken : Bool) → (first ≡ true → taken ≡ false) → (first || (rest && not taken)) ≡ ((first || rest) && not taken)
behind_tests true rest taken none = rw (none refl)
behind_tests false rest taken none = refl

before_tests : (rest last taken : Bool) → (last ≡ true → taken ≡ false) → ((rest && not taken) || last) ≡ ((rest || last) && not taken)
before_tests rest last taken none = grind (arith, nat_tests)

module _ (other : Extent) where
  pub gap_within : (from end at : ℕ) (gaps : List Extent) → AreApart from gaps end → at < length gaps →
      (from ≤ (get_or gaps at other).place) × ((get_or gaps at other).place + (get_or gaps at other).size ≤ end)
  gap_within from end at [] apart there = absurd (omega arith)
  gap_within from end zero (gap ∷ gaps) apart there = (apart.0, apart_fits (gap.place + gap.size) end gaps apart.2)
  gap_within from end (suc at) (gap ∷ gaps) apart there =
      let rest : (gap.place + gap.size ≤ (get_or gaps at other).place) × ((get_or gaps at other).place + (get_or gaps at other).size ≤ end) = gap_within (gap.place + gap.size) end at gaps apart.2 (omega arith) in
      (omega arith, rest.1)

  pub shortened_apart : (from end at size : ℕ) (gaps : List Extent) → AreApart from gaps end → at < length gaps → size < (get_or gaps at other).size →
      AreApart from (set gaps at (record { place = (get_or gaps at other).place + size; size = (get_or gaps at other).size - size })) end
  shortened_apart from end at size [] apart there less = absurd (omega arith)
  shortened_apart from end zero size (gap ∷ gaps) apart there less =
      let same : gap.place + gap.size ≡ gap.place + size + (gap.size - size) = omega arith in
      (omega arith, omega arith, rw same at apart.2)
  shortened_apart from end (suc at) size (gap ∷ gaps) apart there less =
      (apart.0, apart.1, shortened_apart (gap.place + gap.size) end at size gaps apart.2 (omega arith) less)

  pub removed_apart : (from end at : ℕ) (gaps : List Extent) → AreApart from gaps end → at < length gaps → AreApart from (remove gaps at) end
  removed_apart from end at [] apart there = absurd (omega arith)
  removed_apart from end zero (gap ∷ gaps) apart there = apart_from from _ end gaps (omega arith) apart.2
  removed_apart from end (suc at) (gap ∷ gaps) apart there = (apart.0, apart.1, removed_apart (gap.place + gap.size) end at gaps apart.2 (omega arith))

  -- what is taken of a gap behind the first is none of the first
  none_of_first : (from end at size byte : ℕ) (gap : Extent) (gaps : List Extent) → AreApart from (gap ∷ gaps) end → at < length gaps → is_in gap byte ≡ true →
      is_in (record { place = (get_or gaps at other).place; size = size }) byte ≡ false
  none_of_first from end at size byte gap gaps apart there first =
      let rest : (gap.place + gap.size ≤ (get_or gaps at other).place) × ((get_or gaps at other).place + (get_or gaps at other).size ≤ end) = gap_within (gap.place + gap.size) end at gaps apart.2 there in
      grind (arith, nat_tests)

  shortened_uses : (from end at size byte : ℕ) (gaps : List Extent) → AreApart from gaps end → at < length gaps → size ≤ (get_or gaps at other).size →
      is_used (set gaps at (record { place = (get_or gaps at other).place + size; size = (get_or gaps at other).size - size })) byte
      ≡ (is_used gaps byte && not (is_in (record { place = (get_or gaps at other).place; size = size }) byte))
  shortened_uses from end at size byte [] apart there fits = absurd (omega arith)
  shortened_uses from end zero size byte (gap ∷ gaps) apart there fits =
      front_tests (is_used gaps byte) gap.place gap.size size byte fits (none_before (gap.place + gap.size) end byte gaps apart.2)
  shortened_uses from end (suc at) size byte (gap ∷ gaps) apart there fits =
      rw (shortened_uses (gap.place + gap.size) end at size byte gaps apart.2 (omega arith) fits)
      (behind_tests (is_in gap byte) (is_used gaps byte) _ (none_of_first from end at size byte gap gaps apart (omega arith)))

  removed_uses : (from end at byte : ℕ) (gaps : List Extent) → AreApart from gaps end → at < length gaps →
      is_used (remove gaps at) byte ≡ (is_used gaps byte && not (is_in (get_or gaps at other) byte))
  removed_uses from end at byte [] apart there = absurd (omega arith)
  removed_uses from end zero byte (gap ∷ gaps) apart there = whole_tests (is_used gaps byte) gap.place gap.size byte (none_before (gap.place + gap.size) end byte gaps apart.2)
  removed_uses from end (suc at) byte (gap ∷ gaps) apart there =
      rw (removed_uses (gap.place + gap.size) end at byte gaps apart.2 (omega arith))
      (behind_tests (is_in gap byte) (is_used gaps byte) _ (none_of_first from end at (get_or gaps at other).size byte gap gaps apart (omega arith)))

  module _ (gaps : List Extent) (end at : ℕ) (apart : AreApart 0 gaps end) (there : at < length gaps) where
    none_of_end : (size byte : ℕ) → size ≤ (get_or gaps at other).size → leb end byte ≡ true → is_in (record { place = (get_or gaps at other).place; size = size }) byte ≡ false
    none_of_end size byte fits behind =
        let within : (0 ≤ (get_or gaps at other).place) × ((get_or gaps at other).place + (get_or gaps at other).size ≤ end) = gap_within 0 end at gaps apart there in
        grind (arith, nat_tests)

    pub shortened_takes : (size : ℕ) → size ≤ (get_or gaps at other).size →
        Takes (record { place = (get_or gaps at other).place; size = size }) (record { gaps = gaps; end = end })
        (record { gaps = set gaps at (record { place = (get_or gaps at other).place + size; size = (get_or gaps at other).size - size }); end = end })
    shortened_takes size fits byte =
        rw (shortened_uses 0 end at size byte gaps apart there fits)
        (before_tests (is_used gaps byte) (leb end byte) _ (none_of_end size byte fits))

    pub removed_takes : (size : ℕ) → (get_or gaps at other).size ≡ size →
        Takes (record { place = (get_or gaps at other).place; size = size }) (record { gaps = gaps; end = end }) (record { gaps = remove gaps at; end = end })
    removed_takes size same byte =
        rw (removed_uses 0 end at byte gaps apart there, ← same)
        (before_tests (is_used gaps byte) (leb end byte) _ (none_of_end (get_or gaps at other).size byte (omega arith)))

-- the same for a gap that stands at that place
module _ (gaps : List Extent) (end at : ℕ) (gap : Extent) (apart : AreApart 0 gaps end) (there : at < length gaps) (is : gap ≡ get_or gaps at gap) where
  pub fits_at : gap.place + gap.size ≤ end
  fits_at = subst (λ (it : Extent). it.place + it.size ≤ end) (sym is) (gap_within gap 0 end at gaps apart there).1

  pub shortened_at : (size : ℕ) → size < gap.size → AreApart 0 (set gaps at (record { place = gap.place + size; size = gap.size - size })) end
  shortened_at size =
      subst (λ (it : Extent). size < it.size → AreApart 0 (set gaps at (record { place = it.place + size; size = it.size - size })) end) (sym is)
      (shortened_apart gap 0 end at size gaps apart there)

  pub shortened_takes_at : (size : ℕ) → size ≤ gap.size →
      Takes (record { place = gap.place; size = size }) (record { gaps = gaps; end = end }) (record { gaps = set gaps at (record { place = gap.place + size; size = gap.size - size }); end = end })
  shortened_takes_at size =
      subst
      (λ (it : Extent). size ≤ it.size → Takes (record { place = it.place; size = size }) (record { gaps = gaps; end = end })
      (record { gaps = set gaps at (record { place = it.place + size; size = it.size - size }); end = end })) (sym is)
      (shortened_takes gap gaps end at apart there size)

  pub removed_takes_at : (size : ℕ) → gap.size ≡ size → Takes (record { place = gap.place; size = size }) (record { gaps = gaps; end = end }) (record { gaps = remove gaps at; end = end })
  removed_takes_at size =
      subst (λ (it : Extent). it.size ≡ size → Takes (record { place = it.place; size = size }) (record { gaps = gaps; end = end }) (record { gaps = remove gaps at; end = end })) (sym is)
      (removed_takes gap gaps end at apart there size)

neither : (a b : Bool) → (not a && not b) ≡ not (a || b)
neither true b = refl
neither false b = refl

-- one more of the extents that are used
module _ (used : List Extent) (at : ℕ) (other : Extent) (there : at < length used) where
  split : drop at used ≡ get_or used at other ∷ drop (at + 1) used
  split = rw (add-one, drop-cons used at other)

  with_one : 0 < (get_or used at other).size → with_bytes (drop at used) ≡ get_or used at other ∷ with_bytes (drop (at + 1) used)
  with_one some = let test : ltb 0 (get_or used at other).size ≡ true = grind (arith, nat_tests) in rw (split, test)

  with_none : (get_or used at other).size ≡ 0 → with_bytes (drop at used) ≡ with_bytes (drop (at + 1) used)
  with_none none = let test : ltb 0 (get_or used at other).size ≡ false = grind (arith, nat_tests) in rw (split, test)

  pub apart_one : (from end : ℕ) → 0 < (get_or used at other).size → AreApart from (with_bytes (drop at used)) end →
      (from ≤ (get_or used at other).place) × ((get_or used at other).place + (get_or used at other).size ≤ end)
      × AreApart ((get_or used at other).place + (get_or used at other).size) (with_bytes (drop (at + 1) used)) end
  apart_one from end some apart =
      let parts = rw (with_one some) at apart in
      (parts.0, apart_fits _ end (with_bytes (drop (at + 1) used)) parts.2, parts.2)

  pub apart_with_one : (from end : ℕ) → 0 < (get_or used at other).size → from ≤ (get_or used at other).place →
      AreApart ((get_or used at other).place + (get_or used at other).size) (with_bytes (drop (at + 1) used)) end → AreApart from (with_bytes (drop at used)) end
  apart_with_one from end some behind apart = rw (with_one some) (behind, some, apart)

  pub apart_with_none : (from end : ℕ) → (get_or used at other).size ≡ 0 →
      AreApart from (with_bytes (drop at used)) end ↔ AreApart from (with_bytes (drop (at + 1) used)) end
  apart_with_none from end none = (λ apart. rw (← with_none none) apart, λ apart. rw (with_none none) apart)

  used_more : (byte : ℕ) → is_used (take (at + 1) used) byte ≡ (is_used (take at used) byte || is_in (get_or used at other) byte)
  used_more byte = list_any_more (λ (extent : Extent). is_in extent byte) used at other there

  pub rest_more : (old new : Room) → IsRestOf (take at used) old → Takes (get_or used at other) old new → IsRestOf (take (at + 1) used) new
  rest_more old new rest taken byte = rw (taken byte, rest byte, used_more byte) (neither (is_used (take at used) byte) (is_in (get_or used at other) byte))

  pub rest_skips : (room : Room) → (get_or used at other).size ≡ 0 → IsRestOf (take at used) room → IsRestOf (take (at + 1) used) room
  rest_skips room none rest byte =
      let outside : is_in (get_or used at other) byte ≡ false = grind (arith, nat_tests) in
      rw (rest byte, used_more byte, outside, or-false)

  pub end_more : 0 < (get_or used at other).size → IsTrue (is_used (take (at + 1) used) ((get_or used at other).place + (get_or used at other).size - 1))
  end_more some =
      let last = (get_or used at other).place + (get_or used at other).size - 1 in
      let inside : is_in (get_or used at other) last ≡ true = grind (arith, nat_tests) in
      rw (used_more last, inside) (or-true (is_used (take at used) last))

  pub end_skips : (byte : ℕ) → IsTrue (is_used (take at used) byte) → IsTrue (is_used (take (at + 1) used) byte)
  end_skips byte before = list_any_kept (λ (extent : Extent). is_in extent byte) used at before
