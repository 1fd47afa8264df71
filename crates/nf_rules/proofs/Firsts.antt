-- Rules that no row breaks, and the first row that breaks one.
use Rattle.std.proofs.Common.{◌≡◌, ℕ, suc, ◌<◌, Bool, true, false, if◌then◌else◌, List, [], ◌∷◌, length, Option, None, Some, option_map, refl, sym, ap, subst, arith}
use Rattle.std.specs.List.{All, AllByRecursion}
use Rattle.std.specs.Option.{option_or}
use Rattle.std.proofs.lemmas.Bool.{both_ways, false≢true}
use Rattle.std.proofs.lemmas.List.Elements.{All-cons, All-head, All-nil, All-tail}
use Rattle.std.proofs.lemmas.Option.{none-some, same_Some}
use Rattle.nf_base.specs.declared.rows.Row.{Row}
use Rattle.nf_rules.specs.Rules.{Broken, Rule, broken_at, first_broken, first_index, lacks_meta, rules}
use Rattle.nf_rules.specs.Laws.{BrokenIsThere, IsThere}

-- ---- the first index

no_more : (o : Option ℕ) → option_map suc o ≡ None → o ≡ None
no_more None none = refl
no_more (Some i) none = absurd (none-some (suc i) (sym none))

-- where no index passes, each fails
pub each_fails : {X : Type 0} (test : X → Bool) (xs : List X) → first_index test xs ≡ None → All (λ x. test x ≡ false) xs
each_fails test [] none = All-nil (λ x. test x ≡ false)
each_fails {X = X} test (x ∷ xs) none = here (test x) refl none (λ none. each_fails test xs none)
  where
    here : (a : Bool) → test x ≡ a → (if a then Some 0 else option_map suc (first_index test xs)) ≡ None
        → (first_index test xs ≡ None → All (λ x. test x ≡ false) xs) → All (λ x. test x ≡ false) (x ∷ xs)
    here true e none rest = absurd (none-some 0 (sym none))
    here false e none rest = All-cons (λ x. test x ≡ false) x xs e (rest (no_more (first_index test xs) none))

none_passes : {X : Type 0} (test : X → Bool) (xs : List X) → All (λ x. test x ≡ false) xs → first_index test xs ≡ None
none_passes test [] fail = refl
none_passes test (x ∷ xs) fail =
    rw (All-head (λ x. test x ≡ false) x xs fail, none_passes test xs (All-tail (λ x. test x ≡ false) x xs fail)) refl

-- an index that passes is within
index_within : {X : Type 0} (test : X → Bool) (xs : List X) (i : ℕ) → first_index test xs ≡ Some i → i < length xs
index_within test [] i is = absurd (none-some i is)
index_within {X = X} test (x ∷ xs) i is = here (test x) (first_index test xs) is (λ i is. index_within test xs i is)
  where
    here : (a : Bool) (o : Option ℕ) → (if a then Some 0 else option_map suc o) ≡ Some i
        → ((i : ℕ) → o ≡ Some i → i < length xs) → i < length (x ∷ xs)
    here true o is rest = omega (arith, same_Some 0 i is)
    here false None is rest = absurd (none-some i is)
    here false (Some k) is rest = omega (arith, rest k refl, same_Some (suc k) i is)

-- ---- rules

-- no row breaks the rule, and none is missing
abbrev pub Keep : List Row → Rule → Type 0
Keep all rule = All (λ row. rule.breaks all row ≡ false) all × (rule.lacks all ≡ false)

neither : {X : Type 0} (o p : Option X) → option_or o p ≡ None → (o ≡ None) × (p ≡ None)
neither None p none = (refl, none)
neither (Some x) p none = absurd (none-some x (sym none))

keep_one : (rule : Rule) (all : List Row) → broken_at rule all ≡ None → Keep all rule
keep_one rule all none = (each_fails (rule.breaks all) all parts.0, none_lacks (rule.lacks all) parts.1)
  where
    parts : (first_index (rule.breaks all) all ≡ None) × ((if rule.lacks all then Some (length all) else None) ≡ None)
    parts = neither _ _ none

    none_lacks : (a : Bool) → (if a then Some (length all) else None) ≡ None → a ≡ false
    none_lacks true none = absurd (none-some (length all) (sym none))
    none_lacks false none = refl

abbrev told_as : Rule → ℕ → Broken
told_as rule at = record { rule = rule.number; index = at }

-- where no rule is broken, each is kept
pub keep_each : (some : List Rule) (all : List Row) → first_broken some all ≡ None → AllByRecursion (Keep all) some
keep_each [] all none = tt
keep_each (rule ∷ others) all none =
    let parts = neither _ _ none in
    (keep_one rule all (unnamed (broken_at rule all) parts.0), keep_each others all parts.1)
  where
    unnamed : (o : Option ℕ) → option_map (told_as rule) o ≡ None → o ≡ None
    unnamed None none = refl
    unnamed (Some at) none = absurd (none-some (told_as rule at) (sym none))

-- and where each is kept, none is broken
pub none_broken : (some : List Rule) (all : List Row) → AllByRecursion (Keep all) some → first_broken some all ≡ None
none_broken [] all kept = refl
none_broken (rule ∷ others) all kept =
    rw (none_passes (rule.breaks all) all kept.0.0, kept.0.1, none_broken others all kept.1) refl

-- ---- the row that is told

-- a row is missing by the rule only where the meta row is
abbrev LacksMeta : List Row → Rule → Type 0
LacksMeta all rule = rule.lacks all ≡ true → lacks_meta all ≡ true

there_by : (rule : Rule) (all : List Row) (at : ℕ) → LacksMeta all rule → broken_at rule all ≡ Some at → IsThere all at
there_by rule all at meta is =
    here (first_index (rule.breaks all) all) (rule.lacks all) refl refl is
  where
    here : (o : Option ℕ) (a : Bool) → first_index (rule.breaks all) all ≡ o → rule.lacks all ≡ a
        → option_or o (if a then Some (length all) else None) ≡ Some at → IsThere all at
    here None true e f is =
        let last : length all ≡ at = same_Some (length all) at is in
        record { at_most = omega arith; within = λ there. absurd (both_ways (lacks_meta all) there (meta f)) }
    here None false e f is = absurd (none-some at is)
    here (Some i) a e f is =
        let same : i ≡ at = same_Some i at is in
        let less : i < length all = index_within (rule.breaks all) all i e in
        record { at_most = omega arith; within = λ there. omega arith }

there_in : (some : List Rule) (all : List Row) (broken : Broken) → AllByRecursion (LacksMeta all) some
    → first_broken some all ≡ Some broken → IsThere all broken.index
there_in [] all broken meta is = absurd (none-some broken is)
there_in (rule ∷ others) all broken meta is =
    here (broken_at rule all) refl is (λ is. there_in others all broken meta.1 is)
  where
    here : (o : Option ℕ) → broken_at rule all ≡ o → option_or (option_map (told_as rule) o) (first_broken others all) ≡ Some broken
        → (first_broken others all ≡ Some broken → IsThere all broken.index) → IsThere all broken.index
    here None e is rest = rest is
    here (Some at) e is rest =
        let same : at ≡ broken.index = ap (λ (b : Broken). b.index) (same_Some (told_as rule at) broken is) in
        subst (IsThere all) same (there_by rule all at meta.0 e)

pub broken_is_there : BrokenIsThere
broken_is_there all broken is =
    there_in rules all broken ((λ lacks. lacks), (none, (none, (none, (none, (none, (none, (none, tt)))))))) is
  where
    none : false ≡ true → lacks_meta all ≡ true
    none lacks = absurd (false≢true lacks)
