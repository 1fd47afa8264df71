-- What look-ups find.
use Rattle.std.proofs.Common.{inl, ◌≡◌, Bool, true, false, List, [], ◌∷◌, Option, None, Some, option_map, refl, subst}
use Rattle.std.specs.List.{Contains, find}
use Rattle.std.specs.Option.{option_map_or}
use Rattle.std.proofs.lemmas.Bool.{cond_both, false≢true}
use Rattle.std.proofs.lemmas.Option.{none-some, same_Some}
use Rattle.nf_defs.proofs.ByName.{Contains-from, Contains-later}

-- what is found is among the elements, and passes the test
pub find_among : {X : Type 0} (test : X → Bool) (xs : List X) (x : X) → find test xs ≡ Some x → Contains xs x × (test x ≡ true)
find_among test [] x is = absurd (none-some x is)
find_among {X = X} test (y ∷ xs) x is =
    cond_both (test y) (Some y) (find test xs) (λ (o : Option X). o ≡ Some x → Contains (y ∷ xs) x × (test x ≡ true))
    (λ passes is. let same = same_Some y x is in (Contains-from y x xs (inl same), subst (λ (x : X). test x ≡ true) same passes))
    (λ fails is. let later = find_among test xs x is in (Contains-later y x xs later.0, later.1)) is

-- where what is there passes the test, it is there
pub holds_some : {X : Type 0} (test : X → Bool) (o : Option X) → option_map_or test o false ≡ true → (x : X) × (o ≡ Some x) × (test x ≡ true)
holds_some test None is = absurd (false≢true is)
holds_some test (Some x) is = (x, refl, is)

pub map_some : {X Y : Type 0} (f : X → Y) (o : Option X) (y : Y) → option_map f o ≡ Some y → (x : X) × (o ≡ Some x) × (f x ≡ y)
map_some f None y is = absurd (none-some y is)
map_some f (Some x) y is = (x, refl, same_Some (f x) y is)
