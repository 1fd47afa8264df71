-- Refusals of what is needed, one act after the other.
use Rattle.std.proofs.Common.{◌≡◌, ◌++◌, ◌∷◌, ◌||◌, Bool, true, false, List, [], Option, None, Some, option_map, is_some, refl, ap, ◌∙◌}
use Rattle.std.specs.List.{list_any}
use Rattle.std.specs.Option.{option_or}
use Rattle.std.specs.Prelude.{find, if◌then◌else◌}
use Rattle.std.proofs.lemmas.List.Folds.{find-append}
use Rattle.nf_access.specs.Access.{by_chains}
use Rattle.nf_words.specs.Needed.{Need}
use Rattle.nf_words.specs.Reached.{is_refused, need_broken}
use Rattle.nf_words.specs.declared.answer.Denial.{Denial}
use Rattle.nf_reach.specs.Asking.{Asking, refusal_for}

-- what is found passes the test, if anything does
pub find_any : {X Y : Type 0} (f : X → Y) (test : X → Bool) (xs : List X) → is_some (option_map f (find test xs)) ≡ list_any test xs
find_any f test [] = refl
find_any {X = X} f test (x ∷ xs) = here (test x) (find_any f test xs)
  where
    here : (b : Bool) → is_some (option_map f (find test xs)) ≡ list_any test xs
        → is_some (option_map f (if b then Some x else find test xs)) ≡ (b || list_any test xs)
    here true rest = refl
    here false rest = rest

-- what is needed first is refused first
pub first_of_both : (a : Asking) (xs ys : List Need) → refusal_for a (xs ++ ys) ≡ option_or (refusal_for a xs) (refusal_for a ys)
first_of_both a xs ys =
    ap (option_map told) (find-append refused xs ys) ∙ mapped (find refused xs) (find refused ys)
  where
    refused : Need → Bool
    refused need = is_refused (by_chains a.base) a.base.nodes a.seeker a.moment need

    told : Need → Denial
    told need = need_broken a.base a.seeker a.moment need

    mapped : (o p : Option Need) → option_map told (option_or o p) ≡ option_or (option_map told o) (option_map told p)
    mapped None p = refl
    mapped (Some need) p = refl
