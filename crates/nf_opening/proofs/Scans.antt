-- A scan from the end that keeps the keys it saw.
use Rattle.std.proofs.Common.{◌≡◌, ℕ, suc, ◌+◌, Bool, true, false, cond, not, ◌||◌, List, [], ◌∷◌, ◌++◌, length, Option, None, Some, option_map, refl, sym, ap, ◌∙◌, append_assoc, arith}
use Rattle.std.specs.List.{list_any}
use Rattle.std.specs.Ordering.{eq_by_cmp, is_eq}
use Rattle.std.specs.Cmp.{IsTotalOrder}
use Rattle.std.specs.declared.cmp.Ordering.{Ordering}
use Rattle.std.proofs.lemmas.List.{length-append, append-nil}
use Rattle.std.proofs.lemmas.Cmp.{eq_by_cmp_equiv}
use Rattle.nf_opening.proofs.Firsts.{zero_more}
use Rattle.nf_opening.specs.Again.{first_again, ties, comes_again}

-- how far the scan is: the keys before it, those it saw, and the least index whose key came again
pub record SoFar {K : Type 0} (R : K → K → Ordering) (all before : List (Option K)) (saw : List K) (least : Option ℕ) : Type 0 where
  pub later : List (Option K)
  pub whole : all ≡ before ++ later
  pub found : least ≡ option_map (λ i. length before + i) (first_again (eq_by_cmp R) later)
  pub same : (q : K) → list_any (eq_by_cmp R q) saw ≡ list_any (ties (eq_by_cmp R) q) later

moved : (n m : ℕ) (o : Option ℕ) → m ≡ suc n → option_map (λ i. m + i) o ≡ option_map (λ i. n + i) (option_map suc o)
moved n m None e = refl
moved n m (Some i) e = ap Some (omega (arith, e))

regroups : {K : Type 0} (before later : List (Option K)) (key : Option K) → (before ++ key ∷ []) ++ later ≡ before ++ key ∷ later
regroups before later key = append_assoc before (key ∷ []) later

longer : {K : Type 0} (before : List (Option K)) (key : Option K) → length (before ++ key ∷ []) ≡ suc (length before)
longer before key = omega (arith, length-append before (key ∷ []))

-- nothing comes again here
goes_by : {K : Type 0} (E : K → K → Bool) (before later : List (Option K)) (key : Option K) → comes_again E later key ≡ false
    → option_map (λ i. length (before ++ key ∷ []) + i) (first_again E later) ≡ option_map (λ i. length before + i) (first_again E (key ∷ later))
unfolding first_again
goes_by E before later key e =
    moved (length before) _ (first_again E later) (longer before key)
    ∙ sym (ap (λ (b : Bool). option_map (λ i. length before + i) (cond b (Some 0) (option_map suc (first_again E later)))) e)

pub was_there : (b added : Bool) → added ≡ not b → added ≡ false → b ≡ true
was_there true added e f = refl
was_there false added e f = absurd cc

pub was_new : (b added : Bool) → added ≡ not b → added ≡ true → b ≡ false
was_new true added e f = absurd cc
was_new false added e f = refl

module _ {K : Type 0} {R : K → K → Ordering} where
  pub begins : (all : List (Option K)) → SoFar R all all [] None
  unfolding first_again
  begins all = record { later = []; whole = sym (append-nil all); found = refl; same = λ q. refl }

  pub skips : (all before : List (Option K)) (saw : List K) (least : Option ℕ) → SoFar R all (before ++ None ∷ []) saw least → SoFar R all before saw least
  skips all before saw least s = record {
    later = None ∷ s.later;
    whole = s.whole ∙ regroups before s.later None;
    found = s.found ∙ goes_by (eq_by_cmp R) before s.later None refl;
    same = s.same;
  }

  more : (o : IsTotalOrder R) (later : List (Option K)) (saw n : List K) (key : K)
      → ((q : K) → list_any (eq_by_cmp R q) saw ≡ list_any (ties (eq_by_cmp R) q) later)
      → ((q : K) → list_any (eq_by_cmp R q) n ≡ cond (is_eq (R key q)) true (list_any (eq_by_cmp R q) saw))
      → (q : K) → list_any (eq_by_cmp R q) n ≡ list_any (ties (eq_by_cmp R) q) (Some key ∷ later)
  more o later saw n key same updates q = updates q ∙ either (is_eq (R key q)) (is_eq (R q key)) ((eq_by_cmp_equiv o).symm key q) (same q)
    where
      either : (a b : Bool) → a ≡ b → list_any (eq_by_cmp R q) saw ≡ list_any (ties (eq_by_cmp R) q) later
          → cond a true (list_any (eq_by_cmp R q) saw) ≡ (b || list_any (ties (eq_by_cmp R) q) later)
      either true true e h = refl
      either false false e h = h
      either true false e h = absurd cc
      either false true e h = absurd cc

  pub again : (o : IsTotalOrder R) (all before : List (Option K)) (saw n : List K) (least : Option ℕ) (key : K)
      → SoFar R all (before ++ Some key ∷ []) saw least → list_any (eq_by_cmp R key) saw ≡ true
      → ((q : K) → list_any (eq_by_cmp R q) n ≡ cond (is_eq (R key q)) true (list_any (eq_by_cmp R q) saw))
      → SoFar R all before n (Some (length before))
  unfolding first_again
  again o all before saw n least key s seen updates = record {
    later = Some key ∷ s.later;
    whole = s.whole ∙ regroups before s.later (Some key);
    found = ap Some (omega arith) ∙ sym (ap (λ (b : Bool). option_map (λ i. length before + i) (cond b (Some 0) (option_map suc (first_again (eq_by_cmp R) s.later)))) (sym (s.same key) ∙ seen));
    same = more o s.later saw n key s.same updates;
  }

  pub fresh : (o : IsTotalOrder R) (all before : List (Option K)) (saw n : List K) (least : Option ℕ) (key : K)
      → SoFar R all (before ++ Some key ∷ []) saw least → list_any (eq_by_cmp R key) saw ≡ false
      → ((q : K) → list_any (eq_by_cmp R q) n ≡ cond (is_eq (R key q)) true (list_any (eq_by_cmp R q) saw))
      → SoFar R all before n least
  fresh o all before saw n least key s unseen updates = record {
    later = Some key ∷ s.later;
    whole = s.whole ∙ regroups before s.later (Some key);
    found = s.found ∙ goes_by (eq_by_cmp R) before s.later (Some key) (sym (s.same key) ∙ unseen);
    same = more o s.later saw n key s.same updates;
  }

  pub ends : (all : List (Option K)) (saw : List K) (least : Option ℕ) → SoFar R all [] saw least → least ≡ first_again (eq_by_cmp R) all
  ends all saw least s = s.found ∙ zero_more _ ∙ ap (first_again (eq_by_cmp R)) (sym s.whole)
