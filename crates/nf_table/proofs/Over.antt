-- A row put over the one with its key, and a row changed where it stands.
use Rattle.std.proofs.Common.{ℕ, ◌≡◌, List, get_or, set, Option, Some, sym, ap, subst, ◌∙◌}
use Rattle.std.specs.List.{find, position}
use Rattle.std.specs.Option.{IfSome, MatchOption}
use Rattle.std.proofs.lemmas.Cmp.{tied_itself}
use Rattle.std.proofs.lemmas.List.Quantifiers.{position-Some}
use Rattle.std.proofs.lemmas.Slice.Eq.{bytes_eq-Decides}
use Rattle.nf_defs.specs.Prelude.{IsRising, key_cmp, put}
use Rattle.nf_defs.proofs.Lookups.{find_nowhere, find_there, is_sought}
use Rattle.nf_defs.proofs.Puts.{key_total, put_over, put_rising}
use Rattle.nf_table.specs.Rows.{Changes}
use Rattle.nf_table.proofs.Looked.{own_found}

module _ {R : Type 0} (key : R → List ℕ) (row : R) (rows : List R) (rising : IsRising key rows) (at : ℕ)
    (place : Some at ≡ position (is_sought key (key row)) rows) where
  pub put_here : set rows at row ≡ put key row rows
  put_here =
      let first = λ (d : R). position-Some (is_sought key (key row)) rows at d (sym place) in
      put_over key row rows at (first row).0
      (λ d. ap (λ (k : List ℕ). key_cmp k (key row)) ((bytes_eq-Decides _ (key row)).0 (first d).1) ∙ tied_itself key_total (key row))
      rising

  pub here_rising : IsRising key (set rows at row)
  here_rising = rw put_here (put_rising key row rows rising)

module _ {R : Type 0} (key : R → List ℕ) (numbers : List ℕ) (rows : List R) (rising : IsRising key rows) (at : ℕ) (old new : R)
    (place : Some at ≡ position (is_sought key numbers) rows) (is : old ≡ get_or rows at old) (same : key new ≡ key old) where
  found : Some old ≡ find (is_sought key numbers) rows
  found = find_there (is_sought key numbers) rows at old place is

  place_new : Some at ≡ position (is_sought key (key new)) rows
  place_new =
      let own : key old ≡ numbers = subst (λ (o : Option R). IfSome o (λ row. key row ≡ numbers)) (sym found) (own_found key numbers rows) in
      place ∙ ap (λ (k : List ℕ). position (is_sought key k) rows) (sym (same ∙ own))

  pub changed_here : (Becomes : R → R → Type 0) → Becomes old new → Changes key numbers Becomes rows (set rows at new)
  changed_here Becomes becomes =
      subst (λ (o : Option R). MatchOption o (set rows at new ≡ rows) (λ (row : R). (row' : R) × Becomes row row' × (set rows at new ≡ put key row' rows))) found
      (new, becomes, put_here key new rows rising at place_new)

  pub changed_rising : IsRising key (set rows at new)
  changed_rising = here_rising key new rows rising at place_new

-- what the two ways of a place show
pub ruleset over = (put_here, here_rising, find_there, find_nowhere)
