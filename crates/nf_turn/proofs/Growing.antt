-- How a value grows over several turns.
use Rattle.std.proofs.Common.{◌≡◌, ◌≢◌, ⊎_elim, inl, inr, ℕ, ◌<◌, ◌==◌, cond, false, arith, List, [], ◌∷◌, ◌++◌, All, Option, Some, None, refl, sym, ap, ◌∙◌, append-nil, append_assoc, ne_eqb}
use Rattle.std.proofs.lemmas.List.Elements.{filter-append, All-head, All-tail}
use Rattle.nf_turn.specs.Book.{Shelf, Meanings, KeepsShelf, Keeps, entries_of, AddsAlone, Grows, GrowsWithout}

pub KeepsShelf-refl : (shelf : Option Shelf) → KeepsShelf shelf shelf
KeepsShelf-refl None = tt
KeepsShelf-refl (Some shelf) = (omega arith, omega arith, λ m below. inl refl)

pub KeepsShelf-trans : (a b c : Option Shelf) → KeepsShelf a b → KeepsShelf b c → KeepsShelf a c
KeepsShelf-trans None None None h g = tt
KeepsShelf-trans None None (Some c) h g = g
KeepsShelf-trans None (Some b) c h g = absurd h
KeepsShelf-trans (Some a) None c h g = absurd h
KeepsShelf-trans (Some a) (Some b) None h g = g
KeepsShelf-trans (Some a) (Some b) (Some c) h g = let low = h.0 in let up = g.0 in let few = h.1 in let more = g.1 in (
  omega arith,
  omega arith,
  λ m below. ⊎_elim
      (λ (e : c.bytes m ≡ b.bytes m). ⊎_elim
      (λ (f : b.bytes m ≡ a.bytes m). inl (e ∙ f))
      (λ (f : (b.bytes m ≡ None) × (a.drops < b.drops)). let rose = f.1 in inr (e ∙ f.0, omega arith))
      (h.2 m below))
      (λ (e : (c.bytes m ≡ None) × (b.drops < c.drops)). let rose = e.1 in inr (e.0, omega arith))
      (g.2 m (omega arith)),
)

-- where a list has no element, neither of its parts has one
both_empty : {A : Type 0} (xs ys : List A) → xs ++ ys ≡ [] → (xs ≡ []) × (ys ≡ [])
both_empty [] ys e = (refl, e)
both_empty (x ∷ xs) ys e = absurd (cc)

module _ {E O W : Type 0} (book : Meanings E O W) where
  -- under m stands nothing of what another number did
  pub others_entries : (m n : ℕ) → m ≢ n → (entries : List E) → All (λ e. book.seat_of e ≡ n) entries → entries_of book m entries ≡ []
  others_entries m n apart [] h = refl
  others_entries m n apart (e ∷ entries) h =
      let P : E → Type 0 = λ e. book.seat_of e ≡ n in
      let not : (book.seat_of e == m) ≡ false = ne_eqb (book.seat_of e) m (λ same. apart (sym same ∙ All-head P e entries h)) in
      ap (λ t. cond t (e ∷ entries_of book m entries) (entries_of book m entries)) not ∙ others_entries m n apart entries (All-tail P e entries h)

  -- where entries have none of a seat, neither of their parts has one
  pub none_in_parts : (n : ℕ) (xs ys : List E) → entries_of book n (xs ++ ys) ≡ [] → (entries_of book n xs ≡ []) × (entries_of book n ys ≡ [])
  none_in_parts n xs ys none = both_empty (entries_of book n xs) (entries_of book n ys) (sym (filter-append (λ e. book.seat_of e == n) xs ys) ∙ none)

  -- those of a seat stay where more have none of it
  pub entries_of-more : (n : ℕ) (xs more : List E) → entries_of book n more ≡ [] → entries_of book n (xs ++ more) ≡ entries_of book n xs
  entries_of-more n xs more none =
      let old = entries_of book n xs in
      filter-append (λ e. book.seat_of e == n) xs more ∙ ap (λ l. old ++ l) none ∙ append-nil old

  keeps-refl : (x : W) → Keeps book x x
  keeps-refl x = record { opening = refl; shelf = KeepsShelf-refl (book.shelf x) }

  keeps-trans : (x y z : W) → Keeps book x y → Keeps book y z → Keeps book x z
  keeps-trans x y z h g = record { opening = g.opening ∙ h.opening; shelf = KeepsShelf-trans (book.shelf x) (book.shelf y) (book.shelf z) h.shelf g.shelf }

  pub Grows-refl : (x : W) → Grows book x x
  Grows-refl x = record { added = []; entries = sym (append-nil (book.entries x)); keeps = keeps-refl x }

  pub Grows-AddsAlone : (n : ℕ) (x y z : W) → Grows book x y → AddsAlone book n y z → Grows book x z
  Grows-AddsAlone n x y z h g = record {
    added = h.added ++ g.added;
    entries = g.entries ∙ ap (λ l. l ++ g.added) h.entries ∙ append_assoc (book.entries x) h.added g.added;
    keeps = keeps-trans x y z h.keeps g.keeps;
  }

  pub GrowsWithout-refl : (n : ℕ) (x : W) → GrowsWithout book n x x
  unfolding Grows-refl
  GrowsWithout-refl n x = record { grows = Grows-refl x; none = refl; strikes = refl }

  pub GrowsWithout-AddsAlone : (m n : ℕ) (x y z : W) → m ≢ n → GrowsWithout book m x y → AddsAlone book n y z → GrowsWithout book m x z
  unfolding Grows-AddsAlone
  GrowsWithout-AddsAlone m n x y z apart h g = record {
    grows = Grows-AddsAlone n x y z h.grows g;
    none = filter-append (λ e. book.seat_of e == m) h.grows.added g.added ∙ (λ i. h.none i ++ others_entries m n apart g.added g.alone i);
    strikes = g.others m apart ∙ h.strikes;
  }

  -- under the seat's number stands what stood there
  pub entries_stay : (n : ℕ) (x y : W) → GrowsWithout book n x y → entries_of book n (book.entries y) ≡ entries_of book n (book.entries x)
  entries_stay n x y h = ap (entries_of book n) h.grows.entries ∙ entries_of-more n (book.entries x) h.grows.added h.none
