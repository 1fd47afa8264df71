-- Values whose entries begin with those of others.
use Rattle.std.proofs.Common.{◌-◌, ◌≤◌, List, [], ◌∷◌, ◌++◌, sym, ap, ◌∙◌, arith, append-nil, append_assoc, length, take}
use Rattle.std.proofs.Math.Seq.{take-append-add, take-append_seam}
use Rattle.nf_turn.specs.Book.{Meanings, IsFresh, Grows, Precedes, AllPrecede}

module _ {E O W : Type 0} (book : Meanings E O W) where
  pub Precedes-refl : (x : W) → Precedes book x x
  Precedes-refl x = ([], sym (append-nil (book.entries x)))

  pub Precedes-trans : (x y z : W) → Precedes book x y → Precedes book y z → Precedes book x z
  Precedes-trans x y z h g = (h.0 ++ g.0, g.1 ∙ ap (λ l. l ++ g.0) h.1 ∙ append_assoc (book.entries x) h.0 g.0)

  pub grown_precedes : (x y : W) → Grows book x y → Precedes book x y
  grown_precedes x y h = (h.added, h.entries)

  -- a value with no entries comes before each
  pub fresh_precedes : (x y : W) → IsFresh book x → Precedes book x y
  fresh_precedes x y h = (book.entries y, ap (λ l. l ++ book.entries y) (sym h.no_entries))

  pub AllPrecede-trans : (olds : List W) (x y : W) → AllPrecede book olds x → Precedes book x y → AllPrecede book olds y
  AllPrecede-trans [] x y h g = tt
  AllPrecede-trans (old ∷ olds) x y h g = (Precedes-trans old x y h.0 g, AllPrecede-trans olds x y h.1 g)

  pub AllPrecede-append : (olds more : List W) (x : W) → AllPrecede book olds x → AllPrecede book more x → AllPrecede book (olds ++ more) x
  AllPrecede-append [] more x h g = g
  AllPrecede-append (old ∷ olds) more x h g = (h.0, AllPrecede-append olds more x h.1 g)

  -- of two values that a third one grew from, the shorter comes before the longer
  pub shorter_precedes : (x y z : W) → Grows book x z → Grows book y z → length (book.entries x) ≤ length (book.entries y) → Precedes book x y
  shorter_precedes x y z h g up =
      let xs = book.entries x in let ys = book.entries y in let n = length ys - length xs in (
        take n h.added,
        sym (take-append_seam ys g.added) ∙ ap (take (length ys)) (sym g.entries ∙ h.entries) ∙ ap (λ i. take i (xs ++ h.added)) (omega (arith, up)) ∙ take-append-add xs h.added n,
      )
