-- The totals of the owners, where the bytes of the rows that go are taken off one after the other.
use Rattle.std.proofs.Common.{ℕ, ◌+◌, ◌<◌, ◌≤◌, ◌≡◌, Bool, true, false, not, cond, List, [], ◌∷◌, ◌++◌, length, get_or, take, filter, refl, sym, ap, ◌∙◌, arith}
use Rattle.std.proofs.lemmas.List.{append-nil, take_all}
use Rattle.std.proofs.lemmas.List.Elements.{filter_more}
use Rattle.std.proofs.lemmas.List.Filters.{sum_by-filter_both}
use Rattle.std.proofs.lemmas.List.Sums.{sum_by_push}
use Rattle.nf_base.specs.Content.{size_of}
use Rattle.nf_base.specs.declared.rows.NodeRow.{NodeRow}
use Rattle.nf_charge.specs.Totals.{AreTotals, HeldTotals, IsTaken, bytes_owned, owned_part, total_of}

-- the rows that go
abbrev pub gone_rows : (NodeRow → Bool) → List NodeRow → List NodeRow
gone_rows kept rows = filter (λ row. not (kept row)) rows

-- with the bytes of those that go of the first rows they are the totals of all
pub record AreLess (kept : NodeRow → Bool) (rows : List NodeRow) (at : ℕ) (held : HeldTotals) : Type 0 where
  pub each : held.known ≡ true → (owner : ℕ) → total_of held.totals owner + bytes_owned (gone_rows kept (take at rows)) owner ≡ bytes_owned rows owner

module _ (kept : NodeRow → Bool) (rows : List NodeRow) where
  pub less_none : (held : HeldTotals) → AreTotals rows held → AreLess kept rows 0 held
  unfolding bytes_owned
  less_none held are = record { each = λ known owner. let all = are known owner in omega (arith, all) }

  module _ (at : ℕ) (row : NodeRow) (within : at < length rows) (is : row ≡ get_or rows at row) where
    more : gone_rows kept (take (at + 1) rows) ≡ gone_rows kept (take at rows) ++ cond (not (kept row)) (row ∷ []) []
    more =
        filter_more (λ row. not (kept row)) rows at row within
        ∙ ap (λ (r : NodeRow). gone_rows kept (take at rows) ++ cond (not (kept r)) (r ∷ []) []) (sym is)

    -- a row that stays changes nothing
    pub less_kept : (held : HeldTotals) → kept row ≡ true → AreLess kept rows at held → AreLess kept rows (at + 1) held
    less_kept held stays less = record {
      each = λ known owner.
          ap (λ (gone : List NodeRow). total_of held.totals owner + bytes_owned gone owner)
          (more ∙ ap (λ (stays : Bool). gone_rows kept (take at rows) ++ cond (not stays) (row ∷ []) []) stays ∙ append-nil (gone_rows kept (take at rows)))
          ∙ less.each known owner;
    }

    -- those of a row that goes are taken off
    pub less_taken : (old new : HeldTotals) → kept row ≡ false → IsTaken old row.owner (size_of row.content) new → AreLess kept rows at old
        → AreLess kept rows (at + 1) new
    unfolding bytes_owned
    less_taken old new goes taken less = record {
      each = λ known owner.
          let before = taken known in
          let off : total_of new.totals owner + owned_part owner row ≡ total_of old.totals owner = before.1 owner in
          let gone =
          ap (λ (gone : List NodeRow). bytes_owned gone owner)
          (more ∙ ap (λ (stays : Bool). gone_rows kept (take at rows) ++ cond (not stays) (row ∷ []) []) goes)
          ∙ sum_by_push (owned_part owner) (gone_rows kept (take at rows)) row in
          let all = less.each before.0 owner in
          omega (arith, off, gone, all);
    }

  -- in the end they are the totals of the rows that stay
  pub less_all : (at : ℕ) (held : HeldTotals) → length rows ≤ at → AreLess kept rows at held → AreTotals (filter kept rows) held
  unfolding bytes_owned
  less_all at held past less known owner =
      let all = less.each known owner in
      let front = ap (λ (list : List NodeRow). bytes_owned (gone_rows kept list) owner) (take_all at rows past) in
      let parts = sum_by-filter_both kept (λ row. not (kept row)) (λ row. refl) (owned_part owner) rows in
      omega (arith, all, front, parts)
