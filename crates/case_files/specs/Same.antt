-- A row, and when two rows are the same and two blobs.
use Rattle.std.specs.Prelude.{ℕ, Bool, nat_eq, List, bytes_eq}
use Rattle.std.specs.Ordering.{on, eq_of_both}

-- a row: its kind, and the bytes of its key and of its body
pub record Row : Type 0 where
  pub kind : ℕ
  pub key : List ℕ
  pub body : List ℕ

-- two rows are the same
abbrev pub row_eq : Row → Row → Bool
row_eq = eq_of_both (on (λ row. row.kind) nat_eq) (eq_of_both (on (λ row. row.key) bytes_eq) (on (λ row. row.body) bytes_eq))

-- two blobs have one number and the same bytes
abbrev pub blob_eq : ℕ × List ℕ → ℕ × List ℕ → Bool
blob_eq = eq_of_both (on (λ blob. blob.0) nat_eq) (on (λ blob. blob.1) bytes_eq)
