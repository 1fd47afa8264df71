-- Rows and blobs are compared part by part.
use Rattle.std.proofs.Common.{◌≡◌, ℕ, List, bytes_eq, ap}
use Rattle.std.specs.Prelude.{nat_eq}
use Rattle.std.specs.Bool.{Decides}
use Rattle.std.proofs.lemmas.Bool.{and_from, and_parts, eq-eqb, eqb-true}
use Rattle.std.proofs.lemmas.Slice.Eq.{bytes_eq-Decides}
use Rattle.case_files.specs.Same.{Row, blob_eq, row_eq}

pub row_decides : (a b : Row) → Decides (row_eq a b) (a ≡ b)
row_decides a b = (
  λ is.
      let kinds = and_parts (nat_eq a.kind b.kind) _ is in
      let keys = and_parts (bytes_eq a.key b.key) (bytes_eq a.body b.body) kinds.1 in
      λ i. record {
        kind = eqb-true a.kind b.kind kinds.0 i;
        key = (bytes_eq-Decides a.key b.key).0 keys.0 i;
        body = (bytes_eq-Decides a.body b.body).0 keys.1 i;
      },
  λ same.
      and_from (nat_eq a.kind b.kind) _ (eq-eqb a.kind b.kind (ap (λ (row : Row). row.kind) same))
      (and_from (bytes_eq a.key b.key) (bytes_eq a.body b.body) ((bytes_eq-Decides a.key b.key).1 (ap (λ (row : Row). row.key) same))
      ((bytes_eq-Decides a.body b.body).1 (ap (λ (row : Row). row.body) same))),
)

pub blob_decides : (a b : ℕ × List ℕ) → Decides (blob_eq a b) (a ≡ b)
blob_decides a b = (
  λ is.
      let parts = and_parts (nat_eq a.0 b.0) (bytes_eq a.1 b.1) is in
      λ i. (eqb-true a.0 b.0 parts.0 i, (bytes_eq-Decides a.1 b.1).0 parts.1 i),
  λ same.
      and_from (nat_eq a.0 b.0) (bytes_eq a.1 b.1) (eq-eqb a.0 b.0 (ap (λ (blob : ℕ × List ℕ). blob.0) same))
      ((bytes_eq-Decides a.1 b.1).1 (ap (λ (blob : ℕ × List ℕ). blob.1) same)),
)
