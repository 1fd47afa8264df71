-- Blobs that are put under numbers.
use Rattle.std.proofs.Common.{ℕ, ◌<◌, ◌==◌, ◌≡◌, ◌≢◌, List, [], ◌∷◌, if◌then◌else◌, refl, sym, ap, subst, arith}
use Rattle.std.specs.Prelude.{Option, None, Some}
use Rattle.std.specs.Ordering.{MatchOrdering, nat_cmp, ordering_then}
use Rattle.std.specs.declared.cmp.Ordering.{Ordering}
use Rattle.std.specs.declared.cmp.Ordering.TheVariants.{Less, Equal, Greater}
use Rattle.std.proofs.lemmas.Bool.{eq-eqb, ne_eqb}
use Rattle.std.proofs.lemmas.Cmp.{ranked}
use Rattle.std.proofs.lemmas.Option.{none-some, same_Some}
use Rattle.nf_defs.specs.Prelude.{blob_at, Blobs, by_order, put_blob, with_blob}

-- the bytes under the number are the new ones
pub put_at : (blobs : Blobs) (id : ℕ) (bytes : List ℕ) → blob_at (put_blob blobs id bytes) id ≡ Some bytes
put_at [] id bytes = rw (eq-eqb id id refl) refl
put_at (blob ∷ blobs) id bytes = here (nat_cmp id blob.0) (ranked id blob.0 (nat_cmp id blob.0) refl) (put_at blobs id bytes)
  where
    here : (r : Ordering) → MatchOrdering r (id < blob.0) (id ≡ blob.0) (blob.0 < id)
        → blob_at (put_blob blobs id bytes) id ≡ Some bytes
        → blob_at (by_order (ordering_then r Equal) ((id, bytes) ∷ blob ∷ blobs) ((id, bytes) ∷ blobs) (blob ∷ put_blob blobs id bytes)) id
        ≡ Some bytes
    here Less h rest = rw (eq-eqb id id refl) refl
    here Equal h rest = rw (eq-eqb id id refl) refl
    here Greater h rest = rw (ne_eqb blob.0 id (λ e. absurd (omega arith))) rest

-- and those under every other number the old ones
pub put_elsewhere : (blobs : Blobs) (id : ℕ) (bytes : List ℕ) (other : ℕ) → other ≢ id
    → blob_at (put_blob blobs id bytes) other ≡ blob_at blobs other
put_elsewhere [] id bytes other apart = rw (ne_eqb id other (λ e. apart (sym e))) refl
put_elsewhere (blob ∷ blobs) id bytes other apart =
    here (nat_cmp id blob.0) (ranked id blob.0 (nat_cmp id blob.0) refl) (put_elsewhere blobs id bytes other apart)
  where
    here : (r : Ordering) → MatchOrdering r (id < blob.0) (id ≡ blob.0) (blob.0 < id)
        → blob_at (put_blob blobs id bytes) other ≡ blob_at blobs other
        → blob_at (by_order (ordering_then r Equal) ((id, bytes) ∷ blob ∷ blobs) ((id, bytes) ∷ blobs) (blob ∷ put_blob blobs id bytes)) other
        ≡ blob_at (blob ∷ blobs) other
    here Less h rest = rw (ne_eqb id other (λ e. apart (sym e))) refl
    here Equal h rest = rw (ne_eqb id other (λ e. apart (sym e)), ne_eqb blob.0 other (λ e. absurd (omega (arith, apart, e, h)))) refl
    here Greater h rest = ap (λ (o : Option (List ℕ)). if blob.0 == other then Some blob.1 else o) rest

-- where bytes are stored, they are what is under their number
pub new_at : (blobs : Blobs) (blob : Option ℕ) (bytes : List ℕ) (id : ℕ) → blob ≡ Some id
    → blob_at (with_blob blobs blob bytes) id ≡ Some bytes
new_at blobs None bytes id is = absurd (none-some id is)
new_at blobs (Some new) bytes id is =
    subst (λ (n : ℕ). blob_at (put_blob blobs n bytes) id ≡ Some bytes) (sym (same_Some new id is)) (put_at blobs id bytes)

-- and what stood under another number stands there still
pub still_at : (blobs : Blobs) (blob : Option ℕ) (bytes : List ℕ) (id : ℕ) → blob ≢ Some id
    → blob_at (with_blob blobs blob bytes) id ≡ blob_at blobs id
still_at blobs None bytes id apart = refl
still_at blobs (Some new) bytes id apart = put_elsewhere blobs new bytes id (λ e. apart (ap Some (sym e)))
