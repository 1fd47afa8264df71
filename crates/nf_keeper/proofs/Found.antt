-- Blobs by rising number.
use Rattle.std.proofs.Common.{ℕ, ◌≡◌, ◌==◌, Bool, true, false, cond, List, [], ◌∷◌, Some, refl}
use Rattle.std.specs.Prelude.{bytes_eq, find, option_map}
use Rattle.std.proofs.lemmas.Bool.Decides.{Decides-eqb, Decides-like, same_from_decides}
use Rattle.std.proofs.lemmas.Slice.Eq.{bytes_eq-Decides}
use Rattle.nf_defs.specs.Blobs.{Blobs, blob_at, blob_key}

abbrev test : ℕ → ℕ × List ℕ → Bool
test id blob = bytes_eq (blob_key blob) (id ∷ [])

same_test : (id : ℕ) (blob : ℕ × List ℕ) → test id blob ≡ (blob.0 == id)
same_test id blob =
    same_from_decides (test id blob) (blob.0 == id)
    (Decides-like (test id blob) (λ (e : blob.0 ∷ [] ≡ id ∷ []). (cc)) (λ (e : blob.0 ≡ id). (cc)) (bytes_eq-Decides (blob_key blob) (id ∷ [])))
    (Decides-eqb blob.0 id)

-- what is found under a number
pub found_is : (blobs : Blobs) (id : ℕ) → option_map (λ blob. blob.1) (find (test id) blobs) ≡ blob_at blobs id
found_is [] id = refl
found_is (blob ∷ blobs) id = rw (same_test id blob) (here (blob.0 == id) (found_is blobs id))
  where
    here : (b : Bool) → option_map (λ blob. blob.1) (find (test id) blobs) ≡ blob_at blobs id
        → option_map (λ blob. blob.1) (cond b (Some blob) (find (test id) blobs)) ≡ cond b (Some blob.1) (blob_at blobs id)
    here true rest = refl
    here false rest = rest
