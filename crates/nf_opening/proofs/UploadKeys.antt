-- Uploads by their keys.
use Rattle.std.proofs.Common.{◌≡◌, ℕ, ◌==◌, ◌&&◌, Bool, true, false, List, [], ◌∷◌, length, refl, ap, ◌∙◌}
use Rattle.std.specs.Prelude.{bytes_eq}
use Rattle.std.specs.List.{list_any}
use Rattle.std.proofs.lemmas.Bool.{eq-eqb}
use Rattle.std.proofs.lemmas.Slice.Eq.{bytes_eq-Decides}
use Rattle.nf_base.specs.declared.rows.UploadRow.{UploadRow}
use Rattle.nf_defs.specs.Prelude.{upload_key}

-- a key is that of a user and a name where both are the same
same_key : (u user : ℕ) (a dir : List ℕ) → bytes_eq (u ∷ length a ∷ a) (user ∷ length dir ∷ dir) ≡ (u == user && bytes_eq a dir)
same_key u user a dir = here (bytes_eq a dir) refl
  where
    last : (b c : Bool) → (b && (c && false)) ≡ (b && false)
    last b true = refl
    last b false = refl

    here : (b : Bool) → bytes_eq a dir ≡ b → bytes_eq (u ∷ length a ∷ a) (user ∷ length dir ∷ dir) ≡ (u == user && bytes_eq a dir)
    here true e =
        let sized : (length a == length dir) ≡ true = eq-eqb (length a) (length dir) (ap length ((bytes_eq-Decides a dir).0 e)) in
        rw (sized, e) refl
    here false e = rw e (last (u == user) (length a == length dir))

pub same_upload : (user : ℕ) (dir : List ℕ) (rows : List UploadRow)
    → list_any (λ row. bytes_eq (upload_key row) (user ∷ length dir ∷ dir)) rows ≡ list_any (λ row. row.user == user && bytes_eq row.dir dir) rows
same_upload user dir [] = refl
same_upload user dir (x ∷ xs) = rw (same_key x.user user x.dir dir, same_upload user dir xs) refl
