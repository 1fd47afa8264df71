-- What is found by the key of an upload or a chunk.
use Rattle.std.proofs.Common.{ℕ, ◌≡◌, Bool, List, [], ◌∷◌, ◌++◌, length, refl, ap, arith, bytes_eq}
use Rattle.std.specs.Prelude.{◌==◌, ◌&&◌, find}
use Rattle.std.proofs.lemmas.Bool.Decides.{nat_tests}
use Rattle.std.proofs.lemmas.Slice.Eq.{bytes_eq-Decides}
use Rattle.nf_base.specs.declared.rows.ChunkRow.{ChunkRow}
use Rattle.nf_base.specs.declared.rows.UploadRow.{UploadRow}
use Rattle.nf_defs.specs.Prelude.{chunk_key, upload_key}
use Rattle.nf_table.specs.Rows.{row_at}
use Rattle.nf_words.specs.Uploads.{chunk_row, is_chunk_of, upload_row}

-- ---- keys that are the same

-- names of other lengths are others
sized : (a b : List ℕ) → (length a == length b && bytes_eq a b) ≡ bytes_eq a b
sized a b = grind (arith, nat_tests, (bytes_eq-Decides a b).0)

-- with a number behind each
numbered : (a b : List ℕ) (m n : ℕ) → (length a == length b && bytes_eq (a ++ m ∷ []) (b ++ n ∷ [])) ≡ (bytes_eq a b && m == n)
numbered [] [] m n = grind (arith, nat_tests)
numbered [] (y ∷ b) m n = grind (arith, nat_tests)
numbered (x ∷ a) [] m n = grind (arith, nat_tests)
numbered (x ∷ a) (y ∷ b) m n = let rest = numbered a b m n in grind (arith, nat_tests)

-- ---- what is found

-- by tests that agree the same is found
find_agree : {X : Type 0} (p q : X → Bool) → ((x : X) → p x ≡ q x) → (xs : List X) → find p xs ≡ find q xs
find_agree p q agree [] = refl
find_agree p q agree (x ∷ xs) = let first = agree x in let rest = find_agree p q agree xs in cc

pub found_upload : (rows : List UploadRow) (user : ℕ) (dir : List ℕ) → row_at upload_key (user ∷ length dir ∷ dir) rows ≡ upload_row rows user dir
found_upload rows user dir =
    find_agree (λ row. bytes_eq (upload_key row) (user ∷ length dir ∷ dir)) (λ row. row.user == user && bytes_eq row.dir dir)
    (λ row. ap (λ (b : Bool). row.user == user && b) (sized row.dir dir)) rows

pub found_chunk : (rows : List ChunkRow) (user : ℕ) (dir : List ℕ) (number : ℕ)
    → row_at chunk_key (user ∷ length dir ∷ dir ++ number ∷ []) rows ≡ chunk_row rows user dir number
found_chunk rows user dir number =
    find_agree (λ row. bytes_eq (chunk_key row) (user ∷ length dir ∷ dir ++ number ∷ [])) (λ row. is_chunk_of user dir row && row.number == number)
    (λ row. let same = numbered row.dir dir row.number number in grind (arith, nat_tests)) rows
