-- The bytes that are stored under the numbers of blobs.
use Rattle.std.specs.Prelude.{ℕ, ◌==◌, List, [], ◌∷◌, Option, None, Some, if◌then◌else◌}
use Rattle.nf_defs.specs.Puts.{put}

-- numbers of blobs and their bytes
abbrev pub Blobs : Type 0
Blobs = List (ℕ × List ℕ)

abbrev pub blob_key : ℕ × List ℕ → List ℕ
blob_key blob = blob.0 ∷ []

-- the bytes under a number
abbrev pub blob_at : Blobs → ℕ → Option (List ℕ)
blob_at [] id = None
blob_at (blob ∷ blobs) id = if blob.0 == id then Some blob.1 else blob_at blobs id

-- the blobs with these bytes under that number, in place of those that were there
abbrev pub put_blob : Blobs → ℕ → List ℕ → Blobs
put_blob blobs id bytes = put blob_key (id, bytes) blobs

-- the same where they are stored
abbrev pub with_blob : Blobs → Option ℕ → List ℕ → Blobs
with_blob blobs None bytes = blobs
with_blob blobs (Some id) bytes = put_blob blobs id bytes
