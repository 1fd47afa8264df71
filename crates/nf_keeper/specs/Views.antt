-- What a keeper is given and gives, as contracts see it.
use Rattle.std.specs.Prelude.{ℕ, List, Option, option_map, Vec}
use Rattle.std.specs.declared.alloc.Global.{Global}
use Rattle.nf_keeper.specs.declared.keeper.NewBlob.{NewBlob}
use Rattle.nf_keeper.specs.Keeping.{Stored}

abbrev pub stored_in : Option NewBlob → Option Stored
stored_in blob = option_map (λ blob. record { id = blob.id; bytes = blob.bytes.now }) blob

abbrev pub bytes_in : Option (Vec ℕ Global) → Option (List ℕ)
bytes_in bytes = option_map (λ bytes. bytes.items) bytes

-- a blob, as its number and its bytes
abbrev pub blob_in : Option (ℕ × List ℕ) → Option Stored
blob_in blob = option_map (λ blob. record { id = blob.0; bytes = blob.1 }) blob
