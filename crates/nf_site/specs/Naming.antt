-- What names a blob.
use Rattle.std.specs.Prelude.{◌⊎◌, ℕ, Contains}
use Rattle.nf_defs.specs.Tables.{rows_of}
use Rattle.nf_laws.specs.Named.{IsNamedBlob, goal_blobs}
use Rattle.nf_words.specs.Prelude.{State}
use Rattle.nf_words.specs.declared.history.Ticket.{Ticket}

-- the number is that of a blob that is to be sent
abbrev pub IsGrantedBlob : State → ℕ → Type 0
IsGrantedBlob s id = (ticket : Ticket) × (Contains s.tickets ticket × Contains (goal_blobs ticket.goal) id)

-- a row or a granted GET names the blob
abbrev pub NamesBlob : State → ℕ → Type 0
NamesBlob s id = IsNamedBlob (rows_of s.tables) id ⊎ IsGrantedBlob s id
