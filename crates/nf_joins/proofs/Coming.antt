-- The bodies with which the chunks of an upload came, where each that was sent was brought by a turn.
use Rattle.std.proofs.Common.{◌≡◌, ℕ, ◌==◌, bytes_eq, true, List, [], ◌∷◌, inl, inr}
use Rattle.std.specs.List.{All}
use Rattle.std.proofs.lemmas.Bool.{and_parts, eqb-true}
use Rattle.std.proofs.lemmas.List.Elements.{All-head, All-tail}
use Rattle.std.proofs.lemmas.Slice.Eq.{bytes_eq-Decides}
use Rattle.nf_base.specs.declared.rows.ChunkRow.{ChunkRow}
use Rattle.nf_base.specs.declared.rows.Row.{Row}
use Rattle.nf_joins.proofs.Going.{were_sent}
use Rattle.nf_joins.specs.Bytes.{Brought, Came}
use Rattle.nf_joins.specs.Sent.{IsThere, WasSent}
use Rattle.nf_outside.specs.Lent.{Taken}
use Rattle.nf_session.specs.Prelude.{Book}
use Rattle.nf_words.specs.Prelude.{IsLegalFrom, IsSound, is_chunk_of, opened, replay}
use Rattle.nf_words.specs.declared.history.Entry.{Entry}

module _ {C : Type 0} (reads : C → Taken → C → Type 0) (opening : List Row) (reader : Book) (es : List Entry) (user : ℕ) (dir : List ℕ)
    (sound : IsSound (opened opening)) (legal : IsLegalFrom 0 (opened opening) es)
    (fresh : (row : ChunkRow) → row.user ≡ user → row.dir ≡ dir → IsThere (opened opening) row → ⊥)
    (brought : (row : ChunkRow) → row.user ≡ user → row.dir ≡ dir → (was : WasSent (opened opening) es row)
    → (body : List ℕ) × Brought reads reader was.front was.entry body) where
  -- a chunk of the upload that is there was sent
  was_sent : (row : ChunkRow) → row.user ≡ user → row.dir ≡ dir → IsThere (replay (opened opening) es) row → WasSent (opened opening) es row
  was_sent row users dirs there =
      elim (were_sent 0 (opened opening) es row sound legal there) [
        | inl stays ↦ absurd (fresh row users dirs (stays 0))
        | inr was ↦ was
      ]

  pub all_came : (rows : List ChunkRow) → All (IsThere (replay (opened opening) es)) rows → All (λ (row : ChunkRow). is_chunk_of user dir row ≡ true) rows
      → (bodies : List (List ℕ)) × Came reads opening reader es rows bodies
  all_came [] there own = ([], tt)
  all_came (row ∷ rows) there own =
      let both = and_parts (row.user == user) (bytes_eq row.dir dir) (All-head (λ (row : ChunkRow). is_chunk_of user dir row ≡ true) row rows own) in
      let users : row.user ≡ user = eqb-true row.user user both.0 in
      let dirs : row.dir ≡ dir = (bytes_eq-Decides row.dir dir).0 both.1 in
      let was = was_sent row users dirs (All-head (IsThere (replay (opened opening) es)) row rows there) in
      let one = brought row users dirs was in
      let rest = all_came rows (All-tail (IsThere (replay (opened opening) es)) row rows there)
      (All-tail (λ (row : ChunkRow). is_chunk_of user dir row ≡ true) row rows own) in
      (one.0 ∷ rest.0, (record { sent = was; brought = one.1 }, rest.1))
