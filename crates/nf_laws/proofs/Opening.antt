-- Blobs are whole for the rows that a run is opened with, but for damage.
use Rattle.std.proofs.Common.{ℕ, ◌==◌, ◌≡◌, ◌⊎◌, Bool, true, false, bytes_eq, List, length, get_or, refl, sym, ap, ◌∙◌, inl, inr}
use Rattle.std.specs.Prelude.{None, Option, Some}
use Rattle.std.specs.Bool.{Decides}
use Rattle.std.specs.List.{All, Contains}
use Rattle.std.proofs.lemmas.Bool.{both_ways, eq-eqb, eqb-true}
use Rattle.std.proofs.lemmas.List.Elements.{All-contains_itself, All-nil, All-weaker}
use Rattle.std.proofs.lemmas.Option.{none-some, same_Some}
use Rattle.std.proofs.lemmas.Slice.Eq.{bytes_eq-Decides}
use Rattle.sha2.specs.Sha256.{sha256}
use Rattle.nf_base.specs.declared.content.Piece.{Piece}
use Rattle.nf_base.specs.declared.rows.Row.{Row}
use Rattle.nf_defs.specs.Prelude.{blob_at, Blobs}
use Rattle.nf_laws.proofs.Contents.{given_have}
use Rattle.nf_laws.specs.Wholes.{IsGoalHeld, IsHeld, IsNamed, IsThere, IsWhole, OpensWhole}
use Rattle.nf_words.specs.Prelude.{contents_of, row_content, State}
use Rattle.nf_words.specs.declared.answer.Goal.{Goal}
use Rattle.nf_words.specs.declared.answer.Goal.TheVariants.{Chunk, Serve, Store}
use Rattle.nf_words.specs.declared.history.Ticket.{Ticket}

-- a piece's bytes are there or they aren't
pub there_or_not : (blobs : Blobs) (piece : Piece) → IsThere blobs piece ⊎ (IsThere blobs piece → ⊥)
there_or_not blobs piece = found (blob_at blobs piece.blob) refl
  where
    found : (o : Option (List ℕ)) → blob_at blobs piece.blob ≡ o → IsThere blobs piece ⊎ (IsThere blobs piece → ⊥)
    found None e = inr (λ is. none-some is.bytes (sym e ∙ is.there))
    found (Some bytes) e = both (length bytes == piece.size) (bytes_eq (sha256 bytes) piece.digest) refl refl
      where
        same : (is : IsThere blobs piece) → bytes ≡ is.bytes
        same is = same_Some bytes is.bytes (sym e ∙ is.there)

        decides : Decides (bytes_eq (sha256 bytes) piece.digest) (sha256 bytes ≡ piece.digest)
        decides = bytes_eq-Decides (sha256 bytes) piece.digest

        both : (a b : Bool) → (length bytes == piece.size) ≡ a → bytes_eq (sha256 bytes) piece.digest ≡ b
            → IsThere blobs piece ⊎ (IsThere blobs piece → ⊥)
        both true true size digest =
            inl (record { bytes = bytes; there = e; size = eqb-true (length bytes) piece.size size; digest = decides.0 digest })
        both true false size digest =
            inr (λ is. both_ways (bytes_eq (sha256 bytes) piece.digest) digest (decides.1 (ap sha256 (same is) ∙ is.digest)))
        both false b size digest =
            inr (λ is. both_ways (length bytes == piece.size) size (eq-eqb (length bytes) piece.size (ap length (same is) ∙ is.size)))

-- so one that the rows name is there or damaged
named_held : (rows : List Row) (blobs : Blobs) (piece : Piece) → IsNamed rows piece → IsHeld rows blobs blobs piece
named_held rows blobs piece named =
    elim (there_or_not blobs piece) [
      | inl there ↦ inl there
      | inr broken ↦ inr (record { named = named; broken = broken })
    ]

-- blobs that are whole, but for what was damaged at the start, are so but for what is damaged now
held_now : (rows : List Row) (start blobs : Blobs) (piece : Piece) → IsHeld rows start blobs piece → IsHeld rows blobs blobs piece
held_now rows start blobs piece (inl there) = inl there
held_now rows start blobs piece (inr damaged) = named_held rows blobs piece damaged.named

goal_now : (rows : List Row) (start blobs : Blobs) (goal : Goal) → IsGoalHeld rows start blobs goal → IsGoalHeld rows blobs blobs goal
goal_now rows start blobs (Serve content) held = λ k d within. held_now rows start blobs (get_or content k d) (held k d within)
goal_now rows start blobs (Store by key length) held = tt
goal_now rows start blobs (Chunk user dir number length) held = tt

pub whole_now : (rows : List Row) (start : Blobs) (s : State) (blobs : Blobs) → IsWhole rows start s blobs → IsWhole rows blobs s blobs
whole_now rows start s blobs whole = record {
  rows = λ k d within i e inside.
      held_now rows start blobs (get_or (get_or (contents_of s.tables) k d) i e) (whole.rows k d within i e inside);
  tickets = λ k d within. goal_now rows start blobs (get_or s.tickets k d).goal (whole.tickets k d within);
}

-- so all that they name is
rows_held : (rows : List Row) (blobs : Blobs) (row : Row) → Contains rows row → All (IsHeld rows blobs blobs) (row_content row)
rows_held rows blobs row among =
    All-weaker (Contains (row_content row)) (IsHeld rows blobs blobs)
    (λ piece named. named_held rows blobs piece (record { row = row; among = among; named = named }))
    (row_content row) (All-contains_itself (row_content row))

pub opens_whole : OpensWhole
opens_whole rows blobs = record {
  rows = given_have (All (IsHeld rows blobs blobs)) rows
      (All-weaker (Contains rows) (λ (row : Row). All (IsHeld rows blobs blobs) (row_content row)) (rows_held rows blobs) rows
      (All-contains_itself rows));
  tickets = All-nil (λ (ticket : Ticket). IsGoalHeld rows blobs blobs ticket.goal);
}
