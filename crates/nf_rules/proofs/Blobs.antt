-- The blobs of a content: their numbers were given.
use Rattle.std.proofs.Common.{◌≡◌, ℕ, false, not, List, [], ◌∷◌}
use Rattle.std.specs.List.{All}
use Rattle.std.proofs.lemmas.Bool.{not-false, not_from_true, or_parts}
use Rattle.std.proofs.lemmas.List.Elements.{All-cons, All-nil, All-weaker}
use Rattle.std.proofs.lemmas.List.Folds.{list_any_none}
use Rattle.nf_base.specs.declared.content.Piece.{Piece}
use Rattle.nf_defs.specs.Prelude.{Tables}
use Rattle.nf_words.specs.Prelude.{IsPieceSound}
use Rattle.nf_rules.specs.Ruled.{IsGiven}
use Rattle.nf_rules.specs.Rules.{has_ungiven_blob, is_given}
use Rattle.nf_rules.proofs.Shares.{given, is_given_from}

pub none_ungiven : (next : ℕ) (content : List Piece) → has_ungiven_blob next content ≡ false
    → All (λ (piece : Piece). IsGiven next piece.blob) content
none_ungiven next [] none = All-nil (λ (piece : Piece). IsGiven next piece.blob)
none_ungiven next (piece ∷ content) none =
    let parts = or_parts (not (is_given next piece.blob)) (has_ungiven_blob next content) none in
    All-cons (λ (piece : Piece). IsGiven next piece.blob) piece content
    (given next piece.blob (not-false (is_given next piece.blob) parts.0)) (none_ungiven next content parts.1)

pub blobs_given : (t : Tables) (content : List Piece) → All (IsPieceSound t) content → has_ungiven_blob t.meta.next_blob content ≡ false
blobs_given t content pieces =
    list_any_none (λ (piece : Piece). not (is_given t.meta.next_blob piece.blob)) content
    (All-weaker (IsPieceSound t) (λ (piece : Piece). not (is_given t.meta.next_blob piece.blob) ≡ false)
    (λ piece sound. not_from_true _ (is_given_from t.meta.next_blob piece.blob (record { first = sound.first; below = sound.given })))
    content pieces)
