-- A store that has the rows of the state that a seat knew opens again, with the tables of that state.
use Rattle.std.proofs.Common.{◌≡◌, ℕ, ◌+◌, ◌≤◌, List, [], ◌∷◌, ◌++◌, length, refl, sym, ◌∙◌, subst, arith}
use Rattle.std.specs.List.{All, AllByRecursion}
use Rattle.std.proofs.lemmas.List.Elements.{All-cons, All-head, All-nil, All-tail}
use Rattle.std.proofs.lemmas.Option.{same_Some}
use Rattle.nf_base.specs.Kept.{IsContent, IsPlain, IsSized}
use Rattle.nf_base.specs.KeptRows.{IsKept}
use Rattle.nf_base.specs.declared.content.Piece.{Piece}
use Rattle.nf_base.specs.declared.limits.TheConstants.{MAX_PIECES}
use Rattle.nf_base.specs.declared.rows.NodeKind.{NodeKind}
use Rattle.nf_base.specs.declared.rows.NodeKind.TheVariants as kinds
use Rattle.nf_base.specs.declared.rows.Row.{Row}
use Rattle.nf_base.specs.declared.rows.Row.TheVariants as row
use Rattle.nf_defs.proofs.Tables.{tables_again}
use Rattle.nf_rows.specs.Spelling.{Fits, FitsContent, FitsPiece, most_pieces}
use Rattle.nf_rules.proofs.Ruled.{ruled_are_unbroken}
use Rattle.nf_rules.proofs.Stays.{stays_ruled}
use Rattle.nf_rules.proofs.Unbroken.{unbroken_are_ruled}
use Rattle.nf_rules.specs.Ruled.{AreRuled}
use Rattle.nf_rules.specs.Rules.{AreUnbroken}
use Rattle.nf_session.specs.Prelude.{state_of}
use Rattle.nf_words.specs.Prelude.{after, IsLegal, IsLegalFrom, IsSound, opened, State}
use Rattle.nf_words.specs.declared.history.Entry.{Entry}
use Rattle.filesd.specs.Next.{OpensBehindAnswers}
use Rattle.filesd.proofs.Whole.{opens_tables}

-- ---- what can be spelled is kept

sized : (pieces : List Piece) → AllByRecursion FitsPiece pieces → All IsSized pieces
sized [] fits = All-nil IsSized
sized (piece ∷ pieces) fits = All-cons IsSized piece pieces fits.0.sized (sized pieces fits.1)

content : (most : ℕ) (pieces : List Piece) → FitsContent most pieces → IsContent pieces
content most pieces fits = record { few = fits.few; sized = sized pieces fits.each }

none : (pieces : List Piece) → length pieces ≤ 0 → pieces ≡ []
none [] few = refl
none (piece ∷ pieces) few = absurd (omega (arith, few))

plain : (kind : NodeKind) (pieces : List Piece) → FitsContent (most_pieces kind) pieces → IsPlain kind pieces
plain kinds.Folder pieces fits = λ is. none pieces fits.within
plain kinds.File pieces fits = λ is. absurd (cc)

kept : (it : Row) → Fits it → IsKept it
kept (row.Node node) fits =
    let what : FitsContent (most_pieces node.kind) node.content = fits.body.1.1.1.0 in
    (content (most_pieces node.kind) node.content what, plain node.kind node.content what)
kept (row.Version version) fits = content MAX_PIECES version.content fits.body.0
kept (row.Chunk chunk) fits = (content 1 chunk.content fits.body.0, fits.body.0.within)
kept other fits = tt

all_kept : (rows : List Row) → All Fits rows → All IsKept rows
all_kept [] fits = All-nil IsKept
all_kept (it ∷ rows) fits = All-cons IsKept it rows (kept it (All-head Fits it rows fits)) (all_kept rows (All-tail Fits it rows fits))

-- ---- a front of a legal history

legal_front : (n : ℕ) (s : State) (es later : List Entry) → IsLegalFrom n s (es ++ later) → IsLegalFrom n s es
legal_front n s [] later legal = tt
legal_front n s (e ∷ es) later legal = (legal.0, legal_front (n + 1) (after s e) es later legal.1)

pub opens_behind : OpensBehindAnswers
opens_behind k b later it history unbroken fit rows front tells told =
    let first : AreRuled (opened b.opening).tables = unbroken_are_ruled b.opening
    (all_kept b.opening (subst (λ (all : List Row). All Fits all) (sym rows) fit)) (subst AreUnbroken (sym rows) unbroken) in
    let legal : IsLegal (opened b.opening) b.known = legal_front 0 (opened b.opening) b.known later
    (subst (λ (es : List Entry). IsLegal (opened b.opening) es) front
    (subst (λ (all : List Row). IsLegal (opened all) k.history) (sym rows) history.legal)) in
    let sound : IsSound (opened b.opening) =
    record {
      rows = first.ordered.sound;
      seen = omega arith;
      seats = λ i j d before within. absurd (omega arith);
      tickets = All-nil _;
      apart = λ i j d before within. absurd (omega arith);
    } in
    let ruled = stays_ruled 0 (opened b.opening) b.known first sound legal in
    opens_tables (state_of b).tables it (same_Some it.rows _ (sym told ∙ tells.are))
    (record {
      fit = tells.fit;
      unbroken = ruled_are_unbroken (state_of b).tables tells.fit ruled;
      same = tables_again (state_of b).tables ruled.ordered.rising;
    })
