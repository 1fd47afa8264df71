-- What contents and rows keep.
use Rattle.std.specs.Prelude.{◌≡◌, ◌≤◌, List, [], length, All}
use Rattle.nf_base.specs.declared.limits.TheConstants.{MAX_BODY, MAX_PIECES}
use Rattle.nf_base.specs.declared.content.Piece.{Piece}
use Rattle.nf_base.specs.declared.rows.NodeKind.{NodeKind}
use Rattle.nf_base.specs.declared.rows.NodeKind.TheVariants.{Folder}

-- a piece has a byte, and at most as many as a body
pub record IsSized (piece : Piece) : Type 0 where
  pub some : 1 ≤ piece.size
  pub few : piece.size ≤ MAX_BODY

-- at most `MAX_PIECES` pieces
pub record IsContent (pieces : List Piece) : Type 0 where
  pub few : length pieces ≤ MAX_PIECES
  pub sized : All IsSized pieces

-- a folder has no piece
abbrev pub IsPlain : NodeKind → List Piece → Type 0
IsPlain kind pieces = kind ≡ Folder → pieces ≡ []
