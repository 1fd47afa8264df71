-- What versions keep where the nodes are others: each is of a file that is there.
use Rattle.std.proofs.Common.{◌≡◌, ◌≤◌, ℕ, ◌==◌, Bool, true, false, not, List, Option, None, Some, get_or, if◌then◌else◌, refl, ap, ◌∙◌, arith}
use Rattle.std.specs.Prelude.{option_map}
use Rattle.std.specs.List.{All}
use Rattle.std.specs.Option.{option_map_or}
use Rattle.std.proofs.lemmas.List.Elements.{All-weaker}
use Rattle.nf_base.specs.declared.rows.NodeKind.{NodeKind}
use Rattle.nf_base.specs.declared.rows.NodeRow.{NodeRow}
use Rattle.nf_base.specs.declared.rows.VersionRow.{VersionRow}
use Rattle.nf_defs.specs.Prelude.{is_file, is_folder_kind, node_row, Tables, with_node}
use Rattle.nf_laws.proofs.OneRow.{KeepsId, row_with}
use Rattle.nf_laws.proofs.Rows.{AreKept}
use Rattle.nf_words.specs.Others.{IsVersionSound}
use Rattle.nf_words.specs.Prelude.{AreSound, IsPieceSound}

-- each version is of a file among some nodes
abbrev pub AreFiles : Tables → List NodeRow → Type 0
AreFiles t nodes = All (λ (version : VersionRow). is_file nodes version.node ≡ true) t.versions

pub all_files : (t : Tables) → AreSound t → AreFiles t t.nodes
all_files t sound k d within = (sound.others.versions k d within).file

-- versions that are of files stay sound
pub versions_still : (t made : Tables) (versions : List VersionRow) → t.meta.last ≤ made.meta.last → t.meta.next_blob ≤ made.meta.next_blob
    → All (IsVersionSound t) versions → All (λ (version : VersionRow). is_file made.nodes version.node ≡ true) versions → All (IsVersionSound made) versions
versions_still t made versions later up fine files k d within =
    let is = fine k d within in
    record {
      at = omega (arith, is.at, later);
      file = files k d within;
      some = is.some;
      pieces = All-weaker (IsPieceSound t) (IsPieceSound made)
          (λ piece s. record { some = s.some; few = s.few; first = s.first; given = omega (arith, s.given, up) }) (get_or versions k d).content is.pieces;
    }

abbrev is_file_row : NodeRow → Bool
is_file_row row = not (is_folder_kind row.kind)

-- a file has a row
pub file_row : (rows : List NodeRow) (node : ℕ) → is_file rows node ≡ true → (row : NodeRow) × (node_row rows node ≡ Some row) × (is_file_row row ≡ true)
file_row rows node is = here (node_row rows node) refl is
  where
    here : (o : Option NodeRow) → node_row rows node ≡ o → option_map_or is_file_row o false ≡ true
        → (row : NodeRow) × (node_row rows node ≡ Some row) × (is_file_row row ≡ true)
    here None e is = absurd (cc)
    here (Some row) e is = (row, e, is)

-- one that is kept is a file
pub file_kept : (rows others : List NodeRow) (node : ℕ) → AreKept rows others → is_file rows node ≡ true → is_file others node ≡ true
file_kept rows others node kept is =
    let old = file_row rows node is in
    let k = kept node old.0 old.1 in
    ap (λ (o : Option NodeRow). option_map_or is_file_row o false) k.there ∙ ap (λ (kind : NodeKind). not (is_folder_kind kind)) k.kind ∙ old.2

pub files_kept : (t : Tables) (nodes : List NodeRow) → AreSound t → AreKept t.nodes nodes → AreFiles t nodes
files_kept t nodes sound kept k d within = file_kept t.nodes nodes (get_or t.versions k d).node kept (all_files t sound k d within)

-- and so is one whose row is another of the same kind
pub file_with : (rows : List NodeRow) (node : ℕ) (change : NodeRow → NodeRow) → KeepsId change → ((row : NodeRow) → (change row).kind ≡ row.kind)
    → (other : ℕ) → is_file (with_node rows node change) other ≡ is_file rows other
file_with rows node change keeps kind other =
    ap (λ (o : Option NodeRow). option_map_or is_file_row o false) (row_with rows node change keeps other) ∙ here (other == node) (node_row rows other)
  where
    here : (b : Bool) (o : Option NodeRow) → option_map_or is_file_row (if b then option_map change o else o) false ≡ option_map_or is_file_row o false
    here true None = refl
    here true (Some row) = ap (λ (k : NodeKind). not (is_folder_kind k)) (kind row)
    here false o = refl

pub files_with : (t : Tables) (node : ℕ) (change : NodeRow → NodeRow) → AreSound t → KeepsId change → ((row : NodeRow) → (change row).kind ≡ row.kind)
    → AreFiles t (with_node t.nodes node change)
files_with t node change sound keeps kind k d within =
    file_with t.nodes node change keeps kind (get_or t.versions k d).node ∙ all_files t sound k d within
