-- The tables with other versions, uploads and chunks are sound.
use Rattle.std.proofs.Common.{Bool, ℕ, ◌≤◌, not, List, [], ◌∷◌, length, refl, arith, le_refl}
use Rattle.std.specs.Prelude.{bytes_eq}
use Rattle.std.specs.List.{All}
use Rattle.std.proofs.lemmas.List.Elements.{All-filter, All-weaker}
use Rattle.std.proofs.lemmas.List.Filters.{sum_by-filter_both}
use Rattle.nf_base.specs.declared.limits.TheConstants.{MAX_STORED_PIECES, MAX_VERSIONS}
use Rattle.nf_base.specs.declared.rows.MountRow.{MountRow}
use Rattle.nf_base.specs.declared.rows.NodeRow.{NodeRow}
use Rattle.nf_base.specs.declared.rows.Place.{Place}
use Rattle.nf_base.specs.declared.rows.Place.TheVariants.{Inside, Root, Trash}
use Rattle.nf_base.specs.declared.rows.ShareRow.{ShareRow}
use Rattle.nf_base.specs.declared.rows.ChunkRow.{ChunkRow}
use Rattle.nf_base.specs.declared.rows.UploadRow.{UploadRow}
use Rattle.nf_base.specs.declared.rows.VersionRow.{VersionRow}
use Rattle.nf_defs.proofs.Puts.{all_put, dropped_length, dropped_rising, put_length, put_rising}
use Rattle.nf_defs.specs.Prelude.{dropped, IsRising, put, Tables, version_key}
use Rattle.nf_laws.proofs.Others.{items_still, kind_still, others_from, trash_kept}
use Rattle.nf_laws.proofs.Rows.{kept_row, node_still}
use Rattle.nf_laws.proofs.Sums.{put_sum}
use Rattle.nf_laws.proofs.Uploads.{AreUploadsSound, uploads_kept}
use Rattle.nf_words.proofs.Fits.{KnownVersion}
use Rattle.nf_words.specs.Others.{IsMountSound, IsShareSound, IsVersionSound}
use Rattle.nf_words.specs.Prelude.{AreSound, forgotten, HasRoot, IsNodeSound, IsPlaceSound, stored_pieces}

-- ---- whatever they are

module _ (t : Tables) (versions : List VersionRow) (uploads : List UploadRow) (chunks : List ChunkRow) where
  abbrev pub turned : Tables
  turned = record t { versions = versions; uploads = uploads; chunks = chunks }

  mount_turned : (mount : MountRow) → IsMountSound t mount → IsMountSound turned mount
  mount_turned mount fine = record { user = fine.user; node = fine.node; others = fine.others; free = fine.free }

  share_turned : (share : ShareRow) → IsShareSound t share → IsShareSound turned share
  share_turned share fine = record {
    some = fine.some;
    given = fine.given;
    made = fine.made;
    node = fine.node;
    owner = fine.owner;
    initiator = fine.initiator;
    kind = kind_still t turned refl refl share.kind fine.kind;
    chained = fine.chained;
    parent = fine.parent;
    present = fine.present;
    of_node = fine.of_node;
  }

  place_turned : (row : NodeRow) (place : Place) → IsPlaceSound t row place → IsPlaceSound turned row place
  place_turned row Root fine = fine
  place_turned row (Inside folder) fine = fine
  place_turned row Trash fine = fine

  node_turned : (row : NodeRow) → IsNodeSound t row → IsNodeSound turned row
  node_turned row fine =
      node_still t turned row row.place row.name (le_refl _) (le_refl _) (le_refl _) fine (place_turned row row.place fine.place)
      (record { steps = fine.steps; shallow = fine.shallow; top = fine.top; climbs = fine.climbs; ends = fine.ends })

  pub turned_sound : AreSound t → All (IsVersionSound t) versions → IsRising version_key versions → length versions ≤ MAX_VERSIONS
      → AreUploadsSound turned → stored_pieces turned ≤ MAX_STORED_PIECES → AreSound turned
  turned_sound sound fine rise few sent pieces = record {
    counters = sound.counters;
    rising = sound.rising;
    nodes = All-weaker (IsNodeSound t) (IsNodeSound turned) node_turned t.nodes sound.nodes;
    names = sound.names;
    roots = All-weaker (HasRoot t) (HasRoot turned)
        (λ user root. record { row = root.row; there = root.there; place = root.place; folder = root.folder; owner = root.owner; name = root.name })
        t.users sound.roots;
    users_given = sound.users_given;
    members_there = sound.members_there;
    groups_given = sound.groups_given;
    few_nodes = sound.few_nodes;
    few_pieces = pieces;
    others = others_from turned sent (All-weaker (IsShareSound t) (IsShareSound turned) share_turned t.shares sound.others.shares)
        sound.others.shares_rise sound.others.few_shares
        (All-weaker (IsMountSound t) (IsMountSound turned) mount_turned t.mounts sound.others.mounts) sound.others.mounts_rise
        sound.others.mounts_apart sound.others.few_mounts
        (All-weaker (IsVersionSound t) (IsVersionSound turned)
        (λ row is.
        record {
          at = is.at;
          file = is.file;
          some = is.some;
          pieces = λ k d within. let s = is.pieces k d within in record { some = s.some; few = s.few; first = s.first; given = s.given };
        }) versions fine)
        rise few (items_still t turned (le_refl _) (trash_kept t.nodes t.nodes (kept_row t.nodes)) sound.others.items) sound.others.items_rise;
  }

-- ---- a version that goes

pub forgotten_sound : (t : Tables) (node at : ℕ) → AreSound t → AreSound (forgotten t node at)
forgotten_sound t node at sound =
    let others : VersionRow → Bool = λ row. not (bytes_eq (node ∷ at ∷ []) (version_key row)) in
    let versions = dropped version_key (node ∷ at ∷ []) t.versions in
    turned_sound t versions t.uploads t.chunks sound (All-filter others (IsVersionSound t) t.versions sound.others.versions)
    (dropped_rising version_key (node ∷ at ∷ []) t.versions sound.others.versions_rise)
    (omega (arith, sound.others.few_versions, dropped_length version_key (node ∷ at ∷ []) t.versions))
    (uploads_kept t (forgotten t node at) refl refl refl refl sound)
    (omega (
      arith,
      sound.few_pieces,
      sum_by-filter_both others (λ row. not (others row)) (λ row. refl) (λ row. length row.content) t.versions,
    ))

-- ---- a version that is put

pub version_sound : (first t : Tables) (row : VersionRow) → AreSound t → row.at ≤ t.meta.last → KnownVersion first t row
    → AreSound (record t { versions = put version_key row t.versions })
version_sound first t row sound at known =
    let is = known.version in
    turned_sound t (put version_key row t.versions) t.uploads t.chunks sound
    (all_put version_key (IsVersionSound t) row t.versions (record { at = at; file = is.file; some = is.some; pieces = is.pieces }) sound.others.versions)
    (put_rising version_key row t.versions sound.others.versions_rise)
    (omega (arith, is.few, put_length version_key row t.versions))
    (uploads_kept t (record t { versions = put version_key row t.versions }) refl refl refl refl sound)
    (omega (arith, is.few_pieces, put_sum version_key (λ (one : VersionRow). length one.content) row t.versions))
