-- What holds of the needs at each place holds of all that a request needs.
use Rattle.std.proofs.Common.{Bool, true, false, [], ◌++◌, Option, None, Some, option_map, if◌then◌else◌}
use Rattle.std.specs.Prelude.{is_some}
use Rattle.std.specs.List.{All}
use Rattle.std.specs.Option.{option_map_or}
use Rattle.std.proofs.lemmas.List.Elements.{All-append, All-nil}
use Rattle.nf_base.specs.declared.perms.Act.{Act}
use Rattle.nf_base.specs.declared.perms.Act.TheVariants.{Delete, Share, Update}
use Rattle.nf_words.specs.Needed.{source_act, source_needs, target_needs}
use Rattle.nf_words.specs.Prelude.{asked_by, Call, is_mount_asked, is_within, Need, needed, needs_at, needs_in, root_of, Way, way_of}
use Rattle.nf_words.specs.declared.request.Making.{Making}
use Rattle.nf_words.specs.declared.request.Making.TheVariants as making
use Rattle.nf_words.specs.declared.request.Spot.{Spot}

module _ (call : Call) (P : Need → Type 0) (at : (spot : Spot) (act : Act) → All P (needs_at act (way_of call spot)))
    (within : (spot : Spot) → All P (needs_in call.state.tables.nodes (root_of call) (way_of call spot))) where
  -- a file is updated, or created in its folder
  put_each : (spot : Spot) (there : Bool)
      → All P (if there then needs_at Update (way_of call spot) else needs_in call.state.tables.nodes (root_of call) (way_of call spot))
  put_each spot true = at spot Update
  put_each spot false = within spot

  target_each : (spot : Spot) (makes : Making) (inside : Bool)
      → All P (target_needs makes call.state.tables.nodes (root_of call) inside (way_of call spot))
  target_each spot making.Nothing inside = All-nil P
  target_each spot (making.File length) inside = put_each spot (is_some _)
  target_each spot making.Folder inside = within spot
  target_each spot making.Moved inside = here inside
    where
      here : (b : Bool)
          → All P ((if b then [] else needs_in call.state.tables.nodes (root_of call) (way_of call spot)) ++ needs_at Delete (way_of call spot))
      here true = at spot Delete
      here false = All-append P _ (needs_at Delete (way_of call spot)) (within spot) (at spot Delete)
  target_each spot making.Copied inside = All-append P _ (needs_at Delete (way_of call spot)) (within spot) (at spot Delete)
  target_each spot making.Shared inside = All-nil P
  target_each spot making.Told inside = All-nil P
  target_each spot (making.Restored item) inside = All-nil P
  target_each spot (making.Sent node) inside = All-nil P
  target_each spot (making.Refilled node at) inside = All-nil P
  target_each spot making.Assembled inside = put_each spot (is_some _)

  source_each : (spot : Spot) (makes : Making) (removes inside : Bool) → All P (source_needs makes removes inside (way_of call spot))
  source_each spot making.Shared removes inside = at spot Share
  source_each spot making.Told removes inside = All-nil P
  source_each spot other removes inside = at spot (source_act removes inside)

  sources_each : (makes : Making) (removes inside : Bool) (source : Option Spot)
      → All P (option_map_or (source_needs makes removes inside) (option_map (way_of call) source) [])
  sources_each makes removes inside None = All-nil P
  sources_each makes removes inside (Some spot) = source_each spot makes removes inside

  targets_each : (makes : Making) (inside : Bool) (target : Option Spot)
      → All P (option_map_or (target_needs makes call.state.tables.nodes (root_of call) inside) (option_map (way_of call) target) [])
  targets_each makes inside None = All-nil P
  targets_each makes inside (Some spot) = target_each spot makes inside

  pub each_need : All P (needed call)
  each_need = here (is_mount_asked (asked_by call) source)
    where
      source : Option Way
      source = option_map (way_of call) (asked_by call).source

      target : Option Way
      target = option_map (way_of call) (asked_by call).target

      inside : Bool
      inside = is_within call.state.tables.nodes (root_of call) source target

      here : (b : Bool) → All P (if b then [] else option_map_or (source_needs (asked_by call).makes (asked_by call).removes inside) source []
          ++ option_map_or (target_needs (asked_by call).makes call.state.tables.nodes (root_of call) inside) target [])
      here true = All-nil P
      here false =
          All-append P _ _ (sources_each (asked_by call).makes (asked_by call).removes inside (asked_by call).source)
          (targets_each (asked_by call).makes inside (asked_by call).target)
