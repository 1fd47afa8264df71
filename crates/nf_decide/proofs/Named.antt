-- What is moved or copied has a name to be put under, and so has a mount that is renamed: only an empty path has none, and that leads to what
-- the caller's paths lead from, which is in no folder that the caller sees.
use Rattle.std.proofs.Common.{ℕ, ◌≡◌, ◌≢◌, ◌&&◌, ◌==◌, not, Bool, true, false, List, [], Option, None, Some, IsSome, IfSome, option_map, if◌then◌else◌, eq-eqb, refl, ap, ◌∙◌}
use Rattle.std.specs.Option.{option_and_then, option_map_or}
use Rattle.nf_base.specs.declared.rows.NodeRow.{NodeRow}
use Rattle.nf_defs.specs.declared.Found.TheVariants.{At}
use Rattle.nf_defs.specs.declared.Seeker.{Seeker}
use Rattle.nf_defs.specs.declared.Seeker.TheVariants as seeker
use Rattle.nf_words.specs.Calls.{mount_for}
use Rattle.nf_words.specs.Places.{folder_at, folder_in}
use Rattle.nf_words.specs.Prelude.{access_of, asked_of, Call, is_mount_asked, is_off_mount, is_root_at, misplaced_by, node_at, node_found, place_at, places_by, root_of, seeker_of, target_rule, transfer_between, transfer_by, transfer_of, unfit, unfit_between, way_by, way_of, Ways, ways_for}
use Rattle.nf_words.specs.declared.answer.TargetFault.{TargetFault}
use Rattle.nf_words.specs.declared.answer.TargetFault.TheVariants as fault
use Rattle.nf_words.specs.declared.request.ShareAsk.TheVariants as ask
use Rattle.nf_words.specs.declared.request.Spot.{Spot}
use Rattle.nf_words.specs.declared.request.Transfer.{Transfer}
use Rattle.nf_words.specs.declared.request.TrashAsk.TheVariants as trash
use Rattle.nf_words.specs.declared.request.UploadAsk.TheVariants as upload
use Rattle.nf_words.specs.declared.request.VersionAsk.TheVariants as version
use Rattle.nf_words.specs.declared.request.Wanted.{Wanted}
use Rattle.nf_words.specs.declared.request.Wanted.TheVariants.{Get, Put, Mkcol, Delete, Move, Copy, Share, People, Trash, Version, Upload}
use Rattle.nf_words.proofs.Passing.{no_fault}
use Rattle.nf_decide.specs.Deciding.{IsNamed}

module _ (call : Call) where
  abbrev rows : List NodeRow
  rows = call.state.tables.nodes

  abbrev root : ℕ
  root = root_of call

  -- an empty path ends where the paths lead from, and that is in no folder
  unseen : (if root == root then None else folder_at rows (At root)) ≡ None
  unseen = ap (λ (b : Bool). if b then None else folder_at rows (At root)) (eq-eqb root root refl)

  start_in_none : (who : Seeker) → folder_in rows root (way_by rows who root [] (mount_for rows call.state.tables.mounts who root [])) ≡ None
  start_in_none (seeker.User user) = unseen
  start_in_none (seeker.Link share) = unseen

  empty_in_none : (spot : Spot) → spot.path ≡ [] → folder_in rows root (way_of call spot) ≡ None
  empty_in_none spot empty =
      ap (λ (names : List (List ℕ)). folder_in rows root (way_by rows (seeker_of call) root names (mount_for rows call.state.tables.mounts (seeker_of call) root names))) empty
      ∙ start_in_none (seeker_of call)

  named_between : (source target : Spot) (renames : Bool)
      → unfit_between rows root renames (record { source = Some (way_of call source); target = Some (way_of call target) }) ≡ None
      → target.path ≢ []
  named_between source target renames fits empty = here (not renames && is_root_at rows root (Some (way_of call source))) fits
    where
      ways : Ways
      ways = record { source = Some (way_of call source); target = Some (way_of call target) }

      judged : Option Transfer → Option TargetFault
      judged transfer = option_map_or (misplaced_by rows (is_off_mount root renames (way_of call target))) transfer (Some fault.Root)

      nowhere : (node : Option ℕ) → option_and_then (λ node. transfer_by rows root node (way_of call target)) node ≡ None
      nowhere None = refl
      nowhere (Some node) =
          ap (λ (folder : Option ℕ). option_map (put_there node) folder) (empty_in_none target empty)
        where
          put_there : ℕ → ℕ → Transfer
          put_there node folder = record { node = node; folder = folder; replaced = node_found (way_of call target).place }

      here : (b : Bool) → (if b then Some fault.Root else judged (transfer_between rows root ways)) ≡ None → ⊥
      here true fits = absurd (cc)
      here false fits = absurd (let h = rw (nowhere (node_at (place_at ways.source))) at fits in cc)

  moved_named : (wanted : Wanted) → unfit rows root (asked_of wanted) (ways_for call (asked_of wanted)) ≡ None
      → IsSome (transfer_of rows (places_by (asked_of wanted) (ways_for call (asked_of wanted))))
      → IfSome (asked_of wanted).target (λ spot. spot.path ≢ [])
  moved_named (Get spot) fits some = tt
  moved_named (Put spot length) fits some = absurd (cc some)
  moved_named (Mkcol spot) fits some = absurd (cc some)
  moved_named (Delete spot) fits some = tt
  moved_named (Share (ask.New spot to perms until)) fits some = tt
  moved_named (Share (ask.List spot with_me)) fits some = tt
  moved_named (Share (ask.Show share)) fits some = tt
  moved_named (Share (ask.Set share perms until)) fits some = tt
  moved_named (Share (ask.End share)) fits some = tt
  moved_named (People ask) fits some = tt
  moved_named (Trash (trash.List user)) fits some = tt
  moved_named (Trash (trash.Drop user item)) fits some = tt
  moved_named (Trash (trash.Empty user)) fits some = tt
  moved_named (Trash (trash.Restore user item)) fits some = tt
  moved_named (Version (version.List user node)) fits some = tt
  moved_named (Version (version.Get user node at)) fits some = tt
  moved_named (Version (version.Restore user node at)) fits some = tt
  moved_named (Upload (upload.New user dir to)) fits some = tt
  moved_named (Upload (upload.Chunk user dir name to length)) fits some = tt
  moved_named (Upload (upload.Drop user dir)) fits some = tt
  moved_named (Upload (upload.Join dir spot total)) fits some = absurd (cc some)
  moved_named (Copy source target overwrite) fits some = named_between source target false fits
  moved_named (Move source target overwrite) fits some = named_between source target (way_of call source).itself fits

  renamed_named : (wanted : Wanted) → unfit rows root (asked_of wanted) (ways_for call (asked_of wanted)) ≡ None
      → is_mount_asked (asked_of wanted) (ways_for call (asked_of wanted)).source ≡ true
      → IfSome (asked_of wanted).target (λ spot. spot.path ≢ [])
  renamed_named (Get spot) fits renames = tt
  renamed_named (Put spot length) fits renames = absurd (cc renames)
  renamed_named (Mkcol spot) fits renames = absurd (cc renames)
  renamed_named (Delete spot) fits renames = tt
  renamed_named (Share (ask.New spot to perms until)) fits renames = tt
  renamed_named (Share (ask.List spot with_me)) fits renames = tt
  renamed_named (Share (ask.Show share)) fits renames = tt
  renamed_named (Share (ask.Set share perms until)) fits renames = tt
  renamed_named (Share (ask.End share)) fits renames = tt
  renamed_named (People ask) fits renames = tt
  renamed_named (Trash (trash.List user)) fits renames = tt
  renamed_named (Trash (trash.Drop user item)) fits renames = tt
  renamed_named (Trash (trash.Empty user)) fits renames = tt
  renamed_named (Trash (trash.Restore user item)) fits renames = tt
  renamed_named (Version (version.List user node)) fits renames = tt
  renamed_named (Version (version.Get user node at)) fits renames = tt
  renamed_named (Version (version.Restore user node at)) fits renames = tt
  renamed_named (Upload (upload.New user dir to)) fits renames = tt
  renamed_named (Upload (upload.Chunk user dir name to length)) fits renames = tt
  renamed_named (Upload (upload.Drop user dir)) fits renames = tt
  renamed_named (Upload (upload.Join dir spot total)) fits renames = absurd (cc renames)
  renamed_named (Copy source target overwrite) fits renames = named_between source target false fits
  renamed_named (Move source target overwrite) fits renames = named_between source target (way_of call source).itself fits

pub named : (call : Call) → target_rule (access_of call.state) call ≡ None → IsNamed call
unfolding target_rule
named call fits = record {
  moved = moved_named call call.request.wanted (no_fault _ fits);
  renamed = renamed_named call call.request.wanted (no_fault _ fits);
}
