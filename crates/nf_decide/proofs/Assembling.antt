-- What the chunks of an upload have together, and where that is stored: over a file, or under a name.
use Rattle.std.proofs.Common.{◌≡◌, ◌≢◌, ℕ, ◌≤◌, ◌==◌, ◌&&◌, Bool, true, false, List, [], ◌∷◌, bytes_eq, filter, if◌then◌else◌, sum_by, Option, refl, sym, ap, subst, ◌∙◌, arith}
use Rattle.std.specs.Prelude.{None, Some, option_and_then}
use Rattle.std.proofs.lemmas.List.Sums.{sum_by-cons}
use Rattle.nf_base.specs.declared.content.Piece.{Piece}
use Rattle.nf_base.specs.declared.rows.ChunkRow.{ChunkRow}
use Rattle.nf_defs.specs.Prelude.{is_folder, Tables}
use Rattle.nf_defs.specs.declared.Found.{Found}
use Rattle.nf_defs.specs.declared.Found.TheVariants.{At, Free}
use Rattle.nf_defs.specs.declared.Seeker.{Seeker}
use Rattle.nf_defs.specs.declared.Seeker.TheVariants as seeker
use Rattle.nf_uploads.proofs.Wholes.{sum_joined}
use Rattle.nf_words.proofs.Passing.{exists_passes}
use Rattle.nf_words.specs.Calls.{mount_for}
use Rattle.nf_words.specs.Prelude.{access_of, AreSound, asked_of, asker_of, assembled_excess, Call, chunks_of, content_size, excess_at, exists_rule, found, is_there, pending_of, places_by, places_of, root_of, seeker_of, taken, way_by, ways_for, whole_of}
use Rattle.nf_words.specs.declared.answer.Denial.{Denial}
use Rattle.nf_words.specs.declared.answer.Denial.TheVariants as denial
use Rattle.nf_words.specs.declared.answer.Excess.{Excess}
use Rattle.nf_words.specs.declared.limits.TheConstants.{MAX_PENDING}
use Rattle.nf_words.specs.declared.request.Places.{Places}
use Rattle.nf_words.specs.declared.request.Spot.{Spot}
use Rattle.nf_words.specs.declared.request.UploadAsk.{UploadAsk}
use Rattle.nf_words.specs.declared.request.UploadAsk.TheVariants as upload
use Rattle.nf_words.specs.declared.request.Wanted.{Wanted}
use Rattle.nf_words.specs.declared.request.Wanted.TheVariants as wanted
use Rattle.nf_words.specs.declared.route.Route.TheVariants.{Assembly}

-- ---- how much they have

abbrev size_of_chunk : ChunkRow → ℕ
size_of_chunk row = content_size row.content

-- no more than all chunks of the user
fewer : (rows : List ChunkRow) (user : ℕ) (dir : List ℕ) → sum_by size_of_chunk (chunks_of rows user dir) ≤ pending_of rows user
fewer [] user dir = omega arith
fewer (row ∷ rows) user dir = here (row.user == user) (bytes_eq row.dir dir) (fewer rows user dir)
  where
    own : List ChunkRow
    own = filter (λ (one : ChunkRow). one.user == user) rows

    here : (a b : Bool) → sum_by size_of_chunk (chunks_of rows user dir) ≤ sum_by size_of_chunk own
        → sum_by size_of_chunk (if a && b then row ∷ chunks_of rows user dir else chunks_of rows user dir)
        ≤ sum_by size_of_chunk (if a then row ∷ own else own)
    here true true rest = omega (arith, sum_by-cons size_of_chunk row (chunks_of rows user dir), sum_by-cons size_of_chunk row own)
    here true false rest = omega (arith, sum_by-cons size_of_chunk row own)
    here false b rest = rest

pub whole_pending : (t : Tables) (user : ℕ) (dir : List ℕ) → AreSound t → content_size (whole_of t.chunks user dir) ≤ MAX_PENDING
whole_pending t user dir sound =
    omega (
      arith,
      sum_joined (λ (piece : Piece). piece.size) (λ (row : ChunkRow). row.content) (chunks_of t.chunks user dir),
      fewer t.chunks user dir,
      sound.others.few_pending user,
    )

-- ---- where it is stored

-- an empty path leads to what is there already
free_named : (call : Call) (spot : Spot) (folder : ℕ) → found call spot ≡ Free folder → spot.path ≢ []
free_named call spot folder leads empty =
    start (seeker_of call)
    (sym (ap (λ (names : List (List ℕ)). end_of (seeker_of call) names) empty) ∙ leads)
  where
    end_of : Seeker → List (List ℕ) → Found
    end_of who names =
        (way_by call.state.tables.nodes who (root_of call) names
        (mount_for call.state.tables.nodes call.state.tables.mounts who (root_of call) names)).place

    start : (who : Seeker) → end_of who [] ≡ Free folder → ⊥
    start (seeker.User user) leads = cc
    start (seeker.Link share) leads = cc

-- where the chunks of an upload are put together
abbrev target_of : Call → Wanted → Option Found
target_of call asked = (places_by (asked_of asked) (ways_for call (asked_of asked))).target

module _ (call : Call) (dir : List ℕ) (spot : Spot) (total : Option ℕ) (asked : call.request.wanted ≡ wanted.Upload (upload.Join dir spot total)) where
  at_spot : (places_of call).target ≡ Some (found call spot)
  at_spot = ap (target_of call) asked

  pub name_given : (folder : ℕ) → (places_of call).target ≡ Some (Free folder) → spot.path ≢ []
  name_given folder leads = free_named call spot folder (let same = sym at_spot ∙ leads in cc)

  -- no folder is there
  pub not_over_folder : exists_rule (access_of call.state) call ≡ None → (node : ℕ) → (places_of call).target ≡ Some (At node)
      → is_folder call.state.tables.nodes node ≡ false
  not_over_folder passes node leads =
      here (is_folder call.state.tables.nodes node)
      (sym (ap at_place leads) ∙ sym assembles ∙ (exists_passes (access_of call.state) call passes).0)
    where
      at_place : Option Found → Option Denial
      at_place place = if is_there (is_folder call.state.tables.nodes) place then Some (denial.Exists Assembly) else None

      assembles : taken call.state.tables.nodes (places_of call) (asked_of call.request.wanted).makes ≡ at_place (places_of call).target
      assembles = ap (λ (w : Wanted). taken call.state.tables.nodes (places_of call) (asked_of w).makes) asked

      here : (b : Bool) → (if b then Some (denial.Exists Assembly) else None) ≡ None → b ≡ false
      here false none = refl
      here true none = absurd (cc)

-- ---- what is charged for it

-- what the chunks have together is charged at the target
pub excess_joined : (call : Call) (ask : UploadAsk) (dir : List ℕ) (spot : Spot) (total : Option ℕ) (places : Places) (sum : ℕ) (over : Option Excess)
    → call.request.wanted ≡ wanted.Upload ask → ask ≡ upload.Join dir spot total → places ≡ places_of call
    → sum ≡ content_size (whole_of call.state.tables.chunks (asker_of call) dir)
    → over ≡ option_and_then (excess_at call.state.tables sum) places.target → over ≡ assembled_excess call call.request.wanted
excess_joined call ask dir spot total places sum over asked joins leads size is =
    is
    ∙ ap (λ (n : ℕ). option_and_then (excess_at call.state.tables n) places.target) size
    ∙ ap (λ (all : Places). option_and_then (excess_at call.state.tables (content_size (whole_of call.state.tables.chunks (asker_of call) dir))) all.target) leads
    ∙ sym (ap (assembled_excess call) (asked ∙ ap wanted.Upload joins))
