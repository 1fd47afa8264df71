-- The rules of access: what a path's mount reaches who asks by, and what may be done by it. What is told of a refusal.
use Rattle.std.specs.Prelude.{ℕ, ◌&&◌, ◌||◌, ◌++◌, is_none, is_some, not, Bool, false, find, List, Option, None, Some, option_map, option_and_then, if◌then◌else◌}
use Rattle.std.specs.List.{list_any}
use Rattle.std.specs.Option.{option_map_or, option_or}
use Rattle.nf_access.specs.Access.{is_open}
use Rattle.nf_access.specs.Broken.{broken_in, first_received}
use Rattle.nf_access.specs.Shares.{Ground, chain_of, ground_of, link_row}
use Rattle.nf_access.specs.declared.Cause.{Cause}
use Rattle.nf_base.specs.declared.perms.Act.{Act}
use Rattle.nf_base.specs.declared.rows.NodeRow.{NodeRow}
use Rattle.nf_base.specs.declared.rows.VersionRow.{VersionRow}
use Rattle.nf_defs.specs.Prelude.{Access, is_folder, is_rooted}
use Rattle.nf_defs.specs.declared.Seeker.{Seeker}
use Rattle.nf_words.specs.Calls.{Call, Way, asked_by, asker_of, seeker_of, way_of}
use Rattle.nf_words.specs.Needed.{Need, may_by, mount_above, needed, needed_for, is_owner, node_asked}
use Rattle.nf_words.specs.Places.{source_lost, target_lost}
use Rattle.nf_words.specs.State.{State}
use Rattle.nf_words.specs.declared.answer.Denial.{Denial}
use Rattle.nf_words.specs.declared.answer.Denial.TheVariants as denial
use Rattle.nf_words.specs.declared.request.Caller.{Caller}
use Rattle.nf_words.specs.declared.request.Caller.TheVariants.{Link}
use Rattle.nf_words.specs.declared.request.VersionAsk.{VersionAsk}
use Rattle.nf_words.specs.declared.request.VersionAsk.TheVariants as version
use Rattle.nf_words.specs.declared.request.Wanted.{Wanted}
use Rattle.nf_words.specs.declared.request.Wanted.TheVariants as wanted
use Rattle.nf_words.specs.Versions.{version_row}
use Rattle.nf_words.specs.Uploading.{unopened}

-- ---- what is told

abbrev pub told_broken : Option (ℕ × Cause) → Denial
told_broken None = denial.NoShare
told_broken (Some broken) = denial.BrokenLink broken.0 broken.1

-- why a seeker may not do an act by a mount, or isn't reached where none is asked: the first broken link of the first share that it receives
abbrev pub broken_by : Ground → Seeker → ℕ → Option Act → ℕ → Denial
broken_by g seeker now act mount =
    option_map_or (λ share. told_broken (broken_in g now act None (chain_of g.shares share.id))) (first_received g.members g.shares seeker mount)
    denial.NoShare

-- ---- the reach test

-- no grant on the mount's node is open
abbrev pub unreached_by : Access → Ground → Seeker → ℕ → ℕ → Option Denial
unreached_by access g seeker now mount =
    if list_any (is_open now) (access seeker mount) then None else Some (broken_by g seeker now None mount)

-- it is made where a path goes by a mount
abbrev pub unreached : Access → Call → Way → Option Denial
unreached access call way = option_and_then (unreached_by access (ground_of call.state.tables) (seeker_of call) call.now) way.mount

-- ---- what isn't there, or isn't reached

-- there is no link of that token
abbrev pub unlinked_by : State → Caller → Option Denial
unlinked_by s (Link token) = if is_some (link_row s.tables.shares token) then None else Some denial.NotFound
unlinked_by s other = None

abbrev pub unlinked : Call → Option Denial
unlinked call = unlinked_by call.state call.request.caller

-- the mount is tested before any further name; not where it is to be left or renamed itself
abbrev pub source_refused : Access → Call → Way → Option Denial
source_refused access call way =
    option_or (if (asked_by call).removes && way.itself then None else unreached access call way) (source_lost way.place)

abbrev pub target_refused : Access → Call → Way → Option Denial
target_refused access call way = option_or (unreached access call way) (target_lost way.place)

-- `no-share`, `broken-link`, `not-found` and `no-parent`: of the link, then of the source or the upload, then of the target
unfoldable pub place_rule : Access → Call → Option Denial
place_rule access call =
    let asked = asked_by call in
    option_or (unlinked call)
    (option_or (option_and_then (λ spot. source_refused access call (way_of call spot)) asked.source)
    (option_or (unopened call call.request.wanted)
    (option_and_then (λ spot. target_refused access call (way_of call spot)) asked.target)))

-- ---- the acts

-- who asks may not do it
abbrev pub is_refused : Access → List NodeRow → Seeker → ℕ → Need → Bool
is_refused access rows seeker now need = not (may_by access rows seeker now need.act need.node need.mount)

-- where no mount is on the way there is no share either
abbrev pub need_broken : Ground → Seeker → ℕ → Need → Denial
need_broken g seeker now need = option_map_or (broken_by g seeker now (Some need.act)) need.mount denial.NoShare

-- of the first act that is needed and may not be done
abbrev pub first_refused : Access → Ground → Seeker → ℕ → List Need → Option Denial
first_refused access g seeker now needs = option_map (need_broken g seeker now) (find (is_refused access g.nodes seeker now) needs)

-- `no-share` and `broken-link`
unfoldable pub acts_rule : Access → Call → Option Denial
acts_rule access call =
    first_refused access (ground_of call.state.tables) (seeker_of call) call.now
    (needed call ++ needed_for access call call.request.wanted)

-- ---- versions

-- `not-found`: the node isn't present, or the caller neither owns it nor has a mount at it or above it
abbrev pub unversioned : Call → VersionAsk → Option Denial
unversioned call ask =
    let t = call.state.tables in
    let node = node_asked ask in
    if is_rooted t.nodes node
    && (is_owner t.nodes (seeker_of call) node || is_some (mount_above t.nodes t.mounts (asker_of call) node))
    then None
    else Some denial.NotFound

-- the file hasn't the version that is asked about
abbrev pub lacks_version : List VersionRow → VersionAsk → Bool
lacks_version versions (version.List user node) = false
lacks_version versions (version.Get user node at) = is_none (version_row versions node at)
lacks_version versions (version.Restore user node at) = is_none (version_row versions node at)

abbrev pub version_lost : Call → Wanted → Option Denial
version_lost call (wanted.Version ask) =
    if is_folder call.state.tables.nodes (node_asked ask) then Some denial.Kind
    else if lacks_version call.state.tables.versions ask then Some denial.NotFound
    else None
version_lost call other = None

-- `kind` and `not-found`: a folder has no versions, or the file hasn't that one
unfoldable pub version_rule : Access → Call → Option Denial
version_rule access call = version_lost call call.request.wanted
