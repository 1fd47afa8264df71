-- What is asked about versions: by whom it is seen, and by which mount it is judged.
use Rattle.std.proofs.Common.{◌≡◌, ℕ, ◌&&◌, ◌||◌, Bool, List, Option, ap, if◌then◌else◌}
use Rattle.std.specs.Prelude.{None, Some, is_some}
use Rattle.nf_access.specs.Access.{by_chains}
use Rattle.nf_base.specs.declared.perms.Act.{Act}
use Rattle.nf_defs.specs.Prelude.{is_rooted}
use Rattle.nf_reach.specs.Asking.{Asking, user_in}
use Rattle.nf_words.specs.Needed.{mount_by, Need, needs, version_needs}
use Rattle.nf_words.specs.Prelude.{access_of, act_asked, Call, is_owner, mount_above, node_asked, seeker_of, unversioned}
use Rattle.nf_words.specs.declared.answer.Denial.{Denial}
use Rattle.nf_words.specs.declared.answer.Denial.TheVariants.{NotFound}
use Rattle.nf_words.specs.declared.request.VersionAsk.{VersionAsk}
use Rattle.nf_decide.proofs.Askers.{user_asks}
use Rattle.nf_decide.specs.Deciding.{asking_of}

-- who asks owns the node, or has a mount at it or above it
abbrev pub is_seen : Asking → ℕ → Bool
is_seen a node = is_owner a.base.nodes a.seeker node || is_some (mount_above a.base.nodes a.mounts (user_in a.seeker) node)

-- the node is there and seen
abbrev pub unseen : Bool → Bool → Option Denial
unseen present seen = if present && seen then None else Some NotFound

pub unversioned_is : (call : Call) (ask : VersionAsk)
    → unseen (is_rooted call.state.tables.nodes (node_asked ask)) (is_seen (asking_of call) (node_asked ask)) ≡ unversioned call ask
unversioned_is call ask =
    ap (λ (user : ℕ).
    unseen (is_rooted call.state.tables.nodes (node_asked ask))
    (is_owner call.state.tables.nodes (seeker_of call) (node_asked ask)
    || is_some (mount_above call.state.tables.nodes call.state.tables.mounts user (node_asked ask)))) (user_asks call)

-- the act at a node, by the mount by which it is judged
abbrev pub judged : Asking → Act → ℕ → List Need
judged a act node =
    needs act (Some node) (mount_by (by_chains a.base) a.base.nodes a.mounts a.seeker (user_in a.seeker) a.moment act node)

pub judged_is : (call : Call) (ask : VersionAsk)
    → judged (asking_of call) (act_asked ask) (node_asked ask) ≡ version_needs (access_of call.state) call ask
judged_is call ask =
    ap (λ (user : ℕ).
    needs (act_asked ask) (Some (node_asked ask))
    (mount_by (access_of call.state) call.state.tables.nodes call.state.tables.mounts (seeker_of call) user call.now (act_asked ask)
    (node_asked ask))) (user_asks call)
