-- What the End of a PUT goes by.
use Rattle.std.specs.Prelude.{ℕ, Option, None, option_and_then, if◌then◌else◌}
use Rattle.nf_access.specs.Access.{by_chains}
use Rattle.nf_reach.specs.Asking.{Asking}
use Rattle.nf_words.specs.Needed.{is_owner}
use Rattle.nf_words.specs.Reached.{unreached_by}
use Rattle.nf_words.specs.declared.answer.Denial.{Denial}

-- why who asks isn't reached by a mount, unless it owns the node
abbrev pub unreached_unless_owner : Asking → Option ℕ → ℕ → Option Denial
unreached_unless_owner a mount node =
    if is_owner a.base.nodes a.seeker node then None
    else option_and_then (unreached_by (by_chains a.base) a.base a.seeker a.moment) mount
