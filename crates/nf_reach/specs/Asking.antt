-- Who asks at a moment, with the rows that access goes by.
use Rattle.std.specs.Prelude.{ℕ, ◌&&◌, Bool, List, Option, None, option_and_then, option_map, if◌then◌else◌}
use Rattle.std.specs.Option.{option_or}
use Rattle.nf_access.specs.Access.{by_chains}
use Rattle.nf_access.specs.Shares.{Ground}
use Rattle.nf_base.specs.declared.rows.MountRow.{MountRow}
use Rattle.nf_defs.specs.declared.Seeker.{Seeker}
use Rattle.nf_defs.specs.declared.Seeker.TheVariants.{User, Link}
use Rattle.nf_words.specs.Needed.{Need}
use Rattle.nf_words.specs.Asked.{Asked}
use Rattle.nf_words.specs.Calls.{Way, Ways, mount_for, way_by}
use Rattle.nf_words.specs.Places.{source_lost, target_lost}
use Rattle.nf_words.specs.Reached.{first_refused, unreached_by}
use Rattle.nf_words.specs.declared.answer.Denial.{Denial}

-- a user or whoever knows a link, and what the paths lead from
pub record Asking : Type 0 where
  pub base : Ground
  pub mounts : List MountRow
  pub seeker : Seeker
  pub root : ℕ
  pub moment : ℕ

-- the number of the user who asks; by a link none does
abbrev pub user_in : Seeker → ℕ
user_in (User user) = user
user_in (Link share) = 0

-- where names lead, from the root or by a mount
abbrev pub way_for : Asking → List (List ℕ) → Way
way_for a names = way_by a.base.nodes a.seeker a.root names (mount_for a.base.nodes a.mounts a.seeker a.root names)

-- the ways of what is asked for
abbrev pub ways_in : Asking → Asked → Ways
ways_in a asked = record {
  source = option_map (λ spot. way_for a spot.path) asked.source;
  target = option_map (λ spot. way_for a spot.path) asked.target;
}

-- the refusal of the first act that is needed and that may not be done
abbrev pub refusal_for : Asking → List Need → Option Denial
refusal_for a needs = first_refused (by_chains a.base) a.base a.seeker a.moment needs

-- why who asks isn't reached by the mount that a way goes by, if it goes by one
abbrev pub unreached_for : Asking → Way → Option Denial
unreached_for a way = option_and_then (unreached_by (by_chains a.base) a.base a.seeker a.moment) way.mount

-- why what a way leads to can't be acted upon; a mount that is to be left or renamed itself isn't tested
abbrev pub source_refusal : Asking → Bool → Way → Option Denial
source_refusal a removes way = option_or (if removes && way.itself then None else unreached_for a way) (source_lost way.place)

-- why nothing can be made or stored at the end of a way
abbrev pub target_refusal : Asking → Way → Option Denial
target_refusal a way = option_or (unreached_for a way) (target_lost way.place)
