-- How many rows an act adds, and how many fit.
use Rattle.std.specs.Prelude.{ℕ, ◌+◌, ◌≤◌, length}
use Rattle.nf_defs.specs.Tables.{Tables}
use Rattle.nf_people.specs.People.{Room}
use Rattle.nf_people.specs.declared.people.PeopleCounts.{PeopleCounts}
use Rattle.nf_state.specs.declared.counts.RowCounts.{RowCounts}

-- so many nodes, and nothing else
abbrev pub only_nodes : ℕ → RowCounts
only_nodes nodes = record { users = 0; tokens = 0; groups = 0; members = 0; nodes = nodes; shares = 0; mounts = 0; versions = 0; items = 0; uploads = 0; chunks = 0 }

-- those of people alone
abbrev pub people_of : RowCounts → PeopleCounts
people_of counts = record { users = counts.users; tokens = counts.tokens; groups = counts.groups; members = counts.members }

-- so many nodes more fit where there is room for that many in all
abbrev pub FitsNodes : Tables → ℕ → ℕ → Type 0
FitsNodes t room count = length t.nodes + count ≤ room

-- so many rows more fit
pub record FitsRows (t : Tables) (room added : RowCounts) : Type 0 where
  pub users : length t.users + added.users ≤ room.users
  pub tokens : length t.tokens + added.tokens ≤ room.tokens
  pub groups : length t.groups + added.groups ≤ room.groups
  pub members : length t.members + added.members ≤ room.members
  pub nodes : FitsNodes t room.nodes added.nodes
  pub shares : length t.shares + added.shares ≤ room.shares
  pub mounts : length t.mounts + added.mounts ≤ room.mounts
  pub versions : length t.versions + added.versions ≤ room.versions
  pub items : length t.items + added.items ≤ room.items
  pub uploads : length t.uploads + added.uploads ≤ room.uploads
  pub chunks : length t.chunks + added.chunks ≤ room.chunks

-- as many people fit as before, or more
pub record IsNoNarrower (old new : Room) : Type 0 where
  pub users : old.users ≤ new.users
  pub tokens : old.tokens ≤ new.tokens
  pub groups : old.groups ≤ new.groups
  pub members : old.members ≤ new.members

-- as many rows
pub record IsNoSmaller (old new : RowCounts) : Type 0 where
  pub users : old.users ≤ new.users
  pub tokens : old.tokens ≤ new.tokens
  pub groups : old.groups ≤ new.groups
  pub members : old.members ≤ new.members
  pub nodes : old.nodes ≤ new.nodes
  pub shares : old.shares ≤ new.shares
  pub mounts : old.mounts ≤ new.mounts
  pub versions : old.versions ≤ new.versions
  pub items : old.items ≤ new.items
  pub uploads : old.uploads ≤ new.uploads
  pub chunks : old.chunks ≤ new.chunks
