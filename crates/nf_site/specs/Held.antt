-- A site with its reserved room, of which "as before" doesn't speak.
use Rattle.std.specs.Prelude.{ℕ, ◌+◌, ◌≤◌, length, Result, Ok, Err}
use Rattle.nf_base.specs.declared.limits.TheConstants.{MAX_ENTRIES}
use Rattle.nf_defs.specs.Tables.{Tables}
use Rattle.nf_words.specs.declared.answer.Allowed.{Allowed}
use Rattle.nf_words.specs.declared.answer.Denial.{Denial}
use Rattle.nf_words.specs.declared.history.Event.{Event}
use Rattle.nf_words.specs.declared.history.Event.TheVariants.{Begin, End, Sweep}
use Rattle.nf_state.specs.Counts.{FitsRows, only_nodes}
use Rattle.nf_state.specs.Current.{FitsTicket, Room, added_by}
use Rattle.nf_state.specs.declared.counts.RowCounts.{RowCounts}
use Rattle.nf_site.specs.Kept.{Kept}

-- what is kept, how many entries fit without more memory, and the room of the state
pub record Held : Type 0 where
  pub kept : Kept
  pub entries : ℕ
  pub room : Room

-- the entries so far, the Ends of all tickets, and a Begin with its End
abbrev pub entries_wanted : Kept → ℕ
entries_wanted k = length k.history + length k.state.tickets + 2

-- a Begin or a sweep fits, in the run and in memory
pub record HasRoom (site : Held) : Type 0 where
  pub run : entries_wanted site.kept ≤ MAX_ENTRIES
  pub entries : entries_wanted site.kept ≤ site.entries
  pub tickets : FitsTicket site.kept.state site.room

-- the event's entry and ticket fit, whatever becomes of its step: a Begin or a sweep has its room, an End the room that its ticket keeps
abbrev pub HasEntryRoom : Held → Event → Type 0
HasEntryRoom site (Begin words request) = HasRoom site
HasEntryRoom site (End outcome) = Unit {0}
HasEntryRoom site Sweep = HasRoom site

-- how many rows a decision adds at most
abbrev pub added_in : Tables → Result Allowed Denial → RowCounts
added_in t (Ok act) = added_by t act
added_in t (Err refusal) = only_nodes 0

-- they fit
abbrev pub FitsDecision : Held → Result Allowed Denial → Type 0
FitsDecision site decision = FitsRows site.kept.state.tables site.room.rows (added_in site.kept.state.tables decision)
