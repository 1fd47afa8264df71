-- What a site's fields say of it.
use Rattle.std.specs.Prelude.{◌+◌, ◌≤◌, length, vec_capacity}
use Rattle.nf_rules.specs.Ruled.{AreRuled}
use Rattle.nf_words.specs.Sound.{IsSound}
use Rattle.nf_site.specs.Kept.{Kept, IsHistory}
use Rattle.nf_site.specs.Held.{Held}
use Rattle.nf_site.specs.declared.site.Site.TheInside.{Inside}

abbrev pub kept_of : Inside → Kept
kept_of site = record { opening = site.opening; state = site.current.state; history = site.history.items }

abbrev pub held_of : Inside → Held
held_of site = record { kept = kept_of site; entries = vec_capacity site.history; room = site.current.room }

-- the history led to the state, which is sound, its tables keep the rules, and each ticket has room for the entry of its End
pub record IsHeld (site : Inside) : Type 0 where
  pub history : IsHistory (kept_of site)
  pub sound : IsSound site.current.state
  pub ruled : AreRuled site.current.state.tables
  pub ends : length site.history.items + length site.current.state.tickets ≤ vec_capacity site.history
