-- What is left of a hub.
use Rattle.std.specs.Prelude.{◌≡◌, []}
use Rattle.nf_desk.specs.Desk.{IsDesk, Served, meanings, shown}
use Rattle.nf_keeper.specs.declared.keeper.Keeper.{Ghosts as KeeperOf}
use Rattle.nf_rules.specs.Ruled.{AreRuled}
use Rattle.nf_site.specs.Held.{Held}
use Rattle.nf_site.specs.Kept.{IsHistory}
use Rattle.nf_turn.specs.Agreeing.{Agrees}
use Rattle.nf_turn.specs.declared.view.Memory.{Memory}
use Rattle.nf_words.specs.Sound.{IsSound}

-- the site is the replay of its history, from the rows that it was opened with. The history is legal, begins with all that the seat has
-- seen, and has the entries of the seat and of those that were joined into it, and no others. Nothing is granted any more. What the keeper
-- tells is true of the site, each of its failures is counted, and it has what was on the seat's shelf, or nothing there
pub record Closes {K : Type 0} (k : KeeperOf K) (m : Memory (Served K)) (site : Held) (keeper : K) : Type 0 where
  pub desk : Served K
  pub site_is : site ≡ desk.site
  pub keeper_is : keeper ≡ desk.keeper
  pub history : IsHistory desk.site.kept
  pub sound : IsSound desk.site.kept.state
  pub ruled : AreRuled desk.site.kept.state.tables
  pub idle : desk.site.kept.state.tickets ≡ []
  pub is_desk : IsDesk (shown k desk)
  pub agrees : Agrees (meanings k) m desk
