-- What a run leaves: rows over which another can be opened.
use Rattle.std.specs.Prelude.{◌≡◌, ◌⊎◌, ℕ, ◌+◌, ◌-◌, ◌^◌, ◌≤◌, [], Option}
use Rattle.std.specs.Option.{IfSome}
use Rattle.nf_defs.specs.Tables.{Tables, rows_of, tables_of}
use Rattle.nf_desk.specs.Desk.{TellsSite, blobs_in, failed_marks}
use Rattle.nf_rules.specs.Rules.{AreUnbroken}
use Rattle.nf_site.specs.Kept.{IsHistory, Kept}
use Rattle.nf_told.specs.Told.{AreFit, Told}
use Rattle.nf_words.specs.Sound.{IsSound}

-- the rows of the tables, as they are spelled, can be read again, break no rule, and make the same tables
pub record OpensAgain (t : Tables) : Type 0 where
  pub fit : AreFit t
  pub unbroken : AreUnbroken (rows_of t)
  pub same : tables_of (rows_of t) ≡ t

-- the site when a run ended, and what the keeper told then: the history is legal, the state sound, nothing that was granted is open, the
-- rows can be opened again, and they are told, with blobs that are whole for them, but for what is damaged then
pub record Leaves (k : Kept) (keeper : Option Told) : Type 0 where
  pub history : IsHistory k
  pub sound : IsSound k.state
  pub idle : k.state.tickets ≡ []
  pub again : OpensAgain k.state.tables
  pub told : IfSome keeper (TellsSite (blobs_in keeper) k)

-- each step of any seat that was answered 500 `store` is paid for by a fault that the keeper counted, as long as it counts
abbrev pub Pays : Kept → ℕ → ℕ → Type 0
Pays k before now = (failed_marks k.history + before ≤ now) ⊎ (now ≡ 2 ^ 64 - 1)
