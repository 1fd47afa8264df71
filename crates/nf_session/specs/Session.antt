-- A session: turns, one after the other, until one of them ends it or `MAX_MESSAGES` messages were answered.
use Rattle.std.specs.Prelude.{◌≡◌, ◌<◌, ◌==◌, ◌-◌, false, List, [], ◌∷◌, length, Option, None}
use Rattle.nf_base.specs.declared.limits.TheConstants.{MAX_MESSAGES}
use Rattle.nf_outside.specs.Lent.{Taken}
use Rattle.nf_session.specs.Steps.{Scene}
use Rattle.nf_session.specs.Turn.{Turn}
use Rattle.nf_session.specs.declared.ended.Ended.{Ended}

-- messages were answered one after the other, each leading to the next of these scenes
abbrev pub Through : {C : Type 0} → (C → Taken → C → Type 0) → Scene C → List (Scene C) → Scene C → Type 0
Through reads a [] b = a ≡ b
Through reads a (m ∷ scenes) b = Turn reads false a m None × Through reads m scenes b

-- some messages were answered, and the next turn ends the session so; that of message `MAX_MESSAGES` is the last, and it alone may end none
pub record Session {C : Type 0} (reads : C → Taken → C → Type 0) (a b : Scene C) (end : Option Ended) : Type 0 where
  pub scenes : List (Scene C)
  pub before : Scene C
  pub through : Through reads a scenes before
  pub few : length scenes < MAX_MESSAGES
  pub turn : Turn reads (length scenes == MAX_MESSAGES - 1) before b end
  pub full : end ≡ None → length scenes ≡ MAX_MESSAGES - 1
