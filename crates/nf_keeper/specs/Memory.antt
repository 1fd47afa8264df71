-- A keeper in memory.
use Rattle.std.specs.Prelude.{◌≡◌, true, false, List, [], ◌∷◌, Result, Ok, Err}
use Rattle.nf_defs.specs.Puts.{put}
use Rattle.nf_outside.specs.Calls.{Calls, is_failing}
use Rattle.nf_rows.specs.Spelling.{Raw}
use Rattle.nf_told.specs.Told.{Told, raw_key}
use Rattle.nf_keeper.specs.declared.keeper.KeepFault.{KeepFault}
use Rattle.nf_keeper.specs.declared.keeper.KeepFault.TheVariants.{Failed, Memory as NoMemory}

-- what a keeper in memory holds
pub record Memory : Type 0 where
  pub told : Told
  pub calls : Calls

-- the call that was made last failed where it is listed, and only there
abbrev pub FailsAsListed : {T : Type 0} → Calls → Result T KeepFault → Type 0
FailsAsListed calls (Ok value) = is_failing calls ≡ false
FailsAsListed calls (Err Failed) = is_failing calls ≡ true
FailsAsListed calls (Err NoMemory) = is_failing calls ≡ false

-- rows put one after the other; of those with one key the last counts
abbrev pub put_raws : List Raw → List Raw → List Raw
put_raws rows [] = rows
put_raws rows (raw ∷ raws) = put_raws (put raw_key raw rows) raws
