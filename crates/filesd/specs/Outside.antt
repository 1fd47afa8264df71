-- What a run is given from outside: its ends, its clock and dice, and its keeper.
use Rattle.std.specs.Prelude.{◌≡◌, ℕ, List, Option, None}
use Rattle.nf_keeper.specs.declared.keeper.Keeper.{Ghosts as KeeperOf}
use Rattle.nf_outside.specs.declared.traits.Ends.{Ghosts as EndsOf}
use Rattle.nf_told.specs.Told.{Told}

-- the bytes that are left and those that were written, the method and target of each answer that was begun, and the rows and blobs
-- that are kept, where they are told; how often each failed; and the clock and the dice
pub record Outside (C : Type 0) : Type 0 where
  pub left : Option (List ℕ)
  pub written : Option (List ℕ)
  pub begun : Option (List (List ℕ × List ℕ))
  pub read_faults : ℕ
  pub write_faults : ℕ
  pub lent : C
  pub told : Option Told
  pub faults : ℕ

-- those of an input, an output, a keeper, and what is lent
abbrev pub outside : {S O K C : Type 0} → EndsOf S → EndsOf O → KeeperOf K → S → O → K → C → Outside C
outside s o k input output keeper lent = record {
  left = s.left input;
  written = o.written output;
  begun = o.begun output;
  read_faults = s.read_faults input;
  write_faults = o.write_faults output;
  lent = lent;
  told = k.told keeper;
  faults = k.faults keeper;
}

-- no byte was taken or written and no clock read and no word drawn, and the keeper tells what it told
abbrev pub Untouched : {C : Type 0} → Outside C → Outside C → Type 0
Untouched a b = b ≡ record a { faults = b.faults }

-- the same of an output, a keeper and what is lent alone
abbrev pub outlet_with : {O K C : Type 0} → EndsOf O → KeeperOf K → O → K → C → Outside C
outlet_with o k output keeper lent = record {
  left = None;
  written = o.written output;
  begun = o.begun output;
  read_faults = 0;
  write_faults = o.write_faults output;
  lent = lent;
  told = k.told keeper;
  faults = k.faults keeper;
}

-- of an output and a keeper
abbrev pub outlet : {O K : Type 0} → EndsOf O → KeeperOf K → O → K → Outside (Unit {0})
outlet o k output keeper = outlet_with o k output keeper tt

-- and of an output
abbrev pub output_alone : {O : Type 0} → EndsOf O → O → Outside (Unit {0})
output_alone o output = record {
  left = None;
  written = o.written output;
  begun = o.begun output;
  read_faults = 0;
  write_faults = o.write_faults output;
  lent = tt;
  told = None;
  faults = 0;
}
