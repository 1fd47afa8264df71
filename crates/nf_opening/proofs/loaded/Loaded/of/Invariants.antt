use Rattle.std.proofs.Common.{◌≡◌, drop}
use Rattle.nf_defs.specs.Prelude.{AreRising, put_rows, tables_of}
use Rattle.nf_opening.proofs.loaded.Loaded.of.Given as goal

-- the rows that are left complete the tables, which are in order
abbrev pub invariant-loop-row : goal.invariant-loop-row
invariant-loop-row l = record {
  left : put_rows l.loaded (drop l.row-index l.rows) ≡ tables_of l.rows;
  rising : AreRising l.loaded;
}
