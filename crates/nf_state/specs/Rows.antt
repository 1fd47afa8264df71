-- The tables with their room, and their rows as lists.
use Rattle.std.specs.Prelude.{List, ◌++◌, map}
use Rattle.nf_base.specs.declared.rows.Row.{Row}
use Rattle.nf_base.specs.declared.rows.Row.TheVariants as kinds
use Rattle.nf_defs.specs.Tables.{Tables}
use Rattle.nf_state.specs.declared.counts.RowCounts.{RowCounts}

-- the tables, and how many rows fit without more memory
pub record Rows : Type 0 where
  pub tables : Tables
  pub room : RowCounts

-- the rows of versions, of the trash and of uploads, as a list
abbrev pub rows_beside : Tables → List Row
rows_beside t = map kinds.Version t.versions ++ (map kinds.Item t.items ++ (map kinds.Upload t.uploads ++ map kinds.Chunk t.chunks))

-- and with them all that aren't of people
abbrev pub rows_of_others : Tables → List Row
rows_of_others t = map kinds.Node t.nodes ++ (map kinds.Share t.shares ++ (map kinds.Mount t.mounts ++ rows_beside t))
