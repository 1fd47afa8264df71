-- The tables as the program holds them.
use Rattle.std.specs.Prelude.{List}
use Rattle.nf_base.specs.declared.rows.ItemRow.{ItemRow}
use Rattle.nf_base.specs.declared.rows.MetaRow.{MetaRow}
use Rattle.nf_base.specs.declared.rows.MountRow.{MountRow}
use Rattle.nf_base.specs.declared.rows.NodeRow.{NodeRow}
use Rattle.nf_base.specs.declared.rows.ShareRow.{ShareRow}
use Rattle.nf_base.specs.declared.rows.UploadRow.{UploadRow}
use Rattle.nf_base.specs.declared.rows.ChunkRow.{ChunkRow}
use Rattle.nf_base.specs.declared.rows.VersionRow.{VersionRow}
use Rattle.nf_defs.specs.Tables.{Tables}
use Rattle.nf_people.specs.People.{PeopleValue}

-- the tables of the rows of each kind
abbrev pub tables_in : MetaRow → PeopleValue → List NodeRow → List ShareRow → List MountRow → List VersionRow → List ItemRow → List UploadRow
    → List ChunkRow → Tables
tables_in meta people nodes shares mounts versions items uploads chunks = record {
  meta = meta;
  users = people.users;
  tokens = people.tokens;
  groups = people.groups;
  members = people.members;
  nodes = nodes;
  shares = shares;
  mounts = mounts;
  versions = versions;
  items = items;
  uploads = uploads;
  chunks = chunks;
}
