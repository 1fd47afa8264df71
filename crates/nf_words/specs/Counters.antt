-- The counters of the meta row.
use Rattle.std.specs.Prelude.{ℕ, ◌+◌, max, List, [], ◌∷◌, Option, None, Some}
use Rattle.nf_base.specs.declared.changes.Change.{Change}
use Rattle.nf_base.specs.declared.changes.Change.TheVariants.{Put}
use Rattle.nf_base.specs.declared.rows.MetaRow.{MetaRow}
use Rattle.nf_base.specs.declared.rows.Row.TheVariants as rows

-- the next blob, where that one is stored or none
abbrev pub blob_after : ℕ → Option ℕ → ℕ
blob_after next None = next
blob_after next (Some id) = next + 1

-- each counter is above the numbers that are put
abbrev pub above : MetaRow → Change → MetaRow
above meta (Put (rows.User row)) = record meta { next_user = max meta.next_user (row.id + 1) }
above meta (Put (rows.Group row)) = record meta { next_group = max meta.next_group (row.id + 1) }
above meta (Put (rows.Node row)) = record meta { next_node = max meta.next_node (row.id + 1) }
above meta (Put (rows.Share row)) = record meta { next_share = max meta.next_share (row.id + 1) }
above meta other = meta

abbrev pub counted : MetaRow → List Change → MetaRow
counted meta [] = meta
counted meta (change ∷ changes) = counted (above meta change) changes
