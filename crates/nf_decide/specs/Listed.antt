-- Mounts that are listed, and lines of folders and of the trash.
use Rattle.std.specs.Prelude.{◌≡◌, ℕ, Bool, false, not, ◌&&◌, List, AllPairs, Option, option_and_then}
use Rattle.std.specs.List.{list_any}
use Rattle.nf_access.specs.Access.{by_chains, is_open}
use Rattle.nf_base.specs.declared.rows.MountRow.{MountRow}
use Rattle.nf_defs.specs.Prelude.{item_row, Tables}
use Rattle.nf_reach.specs.Asking.{Asking}
use Rattle.nf_words.specs.Listing.{is_line_before}
use Rattle.nf_words.specs.Trash.{item_line}
use Rattle.nf_words.specs.declared.listing.ItemLine.{ItemLine}
use Rattle.nf_words.specs.declared.listing.ListingLine.{ListingLine}

-- a mount of who asks wasn't left, and a grant on its node is open
abbrev pub is_listed : Asking → MountRow → Bool
is_listed a row = not row.left && list_any (is_open a.moment) (by_chains a.base a.seeker row.node)

-- no line comes before one that stands before it
abbrev pub AreByName : List ListingLine → Type 0
AreByName lines = AllPairs (λ a b. is_line_before b a ≡ false) lines

-- the line of the item of a node
abbrev pub line_at : Tables → ℕ → Option ItemLine
line_at t node = option_and_then (item_line t) (item_row t.items node)
