-- The trash: what is in it, and what goes for good.
use Rattle.std.specs.Prelude.{ℕ, ◌==◌, not, List, [], ◌∷◌, filter, filter_map, map, Option, None, Some, option_and_then, option_map, unwrap_or, if◌then◌else◌}
use Rattle.nf_base.specs.declared.rows.ItemRow.{ItemRow}
use Rattle.nf_base.specs.declared.rows.NodeRow.{NodeRow}
use Rattle.nf_defs.specs.Prelude.{folder_of, item_row, node_row, Tables}
use Rattle.nf_retention.specs.Budget.{trash_bound}
use Rattle.nf_retention.specs.Trash.{going, newest_first}
use Rattle.nf_words.specs.Calls.{Call, asker_of}
use Rattle.nf_words.specs.Listing.{size_of}
use Rattle.nf_words.specs.declared.answer.Denial.{Denial}
use Rattle.nf_words.specs.declared.answer.Denial.TheVariants as denial
use Rattle.nf_words.specs.declared.listing.ItemLine.{ItemLine}
use Rattle.nf_words.specs.declared.request.TrashAsk.{TrashAsk}
use Rattle.nf_words.specs.declared.request.TrashAsk.TheVariants as trash

-- ---- items

-- what a node is in the trash, when it is put there
abbrev pub item_for : ℕ → NodeRow → ItemRow
item_for now row = record {
  node = row.id;
  owner = row.owner;
  name = row.name;
  from = unwrap_or (folder_of row.place) 0;
  at = now;
}

-- the items of a user
abbrev pub items_of : Tables → ℕ → List ItemRow
items_of t user = filter (λ item. item.owner == user) t.items

-- whose items there are, each user once
abbrev pub owners_of : List ItemRow → List ℕ
owners_of [] = []
owners_of (item ∷ items) = item.owner ∷ filter (λ user. not (user == item.owner)) (owners_of items)

-- all of them but that of a node
abbrev pub items_but : Tables → ℕ → ℕ → List ItemRow
items_but t user node = filter (λ item. not (item.node == node)) (items_of t user)

-- the bytes of an item
abbrev pub item_size : Tables → ItemRow → ℕ
item_size t item = size_of t.nodes item.node

-- of some items of a user's with that quota, the nodes of those that go for good
abbrev pub gone_of : Tables → ℕ → ℕ → List ItemRow → List ℕ
gone_of t now quota items = map (λ item. item.node) (going (item_size t) now (trash_bound quota) (newest_first items))

-- ---- what is told

abbrev pub item_line : Tables → ItemRow → Option ItemLine
item_line t item =
    option_map (λ row. record { at = item.at; id = item.node; kind = row.kind; name = item.name; size = item_size t item }) (node_row t.nodes item.node)

-- of a user's items, newest first
abbrev pub item_lines : Tables → ℕ → List ItemLine
item_lines t user = filter_map (item_line t) (newest_first (items_of t user))

-- ---- what isn't there

-- the item is the user's
abbrev pub item_if_of : ℕ → ItemRow → Option ItemRow
item_if_of user item = if item.owner == user then Some item else None

-- the caller's item of a node
abbrev pub own_item : Call → ℕ → Option ItemRow
own_item call node = option_and_then (item_if_of (asker_of call)) (item_row call.state.tables.items node)

abbrev pub lacks_item : Option ItemRow → Option Denial
lacks_item None = Some denial.NotFound
lacks_item (Some item) = None

-- `not-found`: the caller has no such item
abbrev pub untrashed : Call → TrashAsk → Option Denial
untrashed call (trash.List user) = None
untrashed call (trash.Drop user item) = lacks_item (own_item call item)
untrashed call (trash.Empty user) = None
untrashed call (trash.Restore user item) = lacks_item (own_item call item)
