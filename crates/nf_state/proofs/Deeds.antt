-- The deeds of a step: the numbers that they give, and the room that they take.
use Rattle.std.proofs.Common.{ℕ, zero, suc, ◌+◌, ◌<◌, ◌≤◌, ◌≡◌, cond, count_by, filter, get_or, if◌then◌else◌, is_some, max, not, sum_by, take, List, [], ◌∷◌, ◌++◌, length, refl, sym, ap, subst, ◌∙◌, arith, length-append}
use Rattle.std.specs.List.{All}
use Rattle.std.proofs.lemmas.List.{length-map}
use Rattle.std.proofs.lemmas.List.Elements.{All-head, All-tail, All-weaker}
use Rattle.std.proofs.lemmas.List.Filters.{length-filter_both}
use Rattle.std.proofs.lemmas.List.Sums.{sum_by-cons}
use Rattle.nf_base.specs.declared.changes.Change.{Change}
use Rattle.nf_base.specs.declared.rows.ChunkRow.{ChunkRow}
use Rattle.nf_base.specs.declared.rows.MetaRow.{MetaRow}
use Rattle.nf_base.specs.declared.rows.NodeRow.{NodeRow}
use Rattle.nf_base.specs.declared.rows.ShareRow.{ShareRow}
use Rattle.nf_base.specs.declared.rows.VersionRow.{VersionRow}
use Rattle.nf_defs.proofs.Puts.{dropped_length, put_length}
use Rattle.nf_defs.specs.Prelude.{is_under, item_key, made, node_row, put_all, relinked, Tables, upload_key, user_key, version_key, without_under}
use Rattle.nf_defs.specs.Tree.{trashed}
use Rattle.nf_laws.proofs.Lists.{Rising}
use Rattle.nf_laws.proofs.OneRow.{length_with}
use Rattle.nf_words.specs.Prelude.{deed_done, deeds_done, ended_row, ended_under, is_chunk_of, last_number, replaced, versions_there}
use Rattle.nf_words.specs.declared.answer.Deed.{Deed}
use Rattle.nf_words.specs.declared.answer.Deed.TheVariants as deed
use Rattle.nf_state.specs.Counts.{FitsRows, IsNoSmaller, only_nodes}
use Rattle.nf_state.specs.Current.{added_deed, added_deeds, added_of, AreBorne, BearsDeed, BearsDeeds, counted_by, counted_with, CountsDeed, CountsDeeds, discards, nodes_joined, OnlyDrops, requotes, rows_joined, StoresFirst, StoresNone}
use Rattle.nf_state.specs.declared.counts.RowCounts.{RowCounts}
use Rattle.nf_state.proofs.Putting.{borne_fits, borne_rising, count_by-cons}

-- ---- one deed more

pub done_more : (t : Tables) (deeds : List Deed) (one : Deed) → deeds_done t (deeds ++ one ∷ []) ≡ deed_done (deeds_done t deeds) one
done_more t [] one = refl
done_more t (first ∷ deeds) one = done_more (deed_done t first) deeds one

-- ---- counters

-- the meta row after a deed
deed_meta : (t : Tables) (one : Deed) → (deed_done t one).meta ≡ counted_with t.meta one
deed_meta t (deed.Discard item) = refl
deed_meta t (deed.Purge node) = refl
deed_meta t (deed.Restore node folder name) = refl
deed_meta t (deed.Relink node folder name) = refl
deed_meta t (deed.Join rows) = refl
deed_meta t (deed.Requote row) = refl
deed_meta t (deed.Forget node at) = refl
deed_meta t (deed.Store changes) = refl
deed_meta t (deed.Abandon user dir) = refl

-- and after some
pub deeds_meta : (t : Tables) (deeds : List Deed) → (deeds_done t deeds).meta ≡ counted_by t.meta deeds
deeds_meta t [] = refl
deeds_meta t (one ∷ deeds) = deeds_meta (deed_done t one) deeds ∙ ap (λ (meta : MetaRow). counted_by meta deeds) (deed_meta t one)

-- the counters have the numbers of a deed that can be borne
deed_counts : (t : Tables) (one : Deed) → BearsDeed t one → CountsDeed t.meta one
deed_counts t (deed.Discard item) borne = tt
deed_counts t (deed.Purge node) borne = tt
deed_counts t (deed.Restore node folder name) borne = tt
deed_counts t (deed.Relink node folder name) borne = tt
deed_counts t (deed.Join rows) borne = omega (arith, borne.numbers.next_node)
deed_counts t (deed.Requote row) borne = tt
deed_counts t (deed.Forget node at) borne = tt
deed_counts t (deed.Store changes) borne = borne.stored.numbers
deed_counts t (deed.Abandon user dir) borne = tt

pub deeds_count : (t : Tables) (deeds : List Deed) → BearsDeeds t deeds → CountsDeeds t.meta deeds
deeds_count t [] borne = tt
deeds_count t (one ∷ deeds) borne = (
  deed_counts t one borne.0,
  subst (λ (meta : MetaRow). CountsDeeds meta deeds) (deed_meta t one) (deeds_count (deed_done t one) deeds borne.1),
)

-- they are raised for one deed more
pub counted_one : (meta : MetaRow) (deeds : List Deed) (one : Deed) → counted_by meta (deeds ++ one ∷ []) ≡ counted_with (counted_by meta deeds) one
counted_one meta [] one = refl
counted_one meta (first ∷ deeds) one = counted_one (counted_with meta first) deeds one

-- and have the numbers of each behind those before it
pub counts_at : (meta : MetaRow) (deeds : List Deed) (k : ℕ) (d : Deed) → k < length deeds → CountsDeeds meta deeds
    → CountsDeed (counted_by meta (take k deeds)) (get_or deeds k d)
counts_at meta [] k d within counts = absurd (omega (arith, within))
counts_at meta (one ∷ deeds) zero d within counts = counts.0
counts_at meta (one ∷ deeds) (suc k) d within counts = counts_at (counted_with meta one) deeds k d (omega (arith, within)) counts.1

-- ---- numbers of nodes, where nothing is stored

deed_next : (t : Tables) (one : Deed) → StoresNone one → (deed_done t one).meta.next_node ≡ t.meta.next_node + rows_joined one
deed_next t (deed.Discard item) none = omega arith
deed_next t (deed.Purge node) none = omega arith
deed_next t (deed.Restore node folder name) none = omega arith
deed_next t (deed.Relink node folder name) none = omega arith
deed_next t (deed.Join rows) none = refl
deed_next t (deed.Requote row) none = omega arith
deed_next t (deed.Forget node at) none = omega arith
deed_next t (deed.Store changes) none = absurd none
deed_next t (deed.Abandon user dir) none = omega arith

-- the counter has the numbers of a deed that can be borne
deed_numbers : (t : Tables) (one : Deed) → BearsDeed t one → t.meta.next_node + rows_joined one ≤ max t.meta.next_node last_number
deed_numbers t (deed.Discard item) borne = omega arith
deed_numbers t (deed.Purge node) borne = omega arith
deed_numbers t (deed.Restore node folder name) borne = omega arith
deed_numbers t (deed.Relink node folder name) borne = omega arith
deed_numbers t (deed.Join rows) borne = omega (arith, borne.numbers.next_node)
deed_numbers t (deed.Requote row) borne = omega arith
deed_numbers t (deed.Forget node at) borne = omega arith
deed_numbers t (deed.Store changes) borne = omega arith
deed_numbers t (deed.Abandon user dir) borne = omega arith

deeds_numbers : (t : Tables) (deeds : List Deed) → BearsDeeds t deeds → All StoresNone deeds
    → t.meta.next_node + sum_by rows_joined deeds ≤ max t.meta.next_node last_number
deeds_numbers t [] borne none = omega arith
deeds_numbers t (one ∷ deeds) borne none =
    omega (
      arith,
      deed_numbers t one borne.0,
      deeds_numbers (deed_done t one) deeds borne.1 (All-tail StoresNone one deeds none),
      deed_next t one (All-head StoresNone one deeds none),
      sum_by-cons rows_joined one deeds,
    )

-- so no more nodes are made than a machine counts
joined_all : (t : Tables) (deeds : List Deed) → BearsDeeds t deeds → All StoresNone deeds → nodes_joined deeds ≡ sum_by rows_joined deeds
joined_all t deeds borne none = omega (arith, deeds_numbers t deeds borne none)

-- ---- room, where nothing is stored

-- what deeds add at most, counted on
abbrev added_all : List Deed → RowCounts
added_all deeds = record (only_nodes (sum_by rows_joined deeds)) { users = count_by requotes deeds; items = count_by discards deeds }

added_is : (next : ℕ) (one : Deed) → StoresNone one
    → added_deed next one ≡ record (only_nodes (rows_joined one)) { users = cond (requotes one) 1 0; items = cond (discards one) 1 0 }
added_is next (deed.Discard item) none = refl
added_is next (deed.Purge node) none = refl
added_is next (deed.Restore node folder name) none = refl
added_is next (deed.Relink node folder name) none = refl
added_is next (deed.Join rows) none = refl
added_is next (deed.Requote row) none = refl
added_is next (deed.Forget node at) none = refl
added_is next (deed.Store changes) none = absurd none
added_is next (deed.Abandon user dir) none = refl

-- the first fits where all do
first_fits : (t : Tables) (room : RowCounts) (one : Deed) (deeds : List Deed) → StoresNone one → FitsRows t room (added_all (one ∷ deeds))
    → FitsRows t room (added_deed t.meta.next_node one)
first_fits t room one deeds none fits =
    subst (FitsRows t room) (sym (added_is t.meta.next_node one none)) (record {
      users = omega (arith, fits.users, count_by-cons requotes one deeds);
      tokens = fits.tokens;
      groups = fits.groups;
      members = fits.members;
      nodes = omega (arith, fits.nodes, sum_by-cons rows_joined one deeds);
      shares = fits.shares;
      mounts = fits.mounts;
      versions = fits.versions;
      items = omega (arith, fits.items, count_by-cons discards one deeds);
      uploads = fits.uploads;
      chunks = fits.chunks;
    })

-- the rows that a deed leaves: users, nodes, shares, items, versions, uploads and chunks, in this order
abbrev Grows : Tables → Tables → Deed → Type 0
Grows t u one =
    (length u.users ≤ length t.users + cond (requotes one) 1 0)
    × (length u.nodes ≤ length t.nodes + rows_joined one)
    × (length u.shares ≤ length t.shares)
    × (length u.items ≤ length t.items + cond (discards one) 1 0)
    × (length u.versions ≤ length t.versions)
    × (length u.uploads ≤ length t.uploads)
    × (length u.chunks ≤ length t.chunks)

left_few : (rows : List NodeRow) (top : ℕ) → length (without_under rows top) ≤ length rows
left_few rows top =
    omega (arith, length-filter_both (λ (row : NodeRow). not (is_under rows row.id top)) (λ (row : NodeRow). not (not (is_under rows row.id top))) (λ row. refl) rows)

ended_few : (rows : List NodeRow) (top : ℕ) (shares : List ShareRow) → length (ended_under rows top shares) ≤ length shares
ended_few rows top shares = omega (arith, length-map shares (λ (share : ShareRow). if is_under rows share.node top then ended_row share else share))

there_few : (nodes : List NodeRow) (versions : List VersionRow) → length (versions_there nodes versions) ≤ length versions
there_few nodes versions =
    omega (
      arith,
      length-filter_both (λ (row : VersionRow). is_some (node_row nodes row.node)) (λ (row : VersionRow). not (is_some (node_row nodes row.node))) (λ row. refl)
          versions,
    )

others_few : (user : ℕ) (dir : List ℕ) (chunks : List ChunkRow) → length (filter (λ row. not (is_chunk_of user dir row)) chunks) ≤ length chunks
others_few user dir chunks =
    omega (
      arith,
      length-filter_both (λ (row : ChunkRow). not (is_chunk_of user dir row)) (λ (row : ChunkRow). not (not (is_chunk_of user dir row))) (λ row. refl)
          chunks,
    )

grows : (t : Tables) (one : Deed) → StoresNone one → Grows t (deed_done t one) one
grows t (deed.Discard item) none =
    (omega arith, omega (arith, length_with t.nodes item.node trashed), ended_few t.nodes item.node t.shares, put_length item_key item t.items, omega arith, omega arith, omega arith)
grows t (deed.Purge node) none =
    (omega arith, omega (arith, left_few t.nodes node), ended_few t.nodes node t.shares, omega (arith, dropped_length item_key (node ∷ []) t.items), there_few (without_under t.nodes node) t.versions, omega arith, omega arith)
grows t (deed.Restore node folder name) none =
    (omega arith, omega (arith, length_with t.nodes node (relinked folder name)), omega arith, omega (arith, dropped_length item_key (node ∷ []) t.items), omega arith, omega arith, omega arith)
grows t (deed.Relink node folder name) none =
    (omega arith, omega (arith, length_with t.nodes node (relinked folder name)), omega arith, omega arith, omega arith, omega arith, omega arith)
grows t (deed.Join rows) none = (omega arith, omega (arith, length-append t.nodes rows), omega arith, omega arith, omega arith, omega arith, omega arith)
grows t (deed.Requote row) none = (put_length user_key row t.users, omega arith, omega arith, omega arith, omega arith, omega arith, omega arith)
grows t (deed.Forget node at) none =
    (omega arith, omega arith, omega arith, omega arith, dropped_length version_key (node ∷ at ∷ []) t.versions, omega arith, omega arith)
grows t (deed.Store changes) none = absurd none
grows t (deed.Abandon user dir) none =
    (omega arith, omega arith, omega arith, omega arith, omega arith, dropped_length upload_key (user ∷ length dir ∷ dir) t.uploads, others_few user dir t.chunks)

-- nobody else has another row
same_others : (t : Tables) (one : Deed) → StoresNone one
    → (length (deed_done t one).tokens ≡ length t.tokens) × (length (deed_done t one).groups ≡ length t.groups)
    × (length (deed_done t one).members ≡ length t.members) × (length (deed_done t one).mounts ≡ length t.mounts)
same_others t (deed.Discard item) none = (refl, refl, refl, refl)
same_others t (deed.Purge node) none = (refl, refl, refl, refl)
same_others t (deed.Restore node folder name) none = (refl, refl, refl, refl)
same_others t (deed.Relink node folder name) none = (refl, refl, refl, refl)
same_others t (deed.Join rows) none = (refl, refl, refl, refl)
same_others t (deed.Requote row) none = (refl, refl, refl, refl)
same_others t (deed.Forget node at) none = (refl, refl, refl, refl)
same_others t (deed.Store changes) none = absurd none
same_others t (deed.Abandon user dir) none = (refl, refl, refl, refl)

-- so the others fit once it is done
rest_fits : (t : Tables) (room more : RowCounts) (one : Deed) (deeds : List Deed) → StoresNone one → IsNoSmaller room more
    → FitsRows t room (added_all (one ∷ deeds)) → FitsRows (deed_done t one) more (added_all deeds)
rest_fits t room more one deeds none higher fits =
    let g = grows t one none in
    let same = same_others t one none in
    record {
      users = omega (arith, g.0, fits.users, higher.users, count_by-cons requotes one deeds);
      tokens = omega (arith, same.0, fits.tokens, higher.tokens);
      groups = omega (arith, same.1, fits.groups, higher.groups);
      members = omega (arith, same.2, fits.members, higher.members);
      nodes = omega (arith, g.1, fits.nodes, higher.nodes, sum_by-cons rows_joined one deeds);
      shares = omega (arith, g.2, fits.shares, higher.shares);
      mounts = omega (arith, same.3, fits.mounts, higher.mounts);
      versions = omega (arith, g.4, fits.versions, higher.versions);
      items = omega (arith, g.3, fits.items, higher.items, count_by-cons discards one deeds);
      uploads = omega (arith, g.5, fits.uploads, higher.uploads);
      chunks = omega (arith, g.6, fits.chunks, higher.chunks);
    }

-- ---- room, deed by deed

-- each finds room when it is done, and does so where there is more room then
abbrev pub FitInTurn : Tables → RowCounts → List Deed → Type 0
FitInTurn t room [] = Unit {0}
FitInTurn t room (one ∷ deeds) =
    FitsRows t room (added_deed t.meta.next_node one) × ((more : RowCounts) → IsNoSmaller room more → FitInTurn (deed_done t one) more deeds)

plain_fit : (t : Tables) (room : RowCounts) (deeds : List Deed) → All StoresNone deeds → FitsRows t room (added_all deeds) → FitInTurn t room deeds
plain_fit t room [] none fits = tt
plain_fit t room (one ∷ deeds) none fits =
    let here = All-head StoresNone one deeds none in (
      first_fits t room one deeds here fits,
      λ more higher. plain_fit (deed_done t one) more deeds (All-tail StoresNone one deeds none) (rest_fits t room more one deeds here higher fits),
    )

-- what a machine counts is all, so that deeds fit that store nothing
counted_fit : (t : Tables) (room : RowCounts) (deeds : List Deed) → BearsDeeds t deeds → All StoresNone deeds
    → FitsRows t room (record (only_nodes (nodes_joined deeds)) { users = count_by requotes deeds; items = count_by discards deeds })
    → FitInTurn t room deeds
counted_fit t room deeds borne none fits =
    plain_fit t room deeds none (record {
      users = fits.users;
      tokens = fits.tokens;
      groups = fits.groups;
      members = fits.members;
      nodes = omega (arith, fits.nodes, joined_all t deeds borne none);
      shares = fits.shares;
      mounts = fits.mounts;
      versions = fits.versions;
      items = fits.items;
      uploads = fits.uploads;
      chunks = fits.chunks;
    })

-- where only versions and uploads go, nothing is added
pub drop_none : (one : Deed) → OnlyDrops one → StoresNone one
drop_none (deed.Forget node at) drops = tt
drop_none (deed.Abandon user dir) drops = tt
drop_none one drops = absurd drops

-- nodes, users and items, in this order
abbrev AddsNone : List Deed → Type 0
AddsNone deeds = (sum_by rows_joined deeds ≡ 0) × (count_by requotes deeds ≡ 0) × (count_by discards deeds ≡ 0)

drop_adds : (one : Deed) → OnlyDrops one → AddsNone (one ∷ [])
drop_adds (deed.Forget node at) drops = (refl, refl, refl)
drop_adds (deed.Abandon user dir) drops = (refl, refl, refl)
drop_adds one drops = absurd drops

drops_add : (deeds : List Deed) → All OnlyDrops deeds → AddsNone deeds
drops_add [] drops = (refl, refl, refl)
drops_add (one ∷ deeds) drops =
    let first = drop_adds one (All-head OnlyDrops one deeds drops) in
    let rest = drops_add deeds (All-tail OnlyDrops one deeds drops) in (
      omega (arith, first.0, rest.0, sum_by-cons rows_joined one deeds, sum_by-cons rows_joined one []),
      omega (arith, first.1, rest.1, count_by-cons requotes one deeds, count_by-cons requotes one []),
      omega (arith, first.2, rest.2, count_by-cons discards one deeds, count_by-cons discards one []),
    )

drops_fit : (t : Tables) (room : RowCounts) (deeds : List Deed) → All OnlyDrops deeds → FitsRows t room (only_nodes 0) → FitInTurn t room deeds
drops_fit t room deeds drops fits =
    let none = drops_add deeds drops in
    plain_fit t room deeds (All-weaker OnlyDrops StoresNone drop_none deeds drops) (record {
      users = omega (arith, fits.users, none.1);
      tokens = fits.tokens;
      groups = fits.groups;
      members = fits.members;
      nodes = omega (arith, fits.nodes, none.0);
      shares = fits.shares;
      mounts = fits.mounts;
      versions = fits.versions;
      items = omega (arith, fits.items, none.2);
      uploads = fits.uploads;
      chunks = fits.chunks;
    })

pub same_room : (room : RowCounts) → IsNoSmaller room room
same_room room = record {
  users = omega arith;
  tokens = omega arith;
  groups = omega arith;
  members = omega arith;
  nodes = omega arith;
  shares = omega arith;
  mounts = omega arith;
  versions = omega arith;
  items = omega arith;
  uploads = omega arith;
  chunks = omega arith;
}

pub higher_still : (first room more : RowCounts) → IsNoSmaller first room → IsNoSmaller room more → IsNoSmaller first more
higher_still first room more one two = record {
  users = omega (arith, one.users, two.users);
  tokens = omega (arith, one.tokens, two.tokens);
  groups = omega (arith, one.groups, two.groups);
  members = omega (arith, one.members, two.members);
  nodes = omega (arith, one.nodes, two.nodes);
  shares = omega (arith, one.shares, two.shares);
  mounts = omega (arith, one.mounts, two.mounts);
  versions = omega (arith, one.versions, two.versions);
  items = omega (arith, one.items, two.items);
  uploads = omega (arith, one.uploads, two.uploads);
  chunks = omega (arith, one.chunks, two.chunks);
}

-- what is stored leaves the rows within the room, or within more
stored_fit : (next : ℕ) (t : Tables) (meta : MetaRow) (changes : List Change) (room more : RowCounts) → Rising t.nodes → AreBorne next t changes
    → IsNoSmaller room more → FitsRows t room (added_of next changes) → FitsRows (record (put_all t changes) { meta = meta }) more (only_nodes 0)
stored_fit next t meta [] room more rising borne higher fits = record {
  users = omega (arith, fits.users, higher.users);
  tokens = omega (arith, fits.tokens, higher.tokens);
  groups = omega (arith, fits.groups, higher.groups);
  members = omega (arith, fits.members, higher.members);
  nodes = omega (arith, fits.nodes, higher.nodes);
  shares = omega (arith, fits.shares, higher.shares);
  mounts = omega (arith, fits.mounts, higher.mounts);
  versions = omega (arith, fits.versions, higher.versions);
  items = omega (arith, fits.items, higher.items);
  uploads = omega (arith, fits.uploads, higher.uploads);
  chunks = omega (arith, fits.chunks, higher.chunks);
}
stored_fit next t meta (change ∷ changes) room more rising borne higher fits =
    stored_fit next (made t change) meta changes room more (borne_rising next t change rising borne.0) borne.1 higher
    (borne_fits next t change changes room room rising borne.0 (same_room room) fits)

-- so where the deeds can be borne, each finds room
pub all_fit : (t : Tables) (room : RowCounts) (deeds : List Deed) → BearsDeeds t deeds → StoresFirst deeds
    → FitsRows t room (added_deeds t.meta.next_node deeds) → FitInTurn t room deeds
all_fit t room [] borne order fits = tt
all_fit t room (deed.Store changes ∷ deeds) borne order fits = (
  fits,
  λ more higher.
      drops_fit (replaced t changes) more deeds order.1
      (stored_fit t.meta.next_node t (replaced t changes).meta changes room more borne.0.given.rising borne.0.stored.rows higher fits),
)
all_fit t room (one ∷ deeds) borne order fits = counted_fit t room (one ∷ deeds) borne order fits

-- and those behind others
pub both_fit : (t : Tables) (room : RowCounts) (first last : List Deed) → FitInTurn t room (first ++ last) → FitInTurn (deeds_done t first) room last
both_fit t room [] last fits = fits
both_fit t room (one ∷ first) last fits = both_fit (deed_done t one) room first last (fits.1 room (same_room room))
