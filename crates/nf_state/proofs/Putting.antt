-- Rows of nodes that are put among others.
use Rattle.std.proofs.Common.{cond, count_by, length, length-append, ◌≡◌, ◌⊎◌, ℕ, ◌+◌, ◌<◌, ◌≤◌, ◌==◌, inl, inr, Bool, true, false, not, List, [], ◌∷◌, ◌++◌, Option, None, Some, refl, sym, ap, subst, ◌∙◌, arith}
use Rattle.std.specs.Prelude.{is_some}
use Rattle.std.specs.List.{AllPairs}
use Rattle.std.specs.Option.{IfSome, option_map_or}
use Rattle.std.proofs.lemmas.Bool.{both_ways, eqb-true, le-ltb}
use Rattle.std.proofs.lemmas.List.Quantifiers.{all_pairs_push}
use Rattle.std.proofs.lemmas.List.Sums.{sum_by-cons}
use Rattle.nf_base.specs.declared.changes.Change.TheVariants.{Drop, Put}
use Rattle.nf_base.specs.declared.changes.RowKey.TheVariants as keys
use Rattle.nf_base.specs.declared.rows.Row.TheVariants as rows
use Rattle.nf_base.specs.declared.changes.Change.{Change}
use Rattle.nf_base.specs.declared.rows.MetaRow.{MetaRow}
use Rattle.nf_base.specs.declared.rows.NodeRow.{NodeRow}
use Rattle.nf_defs.specs.Prelude.{chunk_key, filled, group_key, is_file, is_folder_kind, item_key, made, member_key, mount_key, node_key, node_row, put, share_key, Tables, token_key, upload_key, user_key, version_key, with_node}
use Rattle.nf_defs.proofs.Puts.{dropped_length, put_length}
use Rattle.nf_laws.proofs.Lists.{Rising}
use Rattle.nf_laws.proofs.OneRow.{length_with, rising_with}
use Rattle.nf_laws.proofs.Puts.{put_changed, put_new}
use Rattle.nf_laws.specs.Numbers.{AreHigher}
use Rattle.nf_words.proofs.Found.{found_has, found_passes}
use Rattle.nf_words.specs.Prelude.{above, counted}
use Rattle.nf_state.specs.Counts.{FitsRows, IsNoSmaller}
use Rattle.nf_state.specs.Current.{added_of, IsBorne, IsCounted, IsNew, IsRefilled, is_fresh, puts_chunk, puts_group, puts_item, puts_member, puts_mount, puts_share, puts_token, puts_upload, puts_user, puts_version}
use Rattle.nf_state.specs.declared.counts.RowCounts.{RowCounts}

-- what is new isn't there
never_new : (old : List NodeRow) (row was : NodeRow) → IsNew old row → node_row old row.id ≡ Some was → ⊥
never_new old row was new there =
    let less = subst (λ (o : Option NodeRow). IfSome o (λ (other : NodeRow). other.id < row.id)) there
    (found_has (λ (other : NodeRow). other.id < row.id) (λ (other : NodeRow). other.id == row.id) old new.newest) in
    let same = eqb-true was.id row.id (found_passes (λ (other : NodeRow). other.id == row.id) old was there) in
    absurd (omega (arith, less, same))

-- where a node of its number is there, a row has another content
pub is_refilled : (old : List NodeRow) (row : NodeRow) → is_some (node_row old row.id) ≡ true → IsNew old row ⊎ IsRefilled old row → IsRefilled old row
is_refilled old row there (inr it) = it
is_refilled old row there (inl new) = here (node_row old row.id) refl there
  where
    here : (o : Option NodeRow) → node_row old row.id ≡ o → is_some o ≡ true → IsRefilled old row
    here None e there = absurd (cc)
    here (Some was) e there = absurd (never_new old row was new e)

-- elsewhere it is new
pub is_new : (old : List NodeRow) (row : NodeRow) → is_some (node_row old row.id) ≡ false → IsNew old row ⊎ IsRefilled old row → IsNew old row
is_new old row none (inl new) = new
is_new old row none (inr it) = absurd (both_ways (is_some (node_row old row.id)) none (ap is_some it.there))

pub file_there : (old : List NodeRow) (row : NodeRow) → IsRefilled old row → is_file old row.id ≡ true
file_there old row it =
    ap (λ (o : Option NodeRow). option_map_or (λ row. not (is_folder_kind row.kind)) o false) it.there ∙ ap not it.file

pub refilled_put : (old : List NodeRow) (row : NodeRow) → AllPairs (λ (a b : NodeRow). a.id < b.id) old → IsRefilled old row
    → put node_key row old ≡ with_node old row.id (filled row.content row.changed)
refilled_put old row rising it =
    ap (λ (r : NodeRow). put node_key r old) it.same ∙ put_changed old row.id (filled row.content row.changed) it.was refl rising it.there

pub new_put : (old : List NodeRow) (row : NodeRow) → IsNew old row → put node_key row old ≡ old ++ row ∷ []
new_put old row new = put_new row old new.newest

-- the counters are raised for one change more
pub counted_more : (meta : MetaRow) (changes : List Change) (change : Change)
    → counted meta (changes ++ change ∷ []) ≡ above (counted meta changes) change
counted_more meta [] change = refl
counted_more meta (first ∷ changes) change = counted_more (above meta first) changes change

-- what has a number above it has one where the counters are higher
pub counted_later : (meta more : MetaRow) (change : Change) → AreHigher meta more → IsCounted meta change → IsCounted more change
counted_later meta more (Put (rows.User row)) higher counted = omega (arith, higher.users, counted)
counted_later meta more (Put (rows.Token row)) higher counted = tt
counted_later meta more (Put (rows.Group row)) higher counted = omega (arith, higher.groups, counted)
counted_later meta more (Put (rows.Member row)) higher counted = tt
counted_later meta more (Drop (keys.Member group user)) higher counted = tt
counted_later meta more (Drop (keys.Version node at)) higher counted = tt
counted_later meta more (Drop (keys.Item node)) higher counted = tt
counted_later meta more (Put (rows.Node row)) higher counted = omega (arith, higher.nodes, counted)
counted_later meta more (Put (rows.Share row)) higher counted = omega (arith, higher.shares, counted)
counted_later meta more (Put (rows.Mount row)) higher counted = tt
counted_later meta more (Put (rows.Version row)) higher counted = tt
counted_later meta more (Put (rows.Item row)) higher counted = tt
counted_later meta more (Put (rows.Upload row)) higher counted = tt
counted_later meta more (Put (rows.Chunk row)) higher counted = tt
counted_later meta more change higher counted = absurd counted

-- ---- a change that can be borne

pub borne_next : (next : ℕ) (t : Tables) (change : Change) → IsBorne next t change → (made t change).meta.next_node ≡ t.meta.next_node
borne_next next t (Put (rows.User row)) borne = refl
borne_next next t (Put (rows.Token row)) borne = refl
borne_next next t (Put (rows.Group row)) borne = refl
borne_next next t (Put (rows.Member row)) borne = refl
borne_next next t (Drop (keys.Member group user)) borne = refl
borne_next next t (Drop (keys.Version node at)) borne = refl
borne_next next t (Drop (keys.Item node)) borne = refl
borne_next next t (Put (rows.Node row)) borne = refl
borne_next next t (Put (rows.Share row)) borne = refl
borne_next next t (Put (rows.Mount row)) borne = refl
borne_next next t (Put (rows.Version row)) borne = refl
borne_next next t (Put (rows.Item row)) borne = refl
borne_next next t (Put (rows.Upload row)) borne = refl
borne_next next t (Put (rows.Chunk row)) borne = refl
borne_next next t change borne = absurd borne

-- what is so of the new rows, of those with another content, and of the old ones, is so of the rows after it
borne_has : (P : List NodeRow → Type 0) (next : ℕ) (t : Tables) (change : Change) → Rising t.nodes → IsBorne next t change
    → ((row : NodeRow) → change ≡ Put (rows.Node row) → next ≤ row.id → IsNew t.nodes row → P (t.nodes ++ row ∷ []))
    → ((row : NodeRow) → change ≡ Put (rows.Node row) → row.id < next → P (with_node t.nodes row.id (filled row.content row.changed)))
    → P t.nodes → P (made t change).nodes
borne_has P next t (Put (rows.Node row)) rising borne new refilled same =
    elim borne [
      | inl it ↦ subst P (sym (new_put t.nodes row it.1)) (new row refl it.0 it.1)
      | inr it ↦ subst P (sym (refilled_put t.nodes row rising it.1)) (refilled row refl it.0)
    ]
borne_has P next t (Put (rows.User row)) rising borne new refilled same = same
borne_has P next t (Put (rows.Token row)) rising borne new refilled same = same
borne_has P next t (Put (rows.Group row)) rising borne new refilled same = same
borne_has P next t (Put (rows.Member row)) rising borne new refilled same = same
borne_has P next t (Drop (keys.Member group user)) rising borne new refilled same = same
borne_has P next t (Drop (keys.Version node at)) rising borne new refilled same = same
borne_has P next t (Drop (keys.Item node)) rising borne new refilled same = same
borne_has P next t (Put (rows.Share row)) rising borne new refilled same = same
borne_has P next t (Put (rows.Mount row)) rising borne new refilled same = same
borne_has P next t (Put (rows.Version row)) rising borne new refilled same = same
borne_has P next t (Put (rows.Item row)) rising borne new refilled same = same
borne_has P next t (Put (rows.Upload row)) rising borne new refilled same = same
borne_has P next t (Put (rows.Chunk row)) rising borne new refilled same = same
borne_has P next t change rising borne new refilled same = absurd borne

pub borne_rising : (next : ℕ) (t : Tables) (change : Change) → Rising t.nodes → IsBorne next t change → Rising (made t change).nodes
borne_rising next t change rising borne =
    borne_has Rising next t change rising borne
    (λ row is fresh new. all_pairs_push (λ (a b : NodeRow). a.id < b.id) t.nodes row rising new.newest)
    (λ row is old. rising_with t.nodes row.id (filled row.content row.changed) (λ r. refl) rising)
    rising

pub counts_one : (b : Bool) → b ≡ true → ◌≡◌ {A = ℕ} (cond b 1 0) 1
counts_one b is = rw is refl

pub counts_none : (b : Bool) → b ≡ false → ◌≡◌ {A = ℕ} (cond b 1 0) 0
counts_none b is = rw is refl

pub count_by-cons : {X : Type 0} (p : X → Bool) (x : X) (xs : List X) → count_by p (x ∷ xs) ≡ cond (p x) 1 0 + count_by p xs
count_by-cons p = sum_by-cons (λ x. cond (p x) 1 0)

-- one counts no more than it does before others
count_front : {X : Type 0} (p : X → Bool) (x : X) (xs : List X) → count_by p (x ∷ []) ≤ count_by p (x ∷ xs)
count_front p x xs = omega (arith, count_by-cons p x xs, count_by-cons p x [])

-- so it fits alone where it fits with others
pub front_fits : (t : Tables) (room : RowCounts) (next : ℕ) (change : Change) (rest : List Change)
    → FitsRows t room (added_of next (change ∷ rest)) → FitsRows t room (added_of next (change ∷ []))
front_fits t room next change rest fits = record {
  users = omega (arith, fits.users, count_front puts_user change rest);
  tokens = omega (arith, fits.tokens, count_front puts_token change rest);
  groups = omega (arith, fits.groups, count_front puts_group change rest);
  members = omega (arith, fits.members, count_front puts_member change rest);
  nodes = omega (arith, fits.nodes, count_front (is_fresh next) change rest);
  shares = omega (arith, fits.shares, count_front puts_share change rest);
  mounts = omega (arith, fits.mounts, count_front puts_mount change rest);
  versions = omega (arith, fits.versions, count_front puts_version change rest);
  items = omega (arith, fits.items, count_front puts_item change rest);
  uploads = omega (arith, fits.uploads, count_front puts_upload change rest);
  chunks = omega (arith, fits.chunks, count_front puts_chunk change rest);
}

-- the others find the room for nodes that is left
borne_nodes : (next : ℕ) (t : Tables) (change : Change) (rest : List Change) → Rising t.nodes → IsBorne next t change
    → length (made t change).nodes + count_by (is_fresh next) rest ≤ length t.nodes + count_by (is_fresh next) (change ∷ rest)
borne_nodes next t change rest rising borne =
    let counts = count_by-cons (is_fresh next) change rest in
    borne_has (λ (nodes : List NodeRow). length nodes + count_by (is_fresh next) rest ≤ length t.nodes + count_by (is_fresh next) (change ∷ rest))
    next t change rising borne
    (λ row is fresh new.
    let one = counts_one (is_fresh next change) (ap (is_fresh next) is ∙ ap not (le-ltb row.id next fresh)) in
    omega (arith, counts, one, length-append t.nodes (row ∷ [])))
    (λ row is old. omega (arith, counts, length_with t.nodes row.id (filled row.content row.changed)))
    (omega (arith, counts))

-- and that for the rows of other kinds: users, tokens, groups, members, shares, mounts, versions, items, uploads and chunks, in this order
abbrev OthersGrow : Tables → Tables → Change → Type 0
OthersGrow t u change =
    (length u.users ≤ length t.users + cond (puts_user change) 1 0)
    × (length u.tokens ≤ length t.tokens + cond (puts_token change) 1 0)
    × (length u.groups ≤ length t.groups + cond (puts_group change) 1 0)
    × (length u.members ≤ length t.members + cond (puts_member change) 1 0)
    × (length u.shares ≤ length t.shares + cond (puts_share change) 1 0)
    × (length u.mounts ≤ length t.mounts + cond (puts_mount change) 1 0)
    × (length u.versions ≤ length t.versions + cond (puts_version change) 1 0)
    × (length u.items ≤ length t.items + cond (puts_item change) 1 0)
    × (length u.uploads ≤ length t.uploads + cond (puts_upload change) 1 0)
    × (length u.chunks ≤ length t.chunks + cond (puts_chunk change) 1 0)

borne_others : (next : ℕ) (t : Tables) (change : Change) → IsBorne next t change → OthersGrow t (made t change) change
borne_others next t (Put (rows.User row)) borne =
    (put_length user_key row t.users, omega arith, omega arith, omega arith, omega arith, omega arith, omega arith, omega arith, omega arith, omega arith)
borne_others next t (Put (rows.Token row)) borne =
    (omega arith, put_length token_key row t.tokens, omega arith, omega arith, omega arith, omega arith, omega arith, omega arith, omega arith, omega arith)
borne_others next t (Put (rows.Group row)) borne =
    (omega arith, omega arith, put_length group_key row t.groups, omega arith, omega arith, omega arith, omega arith, omega arith, omega arith, omega arith)
borne_others next t (Put (rows.Member row)) borne =
    (omega arith, omega arith, omega arith, put_length member_key row t.members, omega arith, omega arith, omega arith, omega arith, omega arith, omega arith)
borne_others next t (Put (rows.Share row)) borne =
    (omega arith, omega arith, omega arith, omega arith, put_length share_key row t.shares, omega arith, omega arith, omega arith, omega arith, omega arith)
borne_others next t (Put (rows.Mount row)) borne =
    (omega arith, omega arith, omega arith, omega arith, omega arith, put_length mount_key row t.mounts, omega arith, omega arith, omega arith, omega arith)
borne_others next t (Put (rows.Version row)) borne =
    (omega arith, omega arith, omega arith, omega arith, omega arith, omega arith, put_length version_key row t.versions, omega arith, omega arith, omega arith)
borne_others next t (Put (rows.Item row)) borne =
    (omega arith, omega arith, omega arith, omega arith, omega arith, omega arith, omega arith, put_length item_key row t.items, omega arith, omega arith)
borne_others next t (Put (rows.Upload row)) borne =
    (omega arith, omega arith, omega arith, omega arith, omega arith, omega arith, omega arith, omega arith, put_length upload_key row t.uploads, omega arith)
borne_others next t (Put (rows.Chunk row)) borne =
    (omega arith, omega arith, omega arith, omega arith, omega arith, omega arith, omega arith, omega arith, omega arith, put_length chunk_key row t.chunks)
borne_others next t (Put (rows.Node row)) borne =
    (omega arith, omega arith, omega arith, omega arith, omega arith, omega arith, omega arith, omega arith, omega arith, omega arith)
borne_others next t (Drop (keys.Member group user)) borne =
    let few = dropped_length member_key (group ∷ user ∷ []) t.members in
    (omega arith, omega arith, omega arith, omega arith, omega arith, omega arith, omega arith, omega arith, omega arith, omega arith)
borne_others next t (Drop (keys.Version node at)) borne =
    let few = dropped_length version_key (node ∷ at ∷ []) t.versions in
    (omega arith, omega arith, omega arith, omega arith, omega arith, omega arith, omega arith, omega arith, omega arith, omega arith)
borne_others next t (Drop (keys.Item node)) borne =
    let few = dropped_length item_key (node ∷ []) t.items in
    (omega arith, omega arith, omega arith, omega arith, omega arith, omega arith, omega arith, omega arith, omega arith, omega arith)
borne_others next t change borne = absurd borne

-- so they fit
pub borne_fits : (next : ℕ) (t : Tables) (change : Change) (rest : List Change) (room more : RowCounts) → Rising t.nodes
    → IsBorne next t change → IsNoSmaller room more → FitsRows t room (added_of next (change ∷ rest))
    → FitsRows (made t change) more (added_of next rest)
borne_fits next t change rest room more rising borne higher fits =
    let others = borne_others next t change borne in
    record {
      nodes = omega (arith, higher.nodes, fits.nodes, borne_nodes next t change rest rising borne);
      users = omega (arith, higher.users, fits.users, others.0, count_by-cons puts_user change rest);
      tokens = omega (arith, higher.tokens, fits.tokens, others.1, count_by-cons puts_token change rest);
      groups = omega (arith, higher.groups, fits.groups, others.2, count_by-cons puts_group change rest);
      members = omega (arith, higher.members, fits.members, others.3, count_by-cons puts_member change rest);
      shares = omega (arith, higher.shares, fits.shares, others.4, count_by-cons puts_share change rest);
      mounts = omega (arith, higher.mounts, fits.mounts, others.5, count_by-cons puts_mount change rest);
      versions = omega (arith, higher.versions, fits.versions, others.6, count_by-cons puts_version change rest);
      items = omega (arith, higher.items, fits.items, others.7, count_by-cons puts_item change rest);
      uploads = omega (arith, higher.uploads, fits.uploads, others.8, count_by-cons puts_upload change rest);
      chunks = omega (arith, higher.chunks, fits.chunks, others.9, count_by-cons puts_chunk change rest);
    }
