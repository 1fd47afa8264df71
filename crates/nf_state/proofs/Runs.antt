-- A run of items that go for good together.
use Rattle.std.proofs.Common.{ℕ, zero, suc, ◌≡◌, ◌≢◌, ◌≤◌, ◌⊎◌, inl, inr, ◌==◌, ◌&&◌, Bool, true, false, not, bytes_eq, List, [], ◌∷◌, ◌++◌, Option, None, Some, is_some, get_or, map, filter, if◌then◌else◌, refl, sym, ap, subst, ◌∙◌, arith}
use Rattle.std.specs.List.{All}
use Rattle.std.specs.List.Sorted.{IsPermutation, IsSorted}
use Rattle.std.specs.Ordering.{nat_cmp}
use Rattle.std.specs.Option.{option_and_then, option_map_or}
use Rattle.std.proofs.lemmas.Bool.{both_ways, cases_Bool, cond_both, eq-eqb, eqb-true, false_from_ne_true, or_cases, or_left, or_right}
use Rattle.std.proofs.lemmas.List.Elements.{All-head, All-tail, filter_agree}
use Rattle.std.proofs.lemmas.Bool.Decides.{nat_tests}
use Rattle.std.proofs.lemmas.List.Sorted.{IsNonDecreasingBy-from_sort, list_any-IsPermutation}
use Rattle.std.specs.declared.cmp.Ordering.TheVariants.{Greater}
use Rattle.std.proofs.lemmas.Option.{none-some, option_and_then_some, same_Some}
use Rattle.nf_base.specs.declared.limits.TheConstants.{MAX_DEPTH}
use Rattle.nf_base.specs.declared.rows.ItemRow.{ItemRow}
use Rattle.nf_base.specs.declared.rows.NodeRow.{NodeRow}
use Rattle.nf_base.specs.declared.rows.ShareRow.{ShareRow}
use Rattle.nf_base.specs.declared.rows.VersionRow.{VersionRow}
use Rattle.nf_defs.proofs.Climbs.{holds_some}
use Rattle.nf_defs.specs.Prelude.{dropped, folder_of, is_under, is_under_within, item_key, item_row, key_cmp, node_row, parent_of, Tables, without_all, without_under}
use Rattle.nf_laws.proofs.Others.{item_other}
use Rattle.nf_table.proofs.Dropped.{dropped_in_turn, has}
use Rattle.nf_table.specs.Rows.{all_dropped, AreSorted}
use Rattle.nf_words.proofs.Known.{IsItem}
use Rattle.nf_words.specs.Prelude.{deed_done, deeds_done, ended_row, ended_under, is_closing, purged, purges, versions_there}
use Rattle.nf_words.specs.declared.answer.Deed.{Deed}
use Rattle.nf_words.specs.declared.answer.Deed.TheVariants as deed
use Rattle.nf_state.specs.Gone.{item_gone}
use Rattle.nf_state.specs.Current.{BearsDeeds, IsClosed}

-- ---- fewer rows, of which none comes to be under another

none_there : (test : ℕ → Bool) (rows : List NodeRow) (node : ℕ) → test node ≡ false → node_row (filter (λ r. test r.id) rows) node ≡ None
none_there test [] node fails = refl
none_there test (x ∷ rows) node fails =
    cond_both (test x.id) (x ∷ filter (λ r. test r.id) rows) (filter (λ r. test r.id) rows) (λ (left : List NodeRow). node_row left node ≡ None)
    (λ passes.
    let other : (x.id == node) ≡ false = false_from_ne_true (x.id == node) (λ same.
    both_ways (test node) fails (ap test (sym (eqb-true x.id node same)) ∙ passes)) in
    ap (λ (b : Bool). if b then Some x else node_row (filter (λ r. test r.id) rows) node) other ∙ none_there test rows node fails)
    (λ gone. none_there test rows node fails)

-- what is there of some rows is there of all
still_there : (test : ℕ → Bool) (rows : List NodeRow) (node : ℕ) (row : NodeRow) → node_row (filter (λ r. test r.id) rows) node ≡ Some row
    → node_row rows node ≡ Some row
still_there test [] node row there = there
still_there test (x ∷ rows) node row there =
    cond_both (test x.id) (x ∷ filter (λ r. test r.id) rows) (filter (λ r. test r.id) rows)
    (λ (left : List NodeRow). node_row left node ≡ Some row → node_row (x ∷ rows) node ≡ Some row)
    (λ passes. cond_both (x.id == node) (Some x) (node_row (filter (λ r. test r.id) rows) node)
    (λ (o : Option NodeRow). o ≡ Some row → node_row (x ∷ rows) node ≡ Some row)
    (λ same is. ap (λ (b : Bool). if b then Some x else node_row rows node) same ∙ is)
    (λ other is. ap (λ (b : Bool). if b then Some x else node_row rows node) other ∙ still_there test rows node row is))
    (λ gone is.
    let other : (x.id == node) ≡ false = false_from_ne_true (x.id == node) (λ same.
    none-some row (sym (none_there test rows node (ap test (sym (eqb-true x.id node same)) ∙ gone)) ∙ is)) in
    ap (λ (b : Bool). if b then Some x else node_row rows node) other ∙ still_there test rows node row is)
    there

still_in : (test : ℕ → Bool) (rows : List NodeRow) (node parent : ℕ) → parent_of (filter (λ r. test r.id) rows) node ≡ Some parent
    → parent_of rows node ≡ Some parent
still_in test rows node parent above =
    option_and_then_some (λ (row : NodeRow). folder_of row.place) (node_row (filter (λ r. test r.id) rows) node) parent above
    (λ row there placed. ap (option_and_then (λ (row : NodeRow). folder_of row.place)) (still_there test rows node row there) ∙ placed)

was_within : (test : ℕ → Bool) (k : ℕ) (rows : List NodeRow) (node top : ℕ) → is_under_within k (filter (λ r. test r.id) rows) node top ≡ true
    → is_under_within k rows node top ≡ true
unfolding is_under_within
was_within test zero rows node top is = is
was_within test (suc k) rows node top is =
    elim (or_cases (node == top) (option_map_or (λ parent. is_under_within k (filter (λ r. test r.id) rows) parent top) (parent_of (filter (λ r. test r.id) rows) node) false) is) [
      | inl same ↦ or_left (node == top) (option_map_or (λ parent. is_under_within k rows parent top) (parent_of rows node) false) same
      | inr above ↦
          (let up = holds_some (λ parent. is_under_within k (filter (λ r. test r.id) rows) parent top) (parent_of (filter (λ r. test r.id) rows) node) above in
          or_right (node == top) (option_map_or (λ parent. is_under_within k rows parent top) (parent_of rows node) false)
          (ap (λ (o : Option ℕ). option_map_or (λ parent. is_under_within k rows parent top) o false) (still_in test rows node up.0 up.1)
          ∙ was_within test k rows up.0 top up.2))
    ]

was_under : (rows : List NodeRow) (gone node top : ℕ) → is_under (without_under rows gone) node top ≡ true → is_under rows node top ≡ true
unfolding is_under
was_under rows gone node top is = was_within (λ node. not (is_under rows node gone)) MAX_DEPTH rows node top is

-- ---- no share is left to end

-- so none ends
ended_before : (rows : List NodeRow) (top : ℕ) (shares : List ShareRow) → All (λ (share : ShareRow). is_closing rows top share ≡ false) shares
    → ended_under rows top shares ≡ shares
ended_before rows top [] all = refl
ended_before rows top (share ∷ shares) all =
    let Stays : ShareRow → Type 0 = λ share. is_closing rows top share ≡ false in
    let rest = ended_before rows top shares (All-tail Stays share shares all) in
    let one : (if is_under rows share.node top then ended_row share else share) ≡ share =
    cond_both (is_under rows share.node top) (ended_row share) share (λ (row : ShareRow). row ≡ share)
    (λ under. was share.ended refl (ap (λ (b : Bool). not share.ended && b) (sym under) ∙ All-head Stays share shares all))
    (λ outside. refl) in
    ap (λ (row : ShareRow). row ∷ ended_under rows top shares) one ∙ ap (λ (others : List ShareRow). share ∷ others) rest
  where
    was : (b : Bool) → share.ended ≡ b → (not share.ended && true) ≡ false → ended_row share ≡ share
    was true e is = ap (λ (b : Bool). record share { ended = b }) (sym e)
    was false e is = absurd (both_ways (not share.ended && true) is (ap (λ (b : Bool). not b && true) e))

-- and with another node gone there is none either
closed_still : (t : Tables) (gone top : ℕ) → IsClosed t top → IsClosed (record t { nodes = without_under t.nodes gone }) top
closed_still t gone top closed k d within =
    let share : ShareRow = get_or t.shares k d in
    false_from_ne_true (is_closing (without_under t.nodes gone) top share) (λ is.
    both_ways (is_closing t.nodes top share) (closed k d within)
    (both (not share.ended) (is_under (without_under t.nodes gone) share.node top) (is_under t.nodes share.node top) is (was_under t.nodes gone share.node top)))
  where
    both : (a b c : Bool) → (a && b) ≡ true → (b ≡ true → c ≡ true) → (a && c) ≡ true
    both true b c is up = up is
    both false b c is up = is

-- ---- the tables after a run

-- the versions, where those of nodes that are there no more go one after the other
abbrev pub versions_in_turn : List NodeRow → List ℕ → List VersionRow → List VersionRow
versions_in_turn rows [] versions = versions
versions_in_turn rows (top ∷ tops) versions = versions_in_turn (without_under rows top) tops (versions_there (without_under rows top) versions)

-- what is there of fewer rows is there of all
all_still : (rows : List NodeRow) (run : List ℕ) (node : ℕ) → is_some (node_row (without_all rows run) node) ≡ true → is_some (node_row rows node) ≡ true
all_still rows [] node is = is
all_still rows (top ∷ run) node is = one (node_row (without_under rows top) node) refl (all_still (without_under rows top) run node is)
  where
    one : (o : Option NodeRow) → node_row (without_under rows top) node ≡ o → is_some o ≡ true → is_some (node_row rows node) ≡ true
    one None e there = absurd (cc)
    one (Some row) e there = ap is_some (still_there (λ node. not (is_under rows node top)) rows node row e)

-- so those that stay at last stayed before
there_twice : (fewer rows : List NodeRow) (versions : List VersionRow)
    → ((node : ℕ) → is_some (node_row fewer node) ≡ true → is_some (node_row rows node) ≡ true)
    → versions_there fewer (versions_there rows versions) ≡ versions_there fewer versions
there_twice fewer rows [] still = refl
there_twice fewer rows (x ∷ versions) still =
    here (is_some (node_row rows x.node)) (is_some (node_row fewer x.node)) refl refl (there_twice fewer rows versions still)
  where
    here : (a b : Bool) → is_some (node_row rows x.node) ≡ a → is_some (node_row fewer x.node) ≡ b
        → versions_there fewer (versions_there rows versions) ≡ versions_there fewer versions
        → versions_there fewer (if a then x ∷ versions_there rows versions else versions_there rows versions)
        ≡ (if b then x ∷ versions_there fewer versions else versions_there fewer versions)
    here true true e f rest = rw f (ap (λ (all : List VersionRow). x ∷ all) rest)
    here true false e f rest = rw f rest
    here false true e f rest = absurd (both_ways (is_some (node_row rows x.node)) e (still x.node f))
    here false false e f rest = rest

-- all at once, where some go
pub turn_versions : (rows : List NodeRow) (top : ℕ) (run : List ℕ) (versions : List VersionRow)
    → versions_in_turn rows (top ∷ run) versions ≡ versions_there (without_all rows (top ∷ run)) versions
turn_versions rows top [] versions = refl
turn_versions rows top (next ∷ run) versions =
    turn_versions (without_under rows top) next run (versions_there (without_under rows top) versions)
    ∙ there_twice (without_all (without_under rows top) (next ∷ run)) (without_under rows top) versions (all_still (without_under rows top) (next ∷ run))

pub run_gone : (rows : List NodeRow) (run : List ℕ) (versions : List VersionRow) → run ≢ []
    → versions_there (without_all rows run) versions ≡ versions_in_turn rows run versions
run_gone rows [] versions some = absurd (some refl)
run_gone rows (top ∷ run) versions some = sym (turn_versions rows top run versions)

-- those where some nodes are gone with their items and versions
abbrev pub left : Tables → List ℕ → Tables
left t run = record t {
  nodes = without_all t.nodes run;
  items = all_dropped item_key (map (λ node. node ∷ []) run) t.items;
  versions = versions_in_turn t.nodes run t.versions;
}

-- it is an item of the trash, or no share is left to end
abbrev pub IsReady : Tables → ℕ → Type 0
IsReady t node = IsItem t node ⊎ IsClosed t node

one_purged : (t : Tables) (node : ℕ) → IsClosed t node → purged t node ≡ left t (node ∷ [])
one_purged t node closed =
    ap (λ (shares : List ShareRow). record t {
      nodes = without_under t.nodes node;
      shares = shares;
      items = dropped item_key (node ∷ []) t.items;
      versions = versions_there (without_under t.nodes node) t.versions;
    })
    (ended_before t.nodes node t.shares closed)

still_ready : (t : Tables) (gone node : ℕ) → IsClosed t gone → IsReady t node → IsReady (left t (gone ∷ [])) node
still_ready t gone node closed (inr was) = inr (closed_still t gone node was)
still_ready t gone node closed (inl is) =
    elim (cases_Bool (node == gone)) [
      | inl same ↦ inr (subst (λ n. IsClosed (left t (gone ∷ [])) n) (sym (eqb-true node gone same)) (closed_still t gone gone closed))
      | inr other ↦ inl (ap is_some (item_other gone node t.items (λ same. both_ways (node == gone) other (eq-eqb node gone same))) ∙ is)
    ]

pub run_left : (t : Tables) (run : List ℕ) → All (IsReady t) run → BearsDeeds t (purges run) → deeds_done t (purges run) ≡ left t run
run_left t [] ready bears = refl
run_left t (node ∷ run) ready bears =
    let closed : IsClosed t node = elim (All-head (IsReady t) node run ready) [ inl is ↦ bears.0 is | inr closed ↦ closed ] in
    let one = one_purged t node closed in
    let rest = All-tail (IsReady t) node run ready in
    ap (λ (u : Tables). deeds_done u (purges run)) one
    ∙ run_left (left t (node ∷ [])) run (λ k d within. still_ready t node (get_or run k d) closed (rest k d within))
    (subst (λ (u : Tables). BearsDeeds u (purges run)) one bears.1)

-- ---- items in any order

pub any_order : (items : List ItemRow) (run sorted : List ℕ) → IsPermutation run sorted
    → all_dropped item_key (map (λ node. node ∷ []) sorted) items ≡ all_dropped item_key (map (λ node. node ∷ []) run) items
any_order items run sorted same =
    let single : ℕ → List ℕ = λ node. node ∷ [] in
    dropped_in_turn item_key single sorted items
    ∙ filter_agree (λ row. not (has item_key single sorted row)) (λ row. not (has item_key single run row))
    (λ row. ap not (sym (list_any-IsPermutation (λ node. bytes_eq (single node) (item_key row)) run sorted same))) items
    ∙ sym (dropped_in_turn item_key single run items)

-- ---- deeds behind others

pub bears_both : (t : Tables) (first last : List Deed) → BearsDeeds t (first ++ last) → BearsDeeds t first × BearsDeeds (deeds_done t first) last
bears_both t [] last bears = (tt, bears)
bears_both t (one ∷ first) last bears = let rest = bears_both (deed_done t one) first last bears.1 in ((bears.0, rest.0), rest.1)

pub done_both : (t : Tables) (first last : List Deed) → deeds_done t (first ++ last) ≡ deeds_done (deeds_done t first) last
done_both t [] last = refl
done_both t (one ∷ first) last = done_both (deed_done t one) first last

-- one node more in the run
pub run_more : (run : List ℕ) (node : ℕ) (deeds : List Deed) → purges (run ++ node ∷ []) ++ deeds ≡ purges run ++ deed.Purge node ∷ deeds
run_more [] node deeds = refl
run_more (first ∷ run) node deeds = ap (λ (rest : List Deed). deed.Purge first ∷ rest) (run_more run node deeds)

-- a deed that takes out an item is a purge of it
pub item_is : (t : Tables) (one : Deed) (node : ℕ) → item_gone t one ≡ Some node → (one ≡ deed.Purge node) × IsItem t node
item_is t (deed.Purge node) top is = here (is_some (item_row t.items node)) refl is
  where
    here : (b : Bool) → is_some (item_row t.items node) ≡ b → (if b then Some node else None) ≡ Some top → (deed.Purge node ≡ deed.Purge top) × IsItem t top
    here true e is = (ap (λ n. deed.Purge n) (same_Some node top is), subst (λ n. is_some (item_row t.items n) ≡ true) (same_Some node top is) e)
    here false e is = absurd (none-some top is)
item_is t other node is = absurd (none-some node is)

-- sorted nodes are sorted keys
no_higher : (a b : ℕ) → a ≤ b → key_cmp (a ∷ []) (b ∷ []) ≢ Greater
no_higher a b le above = grind (arith, nat_tests)

pub sorted_keys : (run : List ℕ) → IsSorted nat_cmp run → AreSorted (λ node. node ∷ []) run
sorted_keys run sorted i j d before within =
    no_higher (get_or run i d) (get_or run j d) (IsNonDecreasingBy-from_sort (λ (n : ℕ). n) run sorted i j d (omega arith) within)
