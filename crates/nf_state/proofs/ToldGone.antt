-- What goes for good: each is told of the tables before all of it, since nothing of one is under another.
use Rattle.std.proofs.Common.{◌≡◌, ◌≢◌, inl, inr, ℕ, suc, ◌==◌, ◌&&◌, Bool, false, true, not, List, [], ◌∷◌, ◌++◌, Option, None, Some, filter, get_or, if◌then◌else◌, map, refl, sym, ap, subst, ◌∙◌, arith}
use Rattle.std.specs.Prelude.{is_some}
use Rattle.std.specs.List.{All, AllPairs, Contains, flat_map}
use Rattle.std.specs.Option.{option_map_or}
use Rattle.std.proofs.lemmas.Bool.{both_ways, cases_Bool, cond_both, eqb-true, false_from_ne_true, not-false}
use Rattle.std.proofs.lemmas.List.{append-nil}
use Rattle.std.proofs.lemmas.List.Elements.{All-contains_itself, All-head, All-tail}
use Rattle.std.proofs.lemmas.Option.{same_Some}
use Rattle.nf_base.specs.declared.changes.Change.{Change}
use Rattle.nf_base.specs.declared.changes.Change.TheVariants.{Drop}
use Rattle.nf_base.specs.declared.changes.RowKey.TheVariants as keys
use Rattle.nf_base.specs.declared.limits.TheConstants.{MAX_DEPTH}
use Rattle.nf_base.specs.declared.rows.NodeRow.{NodeRow}
use Rattle.nf_base.specs.declared.rows.ShareRow.{ShareRow}
use Rattle.nf_base.specs.declared.rows.VersionRow.{VersionRow}
use Rattle.nf_defs.proofs.Climbs.{under_climb}
use Rattle.nf_defs.proofs.Walks.{climbs_walk, inside_of, node_row_each, walk_climbs}
use Rattle.nf_defs.specs.Prelude.{by_name, children_of, climb, folder_of, is_file, is_folder_kind, is_in, is_under, node_row, parent_of, Tables, walk_of, without_under}
use Rattle.nf_laws.proofs.Climbs.{climbs_no_further, parent_at}
use Rattle.nf_laws.proofs.Gone.{row_left}
use Rattle.nf_laws.proofs.Present.{below_present, never_trash}
use Rattle.nf_laws.proofs.InTurn.{item_outside, item_stays}
use Rattle.nf_laws.proofs.Sources.{filter_left, walk_by}
use Rattle.nf_laws.proofs.Trashed.{item_top, purged_sound}
use Rattle.nf_laws.proofs.Upwards.{climb_short}
use Rattle.nf_words.proofs.Known.{IsItem}
use Rattle.nf_words.specs.Prelude.{AreSound, closed_under, dropped_under, forgotten_of, forgotten_under, gone_under, is_closing, LeadsToRoot, purged, purges, told_deed, told_deeds, told_item, versions_of}
use Rattle.nf_words.specs.declared.answer.Deed.TheVariants as deed
use Rattle.nf_state.specs.Gone.{told_first, told_gone}

-- ---- what is under an item, in other tables

-- each node that is under another has the same children and versions there
abbrev pub SameUnder : Tables → Tables → ℕ → Type 0
SameUnder t u top =
    (j folder : ℕ) → climb t.nodes j folder ≡ Some top
    → (children_of u.nodes folder ≡ children_of t.nodes folder) × (versions_of u.versions folder ≡ versions_of t.versions folder)

-- so the walk from it is the same
pub same_walk : (t u : Tables) (top : ℕ) → AreSound t → SameUnder t u top → walk_of u.nodes top ≡ walk_of t.nodes top
unfolding walk_of
same_walk t u top sound same = walk_by MAX_DEPTH t u.nodes top sound (λ j folder up. (same j folder up).0) 0 top refl

-- and what climbs to it does so there
still_climbs : (t u : Tables) (top j node : ℕ) → AreSound t → AreSound u → SameUnder t u top → climb t.nodes j node ≡ Some top
    → (k : ℕ) × (climb u.nodes k node ≡ Some top)
still_climbs t u top j node sound also same up =
    let was = climbs_walk j t.nodes top node (climb_short j t node top sound up) up in
    let is = walk_climbs u.nodes top node also.rising (subst (λ (nodes : List ℕ). Contains nodes node) (sym (same_walk t u top sound same)) was) in
    (is.0, is.2)

-- ---- versions of what goes, and of what stays

-- where all that a second test keeps out fails the first, the first alone says what is left
pub still_left : {X : Type 0} (p q : X → Bool) (rows : List X) → All (λ (row : X). q row ≡ false → p row ≡ false) rows
    → filter p (filter q rows) ≡ filter p rows
still_left p q [] own = refl
still_left {X = X} p q (x ∷ rows) own =
    let rest = still_left p q rows (All-tail (λ (row : X). q row ≡ false → p row ≡ false) x rows own) in
    cond_both (q x) (x ∷ filter q rows) (filter q rows) (λ left. filter p left ≡ filter p (x ∷ rows))
    (λ e. ap (λ (left : List X). if p x then x ∷ left else left) rest)
    (λ e. rest ∙ sym (ap (λ (b : Bool). if b then x ∷ filter p rows else filter p rows) (All-head (λ (row : X). q row ≡ false → p row ≡ false) x rows own e)))

-- a version's node is there
node_there : (t : Tables) (node : ℕ) → is_file t.nodes node ≡ true → is_some (node_row t.nodes node) ≡ true
node_there t node is = here (node_row t.nodes node) is
  where
    here : (o : Option NodeRow) → option_map_or (λ row. not (is_folder_kind row.kind)) o false ≡ true → is_some o ≡ true
    here None is = absurd (cc)
    here (Some row) is = refl

-- so what isn't under a node that goes keeps its versions
pub versions_left : (t : Tables) (top node : ℕ) → AreSound t → is_under t.nodes node top ≡ false
    → versions_of (purged t top).versions node ≡ versions_of t.versions node
versions_left t top node sound outside =
    still_left (λ (row : VersionRow). row.node == node) (λ (row : VersionRow). is_some (node_row (without_under t.nodes top) row.node)) t.versions
    (λ k d within goes.
    let row : VersionRow = get_or t.versions k d in
    false_from_ne_true (row.node == node) (λ same.
    let out : is_under t.nodes row.node top ≡ false = ap (λ (n : ℕ). is_under t.nodes n top) (eqb-true row.node node same) ∙ outside in
    both_ways (is_some (node_row (without_under t.nodes top) row.node)) goes
    (ap is_some (row_left t.nodes top row.node out) ∙ node_there t row.node (sound.others.versions k d within).file)))

-- those of what is under a node are told the same
flat_same : (f g : ℕ → List Change) (nodes : List ℕ) → All (λ (node : ℕ). f node ≡ g node) nodes → flat_map f nodes ≡ flat_map g nodes
flat_same f g [] same = refl
flat_same f g (node ∷ nodes) same =
    ap (λ (front : List Change). front ++ flat_map f nodes) (All-head (λ (node : ℕ). f node ≡ g node) node nodes same)
    ∙ ap (λ (rest : List Change). g node ++ rest) (flat_same f g nodes (All-tail (λ (node : ℕ). f node ≡ g node) node nodes same))

pub same_forgotten : (t u : Tables) (top : ℕ) → AreSound t → SameUnder t u top
    → forgotten_under u.nodes u.versions top ≡ forgotten_under t.nodes t.versions top
same_forgotten t u top sound same =
    ap (λ (nodes : List ℕ). flat_map (forgotten_of u.versions) nodes) (same_walk t u top sound same)
    ∙ flat_same (forgotten_of u.versions) (forgotten_of t.versions) (walk_of t.nodes top) (λ k d within.
    let node = get_or (walk_of t.nodes top) k d in
    let up = walk_climbs t.nodes top node sound.rising (All-contains_itself (walk_of t.nodes top) k d within) in
    ap (λ (rows : List VersionRow). map (λ row. Drop (keys.Version row.node row.at)) rows) (same up.0 node up.2).1)

-- no node climbs to both
abbrev pub AreApartIn : List NodeRow → ℕ → ℕ → Type 0
AreApartIn rows a b = (node i k : ℕ) → climb rows i node ≡ Some a → climb rows k node ≡ Some b → ⊥

-- so what is under the one is the same without the other
pub purge_same : (t u : Tables) (node top : ℕ) → AreSound t → AreSound u → AreApartIn u.nodes node top → SameUnder t u top
    → SameUnder t (purged u node) top
purge_same t u node top sound also apart same j folder up = (
  ap (λ (rows : List NodeRow). map (λ row. row.id) (by_name rows))
      (filter_left (is_in folder) (λ row. not (is_under u.nodes row.id node)) u.nodes none_goes) ∙ (same j folder up).0,
  versions_left u node folder also outside ∙ (same j folder up).1,
)
  where
    outside : is_under u.nodes folder node ≡ false
    outside =
        false_from_ne_true (is_under u.nodes folder node) (λ under.
        let c = still_climbs t u top j folder sound also same up in
        let e = under_climb u.nodes folder node under in
        apart folder e.0 c.0 e.2 c.1)

    none_goes : All (λ (row : NodeRow). not (is_under u.nodes row.id node) ≡ false → is_in folder row ≡ false) u.nodes
    none_goes k d within goes =
        let row : NodeRow = get_or u.nodes k d in
        false_from_ne_true (is_in folder row) (λ is.
        let above = parent_at u.nodes row.id folder row (node_row_each u.nodes also.rising k d within) (inside_of folder row.place is) in
        let c = still_climbs t u top j folder sound also same up in
        let e = under_climb u.nodes row.id node (not-false (is_under u.nodes row.id node) goes) in
        apart row.id e.0 (suc c.0) e.2 (rw above c.1))

-- ---- what is apart

-- what climbs to an item climbs to no other
items_apart : (u : Tables) (a b : ℕ) → AreSound u → IsItem u a → IsItem u b → a ≢ b → AreApartIn u.nodes a b
items_apart u a b sound one two differs node i k up over =
    let less = climbs_no_further i k u.nodes node a b (ends a one) up over in
    let more = climbs_no_further k i u.nodes node b a (ends b two) over up in
    let steps : i ≡ k = omega (arith, less, more) in
    differs (same_Some a b (sym up ∙ ap (λ (n : ℕ). climb u.nodes n node) steps ∙ over))
  where
    ends : (top : ℕ) → IsItem u top → parent_of u.nodes top ≡ None
    ends top is = let row = item_top u top sound is in rw row.1 (ap folder_of row.2)

-- nor to what is present
pub present_apart : (u : Tables) (a b : ℕ) → AreSound u → LeadsToRoot u.nodes a → IsItem u b → AreApartIn u.nodes a b
present_apart u a b sound present is node i k up over =
    let top = item_top u b sound is in never_trash k u.nodes node b top.0 (below_present i u.nodes node a up present) over top.1 top.2

-- ---- what an item that goes is told as

-- shares none of which has to end
none_closing : (rows : List NodeRow) (top : ℕ) (shares : List ShareRow) → All (λ (share : ShareRow). is_closing rows top share ≡ false) shares
    → closed_under rows shares top ≡ []
none_closing rows top [] all = refl
none_closing rows top (share ∷ shares) all =
    let Stays : ShareRow → Type 0 = λ share. is_closing rows top share ≡ false in
    rw (All-head Stays share shares all) (none_closing rows top shares (All-tail Stays share shares all))

-- no share of what is under an item is left to end
pub item_shares : (u : Tables) (top : ℕ) → AreSound u → IsItem u top → All (λ (share : ShareRow). is_closing u.nodes top share ≡ false) u.shares
item_shares u top sound is k d within =
    let share : ShareRow = get_or u.shares k d in
    elim (cases_Bool share.ended) [
      | inl ended ↦ ap (λ (b : Bool). not b && is_under u.nodes share.node top) ended
      | inr still ↦
          ap (λ (b : Bool). not b && is_under u.nodes share.node top) still
          ∙ item_outside u top share.node sound is ((sound.others.shares k d within).present still)
    ]

item_closed : (u : Tables) (top : ℕ) → AreSound u → IsItem u top → closed_under u.nodes u.shares top ≡ []
item_closed u top sound is = none_closing u.nodes top u.shares (item_shares u top sound is)

-- where what is under it is the same, it is told of the first tables
item_told : (t u : Tables) (top : ℕ) → AreSound t → AreSound u → IsItem t top → IsItem u top → SameUnder t u top
    → told_deed u (deed.Purge top) ≡ told_gone t top
item_told t u top sound also was is same =
    let dropped = dropped_under t.nodes top in
    ap (λ (changes : List Change). changes ++ (gone_under u.nodes u.shares top ++ told_item u top)) (same_forgotten t u top sound same)
    ∙ ap (λ (changes : List Change). forgotten_under t.nodes t.versions top ++ changes)
    (ap (λ (nodes : List ℕ). (map (λ node. Drop (keys.Node node)) nodes ++ closed_under u.nodes u.shares top) ++ told_item u top) (same_walk t u top sound same)
    ∙ ap (λ (closed : List Change). (dropped ++ closed) ++ told_item u top) (item_closed u top also is)
    ∙ ap (λ (changes : List Change). changes ++ told_item u top) (append-nil dropped)
    ∙ ap (λ (b : Bool). dropped ++ (if b then Drop (keys.Item top) ∷ [] else [])) is
    ∙ sym (ap (λ (b : Bool). if b then dropped ++ Drop (keys.Item top) ∷ [] else gone_under t.nodes t.shares top) was))

-- and so are items one after the other
pub items_told : (t u : Tables) (gone : List ℕ) → AreSound t → AreSound u → All (IsItem t) gone → All (IsItem u) gone → All (SameUnder t u) gone
    → AllPairs (λ (a b : ℕ). a ≢ b) gone → told_deeds u (purges gone) ≡ flat_map (told_first t) (purges gone)
items_told t u [] sound also were are same once = refl
items_told t u (node ∷ nodes) sound also were are same once =
    let is = All-head (IsItem u) node nodes are in
    let rest = All-tail (IsItem u) node nodes are in
    ap (λ (changes : List Change). changes ++ told_deeds (purged u node) (purges nodes))
    (item_told t u node sound also (All-head (IsItem t) node nodes were) is (All-head (SameUnder t u) node nodes same))
    ∙ ap (λ (changes : List Change). told_gone t node ++ changes)
    (items_told t (purged u node) nodes sound (purged_sound u node also (inl is)) (All-tail (IsItem t) node nodes were) (item_stays u node nodes once rest)
    (λ k d within.
    purge_same t u node (get_or nodes k d) sound also
    (items_apart u node (get_or nodes k d) also is (rest k d within) (once 0 (suc k) d (omega arith) (omega (arith, within))))
    (All-tail (SameUnder t u) node nodes same k d within))
    (λ i j d before within. once (suc i) (suc j) d (omega (arith, before)) (omega (arith, within))))
