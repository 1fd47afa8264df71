-- What goes for good, row by row: the nodes under each that goes, and its item; all else stays.
use Rattle.std.proofs.Common.{ℕ, zero, suc, ◌==◌, ◌≡◌, ◌≢◌, Bool, true, false, List, [], ◌∷◌, Some, None, get_or, if◌then◌else◌, inl, inr, refl, sym, ap, subst, ◌∙◌, arith}
use Rattle.std.specs.List.{All, Contains}
use Rattle.std.proofs.lemmas.Bool.{both_ways, cases_Bool, eq-eqb, eqb-true, false_from_ne_true}
use Rattle.std.proofs.lemmas.List.Elements.{All-cons, All-head, All-nil, All-tail}
use Rattle.std.proofs.lemmas.Option.{option_and_then_some, same_Some}
use Rattle.nf_base.specs.declared.rows.ItemRow.{ItemRow}
use Rattle.nf_base.specs.declared.rows.NodeRow.{NodeRow}
use Rattle.nf_base.specs.declared.rows.ShareRow.{ShareRow}
use Rattle.nf_defs.proofs.Climbs.{under_climb}
use Rattle.nf_defs.specs.Prelude.{climb, dropped, folder_of, is_under, item_key, item_row, node_row, parent_of, Tables, without_under}
use Rattle.nf_laws.proofs.Climbs.{climbs_no_further}
use Rattle.nf_laws.proofs.Gone.{climb_left, row_gone, row_left}
use Rattle.nf_laws.proofs.InTurn.{item_outside, item_stays}
use Rattle.nf_laws.proofs.Others.{item_gone, item_other}
use Rattle.nf_laws.proofs.Rows.{found_is}
use Rattle.nf_laws.proofs.Trashed.{item_top, purged_sound}
use Rattle.nf_laws.proofs.Upwards.{climbed, climbs_is_under, derived}
use Rattle.nf_laws.proofs.Walked.{AreDistinct}
use Rattle.nf_laws.specs.Acts.{IsGoneWith, IsUnderOne}
use Rattle.nf_laws.specs.Tree.{Under}
use Rattle.nf_words.proofs.Known.{IsItem}
use Rattle.nf_words.specs.Others.{IsItemSound}
use Rattle.nf_words.specs.Prelude.{AreSound, deeds_done, ended_row, ended_under, LeadsToRoot, purged, purges}

-- an item that is found is of that node, and sound
pub item_is : (t : Tables) (node : ℕ) → AreSound t → (item : ItemRow) → item_row t.items node ≡ Some item → (item.node ≡ node) × IsItemSound t item
item_is t node sound item is =
    let h = found_is (IsItemSound t) (λ (row : ItemRow). row.node == node) t.items item sound.others.items is in (eqb-true item.node node h.0, h.1)

-- ---- under

-- what is under a top is what the test says
pub under_is : (t : Tables) (top node : ℕ) → AreSound t → Under t.nodes top node → is_under t.nodes node top ≡ true
under_is t top node sound under = let c = climbed t.nodes top node under in climbs_is_under c.0 t node top sound c.1

pub outside_is : (rows : List NodeRow) (top node : ℕ) → (Under rows top node → ⊥) → is_under rows node top ≡ false
outside_is rows top node outside =
    false_from_ne_true (is_under rows node top) (λ is. let c = under_climb rows node top is in outside (derived c.0 rows top node c.2))

-- what is present is under no item
pub present_off : (t : Tables) (top node : ℕ) → AreSound t → IsItem t top → LeadsToRoot t.nodes node → Under t.nodes top node → ⊥
present_off t top node sound is present below =
    both_ways (is_under t.nodes node top) (item_outside t top node sound is present) (under_is t top node sound below)

-- where all nodes but one are in the same folders as before, and that one isn't under a top, all that was under the top is
climb_beside : (rows others : List NodeRow) (changed top : ℕ) → ((node : ℕ) → node ≢ changed → parent_of others node ≡ parent_of rows node)
    → (Under rows top changed → ⊥) → (j node : ℕ) → climb rows j node ≡ Some top → climb others j node ≡ Some top
climb_beside rows others changed top same apart zero node is = is
climb_beside rows others changed top same apart (suc j) node is =
    let differs : node ≢ changed = λ e. apart (subst (Under rows top) e (derived (suc j) rows top node is)) in
    option_and_then_some (climb rows j) (parent_of rows node) top is (λ parent above is.
    let stays : parent_of others node ≡ Some parent = same node differs ∙ above in
    rw stays (climb_beside rows others changed top same apart j parent is))

pub under_beside : (rows others : List NodeRow) (changed top : ℕ) → ((node : ℕ) → node ≢ changed → parent_of others node ≡ parent_of rows node)
    → (Under rows top changed → ⊥) → (node : ℕ) → Under rows top node → Under others top node
under_beside rows others changed top same apart node under =
    let c = climbed rows top node under in derived c.0 others top node (climb_beside rows others changed top same apart c.0 node c.1)

-- two tops in no folder that a node is under are one
ends_same : (rows : List NodeRow) (node a b : ℕ) → parent_of rows a ≡ None → parent_of rows b ≡ None → Under rows a node → Under rows b node
    → a ≡ b
ends_same rows node a b one other under too =
    let c = climbed rows a node under in
    let d = climbed rows b node too in
    let less = climbs_no_further c.0 d.0 rows node a b one c.1 d.1 in
    let more = climbs_no_further d.0 c.0 rows node b a other d.1 c.1 in
    let steps : c.0 ≡ d.0 = omega (arith, less, more) in
    same_Some a b (sym c.1 ∙ ap (λ (n : ℕ). climb rows n node) steps ∙ d.1)

-- so of two items nothing is under both
items_apart : (t : Tables) (top other : ℕ) → AreSound t → IsItem t top → IsItem t other → top ≢ other → (node : ℕ) → Under t.nodes other node
    → is_under t.nodes node top ≡ false
items_apart t top other sound one two differs node under =
    outside_is t.nodes top node (λ too. differs (ends_same t.nodes node top other (ends top one) (ends other two) too under))
  where
    ends : (node : ℕ) → IsItem t node → parent_of t.nodes node ≡ None
    ends node is = let row = item_top t node sound is in rw row.1 (ap folder_of row.2)

-- ---- tables without what is under one

module _ (t : Tables) (top : ℕ) (sound : AreSound t) where
  -- what isn't under it is under the same as before
  under_left : (other node : ℕ) → is_under t.nodes node top ≡ false → Under t.nodes other node → Under (without_under t.nodes top) other node
  under_left other node stays under =
      let c = climbed t.nodes other node under in
      derived c.0 (without_under t.nodes top) other node (climb_left t top c.0 node sound stays ∙ c.1)

  under_was : (other node : ℕ) → is_under t.nodes node top ≡ false → Under (without_under t.nodes top) other node → Under t.nodes other node
  under_was other node stays under =
      let c = climbed (without_under t.nodes top) other node under in
      derived c.0 t.nodes other node (sym (climb_left t top c.0 node sound stays) ∙ c.1)

-- where there is no node, there is none after
row_empty : (rows : List NodeRow) (top node : ℕ) → node_row rows node ≡ None → node_row (without_under rows top) node ≡ None
row_empty rows top node none =
    elim (cases_Bool (is_under rows node top)) [
      | inl goes ↦ row_gone rows top node goes
      | inr stays ↦ row_left rows top node stays ∙ none
    ]

-- nor an item
item_empty : (items : List ItemRow) (node other : ℕ) → item_row items other ≡ None → item_row (dropped item_key (node ∷ []) items) other ≡ None
item_empty items node other none =
    elim (cases_Bool (other == node)) [
      | inl e ↦ subst (λ (n : ℕ). item_row (dropped item_key (node ∷ []) items) n ≡ None) (sym (eqb-true other node e)) (item_gone node items)
      | inr e ↦ item_other node other items (λ same. both_ways (other == node) e (eq-eqb other node same)) ∙ none
    ]

-- ---- what goes, row by row

-- those nodes are gone with all under each, and so are their items; all other nodes and items are as they were
pub record ArePurged (t after : Tables) (tops : List ℕ) : Type 0 where
  pub gone : All (IsGoneWith t.nodes after.nodes) tops
  pub others : (node : ℕ) → (IsUnderOne t.nodes tops node → ⊥) → node_row after.nodes node ≡ node_row t.nodes node
  pub none : All (λ (top : ℕ). item_row after.items top ≡ None) tops
  pub items : (node : ℕ) → (Contains tops node → ⊥) → item_row after.items node ≡ item_row t.items node
  pub no_nodes : (node : ℕ) → node_row t.nodes node ≡ None → node_row after.nodes node ≡ None
  pub no_items : (node : ℕ) → item_row t.items node ≡ None → item_row after.items node ≡ None

none_purged : (t : Tables) → ArePurged t t []
none_purged t = record {
  gone = All-nil (IsGoneWith t.nodes t.nodes);
  others = λ node outside. refl;
  none = All-nil (λ (top : ℕ). item_row t.items top ≡ None);
  items = λ node off. refl;
  no_nodes = λ node none. none;
  no_items = λ node none. none;
}

more_among : (tops : List ℕ) (top node : ℕ) → Contains tops node → Contains (top ∷ tops) node
more_among tops top node (k, within, is) = (suc k, omega (arith, within), is)

-- one before others, where nothing that is under one of these is under it
pub purged_before : (t after : Tables) (top : ℕ) (tops : List ℕ) → AreSound t
    → All (λ (other : ℕ). (node : ℕ) → Under t.nodes other node → is_under t.nodes node top ≡ false) tops → ArePurged (purged t top) after tops
    → ArePurged t after (top ∷ tops)
purged_before t after top tops sound apart h = record {
  gone = All-cons (IsGoneWith t.nodes after.nodes) top tops
      (λ node under. h.no_nodes node (row_gone t.nodes top node (under_is t top node sound under)))
      (λ k d within node under.
      let other = get_or tops k d in h.gone k d within node (under_left t top sound other node (apart k d within node under) under));
  others = λ node outside.
      let stays = outside_is t.nodes top node (λ under. outside (top, (0, omega arith, refl), under)) in
      h.others node (λ one. outside (one.0, more_among tops top one.0 one.1, under_was t top sound one.0 node stays one.2))
      ∙ row_left t.nodes top node stays;
  none = All-cons (λ (other : ℕ). item_row after.items other ≡ None) top tops (h.no_items top (item_gone top t.items)) h.none;
  items = λ node off.
      h.items node (λ among. off (more_among tops top node among))
      ∙ item_other top node t.items (λ same. off (0, omega arith, sym same));
  no_nodes = λ node none. h.no_nodes node (row_empty t.nodes top node none);
  no_items = λ node none. h.no_items node (item_empty t.items top node none);
}

-- and no other row of the tables is another
pub purged_rest : (t : Tables) (tops : List ℕ)
    → deeds_done t (purges tops) ≡ record t {
      nodes = (deeds_done t (purges tops)).nodes;
      shares = (deeds_done t (purges tops)).shares;
      versions = (deeds_done t (purges tops)).versions;
      items = (deeds_done t (purges tops)).items;
    }
purged_rest t [] = refl
purged_rest t (top ∷ tops) = purged_rest (purged t top) tops

-- ---- items that go

-- each differs from those after it
pub first_differs : (top : ℕ) (tops : List ℕ) → AreDistinct (top ∷ tops) → All (λ (other : ℕ). top ≢ other) tops
first_differs top tops once k d within = once 0 (suc k) d (omega arith) (omega (arith, within))

pub rest_distinct : (top : ℕ) (tops : List ℕ) → AreDistinct (top ∷ tops) → AreDistinct tops
rest_distinct top tops once i j d before within = once (suc i) (suc j) d (omega (arith, before)) (omega (arith, within))

-- items that go are gone one after the other
pub items_purged : (t : Tables) (tops : List ℕ) → AreSound t → All (IsItem t) tops → AreDistinct tops → ArePurged t (deeds_done t (purges tops)) tops
items_purged t [] sound items once = none_purged t
items_purged t (top ∷ tops) sound items once =
    let one = All-head (IsItem t) top tops items in
    let more = All-tail (IsItem t) top tops items in
    purged_before t (deeds_done (purged t top) (purges tops)) top tops sound
    (λ k d within. items_apart t top (get_or tops k d) sound one (more k d within) (first_differs top tops once k d within))
    (items_purged (purged t top) tops (purged_sound t top sound (inl one)) (item_stays t top tops once more) (rest_distinct top tops once))

-- the shares of what is under an item were ended, so that no share is another
same_shares : (rows : List NodeRow) (top : ℕ) (shares : List ShareRow)
    → All (λ (share : ShareRow). is_under rows share.node top ≡ true → share.ended ≡ true) shares → ended_under rows top shares ≡ shares
same_shares rows top [] all = refl
same_shares rows top (share ∷ shares) all =
    ap (λ (row : ShareRow). row ∷ ended_under rows top shares) (here (is_under rows share.node top) (All-head Ended share shares all))
    ∙ ap (λ (rest : List ShareRow). share ∷ rest) (same_shares rows top shares (All-tail Ended share shares all))
  where
    Ended : ShareRow → Type 0
    Ended share = is_under rows share.node top ≡ true → share.ended ≡ true

    here : (b : Bool) → (b ≡ true → share.ended ≡ true) → (if b then ended_row share else share) ≡ share
    here true is = ap (λ (b : Bool). record share { ended = b }) (sym (is refl))
    here false is = refl

pub shares_purged : (t : Tables) (tops : List ℕ) → AreSound t → All (IsItem t) tops → AreDistinct tops → (deeds_done t (purges tops)).shares ≡ t.shares
shares_purged t [] sound items once = refl
shares_purged t (top ∷ tops) sound items once =
    let one = All-head (IsItem t) top tops items in
    shares_purged (purged t top) tops (purged_sound t top sound (inl one)) (item_stays t top tops once (All-tail (IsItem t) top tops items))
    (rest_distinct top tops once)
    ∙ same_shares t.nodes top t.shares (λ k d within under.
    let share = get_or t.shares k d in
    elim (cases_Bool share.ended) [
      | inl ended ↦ ended
      | inr still ↦
          absurd (both_ways (is_under t.nodes share.node top) (item_outside t top share.node sound one ((sound.others.shares k d within).present still)) under)
    ])
