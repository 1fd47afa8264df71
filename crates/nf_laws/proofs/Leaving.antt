-- Nodes that leave their places, while others are put somewhere: what becomes of nodes, shares and items.
use Rattle.std.proofs.Common.{ℕ, zero, suc, ◌==◌, ◌≡◌, ◌≢◌, ◌⊎◌, Bool, false, List, [], ◌∷◌, Option, Some, if◌then◌else◌, get_or, inl, inr, refl, sym, ap, subst, ◌∙◌, arith}
use Rattle.std.specs.Prelude.{is_some}
use Rattle.std.specs.declared.cmp.Ordering.TheVariants.{Less}
use Rattle.std.specs.List.{All, Contains}
use Rattle.std.specs.Option.{option_and_then, option_map_or}
use Rattle.std.proofs.lemmas.Bool.{both_ways, cases_Bool, eq-eqb, eqb-true, ne_eqb}
use Rattle.std.proofs.lemmas.Cmp.{tied_itself}
use Rattle.std.proofs.lemmas.List.Elements.{All-contains, All-contains_itself}
use Rattle.std.proofs.lemmas.Option.{none-some, option_and_then_some, same_Some}
use Rattle.nf_base.specs.declared.perms.Act.TheVariants.{Delete}
use Rattle.nf_base.specs.declared.rows.ItemRow.{ItemRow}
use Rattle.nf_base.specs.declared.rows.NodeRow.{NodeRow}
use Rattle.nf_defs.proofs.Climbs.{under_climb}
use Rattle.nf_defs.proofs.Puts.{key_total}
use Rattle.nf_defs.specs.Prelude.{climb, folder_of, is_under, IsRising, item_key, item_row, key_cmp, node_row, owner_of, parent_of, Tables}
use Rattle.nf_defs.specs.Tree.{trashed}
use Rattle.nf_laws.proofs.Acted.{Acted, IsAway}
use Rattle.nf_laws.proofs.Following.{AllFollow}
use Rattle.nf_laws.proofs.Going.{present_off, under_is}
use Rattle.nf_laws.proofs.Parts.{rest_of}
use Rattle.nf_laws.proofs.Presence.{climbs_there}
use Rattle.nf_laws.proofs.Present.{never_trash}
use Rattle.nf_laws.proofs.Remaining.{shares_present, still_there}
use Rattle.nf_laws.proofs.Rows.{found_is}
use Rattle.nf_laws.proofs.Upwards.{climbed, derived}
use Rattle.nf_laws.specs.Access.{Follows, IsNeeded, is_gone, is_trashed, ItemsFollow, shares_without}
use Rattle.nf_laws.specs.Acts.{IsInTrash, IsItemOf, IsUnderOne}
use Rattle.nf_laws.specs.Tree.{Under}
use Rattle.nf_words.proofs.Sweeping.{rest_owned}
use Rattle.nf_words.specs.Others.{IsItemSound}
use Rattle.nf_words.specs.Prelude.{AreSound, LeadsToRoot, Need}

-- ---- among some nodes

more_among : (top : ℕ) (nodes : List ℕ) (node : ℕ) → Contains nodes node → Contains (top ∷ nodes) node
more_among top nodes node (k, within, is) = (suc k, omega (arith, within), is)

-- a node is among some, or not
among : (nodes : List ℕ) (node : ℕ) → Contains nodes node ⊎ (Contains nodes node → ⊥)
among [] node = inr (λ is. absurd (omega (arith, is.1)))
among (top ∷ nodes) node =
    elim (cases_Bool (top == node)) [
      | inl same ↦ inl (0, omega arith, eqb-true top node same)
      | inr other ↦
          elim (among nodes node) [ inl is ↦ inl (more_among top nodes node is) | inr none ↦ inr (neither other none) ]
    ]
  where
    neither : (top == node) ≡ false → (Contains nodes node → ⊥) → Contains (top ∷ nodes) node → ⊥
    neither other none (zero, within, is) = both_ways (top == node) other (eq-eqb top node is)
    neither other none (suc k, within, is) = none (k, omega (arith, within), is)

-- and it is under one of some, or not
under_one : (t : Tables) (tops : List ℕ) (node : ℕ) → AreSound t → IsUnderOne t.nodes tops node ⊎ (IsUnderOne t.nodes tops node → ⊥)
under_one t [] node sound = inr (λ one. absurd (omega (arith, one.1.1)))
under_one t (top ∷ tops) node sound =
    elim (cases_Bool (is_under t.nodes node top)) [
      | inl under ↦
          (let c = under_climb t.nodes node top under in inl (top, (0, omega arith, refl), derived c.0 t.nodes top node c.2))
      | inr outside ↦
          elim (under_one t tops node sound) [
            | inl one ↦ inl (one.0, more_among top tops one.0 one.1, one.2)
            | inr none ↦ inr (neither outside none)
          ]
    ]
  where
    neither : is_under t.nodes node top ≡ false → (IsUnderOne t.nodes tops node → ⊥) → IsUnderOne t.nodes (top ∷ tops) node → ⊥
    neither outside none (other, (zero, within, is), under) =
        both_ways (is_under t.nodes node top) outside (under_is t top node sound (subst (λ (n : ℕ). Under t.nodes n node) (sym is) under))
    neither outside none (other, (suc k, within, is), under) = none (other, (k, omega (arith, within), is), under)

-- ---- items by their nodes

-- each item of rising ones is found by its node
items_found : (items : List ItemRow) → IsRising item_key items → (item : ItemRow) → Contains items item → item_row items item.node ≡ Some item
items_found [] rising item (k, within, is) = absurd (omega (arith, within))
items_found (first ∷ items) rising item (zero, within, is) =
    subst (λ (i : ItemRow). item_row (first ∷ items) i.node ≡ Some i) is (rw (eq-eqb first.node first.node refl) refl)
items_found (first ∷ items) rising item (suc k, within, is) =
    ap (λ (b : Bool). if b then Some first else item_row items item.node) (ne_eqb first.node item.node differs)
    ∙ items_found items (λ i j d before within. rising (suc i) (suc j) d (omega (arith, before)) (omega (arith, within))) item (k, omega (arith, within), is)
  where
    differs : first.node ≢ item.node
    differs same =
        let less = subst (λ (i : ItemRow). key_cmp (item_key first) (item_key i) ≡ Less) is (rising 0 (suc k) item (omega arith) within) in
        let equal = tied_itself key_total (item_key item) in
        let turned = ap (λ (n : ℕ). key_cmp (n ∷ []) (item_key item)) (sym same) ∙ less in absurd (cc)

-- and each that is found is one
item_among : (items : List ItemRow) (node : ℕ) (item : ItemRow) → item_row items node ≡ Some item → Contains items item
item_among items node item is = (found_is (Contains items) (λ (item : ItemRow). item.node == node) items item (All-contains_itself items) is).1

-- the items as they were
pub same_items : (needs : List Need) (now : ℕ) (items : List ItemRow) → ItemsFollow needs now items items
same_items needs now items = (λ k d within. inl (All-contains_itself items k d within), λ item is. is)

-- ---- what leaves its place where it is deleted

module _ (t u : Tables) (now : ℕ) (leave : List ℕ) (IsPut : ℕ → Type 0) (needs : List Need) (sound : AreSound t) (acted : Acted t u now leave IsPut)
    (needed : All (IsNeeded needs Delete) leave) where
  away : (top : ℕ) → Contains leave top → IsAway t u now top
  away top is = All-contains (IsAway t u now) leave top acted.away is

  -- ---- the nodes

  away_follows : (top node : ℕ) → IsNeeded needs Delete top → Under t.nodes top node → node_row u.nodes node ≢ node_row t.nodes node → IsAway t u now top
      → Follows needs t.nodes u.nodes node
  away_follows top node need under differs (inl is) =
      elim (cases_Bool (node == top)) [
        | inl same ↦
            subst (Follows needs t.nodes u.nodes) (sym (eqb-true node top same)) (is_trashed is.row need is.there is.itself)
        | inr other ↦ absurd (differs (is.below node under (λ e. both_ways (node == top) other (eq-eqb node top e))))
      ]
  away_follows top node need under differs (inr gone) = is_gone top need under (gone node under)

  -- where what is put somewhere follows from what is needed, all does
  pub acted_follow : ((node : ℕ) → (IsPut node → ⊥) ⊎ (node_row u.nodes node ≢ node_row t.nodes node → Follows needs t.nodes u.nodes node))
      → AllFollow needs t.nodes u.nodes
  acted_follow puts node differs =
      elim (puts node) [
        | inl off ↦
            elim (under_one t leave node sound) [
              | inl one ↦
                  away_follows one.0 node (All-contains (IsNeeded needs Delete) leave one.0 needed one.1) one.2 differs (away one.0 one.1)
              | inr none ↦ absurd (differs (acted.others node off none))
            ]
        | inr follows ↦ follows differs
      ]

  -- ---- the shares

  -- what is under what is in the trash climbs to it still
  still_climbs : (top j node : ℕ) → IsInTrash t u now top → climb t.nodes j node ≡ Some top → (k : ℕ) × (climb u.nodes k node ≡ Some top)
  still_climbs top zero node is climbs = (0, climbs)
  still_climbs top (suc j) node is climbs =
      elim (cases_Bool (node == top)) [
        | inl same ↦ (0, ap Some (eqb-true node top same))
        | inr other ↦
            option_and_then_some (climb t.nodes j) (parent_of t.nodes node) top climbs (λ parent above rest.
            let more = still_climbs top j parent is rest in
            let row = is.below node (derived (suc j) t.nodes top node climbs) (λ e. both_ways (node == top) other (eq-eqb node top e)) in
            let up : parent_of u.nodes node ≡ Some parent = ap (option_and_then (λ (row : NodeRow). folder_of row.place)) row ∙ above in
            (suc more.0, ap (option_and_then (climb u.nodes more.0)) up ∙ more.1))
      ]

  -- so it isn't present any more
  away_ends : (top node : ℕ) → Under t.nodes top node → LeadsToRoot u.nodes node → IsAway t u now top → ⊥
  away_ends top node under still (inl is) =
      let c = climbed t.nodes top node under in
      let on = still_climbs top c.0 node is c.1 in
      never_trash on.0 u.nodes node top (trashed is.row) still on.1 is.itself refl
  away_ends top node under still (inr gone) = still_there u.nodes node (gone node under) (climbs_there u.nodes node still)

  pub acted_shares : u.shares ≡ shares_without u.nodes t.shares
  acted_shares =
      acted.ended
      ∙ shares_present t u acted.goes sound acted.sound (λ node up goes still.
      elim (under_one t leave node sound) [
        | inl one ↦ away_ends one.0 node one.2 still (away one.0 one.1)
        | inr none ↦ both_ways (acted.goes node) (acted.fails node none) goes
      ])
      (λ node up stays. acted.leads node (λ one. both_ways (acted.goes node) stays (acted.passes node one)) up)

  -- ---- the items

  -- an item of what left its place is there since now
  away_item : (item : ItemRow) → Contains u.items item → IsAway t u now item.node → item.at ≡ now
  away_item item is (inl trash) =
      ap (λ (i : ItemRow). i.at)
      (same_Some item (record { node = item.node; owner = trash.row.owner; name = trash.row.name; from = trash.folder; at = now })
      (sym (items_found u.items acted.sound.others.items_rise item is) ∙ trash.item))
  away_item item is (inr gone) =
      let fine = All-contains (IsItemSound u) u.items item acted.sound.others.items is in
      absurd (none-some fine.of (sym (gone item.node (derived 0 t.nodes item.node item.node refl)) ∙ fine.there))

  -- what left its place was no item
  no_item : (item : ItemRow) → Contains t.items item → Contains leave item.node → ⊥
  no_item item is leaves =
      present_off t item.node item.node sound (ap is_some (items_found t.items sound.others.items_rise item is))
      (All-contains (LeadsToRoot t.nodes) leave item.node acted.present leaves) (derived 0 t.nodes item.node item.node refl)

  pub acted_items : ItemsFollow needs now t.items u.items
  acted_items = (
    λ k d within.
        let item = get_or u.items k d in
        let is = All-contains_itself u.items k d within in
        elim (among leave item.node) [
          | inl leaves ↦ inr (All-contains (IsNeeded needs Delete) leave item.node needed leaves, away_item item is (away item.node leaves))
          | inr none ↦
              inl (item_among t.items item.node item
              (sym (acted.items item.node none) ∙ items_found u.items acted.sound.others.items_rise item is))
        ],
    λ item is.
        item_among u.items item.node item
        (acted.items item.node (no_item item is) ∙ items_found t.items sound.others.items_rise item is),
  )

-- ---- what goes beside it

-- an item of the owner of what is deleted
abbrev pub IsBesideOne : Tables → List Need → ℕ → Type 0
IsBesideOne t needs node = (top : ℕ) × IsNeeded needs Delete top × IsItemOf t (owner_of t.nodes top) node

-- of what goes with a node that is deleted all but the node are such
pub rest_beside : (t : Tables) (now : ℕ) (row : NodeRow) (needs : List Need) → AreSound t → node_row t.nodes row.id ≡ Some row
    → IsNeeded needs Delete row.id → All (IsBesideOne t needs) (rest_of t now row)
rest_beside t now row needs sound there needed k d within = (
  row.id,
  needed,
  subst (λ (user : ℕ). IsItemOf t user (get_or (rest_of t now row) k d))
      (sym (ap (λ (o : Option NodeRow). option_map_or (λ row. row.owner) o 0) there)) (rest_owned t sound now row k d within),
)
