-- What leaves its place by a step leaves each user's trash within its bound.
use Rattle.std.proofs.Common.{◌≡◌, ◌≢◌, ◌≤◌, ◌==◌, ◌⊎◌, ℕ, inl, inr, not, Bool, true, List, [], ◌∷◌, ◌∙◌, flat_map, Option, None, Some, refl, sym, ap, subst, arith, unwrap_or, if◌then◌else◌}
use Rattle.std.specs.Prelude.{is_some, sum_by}
use Rattle.std.specs.List.{All, Contains}
use Rattle.std.specs.Option.{option_and_then, option_map_or}
use Rattle.std.proofs.lemmas.Bool.{both_ways, cases_Bool, eq-eqb, eqb-true}
use Rattle.std.proofs.lemmas.List.Elements.{All-contains, All-contains_itself}
use Rattle.std.proofs.lemmas.List.Folds.{list_any_at}
use Rattle.std.proofs.lemmas.Option.{none-some, same_Some}
use Rattle.nf_base.specs.declared.rows.ItemRow.{ItemRow}
use Rattle.nf_base.specs.declared.rows.NodeRow.{NodeRow}
use Rattle.nf_base.specs.declared.rows.Place.{Place}
use Rattle.nf_defs.proofs.ByName.{Contains-filter, Contains-map}
use Rattle.nf_defs.proofs.Climbs.{under_climb}
use Rattle.nf_defs.specs.Prelude.{folder_of, is_under, node_row, owner_of, Tables}
use Rattle.nf_laws.proofs.Acted.{Acted, IsAway}
use Rattle.nf_laws.proofs.Going.{under_is}
use Rattle.nf_laws.proofs.Parts.{rest_of}
use Rattle.nf_laws.proofs.Rows.{found_is, row_id}
use Rattle.nf_laws.proofs.Upwards.{derived}
use Rattle.nf_laws.specs.Acts.{IsInTrash, IsUnderOne}
use Rattle.nf_laws.specs.Tree.{Under}
use Rattle.nf_words.proofs.Known.{IsItem}
use Rattle.nf_words.specs.Others.{IsItemSound}
use Rattle.nf_words.specs.Prelude.{AreSound, beside, deeds_done, discard, gone_with, goes_itself, item_for, item_size, items_of, purged_by, purges, quota_of}
use Rattle.nf_words.specs.declared.answer.Deed.{Deed}
use Rattle.nf_words.specs.declared.answer.Deed.TheVariants as deed
use Rattle.nf_rules.proofs.Heaped.{bounded_fewer, bounded_reckoned, first_or, gone_alike, IsAlike, IsBounded, item_found, left_among, next, purged_alike, purged_fewer, right_among, size_fewer}

-- ---- either way

among_or : (nodes : List ℕ) (node : ℕ) → Contains nodes node ⊎ (Contains nodes node → ⊥)
among_or [] node = inr (λ is. omega (arith, is.1))
among_or (first ∷ nodes) node =
    elim (cases_Bool (first == node)) [
      | inl same ↦ inl (0, omega arith, eqb-true first node same)
      | inr differs ↦
          elim (among_or nodes node) [
            | inl more ↦ inl (next first node nodes more)
            | inr none ↦
                inr (λ is.
                elim (first_or first node nodes is) [
                  | inl same ↦ both_ways (first == node) differs (eq-eqb first node same)
                  | inr more ↦ none more
                ])
          ]
    ]

under_or : (t : Tables) (leave : List ℕ) (node : ℕ) → AreSound t → IsUnderOne t.nodes leave node ⊎ (IsUnderOne t.nodes leave node → ⊥)
under_or t [] node sound = inr (λ one. omega (arith, one.1.1))
under_or t (top ∷ leave) node sound =
    elim (cases_Bool (is_under t.nodes node top)) [
      | inl under ↦ inl (top, (0, omega arith, refl), (let c = under_climb t.nodes node top under in derived c.0 t.nodes top node c.2))
      | inr outside ↦
          elim (under_or t leave node sound) [
            | inl one ↦ inl (one.0, next top one.0 leave one.1, one.2)
            | inr none ↦
                inr (λ one.
                elim (first_or top one.0 leave one.1) [
                  | inl same ↦
                      both_ways (is_under t.nodes node top) outside
                      (subst (λ (n : ℕ). is_under t.nodes node n ≡ true) (sym same) (under_is t one.0 node sound one.2))
                  | inr more ↦ none (one.0, more, one.2)
                ])
          ]
    ]

-- ---- the tables between

-- what is put somewhere is under no item
abbrev pub IsOff : Tables → (ℕ → Type 0) → Type 0
IsOff u IsPut = (top node : ℕ) → IsItem u top → IsPut node → Under u.nodes top node → ⊥

-- one is put there, or isn't
abbrev pub AreEither : (ℕ → Type 0) → Type 0
AreEither IsPut = (node : ℕ) → IsPut node ⊎ (IsPut node → ⊥)

-- the item is that of a node that left its place
pub record IsFresh (t : Tables) (now : ℕ) (leave : List ℕ) (item : ItemRow) : Type 0 where
  pub row : NodeRow
  pub there : node_row t.nodes row.id ≡ Some row
  pub among : Contains leave row.id
  pub is : item ≡ item_for now row

-- the one node of a user's that left its place, if any did, beside which what the trash can't hold is gone
pub record IsReckoned (t after : Tables) (now : ℕ) (leave : List ℕ) (user : ℕ) : Type 0 where
  pub row : NodeRow
  pub there : node_row t.nodes row.id ≡ Some row
  pub owner : row.owner ≡ user
  pub only : (node : ℕ) → Contains leave node → owner_of t.nodes node ≡ user → node ≡ row.id
  pub gone : All (λ (node : ℕ). node_row after.nodes node ≡ None) (gone_with t now row)

abbrev pub IsSpared : Tables → List ℕ → ℕ → Type 0
IsSpared t leave user = (node : ℕ) → Contains leave node → owner_of t.nodes node ≢ user

pub owner_is : (t : Tables) (row : NodeRow) → node_row t.nodes row.id ≡ Some row → owner_of t.nodes row.id ≡ row.owner
owner_is t row there = ap (λ (o : Option NodeRow). option_map_or (λ (row : NodeRow). row.owner) o 0) there

module _ (t u : Tables) (now : ℕ) (leave : List ℕ) (IsPut : ℕ → Type 0) (sound : AreSound t) (acted : Acted t u now leave IsPut) (either : AreEither IsPut)
    (off : IsOff u IsPut) where
  -- what left its place is alike
  left_alike : (top : ℕ) → IsInTrash t u now top → IsAlike t u top
  left_alike top trash =
      let weigh : Option NodeRow → ℕ = λ o. sum_by (λ piece. piece.size) (option_map_or (λ (row : NodeRow). row.content) o []) in
      inr (
        ap (option_and_then (λ (row : NodeRow). folder_of row.place)) trash.itself,
        omega (arith, ap weigh trash.itself, ap weigh trash.there),
      )

  -- so is all that is under an item
  item_alike : (top : ℕ) → IsItem u top → (node : ℕ) → Under u.nodes top node → IsAlike t u node
  item_alike top is node under =
      elim (either node) [
        | inl put ↦ absurd (off top node is put under)
        | inr unput ↦
            elim (under_or t leave node sound) [
              | inr outside ↦ inl (acted.others node unput outside)
              | inl one ↦
                  elim (All-contains (IsAway t u now) leave one.0 acted.away one.1) [
                    | inr gone ↦ gone_alike t u node (gone node one.2)
                    | inl trash ↦
                        elim (cases_Bool (node == one.0)) [
                          | inl same ↦ subst (IsAlike t u) (sym (eqb-true node one.0 same)) (left_alike one.0 trash)
                          | inr differs ↦ inl (trash.below node one.2 (λ same. both_ways (node == one.0) differs (eq-eqb node one.0 same)))
                        ]
                  ]
            ]
      ]

  -- an item was there, or is of what left its place
  item_from : (item : ItemRow) → Contains u.items item → Contains t.items item ⊎ IsFresh t now leave item
  item_from item is =
      let found = item_found u item acted.sound is in
      elim (among_or leave item.node) [
        | inr out ↦
            inl (found_is (Contains t.items) (λ (row : ItemRow). row.node == item.node) t.items item (All-contains_itself t.items)
            (sym (acted.items item.node out) ∙ found)).1
        | inl among ↦
            elim (All-contains (IsAway t u now) leave item.node acted.away among) [
              | inr gone ↦
                  (let own = All-contains (IsItemSound u) u.items item acted.sound.others.items is in
                  absurd (none-some own.of (sym (gone item.node (derived 0 t.nodes item.node item.node refl)) ∙ own.there)))
              | inl trash ↦
                  (let id : trash.row.id ≡ item.node = row_id t.nodes item.node trash.row trash.there in
                  let same = same_Some item _ (sym found ∙ trash.item) in
                  let from : unwrap_or (folder_of trash.row.place) 0 ≡ trash.folder = ap (λ (place : Place). unwrap_or (folder_of place) 0) trash.inside in
                  let made : item_for now trash.row ≡ record {
                    node = item.node;
                    owner = trash.row.owner;
                    name = trash.row.name;
                    from = trash.folder;
                    at = now;
                  } = λ i. record { node = id i; owner = trash.row.owner; name = trash.row.name; from = from i; at = now } in
                  inr (record {
                    row = trash.row;
                    there = ap (node_row t.nodes) id ∙ trash.there;
                    among = subst (Contains leave) (sym id) among;
                    is = same ∙ sym made;
                  }))
            ]
      ]

  -- ---- and then items go

  module _ (gone : List ℕ) (fine : AreSound (deeds_done u (purges gone))) (quota : (user : ℕ) → quota_of (deeds_done u (purges gone)) user ≡ quota_of t user) where
    abbrev after : Tables
    after = deeds_done u (purges gone)

    was_among : (item : ItemRow) → Contains after.items item → Contains u.items item
    was_among item is = All-contains (Contains u.items) after.items item (purged_fewer u gone) is

    size_after : (item : ItemRow) → Contains after.items item → item_size after item ≤ item_size t item
    size_after item is =
        let found = item_found u item acted.sound (was_among item is) in
        omega (
          arith,
          size_fewer u after item.node (λ node under. purged_alike u gone node) acted.sound fine,
          size_fewer t u item.node (item_alike item.node (ap is_some found)) sound acted.sound,
        )

    -- a user's items that were there are so many fewer, and where one came, what the trash can't hold went
    pub left_bounded : (user : ℕ) → IsBounded t user → IsReckoned t after now leave user ⊎ IsSpared t leave user → IsBounded after user
    left_bounded user bounded (inr spared) =
        bounded_fewer t after fine user bounded (omega (arith, quota user)) (λ item is own.
        elim (item_from item (was_among item is)) [
          | inl was ↦ (was, size_after item is)
          | inr fresh ↦
              absurd (spared fresh.row.id fresh.among
              (owner_is t fresh.row fresh.there ∙ sym (ap (λ (item : ItemRow). item.owner) fresh.is) ∙ own))
        ])
    left_bounded user bounded (inl r) =
        bounded_reckoned t after fine user now (quota_of t r.row.owner) (item_for now r.row ∷ items_of t r.row.owner)
        (quota user ∙ ap (quota_of t) (sym r.owner)) (λ item is own.
        let stays : Contains (gone_with t now r.row) item.node → ⊥ = λ goes.
        let there = (All-contains (IsItemSound after) after.items item fine.others.items is).there in
        none-some _ (sym (All-contains (λ (node : ℕ). node_row after.nodes node ≡ None) (gone_with t now r.row) item.node r.gone goes) ∙ there) in
        let among : Contains (item_for now r.row ∷ items_of t r.row.owner) item = elim (item_from item (was_among item is)) [
          | inl was ↦
              next (item_for now r.row) item (items_of t r.row.owner)
              (Contains-filter (λ (item : ItemRow). item.owner == r.row.owner) t.items item was (eq-eqb item.owner r.row.owner (own ∙ sym r.owner)))
          | inr fresh ↦
              (let same = r.only fresh.row.id fresh.among
              (owner_is t fresh.row fresh.there ∙ sym (ap (λ (item : ItemRow). item.owner) fresh.is) ∙ own) in
              let rows = same_Some fresh.row r.row (sym fresh.there ∙ ap (node_row t.nodes) same ∙ r.there) in
              (0, omega arith, sym (fresh.is ∙ ap (item_for now) rows)))
        ] in
        (among, (stays, size_after item is)))

-- ---- what is gone beside a node

flat_among : (deeds : List Deed) (one : Deed) (node : ℕ) → Contains deeds one → Contains (purged_by one) node → Contains (flat_map purged_by deeds) node
flat_among [] one node is among = absurd (omega (arith, is.1))
flat_among (first ∷ deeds) one node is among =
    elim (first_or first one deeds is) [
      | inl same ↦
          left_among (purged_by first) (flat_map purged_by deeds) node
          (subst (λ (d : Deed). Contains (purged_by d) node) (sym same) among)
      | inr more ↦ right_among (purged_by first) (flat_map purged_by deeds) node (flat_among deeds one node more among)
    ]

-- what the trash can't hold when a node is put there goes by the deeds, where they have those by which it leaves its place
pub gone_by : (t : Tables) (now : ℕ) (row : NodeRow) (deeds : List Deed) (node : ℕ) → Contains deeds (discard t now row)
    → ((one : Deed) → Contains (beside t now row) one → Contains deeds one) → Contains (gone_with t now row) node
    → Contains (flat_map purged_by deeds) node
gone_by t now row deeds node itself others goes =
    elim (cases_Bool (node == row.id)) [
      | inl same ↦
          (let id = eqb-true node row.id same in
          let goes_so : goes_itself t now row ≡ true =
          list_any_at (λ (node : ℕ). node == row.id) (gone_with t now row) goes.0 node goes.1 (ap (λ (n : ℕ). n == row.id) goes.2 ∙ same) in
          flat_among deeds (discard t now row) node itself
          (subst (λ (b : Bool). Contains (purged_by (if b then deed.Purge row.id else deed.Discard (item_for now row))) node) (sym goes_so)
          (0, omega arith, sym id)))
      | inr differs ↦
          (let rest = Contains-filter (λ (node : ℕ). not (node == row.id)) (gone_with t now row) node goes (ap not differs) in
          flat_among deeds (deed.Purge node) node
          (others (deed.Purge node) (Contains-map (λ (node : ℕ). deed.Purge node) (rest_of t now row) node rest)) (0, omega arith, refl))
    ]
