-- A DELETE, a MOVE and a COPY leave each user's trash within its bound.
use Rattle.std.proofs.Common.{◌≡◌, ◌≢◌, ◌<◌, ◌==◌, ◌⊎◌, ℕ, zero, suc, inl, inr, List, [], ◌∷◌, ◌++◌, ◌+◌, ◌∙◌, length, flat_map, get_or, Option, None, Some, refl, sym, ap, subst, arith}
use Rattle.std.specs.List.{All, Contains, slice_get}
use Rattle.std.specs.Option.{option_and_then, option_map_or}
use Rattle.std.proofs.lemmas.Bool.{both_ways, cases_Bool, cases_lt, eq-eqb, eqb-true, not-true}
use Rattle.std.proofs.lemmas.List.Elements.{All-contains, All-contains_itself}
use Rattle.std.proofs.lemmas.Option.{option_and_then_some, same_Some, slice_get-get_or, slice_get_within}
use Rattle.std.proofs.lemmas.Grind.{flat_map-append}
use Rattle.nf_base.specs.declared.rows.MetaRow.{MetaRow}
use Rattle.nf_base.specs.declared.rows.NodeRow.{NodeRow}
use Rattle.nf_base.specs.declared.rows.Place.TheVariants.{Inside, Trash}
use Rattle.nf_defs.specs.Prelude.{climb, is_under, node_row, owner_of, parent_of, Tables}
use Rattle.nf_laws.proofs.Acted.{IsNew, NoNode}
use Rattle.nf_laws.proofs.Carried.{AreJoined, copying_kind, crossing_kind, IsRelinked, Kind, leaving_kind, moving_kind, source_apart}
use Rattle.nf_laws.proofs.Climbs.{parent_at}
use Rattle.nf_laws.proofs.Departed.{all_gone, rest_after}
use Rattle.nf_laws.proofs.Going.{present_off, under_is}
use Rattle.nf_laws.proofs.InTurn.{deeds_append, none_replaced, replaced_is}
use Rattle.nf_laws.proofs.Mirrored.{mirrored}
use Rattle.nf_laws.proofs.Rows.{parent_there, row_id}
use Rattle.nf_laws.proofs.Trashed.{item_top}
use Rattle.nf_laws.proofs.Upwards.{climbed, derived, no_rings}
use Rattle.nf_laws.specs.Acts.{IsGoneWith, IsUnderOne}
use Rattle.nf_laws.specs.Transfers.{IsPlacedCopy, Mirrors, replaced_by}
use Rattle.nf_laws.specs.Tree.{Under}
use Rattle.nf_words.proofs.Found.{child_parent}
use Rattle.nf_words.proofs.Known.{IsItem, KnownCopies, KnownCross, KnownLeaving, KnownMove, KnownTransfer}
use Rattle.nf_words.proofs.Transfers.{replaced_leaves}
use Rattle.nf_words.proofs.Ways.{HasRow, inside_there}
use Rattle.nf_words.specs.Prelude.{AreSound, beside, besides, copies, copies_to, crossing, deeds_done, discard, discards, gone_with, LeadsToRoot, moves, purged_by, purges, quota_of, row_at}
use Rattle.nf_words.specs.declared.answer.Deed.{Deed}
use Rattle.nf_words.specs.declared.answer.Deed.TheVariants as deed
use Rattle.nf_words.specs.declared.request.Transfer.{Transfer}
use Rattle.nf_rules.specs.Ruled.{AreTrashesBounded}
use Rattle.nf_rules.proofs.Heaped.{first_or, left_among, next, none_among, right_among}
use Rattle.nf_rules.proofs.Reckoned.{AreEither, gone_by, IsOff, IsReckoned, IsSpared, left_bounded, owner_is}

-- those that go for good by such deeds
pub purged_purges : (nodes : List ℕ) → flat_map purged_by (purges nodes) ≡ nodes
purged_purges [] = refl
purged_purges (node ∷ nodes) = ap (λ (rest : List ℕ). node ∷ rest) (purged_purges nodes)

one_of : (top node : ℕ) → Contains (top ∷ []) node → node ≡ top
one_of top node is = elim (first_or top node [] is) [ inl same ↦ sym same | inr more ↦ absurd (none_among node more) ]

-- ---- copies

module _ (t u : Tables) (now : ℕ) (transfer : Transfer) (name : List ℕ) (mirrors : Mirrors t now transfer name (copies_to t now transfer name))
    (fine : AreSound u) (present : LeadsToRoot u.nodes transfer.folder) (joined : AreJoined t (copies_to t now transfer name) u) where
  abbrev rows : List NodeRow
  rows = copies_to t now transfer name

  -- a copy is in a folder, so it is no item
  not_top : (top folder : ℕ) (copy : NodeRow) → IsItem u top → node_row u.nodes copy.id ≡ Some copy → copy.place ≡ Inside folder → copy.id ≢ top
  not_top top folder copy is there place same =
      let own = item_top u top fine is in
      let rows_same : copy ≡ own.0 = same_Some copy own.0 (sym there ∙ ap (node_row u.nodes) same ∙ own.1) in
      let places : Inside folder ≡ Trash = sym place ∙ ap (λ (row : NodeRow). row.place) rows_same ∙ own.2 in cc

  up : (top folder j : ℕ) (copy : NodeRow) → node_row u.nodes copy.id ≡ Some copy → copy.place ≡ Inside folder → climb u.nodes (suc j) copy.id ≡ Some top
      → climb u.nodes j folder ≡ Some top
  up top folder j copy there place climbs =
      sym (ap (option_and_then (climb u.nodes j)) (parent_at u.nodes copy.id folder copy there place)) ∙ climbs

  -- no copy leads up to an item
  never_up : (n k top : ℕ) (copy : NodeRow) → k < n → slice_get rows k ≡ Some copy → IsItem u top → (j : ℕ) → climb u.nodes j copy.id ≢ Some top
  never_up zero k top copy less at is j = absurd (omega (arith, less))
  never_up (suc n) k top copy less at is j =
      here j k less at (mirrors.each k copy at).of (mirrors.each k copy at).placed (λ at parent before found. never_up n at top parent before found is)
    where
      here : (j k : ℕ) → k < suc n → slice_get rows k ≡ Some copy → (of : NodeRow) → IsPlacedCopy t transfer name k of copy
          → ((at : ℕ) (parent : NodeRow) → at < n → slice_get rows at ≡ Some parent → (j : ℕ) → climb u.nodes j parent.id ≢ Some top)
          → climb u.nodes j copy.id ≢ Some top
      here zero zero less at of (place, named) rest = λ climbs. not_top top transfer.folder copy is (joined.there zero copy at) place (same_Some copy.id top climbs)
      here zero (suc k) less at of (named, (folder, index, of_place, at_index, before, place)) rest = λ climbs.
          not_top top (t.meta.next_node + index) copy is (joined.there (suc k) copy at) place (same_Some copy.id top climbs)
      here (suc j) zero less at of (place, named) rest = λ climbs.
          present_off u top transfer.folder fine is present
          (derived j u.nodes top transfer.folder (up top transfer.folder j copy (joined.there zero copy at) place climbs))
      here (suc j) (suc k) less at of (named, (folder, index, of_place, at_index, before, place)) rest = λ climbs.
          let within : index < length rows = omega (arith, before, slice_get_within rows (suc k) copy at) in
          let found = slice_get-get_or rows index copy within in
          let parent = get_or rows index copy in
          let on = up top (t.meta.next_node + index) j copy (joined.there (suc k) copy at) place climbs in
          rest index parent (omega (arith, before, less)) found j
          (ap (climb u.nodes j) (mirrors.each index parent found).id ∙ on)

  -- so none is under one
  pub new_off : IsOff u (IsNew t)
  new_off top node is new under =
      let c = climbed u.nodes top node under in
      let row = there c.0 c.1 in
      let copy = joined.new node row.0 new row.1 in
      never_up (suc copy.0) copy.0 top row.0 (omega arith) copy.1 is c.0 (ap (climb u.nodes c.0) copy.2 ∙ c.1)
    where
      there : (j : ℕ) → climb u.nodes j node ≡ Some top → HasRow u.nodes node
      there zero climbs =
          let own = item_top u top fine is in (own.0, ap (node_row u.nodes) (same_Some node top climbs) ∙ own.1)
      there (suc j) climbs =
          option_and_then_some (climb u.nodes j) (parent_of u.nodes node) top climbs (λ parent above on. inside_there u.nodes node parent above)

pub new_or : (t : Tables) → AreEither (IsNew t)
new_or t node = elim (cases_lt node t.meta.next_node) [
  | inl old ↦ inr (λ new. omega (arith, old, new))
  | inr new ↦ inl new
]

-- ---- what leaves its place

module _ (t : Tables) (now : ℕ) (sound : AreSound t) (at : t.meta.last ≡ now) (bounded : AreTrashesBounded t) where
  -- all that goes for good by the deeds is gone
  abbrev AreGone : List Deed → Type 0
  AreGone deeds = All (IsGoneWith t.nodes (deeds_done t deeds).nodes) (flat_map purged_by deeds)

  abbrev IsWhose : List Deed → List ℕ → ℕ → Type 0
  IsWhose deeds leave user = IsReckoned t (deeds_done t deeds) now leave user ⊎ IsSpared t leave user

  kind_bounded : (deeds : List Deed) (leave : List ℕ) (IsPut : ℕ → Type 0) (Held : Tables → Type 0) (meta : MetaRow)
      → (kind : Kind t now deeds leave IsPut Held meta) → AreSound (deeds_done t deeds) → AreEither IsPut
      → IsOff (deeds_done t (kind.one ∷ kind.more)) IsPut → ((user : ℕ) → AreGone deeds → IsWhose deeds leave user)
      → AreTrashesBounded (deeds_done t deeds)
  kind_bounded deeds leave IsPut Held meta kind fine either off whose =
      let first = kind.one ∷ kind.more in
      let u = deeds_done t first in
      let after = deeds_done u (purges kind.gone) in
      let made : after ≡ deeds_done t deeds = sym (ap (deeds_done t) kind.are ∙ deeds_append t first (purges kind.gone)) in
      let tops : flat_map purged_by deeds ≡ flat_map purged_by first ++ kind.gone =
      ap (flat_map purged_by) kind.are ∙ flat_map-append purged_by first (purges kind.gone)
      ∙ ap (λ (gone : List ℕ). flat_map purged_by first ++ gone) (purged_purges kind.gone) in
      let gone = subst (All (IsGoneWith t.nodes (deeds_done t deeds).nodes)) (sym tops)
      (subst (λ (v : Tables). All (IsGoneWith t.nodes v.nodes) (flat_map purged_by first ++ kind.gone)) made
      (all_gone t now deeds leave IsPut Held meta sound kind)) in
      subst AreTrashesBounded made (λ user.
      left_bounded t u now leave IsPut sound kind.acted either off kind.gone (subst AreSound (sym made) fine)
      (λ user. ap (λ (v : Tables). quota_of v user) (rest_after t now deeds leave IsPut Held meta sound kind)) user (bounded user)
      (subst (λ (v : Tables). IsReckoned t v now leave user ⊎ IsSpared t leave user) (sym made) (whose user gone)))

  -- of a node by which the deeds have all that goes beside it
  reckoned_one : (deeds : List Deed) (leave : List ℕ) (row : NodeRow) (user : ℕ) → node_row t.nodes row.id ≡ Some row
      → Contains deeds (discard t now row) → ((one : Deed) → Contains (beside t now row) one → Contains deeds one) → AreGone deeds
      → row.owner ≡ user → ((node : ℕ) → Contains leave node → owner_of t.nodes node ≡ user → node ≡ row.id)
      → IsReckoned t (deeds_done t deeds) now leave user
  reckoned_one deeds leave row user there itself others gone owner only = record {
    row = row;
    there = there;
    owner = owner;
    only = only;
    gone = λ k d within.
        let all = gone_with t now row in
        let node = get_or all k d in
        All-contains (IsGoneWith t.nodes (deeds_done t deeds).nodes) (flat_map purged_by deeds) node gone
        (gone_by t now row deeds node itself others (All-contains_itself all k d within)) node (derived 0 t.nodes node node refl);
  }

  whose_alone : (deeds : List Deed) (row : NodeRow) (user : ℕ) → node_row t.nodes row.id ≡ Some row
      → Contains deeds (discard t now row) → ((one : Deed) → Contains (beside t now row) one → Contains deeds one) → AreGone deeds
      → IsWhose deeds (row.id ∷ []) user
  whose_alone deeds row user there itself others gone =
      elim (cases_Bool (row.owner == user)) [
        | inl own ↦
            inl (reckoned_one deeds (row.id ∷ []) row user there itself others gone (eqb-true row.owner user own) (λ node among is. one_of row.id node among))
        | inr not ↦
            inr (λ node among is.
            both_ways (row.owner == user) not
            (eq-eqb row.owner user (sym (owner_is t row there) ∙ ap (owner_of t.nodes) (sym (one_of row.id node among)) ∙ is)))
      ]

  -- ---- DELETE

  pub leaving_bounded : (row : NodeRow) → KnownLeaving t row → AreSound (deeds_done t (discard t now row ∷ beside t now row))
      → AreTrashesBounded (deeds_done t (discard t now row ∷ beside t now row))
  leaving_bounded row known fine =
      let deeds = discard t now row ∷ beside t now row in
      kind_bounded deeds (row.id ∷ []) NoNode _ t.meta (leaving_kind t now sound at row known) fine (λ node. inr (λ none. none))
      (λ top node is put under. put)
      (λ user gone.
      whose_alone deeds row user known.there (0, omega arith, refl) (λ one among. next (discard t now row) one (beside t now row) among) gone)

  -- ---- MOVE and COPY

  -- the deeds have those by which a node leaves its place that may be there
  discards_has : (at_it : Option ℕ) (row : NodeRow) → row_at t at_it ≡ Some row → Contains (discards t now at_it) (discard t now row)
  discards_has at_it row e =
      subst (λ (o : Option NodeRow). Contains (option_map_or (λ (row : NodeRow). discard t now row ∷ []) o []) (discard t now row)) (sym e) (0, omega arith, refl)

  besides_has : (at_it : Option ℕ) (row : NodeRow) (one : Deed) → row_at t at_it ≡ Some row → Contains (beside t now row) one → Contains (besides t now at_it) one
  besides_has at_it row one e is =
      subst (λ (o : Option NodeRow). Contains (option_map_or (beside t now) o []) one) (sym e) is

  module _ (transfer : Transfer) (name : List ℕ) (known : KnownTransfer t transfer name) where
    abbrev HasReplaced : List Deed → Type 0
    HasReplaced deeds =
        (row : NodeRow) → row_at t transfer.replaced ≡ Some row
        → Contains deeds (discard t now row) × ((one : Deed) → Contains (beside t now row) one → Contains deeds one)

    -- around what is put there
    around_has : (one : Deed) → HasReplaced (discards t now transfer.replaced ++ one ∷ besides t now transfer.replaced)
    around_has one row e = (
      left_among (discards t now transfer.replaced) (one ∷ besides t now transfer.replaced) (discard t now row) (discards_has transfer.replaced row e),
      λ other is.
          right_among (discards t now transfer.replaced) (one ∷ besides t now transfer.replaced) other
          (next one other (besides t now transfer.replaced) (besides_has transfer.replaced row other e is)),
    )

    whose_replaced : (deeds : List Deed) (user : ℕ) → HasReplaced deeds → AreGone deeds → IsWhose deeds (replaced_by transfer) user
    whose_replaced deeds user has gone = here (row_at t transfer.replaced) refl
      where
        here : (o : Option NodeRow) → row_at t transfer.replaced ≡ o → IsWhose deeds (replaced_by transfer) user
        here None e =
            let none : replaced_by transfer ≡ [] = ap (λ (o : Option ℕ). option_map_or (λ (node : ℕ). node ∷ []) o []) (none_replaced t transfer name sound known e) in
            inr (λ node among. absurd (none_among node (subst (λ (nodes : List ℕ). Contains nodes node) none among)))
        here (Some row) e =
            let leaves = replaced_leaves t sound transfer name known row e in
            let alone : replaced_by transfer ≡ row.id ∷ [] = ap (λ (o : Option ℕ). option_map_or (λ (node : ℕ). node ∷ []) o []) (replaced_is t transfer.replaced row e) in
            subst (λ (nodes : List ℕ). IsWhose deeds nodes user) (sym alone)
            (whose_alone deeds row user leaves.there (has row e).0 (has row e).1 gone)

    -- what is replaced is in the folder
    replaced_in : (node : ℕ) → Contains (replaced_by transfer) node → parent_of t.nodes node ≡ Some transfer.folder
    replaced_in node among = here transfer.replaced refl among
      where
        here : (o : Option ℕ) → transfer.replaced ≡ o → Contains (option_map_or (λ (node : ℕ). node ∷ []) o []) node
            → parent_of t.nodes node ≡ Some transfer.folder
        here None e among = absurd (none_among node among)
        here (Some top) e among =
            ap (parent_of t.nodes) (one_of top node among) ∙ child_parent t.nodes transfer.folder name top sound.rising (known.there ∙ e)

    -- so the folder isn't under it
    folder_off : IsUnderOne t.nodes (replaced_by transfer) transfer.folder → ⊥
    folder_off one =
        both_ways (is_under t.nodes transfer.folder one.0) (no_rings t one.0 transfer.folder sound (replaced_in one.0 one.1))
        (under_is t one.0 transfer.folder sound one.2)

  pub moves_bounded : (transfer : Transfer) (name : List ℕ) → KnownMove t transfer name → AreSound (deeds_done t (moves t now name transfer))
      → AreTrashesBounded (deeds_done t (moves t now name transfer))
  moves_bounded transfer name move fine =
      let deeds = moves t now name transfer in
      let kind = moving_kind t now sound at transfer name move in
      kind_bounded deeds (replaced_by transfer) (λ node. node ≡ transfer.node) (IsRelinked t transfer name) t.meta kind fine
      (λ node.
      elim (cases_Bool (node == transfer.node)) [
        | inl same ↦ inl (eqb-true node transfer.node same)
        | inr differs ↦ inr (λ same. both_ways (node == transfer.node) differs (eq-eqb node transfer.node same))
      ])
      (λ top node is put under.
      let u = deeds_done t (kind.one ∷ kind.more) in
      let up = kind.acted.leads transfer.node (source_apart t now sound at transfer name move.known transfer.node (derived 0 t.nodes transfer.node transfer.node refl)) move.known.present in
      present_off u top node kind.acted.sound is (subst (LeadsToRoot u.nodes) (sym put) up) under)
      (λ user gone.
      whose_replaced transfer name move.known deeds user (around_has transfer name move.known (deed.Relink transfer.node transfer.folder name)) gone)

  pub copies_bounded : (transfer : Transfer) (name : List ℕ) → KnownCopies t transfer name → AreSound (deeds_done t (copies t now name transfer))
      → AreTrashesBounded (deeds_done t (copies t now name transfer))
  copies_bounded transfer name copied fine =
      let deeds = copies t now name transfer in
      let kind = copying_kind t now sound at transfer name copied in
      let u = deeds_done t (kind.one ∷ kind.more) in
      kind_bounded deeds (replaced_by transfer) (IsNew t) (AreJoined t (copies_to t now transfer name)) _ kind fine (new_or t)
      (new_off t u now transfer name (mirrored t now transfer name sound copied.known.source) kind.acted.sound
      (kind.acted.leads transfer.folder (folder_off transfer name copied.known) copied.known.folder_present) kind.put)
      (λ user gone.
      whose_replaced transfer name copied.known deeds user (around_has transfer name copied.known (deed.Join (copies_to t now transfer name))) gone)

  -- ---- MOVE to another owner

  module _ (transfer : Transfer) (name : List ℕ) (cross : KnownCross t transfer name) where
    abbrev known : KnownTransfer t transfer name
    known = cross.copies.known

    abbrev from : NodeRow
    from = known.source.0

    abbrev deeds : List Deed
    deeds = crossing t now name transfer

    from_is : from.id ≡ transfer.node
    from_is = row_id t.nodes transfer.node from known.source.1

    from_there : node_row t.nodes from.id ≡ Some from
    from_there = ap (node_row t.nodes) from_is ∙ known.source.1

    -- what is replaced is of another owner than the source
    replaced_owner : (node : ℕ) → Contains (replaced_by transfer) node → owner_of t.nodes node ≢ from.owner
    replaced_owner node among same =
        let above = replaced_in transfer name known node among in
        let row = inside_there t.nodes node transfer.folder above in
        let folder = parent_there t node transfer.folder row.0 sound row.1 above in
        let owner : owner_of t.nodes transfer.folder ≡ row.0.owner =
        ap (λ (o : Option NodeRow). option_map_or (λ (row : NodeRow). row.owner) o 0) folder.1 ∙ folder.3 in
        let own : owner_of t.nodes node ≡ row.0.owner = ap (λ (o : Option NodeRow). option_map_or (λ (row : NodeRow). row.owner) o 0) row.1 in
        let source : owner_of t.nodes transfer.node ≡ from.owner =
        ap (λ (o : Option NodeRow). option_map_or (λ (row : NodeRow). row.owner) o 0) known.source.1 in
        both_ways (owner_of t.nodes transfer.node == owner_of t.nodes transfer.folder)
        (not-true (owner_of t.nodes transfer.node == owner_of t.nodes transfer.folder) cross.crosses)
        (eq-eqb (owner_of t.nodes transfer.node) (owner_of t.nodes transfer.folder) (source ∙ sym same ∙ own ∙ sym owner))

    abbrev parted : List Deed
    parted = discards t now (Some transfer.node) ++ (besides t now transfer.replaced ++ besides t now (Some transfer.node))

    abbrev joins : Deed
    joins = deed.Join (copies_to t now transfer name)

    -- behind the copies
    behind_has : (one : Deed) → Contains parted one → Contains deeds one
    behind_has one is = right_among (discards t now transfer.replaced) (joins ∷ parted) one (next joins one parted is)

    has_source : (one : Deed) → Contains (beside t now from) one → Contains deeds one
    has_source one is =
        behind_has one
        (right_among (discards t now (Some transfer.node)) (besides t now transfer.replaced ++ besides t now (Some transfer.node)) one
        (right_among (besides t now transfer.replaced) (besides t now (Some transfer.node)) one (besides_has (Some transfer.node) from one known.source.1 is)))

    has_replaced : HasReplaced transfer name known deeds
    has_replaced row e = (
      left_among (discards t now transfer.replaced) (joins ∷ parted) (discard t now row) (discards_has transfer.replaced row e),
      λ one is.
          behind_has one
          (right_among (discards t now (Some transfer.node)) (besides t now transfer.replaced ++ besides t now (Some transfer.node)) one
          (left_among (besides t now transfer.replaced) (besides t now (Some transfer.node)) one (besides_has transfer.replaced row one e is))),
    )

    source_owner : (node : ℕ) → transfer.node ≡ node → owner_of t.nodes node ≡ from.owner
    source_owner node same = ap (owner_of t.nodes) (sym same ∙ sym from_is) ∙ owner_is t from from_there

    whose_both : (user : ℕ) → AreGone deeds → IsWhose deeds (transfer.node ∷ replaced_by transfer) user
    whose_both user gone =
        let leave = transfer.node ∷ replaced_by transfer in
        elim (cases_Bool (from.owner == user)) [
          | inl own ↦
              (let same = eqb-true from.owner user own in
              inl (reckoned_one deeds leave from user from_there
              (behind_has (discard t now from)
              (left_among (discards t now (Some transfer.node)) (besides t now transfer.replaced ++ besides t now (Some transfer.node)) (discard t now from)
              (discards_has (Some transfer.node) from known.source.1)))
              has_source gone same (λ node among is.
              elim (first_or transfer.node node (replaced_by transfer) among) [
                | inl itself ↦ sym itself ∙ sym from_is
                | inr other ↦ absurd (replaced_owner node other (is ∙ sym same))
              ])))
          | inr not ↦
              (let off : (node : ℕ) → transfer.node ≡ node → owner_of t.nodes node ≢ user = λ node same is.
              both_ways (from.owner == user) not (eq-eqb from.owner user (sym (source_owner node same) ∙ is)) in
              elim (whose_replaced transfer name known deeds user has_replaced gone) [
                | inl r ↦
                    inl (record {
                      row = r.row;
                      there = r.there;
                      owner = r.owner;
                      only = λ node among is.
                          elim (first_or transfer.node node (replaced_by transfer) among) [
                            | inl itself ↦ absurd (off node itself is)
                            | inr other ↦ r.only node other is
                          ];
                      gone = r.gone;
                    })
                | inr spared ↦
                    inr (λ node among is.
                    elim (first_or transfer.node node (replaced_by transfer) among) [
                      | inl itself ↦ off node itself is
                      | inr other ↦ spared node other is
                    ])
              ])
        ]

    -- the folder isn't under what leaves its place
    folder_out : IsUnderOne t.nodes (transfer.node ∷ replaced_by transfer) transfer.folder → ⊥
    folder_out one =
        elim (first_or transfer.node one.0 (replaced_by transfer) one.1) [
          | inl same ↦
              both_ways (is_under t.nodes transfer.folder transfer.node) known.outside
              (under_is t transfer.node transfer.folder sound (subst (λ (n : ℕ). Under t.nodes n transfer.folder) (sym same) one.2))
          | inr other ↦ folder_off transfer name known (one.0, other, one.2)
        ]

    pub crossing_bounded : AreSound (deeds_done t deeds) → AreTrashesBounded (deeds_done t deeds)
    crossing_bounded fine =
        let kind = crossing_kind t now sound at transfer name cross in
        let u = deeds_done t (kind.one ∷ kind.more) in
        kind_bounded deeds (transfer.node ∷ replaced_by transfer) (IsNew t) (AreJoined t (copies_to t now transfer name)) _ kind fine (new_or t)
        (new_off t u now transfer name (mirrored t now transfer name sound known.source) kind.acted.sound
        (kind.acted.leads transfer.folder folder_out known.folder_present) kind.put)
        whose_both
