-- What left its place in a step, and what goes for good beside it, row by row.
use Rattle.std.proofs.Common.{◌≡◌, ◌≤◌, ℕ, length, length-append, List, ◌∷◌, ◌++◌, get_or, inl, inr, sym, ap, subst, ◌∙◌, arith, flat_map}
use Rattle.std.specs.List.{All, Contains}
use Rattle.std.proofs.lemmas.List.Elements.{All-append, All-contains, All-contains_itself, All-head, All-weaker}
use Rattle.nf_base.specs.declared.rows.MetaRow.{MetaRow}
use Rattle.nf_base.specs.declared.rows.ShareRow.{ShareRow}
use Rattle.nf_defs.specs.Prelude.{node_row, Tables}
use Rattle.nf_laws.proofs.Acted.{Acted, away_on, IsAway, IsNew, item_left, not_leaving}
use Rattle.nf_laws.proofs.Carried.{Kind}
use Rattle.nf_laws.proofs.Discarding.{deed_told}
use Rattle.nf_laws.proofs.Each.{NoStore}
use Rattle.nf_laws.proofs.Ended.{are_ended}
use Rattle.nf_laws.proofs.Going.{ArePurged, items_purged, present_off, purged_rest, shares_purged, under_is}
use Rattle.nf_laws.proofs.InTurn.{deeds_append}
use Rattle.nf_laws.proofs.Parts.{deeds_stamped}
use Rattle.nf_laws.proofs.Present.{below_present}
use Rattle.nf_laws.proofs.Rows.{stamp, stamped_some}
use Rattle.nf_laws.proofs.Sources.{under_given}
use Rattle.nf_laws.proofs.Trashed.{item_top}
use Rattle.nf_laws.proofs.Upwards.{climbed}
use Rattle.nf_laws.specs.Acts.{AreEnded, HaveLeft, IsUnderOne, IsGoneWith}
use Rattle.nf_laws.specs.Tree.{Under}
use Rattle.nf_words.proofs.Known.{IsItem}
use Rattle.nf_words.specs.Prelude.{AreSound, changed, deed_done, deeds_done, LeadsToRoot, purges, told_deed, told_deeds, purged_by}
use Rattle.nf_words.specs.declared.answer.Allowed.TheVariants as allowed
use Rattle.nf_words.specs.declared.answer.Deed.{Deed}
use Rattle.nf_words.specs.declared.answer.Deed.TheVariants as deed
use Rattle.nf_words.specs.declared.answer.Report.{Report}

-- nothing that is under what is present is under an item
pub below_off : (t : Tables) (node mid top : ℕ) → AreSound t → LeadsToRoot t.nodes mid → Under t.nodes mid node → IsItem t top → Under t.nodes top node → ⊥
below_off t node mid top sound present under is below =
    let c = climbed t.nodes mid node under in present_off t top node sound is (below_present c.0 t.nodes node mid c.1 present) below

module _ (t : Tables) (now : ℕ) (deeds : List Deed) (leave : List ℕ) (IsPut : ℕ → Type 0) (Put : Tables → Type 0) (meta : MetaRow) (sound : AreSound t)
    (kind : Kind t now deeds leave IsPut Put meta) where
  abbrev u : Tables
  u = deeds_done t (kind.one ∷ kind.more)

  abbrev after : Tables
  after = deeds_done u (purges kind.gone)

  acted : Acted t u now leave IsPut
  acted = kind.acted

  items_still : All (IsItem u) kind.gone
  items_still k d within = item_left t u now leave IsPut _ sound acted (kind.goes.items k d within)

  purge : ArePurged u after kind.gone
  purge = items_purged u kind.gone acted.sound items_still kind.goes.once

  is_item : (top : ℕ) → Contains kind.gone top → IsItem t top
  is_item top among = All-contains (IsItem t) kind.gone top kind.goes.items among

  -- what goes has as much under it as at first
  was_under : (node : ℕ) → IsUnderOne u.nodes kind.gone node → IsUnderOne t.nodes kind.gone node
  was_under node one = (one.0, one.1, (acted.aside one.0 (is_item one.0 one.1)).back node one.2)

  -- so what isn't under what goes has the row that it had then
  pub row_then : (node : ℕ) → (IsUnderOne t.nodes kind.gone node → ⊥) → node_row after.nodes node ≡ node_row u.nodes node
  row_then node off = purge.others node (λ one. off (was_under node one))

  -- what is under what left isn't
  off_gone : (top node : ℕ) → Contains leave top → Under t.nodes top node → IsUnderOne t.nodes kind.gone node → ⊥
  off_gone top node among under one =
      below_off t node top one.0 sound (All-contains (LeadsToRoot t.nodes) leave top acted.present among) under (is_item one.0 one.1) one.2

  shares_after : after.shares ≡ u.shares
  shares_after = shares_purged u kind.gone acted.sound items_still kind.goes.once

  pub have_left : HaveLeft t after now leave kind.gone
  have_left = record {
    left = λ k d within.
        let top = get_or leave k d in
        let among = All-contains_itself leave k d within in
        away_on t u after now top (λ node under. row_then node (off_gone top node among under))
        (purge.items top (λ goes. not_leaving t u now leave IsPut top sound acted (is_item top goes) among)) (acted.away k d within);
    beside = kind.beside;
    gone = λ k d within node under.
        purge.gone k d within node ((acted.aside (get_or kind.gone k d) (kind.goes.items k d within)).on node under);
    none = purge.none;
    items = λ node off other. purge.items node other ∙ acted.items node off;
    shares = subst (λ (shares : List ShareRow). AreEnded t.shares shares (IsUnderOne t.nodes leave)) (sym (shares_after ∙ acted.ended))
        (are_ended acted.goes (IsUnderOne t.nodes leave) t.shares acted.passes acted.fails);
  }

  -- all that goes for good is gone
  pub all_gone : All (IsGoneWith t.nodes after.nodes) (flat_map purged_by (kind.one ∷ kind.more) ++ kind.gone)
  all_gone =
      All-append (IsGoneWith t.nodes after.nodes) (flat_map purged_by (kind.one ∷ kind.more)) kind.gone
      (λ k d within node under. purge.no_nodes node (kind.purged k d within node under)) have_left.gone

  pub others_after : (node : ℕ) → (IsPut node → ⊥) → (IsUnderOne t.nodes leave node → ⊥) → (IsUnderOne t.nodes kind.gone node → ⊥)
      → node_row after.nodes node ≡ node_row t.nodes node
  others_after node put off other = row_then node other ∙ acted.others node put off

  pub rest_after : after ≡ record t { meta = meta; nodes = after.nodes; shares = after.shares; versions = after.versions; items = after.items }
  rest_after =
      purged_rest u kind.gone
      ∙ ap (λ (v : Tables). record v { nodes = after.nodes; shares = after.shares; versions = after.versions; items = after.items }) kind.rest

  -- what is present is under none of what goes
  pub present_after : (node : ℕ) → LeadsToRoot t.nodes node → node_row after.nodes node ≡ node_row u.nodes node
  present_after node up = row_then node (λ one. present_off t one.0 node sound (is_item one.0 one.1) up one.2)

  pub below_after : (mid node : ℕ) → LeadsToRoot t.nodes mid → Under t.nodes mid node → node_row after.nodes node ≡ node_row u.nodes node
  below_after mid node up under = row_then node (λ one. below_off t node mid one.0 sound up under (is_item one.0 one.1) one.2)

  -- nor is what is new
  pub new_after : (node : ℕ) → IsNew t node → node_row after.nodes node ≡ node_row u.nodes node
  new_after node new = row_then node (λ one.
      let top = item_top t one.0 sound (is_item one.0 one.1) in
      let given = under_given t one.0 node top.0 sound top.1 (under_is t one.0 node sound one.2) in
      absurd (omega (arith, given, new)))

-- the moment before doesn't count
pub unstamped : (t after : Tables) (moment now : ℕ) (leave tops : List ℕ) → HaveLeft (stamp t moment) after now leave tops → HaveLeft t after now leave tops
unstamped t after moment now leave tops h = record {
  left = All-weaker (IsAway (stamp t moment) after now) (IsAway t after now) away leave h.left;
  beside = h.beside;
  gone = h.gone;
  none = h.none;
  items = h.items;
  shares = h.shares;
}
  where
    away : (top : ℕ) → IsAway (stamp t moment) after now top → IsAway t after now top
    away top (inl is) = inl (record {
      row = is.row;
      folder = is.folder;
      there = is.there;
      inside = is.inside;
      itself = is.itself;
      item = is.item;
      below = is.below;
    })
    away top (inr gone) = inr gone

-- something is told of such deeds
pub kind_some : (t : Tables) (now : ℕ) (deeds : List Deed) (leave : List ℕ) (IsPut : ℕ → Type 0) (Put : Tables → Type 0) (meta : MetaRow)
    → (kind : Kind (stamp t now) now deeds leave IsPut Put meta) → 1 ≤ length (told_deeds t deeds)
kind_some t now deeds leave IsPut Put meta kind =
    subst (λ (deeds : List Deed). 1 ≤ length (told_deeds t deeds)) (sym kind.are)
    (omega (
      arith,
      length-append (told_deed t kind.one) (told_deeds (deed_done t kind.one) (kind.more ++ purges kind.gone)),
      told_at kind.one (deed_told (stamp t now) now kind.one (All-head NoStore kind.one kind.more kind.none) kind.fit),
    ))
  where
    -- at whatever moment
    told_at : (one : Deed) → 1 ≤ length (told_deed (stamp t now) one) → 1 ≤ length (told_deed t one)
    told_at (deed.Discard item) some = some
    told_at (deed.Purge node) some = some
    told_at (deed.Restore node folder name) some = some
    told_at (deed.Relink node folder name) some = some
    told_at (deed.Join rows) some = some
    told_at (deed.Requote row) some = some
    told_at (deed.Forget node at) some = some
    told_at (deed.Store changes) some = some
    told_at (deed.Abandon user dir) some = some

-- the tables after a step with such deeds, whose moment is late enough
pub kind_changed : (t : Tables) (now : ℕ) (deeds : List Deed) (leave : List ℕ) (IsPut : ℕ → Type 0) (Put : Tables → Type 0) (meta : MetaRow)
    (report : Report) → AreSound t → t.meta.last ≤ now → (kind : Kind (stamp t now) now deeds leave IsPut Put meta)
    → changed t now (allowed.Deeds deeds report)
    ≡ deeds_done (deeds_done (stamp t now) (kind.one ∷ kind.more)) (purges kind.gone)
kind_changed t now deeds leave IsPut Put meta report sound later kind =
    stamped_some t (deeds_done t deeds) now (told_deeds t deeds) (kind_some t now deeds leave IsPut Put meta kind) ∙ sym (deeds_stamped t now deeds)
    ∙ ap (deeds_done (stamp t now)) kind.are ∙ deeds_append (stamp t now) (kind.one ∷ kind.more) (purges kind.gone)
