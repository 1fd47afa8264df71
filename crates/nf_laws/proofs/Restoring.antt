-- What comes back from the trash, row by row, and what of a user's trash is dropped.
use Rattle.std.proofs.Common.{ℕ, zero, suc, ◌==◌, ◌≡◌, ◌≢◌, true, List, [], ◌∷◌, Option, None, Some, filter, get_or, map, option_map, inl, inr, refl, sym, ap, subst, ◌∙◌, arith}
use Rattle.std.specs.Prelude.{is_some}
use Rattle.std.specs.List.{All, Contains}
use Rattle.std.proofs.lemmas.Bool.{cases_Bool, cond_both, eq-eqb, eqb-true, ne_eqb}
use Rattle.std.proofs.lemmas.List.Elements.{All-cons, All-head}
use Rattle.std.proofs.lemmas.Option.{none-some, option_and_then_some, same_Some}
use Rattle.nf_base.specs.declared.rows.ItemRow.{ItemRow}
use Rattle.nf_base.specs.declared.rows.NodeRow.{NodeRow}
use Rattle.nf_base.specs.declared.rows.Place.TheVariants.{Trash}
use Rattle.nf_defs.proofs.Climbs.{climb_under}
use Rattle.nf_defs.specs.Prelude.{dropped, item_key, item_row, node_row, relinked, Tables}
use Rattle.nf_laws.proofs.Discarding.{AreGoneBeside, deeds_told, goes_beside, items_are}
use Rattle.nf_laws.proofs.Each.{NoStore, purges_none}
use Rattle.nf_laws.proofs.Going.{ArePurged, item_is, items_purged, present_off, purged_rest, shares_purged}
use Rattle.nf_laws.proofs.Moved.{Fits}
use Rattle.nf_laws.proofs.OneRow.{row_itself, row_other}
use Rattle.nf_laws.proofs.Others.{item_gone, item_other}
use Rattle.nf_laws.proofs.Presence.{leads_present}
use Rattle.nf_laws.proofs.Present.{trash_alone}
use Rattle.nf_laws.proofs.Rows.{stamp, stamped_some}
use Rattle.nf_laws.proofs.Trashed.{item_top, restored_below, restored_fits, restored_sound}
use Rattle.nf_laws.proofs.Upwards.{climbed}
use Rattle.nf_laws.proofs.Walked.{AreDistinct}
use Rattle.nf_laws.specs.Acts.{AreTaken, IsItemOf, IsRestored}
use Rattle.nf_words.proofs.Known.{IsItem, KnownGoes, KnownRestore}
use Rattle.nf_words.specs.Others.{IsItemSound}
use Rattle.nf_words.specs.Prelude.{AreSound, asker_of, Call, changed, deeds_done, home_of, item_if_of, lacks_item, LeadsToRoot, name_back, own_item, purges, restored, told}
use Rattle.nf_words.specs.declared.answer.Allowed.TheVariants as allowed
use Rattle.nf_words.specs.declared.answer.Deed.TheVariants as deed
use Rattle.nf_words.specs.declared.answer.Report.{Report}
use Rattle.nf_laws.proofs.Turning.{purges_keep, versions_left, deeds_fewer}

-- ---- what of a user's trash goes for good

-- those items are taken, at whatever moment
pub taken_at : (t : Tables) (tops : List ℕ) (moment : ℕ) → AreSound t → KnownGoes t tops → AreTaken t (stamp (deeds_done t (purges tops)) moment) tops
taken_at t tops moment sound goes =
    let h = items_purged t tops sound goes.items goes.once in
    record {
      gone = h.gone;
      none = h.none;
      others = h.others;
      items = h.items;
      versions = versions_left t (purges tops) sound (purges_keep tops);
      rest = ap (λ (u : Tables). stamp u moment) (purged_rest t tops)
          ∙ (λ i. record t {
            meta = record t.meta { last = moment };
            nodes = (deeds_done t (purges tops)).nodes;
            shares = shares_purged t tops sound goes.items goes.once i;
            versions = (deeds_done t (purges tops)).versions;
            items = (deeds_done t (purges tops)).items;
          });
    }

pub taken_rows : (t : Tables) (now : ℕ) (tops : List ℕ) (report : Report) → AreSound t → KnownGoes t tops
    → AreTaken t (changed t now (allowed.Deeds (purges tops) report)) tops
taken_rows t now tops report sound goes = here tops goes
  where
    here : (tops : List ℕ) → KnownGoes t tops → AreTaken t (changed t now (allowed.Deeds (purges tops) report)) tops
    here [] goes = taken_at t [] t.meta.last sound goes
    here (top ∷ rest) goes =
        subst (λ (made : Tables). AreTaken t made (top ∷ rest))
        (sym (stamped_some t (deeds_done t (purges (top ∷ rest))) now (told t (allowed.Deeds (purges (top ∷ rest)) report))
        (deeds_told t now (deed.Purge top) (purges rest) tt (inl (All-head (IsItem t) top rest goes.items)))))
        (taken_at t (top ∷ rest) now sound goes)

-- each item of a user's is among them all
pub node_among : (user : ℕ) (items : List ItemRow) (item : ItemRow) → Contains items item → item.owner ≡ user
    → Contains (map (λ (item : ItemRow). item.node) (filter (λ (item : ItemRow). item.owner == user) items)) item.node
node_among user [] item (k, within, is) own = absurd (omega (arith, within))
node_among user (x ∷ items) item (zero, within, is) own =
    let mine : (x.owner == user) ≡ true = eq-eqb x.owner user (ap (λ (it : ItemRow). it.owner) is ∙ own) in
    simp mine (0, omega arith, ap (λ (it : ItemRow). it.node) is)
node_among user (x ∷ items) item (suc k, within, is) own =
    let rest = node_among user items item (k, omega (arith, within), is) own in
    cond_both (x.owner == user) (x ∷ filter (λ (item : ItemRow). item.owner == user) items) (filter (λ (item : ItemRow). item.owner == user) items)
    (λ (all : List ItemRow). Contains (map (λ (item : ItemRow). item.node) all) item.node)
    (λ e. (suc rest.0, omega (arith, rest.1), rest.2)) (λ e. rest)

-- the caller's item of a node, where it isn't refused
pub own_named : (call : Call) (node : ℕ) → lacks_item (own_item call node) ≡ None
    → (item : ItemRow) × (own_item call node ≡ Some item) × (item_row call.state.tables.items node ≡ Some item) × (item.owner ≡ asker_of call)
own_named call node named = here (own_item call node) refl named
  where
    here : (o : Option ItemRow) → own_item call node ≡ o → lacks_item o ≡ None
        → (item : ItemRow) × (own_item call node ≡ Some item) × (item_row call.state.tables.items node ≡ Some item) × (item.owner ≡ asker_of call)
    here None e none = absurd (cc)
    here (Some item) e none =
        let of = option_and_then_some {P = (item_row call.state.tables.items node ≡ Some item) × (item.owner ≡ asker_of call)} (item_if_of (asker_of call))
        (item_row call.state.tables.items node) item e
        (λ it found given. elim (cases_Bool (it.owner == asker_of call)) [
          | inl own ↦
              (let same : it ≡ item = same_Some it item (simp own at given) in
              (found ∙ ap Some same, sym (ap (λ (i : ItemRow). i.owner) same) ∙ eqb-true it.owner (asker_of call) own))
          | inr other ↦ absurd (none-some item (simp other at given))
        ]) in
        (item, e, of.0, of.1)

-- ---- what comes back

module _ (t : Tables) (item : ItemRow) (sound : AreSound t) (known : KnownRestore t item.node (home_of t item) (name_back t item)) where
  abbrev home : ℕ
  home = home_of t item

  abbrev name : List ℕ
  name = name_back t item

  abbrev back : Tables
  back = restored t item.node home name

  back_sound : AreSound back
  back_sound = restored_sound t item.node home name sound known

  abbrev top : (row : NodeRow) × (node_row t.nodes item.node ≡ Some row) × (row.place ≡ Trash)
  top = item_top t item.node sound (ap is_some known.there)

  row_back : node_row back.nodes item.node ≡ Some (relinked home name top.0)
  row_back = row_itself t.nodes item.node (relinked home name) (λ r. refl) ∙ ap (option_map (relinked home name)) top.1

  row_off : (node : ℕ) → node ≢ item.node → node_row back.nodes node ≡ node_row t.nodes node
  row_off node differs = row_other t.nodes item.node (relinked home name) (λ r. refl) node (ne_eqb node item.node differs)

  -- it is present then
  back_present : LeadsToRoot back.nodes item.node
  back_present = restored_below t item.node home name item.node sound known (climb_under 0 t.nodes item.node item.node (omega arith) refl)

  -- items that go meanwhile
  module _ (gone : List ℕ) (items : All (IsItem t) gone) (others : All (λ (node : ℕ). item.node ≢ node) gone) (once : AreDistinct gone) where
    abbrev left : Tables
    left = deeds_done back (purges gone)

    still : All (IsItem back) gone
    still k d within = ap is_some (item_other item.node (get_or gone k d) t.items (λ same. others k d within (sym same))) ∙ items k d within

    back_purged : ArePurged back left gone
    back_purged = items_purged back gone back_sound still once

    back_shares : left.shares ≡ t.shares
    back_shares = shares_purged back gone back_sound still once

    pub back_beside : AreGoneBeside t back left item.node gone
    back_beside =
        goes_beside t back left item.node gone row_off
        (λ k d within. (
          λ below.
              let c = climbed t.nodes (get_or gone k d) item.node below in
              others k d within (trash_alone c.0 t.nodes item.node (get_or gone k d) top.0 top.1 top.2 c.1),
          present_off back (get_or gone k d) item.node back_sound (still k d within) back_present,
        )) back_purged

-- so an item that comes back is there, and others of its owner's that go are gone
pub restored_rows : (call : Call) (item : ItemRow) (gone : List ℕ) → AreSound call.state.tables
    → item_row call.state.tables.items item.node ≡ Some item
    → KnownRestore call.state.tables item.node (home_of call.state.tables item) (name_back call.state.tables item) → item.owner ≡ asker_of call
    → All (IsItemOf call.state.tables (asker_of call)) gone → All (λ (node : ℕ). item.node ≢ node) gone → AreDistinct gone
    → IsRestored call item.node
    (stamp (deeds_done (restored call.state.tables item.node (home_of call.state.tables item) (name_back call.state.tables item)) (purges gone)) call.now)
restored_rows call item gone sound there known own theirs others once = record {
  item = item;
  there = there;
  own = own;
  row = of.0;
  was = of.1;
  folds = fits.1.in_folder;
  present = (leads_present t (home_of t item) sound).0 fits.1.folder_present;
  owner = fits.1.owner ∙ ap (λ (row : NodeRow). row.owner) (same_Some fits.0 is.of (sym fits.1.there ∙ is.there)) ∙ is.owner ∙ own;
  free = fits.1.free;
  itself = beside.itself ∙ row_back t item sound known;
  none = purge.no_items item.node (item_gone item.node t.items);
  tops = gone;
  emptied = record { items = theirs; gone = beside.gone; none = purge.none };
  others = beside.others;
  items = λ other differs off. purge.items other off ∙ item_other item.node other t.items differs;
  versions = deeds_fewer t (deed.Restore item.node (home_of t item) (name_back t item) ∷ purges gone)
      (All-cons NoStore (deed.Restore item.node (home_of t item) (name_back t item)) (purges gone) tt (purges_none gone));
  rest = ap (λ (made : Tables). stamp made call.now) (purged_rest u gone)
      ∙ (λ i. record t {
        meta = record t.meta { last = call.now };
        nodes = (deeds_done u (purges gone)).nodes;
        shares = back_shares t item sound known gone items others once i;
        versions = (deeds_done u (purges gone)).versions;
        items = (deeds_done u (purges gone)).items;
      });
}
  where
    t : Tables
    t = call.state.tables

    u : Tables
    u = restored t item.node (home_of t item) (name_back t item)

    fits : (row : NodeRow) × Fits t (dropped item_key (item.node ∷ []) t.items) item.node (home_of t item) (name_back t item) row
    fits = restored_fits t item.node (home_of t item) (name_back t item) sound known

    is : IsItemSound t item
    is = (item_is t item.node sound item there).1

    of : (row : NodeRow) × (node_row t.nodes item.node ≡ Some row) × (row.place ≡ Trash)
    of = top t item sound known

    items : All (IsItem t) gone
    items = items_are t (asker_of call) gone theirs

    purge : ArePurged u (deeds_done u (purges gone)) gone
    purge = back_purged t item sound known gone items others once

    beside : AreGoneBeside t u (deeds_done u (purges gone)) item.node gone
    beside = back_beside t item sound known gone items others once
