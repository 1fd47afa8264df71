-- What a step does first is told of the tables before it, and leaves what is under each item that goes for good as it was.
use Rattle.std.proofs.Common.{◌≡◌, ◌≢◌, ℕ, zero, suc, ◌+◌, ◌<◌, false, Bool, List, [], ◌∷◌, ◌++◌, Option, Some, get_or, map, filter, refl, sym, ap, subst, ◌∙◌, arith, append_assoc, if◌then◌else◌}
use Rattle.std.specs.Prelude.{is_some}
use Rattle.std.specs.List.{All, flat_map}
use Rattle.std.proofs.lemmas.Bool.{cond_both, false_from_ne_true, ne_eqb}
use Rattle.std.proofs.lemmas.Grind.{flat_map-append}
use Rattle.std.proofs.lemmas.List.{append-nil}
use Rattle.std.proofs.lemmas.List.Elements.{All-head, All-tail, filter-append}
use Rattle.std.proofs.lemmas.Option.{option_and_then_some, same_Some}
use Rattle.nf_base.specs.declared.changes.Change.{Change}
use Rattle.nf_base.specs.declared.changes.Change.TheVariants.{Drop, Put}
use Rattle.nf_base.specs.declared.changes.RowKey.TheVariants as keys
use Rattle.nf_base.specs.declared.rows.NodeRow.{NodeRow}
use Rattle.nf_base.specs.declared.rows.Place.{Place}
use Rattle.nf_base.specs.declared.rows.Row.TheVariants as rows
use Rattle.nf_defs.proofs.Walks.{inside_of}
use Rattle.nf_defs.specs.Prelude.{by_name, climb, folder_of, is_in, is_place_in, item_row, node_row, parent_of, relinked, Tables, with_node}
use Rattle.nf_defs.specs.Tree.{trashed}
use Rattle.nf_laws.proofs.Climbs.{parent_at}
use Rattle.nf_laws.proofs.Copied.{copy_at}
use Rattle.nf_laws.proofs.OneRow.{filter_with}
use Rattle.nf_laws.proofs.Others.{item_other}
use Rattle.nf_laws.proofs.Present.{never_trash}
use Rattle.nf_laws.proofs.Rows.{row_is}
use Rattle.nf_laws.proofs.Trashed.{item_put, item_top}
use Rattle.nf_laws.specs.Transfers.{IsPlacedCopy, Mirrors}
use Rattle.nf_words.proofs.Known.{IsItem, KnownGoes, KnownLeaving}
use Rattle.nf_words.specs.Prelude.{AreSound, closed_under, deed_done, deeds_done, discard, dropped_under, forgets, forgotten_under, goes_itself, gone_under, item_for, LeadsToRoot, purges, told_deed, told_deeds, told_item, told_node}
use Rattle.nf_words.specs.declared.answer.Deed.{Deed}
use Rattle.nf_words.specs.declared.answer.Deed.TheVariants as deed
use Rattle.nf_words.specs.declared.request.Transfer.{Transfer}
use Rattle.nf_retention.specs.declared.versions.Version.{Version}
use Rattle.nf_state.specs.Gone.{TellsDeeds, told_first}
use Rattle.nf_state.proofs.ToldGone.{items_told, present_apart, purge_same, SameUnder, same_forgotten, same_walk}

-- ---- deeds that act, and then items that go

-- a deed that is done in the tables after earlier ones: it is told of the first tables, and leaves the items that go, and what is under them
pub record Tells (t u : Tables) (gone : List ℕ) (one : Deed) : Type 0 where
  pub told : told_deed u one ≡ told_first t one
  pub items : All (IsItem u) gone → All (IsItem (deed_done u one)) gone
  pub same : All (IsItem u) gone → All (SameUnder t u) gone → All (SameUnder t (deed_done u one)) gone

abbrev pub TellInTurn : Tables → Tables → List ℕ → List Deed → Type 0
TellInTurn t u gone [] = Unit {0}
TellInTurn t u gone (one ∷ deeds) = Tells t u gone one × TellInTurn t (deed_done u one) gone deeds

first_told : (t u : Tables) (gone : List ℕ) (deeds : List Deed) → TellInTurn t u gone deeds → told_deeds u deeds ≡ flat_map (told_first t) deeds
first_told t u gone [] tell = refl
first_told t u gone (one ∷ deeds) tell =
    ap (λ (changes : List Change). changes ++ told_deeds (deed_done u one) deeds) tell.0.told
    ∙ ap (λ (changes : List Change). told_first t one ++ changes) (first_told t (deed_done u one) gone deeds tell.1)

first_left : (t u : Tables) (gone : List ℕ) (deeds : List Deed) → TellInTurn t u gone deeds → All (IsItem u) gone → All (SameUnder t u) gone
    → All (IsItem (deeds_done u deeds)) gone × All (SameUnder t (deeds_done u deeds)) gone
first_left t u gone [] tell items same = (items, same)
first_left t u gone (one ∷ deeds) tell items same =
    first_left t (deed_done u one) gone deeds tell.1 (tell.0.items items) (tell.0.same items same)

-- those behind others are told of the tables after these
pub told_both : (u : Tables) (first last : List Deed) → told_deeds u (first ++ last) ≡ told_deeds u first ++ told_deeds (deeds_done u first) last
told_both u [] last = refl
told_both u (one ∷ first) last =
    ap (λ (changes : List Change). told_deed u one ++ changes) (told_both (deed_done u one) first last)
    ∙ sym (append_assoc (told_deed u one) (told_deeds (deed_done u one) first) (told_deeds (deeds_done (deed_done u one) first) last))

pub tell_both : (t : Tables) (first : List Deed) (gone : List ℕ) → AreSound t → AreSound (deeds_done t first) → KnownGoes t gone
    → TellInTurn t t gone first → TellsDeeds t (first ++ purges gone)
tell_both t first gone sound after goes tell =
    let left = first_left t t gone first tell goes.items (λ k d within j folder up. (refl, refl)) in
    told_both t first (purges gone)
    ∙ ap (λ (changes : List Change). changes ++ told_deeds (deeds_done t first) (purges gone)) (first_told t t gone first tell)
    ∙ ap (λ (changes : List Change). flat_map (told_first t) first ++ changes)
    (items_told t (deeds_done t first) gone sound after goes.items left.0 left.1 goes.once)
    ∙ sym (flat_map-append (told_first t) first (purges gone))

-- ---- versions that go behind others

forgets_told : (t u : Tables) (gone : List Version) → told_deeds u (forgets gone) ≡ flat_map (told_first t) (forgets gone)
forgets_told t u [] = refl
forgets_told t u (version ∷ gone) =
    ap (λ (changes : List Change). Drop (keys.Version version.node version.at) ∷ changes)
    (forgets_told t (deed_done u (deed.Forget version.node version.at)) gone)

pub tells_behind : (t : Tables) (first : List Deed) (gone : List Version) → TellsDeeds t first → TellsDeeds t (first ++ forgets gone)
tells_behind t first gone tells =
    told_both t first (forgets gone)
    ∙ ap (λ (changes : List Change). changes ++ told_deeds (deeds_done t first) (forgets gone)) tells
    ∙ ap (λ (changes : List Change). flat_map (told_first t) first ++ changes) (forgets_told t (deeds_done t first) gone)
    ∙ sym (flat_map-append (told_first t) first (forgets gone))

-- ---- what isn't under an item

-- what is present isn't
never_under : (t : Tables) (top j folder : ℕ) → AreSound t → IsItem t top → climb t.nodes j folder ≡ Some top → LeadsToRoot t.nodes folder → ⊥
never_under t top j folder sound is up present =
    let row = item_top t top sound is in never_trash j t.nodes folder top row.0 present up row.1 row.2

-- nor is it an item
present_other : (t : Tables) (node top : ℕ) → AreSound t → LeadsToRoot t.nodes node → IsItem t top → top ≢ node
present_other t node top sound present is same = never_under t top 0 node sound is (ap Some (sym same)) present

-- nor what a present node is in
never_in : (t : Tables) (top j folder node : ℕ) (row : NodeRow) → AreSound t → IsItem t top → climb t.nodes j folder ≡ Some top
    → node_row t.nodes node ≡ Some row → LeadsToRoot t.nodes node → is_in folder row ≡ false
never_in t top j folder node row sound is up there present =
    false_from_ne_true (is_in folder row) (λ in_it.
    let above = parent_at t.nodes node folder row there (inside_of folder row.place in_it) in
    never_under t top (suc j) node sound is (rw above up) present)

-- ---- numbers that were given

pub there_given : (t : Tables) (node : ℕ) (row : NodeRow) → AreSound t → node_row t.nodes node ≡ Some row → node < t.meta.next_node
there_given t node row sound there = let is = row_is t node row sound there in omega (arith, is.0, is.1.given)

item_given : (t : Tables) (node : ℕ) → AreSound t → IsItem t node → node < t.meta.next_node
item_given t node sound is = let top = item_top t node sound is in there_given t node top.0 sound top.1

-- that of what climbs to a node, too
climbs_given : (t : Tables) (j node top : ℕ) → AreSound t → top < t.meta.next_node → climb t.nodes j node ≡ Some top → node < t.meta.next_node
climbs_given t zero node top sound given up = omega (arith, given, same_Some node top up)
climbs_given t (suc j) node top sound given up =
    option_and_then_some (climb t.nodes j) (parent_of t.nodes node) top up (λ parent above rest.
    option_and_then_some (λ row. folder_of row.place) (node_row t.nodes node) parent above (λ row there placed. there_given t node row sound there))

-- ---- a node that comes into another folder

-- it was in none under an item, and neither is its new one
moved_same : (t u : Tables) (gone : List ℕ) (node home : ℕ) (name : List ℕ) (old : NodeRow) → AreSound t → All (IsItem t) gone
    → node_row u.nodes node ≡ Some old → LeadsToRoot t.nodes home
    → ((top j folder : ℕ) → IsItem t top → climb t.nodes j folder ≡ Some top → is_in folder old ≡ false)
    → All (SameUnder t u) gone → All (SameUnder t (record u { nodes = with_node u.nodes node (relinked home name) })) gone
moved_same t u gone node home name old sound were there present out same k d within j folder up =
    let top = get_or gone k d in (
      ap (λ (rows : List NodeRow). map (λ row. row.id) (by_name rows))
          (filter_with (is_in folder) u.nodes node (relinked home name) (λ row is. (
            ap (is_in folder) (same_Some row old (sym is ∙ there)) ∙ out top j folder (were k d within) up,
            ne_eqb home folder (λ same. never_under t top j folder sound (were k d within) up (subst (LeadsToRoot t.nodes) same present)),
          )))
          ∙ (same k d within j folder up).0,
      (same k d within j folder up).1,
    )

pub relink_tells : (t u : Tables) (gone : List ℕ) (node : ℕ) (row : NodeRow) (home : ℕ) (name : List ℕ) → AreSound t → All (IsItem t) gone
    → node_row t.nodes node ≡ Some row → LeadsToRoot t.nodes node → LeadsToRoot t.nodes home → node_row u.nodes node ≡ Some row
    → Tells t u gone (deed.Relink node home name)
relink_tells t u gone node row home name sound were there present home_present also = record {
  told = ap (λ (o : Option NodeRow). told_node o (relinked home name)) (also ∙ sym there);
  items = λ items. items;
  same = λ items same.
      moved_same t u gone node home name row sound were also home_present
      (λ top j folder is up. never_in t top j folder node row sound is up there present) same;
}

-- an item that comes back, where others go
pub restore_tells : (t : Tables) (gone : List ℕ) (node home : ℕ) (name : List ℕ) → AreSound t → All (IsItem t) gone → IsItem t node
    → LeadsToRoot t.nodes home → All (λ (other : ℕ). node ≢ other) gone → Tells t t gone (deed.Restore node home name)
restore_tells t gone node home name sound were is present others =
    let top = item_top t node sound is in
    record {
      told = refl;
      items = λ items k d within. ap is_some (item_other node (get_or gone k d) t.items (λ same. others k d within (sym same))) ∙ items k d within;
      same = λ items same.
          moved_same t t gone node home name top.0 sound were top.1 present
          (λ other j folder is up. ap (λ (place : Place). is_place_in folder place) top.2) same;
    }

-- ---- a node that leaves its place

-- where what is under it is the same then as in the first tables, and so are the shares there that end
pub leave_tells : (t u : Tables) (now : ℕ) (gone : List ℕ) (row : NodeRow) → AreSound t → AreSound u → KnownLeaving t row → KnownLeaving u row
    → All (IsItem t) gone → SameUnder t u row.id → closed_under u.nodes u.shares row.id ≡ closed_under t.nodes t.shares row.id
    → Tells t u gone (discard t now row)
leave_tells t u now gone row sound also known is were under closed =
    cond_both (goes_itself t now row) (deed.Purge row.id) (deed.Discard (item_for now row)) (λ (one : Deed). Tells t u gone one)
    (λ e. purging) (λ e. binning)
  where
    no_item : (v : Tables) → AreSound v → LeadsToRoot v.nodes row.id → is_some (item_row v.items row.id) ≡ false
    no_item v fine present = false_from_ne_true (is_some (item_row v.items row.id)) (λ is. present_other v row.id row.id fine present is refl)

    all : List Change
    all = gone_under t.nodes t.shares row.id

    purging : Tells t u gone (deed.Purge row.id)
    purging = record {
      told =
          ap (λ (changes : List Change). changes ++ (gone_under u.nodes u.shares row.id ++ told_item u row.id)) (same_forgotten t u row.id sound under)
          ∙ ap (λ (changes : List Change). forgotten_under t.nodes t.versions row.id ++ changes)
          (ap (λ (nodes : List ℕ). (map (λ node. Drop (keys.Node node)) nodes ++ closed_under u.nodes u.shares row.id) ++ told_item u row.id)
          (same_walk t u row.id sound under)
          ∙ ap (λ (closing : List Change). (dropped_under t.nodes row.id ++ closing) ++ told_item u row.id) closed
          ∙ ap (λ (b : Bool). all ++ (if b then Drop (keys.Item row.id) ∷ [] else [])) (no_item u also is.present)
          ∙ append-nil all
          ∙ sym (ap (λ (b : Bool). if b then dropped_under t.nodes row.id ++ Drop (keys.Item row.id) ∷ [] else all) (no_item t sound known.present)));
      items = λ items k d within.
          ap is_some (item_other row.id (get_or gone k d) u.items (present_other t row.id (get_or gone k d) sound known.present (were k d within)))
          ∙ items k d within;
      same = λ items same k d within.
          purge_same t u row.id (get_or gone k d) sound also (present_apart u row.id (get_or gone k d) also is.present (items k d within))
          (same k d within);
    }

    binning : Tells t u gone (deed.Discard (item_for now row))
    binning = record {
      told =
          ap (λ (o : Option NodeRow). told_node o trashed ++ Put (rows.Item (item_for now row)) ∷ closed_under u.nodes u.shares row.id)
          (is.there ∙ sym known.there)
          ∙ ap (λ (closing : List Change). told_node (node_row t.nodes row.id) trashed ++ Put (rows.Item (item_for now row)) ∷ closing) closed;
      items = λ items k d within. item_put (item_for now row) u.items (get_or gone k d) (items k d within);
      same = λ items same k d within j folder up. (
        ap (λ (rows : List NodeRow). map (λ row. row.id) (by_name rows))
            (filter_with (is_in folder) u.nodes row.id trashed (λ old there. (
              ap (is_in folder) (same_Some old row (sym there ∙ is.there))
                  ∙ never_in t (get_or gone k d) j folder row.id row sound (were k d within) up known.there known.present,
              refl,
            )))
            ∙ (same k d within j folder up).0,
        (same k d within j folder up).1,
      );
    }

-- ---- copies that are joined

-- none of them is in a folder that is there, but for that of all
none_joined : (t : Tables) (now : ℕ) (transfer : Transfer) (name : List ℕ) (copies : List NodeRow) (folder : ℕ) → Mirrors t now transfer name copies
    → folder < t.meta.next_node → transfer.folder ≢ folder → filter (is_in folder) copies ≡ []
none_joined t now transfer name copies folder mirrors given other =
    none_in copies (λ k d within.
    let copy = copy_at t now transfer name copies mirrors k d within in here k copy.of (get_or copies k d) copy.placed)
  where
    none_in : (rows : List NodeRow) → All (λ (row : NodeRow). is_in folder row ≡ false) rows → filter (is_in folder) rows ≡ []
    none_in [] all = refl
    none_in (row ∷ rows) all =
        rw (All-head (λ (row : NodeRow). is_in folder row ≡ false) row rows all)
        (none_in rows (All-tail (λ (row : NodeRow). is_in folder row ≡ false) row rows all))

    here : (k : ℕ) (of copy : NodeRow) → IsPlacedCopy t transfer name k of copy → is_in folder copy ≡ false
    here zero of copy placed = ap (is_place_in folder) placed.0 ∙ ne_eqb transfer.folder folder other
    here (suc k) of copy placed =
        let p = placed.1 in ap (is_place_in folder) p.5 ∙ ne_eqb (t.meta.next_node + p.1) folder (λ same. omega (arith, given, same))

-- so what is under another node that is there is the same
pub join_same : (t u : Tables) (now : ℕ) (transfer : Transfer) (name : List ℕ) (copies : List NodeRow) (top : ℕ) → AreSound t
    → Mirrors t now transfer name copies → top < t.meta.next_node → ((j : ℕ) → climb t.nodes j transfer.folder ≢ Some top)
    → SameUnder t u top → SameUnder t (deed_done u (deed.Join copies)) top
join_same t u now transfer name copies top sound mirrors given out same j folder up =
    let old = climbs_given t j folder top sound given up in
    let none = none_joined t now transfer name copies folder mirrors old
    (λ is. out j (subst (λ (n : ℕ). climb t.nodes j n ≡ Some top) (sym is) up)) in (
      ap (λ (rows : List NodeRow). map (λ row. row.id) (by_name rows))
          (filter-append (is_in folder) u.nodes copies
          ∙ ap (λ (rows : List NodeRow). filter (is_in folder) u.nodes ++ rows) none
          ∙ append-nil (filter (is_in folder) u.nodes))
          ∙ (same j folder up).0,
      (same j folder up).1,
    )

pub join_tells : (t u : Tables) (now : ℕ) (gone : List ℕ) (transfer : Transfer) (name : List ℕ) (copies : List NodeRow) → AreSound t
    → Mirrors t now transfer name copies → LeadsToRoot t.nodes transfer.folder → All (IsItem t) gone → Tells t u gone (deed.Join copies)
join_tells t u now gone transfer name copies sound mirrors present were = record {
  told = refl;
  items = λ items. items;
  same = λ items same k d within.
      join_same t u now transfer name copies (get_or gone k d) sound mirrors (item_given t (get_or gone k d) sound (were k d within))
      (λ j up. never_under t (get_or gone k d) j transfer.folder sound (were k d within) up present) (same k d within);
}
