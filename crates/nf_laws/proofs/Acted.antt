-- What the deeds that act make of the tables: what leaves its place, what is put somewhere, and that all else is as it was.
use Rattle.std.proofs.Common.{◌≡◌, ◌≢◌, ◌<◌, ◌≤◌, ◌⊎◌, ℕ, zero, suc, ◌||◌, Bool, true, false, List, [], ◌∷◌, Some, get_or, map, option_map, unwrap_or, inl, inr, refl, sym, ap, subst, ◌∙◌, arith}
use Rattle.std.specs.Prelude.{is_some}
use Rattle.std.specs.List.{All, Contains}
use Rattle.std.proofs.lemmas.Bool.{cases_Bool, cases_lt, cond_both, false_from_ne_true, ne_eqb}
use Rattle.std.proofs.Math.Bool.{or-true}
use Rattle.std.proofs.lemmas.Option.{option_and_then_some, same_Some}
use Rattle.std.proofs.lemmas.List.Elements.{All-cons, All-contains, All-contains_itself, All-nil}
use Rattle.nf_base.specs.declared.rows.ItemRow.{ItemRow}
use Rattle.nf_base.specs.declared.rows.MetaRow.{MetaRow}
use Rattle.nf_base.specs.declared.rows.NodeRow.{NodeRow}
use Rattle.nf_base.specs.declared.rows.Place.{Place}
use Rattle.nf_base.specs.declared.rows.Place.TheVariants.{Inside}
use Rattle.nf_base.specs.declared.rows.ShareRow.{ShareRow}
use Rattle.nf_defs.proofs.Climbs.{climb_under, under_climb}
use Rattle.nf_defs.specs.Prelude.{climb, folder_of, is_under, item_row, node_row, parent_of, relinked, Tables}
use Rattle.nf_defs.specs.Tree.{trashed}
use Rattle.nf_laws.proofs.Ended.{any, ended_twice}
use Rattle.nf_laws.proofs.Going.{outside_is, present_off, under_is}
use Rattle.nf_laws.proofs.Gone.{row_gone}
use Rattle.nf_laws.proofs.InTurn.{fit_sound, item_outside, Joins}
use Rattle.nf_laws.proofs.Left.{leaving_left, Left}
use Rattle.nf_laws.proofs.Moved.{below_leads, Fits, outside_leads, relinked_sound}
use Rattle.nf_laws.proofs.OneRow.{row_itself, row_other}
use Rattle.nf_laws.proofs.Others.{item_other, unless_gone}
use Rattle.nf_laws.proofs.Present.{kept_leads, root_there, trash_alone}
use Rattle.nf_laws.proofs.Puts.{number_found, other_number}
use Rattle.nf_laws.proofs.Regions.{joined_stays, left_stays, old_row, Stays, stays_same, stays_then, with_stays}
use Rattle.nf_laws.proofs.Rows.{kept_joined}
use Rattle.nf_laws.proofs.Sources.{under_given}
use Rattle.nf_laws.proofs.Trashed.{item_top}
use Rattle.nf_laws.proofs.Upwards.{derived, never_climbs}
use Rattle.nf_laws.specs.Acts.{IsGoneWith, IsInTrash, IsUnderOne}
use Rattle.nf_laws.specs.Tree.{Under}
use Rattle.nf_words.proofs.Known.{IsItem, KnownLeaving}
use Rattle.nf_words.proofs.Ways.{HasRow, inside_there}
use Rattle.nf_words.specs.Prelude.{AreSound, deed_done, discard, goes_itself, item_for, joined, LeadsToRoot}
use Rattle.nf_words.specs.declared.answer.Deed.{Deed}
use Rattle.nf_words.specs.declared.answer.Deed.TheVariants as deed

-- a top left its place: it is in the trash, or gone with all under it
abbrev pub IsAway : Tables → Tables → ℕ → ℕ → Type 0
IsAway t u now top = IsInTrash t u now top ⊎ IsGoneWith t.nodes u.nodes top

-- those left their places, and nodes were put somewhere; nothing else is another
pub record Acted (t u : Tables) (now : ℕ) (leave : List ℕ) (IsPut : ℕ → Type 0) : Type 0 where
  pub sound : AreSound u
  pub present : All (LeadsToRoot t.nodes) leave
  pub away : All (IsAway t u now) leave
  pub others : (node : ℕ) → (IsPut node → ⊥) → (IsUnderOne t.nodes leave node → ⊥) → node_row u.nodes node ≡ node_row t.nodes node
  pub leads : (node : ℕ) → (IsUnderOne t.nodes leave node → ⊥) → LeadsToRoot t.nodes node → LeadsToRoot u.nodes node
  pub items : (node : ℕ) → (Contains leave node → ⊥) → item_row u.items node ≡ item_row t.items node
  -- the shares that are ended, by a test
  pub goes : ℕ → Bool
  pub ended : u.shares ≡ map (unless_gone goes) t.shares
  pub passes : (node : ℕ) → IsUnderOne t.nodes leave node → goes node ≡ true
  pub fails : (node : ℕ) → (IsUnderOne t.nodes leave node → ⊥) → goes node ≡ false
  -- what is under an item stays so
  pub aside : (node : ℕ) → IsItem t node → Stays t.nodes u.nodes node

-- ---- nothing yet

abbrev pub NoNode : ℕ → Type 0
NoNode node = ⊥

same_shares : (shares : List ShareRow) → shares ≡ map (unless_gone (λ node. false)) shares
same_shares [] = refl
same_shares (share ∷ shares) = ap (λ (all : List ShareRow). share ∷ all) (same_shares shares)

pub none_acted : (t : Tables) (now : ℕ) → AreSound t → Acted t t now [] NoNode
none_acted t now sound = record {
  sound = sound;
  present = All-nil (LeadsToRoot t.nodes);
  away = All-nil (IsAway t t now);
  others = λ node put off. refl;
  leads = λ node off up. up;
  items = λ node off. refl;
  goes = λ node. false;
  ended = same_shares t.shares;
  passes = λ node one. absurd (omega (arith, one.1.1));
  fails = λ node off. refl;
  aside = λ node is. stays_same t.nodes node;
}

-- an item isn't among what leaves
pub not_leaving : (t u : Tables) (now : ℕ) (leave : List ℕ) (IsPut : ℕ → Type 0) (node : ℕ) → AreSound t → Acted t u now leave IsPut → IsItem t node
    → Contains leave node → ⊥
not_leaving t u now leave IsPut node sound acted is among =
    present_off t node node sound is (All-contains (LeadsToRoot t.nodes) leave node acted.present among) (derived 0 t.nodes node node refl)

pub item_left : (t u : Tables) (now : ℕ) (leave : List ℕ) (IsPut : ℕ → Type 0) (node : ℕ) → AreSound t → Acted t u now leave IsPut → IsItem t node
    → IsItem u node
item_left t u now leave IsPut node sound acted is =
    ap is_some (acted.items node (not_leaving t u now leave IsPut node sound acted is)) ∙ is

-- ---- what is away stays away

-- where the rows under it, and its item, stay
pub away_on : (t u v : Tables) (now top : ℕ) → ((node : ℕ) → Under t.nodes top node → node_row v.nodes node ≡ node_row u.nodes node)
    → item_row v.items top ≡ item_row u.items top → IsAway t u now top → IsAway t v now top
away_on t u v now top same item (inl is) = inl (record {
  row = is.row;
  folder = is.folder;
  there = is.there;
  inside = is.inside;
  itself = same top (derived 0 t.nodes top top refl) ∙ is.itself;
  item = item ∙ is.item;
  below = λ node under differs. same node under ∙ is.below node under differs;
})
away_on t u v now top same item (inr gone) = inr (λ node under. same node under ∙ gone node under)

-- ---- one more leaves its place

module _ (t v : Tables) (now : ℕ) (leave : List ℕ) (IsPut : ℕ → Type 0) (sound : AreSound t) (acted : Acted t v now leave IsPut) (at : now ≤ v.meta.last)
    (row : NodeRow) (known : KnownLeaving v row) (was : KnownLeaving t row) (stays : Stays t.nodes v.nodes row.id)
    (apart : (node : ℕ) → IsUnderOne t.nodes leave node → is_under v.nodes node row.id ≡ false) where
  abbrev after : Deed → Tables
  after one = deed_done v one

  either : (P : Deed → Type 0) → P (deed.Purge row.id) → P (deed.Discard (item_for now row)) → P (discard t now row)
  either P purge discards = cond_both (goes_itself t now row) (deed.Purge row.id) (deed.Discard (item_for now row)) P (λ e. purge) (λ e. discards)

  abbrev w : Tables
  w = after (discard t now row)

  left : Left v w row.id
  left = leaving_left v now row acted.sound at known t

  item_off : (node : ℕ) → node ≢ row.id → item_row w.items node ≡ item_row v.items node
  item_off node differs =
      either (λ (one : Deed). item_row (after one).items node ≡ item_row v.items node) (item_other row.id node v.items differs)
      (other_number (λ (item : ItemRow). item.node) (item_for now row) v.items node differs)

  shares_then : w.shares ≡ map (unless_gone (λ node. is_under v.nodes node row.id)) v.shares
  shares_then = either (λ (one : Deed). (after one).shares ≡ map (unless_gone (λ node. is_under v.nodes node row.id)) v.shares) refl refl

  place_from : (place : Place) (folder : ℕ) → place ≡ Inside folder → unwrap_or (folder_of place) 0 ≡ folder
  place_from place folder is = ap (λ (place : Place). unwrap_or (folder_of place) 0) is

  in_trash : IsInTrash t (after (deed.Discard (item_for now row))) now row.id
  in_trash = record {
    row = row;
    folder = was.folder;
    there = was.there;
    inside = was.inside;
    itself = row_itself v.nodes row.id trashed (λ r. refl) ∙ ap (option_map trashed) known.there;
    item = number_found (λ (item : ItemRow). item.node) (item_for now row) v.items
        ∙ ap (λ (folder : ℕ). Some (record { node = row.id; owner = row.owner; name = row.name; from = folder; at = now }))
        (place_from row.place was.folder was.inside);
    below = λ node under differs. row_other v.nodes row.id trashed (λ r. refl) node (ne_eqb node row.id differs) ∙ stays.same node under;
  }

  itself : IsAway t w now row.id
  itself =
      either (λ (one : Deed). IsAway t (after one) now row.id)
      (inr (λ node under. row_gone v.nodes row.id node (under_is v row.id node acted.sound (stays.on node under)))) (inl in_trash)

  -- what is away isn't under it
  differs : (top : ℕ) → Contains leave top → top ≢ row.id
  differs top among same =
      let self : is_under v.nodes row.id row.id ≡ true = climb_under 0 v.nodes row.id row.id (omega arith) refl in
      absurd (both self (subst (λ (n : ℕ). is_under v.nodes n row.id ≡ false) same (apart top (top, among, derived 0 t.nodes top top refl))))
    where
      both : {b : Bool} → b ≡ true → b ≡ false → ⊥
      both one other = absurd (cc)

  before : All (IsAway t w now) leave
  before k d within =
      let top = get_or leave k d in
      let among : Contains leave top = All-contains_itself leave k d within in
      away_on t v w now top (λ node under. left.row node (apart node (top, among, under))) (item_off top (differs top among)) (acted.away k d within)

  split : (node : ℕ) → IsUnderOne t.nodes (row.id ∷ leave) node → Under t.nodes row.id node ⊎ IsUnderOne t.nodes leave node
  split node (top, (zero, within, is), under) = inl (subst (λ (n : ℕ). Under t.nodes n node) (sym is) under)
  split node (top, (suc k, within, is), under) = inr (top, (k, omega (arith, within), is), under)

  first : (node : ℕ) → Under t.nodes row.id node → IsUnderOne t.nodes (row.id ∷ leave) node
  first node under = (row.id, (0, omega arith, refl), under)

  later : (node : ℕ) → IsUnderOne t.nodes leave node → IsUnderOne t.nodes (row.id ∷ leave) node
  later node one = (one.0, (suc one.1.0, omega (arith, one.1.1), one.1.2), one.2)

  not_under : (node : ℕ) → (Under t.nodes row.id node → ⊥) → is_under v.nodes node row.id ≡ false
  not_under node off = outside_is v.nodes row.id node (λ under. off (stays.back node under))

  -- an item is apart from it
  item_stays : (node : ℕ) → IsItem t node → Stays v.nodes w.nodes node
  item_stays node is =
      let top = item_top t node sound is in
      let kept = (acted.aside node is).same node (derived 0 t.nodes node node refl) in
      let item = item_left t v now leave IsPut node sound acted is in
      left_stays v w row.id node acted.sound left (top.0, kept ∙ top.1)
      (false_from_ne_true (is_under v.nodes node row.id) (λ under.
      let c = under_climb v.nodes node row.id under in
      let same = trash_alone c.0 v.nodes node row.id top.0 (kept ∙ top.1) top.2 c.2 in
      present_off v node row.id acted.sound item known.present (derived 0 v.nodes node row.id (ap Some (sym same)))))
      (item_outside v node row.id acted.sound item known.present)

  pub leave_acted : Acted t w now (row.id ∷ leave) IsPut
  leave_acted = record {
    sound = left.sound;
    present = All-cons (LeadsToRoot t.nodes) row.id leave was.present acted.present;
    away = All-cons (IsAway t w now) row.id leave itself before;
    others = λ node put off.
        left.row node (not_under node (λ under. off (first node under))) ∙ acted.others node put (λ one. off (later node one));
    leads = λ node off up.
        left.leads node (not_under node (λ under. off (first node under))) (acted.leads node (λ one. off (later node one)) up);
    items = λ node off.
        item_off node (λ same. off (0, omega arith, sym same))
        ∙ acted.items node (λ among. off (suc among.0, omega (arith, among.1), among.2));
    goes = any acted.goes (λ node. is_under v.nodes node row.id);
    ended = shares_then ∙ ap (map (unless_gone (λ node. is_under v.nodes node row.id))) acted.ended
        ∙ ended_twice acted.goes (λ node. is_under v.nodes node row.id) t.shares;
    passes = λ node one. elim (split node one) [
      | inl under ↦ ap (λ (b : Bool). b || acted.goes node) (under_is v row.id node acted.sound (stays.on node under))
      | inr earlier ↦ ap (λ (b : Bool). is_under v.nodes node row.id || b) (acted.passes node earlier) ∙ or-true (is_under v.nodes node row.id)
    ];
    fails = λ node off.
        ap (λ (b : Bool). b || acted.goes node) (not_under node (λ under. off (first node under))) ∙ acted.fails node (λ one. off (later node one));
    aside = λ node is. stays_then t.nodes v.nodes w.nodes node (acted.aside node is) (item_stays node is);
  }

-- ---- a node moves

pub relink_acted : (t u : Tables) (now : ℕ) (leave : List ℕ) (node folder : ℕ) (name : List ℕ) (old : NodeRow) → AreSound t
    → Acted t u now leave NoNode → Fits u u.items node folder name old → LeadsToRoot u.nodes node → (IsUnderOne t.nodes leave node → ⊥)
    → Acted t (deed_done u (deed.Relink node folder name)) now leave (λ other. other ≡ node)
relink_acted t u now leave node folder name old sound acted fits present apart = record {
  sound = fine;
  present = acted.present;
  away = λ k d within.
      away_on t u v now (get_or leave k d)
      (λ other under. same other (λ is. apart (subst (IsUnderOne t.nodes leave) is (get_or leave k d, All-contains_itself leave k d within, under)))) refl (acted.away k d within);
  others = λ other put off. same other put ∙ acted.others other (λ none. none) off;
  leads = λ other off up. stays_up other (acted.leads other off up);
  items = acted.items;
  goes = acted.goes;
  ended = acted.ended;
  passes = acted.passes;
  fails = acted.fails;
  aside = λ item is.
      let there = item_left t u now leave NoNode item sound acted is in
      stays_then t.nodes u.nodes v.nodes item (acted.aside item is)
      (with_stays u.nodes node item (relinked folder name) (λ row. refl) (present_off u item node acted.sound there present)
      (present_off v item node fine there
      (below_leads u u.items node folder name old acted.sound fits node (climb_under 0 u.nodes node node (omega arith) refl))));
}
  where
    v : Tables
    v = deed_done u (deed.Relink node folder name)

    fine : AreSound v
    fine = relinked_sound u u.items node folder name old acted.sound fits

    stays_up : (other : ℕ) → LeadsToRoot u.nodes other → LeadsToRoot v.nodes other
    stays_up other up =
        elim (cases_Bool (is_under u.nodes other node)) [
          | inl under ↦ below_leads u u.items node folder name old acted.sound fits other under
          | inr outside ↦ outside_leads u.nodes node (relinked folder name) (λ row. refl) other (never_climbs u other node acted.sound outside) up
        ]

    same : (other : ℕ) → other ≢ node → node_row v.nodes other ≡ node_row u.nodes other
    same other others = row_other u.nodes node (relinked folder name) (λ row. refl) other (ne_eqb other node others)

-- ---- copies come

-- their numbers weren't given before
abbrev pub IsNew : Tables → ℕ → Type 0
IsNew t node = t.meta.next_node ≤ node

-- what is present has a row
present_row : (rows : List NodeRow) (node : ℕ) → LeadsToRoot rows node → HasRow rows node
present_row rows node up = here up.steps up.climbs
  where
    here : (k : ℕ) → climb rows k node ≡ Some up.top → HasRow rows node
    here zero is =
        let root = root_there rows up.top up.root in
        (root.0, ap (node_row rows) (same_Some node up.top is) ∙ root.1)
    here (suc k) is =
        option_and_then_some {P = HasRow rows node} (climb rows k) (parent_of rows node) up.top is (λ parent above rest. inside_there rows node parent above)

-- what is under a node that is there has a number that was given
pub given_below : (t : Tables) (top node : ℕ) → AreSound t → LeadsToRoot t.nodes top → Under t.nodes top node → node < t.meta.next_node
given_below t top node sound present under =
    let root = present_row t.nodes top present in
    under_given t top node root.0 sound root.1 (under_is t top node sound under)

pub join_acted : (t u : Tables) (now : ℕ) (leave : List ℕ) (rows : List NodeRow) → AreSound t → u.meta ≡ t.meta → u.meta.last ≡ now
    → Acted t u now leave NoNode → Joins u now rows → Acted t (joined u rows) now leave (IsNew t)
join_acted t u now leave rows sound meta at acted joins = record {
  sound = fit_sound u now (deed.Join rows) acted.sound at joins;
  present = acted.present;
  away = λ k d within.
      let top = get_or leave k d in
      away_on t u v now top (λ node under. same node (given_below t top node sound (acted.present k d within) under)) refl (acted.away k d within);
  others = λ node new off. same node (old node new) ∙ acted.others node (λ none. none) off;
  leads = λ node off up. kept_leads u.nodes v.nodes node (kept_joined u.nodes rows) (acted.leads node off up);
  items = acted.items;
  goes = acted.goes;
  ended = acted.ended;
  passes = acted.passes;
  fails = acted.fails;
  aside = λ item is.
      let there = item_left t u now leave NoNode item sound acted is in
      let top = item_top u item acted.sound there in
      stays_then t.nodes u.nodes v.nodes item (acted.aside item is)
      (joined_stays u now rows acted.sound joins item (top.0, top.1) (item_outside u item joins.transfer.folder acted.sound there joins.known.folder_present));
}
  where
    v : Tables
    v = joined u rows

    old : (node : ℕ) → (IsNew t node → ⊥) → node < t.meta.next_node
    old node new = elim (cases_lt node t.meta.next_node) [ inl less ↦ less | inr more ↦ absurd (new more) ]

    same : (node : ℕ) → node < t.meta.next_node → node_row v.nodes node ≡ node_row u.nodes node
    same node given = old_row u now rows acted.sound joins node (omega (arith, given, ap (λ (meta : MetaRow). meta.next_node) meta))
