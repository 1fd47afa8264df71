-- What is known of a DELETE, of what is asked about the trash, and of another quota: which nodes go for good.
use Rattle.std.proofs.Common.{◌≡◌, ◌≢◌, ◌⊎◌, ℕ, zero, suc, ◌==◌, inl, inr, Bool, true, false, not, List, [], ◌∷◌, ◌∙◌, drop, filter, get_or, map, Option, if◌then◌else◌, refl, sym, ap, subst, arith}
use Rattle.std.specs.Prelude.{None, Some, is_some}
use Rattle.std.specs.List.{All, AllPairs}
use Rattle.std.specs.Option.{option_and_then, option_map_or}
use Rattle.std.proofs.lemmas.Cmp.{tied_itself}
use Rattle.std.proofs.lemmas.Bool.{both_ways, cond_both, eq-eqb, eqb-true, not-true}
use Rattle.std.proofs.lemmas.List.Elements.{All-cons, All-drop, All-filter, All-head, All-map, All-nil, All-tail, All-weaker, filter_passes}
use Rattle.std.proofs.lemmas.List.Kept.{AllPairs-cons, AllPairs-filter}
use Rattle.std.proofs.lemmas.Option.{none-some, same_Some}
use Rattle.nf_base.specs.declared.rows.ItemRow.{ItemRow}
use Rattle.nf_base.specs.declared.rows.NodeRow.{NodeRow}
use Rattle.nf_base.specs.declared.rows.Place.TheVariants.{Inside, Trash}
use Rattle.nf_base.specs.declared.rows.UserRow.{UserRow}
use Rattle.nf_defs.proofs.Puts.{key_total}
use Rattle.nf_defs.specs.Prelude.{item_key, item_row, key_cmp, node_row, Tables, user_row}
use Rattle.nf_retention.specs.Trash.{is_newer, newest_first, put_newest}
use Rattle.nf_words.proofs.Asks.{nothing_known}
use Rattle.nf_words.proofs.Fits.{within}
use Rattle.nf_words.proofs.Forgetting.{heads, tails}
use Rattle.nf_words.proofs.Found.{found_passes}
use Rattle.nf_words.proofs.Known.{alone, IsItem, Known, KnownDeeds, KnownGoes, KnownLeaving, KnownRestore, settled_known}
use Rattle.nf_words.proofs.Known.KnownDeeds.{by_going, by_requoting, by_restoring}
use Rattle.nf_words.specs.Prelude.{AreSound, charged, charged_to, deepest_in, done, gone_beside, gone_of, home_of, IsItemSound, item_dropped, item_for, item_if_of, item_restored, item_size, items_but, items_of, name_back, nothing_done, purges, quota_of, requoted, requoting, restore_limit, restoring, settled_by}
use Rattle.nf_words.specs.declared.answer.Allowed.{Allowed}
use Rattle.nf_words.specs.declared.answer.Report.TheVariants as report

-- ---- items, newest first

-- what all have, all have in that order
put_has : (P : ItemRow → Type 0) (item : ItemRow) (items : List ItemRow) → P item → All P items → All P (put_newest item items)
put_has P item [] is all = All-cons P item [] is (All-nil P)
put_has P item (first ∷ items) is all =
    cond_both (is_newer first item) (first ∷ put_newest item items) (item ∷ first ∷ items) (All P)
    (λ e. All-cons P first (put_newest item items) (All-head P first items all) (put_has P item items is (All-tail P first items all)))
    (λ e. All-cons P item (first ∷ items) is all)

newest_has : (P : ItemRow → Type 0) (items : List ItemRow) → All P items → All P (newest_first items)
newest_has P [] all = All-nil P
newest_has P (item ∷ items) all = put_has P item (newest_first items) (All-head P item items all) (newest_has P items (All-tail P item items all))

-- two items of two nodes
abbrev AreTwo : ItemRow → ItemRow → Type 0
AreTwo a b = a.node ≢ b.node

turned : (a b : ItemRow) → AreTwo a b → AreTwo b a
turned a b two = λ same. two (sym same)

put_two : (item : ItemRow) (items : List ItemRow) → All (AreTwo item) items → AllPairs AreTwo items → AllPairs AreTwo (put_newest item items)
put_two item [] all pairs = AllPairs-cons AreTwo item [] all pairs
put_two item (first ∷ items) all pairs =
    cond_both (is_newer first item) (first ∷ put_newest item items) (item ∷ first ∷ items) (AllPairs AreTwo)
    (λ e.
    AllPairs-cons AreTwo first (put_newest item items)
    (put_has (AreTwo first) item items (turned item first (All-head (AreTwo item) first items all)) (heads AreTwo first items pairs))
    (put_two item items (All-tail (AreTwo item) first items all) (tails AreTwo first items pairs)))
    (λ e. AllPairs-cons AreTwo item (first ∷ items) all pairs)

newest_two : (items : List ItemRow) → AllPairs AreTwo items → AllPairs AreTwo (newest_first items)
newest_two [] pairs = pairs
newest_two (item ∷ items) pairs =
    put_two item (newest_first items) (newest_has (AreTwo item) items (heads AreTwo item items pairs)) (newest_two items (tails AreTwo item items pairs))

drop_two : (n : ℕ) (items : List ItemRow) → AllPairs AreTwo items → AllPairs AreTwo (drop n items)
drop_two zero items pairs = pairs
drop_two (suc n) [] pairs = pairs
drop_two (suc n) (item ∷ items) pairs = drop_two n items (tails AreTwo item items pairs)

-- ---- what goes

abbrev pub Distinct : List ℕ → Type 0
Distinct nodes = AllPairs (λ (a b : ℕ). a ≢ b) nodes

nodes_two : (items : List ItemRow) → AllPairs AreTwo items → Distinct (map (λ item. item.node) items)
nodes_two [] pairs = λ i j d before within. absurd (omega (arith, within))
nodes_two (item ∷ items) pairs =
    AllPairs-cons (λ (a b : ℕ). a ≢ b) item.node (map (λ item. item.node) items)
    (All-map (λ (node : ℕ). item.node ≢ node) (λ (item : ItemRow). item.node) items (heads AreTwo item items pairs))
    (nodes_two items (tails AreTwo item items pairs))

-- what the nodes of some items have, those of them that go have
pub gone_has : (P : ℕ → Type 0) (t : Tables) (now quota : ℕ) (items : List ItemRow) → All (λ (item : ItemRow). P item.node) items
    → All P (gone_of t now quota items)
gone_has P t now quota items all =
    All-map P (λ (item : ItemRow). item.node) _
    (All-drop (λ (item : ItemRow). P item.node) _ (newest_first items) (newest_has (λ (item : ItemRow). P item.node) items all))

gone_once : (t : Tables) (now quota : ℕ) (items : List ItemRow) → AllPairs AreTwo items → Distinct (gone_of t now quota items)
gone_once t now quota items pairs = nodes_two _ (drop_two _ (newest_first items) (newest_two items pairs))

module _ (t : Tables) (sound : AreSound t) where
  -- ---- the items that are there

  item_there : (items : List ItemRow) → All (λ (item : ItemRow). is_some (item_row items item.node) ≡ true) items
  item_there [] = All-nil (λ (item : ItemRow). is_some (item_row [] item.node) ≡ true)
  item_there (first ∷ items) =
      All-cons (λ (item : ItemRow). is_some (item_row (first ∷ items) item.node) ≡ true) first items (rw (eq-eqb first.node first.node refl) refl)
      (All-weaker (λ (item : ItemRow). is_some (item_row items item.node) ≡ true)
      (λ (item : ItemRow). is_some (item_row (first ∷ items) item.node) ≡ true)
      (λ item there.
      cond_both (first.node == item.node) (Some first) (item_row items item.node) (λ (o : Option ItemRow). is_some o ≡ true) (λ e. refl) (λ e. there))
      items (item_there items))

  -- each is an item, and they are of different nodes
  pub of_user : (user : ℕ) → All (λ (item : ItemRow). IsItem t item.node) (items_of t user)
  of_user user = All-filter (λ (item : ItemRow). item.owner == user) (λ (item : ItemRow). IsItem t item.node) t.items (item_there t.items)

  all_two : AllPairs AreTwo t.items
  all_two i j d before within = λ same.
      let a = get_or t.items i d in
      let b = get_or t.items j d in
      let equal = tied_itself key_total (item_key b) in
      let less = ap (λ (n : ℕ). key_cmp (n ∷ []) (item_key b)) (sym same) ∙ sound.others.items_rise i j d before within in absurd (cc)

  user_two : (user : ℕ) → AllPairs AreTwo (items_of t user)
  user_two user = AllPairs-filter AreTwo (λ (item : ItemRow). item.owner == user) t.items all_two

  abbrev NodeOf : ItemRow → ℕ
  NodeOf item = item.node

  -- an item that is found is of its node
  pub item_is : (node : ℕ) (item : ItemRow) → item_row t.items node ≡ Some item → item.node ≡ node
  item_is node item found = eqb-true item.node node (found_passes (λ (item : ItemRow). item.node == node) t.items item found)

  -- those that go of a user's
  pub user_goes : (now quota user : ℕ) → All (IsItem t) (gone_of t now quota (items_of t user))
  user_goes now quota user = gone_has (IsItem t) t now quota (items_of t user) (of_user user)

  pub user_once : (now quota user : ℕ) → Distinct (gone_of t now quota (items_of t user))
  user_once now quota user = gone_once t now quota (items_of t user) (user_two user)

  -- ---- an item that goes or comes back, and of the others those that go

  pub beside_goes : (now : ℕ) (item : ItemRow) → All (IsItem t) (gone_beside t now item)
  beside_goes now item =
      gone_has (IsItem t) t now _ (items_but t item.owner item.node)
      (All-filter (λ (other : ItemRow). not (other.node == item.node)) (λ (other : ItemRow). IsItem t other.node) (items_of t item.owner) (of_user item.owner))

  beside_others : (now : ℕ) (item : ItemRow) → All (λ (node : ℕ). item.node ≢ node) (gone_beside t now item)
  beside_others now item =
      gone_has (λ (node : ℕ). item.node ≢ node) t now _ (items_but t item.owner item.node)
      (λ k d within same.
      let other = get_or (items_but t item.owner item.node) k d in
      let off = filter_passes (λ (other : ItemRow). not (other.node == item.node)) (items_of t item.owner) k d within in
      both_ways (other.node == item.node) (not-true (other.node == item.node) off) (eq-eqb other.node item.node (sym same)))

  beside_once : (now : ℕ) (item : ItemRow) → Distinct (gone_beside t now item)
  beside_once now item =
      gone_once t now _ (items_but t item.owner item.node)
      (AllPairs-filter AreTwo (λ (other : ItemRow). not (other.node == item.node)) (items_of t item.owner) (user_two item.owner))

  abbrev IsKnown : ℕ → Allowed → Type 0
  IsKnown now act = Known t now act

  -- the item of a user, if it is there
  pub own_there : (user node : ℕ) (item : ItemRow) → option_and_then (item_if_of user) (item_row t.items node) ≡ Some item
      → item_row t.items node ≡ Some item
  own_there user node item is = here (item_row t.items node) refl is
    where
      owned : (it : ItemRow) (b : Bool) → (if b then Some it else None) ≡ Some item → Some it ≡ Some item
      owned it true is = is
      owned it false is = absurd (none-some item is)

      here : (o : Option ItemRow) → item_row t.items node ≡ o → option_and_then (item_if_of user) o ≡ Some item → item_row t.items node ≡ Some item
      here None e is = absurd (none-some item is)
      here (Some it) e is = e ∙ owned it (it.owner == user) is

  -- it is one
  pub own_is : (user node : ℕ) (item : ItemRow) → option_and_then (item_if_of user) (item_row t.items node) ≡ Some item → IsItem t item.node
  own_is user node item is =
      let there = own_there user node item is in subst (IsItem t) (sym (item_is node item there)) (ap is_some there)

  -- it goes, and of the others those that do
  pub dropped_goes : (now : ℕ) (item : ItemRow) → IsItem t item.node → KnownGoes t (item.node ∷ gone_beside t now item)
  dropped_goes now item is =
      let gone = gone_beside t now item in
      record {
        items = All-cons (IsItem t) item.node gone is (beside_goes now item);
        once = AllPairs-cons (λ (a b : ℕ). a ≢ b) item.node gone (beside_others now item) (beside_once now item);
      }

  pub dropped_known : (now user node : ℕ) (o : Option ItemRow) → option_and_then (item_if_of user) (item_row t.items node) ≡ o
      → IsKnown now (option_map_or (item_dropped t now) o nothing_done)
  dropped_known now user node None is = nothing_known t now
  dropped_known now user node (Some item) is =
      alone t now (purges (item.node ∷ gone_beside t now item))
      (by_going (item.node ∷ gone_beside t now item) (dropped_goes now item (own_is user node item is)))

  pub emptied_items : (user : ℕ) → All (IsItem t) (map (λ item. item.node) (items_of t user))
  emptied_items user = All-map (IsItem t) NodeOf (items_of t user) (of_user user)

  -- all of a user's go
  pub emptied_goes : (user : ℕ) → KnownGoes t (map (λ item. item.node) (items_of t user))
  emptied_goes user = record { items = emptied_items user; once = nodes_two (items_of t user) (user_two user) }

  pub emptied_known : (now user : ℕ) → KnownDeeds t now (purges (map (λ item. item.node) (items_of t user)))
  emptied_known now user = by_going (map NodeOf (items_of t user)) (emptied_goes user)

  -- it comes back, and of the others some go
  pub record KnownBack (now : ℕ) (item : ItemRow) : Type 0 where
    pub restore : KnownRestore t item.node (home_of t item) (name_back t item)
    pub goes : KnownGoes t (gone_beside t now item)
    pub others : All (λ (node : ℕ). item.node ≢ node) (gone_beside t now item)

  pub back_known : (now user node : ℕ) (item : ItemRow) → option_and_then (item_if_of user) (item_row t.items node) ≡ Some item
      → option_and_then (restore_limit t) (item_row t.items node) ≡ None → KnownBack now item
  back_known now user node item is few =
      let there = own_there user node item is in
      let id = item_is node item there in
      let fits : restore_limit t item ≡ None = sym (ap (option_and_then (restore_limit t)) there) ∙ few in
      record {
        restore = record {
          item = item;
          there = ap (item_row t.items) id ∙ there;
          home = refl;
          named = refl;
          deep = (within t 0 (deepest_in t.nodes item.node (home_of t item)) 0 0 0 fits).deep;
        };
        goes = record { items = beside_goes now item; once = beside_once now item };
        others = beside_others now item;
      }

  pub restored_known : (now user node : ℕ) (o : Option ItemRow) → option_and_then (item_if_of user) (item_row t.items node) ≡ o
      → option_and_then (restore_limit t) (item_row t.items node) ≡ None → IsKnown now (option_map_or (item_restored t now) o nothing_done)
  restored_known now user node None is few = nothing_known t now
  restored_known now user node (Some item) is few =
      let back = back_known now user node item is few in
      settled_known t now (charged t item.owner 0 (item_size t item)) (restoring t now item)
      (by_restoring item.node (home_of t item) (name_back t item) (gone_beside t now item) back.restore back.goes back.others)

  -- ---- another quota

  pub quota_goes : (now quota user : ℕ) → KnownGoes t (gone_of t now quota (items_of t user))
  quota_goes now quota user = record { items = user_goes now quota user; once = user_once now quota user }

  pub requoted_known : (now quota : ℕ) (row : UserRow) → user_row t.users row.id ≡ Some row → IsKnown now (requoted t now quota row)
  requoted_known now quota row there = here (row.quota == quota) refl
    where
      gone : List ℕ
      gone = gone_of t now quota (items_of t row.id)

      another : UserRow
      another = record row { quota = quota }

      here : (b : Bool) → (row.quota == quota) ≡ b
          → IsKnown now (if b then nothing_done else done (settled_by t (charged_to t quota row) (requoting t now quota row)) report.Plain)
      here true e = nothing_known t now
      here false e =
          settled_known t now (charged_to t quota row) (requoting t now quota row)
          (by_requoting another gone
          (record {
            old = row;
            there = there;
            same = refl;
            other = λ same. both_ways (row.quota == quota) e (eq-eqb row.quota quota (sym (ap (λ (r : UserRow). r.quota) same)));
          })
          (quota_goes now quota row.id))

  -- ---- what leaves its place

  module _ (now : ℕ) (row : NodeRow) (known : KnownLeaving t row) where
    abbrev pub item : ItemRow
    item = item_for now row

    abbrev pub all : List ItemRow
    all = item ∷ items_of t row.owner

    -- what is in the trash is in no folder, so that it isn't an item yet
    unlike : All (λ (other : ItemRow). row.id ≢ other.node) (items_of t row.owner)
    unlike =
        All-filter (λ (other : ItemRow). other.owner == row.owner) (λ (other : ItemRow). row.id ≢ other.node) t.items
        (All-weaker (IsItemSound t) (λ (other : ItemRow). row.id ≢ other.node)
        (λ other is same.
        let of : row ≡ is.of = same_Some row is.of (sym known.there ∙ ap (node_row t.nodes) same ∙ is.there) in
        let place : Inside known.folder ≡ Trash = sym known.inside ∙ ap (λ (r : NodeRow). r.place) of ∙ is.place in cc)
        t.items sound.others.items)

    all_apart : AllPairs AreTwo all
    all_apart = AllPairs-cons AreTwo item (items_of t row.owner) unlike (user_two row.owner)

    -- each that goes is the node, or an item
    abbrev EitherOf : ℕ → Type 0
    EitherOf node = (node ≡ row.id) ⊎ IsItem t node

    either_all : All (λ (other : ItemRow). EitherOf other.node) all
    either_all =
        All-cons (λ (other : ItemRow). EitherOf other.node) item (items_of t row.owner) (inl refl)
        (All-weaker (λ (other : ItemRow). IsItem t other.node) (λ (other : ItemRow). EitherOf other.node) (λ other is. inr is) (items_of t row.owner)
        (of_user row.owner))

    abbrev pub gone : ℕ → List ℕ
    gone quota = gone_of t now quota all

    either_gone : (quota : ℕ) → All EitherOf (gone quota)
    either_gone quota = gone_has EitherOf t now quota all either_all

    -- but for the node they are items
    others_items : (nodes : List ℕ) → All EitherOf nodes → All (λ (node : ℕ). node ≢ row.id) nodes → All (IsItem t) nodes
    others_items nodes either other k d within =
        elim (either k d within) [ inl same ↦ absurd (other k d within same) | inr is ↦ is ]

    abbrev pub off : ℕ → Bool
    off node = not (node == row.id)

    abbrev pub nodes : List ℕ
    nodes = gone (quota_of t row.owner)

    abbrev pub rest : List ℕ
    rest = filter off nodes

    pub rest_apart : All (λ (node : ℕ). node ≢ row.id) rest
    rest_apart k d within same =
        both_ways (get_or rest k d == row.id) (not-true (get_or rest k d == row.id) (filter_passes off nodes k d within))
        (eq-eqb (get_or rest k d) row.id same)

    -- what goes beside it is items
    pub rest_goes : KnownGoes t rest
    rest_goes = record {
      items = others_items rest (All-filter off EitherOf nodes (either_gone (quota_of t row.owner))) rest_apart;
      once = AllPairs-filter (λ (a b : ℕ). a ≢ b) off nodes (gone_once t now (quota_of t row.owner) all all_apart);
    }
