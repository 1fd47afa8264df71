-- What deeds make of charges: what comes back, and copies, are charged, and nothing else is.
use Rattle.std.proofs.Common.{ℕ, zero, suc, ◌+◌, ◌-◌, ◌==◌, ◌&&◌, ◌≡◌, ◌≤◌, ◌⊎◌, Bool, true, false, not, List, [], ◌∷◌, ◌++◌, filter, get_or, Option, None, Some, option_map, if◌then◌else◌, inl, inr, refl, sym, ap, subst, ◌∙◌, arith, le_refl}
use Rattle.std.specs.Prelude.{is_some, sum_by}
use Rattle.std.specs.List.{All, list_any}
use Rattle.std.specs.Option.{option_and_then, option_map_or, option_or}
use Rattle.std.proofs.lemmas.Bool.{and_cases, cases_Bool, cond_both, eqb-true, false_from_ne_true, false≢true, ltb-false}
use Rattle.std.proofs.lemmas.List.Elements.{All-contains}
use Rattle.std.proofs.lemmas.List.Folds.{Any-from_list_any, find-append, list_any-from_Any, list_any_at}
use Rattle.std.proofs.lemmas.List.Sums.{sum_by-append, sum_by-cons}
use Rattle.std.proofs.lemmas.Option.{none-some, option_and_then_some}
use Rattle.nf_base.specs.declared.rows.ItemRow.{ItemRow}
use Rattle.nf_base.specs.declared.rows.NodeRow.{NodeRow}
use Rattle.nf_base.specs.declared.rows.UserRow.{UserRow}
use Rattle.nf_defs.proofs.Climbs.{climb_under, under_climb}
use Rattle.nf_defs.proofs.Puts.{all_put}
use Rattle.nf_defs.specs.Prelude.{climb, folder_of, is_present, is_under, item_row, node_row, owner_of, parent_of, relinked, Tables, user_key, user_row, with_node, without_under}
use Rattle.nf_defs.specs.Tree.{trashed}
use Rattle.nf_laws.proofs.Charging.{alike, sums_agree, sums_below, sums_join}
use Rattle.nf_laws.proofs.Climbs.{node_row_each}
use Rattle.nf_laws.proofs.Gone.{left_leads}
use Rattle.nf_laws.proofs.InTurn.{deed_moment, deeds_append, fit_sound, InTurn, none_replaced, replaced_is}
use Rattle.nf_laws.proofs.Moved.{climb_below}
use Rattle.nf_laws.proofs.OneRow.{row_itself, row_other}
use Rattle.nf_laws.proofs.Others.{stamp_sound, those_were}
use Rattle.nf_laws.proofs.Parts.{deeds_stamped, step_turn}
use Rattle.nf_laws.proofs.Presence.{leads_present}
use Rattle.nf_laws.proofs.Present.{below_present, never_trash}
use Rattle.nf_laws.proofs.Rows.{found_is, parent_there, stamp}
use Rattle.nf_laws.proofs.Sizes.{nothing, weight}
use Rattle.nf_laws.proofs.Trashed.{discarded_leads, discarded_sound}
use Rattle.nf_laws.proofs.Upwards.{climbs_is_under}
use Rattle.nf_laws.proofs.Weighing.{copies_owned, parts_sum, without_owned}
use Rattle.nf_laws.specs.Charges.{bytes_owned, owned_bytes}
use Rattle.nf_words.proofs.Found.{child_parent}
use Rattle.nf_words.proofs.Known.{KnownCopies, KnownCross, KnownDeeds, KnownLeaving, KnownMove, KnownTransfer, alone}
use Rattle.nf_words.proofs.Known.KnownDeeds.{by_copying, by_crossing, by_moving}
use Rattle.nf_words.proofs.Transfers.{replaced_leaves}
use Rattle.nf_words.proofs.Ways.{inside_present, inside_there}
use Rattle.nf_words.specs.Listing.{size_of}
use Rattle.nf_words.specs.Others.{IsItemSound}
use Rattle.nf_words.specs.Prelude.{AreSound, beside, besides, charge_of, copies, copies_to, copy_excess, counted_for, crossing, deed_done, deeds_done, discard, discarded, discards, excess, goes_itself, gone_with, is_over, item_for, joined, LeadsToRoot, moves, purged, purges, quota_of, restore_excess, restored, row_at}
use Rattle.nf_words.specs.declared.answer.Deed.{Deed}
use Rattle.nf_words.specs.declared.answer.Deed.TheVariants as deed
use Rattle.nf_words.specs.declared.answer.Excess.{Excess}
use Rattle.nf_words.specs.declared.request.Transfer.{Transfer}

-- ---- what is present

-- a folder that a node is in by the other rows it is in by the first, but for some nodes, and all that is under those is among them
record Follows (rows others : List NodeRow) (more : ℕ → Bool) : Type 0 where
  pub each : (node parent : ℕ) → parent_of others node ≡ Some parent → (parent_of rows node ≡ Some parent) ⊎ (more node ≡ true)
  pub down : (node parent : ℕ) → parent_of rows node ≡ Some parent → more parent ≡ true → more node ≡ true

-- so a climb in the others is one in the first, but from those
climbs_back : (rows others : List NodeRow) (more : ℕ → Bool) → Follows rows others more → (k node top : ℕ) → climb others k node ≡ Some top
    → (climb rows k node ≡ Some top) ⊎ (more node ≡ true)
climbs_back rows others more follows zero node top is = inl is
climbs_back rows others more follows (suc k) node top is =
    option_and_then_some (climb others k) (parent_of others node) top is (λ parent above rest.
    elim (follows.each node parent above) [
      | inl was ↦
          (elim (climbs_back rows others more follows k parent top rest) [
            | inl up ↦ inl (ap (option_and_then (climb rows k)) was ∙ up)
            | inr of ↦ inr (follows.down node parent was of)
          ])
      | inr of ↦ inr of
    ])

-- and what is present in the others is so in the first, or one of those
present_back : (users : List UserRow) (rows others : List NodeRow) (more : ℕ → Bool) → Follows rows others more → (node : ℕ)
    → is_present users others node ≡ true → (is_present users rows node ≡ true) ⊎ (more node ≡ true)
present_back users rows others more follows node is =
    let any = Any-from_list_any (λ user. is_under others node user.root) users is in
    let up = under_climb others node any.1.root any.4 in
    elim (climbs_back rows others more follows up.0 node any.1.root up.2) [
      | inl climbs ↦
          inl (list_any-from_Any (λ user. is_under rows node user.root) users
          (any.0, any.1, any.2, any.3, climb_under up.0 rows node any.1.root up.1 climbs))
      | inr of ↦ inr of
    ]

-- where it is none of those, what is present in the others is so in the first
present_so : (users : List UserRow) (rows others : List NodeRow) → Follows rows others (λ node. false) → (node : ℕ)
    → is_present users others node ≡ true → is_present users rows node ≡ true
present_so users rows others follows node is =
    elim (present_back users rows others (λ node. false) follows node is) [ inl was ↦ was | inr none ↦ absurd (false≢true none) ]

-- ---- sums

-- what rows are counted for where they are present, or some of those
counts_more : (t made : Tables) (user : ℕ) (more : ℕ → Bool)
    → ((node : ℕ) → is_present made.users made.nodes node ≡ true → (is_present t.users t.nodes node ≡ true) ⊎ (more node ≡ true))
    → (rows : List NodeRow)
    → sum_by (counted_for made user) rows ≤ sum_by (counted_for t user) rows + sum_by (λ row. if more row.id then owned_bytes user row else 0) rows
counts_more t made user more was rows =
    omega (
      arith,
      sums_below (counted_for made user) (λ row. counted_for t user row + those row) rows (λ row.
          here (row.owner == user) (is_present made.users made.nodes row.id) (is_present t.users t.nodes row.id) (more row.id) (weight row) (was row.id)),
      sums_join (counted_for t user) those (λ row. counted_for t user row + those row) rows (λ row. refl),
    )
  where
    those : NodeRow → ℕ
    those row = if more row.id then owned_bytes user row else 0

    here : (own new old more : Bool) (n : ℕ) → (new ≡ true → (old ≡ true) ⊎ (more ≡ true))
        → (if own && new then n else 0) ≤ (if own && old then n else 0) + (if more then (if own then n else 0) else 0)
    here true true true more n was = omega arith
    here true true false true n was = omega arith
    here true true false false n was = elim (was refl) [ inl e ↦ absurd (false≢true e) | inr e ↦ absurd (false≢true e) ]
    here true false old more n was = omega arith
    here false new old more n was = omega arith

-- so they count no more where no more are present
counts_below : (t made : Tables) (user : ℕ) → ((node : ℕ) → is_present made.users made.nodes node ≡ true → is_present t.users t.nodes node ≡ true)
    → (rows : List NodeRow) → sum_by (counted_for made user) rows ≤ sum_by (counted_for t user) rows
counts_below t made user was rows =
    omega (
      arith,
      counts_more t made user (λ node. false) (λ node is. inl (was node is)) rows,
      nothing (λ (row : NodeRow). 0) rows (λ k d within. refl),
    )

-- a row that is changed, but not in what is summed
sums_with : (f : NodeRow → ℕ) (rows : List NodeRow) (node : ℕ) (change : NodeRow → NodeRow) → ((row : NodeRow) → f (change row) ≡ f row)
    → sum_by f (with_node rows node change) ≡ sum_by f rows
sums_with f [] node change same = refl
sums_with f (row ∷ rows) node change same =
    cond_both (row.id == node) (change row ∷ rows) (row ∷ with_node rows node change) (λ made. sum_by f made ≡ sum_by f (row ∷ rows))
    (λ e. omega (arith, same row, sum_by-cons f (change row) rows, sum_by-cons f row rows))
    (λ e.
    let rest = sums_with f rows node change same in
    omega (arith, rest, sum_by-cons f row (with_node rows node change), sum_by-cons f row rows))

-- ---- what goes

-- without what is under a node, each other node is in the folder that it was in
left_follows : (rows : List NodeRow) (top : ℕ) → Follows rows (without_under rows top) (λ node. false)
left_follows rows top = record {
  each = λ node parent above.
      option_and_then_some (λ (row : NodeRow). folder_of row.place) (node_row (without_under rows top) node) parent above (λ row there place.
      inl (ap (option_and_then (λ row. folder_of row.place)) (those_were (λ other. not (is_under rows other top)) rows node row there).1 ∙ place));
  down = λ node parent above of. of;
}

-- what goes for good is charged no more
purged_left : (t : Tables) (node user : ℕ) → charge_of (purged t node) user ≤ sum_by (counted_for t user) (without_under t.nodes node)
unfolding charge_of
purged_left t node user =
    let left = without_under t.nodes node in
    counts_below t (purged t node) user (present_so t.users t.nodes left (left_follows t.nodes node)) left

purged_charge : (t : Tables) (node user : ℕ) → charge_of (purged t node) user ≤ charge_of t user
unfolding charge_of
purged_charge t node user =
    omega (arith, purged_left t node user, parts_sum (counted_for t user) (λ row. is_under t.nodes row.id node) t.nodes)

-- ---- what is put in the trash

discarded_follows : (rows : List NodeRow) (top : ℕ) → Follows rows (with_node rows top trashed) (λ node. false)
discarded_follows rows top = record {
  each = λ node parent above.
      elim (cases_Bool (node == top)) [
        | inl same ↦
            absurd (none-some parent (sym (ends (node_row rows top))
            ∙ sym (ap (option_and_then (λ row. folder_of row.place)) (row_itself rows top trashed (λ row. refl)))
            ∙ sym (ap (parent_of (with_node rows top trashed)) (eqb-true node top same)) ∙ above))
        | inr differs ↦
            inl (sym (ap (option_and_then (λ row. folder_of row.place)) (row_other rows top trashed (λ row. refl) node differs)) ∙ above)
      ];
  down = λ node parent above of. of;
}
  where
    ends : (o : Option NodeRow) → option_and_then (λ row. folder_of row.place) (option_map trashed o) ≡ None
    ends None = refl
    ends (Some row) = refl

discarded_present : (t : Tables) (item : ItemRow) (node : ℕ) → is_present (discarded t item).users (discarded t item).nodes node ≡ true
    → is_present t.users t.nodes node ≡ true
discarded_present t item = present_so t.users t.nodes (discarded t item).nodes (discarded_follows t.nodes item.node)

discarded_charge : (t : Tables) (item : ItemRow) (user : ℕ) → charge_of (discarded t item) user ≤ charge_of t user
unfolding charge_of
discarded_charge t item user =
    let made = discarded t item in
    omega (
      arith,
      sums_with (counted_for made user) t.nodes item.node trashed (λ row. refl),
      counts_below t made user (discarded_present t item) t.nodes,
    )

-- ---- what leaves its place

module _ (t : Tables) (now user : ℕ) (row : NodeRow) (sound : AreSound t) (later : t.meta.last ≤ now) (known : KnownLeaving t row) where
  abbrev is_below : NodeRow → Bool
  is_below other = is_under t.nodes other.id row.id

  -- what is under it is present
  below_is : (node : ℕ) → is_under t.nodes node row.id ≡ true → is_present t.users t.nodes node ≡ true
  below_is node under =
      let c = under_climb t.nodes node row.id under in
      (leads_present t node sound).0 (below_present c.0 t.nodes node row.id c.2 known.present)

  -- all else counts as much less as its size, where it is the user's
  left_counts : sum_by (counted_for t user) (without_under t.nodes row.id) + (if row.owner == user then size_of t.nodes row.id else 0) ≡ charge_of t user
  unfolding charge_of
  left_counts =
      omega (
        arith,
        parts_sum (counted_for t user) is_below t.nodes,
        parts_sum (owned_bytes user) is_below t.nodes,
        without_owned t row.id user row sound known.there,
        sums_agree (λ other. if is_below other then counted_for t user other else 0) (λ other. if is_below other then owned_bytes user other else 0) t.nodes
            (λ k d within. let other = get_or t.nodes k d in here other (is_below other) (below_is other.id)),
      )
    where
      counts : (own present : Bool) (n : ℕ) → present ≡ true → (if own && present then n else 0) ≡ (if own then n else 0)
      counts own false n is = absurd (false≢true is)
      counts true true n is = refl
      counts false true n is = refl

      here : (other : NodeRow) (below : Bool) → (below ≡ true → is_present t.users t.nodes other.id ≡ true)
          → (if below then counted_for t user other else 0) ≡ (if below then owned_bytes user other else 0)
      here other true is = counts (other.owner == user) (is_present t.users t.nodes other.id) (weight other) (is refl)
      here other false is = refl

  abbrev item : ItemRow
  item = item_for now row

  -- in the trash nothing under it is present
  below_gone : (node : ℕ) → is_under t.nodes node row.id ≡ true → is_present t.users (discarded t item).nodes node ≡ false
  below_gone node under =
      let c = under_climb t.nodes node row.id under in
      false_from_ne_true (is_present t.users made.nodes node) (λ is.
      never_trash c.0 made.nodes node row.id (trashed row) ((leads_present made node fine).1 is)
      (climb_below t.nodes row.id trashed (λ row. refl) t refl sound c.0 node c.2)
      (row_itself t.nodes row.id trashed (λ row. refl) ∙ ap (option_map trashed) known.there) refl)
    where
      made : Tables
      made = discarded (stamp t now) item

      fine : AreSound made
      fine =
          discarded_sound (stamp t now) item row known.folder (stamp_sound t now sound later) (le_refl now) known.there known.inside known.present refl

  discarded_left : charge_of (discarded t item) user ≤ sum_by (counted_for t user) (without_under t.nodes row.id)
  unfolding charge_of
  discarded_left =
      omega (
        arith,
        sums_with (counted_for made user) t.nodes row.id trashed (λ row. refl),
        parts_sum (counted_for made user) is_below t.nodes,
        nothing (λ other. if is_below other then counted_for made user other else 0) t.nodes
            (λ k d within. let other = get_or t.nodes k d in here other (is_below other) (below_gone other.id)),
        counts_below t made user (discarded_present t item) (without_under t.nodes row.id),
      )
    where
      made : Tables
      made = discarded t item

      counts : (own present : Bool) (n : ℕ) → present ≡ false → (if own && present then n else 0) ≡ 0
      counts own true n none = absurd (false≢true (sym none))
      counts true false n none = refl
      counts false false n none = refl

      here : (other : NodeRow) (below : Bool) → (below ≡ true → is_present t.users made.nodes other.id ≡ false)
          → (if below then counted_for made user other else 0) ≡ 0
      here other true none = counts (other.owner == user) (is_present t.users made.nodes other.id) (weight other) (none refl)
      here other false none = refl

  -- so its owner is charged for its size less
  leaving_charge : charge_of (deed_done t (discard t now row)) user + (if row.owner == user then size_of t.nodes row.id else 0) ≤ charge_of t user
  leaving_charge =
      cond_both (goes_itself t now row) (deed.Purge row.id) (deed.Discard item)
      (λ one. charge_of (deed_done t one) user + (if row.owner == user then size_of t.nodes row.id else 0) ≤ charge_of t user)
      (λ e. omega (arith, purged_left t row.id user, left_counts)) (λ e. omega (arith, discarded_left, left_counts))

-- ---- what comes into a folder

-- a node that is put in another folder, which with all under it is among some
relinked_follows : (rows : List NodeRow) (top folder : ℕ) (name : List ℕ) (more : ℕ → Bool) → more top ≡ true
    → ((node parent : ℕ) → parent_of rows node ≡ Some parent → more parent ≡ true → more node ≡ true)
    → Follows rows (with_node rows top (relinked folder name)) more
relinked_follows rows top folder name more among down = record {
  each = λ node parent above.
      elim (cases_Bool (node == top)) [
        | inl same ↦ inr (ap more (eqb-true node top same) ∙ among)
        | inr differs ↦
            inl (sym (ap (option_and_then (λ row. folder_of row.place)) (row_other rows top (relinked folder name) (λ row. refl) node differs)) ∙ above)
      ];
  down = down;
}

-- where it comes back, its owner is charged for its size, and no other user for anything
restored_charge : (t : Tables) (node folder user : ℕ) (name : List ℕ) (row : NodeRow) → AreSound t → node_row t.nodes node ≡ Some row
    → charge_of (restored t node folder name) user ≤ charge_of t user + (if row.owner == user then size_of t.nodes node else 0)
unfolding charge_of
restored_charge t node folder user name of sound there =
    omega (
      arith,
      sums_with (counted_for made user) t.nodes node (relinked folder name) (λ row. refl),
      counts_more t made user (λ other. is_under t.nodes other node) (present_back t.users t.nodes made.nodes (λ other. is_under t.nodes other node) follows) t.nodes,
      parts_sum (owned_bytes user) (λ row. is_under t.nodes row.id node) t.nodes,
      without_owned t node user of sound there,
    )
  where
    made : Tables
    made = restored t node folder name

    follows : Follows t.nodes made.nodes (λ other. is_under t.nodes other node)
    follows =
        relinked_follows t.nodes node folder name (λ other. is_under t.nodes other node) (climb_under 0 t.nodes node node (omega arith) refl)
        (λ other parent above under.
        let up = under_climb t.nodes parent node under in
        climbs_is_under (suc up.0) t other node sound (ap (option_and_then (climb t.nodes up.0)) above ∙ up.2))

-- where it is present, nobody is charged for more
relinked_charge : (t : Tables) (node folder user : ℕ) (name : List ℕ) → AreSound t → LeadsToRoot t.nodes node
    → charge_of (deed_done t (deed.Relink node folder name)) user ≤ charge_of t user
unfolding charge_of
relinked_charge t node folder user name sound present =
    omega (
      arith,
      sums_with (counted_for made user) t.nodes node (relinked folder name) (λ row. refl),
      counts_below t made user
          (λ other is. elim (present_back t.users t.nodes made.nodes (is_present t.users t.nodes) follows other is) [ inl was ↦ was | inr was ↦ was ]) t.nodes,
    )
  where
    made : Tables
    made = deed_done t (deed.Relink node folder name)

    follows : Follows t.nodes made.nodes (is_present t.users t.nodes)
    follows =
        relinked_follows t.nodes node folder name (is_present t.users t.nodes) ((leads_present t node sound).0 present)
        (λ other parent above is. (leads_present t other sound).0 (inside_present t.nodes other parent above ((leads_present t parent sound).1 is)))

-- and of rows that are joined nobody is charged for more than their bytes
joined_charge : (t : Tables) (rows : List NodeRow) (user : ℕ) → AreSound t → charge_of (joined t rows) user ≤ charge_of t user + bytes_owned rows user
unfolding charge_of
joined_charge t rows user sound =
    omega (
      arith,
      sum_by-append (counted_for made user) t.nodes rows,
      counts_more t made user is_new (present_back t.users t.nodes made.nodes is_new follows) t.nodes,
      nothing (λ row. if is_new row.id then owned_bytes user row else 0) t.nodes
          (λ k d within. rw (node_row_each t.nodes sound.rising k d within) refl),
      sums_below (counted_for made user) (owned_bytes user) rows (λ row. below (row.owner == user) (is_present made.users made.nodes row.id) (weight row)),
    )
  where
    made : Tables
    made = joined t rows

    is_new : ℕ → Bool
    is_new node = not (is_some (node_row t.nodes node))

    below : (own present : Bool) (n : ℕ) → (if own && present then n else 0) ≤ (if own then n else 0)
    below true true n = omega arith
    below true false n = omega arith
    below false present n = omega arith

    -- a node that was there is found first
    found : (node parent : ℕ) (o : Option NodeRow) → option_and_then (λ row. folder_of row.place) (option_or o (node_row rows node)) ≡ Some parent
        → (option_and_then (λ row. folder_of row.place) o ≡ Some parent) ⊎ (not (is_some o) ≡ true)
    found node parent None above = inr refl
    found node parent (Some row) above = inl above

    follows : Follows t.nodes made.nodes is_new
    follows = record {
      each = λ node parent above.
          found node parent (node_row t.nodes node)
          (sym (ap (option_and_then (λ row. folder_of row.place)) (find-append (λ (row : NodeRow). row.id == node) t.nodes rows)) ∙ above);
      down = λ node parent above new.
          let row = inside_there t.nodes node parent above in
          let folder = parent_there t node parent row.0 sound row.1 above in
          absurd (false≢true (sym (ap (λ (o : Option NodeRow). not (is_some o)) folder.1) ∙ new));
    }

-- ---- another quota

-- each user's root is as it was
pub requoted_charge : (t : Tables) (row old : UserRow) (user : ℕ) → user_row t.users row.id ≡ Some old → row.root ≡ old.root
    → charge_of (deed_done t (deed.Requote row)) user ≤ charge_of t user
unfolding charge_of
requoted_charge t row old user there root = counts_below t made user was t.nodes
  where
    made : Tables
    made = deed_done t (deed.Requote row)

    was : (node : ℕ) → is_present made.users t.nodes node ≡ true → is_present t.users t.nodes node ≡ true
    was node is =
        let passes : UserRow → Bool = λ user. is_under t.nodes node user.root in
        let Was : UserRow → Type 0 = λ user. passes user ≡ true → list_any passes t.users ≡ true in
        let all : All Was t.users = λ k d within is. list_any_at passes t.users k d within is in
        let first = (found_is Was (λ user. user.id == row.id) t.users old all there).1 in
        let one : Was row = λ is. first (ap (is_under t.nodes node) (sym root) ∙ is) in
        let any = Any-from_list_any passes made.users is in
        All-contains Was made.users any.1 (all_put user_key Was row t.users one all) (any.0, any.2, any.3) any.4

-- ---- deeds that lower charges

-- no charge is more after them, and no quota another, whatever tables they are done in
abbrev pub IsLower : List Deed → Tables → ℕ → Type 0
IsLower deeds t user = (charge_of (deeds_done t deeds) user ≤ charge_of t user) × (quota_of (deeds_done t deeds) user ≡ quota_of t user)

abbrev pub Lower : List Deed → Type 0
Lower deeds = (t : Tables) (user : ℕ) → IsLower deeds t user

pub lower_append : (xs ys : List Deed) → Lower xs → Lower ys → Lower (xs ++ ys)
lower_append xs ys first second t user =
    let a = first t user in
    let b = second (deeds_done t xs) user in
    subst (λ (u : Tables). (charge_of u user ≤ charge_of t user) × (quota_of u user ≡ quota_of t user)) (sym (deeds_append t xs ys))
    (omega (arith, a.0, b.0), b.1 ∙ a.1)

pub purges_lower : (nodes : List ℕ) → Lower (purges nodes)
purges_lower [] t user = (le_refl (charge_of t user), refl)
purges_lower (node ∷ nodes) t user =
    let rest = purges_lower nodes (purged t node) user in (omega (arith, purged_charge t node user, rest.0), rest.1)

pub discards_lower : (t : Tables) (now : ℕ) (node : Option ℕ) → Lower (discards t now node)
discards_lower t now node = here (row_at t node)
  where
    here : (o : Option NodeRow) → Lower (option_map_or (λ row. discard t now row ∷ []) o [])
    here None u user = (le_refl (charge_of u user), refl)
    here (Some row) u user =
        cond_both (goes_itself t now row) (deed.Purge row.id) (deed.Discard (item_for now row)) (λ one. IsLower (one ∷ []) u user)
        (λ e. (purged_charge u row.id user, refl)) (λ e. (discarded_charge u (item_for now row) user, refl))

pub besides_lower : (t : Tables) (now : ℕ) (node : Option ℕ) → Lower (besides t now node)
besides_lower t now node = here (row_at t node)
  where
    here : (o : Option NodeRow) → Lower (option_map_or (beside t now) o [])
    here None u user = (le_refl (charge_of u user), refl)
    here (Some row) u user = purges_lower (filter (λ node. not (node == row.id)) (gone_with t now row)) u user

-- ---- what is kept

-- a charge is no more than before, or within its quota
abbrev pub KeepsCharge : Tables → ℕ → Tables → Type 0
KeepsCharge t user made = (charge_of made user ≤ charge_of t user) ⊎ (charge_of made user ≤ quota_of made user)

-- so it is where what lowers charges is done then
pub then_keeps : (t u : Tables) (user : ℕ) (deeds : List Deed) → Lower deeds → KeepsCharge t user u → KeepsCharge t user (deeds_done u deeds)
then_keeps t u user deeds lower keeps =
    let less = lower u user in
    elim keeps [
      | inl fewer ↦ inl (omega (arith, fewer, less.0))
      | inr within ↦ inr (omega (arith, within, less.0, less.1))
    ]

-- and around another deed
around_keeps : (t : Tables) (user : ℕ) (first rest : List Deed) (one : Deed) → Lower rest → KeepsCharge t user (deed_done (deeds_done t first) one)
    → KeepsCharge t user (deeds_done t (first ++ one ∷ rest))
around_keeps t user first rest one lower keeps =
    subst (KeepsCharge t user) (sym (deeds_append t first (one ∷ rest))) (then_keeps t (deed_done (deeds_done t first) one) user rest lower keeps)

pub lower_keeps : (t : Tables) (user : ℕ) (deeds : List Deed) → Lower deeds → KeepsCharge t user (deeds_done t deeds)
lower_keeps t user deeds lower = inl (lower t user).0

-- where no quota is passed, what comes is no more than what goes, or within the quota with the rest
pub fits : (t : Tables) (user old new : ℕ) → excess t user old new ≡ None
    → (new ≤ old) ⊎ (charge_of t user - old + new ≤ quota_of t user)
fits t user old new none =
    elim (and_cases _ _ (never (is_over t user old new) _ none)) [
      | inl fewer ↦ inl (ltb-false old new fewer)
      | inr within ↦ inr (ltb-false (quota_of t user) _ within)
    ]
  where
    never : (over : Bool) (excess : Excess) → (if over then Some excess else None) ≡ None → over ≡ false
    never true excess none = absurd (cc)
    never false excess none = refl

-- so no charge is taken beyond it by what comes for one owner in the place of what goes
afforded : (t made : Tables) (user owner old new : ℕ) → excess t owner old new ≡ None → quota_of made user ≡ quota_of t user
    → charge_of made user + (if owner == user then old else 0) ≤ charge_of t user + (if owner == user then new else 0) → KeepsCharge t user made
afforded t made user owner old new none quota = here (owner == user) refl
  where
    here : (own : Bool) → (owner == user) ≡ own
        → charge_of made user + (if own then old else 0) ≤ charge_of t user + (if own then new else 0) → KeepsCharge t user made
    here false other less = inl (omega (arith, less))
    here true own less =
        elim (fits t user old new (subst (λ (n : ℕ). excess t n old new ≡ None) (eqb-true owner user own) none)) [
          | inl fewer ↦ inl (omega (arith, less, fewer))
          | inr within ↦ inr (omega (arith, less, within, quota))
        ]

-- ---- what comes back

-- its owner is charged for it
pub restored_less : (t : Tables) (node folder user : ℕ) (name : List ℕ) (item : ItemRow) → AreSound t → item_row t.items node ≡ Some item
    → charge_of (restored t node folder name) user ≤ charge_of t user + (if item.owner == user then size_of t.nodes item.node else 0)
restored_less t node folder user name item sound there =
    let found = found_is (IsItemSound t) (λ (item : ItemRow). item.node == node) t.items item sound.others.items there in
    let id = eqb-true item.node node found.0 in
    let of = found.1 in
    let row : node_row t.nodes node ≡ Some of.of = ap (node_row t.nodes) (sym id) ∙ of.there in
    omega (
      arith,
      restored_charge t node folder user name of.of sound row,
      ap (λ (owner : ℕ). if owner == user then size_of t.nodes node else 0) of.owner,
      ap (λ (n : ℕ). if item.owner == user then size_of t.nodes n else 0) id,
    )

pub restored_keeps : (t : Tables) (node folder user : ℕ) (name : List ℕ) (item : ItemRow) → AreSound t → item_row t.items node ≡ Some item
    → restore_excess t item ≡ None → KeepsCharge t user (restored t node folder name)
restored_keeps t node folder user name item sound there none =
    afforded t (restored t node folder name) user item.owner 0 (size_of t.nodes item.node) none refl
    (omega (arith, alike (item.owner == user) 0, restored_less t node folder user name item sound there))

-- ---- MOVE and COPY

-- the tables after the first deeds of a step are sound
turn_sound : (t : Tables) (now : ℕ) (xs ys : List Deed) → AreSound t → t.meta.last ≡ now → InTurn t now (xs ++ ys) → AreSound (deeds_done t xs)
turn_sound t now [] ys sound at turn = sound
turn_sound t now (x ∷ xs) ys sound at turn =
    turn_sound (deed_done t x) now xs ys (fit_sound t now x sound at turn.0) (deed_moment t x ∙ at) turn.1

first_sound : (t : Tables) (now : ℕ) (xs ys : List Deed) → AreSound t → t.meta.last ≤ now → KnownDeeds t now (xs ++ ys)
    → AreSound (stamp (deeds_done t xs) now)
first_sound t now xs ys sound later known =
    subst AreSound (deeds_stamped t now xs)
    (turn_sound (stamp t now) now xs ys (stamp_sound t now sound later) refl (step_turn t now (xs ++ ys) sound later (alone t now (xs ++ ys) known)))

module _ (t : Tables) (now user : ℕ) (transfer : Transfer) (name : List ℕ) (sound : AreSound t) (later : t.meta.last ≤ now) where
  -- the deeds by which what is replaced leaves its place
  abbrev first : List Deed
  first = discards t now transfer.replaced

  abbrev left : Tables
  left = deeds_done t first

  -- then the folder's owner is charged for its size less
  replaced_charge : KnownTransfer t transfer name
      → charge_of left user + (if owner_of t.nodes transfer.folder == user then option_map_or (size_of t.nodes) transfer.replaced 0 else 0) ≤ charge_of t user
  replaced_charge known = here (row_at t transfer.replaced) refl
    where
      old : Option ℕ → ℕ
      old replaced = if owner_of t.nodes transfer.folder == user then option_map_or (size_of t.nodes) replaced 0 else 0

      here : (o : Option NodeRow) → row_at t transfer.replaced ≡ o
          → charge_of (deeds_done t (option_map_or (λ row. discard t now row ∷ []) o [])) user + old transfer.replaced ≤ charge_of t user
      here None e = omega (arith, ap old (none_replaced t transfer name sound known e), alike (owner_of t.nodes transfer.folder == user) 0)
      here (Some row) e =
          let leaving = replaced_leaves t sound transfer name known row e in
          let is = replaced_is t transfer.replaced row e in
          let above = child_parent t.nodes transfer.folder name row.id sound.rising (known.there ∙ is) in
          let folder = parent_there t row.id transfer.folder row sound leaving.there above in
          let owner : owner_of t.nodes transfer.folder ≡ row.owner =
          ap (λ (o : Option NodeRow). option_map_or (λ row. row.owner) o 0) folder.1 ∙ folder.3 in
          omega (
            arith,
            ap old is,
            ap (λ (owner : ℕ). if owner == user then size_of t.nodes row.id else 0) owner,
            leaving_charge t now user row sound later leaving,
          )

  -- and what is moved is present as before
  source_present : KnownTransfer t transfer name → LeadsToRoot left.nodes transfer.node
  source_present known = here (row_at t transfer.replaced) refl
    where
      here : (o : Option NodeRow) → row_at t transfer.replaced ≡ o
          → LeadsToRoot (deeds_done t (option_map_or (λ row. discard t now row ∷ []) o [])).nodes transfer.node
      here None e = known.present
      here (Some row) e =
          let outside : is_under t.nodes transfer.node row.id ≡ false =
          sym (ap (λ (o : Option ℕ). option_map_or (is_under t.nodes transfer.node) o false) (replaced_is t transfer.replaced row e)) ∙ known.apart in
          cond_both (goes_itself t now row) (deed.Purge row.id) (deed.Discard (item_for now row)) (λ one. LeadsToRoot (deed_done t one).nodes transfer.node)
          (λ e. left_leads t row.id transfer.node sound outside known.present)
          (λ e. discarded_leads t (item_for now row) transfer.node sound outside known.present)

  -- no charge is more, and no quota another, where what is moved stays its owner's
  pub moves_less : KnownMove t transfer name → IsLower (moves t now name transfer) t user
  unfolding charge_of
  moves_less move =
      let one = deed.Relink transfer.node transfer.folder name in
      let rest = besides t now transfer.replaced in
      let fine = first_sound t now first (one ∷ rest) sound later (by_moving transfer name move) in
      let same = relinked_charge (stamp left now) transfer.node transfer.folder user name fine (source_present move.known) in
      let less = discards_lower t now transfer.replaced t user in
      let after = besides_lower t now transfer.replaced (deed_done left one) user in
      subst (λ (u : Tables). (charge_of u user ≤ charge_of t user) × (quota_of u user ≡ quota_of t user)) (sym (deeds_append t first (one ∷ rest)))
      (omega (arith, same, less.0, after.0), after.1 ∙ less.1)

  pub moves_keep : KnownMove t transfer name → KeepsCharge t user (deeds_done t (moves t now name transfer))
  moves_keep move = inl (moves_less move).0

  -- the owner of the folder is charged for the copies, in the place of what is replaced, and no quota is another
  abbrev pub IsComing : Tables → Type 0
  IsComing made =
      (charge_of made user + (if owner_of t.nodes transfer.folder == user then option_map_or (size_of t.nodes) transfer.replaced 0 else 0)
      ≤ charge_of t user + (if owner_of t.nodes transfer.folder == user then size_of t.nodes transfer.node else 0))
      × (quota_of made user ≡ quota_of t user)

  joined_less : (rest : List Deed) → KnownDeeds t now (first ++ deed.Join (copies_to t now transfer name) ∷ rest) → KnownTransfer t transfer name
      → Lower rest → IsComing (deeds_done t (first ++ deed.Join (copies_to t now transfer name) ∷ rest))
  unfolding charge_of
  joined_less rest deeds known lower =
      let rows = copies_to t now transfer name in
      let one = deed.Join rows in
      let fine = first_sound t now first (one ∷ rest) sound later deeds in
      let after = lower (joined left rows) user in
      let less = discards_lower t now transfer.replaced t user in
      subst IsComing (sym (deeds_append t first (one ∷ rest))) (
        omega (
          arith,
          joined_charge (stamp left now) rows user fine,
          copies_owned t now user transfer name sound known.source,
          replaced_charge known,
          after.0,
        ),
        after.1 ∙ less.1,
      )

  pub copies_less : KnownCopies t transfer name → IsComing (deeds_done t (copies t now name transfer))
  copies_less known = joined_less (besides t now transfer.replaced) (by_copying transfer name known) known.known (besides_lower t now transfer.replaced)

  pub crossing_less : KnownCross t transfer name → IsComing (deeds_done t (crossing t now name transfer))
  crossing_less cross =
      let node = Some transfer.node in
      joined_less (discards t now node ++ (besides t now transfer.replaced ++ besides t now node)) (by_crossing transfer name cross) cross.copies.known
      (lower_append (discards t now node) (besides t now transfer.replaced ++ besides t now node) (discards_lower t now node)
      (lower_append (besides t now transfer.replaced) (besides t now node) (besides_lower t now transfer.replaced) (besides_lower t now node)))

  -- copies come in the place of what is replaced
  joined_keeps : (rest : List Deed) → KnownDeeds t now (first ++ deed.Join (copies_to t now transfer name) ∷ rest) → KnownTransfer t transfer name
      → copy_excess t transfer ≡ None → Lower rest → KeepsCharge t user (deeds_done t (first ++ deed.Join (copies_to t now transfer name) ∷ rest))
  unfolding charge_of
  joined_keeps rest deeds known none lower =
      let rows = copies_to t now transfer name in
      let one = deed.Join rows in
      let fine = first_sound t now first (one ∷ rest) sound later deeds in
      around_keeps t user first rest one lower
      (afforded t (joined left rows) user (owner_of t.nodes transfer.folder) (option_map_or (size_of t.nodes) transfer.replaced 0)
      (size_of t.nodes transfer.node) none (discards_lower t now transfer.replaced t user).1
      (omega (
        arith,
        joined_charge (stamp left now) rows user fine,
        copies_owned t now user transfer name sound known.source,
        replaced_charge known,
      )))

  pub copies_keep : KnownCopies t transfer name → copy_excess t transfer ≡ None → KeepsCharge t user (deeds_done t (copies t now name transfer))
  copies_keep known none =
      joined_keeps (besides t now transfer.replaced) (by_copying transfer name known) known.known none (besides_lower t now transfer.replaced)

  pub crossing_keep : KnownCross t transfer name → copy_excess t transfer ≡ None → KeepsCharge t user (deeds_done t (crossing t now name transfer))
  crossing_keep cross none =
      let node = Some transfer.node in
      joined_keeps (discards t now node ++ (besides t now transfer.replaced ++ besides t now node)) (by_crossing transfer name cross) cross.copies.known none
      (lower_append (discards t now node) (besides t now transfer.replaced ++ besides t now node) (discards_lower t now node)
      (lower_append (besides t now transfer.replaced) (besides t now node) (besides_lower t now transfer.replaced) (besides_lower t now node)))
