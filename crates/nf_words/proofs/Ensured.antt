-- Mounts that are ensured one after the other.
use Rattle.std.proofs.Common.{◌≡◌, ◌≢◌, ◌⊎◌, inl, inr, ℕ, zero, suc, ◌+◌, ◌≤◌, ◌==◌, ◌||◌, not, filter, length, Bool, true, false, List, [], ◌∷◌, get_or, Option, ◌∙◌, if◌then◌else◌, refl, sym, ap, subst, arith}
use Rattle.std.specs.Prelude.{None, Some, is_none, is_some}
use Rattle.std.specs.List.{All, AllPairs}
use Rattle.std.specs.Option.{IfSome, option_map_or}
use Rattle.std.proofs.lemmas.Bool.{and_from, and_parts, both_ways, eq-eqb, eqb-true}
use Rattle.std.proofs.lemmas.List.Elements.{All-cons, All-head, All-nil, All-tail, All-weaker}
use Rattle.nf_access.proofs.Naming.{free_is_free, names_few, taken_in_root}
use Rattle.nf_access.specs.Mounts.{ensured, ensured_all, free_name_of, is_mount_of, is_mounted, mount_at, mount_row, name_of, names_in_root, root_folder, then_ensured}
use Rattle.nf_base.specs.declared.changes.Change.TheVariants.{Put}
use Rattle.nf_base.specs.declared.limits.TheConstants.{MAX_MOUNTS, MAX_NODES}
use Rattle.nf_base.specs.declared.rows.MountRow.{MountRow}
use Rattle.nf_base.specs.declared.rows.NodeRow.{NodeRow}
use Rattle.nf_base.specs.declared.rows.Row.TheVariants as rows
use Rattle.nf_base.specs.declared.rows.UserRow.{UserRow}
use Rattle.nf_defs.proofs.Puts.{put_length, put_rising}
use Rattle.nf_defs.specs.Prelude.{child_of, IsRising, mount_key, node_row, put, Tables, user_row}
use Rattle.nf_words.proofs.Fits.{KnownRows, no_more, one_more}
use Rattle.nf_words.proofs.Found.{found_passes, put_length_over}
use Rattle.nf_words.proofs.Mounting.{mount_found, mount_left_so, not_mount, same_key}
use Rattle.nf_words.specs.Prelude.{IsNewMount, IsRemounted, put_mounts}

-- ---- one mount

-- the row that ensuring a mount writes
pub record IsEnsured (users : List UserRow) (nodes : List NodeRow) (mounts : List MountRow) (of : ℕ × ℕ) (row : MountRow) : Type 0 where
  pub user : row.user ≡ of.0
  pub node : row.node ≡ of.1
  pub stays : row.left ≡ false
  pub none : is_mounted mounts row.user row.node ≡ false
  pub name : row.name ≡ free_name_of (name_of nodes row.node) (names_in_root users nodes mounts row.user)

pub ensured_is : (users : List UserRow) (nodes : List NodeRow) (mounts : List MountRow) (of : ℕ × ℕ)
    → IfSome (ensured users nodes mounts of.0 of.1) (IsEnsured users nodes mounts of)
ensured_is users nodes mounts of = here (is_mounted mounts of.0 of.1) refl
  where
    row : MountRow
    row = record {
      user = of.0;
      node = of.1;
      name = free_name_of (name_of nodes of.1) (names_in_root users nodes mounts of.0);
      left = false;
    }

    here : (b : Bool) → is_mounted mounts of.0 of.1 ≡ b → IfSome (if b then None else Some row) (IsEnsured users nodes mounts of)
    here true e = tt
    here false e = record { user = refl; node = refl; stays = refl; none = e; name = refl }

-- where none is written, the mount is there
pub unwritten : (users : List UserRow) (nodes : List NodeRow) (mounts : List MountRow) (of : ℕ × ℕ)
    → ensured users nodes mounts of.0 of.1 ≡ None → is_mounted mounts of.0 of.1 ≡ true
unwritten users nodes mounts of none = here (is_mounted mounts of.0 of.1) none
  where
    row : MountRow
    row = record {
      user = of.0;
      node = of.1;
      name = free_name_of (name_of nodes of.1) (names_in_root users nodes mounts of.0);
      left = false;
    }

    here : (b : Bool) → (if b then None else Some row) ≡ None → b ≡ true
    here true none = refl
    here false none = absurd (cc)

-- the free name of a name in a user's root is free there
pub free_in_root : (users : List UserRow) (nodes : List NodeRow) (mounts : List MountRow) (user : ℕ) (name : List ℕ)
    → length nodes ≤ MAX_NODES → length mounts ≤ MAX_MOUNTS
    → let free = free_name_of name (names_in_root users nodes mounts user) in
    (child_of nodes (root_folder users user) free ≡ None) × (mount_at mounts user free ≡ None)
free_in_root users nodes mounts user name few_nodes few_mounts =
    let names = names_in_root users nodes mounts user in
    let free = free_name_of name names in
    neither (child_of nodes (root_folder users user) free) (mount_at mounts user free)
    (sym (taken_in_root users nodes mounts user free)
    ∙ free_is_free name names (omega (arith, names_few users nodes mounts user, few_nodes, few_mounts)))
  where
    neither : (a b : Option ℕ) → (is_some a || is_some b) ≡ false → (a ≡ None) × (b ≡ None)
    neither None None none = (refl, refl)
    neither None (Some b) none = absurd (cc)
    neither (Some a) b none = absurd (cc)

-- what a user may have a mount of: a node that is there and another's
pub record IsMountable (t : Tables) (of : ℕ × ℕ) : Type 0 where
  pub node : NodeRow
  pub there : node_row t.nodes of.1 ≡ Some node
  pub others : node.owner ≢ of.0
  pub user : is_some (user_row t.users of.0) ≡ true

-- a row of a mount that has none yet
abbrev pub is_new : List MountRow → MountRow → Bool
is_new mounts row = is_none (mount_row mounts row.user row.node)

-- the row is there again, or new
pub ensured_fits : (t : Tables) (of : ℕ × ℕ) (row : MountRow) → IsEnsured t.users t.nodes t.mounts of row → IsMountable t of
    → length t.nodes ≤ MAX_NODES → length t.mounts ≤ MAX_MOUNTS → (is_new t.mounts row ≡ true → length t.mounts + 1 ≤ MAX_MOUNTS)
    → IsRemounted t row ⊎ IsNewMount t row
ensured_fits t of row is fine few_nodes few_mounts room =
    here (mount_row t.mounts row.user row.node) refl room is.none
  where
    free : (child_of t.nodes (root_folder t.users row.user) row.name ≡ None) × (mount_at t.mounts row.user row.name ≡ None)
    free =
        subst (λ (name : List ℕ). (child_of t.nodes (root_folder t.users row.user) name ≡ None) × (mount_at t.mounts row.user name ≡ None)) (sym is.name)
        (free_in_root t.users t.nodes t.mounts row.user (name_of t.nodes row.node) few_nodes few_mounts)

    of_old : (old : MountRow) → is_mount_of row.user row.node old ≡ true → row ≡ record old { name = row.name; left = row.left }
    of_old old passes =
        let both = and_parts (old.user == row.user) (old.node == row.node) passes in
        rw (eqb-true old.user row.user both.0, eqb-true old.node row.node both.1) refl

    here : (o : Option MountRow) → mount_row t.mounts row.user row.node ≡ o → (is_none o ≡ true → length t.mounts + 1 ≤ MAX_MOUNTS)
        → option_map_or (λ (r : MountRow). not r.left) o false ≡ false → IsRemounted t row ⊎ IsNewMount t row
    here None e room none =
        inr (record {
          fresh = e;
          stays = is.stays;
          user = ap (λ (n : ℕ). is_some (user_row t.users n)) is.user ∙ fine.user;
          node = fine.node;
          there = ap (node_row t.nodes) is.node ∙ fine.there;
          others = λ same. fine.others (same ∙ is.user);
          free = free.0;
          apart = free.1;
          few = room refl;
        })
    here (Some old) e room none =
        inl (record {
          old = old;
          there = e;
          same = of_old old (found_passes (is_mount_of row.user row.node) t.mounts old e);
          other = λ same. both_ways (not old.left) none (ap not (sym (ap (λ (r : MountRow). r.left) same) ∙ is.stays));
          free = λ shown. free.0;
          apart = λ shown. free.1;
        })

-- ---- the rows of several

itself : (row : MountRow) → is_mount_of row.user row.node row ≡ true
itself row = and_from (row.user == row.user) (row.node == row.node) (eq-eqb row.user row.user refl) (eq-eqb row.node row.node refl)

-- a mount that is put is there
put_mounted : (row : MountRow) (mounts : List MountRow) → row.left ≡ false → is_mounted (put mount_key row mounts) row.user row.node ≡ true
put_mounted row mounts stays =
    ap (λ (o : Option MountRow). option_map_or (λ (r : MountRow). not r.left) o false) (mount_found row mounts) ∙ ap not stays

-- one that isn't there isn't sought where one is that is
apart_from : (mounts : List MountRow) (user node : ℕ) (row : MountRow) → is_mounted mounts user node ≡ true
    → is_mounted mounts row.user row.node ≡ false → is_mount_of user node row ≡ false
apart_from mounts user node row there none =
    not_mount row user node (λ users nodes.
    both_ways (is_mounted mounts user node)
    (sym (ap (λ (n : ℕ). is_mounted mounts n row.node) users ∙ ap (is_mounted mounts user) nodes) ∙ none) there)

module _ (users : List UserRow) (nodes : List NodeRow) where
  abbrev pub written : List (ℕ × ℕ) → List MountRow → List MountRow
  written pairs mounts = ensured_all users nodes pairs mounts

  -- what holds with none, and with one more, holds of all of them
  pub by_each : (P : List (ℕ × ℕ) → List MountRow → List MountRow → Type 0) → ((mounts : List MountRow) → P [] mounts [])
      → ((of : ℕ × ℕ) (others : List (ℕ × ℕ)) (mounts : List MountRow) → is_mounted mounts of.0 of.1 ≡ true
      → P others mounts (written others mounts) → P (of ∷ others) mounts (written others mounts))
      → ((of : ℕ × ℕ) (others : List (ℕ × ℕ)) (mounts : List MountRow) (row : MountRow) → IsEnsured users nodes mounts of row
      → P others (put mount_key row mounts) (written others (put mount_key row mounts))
      → P (of ∷ others) mounts (row ∷ written others (put mount_key row mounts)))
      → (pairs : List (ℕ × ℕ)) (mounts : List MountRow) → P pairs mounts (written pairs mounts)
  by_each P none same more [] mounts = none mounts
  by_each P none same more (of ∷ others) mounts =
      here (ensured users nodes mounts of.0 of.1) refl (ensured_is users nodes mounts of) (by_each P none same more others)
    where
      here : (o : Option MountRow) → ensured users nodes mounts of.0 of.1 ≡ o → IfSome o (IsEnsured users nodes mounts of)
          → ((mounts : List MountRow) → P others mounts (written others mounts)) → P (of ∷ others) mounts (then_ensured o (written others) mounts)
      here None e is rest = same of others mounts (unwritten users nodes mounts of e) (rest mounts)
      here (Some row) e is rest = more of others mounts row is (rest (put mount_key row mounts))

  -- each is of one of the pairs
  pub each_of : (Q : ℕ × ℕ → Type 0) (pairs : List (ℕ × ℕ)) (mounts : List MountRow) → All Q pairs
      → All (λ (row : MountRow). Q (row.user, row.node)) (written pairs mounts)
  each_of Q pairs mounts =
      by_each (λ pairs mounts rows. All Q pairs → All (λ (row : MountRow). Q (row.user, row.node)) rows)
      (λ mounts all. All-nil (λ (row : MountRow). Q (row.user, row.node)))
      (λ of others mounts there rest all. rest (All-tail Q of others all))
      (λ of others mounts row is rest all.
      All-cons (λ (row : MountRow). Q (row.user, row.node)) row (written others (put mount_key row mounts))
      (subst Q (ap (λ (n : ℕ). (n, of.1)) (sym is.user) ∙ ap (λ (n : ℕ). (row.user, n)) (sym is.node)) (All-head Q of others all))
      (rest (All-tail Q of others all))) pairs mounts

  -- none is of a mount that is there
  pub each_apart : (pairs : List (ℕ × ℕ)) (mounts : List MountRow) (user node : ℕ) → is_mounted mounts user node ≡ true
      → All (λ (row : MountRow). is_mount_of user node row ≡ false) (written pairs mounts)
  each_apart pairs mounts user node =
      by_each (λ pairs mounts rows. is_mounted mounts user node ≡ true → All Apart rows)
      (λ mounts there. All-nil Apart)
      (λ of others mounts there rest is. rest is)
      (λ of others mounts row new rest is.
      let off = apart_from mounts user node row is new.none in
      All-cons Apart row (written others (put mount_key row mounts)) off
      (rest (ap (λ (o : Option MountRow). option_map_or (λ (r : MountRow). not r.left) o false) (mount_left_so row mounts user node off) ∙ is)))
      pairs mounts
    where
      Apart : MountRow → Type 0
      Apart row = is_mount_of user node row ≡ false

  -- each gives a mount where there was none
  abbrev pub IsGivenNew : List MountRow → MountRow → Type 0
  IsGivenNew mounts row = (row.left ≡ false) × (is_mounted mounts row.user row.node ≡ false)

  pub each_new : (pairs : List (ℕ × ℕ)) (mounts : List MountRow) → All (IsGivenNew mounts) (written pairs mounts)
  each_new pairs mounts =
      by_each (λ pairs mounts rows. All (IsGivenNew mounts) rows) (λ mounts. All-nil (IsGivenNew mounts)) (λ of others mounts there rest. rest)
      (λ of others mounts row is rest.
      let after = put mount_key row mounts in
      All-cons (IsGivenNew mounts) row (written others after) (is.stays, is.none)
      (λ k d within.
      let other = get_or (written others after) k d in
      let there = rest k d within in
      let off = each_apart others after row.user row.node (put_mounted row mounts is.stays) k d within in (
        there.0,
        sym (ap (λ (o : Option MountRow). option_map_or (λ (r : MountRow). not r.left) o false)
            (mount_left_so row mounts other.user other.node (turned_off row other off))) ∙ there.1,
      ))) pairs mounts
    where
      turned_off : (a b : MountRow) → is_mount_of a.user a.node b ≡ false → is_mount_of b.user b.node a ≡ false
      turned_off a b off =
          not_mount a b.user b.node (λ users nodes. both_ways (is_mount_of a.user a.node b) off
          (and_from (b.user == a.user) (b.node == a.node) (eq-eqb b.user a.user (sym users)) (eq-eqb b.node a.node (sym nodes))))

  -- no two are of one mount
  pub each_once : (pairs : List (ℕ × ℕ)) (mounts : List MountRow)
      → AllPairs (λ (a b : MountRow). is_mount_of a.user a.node b ≡ false) (written pairs mounts)
  each_once pairs mounts =
      by_each (λ pairs mounts rows. AllPairs Once rows) (λ mounts i j d before within. absurd (omega (arith, before, within)))
      (λ of others mounts there rest. rest)
      (λ of others mounts row is rest.
      cons row (written others (put mount_key row mounts))
      (each_apart others (put mount_key row mounts) row.user row.node (put_mounted row mounts is.stays)) rest) pairs mounts
    where
      Once : MountRow → MountRow → Type 0
      Once a b = is_mount_of a.user a.node b ≡ false

      cons : (row : MountRow) (rows : List MountRow) → All (Once row) rows → AllPairs Once rows → AllPairs Once (row ∷ rows)
      cons row rows heads pairs zero zero d before within = absurd (omega arith)
      cons row rows heads pairs zero (suc j) d before within = heads j d (omega arith)
      cons row rows heads pairs (suc i) zero d before within = absurd (omega arith)
      cons row rows heads pairs (suc i) (suc j) d before within = pairs i j d (omega arith) (omega arith)

-- ---- how many are new

abbrev pub new_count : List MountRow → List MountRow → ℕ
new_count mounts rows = length (filter (is_new mounts) rows)

-- those of other mounts are as new where a row is put
still_new : (row : MountRow) (mounts rows : List MountRow) → All (λ (other : MountRow). is_mount_of row.user row.node other ≡ false) rows
    → new_count (put mount_key row mounts) rows ≡ new_count mounts rows
still_new row mounts [] all = refl
still_new row mounts (other ∷ rows) all =
    let Apart : MountRow → Type 0 = λ (other : MountRow). is_mount_of row.user row.node other ≡ false in
    let off = All-head Apart other rows all in
    let same : is_new (put mount_key row mounts) other ≡ is_new mounts other =
    ap is_none (mount_left_so row mounts other.user other.node
    (not_mount row other.user other.node (λ users nodes. both_ways (is_mount_of row.user row.node other) off
    (and_from (other.user == row.user) (other.node == row.node) (eq-eqb other.user row.user (sym users)) (eq-eqb other.node row.node (sym nodes)))))) in
    ap (λ (b : Bool). length (if b then other ∷ filter (is_new (put mount_key row mounts)) rows else filter (is_new (put mount_key row mounts)) rows)) same
    ∙ here (is_new mounts other) (still_new row mounts rows (All-tail Apart other rows all))
  where
    here : (b : Bool) → new_count (put mount_key row mounts) rows ≡ new_count mounts rows
        → length (if b then other ∷ filter (is_new (put mount_key row mounts)) rows else filter (is_new (put mount_key row mounts)) rows)
        ≡ length (if b then other ∷ filter (is_new mounts) rows else filter (is_new mounts) rows)
    here true rest = ap suc rest
    here false rest = rest

-- a row that is put is one more where it is new
put_count : (row : MountRow) (mounts : List MountRow) (b : Bool) → is_new mounts row ≡ b → IsRising mount_key mounts
    → length (put mount_key row mounts) ≤ length mounts + (if b then 1 else 0)
put_count row mounts true e rising = put_length mount_key row mounts
put_count row mounts false e rising = here (mount_row mounts row.user row.node) refl e
  where
    here : (o : Option MountRow) → mount_row mounts row.user row.node ≡ o → is_none o ≡ false → length (put mount_key row mounts) ≤ length mounts + 0
    here None at e = absurd (cc)
    here (Some old) at e =
        omega (
          arith,
          put_length_over mount_key (is_mount_of row.user row.node) row old mounts
              (λ x passes. same_key row.user row.node x row passes (itself row)) rising at,
        )

-- ---- what is known of them

pub ensured_known : (first t : Tables) (pairs : List (ℕ × ℕ)) → length t.nodes ≤ MAX_NODES → IsRising mount_key t.mounts
    → All (IsMountable t) pairs → length t.mounts + new_count t.mounts (ensured_all t.users t.nodes pairs t.mounts) ≤ MAX_MOUNTS
    → KnownRows first None t (put_mounts (ensured_all t.users t.nodes pairs t.mounts))
ensured_known first t [] few_nodes rising fine few = no_more t
ensured_known first t (of ∷ others) few_nodes rising fine few =
    here (ensured t.users t.nodes t.mounts of.0 of.1) (ensured_is t.users t.nodes t.mounts of) few
    (λ u. ensured_known first u others)
  where
    rest_fine : All (IsMountable t) others
    rest_fine = All-tail (IsMountable t) of others fine

    still : (mounts : List MountRow) → All (IsMountable (record t { mounts = mounts })) others
    still mounts =
        All-weaker (IsMountable t) (IsMountable (record t { mounts = mounts }))
        (λ of is. record { node = is.node; there = is.there; others = is.others; user = is.user }) others rest_fine

    one : (row : MountRow) → IsEnsured t.users t.nodes t.mounts of row
        → length t.mounts + new_count t.mounts (row ∷ ensured_all t.users t.nodes others (put mount_key row t.mounts)) ≤ MAX_MOUNTS
        → (b : Bool) → is_new t.mounts row ≡ b
        → (IsRemounted t row ⊎ IsNewMount t row)
        × (length (put mount_key row t.mounts)
        + new_count (put mount_key row t.mounts) (ensured_all t.users t.nodes others (put mount_key row t.mounts)) ≤ MAX_MOUNTS)
    one row is few b e =
        let after = put mount_key row t.mounts in
        let rest = ensured_all t.users t.nodes others after in
        let more : length t.mounts + length (if b then row ∷ filter (is_new t.mounts) rest else filter (is_new t.mounts) rest) ≤ MAX_MOUNTS =
        subst (λ (c : Bool). length t.mounts + length (if c then row ∷ filter (is_new t.mounts) rest else filter (is_new t.mounts) rest) ≤ MAX_MOUNTS) e few in
        let same = still_new row t.mounts rest (each_apart t.users t.nodes others after row.user row.node (put_mounted row t.mounts is.stays)) in (
          ensured_fits t of row is (All-head (IsMountable t) of others fine) few_nodes (few_of b more)
              (λ new. room_of b (sym new ∙ e) more),
          count_of b (put_count row t.mounts b e rising) same more,
        )
      where
        few_of : (b : Bool) → length t.mounts + length (if b then row ∷ filter (is_new t.mounts) (ensured_all t.users t.nodes others (put mount_key row t.mounts))
            else filter (is_new t.mounts) (ensured_all t.users t.nodes others (put mount_key row t.mounts))) ≤ MAX_MOUNTS
            → length t.mounts ≤ MAX_MOUNTS
        few_of b more = omega (arith, more)

        room_of : (b : Bool) → true ≡ b → length t.mounts + length (if b then row ∷ filter (is_new t.mounts) (ensured_all t.users t.nodes others (put mount_key row t.mounts))
            else filter (is_new t.mounts) (ensured_all t.users t.nodes others (put mount_key row t.mounts))) ≤ MAX_MOUNTS
            → length t.mounts + 1 ≤ MAX_MOUNTS
        room_of true e more = omega (arith, more)
        room_of false e more = absurd (cc)

        count_of : (b : Bool) → length (put mount_key row t.mounts) ≤ length t.mounts + (if b then 1 else 0)
            → new_count (put mount_key row t.mounts) (ensured_all t.users t.nodes others (put mount_key row t.mounts))
            ≡ new_count t.mounts (ensured_all t.users t.nodes others (put mount_key row t.mounts))
            → length t.mounts + length (if b then row ∷ filter (is_new t.mounts) (ensured_all t.users t.nodes others (put mount_key row t.mounts))
            else filter (is_new t.mounts) (ensured_all t.users t.nodes others (put mount_key row t.mounts))) ≤ MAX_MOUNTS
            → length (put mount_key row t.mounts)
            + new_count (put mount_key row t.mounts) (ensured_all t.users t.nodes others (put mount_key row t.mounts)) ≤ MAX_MOUNTS
        count_of true long same more = omega (arith, long, same, more)
        count_of false long same more = omega (arith, long, same, more)

    here : (o : Option MountRow) → IfSome o (IsEnsured t.users t.nodes t.mounts of)
        → length t.mounts + new_count t.mounts (then_ensured o (ensured_all t.users t.nodes others) t.mounts) ≤ MAX_MOUNTS
        → ((u : Tables) → length u.nodes ≤ MAX_NODES → IsRising mount_key u.mounts → All (IsMountable u) others
        → length u.mounts + new_count u.mounts (ensured_all u.users u.nodes others u.mounts) ≤ MAX_MOUNTS
        → KnownRows first None u (put_mounts (ensured_all u.users u.nodes others u.mounts)))
        → KnownRows first None t (put_mounts (then_ensured o (ensured_all t.users t.nodes others) t.mounts))
    here None is few rest = rest t few_nodes rising rest_fine few
    here (Some row) is few rest =
        let after = put mount_key row t.mounts in
        let h = one row is few (is_new t.mounts row) refl in
        one_more t (Put (rows.Mount row)) (put_mounts (ensured_all t.users t.nodes others after)) (refl, h.0)
        (rest (record t { mounts = after }) few_nodes (put_rising mount_key row t.mounts rising) (still after) h.1)
