-- What is known of a mount that is left, or gets another name.
use Rattle.std.proofs.Common.{◌≡◌, ◌≢◌, ℕ, ◌==◌, ◌&&◌, inl, inr, bytes_eq, find, get_or, not, sym, suc, Bool, true, false, List, [], ◌∷◌, ◌∙◌, Option, option_map, if◌then◌else◌, refl, ap, subst, arith}
use Rattle.std.specs.Prelude.{None, Some, is_some}
use Rattle.std.specs.List.{All, AllPairs}
use Rattle.std.specs.Option.{IfSome}
use Rattle.std.specs.declared.cmp.Ordering.TheVariants.{Less}
use Rattle.std.proofs.lemmas.Bool.{and_from, and_parts, both_ways, cases_Bool, eq-eqb, eqb-true, false_from_ne_true, not-true}
use Rattle.std.proofs.lemmas.Cmp.{tied_itself}
use Rattle.std.proofs.lemmas.List.Elements.{All-cons, All-nil}
use Rattle.std.proofs.lemmas.Option.{none-some, same_Some}
use Rattle.std.proofs.lemmas.Slice.Eq.{bytes_eq-Decides}
use Rattle.nf_access.specs.Mounts.{is_mount_of, is_shown_to, mount_at, mount_row, root_folder}
use Rattle.nf_base.specs.declared.changes.Change.{Change}
use Rattle.nf_base.specs.declared.changes.Change.TheVariants.{Put}
use Rattle.nf_base.specs.declared.rows.MountRow.{MountRow}
use Rattle.nf_base.specs.declared.rows.Row.TheVariants as rows
use Rattle.nf_defs.specs.Prelude.{child_of, key_cmp, made, mount_key, put, Tables}
use Rattle.nf_defs.specs.declared.Seeker.{Seeker}
use Rattle.nf_defs.specs.declared.Seeker.TheVariants.{User}
use Rattle.nf_defs.proofs.Puts.{key_total}
use Rattle.nf_words.proofs.Fits.{KnownChange, no_more, one_more}
use Rattle.nf_words.proofs.Known.{Known}
use Rattle.nf_words.proofs.Found.{found_has, found_passes, put_is_found, put_leaves}
use Rattle.nf_words.proofs.Starts.{itself_seeks}
use Rattle.nf_words.specs.Prelude.{AreSound, asker_of, Call, IsLean, IsRemounted, left_row, mount_for, mount_left, mount_of, mount_renamed, mounted, named_row, own_mount, raised, root_of, seeker_of, way_by, way_of, with_mount_row}
use Rattle.nf_words.specs.declared.answer.Report.TheVariants as report
use Rattle.nf_words.specs.declared.request.Spot.{Spot}

-- ---- rows of mounts

-- what passes one test and is found by another that no two pass is found by both
found_so : {X : Type 0} (p q : X → Bool) (xs : List X) (x : X) → AllPairs (λ (a b : X). q a ≡ true → q b ≡ false) xs
    → find p xs ≡ Some x → q x ≡ true → find q xs ≡ Some x
found_so p q [] x apart is so = absurd (none-some x is)
found_so {X = X} p q (y ∷ ys) x apart is so = here (p y) (q y) refl refl is (λ found. found_so p q ys x tails found so)
  where
    tails : AllPairs (λ (a b : X). q a ≡ true → q b ≡ false) ys
    tails i j d before within = apart (suc i) (suc j) d (omega (arith, before)) (omega (arith, within))

    heads : q y ≡ true → All (λ (z : X). q z ≡ false) ys
    heads passes k d within = apart 0 (suc k) d (omega arith) (omega (arith, within)) passes

    here : (a b : Bool) → p y ≡ a → q y ≡ b → find p (y ∷ ys) ≡ Some x → (find p ys ≡ Some x → find q ys ≡ Some x) → find q (y ∷ ys) ≡ Some x
    here true true e f is rest = simp f (simp e at is)
    here true false e f is rest =
        let same : y ≡ x = same_Some y x (simp e at is) in
        absurd (both_ways (q y) f (ap q same ∙ so))
    here false true e f is rest =
        let found = simp e at is in
        let fails = subst (λ (o : Option X). IfSome o (λ (z : X). q z ≡ false)) found (found_has (λ (z : X). q z ≡ false) p ys (heads f)) in
        absurd (both_ways (q x) fails so)
    here false false e f is rest = simp f (rest (simp e at is))

-- mounts of one user and one node have the same key
pub same_key : (user node : ℕ) (a b : MountRow) → is_mount_of user node a ≡ true → is_mount_of user node b ≡ true → mount_key a ≡ mount_key b
same_key user node a b one other =
    let x = and_parts (a.user == user) (a.node == node) one in
    let y = and_parts (b.user == user) (b.node == node) other in
    let users : a.user ≡ b.user = eqb-true a.user user x.0 ∙ sym (eqb-true b.user user y.0) in
    let nodes : a.node ≡ b.node = eqb-true a.node node x.1 ∙ sym (eqb-true b.node node y.1) in
    ap (λ (n : ℕ). n ∷ a.node ∷ []) users ∙ ap (λ (n : ℕ). b.user ∷ n ∷ []) nodes

-- so rising rows have one of each
pub mounts_differ : (mounts : List MountRow) (user node : ℕ) → AllPairs (λ (a b : MountRow). key_cmp (mount_key a) (mount_key b) ≡ Less) mounts
    → AllPairs (λ (a b : MountRow). is_mount_of user node a ≡ true → is_mount_of user node b ≡ false) mounts
mounts_differ mounts user node rising i j d before within =
    here (get_or mounts i d) (get_or mounts j d) (rising i j d before within)
  where
    here : (a b : MountRow) → key_cmp (mount_key a) (mount_key b) ≡ Less → is_mount_of user node a ≡ true → is_mount_of user node b ≡ false
    here a b less one =
        elim (cases_Bool (is_mount_of user node b)) [
          | inl other ↦
              (let same = same_key user node a b one other in
              let equal = tied_itself key_total (mount_key b) in
              let less = ap (λ (k : List ℕ). key_cmp k (mount_key b)) (sym same) ∙ less in absurd (cc))
          | inr none ↦ none
        ]

-- a mount that is shown under a name is the user's of its node
pub shown_mount : (t : Tables) (user : ℕ) (name : List ℕ) (node : ℕ) → AreSound t → mount_at t.mounts user name ≡ Some node
    → (row : MountRow) × (mount_row t.mounts user node ≡ Some row) × (row.user ≡ user) × (row.left ≡ false) × (row.name ≡ name)
shown_mount t user name node sound is = here (find test t.mounts) refl is
  where
    test : MountRow → Bool
    test row = is_shown_to user row && bytes_eq row.name name

    here : (o : Option MountRow) → find test t.mounts ≡ o → option_map (λ row. row.node) o ≡ Some node
        → (row : MountRow) × (mount_row t.mounts user node ≡ Some row) × (row.user ≡ user) × (row.left ≡ false) × (row.name ≡ name)
    here None e is = absurd (none-some node is)
    here (Some row) e is =
        let passes = and_parts (is_shown_to user row) (bytes_eq row.name name) (found_passes test t.mounts row e) in
        let shown = and_parts (row.user == user) (not row.left) passes.0 in
        let of_node = same_Some row.node node is in (
          row,
          found_so test (is_mount_of user node) t.mounts row (mounts_differ t.mounts user node sound.others.mounts_rise) e
              (and_from (row.user == user) (row.node == node) shown.0 (eq-eqb row.node node of_node)),
          eqb-true row.user user shown.0,
          not-true row.left shown.1,
          (bytes_eq-Decides row.name name).0 passes.1,
        )

-- ---- a row that is put

-- a mount that is put is found
pub mount_found : (row : MountRow) (old : List MountRow) → mount_row (put mount_key row old) row.user row.node ≡ Some row
mount_found row old =
    put_is_found mount_key (is_mount_of row.user row.node) row old itself (λ x same. same_key row.user row.node x row same itself)
  where
    itself : is_mount_of row.user row.node row ≡ true
    itself = and_from (row.user == row.user) (row.node == row.node) (eq-eqb row.user row.user refl) (eq-eqb row.node row.node refl)

-- a mount of another user or node isn't sought
pub not_mount : (row : MountRow) (user node : ℕ) → (row.user ≡ user → row.node ≡ node → ⊥) → is_mount_of user node row ≡ false
not_mount row user node other =
    false_from_ne_true (is_mount_of user node row) (λ is.
    let parts = and_parts (row.user == user) (row.node == node) is in
    other (eqb-true row.user user parts.0) (eqb-true row.node node parts.1))

-- so it is left where one is put
pub mount_left_so : (row : MountRow) (old : List MountRow) (user node : ℕ) → is_mount_of user node row ≡ false
    → mount_row (put mount_key row old) user node ≡ mount_row old user node
mount_left_so row old user node off =
    put_leaves mount_key (is_mount_of user node) row old off
    (λ x same. not_mount x user node (λ a b. both_ways (is_mount_of user node row) off
    (and_from (row.user == user) (row.node == node) (eq-eqb row.user user (users same ∙ a)) (eq-eqb row.node node (nodes same ∙ b)))))
  where
    users : {a b c d : ℕ} → a ∷ b ∷ [] ≡ c ∷ d ∷ [] → a ≡ c
    users same = cc

    nodes : {a b c d : ℕ} → a ∷ b ∷ [] ≡ c ∷ d ∷ [] → b ≡ d
    nodes same = cc

remount_lean : (t : Tables) (row : MountRow) → mount_row t.mounts row.user row.node ≢ Some row → IsLean t (Put (rows.Mount row) ∷ [])
remount_lean t row other = record {
  once = λ i j d before within. absurd (omega arith);
  differ = All-cons (λ (change : Change). made t change ≢ t) (Put (rows.Mount row)) []
      (λ same. other (sym (ap (λ (u : Tables). mount_row u.mounts row.user row.node) same) ∙ mount_found row t.mounts))
      (All-nil (λ (change : Change). made t change ≢ t));
}

pub remount_known : (t : Tables) (now : ℕ) (row : MountRow) → IsRemounted t row
    → KnownChange t now (Put (rows.Mount row) ∷ []) None
remount_known t now row is =
    let up = raised t now (Put (rows.Mount row) ∷ []) None in
    record {
      rows = one_more up (Put (rows.Mount row)) []
          (refl, inl (record { old = is.old; there = is.there; same = is.same; other = is.other; free = is.free; apart = is.apart }))
          (no_more (made up (Put (rows.Mount row))));
      lean = remount_lean t row (λ same. is.other (same_Some row is.old (sym same ∙ is.there)));
      stored = λ none. absurd (cc);
      next = tt;
      next_user = omega arith;
      next_group = omega arith;
      next_node = omega arith;
      next_share = omega arith;
      next_blob = omega arith;
    }

-- ---- of a call

-- a name that is free in a user's root
pub record IsFreeName (t : Tables) (user : ℕ) (name : List ℕ) : Type 0 where
  pub free : child_of t.nodes (root_folder t.users user) name ≡ None
  pub apart : mount_at t.mounts user name ≡ None

module _ (call : Call) (spot : Spot) (sound : AreSound call.state.tables) where
  abbrev t : Tables
  t = call.state.tables

  -- what the mount is whose own path a request names
  pub record IsOwnMount : Type 0 where
    pub node : ℕ
    pub row : MountRow
    pub by : (way_of call spot).mount ≡ Some node
    pub there : mount_row t.mounts (asker_of call) node ≡ Some row
    pub user : row.user ≡ asker_of call
    pub of_node : row.node ≡ node
    pub shown : row.left ≡ false
    pub named : mount_at t.mounts (asker_of call) row.name ≡ Some node

  pub own_known : (way_of call spot).itself ≡ true → IsOwnMount
  own_known itself = here (mount_of call spot) refl itself
    where
      seeks : seeker_of call ≡ User (asker_of call)
      seeks = itself_seeks call spot itself

      at_name : (path : List (List ℕ)) (node : ℕ) → mounted t.nodes t.mounts (asker_of call) (root_of call) path ≡ Some node
          → (name : List ℕ) × (mount_at t.mounts (asker_of call) name ≡ Some node)
      at_name [] node is = absurd (none-some node is)
      at_name (name ∷ names) node is = (name, unless (is_some (child_of t.nodes (root_of call) name)) is)
        where
          unless : (b : Bool) → (if b then None else mount_at t.mounts (asker_of call) name) ≡ Some node → mount_at t.mounts (asker_of call) name ≡ Some node
          unless true is = absurd (none-some node is)
          unless false is = is

      here : (mount : Option ℕ) → mount_of call spot ≡ mount → (way_by t.nodes (seeker_of call) (root_of call) spot.path mount).itself ≡ true → IsOwnMount
      here None by itself = absurd (cc)
      here (Some node) by itself =
          let named = at_name spot.path node
          (sym (ap (λ (s : Seeker). mount_for t.nodes t.mounts s (root_of call) spot.path) seeks) ∙ by) in
          let shown = shown_mount t (asker_of call) named.0 node sound named.1 in
          let passes = and_parts (shown.0.user == asker_of call) (shown.0.node == node)
          (found_passes (is_mount_of (asker_of call) node) t.mounts shown.0 shown.1) in
          record {
            node = node;
            row = shown.0;
            by = ap (λ (o : Option ℕ). (way_by t.nodes (seeker_of call) (root_of call) spot.path o).mount) by;
            there = shown.1;
            user = shown.2;
            of_node = eqb-true shown.0.node node passes.1;
            shown = shown.3;
            named = ap (mount_at t.mounts (asker_of call)) shown.4 ∙ named.1;
          }

  own_is : (own : IsOwnMount) → own_mount call (way_of call spot).mount ≡ Some own.row
  own_is own = ap (own_mount call) own.by ∙ own.there

  at_own : (own : IsOwnMount) → mount_row t.mounts own.row.user own.row.node ≡ Some own.row
  at_own own = ap (λ (n : ℕ). mount_row t.mounts n own.row.node) own.user ∙ ap (mount_row t.mounts (asker_of call)) own.of_node ∙ own.there

  pub left_known : (way_of call spot).itself ≡ true → Known t call.now (mount_left call (way_of call spot))
  left_known itself =
      let own = own_known itself in
      subst (λ (o : Option MountRow). Known t call.now (with_mount_row (option_map left_row o) report.Done)) (sym (own_is own))
      (remount_known t call.now (left_row own.row) (record {
        old = own.row;
        there = at_own own;
        same = refl;
        other = λ same. both_ways own.row.left own.shown (sym (ap (λ (r : MountRow). r.left) same));
        free = λ shown. absurd (cc);
        apart = λ shown. absurd (cc);
      }))

  pub renamed_known : (name : List ℕ) → (way_of call spot).itself ≡ true → IsFreeName t (asker_of call) name
      → Known t call.now (mount_renamed call (way_of call spot) name)
  renamed_known name itself free =
      let own = own_known itself in
      subst (λ (o : Option MountRow). Known t call.now (with_mount_row (option_map (named_row name) o) report.Made)) (sym (own_is own))
      (remount_known t call.now (named_row name own.row) (record {
        old = own.row;
        there = at_own own;
        same = refl;
        other = λ same.
            absurd (none-some own.node (sym free.apart ∙ ap (mount_at t.mounts (asker_of call)) (ap (λ (r : MountRow). r.name) same) ∙ own.named));
        free = λ shown. ap (λ (n : ℕ). child_of t.nodes (root_folder t.users n) name) own.user ∙ free.free;
        apart = λ shown. ap (λ (n : ℕ). mount_at t.mounts n name) own.user ∙ free.apart;
      }))
