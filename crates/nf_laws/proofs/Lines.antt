-- What a listing has.
use Rattle.std.proofs.Common.{◌≡◌, ◌≢◌, ◌↔◌, ◌⊎◌, ℕ, ◌+◌, ◌<◌, ◌==◌, ◌&&◌, ◌||◌, not, suc, Bool, true, false, bytes_eq, List, [], ◌∷◌, map, filter, find, option_map, Option, get_or, nat_cmp, Less, Equal, Greater, length, if◌then◌else◌, inl, inr, refl, sym, ap, subst, ◌∙◌, arith}
use Rattle.std.specs.Prelude.{None, Some, IsSome}
use Rattle.std.specs.Cmp.{IsStrictWeakOrder}
use Rattle.std.specs.Cmp.Lexicographic.{slice_cmp}
use Rattle.std.specs.List.{All, AllPairs, Contains, cons_option, filter_map, list_any}
use Rattle.std.specs.Option.{option_and_then, option_map_or}
use Rattle.std.specs.Ordering.{is_lt, ordering_reverse}
use Rattle.std.specs.declared.cmp.Ordering.{Ordering}
use Rattle.std.proofs.lemmas.Bool.{and_from, and_parts, both_ways, eq-eqb, eqb-true, not-true}
use Rattle.std.proofs.lemmas.Cmp.{nat_list_cmp_total}
use Rattle.std.proofs.lemmas.List.{get_or-map, length-map}
use Rattle.std.proofs.lemmas.List.Elements.{All-cons, All-contains, All-contains_itself, All-filter, All-head, All-map, All-nil, All-tail, filter_passes}
use Rattle.std.proofs.lemmas.List.Kept.{AllPairs-cons, AllPairs-filter}
use Rattle.std.proofs.lemmas.List.Sorted.{ranks_by}
use Rattle.std.proofs.lemmas.Option.{same_Some}
use Rattle.std.proofs.lemmas.Slice.Eq.{bytes_eq-Decides}
use Rattle.nf_access.proofs.Granted.{reach_is_a_chain_lem}
use Rattle.nf_access.specs.Access.{allows, is_open}
use Rattle.nf_access.specs.Mounts.{is_shown_to, listed, root_folder}
use Rattle.nf_access.specs.Shares.{ground_of}
use Rattle.nf_base.proofs.Naming.{slice_cmp-Equal}
use Rattle.nf_base.specs.Perms.{has}
use Rattle.nf_base.specs.declared.perms.Act.{Act}
use Rattle.nf_base.specs.declared.perms.Act.TheVariants.{Read, Update, Create, Delete, Share}
use Rattle.nf_base.specs.declared.rows.MountRow.{MountRow}
use Rattle.nf_base.specs.declared.rows.NodeRow.{NodeRow}
use Rattle.nf_base.specs.declared.rows.UserRow.{UserRow}
use Rattle.nf_defs.proofs.ByName.{Contains-cases, Contains-filter, Contains-from, Contains-here, Contains-later, Contains-none}
use Rattle.nf_defs.proofs.Sorted.{lt_trans}
use Rattle.nf_defs.proofs.Walks.{children_are, is_of_inside}
use Rattle.nf_defs.specs.Prelude.{Access, child_of, children_of, folder_of, is_in, node_row, Tables, user_row}
use Rattle.nf_defs.specs.declared.Grant.{Grant}
use Rattle.nf_defs.specs.declared.Seeker.{Seeker}
use Rattle.nf_defs.specs.declared.Seeker.TheVariants.{User, Link}
use Rattle.nf_laws.proofs.Children.{children_by_name}
use Rattle.nf_laws.proofs.Climbs.{some_there}
use Rattle.nf_laws.proofs.Rows.{each_fails, folder_there, found_is, row_id, row_is}
use Rattle.nf_laws.proofs.Upwards.{owners_there}
use Rattle.nf_laws.specs.Listings.{ChildrenAreListed, IsMountShown, LinesAreByName, LinesAreThese, MountsAreListed, PermissionsAreActs}
use Rattle.nf_laws.specs.Tree.{name_of}
use Rattle.nf_words.proofs.Starts.{row_of_caller, unlinked_root}
use Rattle.nf_words.proofs.Ways.{bounded, reached_there}
use Rattle.nf_words.specs.Listing.{size_of}
use Rattle.nf_words.specs.Prelude.{access_of, AreMountsApart, AreSound, asker_of, bits_by, Call, caller_row, child_line, child_lines, granted_by, is_by_link, is_line_before, is_ones_own, is_owner, IsMountSound, IsPlaceSound, IsSound, line_of, linked_of, listing_of, may_by, mount_line, mount_lines, put_line, put_lines, root_of, seeker_of, State, user_of}
use Rattle.nf_words.specs.declared.listing.ListingLine.{ListingLine}

-- ---- lines, one for one

-- a line is had of something, with that number and that name
record HasLine {X : Type 0} (lined : X → Option ListingLine) (number : X → ℕ) (name : X → List ℕ) (x : X) : Type 0 where
  line : ListingLine
  is : lined x ≡ Some line
  id : line.id ≡ number x
  named : line.name ≡ name x

module _ {X : Type 0} (lined : X → Option ListingLine) (number : X → ℕ) (name : X → List ℕ) where
  ids_of : (xs : List X) → All (HasLine lined number name) xs → map (λ line. line.id) (filter_map lined xs) ≡ map number xs
  ids_of [] each = refl
  ids_of (x ∷ xs) each =
      let h = All-head (HasLine lined number name) x xs each in
      let rest = ids_of xs (All-tail (HasLine lined number name) x xs each) in
      rw h.is (cc (h.id, rest))

  names_of : (xs : List X) → All (HasLine lined number name) xs → map (λ line. line.name) (filter_map lined xs) ≡ map name xs
  names_of [] each = refl
  names_of (x ∷ xs) each =
      let h = All-head (HasLine lined number name) x xs each in
      let rest = names_of xs (All-tail (HasLine lined number name) x xs each) in
      rw h.is (cc (h.named, rest))

-- the line of a node that is there
line_there : (t : Tables) (seeker : Seeker) (granted node : ℕ) (name : List ℕ) (row : NodeRow) → AreSound t → node_row t.nodes node ≡ Some row
    → HasLine (line_of t seeker granted name) (λ row. row.id) (λ row. name) row
line_there t seeker granted node name row sound there =
    let some = found_is (λ (row : NodeRow). IsSome (user_row t.users row.owner)) (λ row. row.id == node) t.nodes row (owners_there t sound) there in
    let owner = some_there (user_row t.users row.owner) some.1 in
    record { line = _; is = ap (option_map _) owner.1; id = refl; named = refl }

-- ---- those of children

module _ (t : Tables) (seeker : Seeker) (granted folder : ℕ) (sound : AreSound t) where
  children_lined : All (HasLine (child_line t seeker granted) (λ node. node) (name_of t.nodes)) (children_of t.nodes folder)
  children_lined k d within =
      let is = children_are t.nodes folder sound.rising k d within in
      let node : ℕ = get_or (children_of t.nodes folder) k d in
      let h = line_there t seeker granted node is.row.name is.row sound is.there in
      record {
        line = h.line;
        is = ap (option_and_then (λ row. line_of t seeker granted row.name row)) is.there ∙ h.is;
        id = h.id ∙ row_id t.nodes node is.row is.there;
        named = h.named ∙ sym (ap (λ (o : Option NodeRow). option_map_or (λ row. row.name) o []) is.there);
      }

  child_names : map (λ line. line.name) (child_lines t seeker granted folder) ≡ map (name_of t.nodes) (children_of t.nodes folder)
  child_names = names_of (child_line t seeker granted) (λ node. node) (name_of t.nodes) (children_of t.nodes folder) children_lined

same_each : (xs : List ℕ) → map (λ x. x) xs ≡ xs
same_each [] = refl
same_each (x ∷ xs) = ap (λ (ys : List ℕ). x ∷ ys) (same_each xs)

pub children_listed : ChildrenAreListed
children_listed t seeker granted folder sound =
    ids_of (child_line t seeker granted) (λ node. node) (name_of t.nodes) (children_of t.nodes folder) (children_lined t seeker granted folder sound)
    ∙ same_each (children_of t.nodes folder)

-- ---- those of mounts

filter_among : {X : Type 0} (p : X → Bool) (xs : List X) (x : X) → Contains (filter p xs) x → Contains xs x × (p x ≡ true)
filter_among p xs x h = (
  All-contains (Contains xs) (filter p xs) x (All-filter p (Contains xs) xs (All-contains_itself xs)) h,
  All-contains (λ x. p x ≡ true) (filter p xs) x (filter_passes p xs) h,
)

module _ (s : State) (now user : ℕ) (sound : IsSound s) where
  abbrev t : Tables
  t = s.tables

  abbrev is_reached : ℕ → Bool
  is_reached node = list_any (is_open now) (access_of s (User user) node)

  abbrev is_listed : MountRow → Bool
  is_listed row = is_shown_to user row && is_reached row.node

  abbrev shown : List MountRow
  shown = listed (access_of s) now t.mounts user

  -- what is listed is shown to the user, and reached
  record IsReachedMount (row : MountRow) : Type 0 where
    of_user : row.user ≡ user
    left : row.left ≡ false
    reached : is_reached row.node ≡ true

  reached_mount : (row : MountRow) → is_listed row ≡ true → IsReachedMount row
  reached_mount row is =
      let parts = and_parts (is_shown_to user row) (is_reached row.node) is in
      let shown = and_parts (row.user == user) (not row.left) parts.0 in
      record { of_user = eqb-true row.user user shown.0; left = not-true row.left shown.1; reached = parts.1 }

  mount_shown : (row : MountRow) → Contains shown row → IsMountShown s now user row
  mount_shown row h =
      let among = filter_among is_listed t.mounts row h in
      let is = reached_mount row among.1 in
      let chain = (reach_is_a_chain_lem (ground_of t) now (User user) row.node (bounded t sound.rows)).0 is.reached in
      record { among = among.0; of_user = is.of_user; shown = is.left; share = chain.0; up = chain.1; reaches = chain.2 }

  shown_mount : (row : MountRow) → IsMountShown s now user row → Contains shown row
  shown_mount row is =
      let reached = (reach_is_a_chain_lem (ground_of t) now (User user) row.node (bounded t sound.rows)).1 (is.share, is.up, is.reaches) in
      Contains-filter is_listed t.mounts row is.among
      (and_from (is_shown_to user row) (is_reached row.node)
      (and_from (row.user == user) (not row.left) (eq-eqb row.user user is.of_user) (ap not is.shown)) reached)

  mounts_lined : All (HasLine (mount_line (access_of s) t now) (λ row. row.node) (λ row. row.name)) shown
  mounts_lined k d within =
      let row : MountRow = get_or shown k d in
      let is = reached_mount row (filter_passes is_listed t.mounts k d within) in
      let there = reached_there t (User user) now row.node sound.rows (rw is.reached refl) in
      let h = line_there t (User row.user) (bits_by now (access_of s (User row.user) row.node)) row.node row.name there.row sound.rows there.there in
      record {
        line = h.line;
        is = ap (option_and_then (line_of t (User row.user) (bits_by now (access_of s (User row.user) row.node)) row.name)) there.there ∙ h.is;
        id = h.id ∙ row_id t.nodes row.node there.row there.there;
        named = h.named;
      }

  mount_names : map (λ line. line.name) (mount_lines (access_of s) t now (User user)) ≡ map (λ row. row.name) shown
  mount_names = names_of (mount_line (access_of s) t now) (λ row. row.node) (λ row. row.name) shown mounts_lined

  mount_nodes : map (λ line. line.id) (mount_lines (access_of s) t now (User user)) ≡ map (λ row. row.node) shown
  mount_nodes = ids_of (mount_line (access_of s) t now) (λ row. row.node) (λ row. row.name) shown mounts_lined

pub mounts_listed : MountsAreListed
mounts_listed = record {
  those = λ s now user row sound. (mount_shown s now user sound row, shown_mount s now user sound row);
  names = mount_names;
  nodes = mount_nodes;
}

-- ---- those of a listing

-- what is among lines with one put there, or with others
put_line_among : (line : ListingLine) (lines : List ListingLine) (y : ListingLine) → Contains (put_line line lines) y ↔ ((line ≡ y) ⊎ Contains lines y)
put_line_among line [] y = (Contains-cases line y [], Contains-from line y [])
put_line_among line (first ∷ lines) y = here (is_line_before first line) refl (put_line_among line lines y)
  where
    here : (b : Bool) → is_line_before first line ≡ b → Contains (put_line line lines) y ↔ ((line ≡ y) ⊎ Contains lines y)
        → Contains (if b then first ∷ put_line line lines else line ∷ first ∷ lines) y ↔ ((line ≡ y) ⊎ Contains (first ∷ lines) y)
    here true e rest = (
      λ h. elim (Contains-cases first y (put_line line lines) h) [
        | inl same ↦ inr (Contains-from first y lines (inl same))
        | inr later ↦ elim (rest.0 later) [ inl same ↦ inl same | inr later ↦ inr (Contains-later first y lines later) ]
      ],
      λ h. Contains-from first y (put_line line lines) (elim h [
        | inl same ↦ inr (rest.1 (inl same))
        | inr later ↦ elim (Contains-cases first y lines later) [ inl same ↦ inl same | inr later ↦ inr (rest.1 (inr later)) ]
      ]),
    )
    here false e rest = (Contains-cases line y (first ∷ lines), Contains-from line y (first ∷ lines))

put_lines_among : (others lines : List ListingLine) (y : ListingLine) → Contains (put_lines others lines) y ↔ (Contains others y ⊎ Contains lines y)
put_lines_among [] lines y = (λ h. inr h, λ h. elim h [ inl none ↦ absurd (Contains-none y none) | inr h ↦ h ])
put_lines_among (line ∷ others) lines y =
    let rest = put_lines_among others (put_line line lines) y in
    let one = put_line_among line lines y in (
      λ h. elim (rest.0 h) [
        | inl later ↦ inl (Contains-later line y others later)
        | inr put ↦ elim (one.0 put) [ inl same ↦ inl (Contains-from line y others (inl same)) | inr h ↦ inr h ]
      ],
      λ h. rest.1 (elim h [
        | inl other ↦ elim (Contains-cases line y others other) [ inl same ↦ inr (one.1 (inl same)) | inr later ↦ inl later ]
        | inr h ↦ inr (one.1 (inr h))
      ]),
    )

pub lines_these : LinesAreThese
lines_these access call mount folder line = here (folder == root_of call) refl
  where
    children : List ListingLine
    children = child_lines call.state.tables (seeker_of call) (granted_by access (seeker_of call) call.now mount) folder

    mounts : List ListingLine
    mounts = mount_lines access call.state.tables call.now (seeker_of call)

    here : (b : Bool) → (folder == root_of call) ≡ b
        → Contains (put_lines (if b then mounts else []) children) line ↔ (Contains children line ⊎ ((folder ≡ root_of call) × Contains mounts line))
    here true e =
        let both = put_lines_among mounts children line in (
          λ h. elim (both.0 h) [ inl other ↦ inr (eqb-true folder (root_of call) e, other) | inr child ↦ inl child ],
          λ h. both.1 (elim h [ inl child ↦ inr child | inr other ↦ inl other.1 ]),
        )
    here false e = (λ h. inl h, λ h. elim h [ inl child ↦ child | inr other ↦ absurd (both_ways (folder == root_of call) e (eq-eqb folder (root_of call) other.0)) ])

-- ---- by name

abbrev Before : ListingLine → ListingLine → Type 0
Before a b = is_line_before a b ≡ true

line_weak : IsStrictWeakOrder is_line_before
line_weak = ranks_by nat_list_cmp_total (λ (line : ListingLine). line.name)

-- of lines with two names one comes first
strictly : (a b : ListingLine) → a.name ≢ b.name → is_line_before a b ≡ false → Before b a
strictly a b differ low = here (slice_cmp nat_cmp a.name b.name) refl low
  where
    here : (o : Ordering) → slice_cmp nat_cmp a.name b.name ≡ o → is_lt o ≡ false → Before b a
    here Less e h = absurd (cc)
    here Equal e h = absurd (differ ((slice_cmp-Equal a.name b.name).0 e))
    here Greater e h = ap is_lt (nat_list_cmp_total.antisymm b.name a.name) ∙ ap (λ o. is_lt (ordering_reverse o)) e

is_less : (o : Ordering) → is_lt o ≡ true → o ≡ Less
is_less Less h = refl
is_less o h = absurd (cc)

pairs_head : (R : ListingLine → ListingLine → Type 0) (x : ListingLine) (xs : List ListingLine) → AllPairs R (x ∷ xs) → All (R x) xs
pairs_head R x xs pairs = λ k d within. pairs 0 (suc k) d (omega arith) (omega arith)

pairs_tail : (R : ListingLine → ListingLine → Type 0) (x : ListingLine) (xs : List ListingLine) → AllPairs R (x ∷ xs) → AllPairs R xs
pairs_tail R x xs pairs = λ i j d less within. pairs (suc i) (suc j) d (omega arith) (omega arith)

-- what two of some have by a value of theirs, two of these values have, and the other way round
pairs_of : {X Y : Type 0} (R : Y → Y → Type 0) (f : X → Y) (xs : List X) → AllPairs (λ a b. R (f a) (f b)) xs → AllPairs R (map f xs)
pairs_of R f [] pairs = λ i j d before within. absurd (omega arith)
pairs_of R f (x ∷ xs) pairs =
    AllPairs-cons R (f x) (map f xs) (All-map (R (f x)) f xs (λ k d within. pairs 0 (suc k) d (omega arith) (omega arith)))
    (pairs_of R f xs (λ i j d before within. pairs (suc i) (suc j) d (omega arith) (omega arith)))

of_pairs : {X Y : Type 0} (R : Y → Y → Type 0) (f : X → Y) (xs : List X) → AllPairs R (map f xs) → AllPairs (λ a b. R (f a) (f b)) xs
of_pairs R f xs pairs i j d before within =
    subst (λ y. R y (f (get_or xs j d))) (get_or-map f xs i d (f d) (omega arith))
    (subst (R (get_or (map f xs) i (f d))) (get_or-map f xs j d (f d) within)
    (pairs i j (f d) before (omega (arith, within, length-map xs f))))

-- the lines of a folder's children are by name
pub children_rise : (t : Tables) (seeker : Seeker) (granted folder : ℕ) → AreSound t → AllPairs Before (child_lines t seeker granted folder)
children_rise t seeker granted folder sound i j d before within =
    ap is_lt (of_pairs (λ (a b : List ℕ). slice_cmp nat_cmp a b ≡ Less) (λ (line : ListingLine). line.name) (child_lines t seeker granted folder)
    (subst (AllPairs (λ (a b : List ℕ). slice_cmp nat_cmp a b ≡ Less)) (sym (child_names t seeker granted folder sound))
    (pairs_of (λ (a b : List ℕ). slice_cmp nat_cmp a b ≡ Less) (name_of t.nodes) (children_of t.nodes folder) (children_by_name.sorted t folder sound)))
    i j d before within)

-- a line whose name is that of no other is put at its place
put_rises : (line : ListingLine) (lines : List ListingLine) → AllPairs Before lines
    → All (λ (other : ListingLine). line.name ≢ other.name) lines → AllPairs Before (put_line line lines)
put_rises line [] up differ = AllPairs-cons Before line [] (λ k d within. absurd (omega arith)) up
put_rises line (first ∷ lines) up differ =
    here (is_line_before first line) refl
    (put_rises line lines (pairs_tail Before first lines up) (All-tail (λ (other : ListingLine). line.name ≢ other.name) first lines differ))
  where
    here : (b : Bool) → is_line_before first line ≡ b → AllPairs Before (put_line line lines)
        → AllPairs Before (if b then first ∷ put_line line lines else line ∷ first ∷ lines)
    here true e rest =
        AllPairs-cons Before first (put_line line lines)
        (λ k d within.
        let among = (put_line_among line lines (get_or (put_line line lines) k d)).0 (All-contains_itself (put_line line lines) k d within) in
        elim among [
          | inl same ↦ subst (Before first) same e
          | inr later ↦ All-contains (Before first) lines (get_or (put_line line lines) k d) (pairs_head Before first lines up) later
        ]) rest
    here false e rest =
        let other = All-head (λ (other : ListingLine). line.name ≢ other.name) first lines differ in
        let less = strictly first line (λ same. other (sym same)) e in
        AllPairs-cons Before line (first ∷ lines) (All-cons (Before line) first lines less
        (λ k d within. lt_trans line_weak line first (get_or lines k d) less (pairs_head Before first lines up k d within))) up

abbrev Differ : ListingLine → ListingLine → Type 0
Differ a b = a.name ≢ b.name

puts_rise : (others lines : List ListingLine) → AllPairs Before lines → AllPairs Differ others
    → ((a b : ListingLine) → Contains others a → Contains lines b → a.name ≢ b.name) → AllPairs Before (put_lines others lines)
puts_rise [] lines up apart across = up
puts_rise (line ∷ others) lines up apart across =
    puts_rise others (put_line line lines)
    (put_rises line lines up (λ k d within. across line (get_or lines k d) (Contains-here line others) (All-contains_itself lines k d within)))
    (pairs_tail Differ line others apart)
    (λ a b other put same. elim ((put_line_among line lines b).0 put) [
      | inl it ↦ All-contains (Differ line) others a (pairs_head Differ line others apart) other (ap (λ (l : ListingLine). l.name) it ∙ sym same)
      | inr child ↦ across a b (Contains-later line a others other) child same
    ])

all_of : {X Y : Type 0} (P : Y → Type 0) (f : X → Y) (xs : List X) → All P (map f xs) → All (λ x. P (f x)) xs
all_of P f xs all k d within = subst P (get_or-map f xs k d (f d) within) (all k (f d) (omega (arith, within, length-map xs f)))

abbrev IsUnnamed : Tables → ℕ → List ℕ → Type 0
IsUnnamed t folder name = All (λ (node : ℕ). name ≢ name_of t.nodes node) (children_of t.nodes folder)

-- a name that no child has
free_unnamed : (t : Tables) (folder : ℕ) (name : List ℕ) → AreSound t → child_of t.nodes folder name ≡ None → IsUnnamed t folder name
free_unnamed t folder name sound free k d within same =
    let is = children_are t.nodes folder sound.rising k d within in
    let node : ℕ = get_or (children_of t.nodes folder) k d in
    let named : name ≡ is.row.name = same ∙ ap (λ (o : Option NodeRow). option_map_or (λ row. row.name) o []) is.there in
    let fails = each_fails is_it t.nodes (none_mapped (find is_it t.nodes) free) in
    let not_it = found_is (λ (row : NodeRow). is_it row ≡ false) (λ (row : NodeRow). row.id == node) t.nodes is.row fails is.there in
    both_ways (is_it is.row) not_it.1
    (and_from (is_in folder is.row) (bytes_eq is.row.name name) (is_of_inside folder is.row.place (ap folder_of is.place))
    ((bytes_eq-Decides is.row.name name).1 (sym named)))
  where
    is_it : NodeRow → Bool
    is_it row = is_in folder row && bytes_eq row.name name

    none_mapped : (o : Option NodeRow) → option_map (λ row. row.id) o ≡ None → o ≡ None
    none_mapped None none = refl
    none_mapped (Some row) none = absurd (cc)

-- no node is in one that isn't there
nothing_inside : (t : Tables) (name : List ℕ) → AreSound t → IsUnnamed t 0 name
nothing_inside t name sound k d within =
    let is = children_are t.nodes 0 sound.rising k d within in
    let fine = (row_is t (get_or (children_of t.nodes 0) k d) is.row sound is.there).1 in
    let place = subst (IsPlaceSound t is.row) is.place fine.place in
    let folder = folder_there t.nodes 0 place.0 in
    let zero = row_is t 0 folder.0 sound folder.1 in
    absurd (omega (arith, zero.0, zero.1.some))

module _ (call : Call) (sound : IsSound call.state) where
  abbrev all : Tables
  all = call.state.tables

  -- the name of a mount of the caller's is that of no child of the root
  mount_unnamed : is_by_link call.request.caller ≡ false → (row : MountRow) → IsMountSound all row → row.user ≡ asker_of call → row.left ≡ false
      → IsUnnamed all (root_of call) row.name
  mount_unnamed other row fine mine shown = here (caller_row call) refl
    where
      here : (o : Option UserRow) → caller_row call ≡ o → IsUnnamed all (root_of call) row.name
      here None none =
          subst (λ (n : ℕ). IsUnnamed all n row.name) (sym (unlinked_root call other ∙ ap (λ (o : Option UserRow). option_map_or (λ row. row.root) o 0) none))
          (nothing_inside all row.name sound.rows)
      here (Some user) is =
          let asks : user.id ≡ asker_of call = sym (ap (λ (o : Option UserRow). option_map_or (λ row. row.id) o 0) is) in
          let known = (row_of_caller all.users (user_of call) user is).1 in
          let root : root_of call ≡ root_folder all.users row.user =
          unlinked_root call other ∙ ap (λ (o : Option UserRow). option_map_or (λ row. row.root) o 0) (is ∙ sym known) ∙ ap (root_folder all.users) (asks ∙ sym mine) in
          subst (λ (n : ℕ). IsUnnamed all n row.name) (sym root)
          (free_unnamed all (root_folder all.users row.user) row.name sound.rows (fine.free shown))

  -- the lines of a user who asks
  module _ (unlinked : is_by_link call.request.caller ≡ false) (granted folder : ℕ) where
    abbrev children : List ListingLine
    children = child_lines all (User (asker_of call)) granted folder

    abbrev mounts : List ListingLine
    mounts = mount_lines (access_of call.state) all call.now (User (asker_of call))

    abbrev rows : List MountRow
    rows = listed (access_of call.state) call.now all.mounts (asker_of call)

    is_own : (k : ℕ) (d : MountRow) → k < length rows → IsReachedMount call.state call.now (asker_of call) sound (get_or rows k d)
    is_own k d within =
        reached_mount call.state call.now (asker_of call) sound (get_or rows k d)
        (filter_passes (is_listed call.state call.now (asker_of call) sound) all.mounts k d within)

    mounts_differ : AllPairs Differ mounts
    mounts_differ =
        of_pairs (λ (a b : List ℕ). a ≢ b) (λ (line : ListingLine). line.name) mounts
        (subst (AllPairs (λ (a b : List ℕ). a ≢ b)) (sym (mount_names call.state call.now (asker_of call) sound))
        (pairs_of (λ (a b : List ℕ). a ≢ b) (λ (row : MountRow). row.name) rows
        (λ i j d before within.
        let one = is_own i d (omega arith) in
        let other = is_own j d within in
        AllPairs-filter AreMountsApart (is_listed call.state call.now (asker_of call) sound) all.mounts sound.rows.others.mounts_apart i j d before within
        (one.of_user ∙ sym other.of_user) one.left other.left)))

    abbrev IsApart : List ℕ → Type 0
    IsApart name = All (λ (line : ListingLine). name ≢ line.name) children

    unnamed_apart : (name : List ℕ) → IsUnnamed all folder name → IsApart name
    unnamed_apart name unnamed =
        all_of (λ (other : List ℕ). name ≢ other) (λ (line : ListingLine). line.name) children
        (subst (All (λ (other : List ℕ). name ≢ other)) (sym (child_names all (User (asker_of call)) granted folder sound.rows))
        (All-map (λ (other : List ℕ). name ≢ other) (name_of all.nodes) (children_of all.nodes folder) unnamed))

    mounts_apart : folder ≡ root_of call → All (λ (line : ListingLine). IsApart line.name) mounts
    mounts_apart root =
        all_of IsApart (λ (line : ListingLine). line.name) mounts
        (subst (All IsApart) (sym (mount_names call.state call.now (asker_of call) sound))
        (All-map IsApart (λ (row : MountRow). row.name) rows
        (λ k d within.
        let one = is_own k d within in
        let fine = All-filter (is_listed call.state call.now (asker_of call) sound) (IsMountSound all) all.mounts sound.rows.others.mounts k d within in
        unnamed_apart (get_or rows k d).name
        (subst (λ (n : ℕ). IsUnnamed all n (get_or rows k d).name) (sym root) (mount_unnamed unlinked (get_or rows k d) fine one.of_user one.left)))))

    rises : (b : Bool) → (folder == root_of call) ≡ b → AllPairs Before (put_lines (if b then mounts else []) children)
    rises true e =
        puts_rise mounts children (children_rise all (User (asker_of call)) granted folder sound.rows) mounts_differ
        (λ a b mount child.
        All-contains (λ (line : ListingLine). a.name ≢ line.name) children b
        (All-contains (λ (line : ListingLine). IsApart line.name) mounts a (mounts_apart (eqb-true folder (root_of call) e)) mount) child)
    rises false e = children_rise all (User (asker_of call)) granted folder sound.rows

  -- the lines of whoever it is; whoever asks by a link has no mounts
  abbrev lines_for : Option ℕ → ℕ → Seeker → List ListingLine
  lines_for mount folder seeker =
      put_lines (if folder == root_of call then mount_lines (access_of call.state) all call.now seeker else [])
      (child_lines all seeker (granted_by (access_of call.state) seeker call.now mount) folder)

  all_rise : (mount : Option ℕ) (folder : ℕ) (linked : Bool) → is_by_link call.request.caller ≡ linked
      → AllPairs Before (lines_for mount folder (if linked then Link (linked_of call) else User (asker_of call)))
  all_rise mount folder false unlinked =
      rises unlinked (granted_by (access_of call.state) (User (asker_of call)) call.now mount) folder (folder == root_of call) refl
  all_rise mount folder true linked = here (folder == root_of call)
    where
      children : List ListingLine
      children =
          child_lines all (Link (linked_of call)) (granted_by (access_of call.state) (Link (linked_of call)) call.now mount) folder

      here : (b : Bool) → AllPairs Before (put_lines (if b then [] else []) children)
      here true = children_rise all (Link (linked_of call)) (granted_by (access_of call.state) (Link (linked_of call)) call.now mount) folder sound.rows
      here false = children_rise all (Link (linked_of call)) (granted_by (access_of call.state) (Link (linked_of call)) call.now mount) folder sound.rows

pub lines_by_name : LinesAreByName
lines_by_name call mount folder sound i j d before within =
    let lines = listing_of (access_of call.state) call mount folder in
    is_less (slice_cmp nat_cmp (get_or lines i d).name (get_or lines j d).name)
    (all_rise call sound mount folder (is_by_link call.request.caller) refl i j d before within)

-- ---- what may be done

-- what follows from what each has for what is had of it, all that is had has
each_had : {X Y : Type 0} (Q : X → Type 0) (P : Y → Type 0) (f : X → Option Y) → ((x : X) (y : Y) → Q x → f x ≡ Some y → P y) → (xs : List X)
    → All Q xs → All P (filter_map f xs)
each_had Q P f follows [] each = All-nil P
each_had {Y = Y} Q P f follows (x ∷ xs) each = here (f x) refl (each_had Q P f follows xs (All-tail Q x xs each))
  where
    here : (o : Option Y) → f x ≡ o → All P (filter_map f xs) → All P (cons_option o (filter_map f xs))
    here None e rest = rest
    here (Some y) e rest = All-cons P y (filter_map f xs) (follows x y (All-head Q x xs each) e) rest

-- the sum of the bits of some acts has just those
abbrev bits : Bool → Bool → Bool → Bool → Bool → ℕ
bits a b c d e =
    0 + (if a then 1 else 0) + (if b then 2 else 0) + (if c then 4 else 0) + (if d then 8 else 0) + (if e then 16 else 0)

abbrev bit_among : Act → Bool → Bool → Bool → Bool → Bool → Bool
bit_among Read a b c d e = a
bit_among Update a b c d e = b
bit_among Create a b c d e = c
bit_among Delete a b c d e = d
bit_among Share a b c d e = e

abbrev both : (Bool → Bool) → Bool
both test = test true && test false

of_both : (test : Bool → Bool) → both test ≡ true → (b : Bool) → test b ≡ true
of_both test is true = (and_parts (test true) (test false) is).0
of_both test is false = (and_parts (test true) (test false) is).1

of_five : (test : Bool → Bool → Bool → Bool → Bool → Bool)
    → both (λ a. both (λ b. both (λ c. both (λ d. both (λ e. test a b c d e))))) ≡ true
    → (a b c d e : Bool) → test a b c d e ≡ true
of_five test all a b c d =
    of_both (λ e. test a b c d e) (of_both (λ d. both (λ e. test a b c d e)) (of_both (λ c. both (λ d. both (λ e. test a b c d e)))
    (of_both (λ b. both (λ c. both (λ d. both (λ e. test a b c d e)))) (of_both (λ a. both (λ b. both (λ c. both (λ d. both (λ e. test a b c d e))))) all a) b) c) d)

abbrev same : Bool → Bool → Bool
same a b = if a then b else not b

same_is : (a b : Bool) → same a b ≡ true → a ≡ b
same_is true b is = sym is
same_is false true is = absurd (cc)
same_is false false is = refl

bits_have : (act : Act) (a b c d e : Bool) → has (bits a b c d e) act ≡ bit_among act a b c d e
bits_have act a b c d e = same_is (has (bits a b c d e) act) (bit_among act a b c d e) (here act a b c d e)
  where
    here : (act : Act) (a b c d e : Bool) → same (has (bits a b c d e) act) (bit_among act a b c d e) ≡ true
    here Read = of_five (λ a b c d e. same (has (bits a b c d e) Read) a) refl
    here Update = of_five (λ a b c d e. same (has (bits a b c d e) Update) b) refl
    here Create = of_five (λ a b c d e. same (has (bits a b c d e) Create) c) refl
    here Delete = of_five (λ a b c d e. same (has (bits a b c d e) Delete) d) refl
    here Share = of_five (λ a b c d e. same (has (bits a b c d e) Share) e) refl

grants_have : (now : ℕ) (grants : List Grant) (act : Act) → has (bits_by now grants) act ≡ list_any (allows now act) grants
grants_have now grants act = by_act act
  where
    granted : Act → Bool
    granted act = list_any (allows now act) grants

    by_act : (act : Act) → has (bits_by now grants) act ≡ granted act
    by_act Read = bits_have Read (granted Read) (granted Update) (granted Create) (granted Delete) (granted Share)
    by_act Update = bits_have Update (granted Read) (granted Update) (granted Create) (granted Delete) (granted Share)
    by_act Create = bits_have Create (granted Read) (granted Update) (granted Create) (granted Delete) (granted Share)
    by_act Delete = bits_have Delete (granted Read) (granted Update) (granted Create) (granted Delete) (granted Share)
    by_act Share = bits_have Share (granted Read) (granted Update) (granted Create) (granted Delete) (granted Share)

all_have : (act : Act) → has 31 act ≡ true
all_have Read = refl
all_have Update = refl
all_have Create = refl
all_have Delete = refl
all_have Share = refl

none_have : (act : Act) → has 0 act ≡ false
none_have Read = refl
none_have Update = refl
none_have Create = refl
none_have Delete = refl
none_have Share = refl

-- the node of a row is the seeker's own exactly where the row says so
own_is : (nodes : List NodeRow) (seeker : Seeker) (row : NodeRow) → node_row nodes row.id ≡ Some row
    → is_owner nodes seeker row.id ≡ is_ones_own seeker row
own_is nodes (User user) row there = ap (λ (o : Option NodeRow). option_map_or (λ row. row.owner == user) o false) there
own_is nodes (Link share) row there = refl

module _ (access : Access) (t : Tables) (seeker : Seeker) (now : ℕ) (act : Act) where
  abbrev granted : Option ℕ → Bool
  granted mount = option_map_or (λ shared. list_any (allows now act) (access seeker shared)) mount false

  granted_have : (mount : Option ℕ) → has (granted_by access seeker now mount) act ≡ granted mount
  granted_have None = none_have act
  granted_have (Some shared) = grants_have now (access seeker shared) act

  abbrev IsActs : Option ℕ → ListingLine → Type 0
  IsActs mount line = has line.permissions act ≡ may_by access t.nodes seeker now act line.id mount

  -- the line of a node has what the seeker may do by a mount, where it has that of what others own
  line_acts : (node granted_bits : ℕ) (mount : Option ℕ) (name : List ℕ) (row : NodeRow) (line : ListingLine) → node_row t.nodes node ≡ Some row
      → has granted_bits act ≡ granted mount → line_of t seeker granted_bits name row ≡ Some line → IsActs mount line
  line_acts node granted_bits mount name row line there grants is = here (user_row t.users row.owner) is
    where
      own : is_owner t.nodes seeker row.id ≡ is_ones_own seeker row
      own = own_is t.nodes seeker row (ap (node_row t.nodes) (row_id t.nodes node row there) ∙ there)

      by_owner : (b : Bool) → is_ones_own seeker row ≡ b → has (if b then 31 else granted_bits) act ≡ (b || granted mount)
      by_owner true e = all_have act
      by_owner false e = grants

      here : (o : Option UserRow) → option_map (λ owner. record {
        changed = row.changed;
        id = row.id;
        kind = row.kind;
        name = name;
        owner = owner.name;
        permissions = if is_ones_own seeker row then 31 else granted_bits;
        size = size_of t.nodes row.id;
      }) o ≡ Some line → IsActs mount line
      here None is = absurd (cc)
      here (Some owner) is =
          subst (IsActs mount) (same_Some _ line is)
          (by_owner (is_ones_own seeker row) refl ∙ ap (λ (b : Bool). b || granted mount) (sym own))

  child_acts : (mount : Option ℕ) (node : ℕ) (line : ListingLine) → child_line t seeker (granted_by access seeker now mount) node ≡ Some line
      → IsActs mount line
  child_acts mount node line is = here (node_row t.nodes node) refl is
    where
      here : (o : Option NodeRow) → node_row t.nodes node ≡ o
          → option_and_then (λ row. line_of t seeker (granted_by access seeker now mount) row.name row) o ≡ Some line → IsActs mount line
      here None e is = absurd (cc)
      here (Some row) e is = line_acts node (granted_by access seeker now mount) mount row.name row line e (granted_have mount) is

  line_id : (granted_bits : ℕ) (name : List ℕ) (row : NodeRow) (line : ListingLine) → line_of t seeker granted_bits name row ≡ Some line
      → line.id ≡ row.id
  line_id granted_bits name row line is = here (user_row t.users row.owner) is
    where
      here : (o : Option UserRow) → option_map (λ owner. record {
        changed = row.changed;
        id = row.id;
        kind = row.kind;
        name = name;
        owner = owner.name;
        permissions = if is_ones_own seeker row then 31 else granted_bits;
        size = size_of t.nodes row.id;
      }) o ≡ Some line → line.id ≡ row.id
      here None is = absurd (cc)
      here (Some owner) is = sym (ap (λ (line : ListingLine). line.id) (same_Some _ line is))

  -- of a mount of the seeker's
  mount_acts : (mount : MountRow) (line : ListingLine) → User mount.user ≡ seeker → mount_line access t now mount ≡ Some line
      → IsActs (Some line.id) line
  mount_acts mount line mine is = here (node_row t.nodes mount.node) refl is
    where
      here : (o : Option NodeRow) → node_row t.nodes mount.node ≡ o
          → option_and_then (line_of t (User mount.user) (bits_by now (access (User mount.user) mount.node)) mount.name) o ≡ Some line
          → IsActs (Some line.id) line
      here None e is = absurd (cc)
      here (Some row) e is =
          let given = bits_by now (access seeker mount.node) in
          let lined : line_of t seeker given mount.name row ≡ Some line =
          subst (λ (s : Seeker). line_of t s (bits_by now (access s mount.node)) mount.name row ≡ Some line) mine is in
          let id : line.id ≡ mount.node = line_id given mount.name row line lined ∙ row_id t.nodes mount.node row e in
          subst (λ (n : ℕ). IsActs (Some n) line) (sym id)
          (line_acts mount.node given (Some mount.node) mount.name row line e (grants_have now (access seeker mount.node) act) lined)

-- of all mounts that are listed; a link has none
mounts_act : (access : Access) (t : Tables) (seeker : Seeker) (now : ℕ) (act : Act)
    → All (λ (line : ListingLine). IsActs access t seeker now act (Some line.id) line) (mount_lines access t now seeker)
mounts_act access t (Link share) now act = All-nil (λ (line : ListingLine). IsActs access t (Link share) now act (Some line.id) line)
mounts_act access t (User user) now act =
    each_had (λ (row : MountRow). User row.user ≡ User user) (λ (line : ListingLine). IsActs access t (User user) now act (Some line.id) line)
    (mount_line access t now) (mount_acts access t (User user) now act) (listed access now t.mounts user)
    (λ k d within.
    let row : MountRow = get_or (listed access now t.mounts user) k d in
    let reached = list_any (is_open now) (access (User user) row.node) in
    let passes = and_parts (is_shown_to user row) reached
    (filter_passes (λ row. is_shown_to user row && list_any (is_open now) (access (User user) row.node)) t.mounts k d within) in
    ap User (eqb-true row.user user (and_parts (row.user == user) (not row.left) passes.0).0))

pub permissions_acts : PermissionsAreActs
permissions_acts = record {
  children = λ access t seeker now folder mount act.
      each_had (λ (node : ℕ). Unit {0}) (IsActs access t seeker now act mount) (child_line t seeker (granted_by access seeker now mount))
      (λ node line some is. child_acts access t seeker now act mount node line is) (children_of t.nodes folder) (λ k d within. tt);
  mounts = mounts_act;
}
