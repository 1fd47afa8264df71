-- What is counted of the rows is what the definitions say of the tables.
use Rattle.std.proofs.Common.{◌≡◌, ◌∙◌, ℕ, zero, suc, ◌+◌, ◌-◌, ◌*◌, ◌<◌, ◌≤◌, ◌++◌, All, List, [], ◌∷◌, Option, None, Some, map, length, get_or, take, refl, sym, ap, subst, arith, ne_eqb, eq-eqb}
use Rattle.std.specs.Prelude.{filter_map, option_to_list, sum_by}
use Rattle.std.specs.List.{cons_option}
use Rattle.std.proofs.lemmas.List.{take_more}
use Rattle.std.proofs.lemmas.List.Elements.{All-tail, filter_map-append}
use Rattle.std.proofs.lemmas.List.Sums.{sum_by-append}
use Rattle.nf_access.specs.Shares.{Ground, ground_of}
use Rattle.nf_base.specs.declared.limits.TheConstants.{MAX_SHARES}
use Rattle.nf_base.specs.declared.rows.NodeRow.{NodeRow}
use Rattle.nf_base.specs.declared.rows.Row.{Row}
use Rattle.nf_base.specs.declared.rows.Row.TheVariants as rows
use Rattle.nf_base.specs.declared.rows.UserRow.{UserRow}
use Rattle.nf_base.specs.declared.rows.VersionRow.{VersionRow}
use Rattle.nf_charge.specs.Sums.{bytes_under}
use Rattle.nf_charge.specs.Totals.{bytes_owned}
use Rattle.nf_defs.specs.Prelude.{IsRising, rows_of, Tables, user_key, user_row}
use Rattle.nf_defs.proofs.Puts.{below_one}
use Rattle.nf_view.proofs.Sizes.{root_charge, sum_is_size}
use Rattle.nf_view.proofs.TrashSums.{trashed_is}
use Rattle.nf_rules.specs.Ruled.{AreRuled}
use Rattle.nf_words.specs.Charges.{charge_of}
use Rattle.nf_words.specs.Sound.{AreSound}
use Rattle.nf_site.specs.Totals.{all_grants, all_totals, counted, counted_row, grants_by, grants_in, totals_of, trash_of}
use Rattle.nf_site.specs.declared.totals.UserTotals.{UserTotals}

-- ---- rows of the other kinds

none_of : {X A : Type 0} (f : Row → Option A) (g : X → Row) (xs : List X) → ((x : X) → f (g x) ≡ None) → filter_map f (map g xs) ≡ []
none_of f g [] none = refl
none_of f g (x ∷ xs) none = rw (none x) (none_of f g xs none)

none_more : {X A : Type 0} (f : Row → Option A) (g : X → Row) (xs : List X) (rest : List Row) → ((x : X) → f (g x) ≡ None)
    → filter_map f rest ≡ [] → filter_map f (map g xs ++ rest) ≡ []
none_more f g [] rest none right = right
none_more f g (x ∷ xs) rest none right = rw (none x) (none_more f g xs rest none right)

zeros : {X : Type 0} (f : Row → ℕ) (g : X → Row) (xs : List X) → ((x : X) → f (g x) ≡ 0) → sum_by f (map g xs) ≡ 0
zeros f g [] none = refl
zeros f g (x ∷ xs) none = sum_by-append f (g x ∷ []) (map g xs) ∙ omega (arith, none x, zeros f g xs none)

zero_more : {X : Type 0} (f : Row → ℕ) (g : X → Row) (xs : List X) (rest : List Row) → ((x : X) → f (g x) ≡ 0)
    → sum_by f rest ≡ 0 → sum_by f (map g xs ++ rest) ≡ 0
zero_more f g xs rest none right = omega (arith, sum_by-append f (map g xs) rest, zeros f g xs none, right)

-- the rows from a kind on
abbrev from_chunks : Tables → List Row
from_chunks t = map rows.Chunk t.chunks

abbrev from_uploads : Tables → List Row
from_uploads t = map rows.Upload t.uploads ++ from_chunks t

abbrev from_items : Tables → List Row
from_items t = map rows.Item t.items ++ from_uploads t

abbrev from_versions : Tables → List Row
from_versions t = map rows.Version t.versions ++ from_items t

abbrev from_mounts : Tables → List Row
from_mounts t = map rows.Mount t.mounts ++ from_versions t

abbrev from_shares : Tables → List Row
from_shares t = map rows.Share t.shares ++ from_mounts t

abbrev from_nodes : Tables → List Row
from_nodes t = map rows.Node t.nodes ++ from_shares t

abbrev from_members : Tables → List Row
from_members t = map rows.Member t.members ++ from_nodes t

abbrev from_groups : Tables → List Row
from_groups t = map rows.Group t.groups ++ from_members t

abbrev from_tokens : Tables → List Row
from_tokens t = map rows.Token t.tokens ++ from_groups t

-- ---- those of users

users_counted : (nodes : List NodeRow) (versions : List VersionRow) (users : List UserRow)
    → filter_map (counted_row nodes versions) (map rows.User users) ≡ map (counted nodes versions) users
users_counted nodes versions [] = refl
users_counted nodes versions (user ∷ users) = ap (λ l. counted nodes versions user ∷ l) (users_counted nodes versions users)

pub rows_counted : (t : Tables) → filter_map (counted_row t.nodes t.versions) (rows_of t) ≡ map (counted t.nodes t.versions) t.users
rows_counted t =
    let f = counted_row t.nodes t.versions in
    let rest : filter_map f (from_tokens t) ≡ [] = none_more f rows.Token t.tokens (from_groups t) (λ x. refl)
    (none_more f rows.Group t.groups (from_members t) (λ x. refl)
    (none_more f rows.Member t.members (from_nodes t) (λ x. refl)
    (none_more f rows.Node t.nodes (from_shares t) (λ x. refl)
    (none_more f rows.Share t.shares (from_mounts t) (λ x. refl)
    (none_more f rows.Mount t.mounts (from_versions t) (λ x. refl)
    (none_more f rows.Version t.versions (from_items t) (λ x. refl)
    (none_more f rows.Item t.items (from_uploads t) (λ x. refl)
    (none_more f rows.Upload t.uploads (from_chunks t) (λ x. refl)
    (none_of f rows.Chunk t.chunks (λ x. refl)))))))))) in
    filter_map-append f (map rows.User t.users) (from_tokens t) ∙ ap (λ l. filter_map f (map rows.User t.users) ++ l) rest
    ∙ no_end (filter_map f (map rows.User t.users)) ∙ users_counted t.nodes t.versions t.users
  where
    no_end : (l : List UserTotals) → l ++ [] ≡ l
    no_end [] = refl
    no_end (x ∷ l) = ap (λ m. x ∷ m) (no_end l)

grants_counted : (base : Ground) (nodes : List NodeRow) (users : List UserRow)
    → sum_by (grants_by base nodes) (map rows.User users) ≡ sum_by (λ user. grants_in base nodes user.id) users
grants_counted base nodes [] = refl
grants_counted base nodes (user ∷ users) =
    sum_by-append (grants_by base nodes) (rows.User user ∷ []) (map rows.User users)
    ∙ omega (arith, grants_counted base nodes users, sum_by-append (λ (u : UserRow). grants_in base nodes u.id) (user ∷ []) users)

pub rows_granted : (t : Tables) → sum_by (grants_by (ground_of t) t.nodes) (rows_of t) ≡ all_grants t
rows_granted t =
    let f = grants_by (ground_of t) t.nodes in
    let rest : sum_by f (from_tokens t) ≡ 0 = zero_more f rows.Token t.tokens (from_groups t) (λ x. refl)
    (zero_more f rows.Group t.groups (from_members t) (λ x. refl)
    (zero_more f rows.Member t.members (from_nodes t) (λ x. refl)
    (zero_more f rows.Node t.nodes (from_shares t) (λ x. refl)
    (zero_more f rows.Share t.shares (from_mounts t) (λ x. refl)
    (zero_more f rows.Mount t.mounts (from_versions t) (λ x. refl)
    (zero_more f rows.Version t.versions (from_items t) (λ x. refl)
    (zero_more f rows.Item t.items (from_uploads t) (λ x. refl)
    (zero_more f rows.Upload t.uploads (from_chunks t) (λ x. refl)
    (zeros f rows.Chunk t.chunks (λ x. refl)))))))))) in
    omega (
      arith,
      sum_by-append f (rows.Meta t.meta ∷ []) (map rows.User t.users ++ from_tokens t),
      sum_by-append f (map rows.User t.users) (from_tokens t),
      rest,
      grants_counted (ground_of t) t.nodes t.users,
    )

-- ---- a user's

-- where the numbers rise, each row is found by its own
user_row_each : (users : List UserRow) → IsRising user_key users → All (λ (row : UserRow). user_row users row.id ≡ Some row) users
user_row_each [] rising k d within = absurd (omega arith)
user_row_each (x ∷ users) rising zero d within = rw (eq-eqb x.id x.id refl) refl
user_row_each (x ∷ users) rising (suc k) d within =
    let below : x.id < (get_or users k d).id = below_one x.id (get_or users k d).id (rising 0 (suc k) d (omega arith) within) in
    rw (ne_eqb x.id (get_or users k d).id (λ e. absurd (omega arith)))
    (user_row_each users (λ i j d before within. rising (suc i) (suc j) d (omega arith) (omega arith)) k d (omega arith))

counted_is : (t : Tables) (user : UserRow) → AreSound t → user_row t.users user.id ≡ Some user → counted t.nodes t.versions user ≡ totals_of t user
counted_is t user sound there =
    let charge : bytes_under t.nodes user.root ≡ charge_of t user.id = sum_is_size t user.root sound ∙ root_charge t user.id user sound there in
    let trash : bytes_owned t.nodes user.id - bytes_under t.nodes user.root ≡ trash_of t user.id =
    omega (arith, charge, trashed_is t user.id sound) in
    cc (charge, trash)

same_all : (f g : UserRow → UserTotals) (users : List UserRow) → All (λ (user : UserRow). f user ≡ g user) users → map f users ≡ map g users
same_all f g [] same = refl
same_all f g (user ∷ users) same =
    ap (λ x. x ∷ map f users) (same 0 user (omega arith)) ∙ ap (λ l. g user ∷ l) (same_all f g users (All-tail (λ (u : UserRow). f u ≡ g u) user users same))

pub counted_are : (t : Tables) → AreSound t → AreRuled t → filter_map (counted_row t.nodes t.versions) (rows_of t) ≡ all_totals t
counted_are t sound ruled =
    let each = user_row_each t.users ruled.ordered.rising.users in
    rows_counted t ∙ same_all (counted t.nodes t.versions) (totals_of t) t.users (λ k d within. counted_is t (get_or t.users k d) sound (each k d within))

-- ---- of parts that are those of the tables

pub users_told : (nodes : List NodeRow) (versions : List VersionRow) (list : List Row) (t : Tables) → nodes ≡ t.nodes → versions ≡ t.versions
    → list ≡ rows_of t → AreSound t → AreRuled t → filter_map (counted_row nodes versions) list ≡ all_totals t
users_told nodes versions list t same_nodes same_versions same_rows sound ruled =
    ap (filter_map (counted_row nodes versions)) same_rows
    ∙ (ap (λ n. filter_map (counted_row n versions) (rows_of t)) same_nodes
    ∙ (ap (λ v. filter_map (counted_row t.nodes v) (rows_of t)) same_versions ∙ counted_are t sound ruled))

pub grants_told : (base : Ground) (nodes : List NodeRow) (list : List Row) (t : Tables) → base ≡ ground_of t → nodes ≡ t.nodes
    → list ≡ rows_of t → sum_by (grants_by base nodes) list ≡ all_grants t
grants_told base nodes list t same_ground same_nodes same_rows =
    ap (sum_by (grants_by base nodes)) same_rows
    ∙ (ap (λ n. sum_by (grants_by base n) (rows_of t)) same_nodes
    ∙ (ap (λ g. sum_by (grants_by g t.nodes) (rows_of t)) same_ground ∙ rows_granted t))

pub few_told : (base : Ground) (t : Tables) → base ≡ ground_of t → AreSound t → length base.shares ≤ MAX_SHARES
few_told base t same sound = subst (λ (g : Ground). length g.shares ≤ MAX_SHARES) (sym same) sound.others.few_shares

-- ---- one row more

one_kept : {A : Type 0} (o : Option A) → option_to_list o ≡ cons_option o []
one_kept None = refl
one_kept (Some a) = refl

sum_one : (h : Row → ℕ) (r : Row) → sum_by h (r ∷ []) ≡ h r
sum_one h r = omega arith

bound_more : (bound at grants more : ℕ) → more ≤ bound → grants ≤ bound * at → grants + more ≤ bound * (at + 1)
bound_more bound at grants more few so = grind arith

-- with what one row says
pub more_row : (nodes : List NodeRow) (versions : List VersionRow) (base : Ground) (list : List Row) (at : ℕ) (row : Row)
    (users later : List UserTotals) (grants after bound : ℕ) → at < length list → row ≡ get_or list at row
    → later ≡ users ++ option_to_list (counted_row nodes versions row) → after ≡ grants + grants_by base nodes row
    → grants_by base nodes row ≤ bound
    → (users ≡ filter_map (counted_row nodes versions) (take at list)) × (grants ≡ sum_by (grants_by base nodes) (take at list)) × (grants ≤ bound * at)
    → (later ≡ filter_map (counted_row nodes versions) (take (at + 1) list))
    × (after ≡ sum_by (grants_by base nodes) (take (at + 1) list)) × (after ≤ bound * (at + 1))
more_row nodes versions base list at row users later grants after bound less is later_is after_is few so =
    let f = counted_row nodes versions in
    let h = grants_by base nodes in
    let next : take (at + 1) list ≡ take at list ++ row ∷ [] = take_more list at row less ∙ ap (λ (r : Row). take at list ++ r ∷ []) (sym is) in (
      later_is ∙ (ap (λ l. l ++ option_to_list (f row)) so.0 ∙ (ap (λ l. filter_map f (take at list) ++ l) (one_kept (f row))
          ∙ (sym (filter_map-append f (take at list) (row ∷ [])) ∙ ap (filter_map f) (sym next)))),
      omega (arith, so.1, after_is, ap (sum_by h) next, sum_by-append h (take at list) (row ∷ []), sum_one h row),
      omega (arith, after_is, bound_more bound at grants (grants_by base nodes row) few so.2),
    )
