-- A lean list of changed rows that isn't empty makes other tables.
use Rattle.std.proofs.Common.{◌≡◌, ◌≢◌, ◌⊎◌, inl, inr, ℕ, suc, ◌==◌, ◌&&◌, ◌||◌, ◌<◌, not, Bool, true, false, List, [], ◌∷◌, Option, Some, bytes_eq, filter, find, if◌then◌else◌, option_map, refl, sym, ap, subst, ◌∙◌, arith}
use Rattle.std.specs.Prelude.{is_some, None}
use Rattle.std.specs.List.{All, list_any}
use Rattle.std.proofs.lemmas.Bool.{and_from, and_parts, both_ways, cases_Bool, cond_both, eq-eqb, eqb-true, false_from_ne_true, not_from_false}
use Rattle.std.proofs.lemmas.List.Elements.{All-head, All-tail, All-cons, All-weaker}
use Rattle.std.proofs.lemmas.Option.{same_Some, none-some}
use Rattle.std.proofs.lemmas.Slice.Eq.{bytes_eq-Decides}
use Rattle.nf_access.specs.Mounts.{mount_row}
use Rattle.nf_access.specs.Shares.{share_row}
use Rattle.nf_base.specs.declared.changes.Change.{Change}
use Rattle.nf_base.specs.declared.changes.Change.TheVariants.{Drop, Put}
use Rattle.nf_base.specs.declared.changes.RowKey.{RowKey}
use Rattle.nf_base.specs.declared.changes.RowKey.TheVariants as keys
use Rattle.nf_base.specs.declared.rows.GroupRow.{GroupRow}
use Rattle.nf_base.specs.declared.rows.MemberRow.{MemberRow}
use Rattle.nf_base.specs.declared.rows.MetaRow.{MetaRow}
use Rattle.nf_base.specs.declared.rows.MountRow.{MountRow}
use Rattle.nf_base.specs.declared.rows.NodeRow.{NodeRow}
use Rattle.nf_base.specs.declared.rows.Row.TheVariants as rows
use Rattle.nf_base.specs.declared.rows.ShareRow.{ShareRow}
use Rattle.nf_base.specs.declared.rows.TokenRow.{TokenRow}
use Rattle.nf_base.specs.declared.rows.ChunkRow.{ChunkRow}
use Rattle.nf_base.specs.declared.rows.UploadRow.{UploadRow}
use Rattle.nf_base.specs.declared.rows.UserRow.{UserRow}
use Rattle.nf_defs.specs.Prelude.{chunk_key, dropped, group_row, made, member_key, node_key, node_row, put, put_all, Tables, token_key, upload_key, user_row, with_node, by_order, IsRising, key_cmp, version_key}
use Rattle.nf_laws.proofs.Lists.{AreBuilt, IsBuilt, IsMounting, KnownShare, Rising, only_built}
use Rattle.nf_laws.proofs.Puts.{number_found, other_number, put_changed, put_other}
use Rattle.nf_laws.proofs.Rows.{found_is}
use Rattle.nf_laws.proofs.Sent.{chunk_again, chunk_keyed, chunk_of, chunk_parts, same_name, upload_of}
use Rattle.nf_words.proofs.Asks.{share_found}
use Rattle.nf_words.proofs.Chunked.{chunk_found, upload_found}
use Rattle.nf_words.proofs.Fits.{KnownRow, KnownRows, no_more, one_more, put_found, user_more}
use Rattle.nf_words.proofs.Found.{put_is_found, put_leaves}
use Rattle.nf_words.proofs.Mounting.{mount_found, mount_left_so, not_mount}
use Rattle.nf_words.proofs.Provided.{none_left}
use Rattle.nf_words.specs.Prelude.{changed_key, chunk_row, is_chunk_of, IsLean, IsNewGroup, IsNewUpload, IsNewUser, IsOfPeople, IsTouched, upload_row, version_row}
use Rattle.nf_base.specs.declared.rows.VersionRow.{VersionRow}
use Rattle.nf_defs.proofs.Puts.{below_rest, key_total, tail_rising}
use Rattle.nf_defs.proofs.Lookups.{equal_bytes}
use Rattle.std.proofs.lemmas.Cmp.{tied_itself}
use Rattle.std.specs.declared.cmp.Ordering.{Ordering}
use Rattle.std.specs.declared.cmp.Ordering.TheVariants.{Equal, Greater, Less}
use Rattle.nf_words.proofs.Forgetting.{version_gone}

-- ---- rows of other keys

-- what each row of another key leaves, a list of such rows leaves
all_leave : {X : Type 0} (of : Tables → X) (key : RowKey)
    → ((t : Tables) (change : Change) → IsBuilt change → key ≢ changed_key change → of (made t change) ≡ of t)
    → (t : Tables) (changes : List Change) → AreBuilt changes → All (λ (change : Change). key ≢ changed_key change) changes
    → of (put_all t changes) ≡ of t
all_leave of key leaves t [] built other = refl
all_leave of key leaves t (change ∷ changes) built other =
    let Other : Change → Type 0 = λ change. key ≢ changed_key change in
    all_leave of key leaves (made t change) changes built.1 (All-tail Other change changes other)
    ∙ leaves t change built.0 (All-head Other change changes other)

-- so where the first of them is seen, it is seen after all
seen_moves : {X : Type 0} (of : Tables → X) (t : Tables) (change : Change) (changes : List Change)
    → ((t : Tables) (other : Change) → IsBuilt other → changed_key change ≢ changed_key other → of (made t other) ≡ of t)
    → AreBuilt changes → IsLean t (change ∷ changes) → of (made t change) ≢ of t → put_all t (change ∷ changes) ≢ t
seen_moves of t change changes leaves built lean differs same =
    differs (sym (all_leave of (changed_key change) leaves (made t change) changes built
    (λ k d within. lean.once 0 (suc k) d (omega arith) (omega arith))) ∙ ap of same)

node_left : (id : ℕ) (t : Tables) (change : Change) → IsBuilt change → keys.Node id ≢ changed_key change
    → node_row (made t change).nodes id ≡ node_row t.nodes id
node_left id t (Put (rows.Node row)) built differs = put_other row t.nodes id (λ same. differs (ap keys.Node same))
node_left id t (Drop (keys.Node other)) built differs = absurd built
node_left id t change built differs = refl

user_left : (id : ℕ) (t : Tables) (change : Change) → IsBuilt change → keys.User id ≢ changed_key change
    → user_row (made t change).users id ≡ user_row t.users id
user_left id t (Put (rows.User row)) built differs = other_number (λ (r : UserRow). r.id) row t.users id (λ same. differs (ap keys.User same))
user_left id t (Drop (keys.User other)) built differs = absurd built
user_left id t change built differs = refl

group_left : (id : ℕ) (t : Tables) (change : Change) → IsBuilt change → keys.Group id ≢ changed_key change
    → group_row (made t change).groups id ≡ group_row t.groups id
group_left id t (Put (rows.Group row)) built differs = other_number (λ (r : GroupRow). r.id) row t.groups id (λ same. differs (ap keys.Group same))
group_left id t (Drop (keys.Group other)) built differs = absurd built
group_left id t change built differs = refl

share_left : (id : ℕ) (t : Tables) (change : Change) → IsBuilt change → keys.Share id ≢ changed_key change
    → share_row (made t change).shares id ≡ share_row t.shares id
share_left id t (Put (rows.Share row)) built differs = other_number (λ (r : ShareRow). r.id) row t.shares id (λ same. differs (ap keys.Share same))
share_left id t (Drop (keys.Share other)) built differs = absurd built
share_left id t change built differs = refl

mount_left : (user node : ℕ) (t : Tables) (change : Change) → IsBuilt change → keys.Mount user node ≢ changed_key change
    → mount_row (made t change).mounts user node ≡ mount_row t.mounts user node
mount_left user node t (Put (rows.Mount row)) built differs =
    mount_left_so row t.mounts user node (not_mount row user node (λ a b.
    differs (ap (λ (n : ℕ). keys.Mount n node) (sym a) ∙ ap (keys.Mount row.user) (sym b))))
mount_left user node t (Drop (keys.Mount other of)) built differs = absurd built
mount_left user node t change built differs = refl

-- ---- tokens

abbrev pub token_row : List TokenRow → List ℕ → Option TokenRow
token_row tokens digest = find (λ row. bytes_eq row.digest digest) tokens

token_found : (row : TokenRow) (tokens : List TokenRow) → token_row (put token_key row tokens) row.digest ≡ Some row
token_found row tokens =
    put_is_found token_key (λ (x : TokenRow). bytes_eq x.digest row.digest) row tokens ((bytes_eq-Decides row.digest row.digest).1 refl)
    (λ x same. (bytes_eq-Decides x.digest row.digest).0 same)

token_left : (digest : List ℕ) (t : Tables) (change : Change) → IsBuilt change → keys.Token digest ≢ changed_key change
    → token_row (made t change).tokens digest ≡ token_row t.tokens digest
token_left digest t (Put (rows.Token row)) built differs =
    put_leaves token_key (λ (x : TokenRow). bytes_eq x.digest digest) row t.tokens (off row refl) (λ x same. off x same)
  where
    off : (x : TokenRow) → row.digest ≡ x.digest → bytes_eq x.digest digest ≡ false
    off x same =
        false_from_ne_true (bytes_eq x.digest digest) (λ is.
        differs (ap keys.Token (sym (same ∙ (bytes_eq-Decides x.digest digest).0 is))))
token_left digest t (Drop (keys.Token other)) built differs = absurd built
token_left digest t change built differs = refl

-- ---- members

abbrev is_row_of : ℕ → ℕ → MemberRow → Bool
is_row_of group user row = row.group == group && row.user == user

abbrev pub member_row : List MemberRow → ℕ → ℕ → Option MemberRow
member_row members group user = find (is_row_of group user) members

-- a test that one of some passes finds it
pub any_found : {X : Type 0} (test : X → Bool) (xs : List X) → list_any test xs ≡ is_some (find test xs)
any_found test [] = refl
any_found {X = X} test (x ∷ xs) = here (test x) (any_found test xs)
  where
    here : (b : Bool) → list_any test xs ≡ is_some (find test xs) → (b || list_any test xs) ≡ is_some (if b then Some x else find test xs)
    here true rest = refl
    here false rest = rest

not_row : (row : MemberRow) (group user : ℕ) → (row.group ≡ group → row.user ≡ user → ⊥) → is_row_of group user row ≡ false
not_row row group user other =
    false_from_ne_true (is_row_of group user row) (λ is.
    let parts = and_parts (row.group == group) (row.user == user) is in
    other (eqb-true row.group group parts.0) (eqb-true row.user user parts.1))

two_first : {a b c d : ℕ} → a ∷ b ∷ [] ≡ c ∷ d ∷ [] → a ≡ c
two_first same = cc

two_second : {a b c d : ℕ} → a ∷ b ∷ [] ≡ c ∷ d ∷ [] → b ≡ d
two_second same = cc

row_key : (row : MemberRow) (group user : ℕ) → is_row_of group user row ≡ true → member_key row ≡ group ∷ user ∷ []
row_key row group user is =
    let parts = and_parts (row.group == group) (row.user == user) is in
    ap (λ (n : ℕ). n ∷ row.user ∷ []) (eqb-true row.group group parts.0) ∙ ap (λ (n : ℕ). group ∷ n ∷ []) (eqb-true row.user user parts.1)

member_found : (row : MemberRow) (members : List MemberRow) → member_row (put member_key row members) row.group row.user ≡ Some row
member_found row members =
    put_is_found member_key (is_row_of row.group row.user) row members
    (and_from (row.group == row.group) (row.user == row.user) (eq-eqb row.group row.group refl) (eq-eqb row.user row.user refl))
    (λ x same. row_key x row.group row.user same)

-- what is found among some is found among those that keep all that pass
find_kept : {X : Type 0} (test keep : X → Bool) (xs : List X) → ((x : X) → test x ≡ true → keep x ≡ true) → find test (filter keep xs) ≡ find test xs
find_kept test keep [] kept = refl
find_kept {X = X} test keep (x ∷ xs) kept =
    elim (cases_Bool (keep x)) [
      | inl e ↦ simp e (ap (λ (o : Option X). if test x then Some x else o) (find_kept test keep xs kept))
      | inr e ↦
          (let off : test x ≡ false = false_from_ne_true (test x) (λ is. both_ways (keep x) e (kept x is)) in
          simp (e, off) (find_kept test keep xs kept))
    ]

member_left : (group user : ℕ) (t : Tables) (change : Change) → IsBuilt change → keys.Member group user ≢ changed_key change
    → member_row (made t change).members group user ≡ member_row t.members group user
member_left group user t (Put (rows.Member row)) built differs =
    put_leaves member_key (is_row_of group user) row t.members (off row refl) (λ x same. off x same)
  where
    off : (x : MemberRow) → member_key row ≡ member_key x → is_row_of group user x ≡ false
    off x same =
        not_row x group user (λ a b.
        differs (ap (λ (n : ℕ). keys.Member n user) (sym (two_first same ∙ a)) ∙ ap (keys.Member row.group) (sym (two_second same ∙ b))))
member_left group user t (Drop (keys.Member of who)) built differs =
    find_kept (is_row_of group user) (λ row. not (bytes_eq (of ∷ who ∷ []) (member_key row))) t.members (λ row is.
    not_from_false (bytes_eq (of ∷ who ∷ []) (member_key row)) (false_from_ne_true (bytes_eq (of ∷ who ∷ []) (member_key row)) (λ same.
    let keyed = (bytes_eq-Decides (of ∷ who ∷ []) (member_key row)).0 same ∙ row_key row group user is in
    differs (ap (λ (n : ℕ). keys.Member n user) (sym (two_first keyed)) ∙ ap (keys.Member of) (sym (two_second keyed))))))
member_left group user t change built differs = refl

-- a row that is there already changes nothing where it is put
row_again : {R : Type 0} (key : R → List ℕ) (sought : R → Bool) (row : R) (rows : List R) → ((x : R) → sought x ≡ true → key x ≡ key row)
    → ((x : R) → key x ≡ key row → sought x ≡ true) → IsRising key rows → find sought rows ≡ Some row → put key row rows ≡ rows
row_again key sought row [] keyed passes rising there = absurd (none-some row there)
row_again {R = R} key sought row (x ∷ rows) keyed passes rising there =
    here (key_cmp (key row) (key x)) refl (sought x) refl there
    (λ found. row_again key sought row rows keyed passes (tail_rising key x rows rising) found)
  where
    never : key_cmp (key row) (key x) ≡ Less → ⊥
    never less =
        let Above : R → Type 0 = λ y. key_cmp (key row) (key y) ≡ Less in
        let all : All Above (x ∷ rows) =
        All-cons Above x rows less
        (All-weaker (λ (y : R). key_cmp (key x) (key y) ≡ Less) Above (λ y below. key_total.trans (key row) (key x) (key y) less below) rows
        (below_rest key x rows rising)) in
        let equal = tied_itself key_total (key row) in
        let itself = (found_is Above sought (x ∷ rows) row all there).1 in cc

    here : (o : Ordering) → key_cmp (key row) (key x) ≡ o → (b : Bool) → sought x ≡ b → (if b then Some x else find sought rows) ≡ Some row
        → (find sought rows ≡ Some row → put key row rows ≡ rows)
        → by_order o (row ∷ x ∷ rows) (row ∷ rows) (x ∷ put key row rows) ≡ x ∷ rows
    here Less e b is found rest = absurd (never e)
    here Equal e true is found rest = ap (λ (y : R). y ∷ rows) (sym (same_Some x row found))
    here Equal e false is found rest =
        let same : key row ≡ key x = (bytes_eq-Decides (key row) (key x)).0 (equal_bytes (key row) (key x) Equal e) in
        absurd (both_ways (sought x) is (passes x (sym same)))
    here Greater e true is found rest = let equal = ap (key_cmp (key row)) (keyed x is) ∙ tied_itself key_total (key row) in absurd (cc)
    here Greater e false is found rest = ap (λ (all : List R). x ∷ all) (rest found)

-- ---- versions

abbrev is_version_of : ℕ → ℕ → VersionRow → Bool
is_version_of node at row = row.node == node && row.at == at

version_keyed : (row : VersionRow) (node at : ℕ) → is_version_of node at row ≡ true → version_key row ≡ node ∷ at ∷ []
version_keyed row node at is =
    let parts = and_parts (row.node == node) (row.at == at) is in
    ap (λ (n : ℕ). n ∷ row.at ∷ []) (eqb-true row.node node parts.0) ∙ ap (λ (n : ℕ). node ∷ n ∷ []) (eqb-true row.at at parts.1)

is_itself : (row : VersionRow) → is_version_of row.node row.at row ≡ true
is_itself row = and_from (row.node == row.node) (row.at == row.at) (eq-eqb row.node row.node refl) (eq-eqb row.at row.at refl)

version_found : (row : VersionRow) (versions : List VersionRow) → version_row (put version_key row versions) row.node row.at ≡ Some row
version_found row versions =
    put_is_found version_key (is_version_of row.node row.at) row versions (is_itself row) (λ x same. version_keyed x row.node row.at same)

version_left : (node at : ℕ) (t : Tables) (change : Change) → IsBuilt change → keys.Version node at ≢ changed_key change
    → version_row (made t change).versions node at ≡ version_row t.versions node at
version_left node at t (Put (rows.Version row)) built differs =
    put_leaves version_key (is_version_of node at) row t.versions (off row refl) (λ x same. off x same)
  where
    off : (x : VersionRow) → version_key row ≡ version_key x → is_version_of node at x ≡ false
    off x same =
        false_from_ne_true (is_version_of node at x) (λ is.
        let keyed = same ∙ version_keyed x node at is in
        differs (ap (λ (n : ℕ). keys.Version n at) (sym (two_first keyed)) ∙ ap (keys.Version row.node) (sym (two_second keyed))))
version_left node at t (Drop (keys.Version of moment)) built differs =
    find_kept (is_version_of node at) (λ row. not (bytes_eq (of ∷ moment ∷ []) (version_key row))) t.versions (λ row is.
    not_from_false (bytes_eq (of ∷ moment ∷ []) (version_key row)) (false_from_ne_true (bytes_eq (of ∷ moment ∷ []) (version_key row)) (λ same.
    let keyed = (bytes_eq-Decides (of ∷ moment ∷ []) (version_key row)).0 same ∙ version_keyed row node at is in
    differs (ap (λ (n : ℕ). keys.Version n at) (sym (two_first keyed)) ∙ ap (keys.Version of) (sym (two_second keyed))))))
version_left node at t change built differs = refl

version_again : (row : VersionRow) (versions : List VersionRow) → IsRising version_key versions → version_row versions row.node row.at ≡ Some row
    → put version_key row versions ≡ versions
version_again row versions =
    row_again version_key (is_version_of row.node row.at) row versions (λ x passes. version_keyed x row.node row.at passes)
    (λ x same. and_from (x.node == row.node) (x.at == row.at) (eq-eqb x.node row.node (two_first same)) (eq-eqb x.at row.at (two_second same)))

version_moved : (t : Tables) (row : VersionRow) → IsRising version_key t.versions → made t (Put (rows.Version row)) ≢ t
    → version_row (put version_key row t.versions) row.node row.at ≢ version_row t.versions row.node row.at
version_moved t row rising differs same =
    differs (ap (λ (all : List VersionRow). record t { versions = all })
    (version_again row t.versions rising (sym same ∙ version_found row t.versions)))

-- where there is none of a key, nothing is dropped
version_none : (versions : List VersionRow) (node at : ℕ) → version_row versions node at ≡ None
    → dropped version_key (node ∷ at ∷ []) versions ≡ versions
version_none [] node at none = refl
version_none (x ∷ versions) node at none =
    elim (cases_Bool (is_version_of node at x)) [
      | inl e ↦ absurd (none-some x (sym none ∙ simp e refl))
      | inr e ↦
          (let off : bytes_eq (node ∷ at ∷ []) (version_key x) ≡ false =
          false_from_ne_true (bytes_eq (node ∷ at ∷ []) (version_key x)) (λ same.
          let key = sym ((bytes_eq-Decides (node ∷ at ∷ []) (version_key x)).0 same) in
          both_ways (is_version_of node at x) e
          (and_from (x.node == node) (x.at == at) (eq-eqb x.node node (two_first key)) (eq-eqb x.at at (two_second key)))) in
          simp off (ap (λ (all : List VersionRow). x ∷ all) (version_none versions node at (simp e at none))))
    ]

version_dropped : (t : Tables) (node at : ℕ) → made t (Drop (keys.Version node at)) ≢ t
    → version_row (dropped version_key (node ∷ at ∷ []) t.versions) node at ≢ version_row t.versions node at
version_dropped t node at differs same =
    differs (ap (λ (all : List VersionRow). record t { versions = all })
    (version_none t.versions node at (sym same ∙ version_gone t.versions node at)))

-- ---- uploads and chunks

upload_left : (user : ℕ) (dir : List ℕ) (t : Tables) (change : Change) → IsBuilt change → keys.Upload user dir ≢ changed_key change
    → upload_row (made t change).uploads user dir ≡ upload_row t.uploads user dir
upload_left user dir t (Put (rows.Upload row)) built differs =
    put_leaves upload_key (λ (x : UploadRow). x.user == user && bytes_eq x.dir dir) row t.uploads (off row refl refl)
    (λ x same. let of = same_name row.user x.user row.dir x.dir same in off x (sym of.0) (sym of.1))
  where
    off : (x : UploadRow) → x.user ≡ row.user → x.dir ≡ row.dir → (x.user == user && bytes_eq x.dir dir) ≡ false
    off x own named =
        false_from_ne_true (x.user == user && bytes_eq x.dir dir) (λ is.
        let of = upload_of user dir x is in
        differs (ap (λ (n : ℕ). keys.Upload n dir) (sym of.0 ∙ own) ∙ ap (keys.Upload row.user) (sym of.1 ∙ named)))
upload_left user dir t (Drop (keys.Upload other name)) built differs = absurd built
upload_left user dir t change built differs = refl

upload_anew : (t : Tables) (row : UploadRow) → IsNewUpload t row ⊎ IsTouched t row → upload_row t.uploads row.user row.dir ≢ Some row
upload_anew t row (inl is) = λ same. none-some row (sym is.fresh ∙ same)
upload_anew t row (inr is) = λ same. is.other (same_Some row is.old (sym same ∙ is.there))

chunk_left : (user : ℕ) (dir : List ℕ) (number : ℕ) (t : Tables) (change : Change) → IsBuilt change → keys.Chunk user dir number ≢ changed_key change
    → chunk_row (made t change).chunks user dir number ≡ chunk_row t.chunks user dir number
chunk_left user dir number t (Put (rows.Chunk row)) built differs =
    put_leaves chunk_key (λ (x : ChunkRow). is_chunk_of user dir x && x.number == number) row t.chunks (off row refl)
    (λ x same. off x (sym same))
  where
    off : (x : ChunkRow) → chunk_key x ≡ chunk_key row → (is_chunk_of user dir x && x.number == number) ≡ false
    off x same =
        false_from_ne_true (is_chunk_of user dir x && x.number == number) (λ is.
        let of = chunk_of user dir number x is in
        let key = chunk_parts x row same in
        differs (ap (λ (n : ℕ). keys.Chunk n dir number) (sym of.0 ∙ key.0) ∙ ap (λ (name : List ℕ). keys.Chunk row.user name number) (sym of.1.0 ∙ key.1.0)
        ∙ ap (keys.Chunk row.user row.dir) (sym of.1.1 ∙ key.1.1)))
chunk_left user dir number t (Drop (keys.Chunk other name at)) built differs = absurd built
chunk_left user dir number t change built differs = refl

chunk_moved : (t : Tables) (row : ChunkRow) → IsRising chunk_key t.chunks → made t (Put (rows.Chunk row)) ≢ t
    → chunk_row (put chunk_key row t.chunks) row.user row.dir row.number ≢ chunk_row t.chunks row.user row.dir row.number
chunk_moved t row rising differs same =
    differs (ap (λ (all : List ChunkRow). record t { chunks = all })
    (row_again chunk_key (λ (x : ChunkRow). is_chunk_of row.user row.dir x && x.number == row.number) row t.chunks (λ x passes. chunk_keyed row x passes)
    (λ x equal. chunk_again row x equal) rising (sym same ∙ chunk_found row t.chunks)))

-- ---- what is known wasn't there so

same_rows : (nodes : List NodeRow) (node : ℕ) → with_node nodes node (λ row. row) ≡ nodes
same_rows [] node = refl
same_rows (x ∷ nodes) node =
    cond_both (x.id == node) (x ∷ nodes) (x ∷ with_node nodes node (λ row. row)) (λ made. made ≡ x ∷ nodes) (λ e. refl)
    (λ e. ap (λ (all : List NodeRow). x ∷ all) (same_rows nodes node))

node_moved : (t : Tables) (row : NodeRow) → Rising t.nodes → made t (Put (rows.Node row)) ≢ t
    → node_row (put node_key row t.nodes) row.id ≢ node_row t.nodes row.id
node_moved t row rising differs same =
    differs (ap (λ (all : List NodeRow). record t { nodes = all })
    (put_changed t.nodes row.id (λ r. r) row refl rising (sym same ∙ put_found row t.nodes) ∙ same_rows t.nodes row.id))

mount_anew : (t : Tables) (row : MountRow) → IsMounting t row → mount_row t.mounts row.user row.node ≢ Some row
mount_anew t row (inl is) = λ same. is.other (same_Some row is.old (sym same ∙ is.there))
mount_anew t row (inr is) = λ same. none-some row (sym is.fresh ∙ same)

share_anew : (first t : Tables) (row : ShareRow) → KnownShare first t row → share_row t.shares row.id ≢ Some row
share_anew first t row (inl (is, new)) = λ same.
    absurd (omega (arith, (found_is (λ (old : ShareRow). old.id < row.id) (λ (old : ShareRow). old.id == row.id) t.shares row is.newest same).1))
share_anew first t row (inr (is, old)) = λ same. is.other (same_Some row is.old (sym same ∙ is.there))

group_anew : (t : Tables) (row : GroupRow) → IsNewGroup t row → group_row t.groups row.id ≢ Some row
group_anew t row is = λ same.
    absurd (omega (arith, (found_is (λ (old : GroupRow). old.id < row.id) (λ (old : GroupRow). old.id == row.id) t.groups row is.newest same).1))

user_anew : (t : Tables) (row : UserRow) (root : NodeRow) → IsNewUser t row root → user_row t.users row.id ≢ Some row
user_anew t row root is = λ same.
    absurd (omega (arith, (found_is (λ (old : UserRow). old.id < row.id) (λ (old : UserRow). old.id == row.id) t.users row is.newest same).1))

-- ---- a list

module _ (t : Tables) (changes : List Change) (rising : Rising t.nodes) (versions : IsRising version_key t.versions)
    (chunks : IsRising chunk_key t.chunks) (built : AreBuilt changes) where
  abbrev IsMoved : Change → Type 0
  IsMoved change = IsLean t (change ∷ changes) → put_all t (change ∷ changes) ≢ t

  user_moves : (row : UserRow) → user_row t.users row.id ≢ Some row → IsMoved (Put (rows.User row))
  user_moves row anew lean =
      seen_moves (λ (u : Tables). user_row u.users row.id) t (Put (rows.User row)) changes (user_left row.id) built lean
      (λ same. anew (sym same ∙ number_found (λ (r : UserRow). r.id) row t.users))

  people_move : (meta : MetaRow) (change : Change) → IsOfPeople (record t { meta = meta }) change → IsMoved change
  people_move meta (Put (rows.User row)) is lean = user_moves row (λ same. is.other (same_Some row is.old (sym same ∙ is.there))) lean
  people_move meta (Put (rows.Token row)) is lean =
      seen_moves (λ (u : Tables). token_row u.tokens row.digest) t (Put (rows.Token row)) changes (token_left row.digest) built lean
      (λ same. none-some row.user (sym is.fresh ∙ ap (option_map (λ (r : TokenRow). r.user)) (sym same ∙ token_found row t.tokens)))
  people_move meta (Put (rows.Group row)) is lean =
      seen_moves (λ (u : Tables). group_row u.groups row.id) t (Put (rows.Group row)) changes (group_left row.id) built lean
      (λ same. group_anew (record t { meta = meta }) row is (sym same ∙ number_found (λ (r : GroupRow). r.id) row t.groups))
  people_move meta (Put (rows.Member row)) is lean =
      seen_moves (λ (u : Tables). member_row u.members row.group row.user) t (Put (rows.Member row)) changes (member_left row.group row.user) built lean
      (λ same. both_ways (is_some (member_row t.members row.group row.user)) (sym (any_found (is_row_of row.group row.user) t.members) ∙ is.fresh)
      (ap is_some (sym same ∙ member_found row t.members)))
  people_move meta (Drop (keys.Member group user)) is lean =
      seen_moves (λ (u : Tables). member_row u.members group user) t (Drop (keys.Member group user)) changes (member_left group user) built lean
      (λ same. both_ways (is_some (member_row t.members group user))
      (ap is_some (sym same) ∙ sym (any_found (is_row_of group user) (dropped member_key (group ∷ user ∷ []) t.members)) ∙ none_left group user t.members)
      (sym (any_found (is_row_of group user) t.members) ∙ is))
  people_move meta change is lean = absurd is

  one_moves : (blob : Option ℕ) (meta : MetaRow) (change : Change) → KnownRow t blob (record t { meta = meta }) change → IsMoved change
  one_moves blob meta (Put (rows.Node row)) known lean =
      seen_moves (λ (u : Tables). node_row u.nodes row.id) t (Put (rows.Node row)) changes (node_left row.id) built lean
      (node_moved t row rising (All-head (λ (c : Change). made t c ≢ t) (Put (rows.Node row)) changes lean.differ))
  one_moves blob meta (Put (rows.Mount row)) known lean =
      seen_moves (λ (u : Tables). mount_row u.mounts row.user row.node) t (Put (rows.Mount row)) changes (mount_left row.user row.node) built lean
      (λ same. mount_anew (record t { meta = meta }) row known.1 (sym same ∙ mount_found row t.mounts))
  one_moves blob meta (Put (rows.Share row)) known lean =
      seen_moves (λ (u : Tables). share_row u.shares row.id) t (Put (rows.Share row)) changes (share_left row.id) built lean
      (λ same. share_anew t (record t { meta = meta }) row known.1 (sym same ∙ share_found row t.shares))
  one_moves blob meta (Put (rows.Version row)) known lean =
      seen_moves (λ (u : Tables). version_row u.versions row.node row.at) t (Put (rows.Version row)) changes (version_left row.node row.at) built lean
      (version_moved t row versions (All-head (λ (c : Change). made t c ≢ t) (Put (rows.Version row)) changes lean.differ))
  one_moves blob meta (Drop (keys.Version node at)) known lean =
      seen_moves (λ (u : Tables). version_row u.versions node at) t (Drop (keys.Version node at)) changes (version_left node at) built lean
      (version_dropped t node at (All-head (λ (c : Change). made t c ≢ t) (Drop (keys.Version node at)) changes lean.differ))
  one_moves blob meta (Put (rows.Upload row)) known lean =
      seen_moves (λ (u : Tables). upload_row u.uploads row.user row.dir) t (Put (rows.Upload row)) changes (upload_left row.user row.dir) built lean
      (λ same. upload_anew (record t { meta = meta }) row known (sym same ∙ upload_found row t.uploads))
  one_moves blob meta (Put (rows.Chunk row)) known lean =
      seen_moves (λ (u : Tables). chunk_row u.chunks row.user row.dir row.number) t (Put (rows.Chunk row)) changes
      (chunk_left row.user row.dir row.number) built lean
      (chunk_moved t row chunks (All-head (λ (c : Change). made t c ≢ t) (Put (rows.Chunk row)) changes lean.differ))
  one_moves blob meta change known lean = people_move meta change known.1 lean

-- so a lean list that isn't empty makes other tables
pub lean_moves : (t up : Tables) (blob : Option ℕ) (changes : List Change) → Rising t.nodes → IsRising version_key t.versions → IsRising chunk_key t.chunks
    → up ≡ record t { meta = up.meta }
    → KnownRows t blob up changes → IsLean t changes → changes ≢ [] → put_all t changes ≢ t
lean_moves t _ blob _ rising versions chunks same (no_more up) lean some = absurd (some refl)
lean_moves t _ blob _ rising versions chunks same (one_more up change changes known rest) lean some =
    one_moves t changes rising versions chunks (only_built t blob (made up change) changes rest) blob up.meta change
    (subst (λ (u : Tables). KnownRow t blob u change) same known) lean
lean_moves t _ blob _ rising versions chunks same (user_more up row root changes known rest) lean some =
    user_moves t (Put (rows.Node root) ∷ changes) rising versions chunks (tt, only_built t blob _ changes rest) row
    (λ there. user_anew up row root known.1 (ap (λ (u : Tables). user_row u.users row.id) same ∙ there)) lean
