-- Versions that are dropped, one after the other, where what is under a node goes for good.
use Rattle.std.proofs.Common.{inl, inr, ℕ, ◌&&◌, ◌||◌, ◌==◌, ◌≡◌, ◌<◌, Bool, true, false, not, List, [], ◌∷◌, ◌++◌, filter, map, get_or, flat_map, if◌then◌else◌, refl, sym, ap, ◌∙◌}
use Rattle.std.specs.Prelude.{bytes_eq, is_some}
use Rattle.std.specs.List.{All, AllPairs, list_any}
use Rattle.std.proofs.lemmas.Bool.{both_ways, cases_Bool, eq-eqb, eqb-true}
use Rattle.std.proofs.lemmas.List.{map-append}
use Rattle.std.proofs.lemmas.List.Concat.{flat_map-cons}
use Rattle.std.proofs.lemmas.List.Elements.{All-head, All-tail}
use Rattle.std.proofs.lemmas.List.Folds.{list_any-append, list_any_at}
use Rattle.std.proofs.lemmas.Slice.Eq.{bytes_eq-Decides}
use Rattle.nf_base.specs.declared.changes.Change.{Change}
use Rattle.nf_base.specs.declared.changes.Change.TheVariants.{Drop}
use Rattle.nf_base.specs.declared.changes.RowKey.TheVariants as keys
use Rattle.nf_base.specs.declared.rows.NodeRow.{NodeRow}
use Rattle.nf_base.specs.declared.rows.VersionRow.{VersionRow}
use Rattle.nf_defs.proofs.Climbs.{walk_among}
use Rattle.nf_defs.specs.Prelude.{dropped, is_under, node_row, put_all, Tables, version_key, walk_of, without_under}
use Rattle.nf_laws.proofs.Gone.{row_gone, row_left}
use Rattle.nf_words.specs.Prelude.{forgotten_of, forgotten_under, versions_of, versions_there}

-- tests that agree at each element keep the same
pub filter_same : {X : Type 0} (p q : X → Bool) (xs : List X) → All (λ (x : X). p x ≡ q x) xs → filter p xs ≡ filter q xs
filter_same p q [] agree = refl
filter_same {X = X} p q (x ∷ xs) agree =
    ap (λ (b : Bool). if b then x ∷ filter p xs else filter p xs) (All-head (λ (x : X). p x ≡ q x) x xs agree)
    ∙ ap (λ (rest : List X). if q x then x ∷ rest else rest) (filter_same p q xs (All-tail (λ (x : X). p x ≡ q x) x xs agree))

abbrev same_key : VersionRow → VersionRow → Bool
same_key a b = bytes_eq (version_key a) (version_key b)

same_node : (a b : VersionRow) → same_key a b ≡ true → a.node ≡ b.node
same_node a b is = first ((bytes_eq-Decides (version_key a) (version_key b)).0 is)
  where
    first : {a b : ℕ} {xs ys : List ℕ} → a ∷ xs ≡ b ∷ ys → a ≡ b
    first same = cc

-- ---- versions that are dropped one by one

-- the versions without some rows
abbrev less : List VersionRow → List VersionRow → List VersionRow
less rows versions = filter (λ version. not (list_any (λ row. same_key row version) rows)) versions

all_left : (versions : List VersionRow) → less [] versions ≡ versions
all_left [] = refl
all_left (x ∷ versions) = ap (λ (all : List VersionRow). x ∷ all) (all_left versions)

both_dropped : (row : VersionRow) (rows versions : List VersionRow) → less rows (dropped version_key (version_key row) versions) ≡ less (row ∷ rows) versions
both_dropped row rows [] = refl
both_dropped row rows (x ∷ versions) =
    let rest = both_dropped row rows versions in
    elim (cases_Bool (same_key row x)) [
      | inl e ↦ simp e rest
      | inr e ↦ simp e (ap (λ (all : List VersionRow). if not (list_any (λ one. same_key one x) rows) then x ∷ all else all) rest)
    ]

abbrev drop_of : VersionRow → Change
drop_of row = Drop (keys.Version row.node row.at)

drops : (t : Tables) (rows : List VersionRow) (rest : List Change)
    → put_all t (map drop_of rows ++ rest) ≡ put_all (record t { versions = less rows t.versions }) rest
drops t [] rest = ap (λ (all : List VersionRow). put_all (record t { versions = all }) rest) (sym (all_left t.versions))
drops t (row ∷ rows) rest =
    drops (record t { versions = dropped version_key (version_key row) t.versions }) rows rest
    ∙ ap (λ (all : List VersionRow). put_all (record t { versions = all }) rest) (both_dropped row rows t.versions)

-- ---- those of some nodes

of_nodes : (versions : List VersionRow) (nodes : List ℕ) → flat_map (forgotten_of versions) nodes ≡ map drop_of (flat_map (versions_of versions) nodes)
of_nodes versions [] = refl
of_nodes versions (node ∷ nodes) =
    flat_map-cons (forgotten_of versions) node nodes
    ∙ ap (λ (rest : List Change). map drop_of (versions_of versions node) ++ rest) (of_nodes versions nodes)
    ∙ sym (map-append drop_of (versions_of versions node) (flat_map (versions_of versions) nodes))
    ∙ ap (map drop_of) (sym (flat_map-cons (versions_of versions) node nodes))

-- a version is among those of a node where it is among all and of that node
any_of : (versions : List VersionRow) (v : VersionRow) (node : ℕ)
    → list_any (λ row. same_key row v) (versions_of versions node) ≡ ((node == v.node) && list_any (λ row. same_key row v) versions)
any_of [] v node = here (node == v.node)
  where
    here : (b : Bool) → false ≡ (b && false)
    here true = refl
    here false = refl
any_of (x ∷ versions) v node =
    one (x.node == node) ∙ here (x.node == node) (same_key x v) (node == v.node) refl refl refl (any_of versions v node)
  where
    among : Bool
    among = list_any (λ row. same_key row v) (versions_of versions node)

    all : Bool
    all = list_any (λ row. same_key row v) versions

    one : (b : Bool) → list_any (λ row. same_key row v) (if b then x ∷ versions_of versions node else versions_of versions node)
        ≡ (if b then same_key x v || among else among)
    one true = refl
    one false = refl

    here : (a b c : Bool) → (x.node == node) ≡ a → same_key x v ≡ b → (node == v.node) ≡ c → among ≡ (c && all)
        → (if a then b || among else among) ≡ (c && (b || all))
    here true true true is same of rest = refl
    here true true false is same of rest =
        absurd (both_ways (node == v.node) of (eq-eqb node v.node (sym (eqb-true x.node node is) ∙ same_node x v same)))
    here true false c is same of rest = rest
    here false false c is same of rest = rest
    here false true true is same of rest =
        absurd (both_ways (x.node == node) is (eq-eqb x.node node (same_node x v same ∙ sym (eqb-true node v.node of))))
    here false true false is same of rest = rest

any_nodes : (versions : List VersionRow) (v : VersionRow) (nodes : List ℕ) → list_any (λ row. same_key row v) versions ≡ true
    → list_any (λ row. same_key row v) (flat_map (versions_of versions) nodes) ≡ list_any (λ node. node == v.node) nodes
any_nodes versions v [] is = refl
any_nodes versions v (node ∷ nodes) is =
    ap (list_any (λ row. same_key row v)) (flat_map-cons (versions_of versions) node nodes)
    ∙ list_any-append (λ row. same_key row v) (versions_of versions node) (flat_map (versions_of versions) nodes)
    ∙ ap (λ (b : Bool). b || list_any (λ row. same_key row v) (flat_map (versions_of versions) nodes))
    (any_of versions v node ∙ ap (λ (b : Bool). (node == v.node) && b) is ∙ alone (node == v.node))
    ∙ ap (λ (b : Bool). (node == v.node) || b) (any_nodes versions v nodes is)
  where
    alone : (b : Bool) → (b && true) ≡ b
    alone true = refl
    alone false = refl

-- a node that is there is left where it isn't under the top
there_left : (rows : List NodeRow) (top node : ℕ) → is_some (node_row rows node) ≡ true
    → not (is_under rows node top) ≡ is_some (node_row (without_under rows top) node)
there_left rows top node there =
    elim (cases_Bool (is_under rows node top)) [
      | inl under ↦ ap not under ∙ sym (ap is_some (row_gone rows top node under))
      | inr outside ↦ ap not outside ∙ sym (ap is_some (row_left rows top node outside) ∙ there)
    ]

-- where the versions of what is under a node are dropped, the others are left
pub forgets_put : (t : Tables) (top : ℕ) (rest : List Change) → AllPairs (λ (a b : NodeRow). a.id < b.id) t.nodes
    → All (λ (version : VersionRow). is_some (node_row t.nodes version.node) ≡ true) t.versions
    → put_all t (forgotten_under t.nodes t.versions top ++ rest)
    ≡ put_all (record t { versions = versions_there (without_under t.nodes top) t.versions }) rest
forgets_put t top rest rising there =
    let rows = flat_map (versions_of t.versions) (walk_of t.nodes top) in
    ap (λ (changes : List Change). put_all t (changes ++ rest)) (of_nodes t.versions (walk_of t.nodes top))
    ∙ drops t rows rest
    ∙ ap (λ (all : List VersionRow). put_all (record t { versions = all }) rest)
    (filter_same (λ version. not (list_any (λ row. same_key row version) rows)) (λ version. is_some (node_row (without_under t.nodes top) version.node))
    t.versions
    (λ k d within.
    let v = get_or t.versions k d in
    ap not (any_nodes t.versions v (walk_of t.nodes top)
    (list_any_at (λ row. same_key row v) t.versions k d within ((bytes_eq-Decides (version_key v) (version_key v)).1 refl))
    ∙ walk_among t.nodes top v.node rising)
    ∙ there_left t.nodes top v.node (there k d within)))
