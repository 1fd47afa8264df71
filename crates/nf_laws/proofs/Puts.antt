-- Rows of nodes that are put and dropped, one after the other.
use Rattle.std.proofs.Common.{if◌then◌else◌, inl, inr, ℕ, ◌&&◌, length-append, zero, suc, ◌+◌, ◌==◌, ◌≡◌, ◌≢◌, ◌<◌, Bool, true, false, not, List, [], ◌∷◌, ◌++◌, Option, None, Some, filter, map, length, get_or, refl, sym, ap, subst, ◌∙◌, arith, append_assoc, find}
use Rattle.std.proofs.Math.Seq.{get_or-append_seam}
use Rattle.std.specs.Prelude.{is_some}
use Rattle.std.specs.List.{All, AllPairs, list_any}
use Rattle.std.specs.declared.cmp.Ordering.{Ordering}
use Rattle.std.specs.declared.cmp.Ordering.TheVariants.{Equal, Greater, Less}
use Rattle.std.proofs.lemmas.Bool.{both_ways, cases_Bool, eq-eqb, eqb-true, ne_eqb}
use Rattle.std.proofs.lemmas.List.{append-nil}
use Rattle.std.proofs.lemmas.List.Elements.{All-push, All-weaker, filter_agree, filter_passes}
use Rattle.std.proofs.lemmas.List.Folds.{list_any_at}
use Rattle.std.proofs.lemmas.Option.{none-some, option_and_then_some, same_Some}
use Rattle.nf_base.specs.declared.changes.Change.{Change}
use Rattle.nf_base.specs.declared.changes.Change.TheVariants.{Drop, Put}
use Rattle.nf_base.specs.declared.changes.RowKey.TheVariants as keys
use Rattle.nf_base.specs.declared.rows.ItemRow.{ItemRow}
use Rattle.nf_base.specs.declared.rows.NodeRow.{NodeRow}
use Rattle.nf_base.specs.declared.rows.Row.TheVariants.{Node, Share}
use Rattle.nf_base.specs.declared.rows.ShareRow.{ShareRow}
use Rattle.nf_defs.proofs.Climbs.{under_climb, walk_among}
use Rattle.nf_defs.proofs.Puts.{below_one, below_rest, compared, put_last, put_rising, tail_rising}
use Rattle.nf_defs.specs.Prelude.{by_order, climb, dropped, folder_of, is_under, IsRising, key_cmp, item_row, node_key, node_row, parent_of, put, put_all, share_key, Tables, walk_of, with_node, without_under}
use Rattle.nf_laws.proofs.Climbs.{some_there, those}
use Rattle.nf_laws.proofs.Forgotten.{forgets_put}
use Rattle.nf_base.specs.declared.rows.VersionRow.{VersionRow}
use Rattle.nf_laws.proofs.Others.{item_none}
use Rattle.nf_laws.proofs.Rows.{found_is}
use Rattle.nf_words.specs.Prelude.{closed_under, dropped_under, ended_row, ended_under, forgotten_under, is_closing, purged, told_deed, told_item, versions_there}
use Rattle.nf_words.specs.declared.answer.Deed.TheVariants as deed
use Rattle.nf_words.proofs.Found.{put_is_found, put_leaves}

-- ---- rows that are put

-- a row whose number is above all others goes to the end
pub put_new : (row : NodeRow) (old : List NodeRow) → All (λ (other : NodeRow). other.id < row.id) old → put node_key row old ≡ old ++ row ∷ []
put_new row old below =
    put_last node_key row old
    (All-weaker (λ (other : NodeRow). other.id < row.id) (λ (other : NodeRow). key_cmp (node_key other) (node_key row) ≡ Less)
    (λ other is. compared other.id row.id Less is) old below)

-- the rows have the numbers from the first on
abbrev pub AreNumbered : ℕ → List NodeRow → Type 0
AreNumbered first new = (k : ℕ) (d : NodeRow) → k < length new → (get_or new k d).id ≡ first + k

-- so they all go to the end, where the first number is above all others
pub puts_new : (t : Tables) (old new : List NodeRow) (rest : List Change) (first : ℕ) → All (λ (other : NodeRow). other.id < first) old
    → AreNumbered first new
    → put_all (record t { nodes = old }) (map (λ row. Put (Node row)) new ++ rest) ≡ put_all (record t { nodes = old ++ new }) rest
puts_new t old [] rest first below numbered = ap (λ (all : List NodeRow). put_all (record t { nodes = all }) rest) (sym (append-nil old))
puts_new t old (row ∷ new) rest first below numbered =
    let id : row.id ≡ first = omega (arith, numbered 0 row (omega arith)) in
    let last = put_new row old (subst (λ (n : ℕ). All (λ (other : NodeRow). other.id < n) old) (sym id) below) in
    let more : All (λ (other : NodeRow). other.id < suc first) (old ++ row ∷ []) =
    All-push (λ (other : NodeRow). other.id < suc first) old row
    (All-weaker (λ (other : NodeRow). other.id < first) (λ (other : NodeRow). other.id < suc first) (λ other is. omega arith) old below)
    (omega arith) in
    ap (λ (all : List NodeRow). put_all (record t { nodes = all }) (map (λ row. Put (Node row)) new ++ rest)) last
    ∙ puts_new t (old ++ row ∷ []) new rest (suc first) more (λ k d within. omega (arith, numbered (suc k) d (omega arith)))
    ∙ ap (λ (all : List NodeRow). put_all (record t { nodes = all }) rest) (append_assoc old (row ∷ []) new)

-- a node's changed row goes to its place
pub put_changed : (old : List NodeRow) (node : ℕ) (change : NodeRow → NodeRow) (row : NodeRow) → (change row).id ≡ row.id
    → AllPairs (λ (a b : NodeRow). a.id < b.id) old → node_row old node ≡ Some row
    → put node_key (change row) old ≡ with_node old node change
put_changed [] node change row keeps rising is = absurd (none-some row is)
put_changed (x ∷ old) node change row keeps rising is =
    let new : NodeRow = change row in
    let choice : Ordering → List NodeRow = λ o. by_order o (new ∷ x ∷ old) (new ∷ old) (x ∷ put node_key new old) in
    elim (cases_Bool (x.id == node)) [
      | inl e ↦
          (let same : x ≡ row = same_Some x row (simp e at is) in
          simp e (ap choice (compared new.id x.id Equal (keeps ∙ sym (ap (λ (r : NodeRow). r.id) same)))
          ∙ ap (λ (r : NodeRow). change r ∷ old) (sym same)))
      | inr e ↦
          (let found : node_row old node ≡ Some row = simp e at is in
          let below = found_is (λ (r : NodeRow). x.id < r.id) (λ r. r.id == node) old row
          (λ k d within. rising 0 (suc k) d (omega arith) (omega arith)) found in
          simp e (ap choice (compared new.id x.id Greater (omega (arith, keeps, below.1)))
          ∙ ap (λ (all : List NodeRow). x ∷ all) (put_changed old node change row keeps
          (λ i j d before within. rising (suc i) (suc j) d (omega arith) (omega arith)) found)))
    ]

-- a row of another number is left
pub other_number : {R : Type 0} (number : R → ℕ) (row : R) (old : List R) (id : ℕ) → id ≢ number row
    → find (λ x. number x == id) (put (λ x. number x ∷ []) row old) ≡ find (λ x. number x == id) old
other_number {R = R} number row old id other =
    put_leaves (λ (x : R). number x ∷ []) (λ x. number x == id) row old (ne_eqb (number row) id (λ same. other (sym same)))
    (λ x key. ne_eqb (number x) id (λ same. other (sym same ∙ sym (first key))))
  where
    first : {a b : ℕ} → a ∷ [] ≡ b ∷ [] → a ≡ b
    first same = cc

-- and one that is put is found
pub number_found : {R : Type 0} (number : R → ℕ) (row : R) (old : List R) → find (λ x. number x == number row) (put (λ x. number x ∷ []) row old) ≡ Some row
number_found number row old =
    put_is_found (λ x. number x ∷ []) (λ x. number x == number row) row old (eq-eqb (number row) (number row) refl)
    (λ x same. ap (λ (n : ℕ). n ∷ []) (eqb-true (number x) (number row) same))

-- so a node of another number keeps its row
pub put_other : (row : NodeRow) (old : List NodeRow) (node : ℕ) → node ≢ row.id → node_row (put node_key row old) node ≡ node_row old node
put_other = other_number (λ (row : NodeRow). row.id)

-- ---- rows that are dropped

-- the rows without those of some nodes
abbrev left : List ℕ → List NodeRow → List NodeRow
left nodes old = filter (λ row. not (list_any (λ node. node == row.id) nodes)) old

all_left : (old : List NodeRow) → left [] old ≡ old
all_left [] = refl
all_left (x ∷ old) = ap (λ (all : List NodeRow). x ∷ all) (all_left old)

both_dropped : (n : ℕ) (nodes : List ℕ) (old : List NodeRow) → left nodes (dropped node_key (n ∷ []) old) ≡ left (n ∷ nodes) old
both_dropped n nodes [] = refl
both_dropped n nodes (x ∷ old) =
    let rest = both_dropped n nodes old in
    elim (cases_Bool (n == x.id)) [
      | inl e ↦ simp e rest
      | inr e ↦ simp e (ap (λ (all : List NodeRow). if not (list_any (λ node. node == x.id) nodes) then x ∷ all else all) rest)
    ]

-- nodes that are dropped one by one
drops : (t : Tables) (nodes : List ℕ) (rest : List Change)
    → put_all t (map (λ node. Drop (keys.Node node)) nodes ++ rest) ≡ put_all (record t { nodes = left nodes t.nodes }) rest
drops t [] rest = ap (λ (all : List NodeRow). put_all (record t { nodes = all }) rest) (sym (all_left t.nodes))
drops t (n ∷ nodes) rest =
    drops (record t { nodes = dropped node_key (n ∷ []) t.nodes }) nodes rest
    ∙ ap (λ (all : List NodeRow). put_all (record t { nodes = all }) rest) (both_dropped n nodes t.nodes)

-- where the nodes under one are dropped, the others are left
pub drops_under : (t : Tables) (top : ℕ) (rest : List Change) → AllPairs (λ (a b : NodeRow). a.id < b.id) t.nodes
    → put_all t (dropped_under t.nodes top ++ rest) ≡ put_all (record t { nodes = without_under t.nodes top }) rest
drops_under t top rest rising =
    drops t (walk_of t.nodes top) rest
    ∙ ap (λ (all : List NodeRow). put_all (record t { nodes = all }) rest)
    (filter_agree (λ row. not (list_any (λ node. node == row.id) (walk_of t.nodes top))) (λ row. not (is_under t.nodes row.id top))
    (λ row. ap not (walk_among t.nodes top row.id rising)) t.nodes)

-- ---- shares that end

-- a share's changed row goes to its place
put_share : (done shares : List ShareRow) (row share : ShareRow) → row.id ≡ share.id → IsRising share_key (done ++ share ∷ shares)
    → put share_key row (done ++ share ∷ shares) ≡ done ++ row ∷ shares
put_share [] shares row share same rising = ap (λ (o : Ordering). by_order o (row ∷ share ∷ shares) (row ∷ shares) (share ∷ put share_key row shares)) (compared row.id share.id Equal same)
put_share (x ∷ done) shares row share same rising =
    let below = below_one x.id share.id (subst (λ (s : ShareRow). key_cmp (share_key x) (share_key s) ≡ Less) (get_or-append_seam done share shares share)
    (below_rest share_key x (done ++ share ∷ shares) rising (length done) share (omega (arith, length-append done (share ∷ shares))))) in
    ap (λ (o : Ordering). by_order o (row ∷ x ∷ done ++ share ∷ shares) (row ∷ done ++ share ∷ shares) (x ∷ put share_key row (done ++ share ∷ shares)))
    (compared row.id x.id Greater (omega (arith, same, below)))
    ∙ ap (λ (all : List ShareRow). x ∷ all) (put_share done shares row share same (tail_rising share_key x (done ++ share ∷ shares) rising))

same_ended : (share : ShareRow) → share.ended ≡ true → ended_row share ≡ share
same_ended share is = ap (λ (b : Bool). record share { ended = b }) (sym is)

pub closes : (t : Tables) (nodes : List NodeRow) (top : ℕ) (done shares : List ShareRow) (rest : List Change) → IsRising share_key (done ++ shares)
    → put_all (record t { shares = done ++ shares }) (closed_under nodes shares top ++ rest)
    ≡ put_all (record t { shares = done ++ ended_under nodes top shares }) rest
closes t nodes top done [] rest rising = refl
closes t nodes top done (share ∷ shares) rest rising =
    here (is_under nodes share.node top) (share.ended) refl (λ row same. closes t nodes top (done ++ row ∷ []) shares rest (turned_rising row same))
  where
    -- with another row of the same number the rows still rise
    turned_rising : (row : ShareRow) → row.id ≡ share.id → IsRising share_key ((done ++ row ∷ []) ++ shares)
    turned_rising row same =
        subst (IsRising share_key) (put_share done shares row share same rising ∙ sym (append_assoc done (row ∷ []) shares))
        (put_rising share_key row (done ++ share ∷ shares) rising)

    Ends : List Change → List ShareRow → Type 0
    Ends changes ended = put_all (record t { shares = done ++ share ∷ shares }) (changes ++ rest) ≡ put_all (record t { shares = done ++ ended }) rest

    onward : (row : ShareRow) → put_all (record t { shares = (done ++ row ∷ []) ++ shares }) (closed_under nodes shares top ++ rest)
        ≡ put_all (record t { shares = (done ++ row ∷ []) ++ ended_under nodes top shares }) rest
        → put_all (record t { shares = done ++ row ∷ shares }) (closed_under nodes shares top ++ rest)
        ≡ put_all (record t { shares = done ++ row ∷ ended_under nodes top shares }) rest
    onward row is =
        ap (λ (all : List ShareRow). put_all (record t { shares = all }) (closed_under nodes shares top ++ rest)) (sym (append_assoc done (row ∷ []) shares))
        ∙ is ∙ ap (λ (all : List ShareRow). put_all (record t { shares = all }) rest) (append_assoc done (row ∷ []) (ended_under nodes top shares))

    here : (under ended : Bool) → share.ended ≡ ended
        → ((row : ShareRow) → row.id ≡ share.id → put_all (record t { shares = (done ++ row ∷ []) ++ shares }) (closed_under nodes shares top ++ rest)
        ≡ put_all (record t { shares = (done ++ row ∷ []) ++ ended_under nodes top shares }) rest)
        → Ends (map (λ share. Put (Share (ended_row share)))
        (if not ended && under then share ∷ filter (is_closing nodes top) shares else filter (is_closing nodes top) shares))
        ((if under then ended_row share else share) ∷ ended_under nodes top shares)
    here true false e more =
        ap (λ (all : List ShareRow). put_all (record t { shares = all }) (closed_under nodes shares top ++ rest)) (put_share done shares (ended_row share) share refl rising)
        ∙ onward (ended_row share) (more (ended_row share) refl)
    here true true e more =
        onward share (more share refl)
        ∙ ap (λ (row : ShareRow). put_all (record t { shares = done ++ row ∷ ended_under nodes top shares }) rest) (sym (same_ended share e))
    here false true e more = onward share (more share refl)
    here false false e more = onward share (more share refl)

-- ---- what goes

-- where a node goes for good with all under it, its shares are ended, its item is gone, if there is one, and the others are left
pub goes_put : (t : Tables) (top : ℕ) (rest : List Change) → AllPairs (λ (a b : NodeRow). a.id < b.id) t.nodes → IsRising share_key t.shares
    → All (λ (version : VersionRow). is_some (node_row t.nodes version.node) ≡ true) t.versions
    → put_all t (told_deed t (deed.Purge top) ++ rest) ≡ put_all (purged t top) rest
goes_put t top rest rising shares_rise there =
    let dropped = dropped_under t.nodes top in
    let closed = closed_under t.nodes t.shares top in
    ap (put_all t) (append_assoc (forgotten_under t.nodes t.versions top) ((dropped ++ closed) ++ told_item t top) rest)
    ∙ forgets_put t top (((dropped ++ closed) ++ told_item t top) ++ rest) rising there
    ∙ ap (put_all forgot) (append_assoc (dropped ++ closed) (told_item t top) rest ∙ append_assoc dropped closed (told_item t top ++ rest))
    ∙ drops_under forgot top (closed ++ (told_item t top ++ rest)) rising
    ∙ closes (record forgot { nodes = without_under t.nodes top }) t.nodes top [] t.shares (told_item t top ++ rest) shares_rise
    ∙ here (item_row t.items top) refl
  where
    forgot : Tables
    forgot = record t { versions = versions_there (without_under t.nodes top) t.versions }

    gone : List ItemRow → Tables
    gone items = record forgot { nodes = without_under t.nodes top; shares = ended_under t.nodes top t.shares; items = items }

    here : (o : Option ItemRow) → item_row t.items top ≡ o
        → put_all (gone t.items) ((if is_some o then Drop (keys.Item top) ∷ [] else []) ++ rest) ≡ put_all (purged t top) rest
    here None e = ap (λ (items : List ItemRow). put_all (gone items) rest) (sym (item_none top t.items e))
    here (Some item) e = refl

-- ---- rows that differ

-- where a node is gone that was there
pub fewer : (test : ℕ → Bool) (old : List NodeRow) (node : ℕ) → is_some (node_row old node) ≡ true → test node ≡ false → those test old ≢ old
fewer test old node there fails = λ same.
    let row = some_there (node_row old node) there in
    let h = found_is (λ (row : NodeRow). test row.id ≡ true) (λ row. row.id == node) (those test old) row.0
    (filter_passes (λ row. test row.id) old) (ap (λ (all : List NodeRow). node_row all node) same ∙ row.1) in
    both_ways (test node) fails (subst (λ (n : ℕ). test n ≡ true) (eqb-true row.0.id node h.0) h.1)

-- where a node's row is another
pub another : (old made : List NodeRow) (node : ℕ) (row new : NodeRow) → node_row old node ≡ Some row → node_row made node ≡ Some new
    → new ≢ row → made ≢ old
another old made node row new was is other = λ same.
    other (same_Some new row (sym is ∙ ap (λ (all : List NodeRow). node_row all node) same ∙ was))

-- ---- the nodes under one

-- where it is there they are there
pub under_there : (old : List NodeRow) (node top : ℕ) → is_some (node_row old top) ≡ true → is_under old node top ≡ true
    → is_some (node_row old node) ≡ true
under_there old node top there is = let c = under_climb old node top is in here c.0 c.2
  where
    here : (j : ℕ) → climb old j node ≡ Some top → is_some (node_row old node) ≡ true
    here zero is = subst (λ (n : ℕ). is_some (node_row old n) ≡ true) (sym (same_Some node top is)) there
    here (suc j) is =
        option_and_then_some (climb old j) (parent_of old node) top is (λ parent above rest.
        option_and_then_some (λ row. folder_of row.place) (node_row old node) parent above (λ row found place. ap is_some found))

-- and what is in its walk is under it
pub walk_under : (old : List NodeRow) (top : ℕ) → AllPairs (λ (a b : NodeRow). a.id < b.id) old
    → All (λ (node : ℕ). is_under old node top ≡ true) (walk_of old top)
walk_under old top rising k d within =
    let node = get_or (walk_of old top) k d in
    sym (walk_among old top node rising) ∙ list_any_at (λ other. other == node) (walk_of old top) k d within (eq-eqb node node refl)
