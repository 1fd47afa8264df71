-- What goes of a trash is what a walk over it from the oldest on takes.
use Rattle.std.proofs.Common.{◌≡◌, ◌≢◌, ◌+◌, ◌-◌, ◌==◌, ℕ, suc, Bool, true, false, not, List, [], ◌∷◌, ◌++◌, Some, filter, length, map, reverse, take, get_or, if◌then◌else◌, refl, sym, ap, ◌∙◌, arith}
use Rattle.std.specs.Prelude.{sum_by}
use Rattle.std.specs.List.{All}
use Rattle.std.proofs.lemmas.Bool.{eq-eqb, eqb-true, false≢true, ne_eqb}
use Rattle.std.proofs.lemmas.List.{length-append, map-append, reverse-append}
use Rattle.std.proofs.lemmas.List.Elements.{All-head, All-tail}
use Rattle.std.proofs.lemmas.List.Kept.{AllPairs-filter}
use Rattle.std.proofs.lemmas.List.Sums.{sum_by-cons}
use Rattle.std.proofs.lemmas.Option.{none-some, same_Some}
use Rattle.nf_base.specs.declared.rows.ItemRow.{ItemRow}
use Rattle.nf_defs.specs.Prelude.{item_row, Tables}
use Rattle.nf_retention.specs.Budget.{trash_bound}
use Rattle.nf_retention.specs.Trash.{newest_first, trashed}
use Rattle.nf_retention.specs.declared.trash.Trashed.{Trashed}
use Rattle.nf_trash.proofs.Walks.{walk_going}
use Rattle.nf_trash.specs.Aged.{aged_of, oldest_first}
use Rattle.nf_trash.specs.Outgoing.{Walk, all_passed, goes, passed, starting}
use Rattle.nf_trash.specs.declared.aged.Aged.{Aged}
use Rattle.nf_words.proofs.Found.{found_passes}
use Rattle.nf_words.specs.Prelude.{AreSound, gone_of, item_size, items_but, items_of}
use Rattle.nf_view.proofs.TrashSums.{AreItemsApart, items_apart}
use Rattle.nf_deeds.specs.Going.{seen_of}

-- ---- walks

-- a walk that has ended stays where it is
ended_passes : (walk : Walk) (item : Trashed) → walk.has_ended ≡ true → passed walk item ≡ walk
ended_passes walk item is =
    ap (λ (b : Bool).
    if b then walk
    else if goes walk item then record walk { gone = item.node ∷ walk.gone; left = walk.left - item.size }
    else record walk { has_ended = true }) is

pub ended_stays : (items : List Trashed) (walk : Walk) → walk.has_ended ≡ true → all_passed walk items ≡ walk
ended_stays [] walk is = refl
ended_stays (item ∷ items) walk is = ap (λ (w : Walk). all_passed w items) (ended_passes walk item is) ∙ ended_stays items walk is

-- it goes on where it was
pub passed_on : (items more : List Trashed) (walk : Walk) → all_passed walk (items ++ more) ≡ all_passed (all_passed walk items) more
passed_on [] more walk = refl
passed_on (item ∷ items) more walk = passed_on items more (passed walk item)

-- over what is seen of some and of more
pub seen_on : (t : Tables) (walk : Walk) (items more : List Aged)
    → all_passed walk (map (seen_of t) (items ++ more)) ≡ all_passed (all_passed walk (map (seen_of t) items)) (map (seen_of t) more)
seen_on t walk items more =
    ap (all_passed walk) (map-append (seen_of t) items more) ∙ passed_on (map (seen_of t) items) (map (seen_of t) more) walk

-- ---- what is seen of items

pub map_reverse : {X Y : Type 0} (f : X → Y) (xs : List X) → map f (reverse xs) ≡ reverse (map f xs)
map_reverse f [] = refl
map_reverse {Y = Y} f (x ∷ xs) =
    ap (map f) (reverse-append (x ∷ []) xs)
    ∙ map-append f (reverse xs) (x ∷ [])
    ∙ ap (λ (all : List Y). all ++ f x ∷ []) (map_reverse f xs)
    ∙ sym (reverse-append (f x ∷ []) (map f xs))

seen_aged : (t : Tables) (items : List ItemRow) → map (seen_of t) (map aged_of items) ≡ map (trashed (item_size t)) items
seen_aged t [] = refl
seen_aged t (item ∷ items) = ap (λ (all : List Trashed). trashed (item_size t) item ∷ all) (seen_aged t items)

seen_oldest : (t : Tables) (items : List ItemRow)
    → map (seen_of t) (oldest_first items) ≡ map (trashed (item_size t)) (reverse (newest_first items))
seen_oldest t items =
    map_reverse (seen_of t) (map aged_of (newest_first items))
    ∙ ap reverse (seen_aged t (newest_first items))
    ∙ sym (map_reverse (trashed (item_size t)) (newest_first items))

-- so over a user's items, whose sizes it is told the sum of, it takes those that go
pub walked : (t : Tables) (now quota total : ℕ) (items : List ItemRow) (aged : List Aged) → aged ≡ oldest_first items
    → total ≡ sum_by (item_size t) items
    → (all_passed (starting now (trash_bound quota) total) (map (seen_of t) aged)).gone ≡ gone_of t now quota items
walked t now quota total items aged order sum =
    ap (λ (n : ℕ). (all_passed (starting now (trash_bound quota) n) (map (seen_of t) aged)).gone) sum
    ∙ ap (λ (all : List Aged). (all_passed (starting now (trash_bound quota) (sum_by (item_size t) items)) (map (seen_of t) all)).gone) order
    ∙ ap (λ (all : List Trashed). (all_passed (starting now (trash_bound quota) (sum_by (item_size t) items)) all).gone) (seen_oldest t items)
    ∙ walk_going (item_size t) now (trash_bound quota) items

-- ---- without an item

-- where all pass a test all are left
pub all_left : {X : Type 0} (test : X → Bool) (xs : List X) → All (λ (x : X). test x ≡ true) xs → filter test xs ≡ xs
all_left test [] passes = refl
all_left {X = X} test (x ∷ xs) passes =
    rw (All-head (λ (x : X). test x ≡ true) x xs passes)
    (ap (λ (rest : List X). x ∷ rest) (all_left test xs (All-tail (λ (x : X). test x ≡ true) x xs passes)))

-- the sizes of the others and its own are all
sum_without : (f : ItemRow → ℕ) (node : ℕ) (items : List ItemRow) (item : ItemRow) → AreItemsApart items → item_row items node ≡ Some item
    → sum_by f (filter (λ other. not (other.node == node)) items) + f item ≡ sum_by f items
sum_without f node [] item apart there = absurd (none-some item there)
sum_without f node (first ∷ items) item apart there =
    here (first.node == node) refl (sum_without f node items item (λ i j d before within. apart (suc i) (suc j) d (omega arith) (omega arith)))
  where
    here : (is : Bool) → (first.node == node) ≡ is
        → (item_row items node ≡ Some item → sum_by f (filter (λ other. not (other.node == node)) items) + f item ≡ sum_by f items)
        → sum_by f (if not is then first ∷ filter (λ other. not (other.node == node)) items else filter (λ other. not (other.node == node)) items) + f item
        ≡ sum_by f (first ∷ items)
    here true e others_sum =
        let same : first ≡ item = same_Some first item (rw e at there) in
        let others = all_left (λ (other : ItemRow). not (other.node == node)) items (λ k d within.
        ap not (ne_eqb (get_or items k d).node node (λ is. apart 0 (suc k) d (omega arith) (omega arith) (eqb-true first.node node e ∙ sym is)))) in
        omega (arith, ap (sum_by f) others, ap f same, sum_by-cons f first items)
    here false e others_sum =
        let left = others_sum (rw e at there) in
        omega (arith, left, sum_by-cons f first items, sum_by-cons f first (filter (λ (other : ItemRow). not (other.node == node)) items))

-- it is among those of its owner
found_passing : (test : ItemRow → Bool) (items : List ItemRow) (node : ℕ) (item : ItemRow) → item_row items node ≡ Some item
    → test item ≡ true → item_row (filter test items) node ≡ Some item
found_passing test [] node item there passes = absurd (none-some item there)
found_passing test (first ∷ items) node item there passes =
    here (first.node == node) (test first) refl refl (λ behind. found_passing test items node item behind passes)
  where
    here : (is stays : Bool) → (first.node == node) ≡ is → test first ≡ stays
        → (item_row items node ≡ Some item → item_row (filter test items) node ≡ Some item)
        → item_row (if stays then first ∷ filter test items else filter test items) node ≡ Some item
    here true true e f behind = rw e (rw e at there)
    here true false e f behind =
        let same : first ≡ item = same_Some first item (rw e at there) in absurd (false≢true (sym f ∙ ap test same ∙ passes))
    here false true e f behind = rw e (behind (rw e at there))
    here false false e f behind = behind (rw e at there)

-- so a user's items without one are as large as all of them less that
pub sum_but : (t : Tables) (item : ItemRow) → AreSound t → item_row t.items item.node ≡ Some item
    → sum_by (item_size t) (items_but t item.owner item.node) + item_size t item ≡ sum_by (item_size t) (items_of t item.owner)
sum_but t item sound there =
    let own : ItemRow → Bool = λ other. other.owner == item.owner in
    let apart = AllPairs-filter (λ (a b : ItemRow). a.node ≢ b.node) own t.items (items_apart t.items sound.others.items_rise) in
    sum_without (item_size t) item.node (items_of t item.owner) item apart
    (found_passing own t.items item.node item there (eq-eqb item.owner item.owner refl))

-- what stands before the last
take_front : (items more : List Aged) → take (length items) (items ++ more) ≡ items
take_front [] more = refl
take_front (item ∷ items) more = ap (λ (rest : List Aged). item ∷ rest) (take_front items more)

pub but_last : (all items : List Aged) (last : Aged) → all ≡ items ++ last ∷ [] → take (length all - 1) all ≡ items
but_last all items last is =
    ap (λ (list : List Aged). take (length list - 1) list) is
    ∙ ap (λ (n : ℕ). take n (items ++ last ∷ [])) (omega (arith, length-append items (last ∷ [])))
    ∙ take_front items (last ∷ [])

-- an item that is found by its node is found by its own
pub found_itself : (items : List ItemRow) (node : ℕ) (item : ItemRow) → item_row items node ≡ Some item → item_row items item.node ≡ Some item
found_itself items node item there =
    ap (item_row items) (eqb-true item.node node (found_passes (λ (i : ItemRow). i.node == node) items item there)) ∙ there
