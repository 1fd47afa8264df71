-- Rows that are counted one after another, by runs of those in one folder.
use Rattle.std.proofs.Common.{ℕ, ◌+◌, ◌-◌, ◌*◌, ◌^◌, ◌<◌, ◌≤◌, ◌==◌, ◌≡◌, ◌≢◌, Bool, true, false, List, Option, None, Some, refl, sym, ap, ◌∙◌, subst, inl, inr, arith, length, get_or, set, take, sum_by, length-take, length-set}
use Rattle.std.specs.Prelude.{if◌then◌else◌, IfNone, IfSome}
use Rattle.std.specs.List.{All}
use Rattle.std.specs.Option.{ForSome, option_and_then, option_eq, option_map_or}
use Rattle.std.proofs.lemmas.Bool.{cases_Bool, cases_eq, eq-eqb, false≢true, ne_eqb}
use Rattle.std.proofs.lemmas.List.{get_or-set_other, get_or-set_same, get_or-take, get_or_default, get_or_read, take_all}
use Rattle.std.proofs.lemmas.List.Sums.{sum_by-le, sum_by_more}
use Rattle.std.proofs.lemmas.Option.{none-some}
use Rattle.nf_base.specs.Content.{size_of}
use Rattle.nf_base.specs.declared.limits.TheConstants.{MAX_DEPTH, MAX_NODES}
use Rattle.nf_base.specs.declared.rows.NodeRow.{NodeRow}
use Rattle.nf_defs.specs.Tree.{folder_of, is_under, node_row, parent_of}
use Rattle.nf_charge.specs.Sums.{AreCarried, AreRisingNodes, AreSums, LeadUp, LeadsUp, MayCarry, bytes_under, part}
use Rattle.nf_charge.proofs.Carrying.{IsAt, if_false, if_true, not_above, other_node, under_alone, under_self, under_step}
use Rattle.nf_charge.proofs.Climbing.{leads_parent, own_row, under_below}
use Rattle.nf_charge.proofs.Positions.{no_row}

-- so many sums, with nothing in them
pub record AreBlank (n : ℕ) (sums : List ℕ) : Type 0 where
  pub long : length sums ≡ n
  pub zero : All (λ (sum : ℕ). sum ≡ 0) sums

-- what a node's sum lacks of a run, of rows that follow one another in one folder: their bytes, if the node is that folder or above it
abbrev pub lacking : List NodeRow → Option ℕ → ℕ → ℕ → ℕ
lacking rows folder bytes top = if option_map_or (λ (f : ℕ). is_under rows f top) folder false then bytes else 0

-- sums in which the first rows are counted, which each have no more bytes than can be told, but for a run's bytes in the folders above it
pub record AreCounted (rows : List NodeRow) (n : ℕ) (folder : Option ℕ) (bytes : ℕ) (sums : List ℕ) : Type 0 where
  pub long : length sums ≡ length rows
  pub few : bytes ≤ n * 18446744073709551615
  pub leads : ForSome folder (λ (f : ℕ). LeadsUp rows (MAX_DEPTH - 1) f)
  pub each : (at : ℕ) (d : NodeRow) → at < length rows
      → get_or sums at 0 + lacking rows folder bytes (get_or rows at d).id ≡ sum_by (part rows (get_or rows at d).id) (take n rows)
  pub sized : (k : ℕ) (d : NodeRow) → k < n → size_of (get_or rows k d).content < 2 ^ 64

pub counted_none : (rows : List NodeRow) (sums : List ℕ) → length sums ≡ length rows → All (λ (sum : ℕ). sum ≡ 0) sums → AreCounted rows 0 None 0 sums
counted_none rows sums long blank = record {
  long = long;
  few = omega arith;
  leads = λ f is. absurd (none-some f is);
  each = λ at d within. omega (arith, blank at 0 (omega (arith, long)));
  sized = λ k d less. absurd (omega arith);
}

-- a row's part is at most its bytes
pub part_le : (rows : List NodeRow) (top : ℕ) (row : NodeRow) → part rows top row ≤ size_of row.content
part_le rows top row = elim (cases_Bool (is_under rows row.id top)) [
  | inl under ↦ rw under (omega arith)
  | inr outside ↦ rw outside (omega arith)
]

-- the sums of so few rows fit
counted_few : (rows : List NodeRow) (n top : ℕ) → n ≤ length rows → ((k : ℕ) (d : NodeRow) → k < n → size_of (get_or rows k d).content < 2 ^ 64)
    → sum_by (part rows top) (take n rows) ≤ n * 18446744073709551615
counted_few rows n top few sized =
    let long : length (take n rows) ≡ n = omega (arith, length-take {A = NodeRow}) in
    subst (λ (m : ℕ). sum_by (part rows top) (take n rows) ≤ m * 18446744073709551615) long
    (sum_by-le (part rows top) 18446744073709551615 (take n rows) (λ k d within.
    let less : k < n = omega (arith, long) in
    rw (get_or-take n rows k d less) (omega (arith, sized k d less, part_le rows top (get_or rows k d)))))

-- a run's bytes fit in the sums of the folders above it
pub counted_fits : (rows : List NodeRow) (n : ℕ) (folder : Option ℕ) (bytes : ℕ) (sums : List ℕ) → AreCounted rows n folder bytes sums → n ≤ length rows
    → length rows ≤ MAX_NODES → ForSome folder (λ (f : ℕ). MayCarry (MAX_DEPTH - 1) rows f 0 bytes sums)
counted_fits rows n folder bytes sums counted some few f is = λ at d within under.
    let top = (get_or rows at d).id in
    let most = counted_few rows n top some counted.sized in
    let above : option_map_or (λ (g : ℕ). is_under rows g top) folder false ≡ true =
    ap (λ (o : Option ℕ). option_map_or (λ (g : ℕ). is_under rows g top) o false) is ∙ sym (under_below rows f top (counted.leads f is)) ∙ under in
    let lack : lacking rows folder bytes top ≡ bytes = if_true _ bytes 0 above in
    (omega arith, omega (arith, lack, counted.each at d within, most))

-- a row's own sum has room for its bytes
pub counted_room : (rows : List NodeRow) (n : ℕ) (folder : Option ℕ) (bytes own v : ℕ) (sums : List ℕ) → AreCounted rows n folder bytes sums
    → n < length rows → length rows ≤ MAX_NODES → own < 2 ^ 64 → v ≡ get_or sums n v → v + own < 2 ^ 128
counted_room rows n folder bytes own v sums counted some few small is =
    let here = get_or_read sums n v (omega (arith, counted.long)) is 0 in
    omega (arith, here, counted.each n no_row some, counted_few rows n (get_or rows n no_row).id (omega arith) counted.sized)

-- ---- runs

settled : (under : Bool) (before bytes after sum : ℕ) → after ≡ (if under then before - 0 + bytes else before)
    → before + (if under then bytes else 0) ≡ sum → after + 0 ≡ sum
settled true before bytes after sum is all = omega arith
settled false before bytes after sum is all = omega arith

-- a run that ends is counted in the folders above it
pub counted_run : (rows : List NodeRow) (n : ℕ) (folder : Option ℕ) (bytes : ℕ) (before after : List ℕ) → AreCounted rows n folder bytes before
    → IfSome folder (λ (f : ℕ). AreCarried (MAX_DEPTH - 1) rows f 0 bytes before after) → IfNone folder (after ≡ before) → AreCounted rows n None 0 after
counted_run rows n None bytes before after counted carried same = subst (λ (sums : List ℕ). AreCounted rows n None 0 sums) (sym same) (record {
  long = counted.long;
  few = omega arith;
  leads = λ f is. absurd (none-some f is);
  each = counted.each;
  sized = counted.sized;
})
counted_run rows n (Some f) bytes before after counted carried same = record {
  long = carried.long ∙ counted.long;
  few = omega arith;
  leads = λ g is. absurd (none-some g is);
  each = λ at d within.
      let top = (get_or rows at d).id in
      settled (is_under rows f top) (get_or before at 0) bytes (get_or after at 0) _
      (carried.each at d within
      ∙ ap (λ (b : Bool). if b then get_or before at 0 - 0 + bytes else get_or before at 0) (under_below rows f top (counted.leads f refl)))
      (counted.each at d within);
  sized = counted.sized;
}

nothing : (b : Bool) (x : ℕ) → x + (if b then 0 else 0) ≡ x
nothing true x = omega arith
nothing false x = omega arith

-- the row at a place: the folder that it is in, and that it leads up
found_here : (rows : List NodeRow) (n : ℕ) (row d : NodeRow) → AreRisingNodes rows → n < length rows → row ≡ get_or rows n d
    → parent_of rows row.id ≡ folder_of row.place
found_here rows n row d rising some is =
    ap (option_and_then (λ (r : NodeRow). folder_of r.place)) (subst (λ (r : NodeRow). node_row rows r.id ≡ Some r) (sym is) (own_row rows n d rising some))

leads_here : (rows : List NodeRow) (n : ℕ) (row d : NodeRow) → LeadUp rows → n < length rows → row ≡ get_or rows n d → LeadsUp rows MAX_DEPTH row.id
leads_here rows n row d leads some is = subst (λ (r : NodeRow). LeadsUp rows MAX_DEPTH r.id) (sym is) (leads n d some)

-- the next run begins with nothing
pub counted_turn : (rows : List NodeRow) (n : ℕ) (folder : Option ℕ) (row d : NodeRow) (sums : List ℕ) → AreCounted rows n None 0 sums
    → AreRisingNodes rows → LeadUp rows → n < length rows → row ≡ get_or rows n d → folder ≡ folder_of row.place → AreCounted rows n folder 0 sums
counted_turn rows n folder row d sums counted rising leads some is inside = record {
  long = counted.long;
  few = omega arith;
  leads = λ f above.
      let up = found_here rows n row d rising some is ∙ sym inside ∙ above in
      (leads_parent rows MAX_DEPTH row.id f (leads_here rows n row d leads some is) up).1;
  each = λ at e within.
      nothing (option_map_or (λ (f : ℕ). is_under rows f (get_or rows at e).id) folder false) (get_or sums at 0)
      ∙ sym (nothing false (get_or sums at 0))
      ∙ counted.each at e within;
  sized = counted.sized;
}

-- a folder that passes the test of sameness is the same
pub same_folder : (test : ℕ → ℕ → Bool) (here folder : Option ℕ) → ((a b : ℕ) → test a b ≡ true → a ≡ b) → option_eq test here folder ≡ true
    → folder ≡ here
same_folder test None None same is = refl
same_folder test None (Some f) same is = absurd (false≢true is)
same_folder test (Some h) None same is = absurd (false≢true is)
same_folder test (Some h) (Some f) same is = ap Some (sym (same h f is))

-- ---- a row's part in a sum: its bytes in its own, and in those of the folders above it

-- its own lacks nothing of its run
lacks_own : (rows : List NodeRow) (node bytes : ℕ) (folder : Option ℕ) → LeadsUp rows MAX_DEPTH node → parent_of rows node ≡ folder
    → lacking rows folder bytes node ≡ 0
unfolding is_under
lacks_own rows node bytes None leads above = refl
lacks_own rows node bytes (Some f) leads above = if_false _ bytes 0 (not_above MAX_DEPTH MAX_DEPTH rows node f leads above)

-- another is above it where it is above its folder
under_folder : (rows : List NodeRow) (node top : ℕ) (folder : Option ℕ) → LeadsUp rows MAX_DEPTH node → parent_of rows node ≡ folder → node ≢ top
    → is_under rows node top ≡ option_map_or (λ (f : ℕ). is_under rows f top) folder false
unfolding is_under
under_folder rows node top None leads above other = under_alone MAX_DEPTH rows node top above other
under_folder rows node top (Some f) leads above other =
    let higher = leads_parent rows MAX_DEPTH node f leads above in
    under_step MAX_DEPTH rows node f top higher.0 above other ∙ under_below rows f top higher.1

under_own : (rows : List NodeRow) (node : ℕ) → is_under rows node node ≡ true
unfolding is_under
under_own rows node = under_self MAX_DEPTH rows node

split : (rows : List NodeRow) (node top bytes : ℕ) (folder : Option ℕ) → LeadsUp rows MAX_DEPTH node → parent_of rows node ≡ folder
    → (if is_under rows node top then bytes else 0) ≡ (if node == top then bytes else 0) + lacking rows folder bytes top
split rows node top bytes folder leads above = elim (cases_eq node top) [
  | inl same ↦
      subst (λ (t : ℕ). (if is_under rows node t then bytes else 0) ≡ (if node == t then bytes else 0) + lacking rows folder bytes t) same
      (at_own (if_true _ bytes 0 (under_own rows node)) (if_true _ bytes 0 (eq-eqb node node refl)) (lacks_own rows node bytes folder leads above))
  | inr other ↦
      ap (λ (b : Bool). if b then bytes else 0) (under_folder rows node top folder leads above other)
      ∙ at_other (if_false _ bytes 0 (ne_eqb node top other))
]
  where
    at_own : {x y z : ℕ} → x ≡ bytes → y ≡ bytes → z ≡ 0 → x ≡ y + z
    at_own a b c = omega arith

    at_other : {x y : ℕ} → y ≡ 0 → x ≡ y + x
    at_other a = omega arith

-- ---- a row more: its bytes are in its own sum, and lack in those of its folder and above

both : (b : Bool) (x y : ℕ) → (if b then x + y else 0) ≡ (if b then x else 0) + (if b then y else 0)
both true x y = refl
both false x y = refl

adds_up : (after before here lacks more all row sum next : ℕ) → after ≡ before + here → all ≡ lacks + more → row ≡ here + more → before + lacks ≡ sum
    → next ≡ sum + row → after + all ≡ next
adds_up after before here lacks more all row sum next a b c d e = omega arith

-- its bytes are put in its own sum, and in no other
own_more : (rows : List NodeRow) (n node own v : ℕ) (sums : List ℕ) → AreRisingNodes rows → IsAt rows node n
    → length sums ≡ length rows → v ≡ get_or sums n v → (at : ℕ) (d : NodeRow) → at < length rows
    → get_or (set sums n (v + own)) at 0 ≡ get_or sums at 0 + (if node == (get_or rows at d).id then own else 0)
own_more rows n node own v sums rising here long is at d within = elim (cases_eq at n) [
  | inl same ↦
      subst (λ (k : ℕ). get_or (set sums n (v + own)) k 0 ≡ get_or sums k 0 + (if node == (get_or rows k d).id then own else 0)) (sym same)
      (get_or-set_same sums n (v + own) 0 (omega (arith, here.within))
      ∙ ap (λ (x : ℕ). x + own) (get_or_read sums n v (omega (arith, here.within)) is 0)
      ∙ ap (λ (x : ℕ). get_or sums n 0 + x) (sym (if_true _ own 0 (eq-eqb node _ (sym (here.is d))))))
  | inr other ↦
      at_other (get_or-set_other sums n at (v + own) 0 other) (if_false _ own 0 (ne_eqb node _ (other_node rows node n at d rising here within other)))
]
  where
    at_other : {x y z : ℕ} → x ≡ y → z ≡ 0 → x ≡ y + z
    at_other a b = omega arith

pub counted_more : (rows : List NodeRow) (n : ℕ) (folder : Option ℕ) (bytes own v : ℕ) (row d : NodeRow) (sums : List ℕ)
    → AreCounted rows n folder bytes sums → AreRisingNodes rows → LeadUp rows → n < length rows → row ≡ get_or rows n d
    → folder ≡ folder_of row.place → own ≡ size_of row.content → own < 2 ^ 64 → v ≡ get_or sums n v → AreCounted rows (n + 1) folder (bytes + own) (set sums n (v + own))
counted_more rows n folder bytes own v row d sums counted rising leads some is inside size small at = record {
  long = length-set sums n (v + own) ∙ counted.long;
  few = omega (arith, counted.few);
  leads = counted.leads;
  each = λ k e within.
      let top = (get_or rows k e).id in
      adds_up _ _ _ _ _ _ _ _ _ (own_more rows n row.id own v sums rising here counted.long at k e within)
      (both (option_map_or (λ (f : ℕ). is_under rows f top) folder false) bytes own)
      (ap (λ (s : ℕ). if is_under rows row.id top then s else 0) (sym size)
      ∙ split rows row.id top own folder (leads_here rows n row d leads some is) (found_here rows n row d rising some is ∙ sym inside))
      (counted.each k e within)
      (sum_by_more (part rows top) rows n d some ∙ ap (λ (r : NodeRow). sum_by (part rows top) (take n rows) + part rows top r) (sym is));
  sized = λ k e less. elim (cases_eq k n) [
    | inl same ↦
        subst (λ (r : NodeRow). size_of r.content < 2 ^ 64) (is ∙ get_or_default rows n d e some ∙ ap (λ (i : ℕ). get_or rows i e) (sym same))
        (omega (arith, size))
    | inr other ↦ counted.sized k e (omega (arith, other))
  ];
}
  where
    here : IsAt rows row.id n
    here = record { within = some; is = λ e. ap (λ (r : NodeRow). r.id) (get_or_default rows n e d some ∙ sym is) }

pub counted_all : (rows : List NodeRow) (sums : List ℕ) → AreCounted rows (length rows) None 0 sums → AreSums rows sums
unfolding bytes_under
counted_all rows sums counted = record {
  weighed = record {
    long = counted.long;
    each = λ at d within.
        sym (nothing false (get_or sums at 0))
        ∙ counted.each at d within
        ∙ ap (sum_by (part rows (get_or rows at d).id)) (take_all (length rows) rows (omega arith));
  };
  sized = λ k d within. counted.sized k d within;
}
