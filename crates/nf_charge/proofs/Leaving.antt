-- What a node that leaves its folder, or enters it, makes of the sums.
use Rattle.std.proofs.Common.{ℕ, ◌+◌, ◌-◌, ◌^◌, ◌<◌, ◌≤◌, ◌≡◌, Bool, true, false, List, Option, None, Some, if◌then◌else◌, length, get_or, set, slice_index, refl, sym, ap, subst, ◌∙◌, arith}
use Rattle.std.specs.List.{All}
use Rattle.std.specs.Option.{option_and_then, option_map_or}
use Rattle.std.proofs.lemmas.Bool.{cond_both}
use Rattle.std.proofs.lemmas.List.{get_or_default, get_or_read, length-set}
use Rattle.std.proofs.lemmas.List.Sums.{sum_by-le}
use Rattle.nf_base.specs.Content.{size_of}
use Rattle.nf_base.specs.declared.limits.TheConstants.{MAX_DEPTH, MAX_NODES}
use Rattle.nf_base.specs.declared.rows.NodeRow.{NodeRow}
use Rattle.nf_base.specs.declared.rows.Place.TheVariants.{Root}
use Rattle.nf_defs.specs.Tree.{folder_of, is_under, is_under_within, parent_of}
use Rattle.nf_charge.specs.Sums.{AreCarried, AreRisingNodes, AreSums, IsLifted, LeadUp, LeadsUp, MayCarry, bytes_under, part}
use Rattle.nf_charge.proofs.Climbing.{leads_parent, under_below}
use Rattle.nf_charge.proofs.Lifting.{is_above, lifted_ids, lifted_leads, lifted_old, lifted_sizes, weighed_itself, weighed_lifted}

-- no sum is too large to be told
pub few_bytes : (rows : List NodeRow) (top : ℕ) → length rows ≤ MAX_NODES → All (λ (row : NodeRow). size_of row.content < 2 ^ 64) rows
    → bytes_under rows top < 2 ^ 128
unfolding bytes_under
few_bytes rows top few sized =
    let each : All (λ (row : NodeRow). part rows top row ≤ 18446744073709551615) rows =
    (λ k d within.
    let small : size_of (get_or rows k d).content < 18446744073709551616 = sized k d within in
    cond_both (is_under rows (get_or rows k d).id top) (size_of (get_or rows k d).content) 0 (λ (n : ℕ). n ≤ 18446744073709551615)
    (λ e. omega arith) (λ e. omega arith)) in
    omega (arith, sum_by-le (part rows top) 18446744073709551615 rows each)

-- a row out of its folder
abbrev pub alone : NodeRow → NodeRow
alone row = record row { place = Root }

pub alone_lifted : (rows : List NodeRow) (at : ℕ) (d : NodeRow) → at < length rows → IsLifted rows at (alone (get_or rows at d))
alone_lifted rows at d there =
    let same = get_or_default rows at d (alone (get_or rows at d)) there in
    record { same = ap (λ (row : NodeRow). row.id) same; alone = refl; filled = ap (λ (row : NodeRow). size_of row.content) same }

-- what a place's row says at one default it says at each
pub place_at : (rows : List NodeRow) (at : ℕ) (old row : NodeRow) (o : Option ℕ) → at < length rows → old ≡ get_or rows at old
    → folder_of old.place ≡ o
    → folder_of (get_or rows at row).place ≡ o
place_at rows at old row o there is placed = ap (λ (r : NodeRow). folder_of r.place) (get_or_default rows at row old there ∙ sym is) ∙ placed

-- and what is read of a sum is the sum
pub read_at : (rows : List NodeRow) (sums : List ℕ) (at bytes : ℕ) → AreSums rows sums → at < length rows → bytes ≡ get_or sums at bytes
    → bytes ≡ slice_index sums at
read_at rows sums at bytes are there read = get_or_read sums at bytes (omega (arith, are.weighed.long)) read 0

module _ (rows : List NodeRow) (at : ℕ) (row : NodeRow) (rising : AreRisingNodes rows) (leads : LeadUp rows) (there : at < length rows)
    (lifted : IsLifted rows at row) where
  parent_is : (o : Option ℕ) → folder_of (get_or rows at row).place ≡ o → parent_of rows row.id ≡ o
  parent_is o placed = ap (option_and_then (λ (row : NodeRow). folder_of row.place)) (lifted_old rows at row rising leads there lifted) ∙ placed

  -- its folder leads up
  pub folder_leads : (folder : ℕ) → folder_of (get_or rows at row).place ≡ Some folder → LeadsUp rows (MAX_DEPTH - 1) folder
  folder_leads folder placed =
      (leads_parent rows MAX_DEPTH row.id folder (lifted_leads rows at row rising leads there lifted) (parent_is (Some folder) placed)).1

  -- and those above it are those that the folder is under
  above_folder : (folder top : ℕ) → folder_of (get_or rows at row).place ≡ Some folder
      → is_above rows row.id top ≡ is_under_within (MAX_DEPTH - 1) rows folder top
  above_folder folder top placed =
      ap (λ (o : Option ℕ). option_map_or (λ parent. is_under rows parent top) o false) (parent_is (Some folder) placed)
      ∙ sym (under_below rows folder top (folder_leads folder placed))

  above_none : (top : ℕ) → folder_of (get_or rows at row).place ≡ None → is_above rows row.id top ≡ false
  above_none top placed = ap (λ (o : Option ℕ). option_map_or (λ parent. is_under rows parent top) o false) (parent_is None placed)

  lifted_sized : All (λ (r : NodeRow). size_of r.content < 2 ^ 64) rows → All (λ (r : NodeRow). size_of r.content < 2 ^ 64) (set rows at row)
  lifted_sized sized k d within =
      let here : k < length rows = omega (arith, length-set rows at row) in
      subst (λ (n : ℕ). n < 2 ^ 64) (sym (lifted_sizes rows at row rising leads there lifted k d here)) (sized k d here)

  -- ---- leaving

  itself_at : (sums : List ℕ) → AreSums rows sums → slice_index sums at ≡ bytes_under rows row.id
  itself_at sums are = are.weighed.each at row there ∙ ap (bytes_under rows) (sym lifted.same)

  pub leaving_fits : (folder : ℕ) (sums : List ℕ) → folder_of (get_or rows at row).place ≡ Some folder → AreSums rows sums → length rows ≤ MAX_NODES
      → MayCarry (MAX_DEPTH - 1) rows folder (slice_index sums at) 0 sums
  leaving_fits folder sums placed are few k d within under =
      let id = (get_or rows k d).id in
      let all = weighed_lifted rows at row rising leads there lifted id in
      let with_it : bytes_under rows id ≡ bytes_under (set rows at row) id + bytes_under rows row.id =
      all
      ∙ ap (λ (b : Bool). bytes_under (set rows at row) id + (if b then bytes_under rows row.id else 0)) (above_folder folder id placed ∙ under) in
      let own = itself_at sums are in
      let sum = are.weighed.each k d within in
      let bound : bytes_under rows id < 340282366920938463463374607431768211456 = few_bytes rows id few are.sized in
      (omega arith, omega arith)

  pub left_sums : (folder bytes : ℕ) (sums after : List ℕ) → folder_of (get_or rows at row).place ≡ Some folder → AreSums rows sums
      → bytes ≡ slice_index sums at
      → AreCarried (MAX_DEPTH - 1) rows folder bytes 0 sums after → AreSums (set rows at row) after
  left_sums folder bytes sums after placed are is carried = record {
    weighed = record {
      long = omega (arith, carried.long, are.weighed.long, length-set rows at row);
      each = λ k d within.
          let here : k < length rows = omega (arith, length-set rows at row) in
          let id = (get_or rows k d).id in
          let under = is_under_within (MAX_DEPTH - 1) rows folder id in
          let all : bytes_under rows id ≡ bytes_under (set rows at row) id + (if under then bytes_under rows row.id else 0) =
          weighed_lifted rows at row rising leads there lifted id
          ∙ ap (λ (b : Bool). bytes_under (set rows at row) id + (if b then bytes_under rows row.id else 0)) (above_folder folder id placed) in
          left_sum under (slice_index after k) (slice_index sums k) bytes (bytes_under rows id) (bytes_under (set rows at row) id)
          (carried.each k d here) (are.weighed.each k d here)
          (subst (λ (n : ℕ). bytes_under rows id ≡ bytes_under (set rows at row) id + (if under then n else 0))
          (sym (itself_at sums are) ∙ sym is) all)
          ∙ ap (bytes_under (set rows at row)) (sym (lifted_ids rows at row rising leads there lifted k d here));
    };
    sized = lifted_sized are.sized;
  }
    where
      left_sum : (under : Bool) (after sum bytes all still : ℕ) → after ≡ (if under then sum - bytes + 0 else sum) → sum ≡ all
          → all ≡ still + (if under then bytes else 0) → after ≡ still
      left_sum true after sum bytes all still is at parts = omega arith
      left_sum false after sum bytes all still is at parts = omega arith

  -- a node in no folder leaves none
  pub stays_out : (top : ℕ) → folder_of (get_or rows at row).place ≡ None → bytes_under rows top ≡ bytes_under (set rows at row) top
  stays_out top placed =
      weighed_lifted rows at row rising leads there lifted top
      ∙ ap (λ (b : Bool). bytes_under (set rows at row) top + (if b then bytes_under rows row.id else 0)) (above_none top placed)
      ∙ omega arith

  pub left_none : (sums : List ℕ) → folder_of (get_or rows at row).place ≡ None → AreSums rows sums → AreSums (set rows at row) sums
  left_none sums placed are = record {
    weighed = record {
      long = are.weighed.long ∙ sym (length-set rows at row);
      each = λ k d within.
          let here : k < length rows = omega (arith, length-set rows at row) in
          are.weighed.each k d here ∙ stays_out (get_or rows k d).id placed
          ∙ ap (bytes_under (set rows at row)) (sym (lifted_ids rows at row rising leads there lifted k d here));
    };
    sized = lifted_sized are.sized;
  }

  -- ---- entering

  entered_sized : All (λ (r : NodeRow). size_of r.content < 2 ^ 64) (set rows at row) → All (λ (r : NodeRow). size_of r.content < 2 ^ 64) rows
  entered_sized sized k d within =
      subst (λ (n : ℕ). n < 2 ^ 64) (lifted_sizes rows at row rising leads there lifted k d within)
      (sized k d (omega (arith, length-set rows at row)))

  lifted_at : (sums : List ℕ) → AreSums (set rows at row) sums → (k : ℕ) (d : NodeRow) → k < length rows
      → slice_index sums k ≡ bytes_under (set rows at row) (get_or rows k d).id
  lifted_at sums are k d within =
      are.weighed.each k d (omega (arith, length-set rows at row))
      ∙ ap (bytes_under (set rows at row)) (lifted_ids rows at row rising leads there lifted k d within)

  outside_at : (sums : List ℕ) → AreSums (set rows at row) sums → slice_index sums at ≡ bytes_under rows row.id
  outside_at sums are =
      lifted_at sums are at row there ∙ ap (bytes_under (set rows at row)) (sym lifted.same)
      ∙ sym (weighed_itself rows at row rising leads there lifted)

  pub entering_fits : (folder : ℕ) (sums : List ℕ) → folder_of (get_or rows at row).place ≡ Some folder → AreSums (set rows at row) sums
      → length rows ≤ MAX_NODES
      → MayCarry (MAX_DEPTH - 1) rows folder 0 (slice_index sums at) sums
  entering_fits folder sums placed are few k d within under =
      let id = (get_or rows k d).id in
      let all = weighed_lifted rows at row rising leads there lifted id in
      let with_it : bytes_under rows id ≡ bytes_under (set rows at row) id + bytes_under rows row.id =
      all
      ∙ ap (λ (b : Bool). bytes_under (set rows at row) id + (if b then bytes_under rows row.id else 0)) (above_folder folder id placed ∙ under) in
      let own = outside_at sums are in
      let sum = lifted_at sums are k d within in
      let bound : bytes_under rows id < 340282366920938463463374607431768211456 = few_bytes rows id few (entered_sized are.sized) in
      (omega arith, omega arith)

  pub entered_sums : (folder bytes : ℕ) (sums after : List ℕ) → folder_of (get_or rows at row).place ≡ Some folder → AreSums (set rows at row) sums
      → bytes ≡ slice_index sums at
      → AreCarried (MAX_DEPTH - 1) rows folder 0 bytes sums after → AreSums rows after
  entered_sums folder bytes sums after placed are is carried = record {
    weighed = record {
      long = omega (arith, carried.long, are.weighed.long, length-set rows at row);
      each = λ k d within.
          let id = (get_or rows k d).id in
          let under = is_under_within (MAX_DEPTH - 1) rows folder id in
          let all : bytes_under rows id ≡ bytes_under (set rows at row) id + (if under then bytes_under rows row.id else 0) =
          weighed_lifted rows at row rising leads there lifted id
          ∙ ap (λ (b : Bool). bytes_under (set rows at row) id + (if b then bytes_under rows row.id else 0)) (above_folder folder id placed) in
          entered_sum under (slice_index after k) (slice_index sums k) bytes (bytes_under rows id) (bytes_under (set rows at row) id)
          (carried.each k d within) (lifted_at sums are k d within)
          (subst (λ (n : ℕ). bytes_under rows id ≡ bytes_under (set rows at row) id + (if under then n else 0))
          (sym (outside_at sums are) ∙ sym is) all);
    };
    sized = entered_sized are.sized;
  }
    where
      entered_sum : (under : Bool) (after sum bytes all still : ℕ) → after ≡ (if under then sum - 0 + bytes else sum) → sum ≡ still
          → all ≡ still + (if under then bytes else 0) → after ≡ all
      entered_sum true after sum bytes all still is at parts = omega arith
      entered_sum false after sum bytes all still is at parts = omega arith

  pub entered_none : (sums : List ℕ) → folder_of (get_or rows at row).place ≡ None → AreSums (set rows at row) sums → AreSums rows sums
  entered_none sums placed are = record {
    weighed = record {
      long = are.weighed.long ∙ length-set rows at row;
      each = λ k d within. lifted_at sums are k d within ∙ sym (stays_out (get_or rows k d).id placed);
    };
    sized = entered_sized are.sized;
  }
