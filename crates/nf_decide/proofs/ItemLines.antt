-- The lines of the items of a user's trash.
use Rattle.std.proofs.Common.{ℕ, zero, suc, ◌==◌, ◌≡◌, List, [], ◌∷◌, Option, Some, filter_map, get_or, map, refl, sym, ap, ◌∙◌, arith}
use Rattle.std.specs.List.{All, cons_option}
use Rattle.std.specs.Option.{option_and_then}
use Rattle.std.proofs.lemmas.Bool.{eq-eqb, ne_eqb}
use Rattle.std.proofs.lemmas.Cmp.{tied_itself}
use Rattle.std.proofs.lemmas.List.Elements.{All-filter, All-head, All-tail}
use Rattle.std.proofs.lemmas.List.Sorted.{All-permutation}
use Rattle.nf_base.specs.declared.rows.ItemRow.{ItemRow}
use Rattle.nf_defs.proofs.Puts.{key_total}
use Rattle.nf_defs.specs.Prelude.{IsRising, item_key, item_row, key_cmp, Tables}
use Rattle.nf_retention.proofs.Newest.{newest_right}
use Rattle.nf_retention.specs.Trash.{newest_first, trashed}
use Rattle.nf_retention.specs.declared.trash.Trashed.{Trashed}
use Rattle.nf_words.specs.Prelude.{AreSound, item_line, item_lines, item_size, items_of}
use Rattle.nf_decide.specs.Listed.{line_at}

-- an item is found by its node
abbrev IsFound : List ItemRow → ItemRow → Type 0
IsFound items item = item_row items item.node ≡ Some item

-- where the keys rise, each is
found_each : (items : List ItemRow) → IsRising item_key items → All (IsFound items) items
found_each [] rising k d within = absurd (omega arith)
found_each (item ∷ items) rising zero d within = rw (eq-eqb item.node item.node refl) refl
found_each (item ∷ items) rising (suc k) d within =
    let other = get_or items k d in
    let less = rising 0 (suc k) d (omega arith) within in
    rw (ne_eqb item.node other.node (λ same.
    let equal = tied_itself key_total (item_key other) in
    let below = ap (λ (n : ℕ). key_cmp (n ∷ []) (item_key other)) (sym same) ∙ less in absurd (cc)))
    (found_each items (λ i j d before within. rising (suc i) (suc j) d (omega arith) (omega arith)) k d (omega arith))

-- so each of a user's is, newest first
newest_found : (t : Tables) (user : ℕ) → AreSound t → All (IsFound t.items) (newest_first (items_of t user))
newest_found t user sound =
    All-permutation (IsFound t.items) (items_of t user) (newest_first (items_of t user)) (newest_right (items_of t user)).1
    (All-filter (λ (item : ItemRow). item.owner == user) (IsFound t.items) t.items (found_each t.items sound.others.items_rise))

-- the lines by the nodes of items are the items'
lines_by : (t : Tables) (items : List ItemRow) → All (IsFound t.items) items
    → filter_map (λ (one : Trashed). line_at t one.node) (map (trashed (item_size t)) items) ≡ filter_map (item_line t) items
lines_by t [] all = refl
lines_by t (item ∷ items) all =
    let rest = lines_by t items (All-tail (IsFound t.items) item items all) in
    ap (λ (o : Option ItemRow). cons_option (option_and_then (item_line t) o) (filter_map (λ (one : Trashed). line_at t one.node) (map (trashed (item_size t)) items)))
    (All-head (IsFound t.items) item items all)
    ∙ ap (cons_option (item_line t item)) rest

pub lines_sorted : (t : Tables) (user : ℕ) → AreSound t
    → filter_map (λ (one : Trashed). line_at t one.node) (map (trashed (item_size t)) (newest_first (items_of t user))) ≡ item_lines t user
lines_sorted t user sound = lines_by t (newest_first (items_of t user)) (newest_found t user sound)
