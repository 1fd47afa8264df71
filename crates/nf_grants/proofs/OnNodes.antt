-- The shares of one node stand for all.
use Rattle.std.proofs.Common.{ℕ, ◌≡◌, ◌==◌, ◌&&◌, Bool, true, false, List, [], ◌∷◌, map, Option, None, Some, option_map, refl, ap, ◌∙◌}
use Rattle.std.specs.List.{All, cons_option, filter, filter_map, find}
use Rattle.std.specs.Prelude.{cond, option_and_then, if◌then◌else◌}
use Rattle.std.proofs.lemmas.List.Elements.{All-head, All-tail, All-weaker}
use Rattle.nf_access.proofs.LookUps.{find_among}
use Rattle.nf_access.specs.Access.{by_chains, grant_by, grant_of}
use Rattle.nf_access.specs.Laws.{IsBounded}
use Rattle.nf_access.specs.Shares.{Ground, chain_of, receives, share_row}
use Rattle.nf_base.specs.declared.rows.ShareRow.{ShareRow}
use Rattle.nf_defs.specs.Prelude.{IsRising, share_key}
use Rattle.nf_defs.specs.declared.Grant.{Grant}
use Rattle.nf_defs.specs.declared.Seeker.{Seeker}
use Rattle.nf_grants.specs.Grants.{grant_to}
use Rattle.nf_access.proofs.Kept.{share_row_each}
use Rattle.nf_shares.specs.Kept.{ids_of}
use Rattle.nf_shares.specs.declared.entries.Entry.{Entry}

of_mapped : {X Y Z : Type 0} (f : Y → Option Z) (h : X → Y) (xs : List X) → filter_map (λ x. f (h x)) xs ≡ filter_map f (map h xs)
of_mapped f h [] = refl
of_mapped f h (x ∷ xs) = ap (cons_option (f (h x))) (of_mapped f h xs)

-- what the numbers of some rows give is what all rows give, where the others give nothing
of_numbers : (f : ℕ → Option Grant) (h : ShareRow → Option Grant) (p : ShareRow → Bool) (rows : List ShareRow)
    → All (λ row. h row ≡ (if p row then f row.id else None)) rows → filter_map f (ids_of p rows) ≡ filter_map h rows
of_numbers f h p [] agree = refl
of_numbers f h p (row ∷ rows) agree =
    here (p row) (All-head (λ row. h row ≡ (if p row then f row.id else None)) row rows agree)
    (of_numbers f h p rows (All-tail (λ row. h row ≡ (if p row then f row.id else None)) row rows agree))
  where
    here : (b : Bool) → h row ≡ (if b then f row.id else None) → filter_map f (ids_of p rows) ≡ filter_map h rows
        → filter_map f (map (λ (row : ShareRow). row.id) (cond b (row ∷ filter p rows) (filter p rows))) ≡ cons_option (h row) (filter_map h rows)
    here true is rest = rw is (ap (cons_option (f row.id)) rest)
    here false is rest = rw is rest

-- what the entries of a node give is what the chains of all shares give there
pub by_entries : (g : Ground) (who : Seeker) (node : ℕ) (entries : List (Entry ℕ)) → IsRising share_key g.shares
    → map (λ entry. entry.share) entries ≡ ids_of (λ row. row.node == node) g.shares
    → filter_map (λ entry. grant_to g who entry.share) entries ≡ by_chains g who node
by_entries g who node entries rising same =
    of_mapped (grant_to g who) (λ entry. entry.share) entries
    ∙ ap (filter_map (grant_to g who)) same
    ∙ of_numbers (grant_to g who) (grant_of g who node) (λ row. row.node == node) g.shares
    (All-weaker (λ row. share_row g.shares row.id ≡ Some row)
    (λ row. grant_of g who node row ≡ (if row.node == node then grant_to g who row.id else None)) agree g.shares
    (share_row_each g.shares rising))
  where
    chosen : (a b : Bool) (o : Option Grant) → (if a && b then o else None) ≡ (if a then (if b then o else None) else None)
    chosen true b o = refl
    chosen false b o = refl

    agree : (row : ShareRow) → share_row g.shares row.id ≡ Some row
        → grant_of g who node row ≡ (if row.node == node then grant_to g who row.id else None)
    agree row own =
        rw own (chosen (row.node == node) (receives g.members who row) (grant_by g row.id (chain_of g.shares row.id)))

-- the row of what is found is found
pub found_row : (g : Ground) (test : ShareRow → Bool) (o : Option ℕ) → IsBounded g → o ≡ option_map (λ row. row.id) (find test g.shares)
    → option_and_then (share_row g.shares) o ≡ find test g.shares
found_row g test o bounded is = ap (option_and_then (share_row g.shares)) is ∙ over (find test g.shares) refl
  where
    over : (o : Option ShareRow) → find test g.shares ≡ o → option_and_then (share_row g.shares) (option_map (λ row. row.id) o) ≡ o
    over None found = refl
    over (Some row) found = bounded.numbered row (find_among test g.shares row found).0
