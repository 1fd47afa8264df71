use Rattle.std.proofs.Common.{ℕ, ◌≡◌, ◌++◌, take}
use Rattle.std.specs.List.{flat_map}
use Rattle.nf_shares.specs.declared.entries.Entry.{Entry}
use Rattle.nf_state.specs.Gone.{closed_entry}
use Rattle.nf_state.proofs.telling.close_on.Given as goal

-- those of the entries so far
abbrev pub invariant-loop-entry : goal.invariant-loop-entry
invariant-loop-entry l =
    l.changes ≡ l.initial.changes ++ flat_map (λ (entry : Entry ℕ). closed_entry l.view.tables l.leaf entry.share) (take l.entry-index l.entry-items)
