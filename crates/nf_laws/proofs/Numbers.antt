-- A node that wasn't there has a number that wasn't given.
use Rattle.std.proofs.Common.{ℕ, ◌+◌, ◌≡◌, ◌⊎◌, ◌≤◌, true, List, [], ◌∷◌, Option, None, inl, inr, refl, arith, le_refl}
use Rattle.std.specs.Prelude.{is_some}
use Rattle.std.specs.List.{All}
use Rattle.std.proofs.lemmas.List.Elements.{All-append, All-filter, All-push, All-weaker}
use Rattle.nf_base.specs.declared.changes.Change.{Change}
use Rattle.nf_base.specs.declared.rows.NodeRow.{NodeRow}
use Rattle.nf_defs.specs.Prelude.{filled, node_row, relinked, Tables, without_under}
use Rattle.nf_defs.specs.Tree.{trashed}
use Rattle.nf_laws.proofs.Climbs.{row_there}
use Rattle.nf_laws.proofs.Counters.{after_up}
use Rattle.nf_laws.proofs.Entries.{after_has, deeds_known_have}
use Rattle.nf_laws.proofs.Gone.{is_left}
use Rattle.nf_laws.proofs.InTurn.{Fit}
use Rattle.nf_laws.proofs.Lists.{counted_higher, nodes_have}
use Rattle.nf_laws.proofs.OneRow.{numbers_with}
use Rattle.nf_laws.proofs.Owned.{copies_new}
use Rattle.nf_laws.proofs.Stays.{sound_after}
use Rattle.nf_laws.specs.Numbers.{NumbersAreNew}
use Rattle.nf_words.proofs.Fits.{KnownChange}
use Rattle.nf_words.proofs.Known.{Known}
use Rattle.nf_words.specs.Prelude.{after, altered, AreSound, deed_done, IsLegalFrom, IsSound, replay, State}
use Rattle.nf_words.specs.declared.answer.Allowed.{Allowed}
use Rattle.nf_words.specs.declared.answer.Allowed.TheVariants as allowed
use Rattle.nf_words.specs.declared.answer.Deed.{Deed}
use Rattle.nf_words.specs.declared.answer.Deed.TheVariants as deed
use Rattle.nf_words.specs.declared.answer.Report.{Report}
use Rattle.nf_words.specs.declared.answer.Report.TheVariants as report
use Rattle.nf_words.specs.declared.history.Entry.{Entry}

-- the number of a node that was there first, or one that wasn't given then
abbrev IsOldOrNew : Tables → ℕ → Type 0
IsOldOrNew first node = (is_some (node_row first.nodes node) ≡ true) ⊎ (first.meta.next_node ≤ node)

abbrev AreOldOrNew : Tables → Tables → Type 0
AreOldOrNew first t = All (λ (row : NodeRow). IsOldOrNew first row.id) t.nodes

-- no number is given again meanwhile
abbrev Numbered : Tables → Tables → Type 0
Numbered first t = (first.meta.next_node ≤ t.meta.next_node) × AreOldOrNew first t

numbers_left : (first : Tables) (rows : List NodeRow) (node : ℕ) → All (λ (row : NodeRow). IsOldOrNew first row.id) rows
    → All (λ (row : NodeRow). IsOldOrNew first row.id) (without_under rows node)
numbers_left first rows node all = All-filter (λ row. is_left rows node row.id) (λ (row : NodeRow). IsOldOrNew first row.id) rows all

-- what changes put is new, or was there
numbers_put : (first u : Tables) (now : ℕ) (changes : List Change) (blob : Option ℕ) (told : Report) → AreSound u
    → first.meta.next_node ≤ u.meta.next_node → AreOldOrNew first u → KnownChange u now changes blob
    → AreOldOrNew first (altered u now (allowed.Change changes blob told))
numbers_put first u now changes blob told sound later all known =
    nodes_have (All (λ (row : NodeRow). IsOldOrNew first row.id)) (λ change. Unit {0}) u now changes blob told sound.rising known (λ k d within. tt)
    (λ v row all it any. All-push (λ (row : NodeRow). IsOldOrNew first row.id) v.nodes row all (inr (omega (arith, later, it.fresh))))
    (λ v row all it any. numbers_with (IsOldOrNew first) v.nodes row.id (filled row.content row.changed) (λ r. refl) all)
    (λ v row root all it. All-push (λ (row : NodeRow). IsOldOrNew first row.id) v.nodes root all (inr (omega (arith, later, it.2)))) all

-- and so are copies
numbers_done : (first u : Tables) (now : ℕ) (one : Deed) → AreSound u → Fit u now one → Numbered first u → Numbered first (deed_done u one)
numbers_done first u now (deed.Discard item) sound fit (more, all) =
    (more, numbers_with (IsOldOrNew first) u.nodes item.node trashed (λ row. refl) all)
numbers_done first u now (deed.Purge node) sound fit (more, all) = (more, numbers_left first u.nodes node all)
numbers_done first u now (deed.Restore node folder name) sound fit (more, all) =
    (more, numbers_with (IsOldOrNew first) u.nodes node (relinked folder name) (λ row. refl) all)
numbers_done first u now (deed.Relink node folder name) sound fit (more, all) =
    (more, numbers_with (IsOldOrNew first) u.nodes node (relinked folder name) (λ row. refl) all)
numbers_done first u now (deed.Join copies) sound joins (more, all) = (
  omega (arith, more),
  All-append (λ (row : NodeRow). IsOldOrNew first row.id) u.nodes copies all
      (All-weaker (λ (row : NodeRow). u.meta.next_node ≤ row.id) (λ (row : NodeRow). IsOldOrNew first row.id)
      (λ row new. inr (omega (arith, more, new))) copies (copies_new u now copies joins)),
)
numbers_done first u now (deed.Requote row) sound fit has = has
numbers_done first u now (deed.Forget node at) sound fit has = has
numbers_done first u now (deed.Store changes) sound known (more, all) =
    (omega (arith, more, (counted_higher u.meta changes).nodes), numbers_put first u now changes None report.Done sound more all known)
numbers_done first u now (deed.Abandon user dir) sound fit has = has

numbers_changed : (first t : Tables) (now : ℕ) (act : Allowed) → AreSound t → t.meta.last ≤ now → first.meta.next_node ≤ t.meta.next_node
    → AreOldOrNew first t → Known t now act → AreOldOrNew first (altered t now act)
numbers_changed first t now (allowed.Change changes blob told) sound before later all known =
    numbers_put first t now changes blob told sound later all known
numbers_changed first t now (allowed.Deeds deeds told) sound before later all known =
    (deeds_known_have (Numbered first) t now deeds sound before known (λ u one fine at fit. numbers_done first u now one fine fit) (later, all)).1
numbers_changed first t now act sound before later all known = all

numbers_stay : (first : Tables) (n : ℕ) (s : State) (es : List Entry) → IsSound s → IsLegalFrom n s es
    → first.meta.next_node ≤ s.tables.meta.next_node → AreOldOrNew first s.tables → AreOldOrNew first (replay s es).tables
numbers_stay first n s [] sound legal later all = all
numbers_stay first n s (e ∷ es) sound legal later all =
    numbers_stay first (n + 1) (after s e) es (sound_after n s e sound legal.0) legal.1
    (omega (arith, later, (after_up s e e.mark).nodes))
    (after_has (AreOldOrNew first) n s e sound legal.0 all (λ act known. numbers_changed first s.tables e.moment act sound.rows
    (omega (arith, sound.seen, legal.0.not_before)) later all known))

pub numbers_new : NumbersAreNew
numbers_new n s es sound legal =
    numbers_stay s.tables n s es sound legal (le_refl _)
    (All-weaker (λ (row : NodeRow). is_some (node_row s.tables.nodes row.id) ≡ true) (λ (row : NodeRow). IsOldOrNew s.tables row.id)
    (λ row there. inl there) s.tables.nodes (row_there s.tables.nodes))
