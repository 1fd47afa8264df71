-- Who owns a node that is there owned it before.
use Rattle.std.proofs.Common.{inl, inr, ◌≢◌, ℕ, ◌==◌, ◌≡◌, ◌<◌, ◌≤◌, List, [], ◌∷◌, Option, None, Some, refl, sym, ap, subst, ◌∙◌, arith, le_refl}
use Rattle.std.specs.List.{All}
use Rattle.std.proofs.lemmas.Bool.{cases_Bool, eqb-true}
use Rattle.std.proofs.lemmas.List.Elements.{All-cons, All-nil}
use Rattle.nf_base.specs.declared.changes.Change.{Change}
use Rattle.nf_base.specs.declared.rows.NodeRow.{NodeRow}
use Rattle.nf_defs.specs.Prelude.{filled, made, node_row, relinked, Tables, with_node}
use Rattle.nf_defs.specs.Tree.{trashed}
use Rattle.nf_laws.proofs.Climbs.{map_some}
use Rattle.nf_laws.proofs.Copied.{copies_numbered, old_joined}
use Rattle.nf_laws.proofs.Entries.{deeds_known_have}
use Rattle.nf_laws.proofs.Gone.{kept_left}
use Rattle.nf_laws.proofs.InTurn.{Fit, Joins}
use Rattle.nf_laws.proofs.Lists.{aside_nodes, changes_have, counted_higher, with_born, with_filled}
use Rattle.nf_laws.proofs.OneRow.{KeepsId, row_itself, row_other}
use Rattle.nf_laws.proofs.Peopled.{people_nodes}
use Rattle.nf_laws.proofs.Rows.{row_joined, stamped_has}
use Rattle.nf_words.proofs.Fits.{KnownChange}
use Rattle.nf_words.proofs.Known.{Known}
use Rattle.nf_words.specs.Prelude.{altered, AreSound, changed, deed_done, purged, told}
use Rattle.nf_words.specs.declared.answer.Allowed.{Allowed}
use Rattle.nf_words.specs.declared.answer.Allowed.TheVariants as allowed
use Rattle.nf_words.specs.declared.answer.Deed.{Deed}
use Rattle.nf_words.specs.declared.answer.Deed.TheVariants as deed
use Rattle.nf_words.specs.declared.answer.Report.{Report}
use Rattle.nf_words.specs.declared.answer.Report.TheVariants as report

-- the row is that of the same owner
abbrev WasOf : List NodeRow → ℕ → NodeRow → Type 0
WasOf rows node row = (old : NodeRow) × (node_row rows node ≡ Some old) × (row.owner ≡ old.owner)

-- so is each that is there and whose number was given before
abbrev pub KeepsOwners : Tables → Tables → Type 0
KeepsOwners t made = (node : ℕ) (row : NodeRow) → node < t.meta.next_node → node_row made.nodes node ≡ Some row → WasOf t.nodes node row

-- a node with a number that wasn't given before is none of these
pub new_owners : (t u : Tables) (row : NodeRow) → KeepsOwners t u → t.meta.next_node ≤ row.id → KeepsOwners t (with_born u row)
new_owners t u new keeps fresh node row given there =
    keeps node row given
    (sym (row_joined u.nodes (new ∷ []) node
    (All-cons (λ (row : NodeRow). row.id ≢ node) new [] (λ same. absurd (omega (arith, fresh, given))) (All-nil (λ (row : NodeRow). row.id ≢ node))))
    ∙ there)

with_owners : (t made : Tables) (node : ℕ) (change : NodeRow → NodeRow) → KeepsId change → ((row : NodeRow) → (change row).owner ≡ row.owner)
    → made.nodes ≡ with_node t.nodes node change → (other : ℕ) (row : NodeRow) → node_row made.nodes other ≡ Some row → WasOf t.nodes other row
with_owners t made node change keeps owner nodes other row there =
    let found = subst (λ (rows : List NodeRow). node_row rows other ≡ Some row) nodes there in
    elim (cases_Bool (other == node)) [
      | inl e ↦
          (let is = subst (λ (n : ℕ). node_row (with_node t.nodes n change) other ≡ Some row) (sym (eqb-true other node e)) found in
          let old = map_some change (node_row t.nodes other) row (sym (row_itself t.nodes other change keeps) ∙ is) in
          (old.0, old.1, ap (λ (r : NodeRow). r.owner) (sym old.2) ∙ owner old.0))
      | inr e ↦ (row, sym (row_other t.nodes node change keeps other e) ∙ found, refl)
    ]

-- what tables keep, further tables keep that keep it of them
also_owners : (t u made : Tables) → KeepsOwners t u → ((node : ℕ) (row : NodeRow) → node_row made.nodes node ≡ Some row → WasOf u.nodes node row)
    → KeepsOwners t made
also_owners t u made keeps then node row given there =
    let h = then node row there in let old = keeps node h.0 given h.1 in (old.0, old.1, h.2 ∙ old.2)

-- another content has no other owner
pub filled_owners : (t u : Tables) (row : NodeRow) → KeepsOwners t u → KeepsOwners t (with_filled u row)
filled_owners t u row keeps =
    also_owners t u (with_filled u row) keeps
    (with_owners u (with_filled u row) row.id (filled row.content row.changed) (λ r. refl) (λ r. refl) refl)

pub all_owners : (t : Tables) → KeepsOwners t t
all_owners t node row given there = (row, there, refl)

-- ---- deeds

-- a copy's number wasn't given before
pub copies_new : (u : Tables) (now : ℕ) (copies : List NodeRow) → Joins u now copies → All (λ (copy : NodeRow). u.meta.next_node ≤ copy.id) copies
copies_new u now copies joins k d within = (copies_numbered u now joins.transfer joins.name copies joins.mirrors k d within).0

-- no number is given again, and who owns what was there owned it before
abbrev Owned : Tables → Tables → Type 0
Owned t u = (t.meta.next_node ≤ u.meta.next_node) × KeepsOwners t u

relinked_owners : (t u : Tables) (node : ℕ) (change : NodeRow → NodeRow) → KeepsId change → ((row : NodeRow) → (change row).owner ≡ row.owner)
    → KeepsOwners t u → KeepsOwners t (record u { nodes = with_node u.nodes node change })
relinked_owners t u node change id owner keeps =
    let made = record u { nodes = with_node u.nodes node change } in also_owners t u made keeps (with_owners u made node change id owner refl)

-- what changes put is new, or stays its owner's
changes_owners : (t u : Tables) (now : ℕ) (changes : List Change) (blob : Option ℕ) (told : Report) → t.meta.next_node ≤ u.meta.next_node → AreSound u
    → KnownChange u now changes blob → KeepsOwners t u → KeepsOwners t (altered u now (allowed.Change changes blob told))
changes_owners t u now changes blob told more sound known first =
    changes_have (KeepsOwners t) u now changes blob told sound.rising known (λ v row keeps it. new_owners t v row keeps (omega (arith, more, it.fresh)))
    (λ v row keeps it. filled_owners t v row keeps) (λ v row keeps it. keeps) (λ v row keeps it. keeps)
    (λ v change keeps it. also_owners t v (made v change) keeps
    (λ node row there. (row, ap (λ (rows : List NodeRow). node_row rows node) (sym (people_nodes v change it)) ∙ there, refl)))
    (λ v change keeps it. also_owners t v (made v change) keeps
    (λ node row there. (row, ap (λ (rows : List NodeRow). node_row rows node) (sym (aside_nodes u blob v change it)) ∙ there, refl)))
    (λ v row root keeps it. new_owners t v root keeps (omega (arith, more, it.2))) first

-- what is moved, put in the trash or comes back stays its owner's, and so does what is left where something goes
deed_owners : (t u : Tables) (now : ℕ) (one : Deed) → AreSound u → Fit u now one → Owned t u → Owned t (deed_done u one)
deed_owners t u now (deed.Discard item) sound fit (more, keeps) = (more, relinked_owners t u item.node trashed (λ row. refl) (λ row. refl) keeps)
deed_owners t u now (deed.Purge node) sound fit (more, keeps) =
    (more, also_owners t u (purged u node) keeps (λ other row there. (row, (kept_left u.nodes node other row there).1, refl)))
deed_owners t u now (deed.Restore node folder name) sound fit (more, keeps) =
    (more, relinked_owners t u node (relinked folder name) (λ row. refl) (λ row. refl) keeps)
deed_owners t u now (deed.Relink node folder name) sound fit (more, keeps) =
    (more, relinked_owners t u node (relinked folder name) (λ row. refl) (λ row. refl) keeps)
deed_owners t u now (deed.Join copies) sound joins (more, keeps) =
    let old = old_joined u now joins.transfer joins.name copies joins.mirrors u.nodes in
    (omega (arith, more), λ node row given there. keeps node row given (sym (old node (omega (arith, more, given))) ∙ there))
deed_owners t u now (deed.Requote row) sound fit has = has
deed_owners t u now (deed.Forget node at) sound fit has = has
deed_owners t u now (deed.Store changes) sound known (more, keeps) =
    (omega (arith, more, (counted_higher u.meta changes).nodes), changes_owners t u now changes None report.Done more sound known keeps)
deed_owners t u now (deed.Abandon user dir) sound fit has = has

-- ---- every act

pub altered_owners : (t : Tables) (now : ℕ) (act : Allowed) → AreSound t → t.meta.last ≤ now → Known t now act → KeepsOwners t (altered t now act)
altered_owners t now (allowed.Change changes blob told) sound later known =
    changes_owners t t now changes blob told (le_refl _) sound known (all_owners t)
altered_owners t now (allowed.Deeds deeds told) sound later known =
    (deeds_known_have (Owned t) t now deeds sound later known (λ u one fine at fit. deed_owners t u now one fine fit) (le_refl _, all_owners t)).1
altered_owners t now act sound later known = all_owners t

pub owners_kept : (t : Tables) (now : ℕ) (act : Allowed) → AreSound t → t.meta.last ≤ now → Known t now act → KeepsOwners t (changed t now act)
owners_kept t now act sound later known =
    stamped_has (KeepsOwners t) t (altered t now act) now (told t act) (all_owners t) (altered_owners t now act sound later known)
