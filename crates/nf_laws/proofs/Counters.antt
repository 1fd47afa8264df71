-- Counters never fall.
use Rattle.std.proofs.Common.{ℕ, ◌≤◌, List, [], ◌∷◌, ◌++◌, arith, le_refl}
use Rattle.nf_base.specs.declared.rows.MetaRow.{MetaRow}
use Rattle.nf_defs.specs.Tables.{Tables}
use Rattle.nf_laws.proofs.Entries.{entry_has}
use Rattle.nf_laws.proofs.Lists.{counted_higher, raised_higher}
use Rattle.nf_laws.proofs.InTurn.{deeds_keep}
use Rattle.nf_laws.proofs.Rows.{stamp, stamped_has}
use Rattle.nf_laws.specs.Numbers.{AreHigher, CountersRise}
use Rattle.nf_words.specs.Prelude.{after, after_mark, altered, changed, deed_done, replay, State, told}
use Rattle.nf_words.specs.declared.answer.Allowed.{Allowed}
use Rattle.nf_words.specs.declared.answer.Allowed.TheVariants as allowed
use Rattle.nf_words.specs.declared.answer.Deed.{Deed}
use Rattle.nf_words.specs.declared.answer.Deed.TheVariants as deed
use Rattle.nf_words.specs.declared.history.Entry.{Entry}
use Rattle.nf_words.specs.declared.history.Mark.{Mark}

up : (meta : MetaRow) (now nodes : ℕ) → meta.next_node ≤ nodes → AreHigher meta (record meta { next_node = nodes; last = now })
up meta now nodes more = record { users = le_refl _; groups = le_refl _; nodes = more; shares = le_refl _; blobs = le_refl _ }

same : (meta : MetaRow) → AreHigher meta meta
same meta = up meta meta.last meta.next_node (le_refl _)

-- copies take numbers of nodes, and changes of whatever they put
deed_up : (first : MetaRow) (now : ℕ) (u : Tables) (one : Deed) → AreHigher first (record u.meta { last = now })
    → AreHigher first (record (deed_done u one).meta { last = now })
deed_up first now u (deed.Join rows) h =
    record { users = h.users; groups = h.groups; nodes = omega (arith, h.nodes); shares = h.shares; blobs = h.blobs }
deed_up first now u (deed.Discard item) h = h
deed_up first now u (deed.Purge node) h = h
deed_up first now u (deed.Restore node folder name) h = h
deed_up first now u (deed.Relink node folder name) h = h
deed_up first now u (deed.Requote row) h = h
deed_up first now u (deed.Forget node at) h = h
deed_up first now u (deed.Store changes) h =
    let up = counted_higher u.meta changes in
    record {
      users = omega (arith, h.users, up.users);
      groups = omega (arith, h.groups, up.groups);
      nodes = omega (arith, h.nodes, up.nodes);
      shares = omega (arith, h.shares, up.shares);
      blobs = omega (arith, h.blobs, up.blobs);
    }
deed_up first now u (deed.Abandon user dir) h = h

altered_up : (t : Tables) (now : ℕ) (act : Allowed) → AreHigher t.meta (stamp (altered t now act) now).meta
altered_up t now (allowed.Change changes blob report) = raised_higher t now changes blob
altered_up t now (allowed.Deeds deeds report) =
    deeds_keep (λ (u : Tables). AreHigher t.meta (record u.meta { last = now })) (deed_up t.meta now) t deeds (up t.meta now t.meta.next_node (le_refl _))
altered_up t now act = up t.meta now t.meta.next_node (le_refl _)

pub changed_up : (t : Tables) (now : ℕ) (act : Allowed) → AreHigher t.meta (changed t now act).meta
changed_up t now act =
    stamped_has (λ (u : Tables). AreHigher t.meta u.meta) t (altered t now act) now (told t act) (same t.meta) (altered_up t now act)

pub after_up : (s : State) (e : Entry) (m : Mark) → AreHigher s.tables.meta (after_mark s e m).tables.meta
after_up s e m =
    entry_has (λ t tickets blob. AreHigher s.tables.meta t.meta) s e m (same s.tables.meta) (λ act is. changed_up s.tables e.moment act)

pub counters_rise : CountersRise
counters_rise s [] = same s.tables.meta
counters_rise s (e ∷ es) =
    let first = after_up s e e.mark in
    let rest = counters_rise (after s e) es in
    record {
      users = omega (arith, first.users, rest.users);
      groups = omega (arith, first.groups, rest.groups);
      nodes = omega (arith, first.nodes, rest.nodes);
      shares = omega (arith, first.shares, rest.shares);
      blobs = omega (arith, first.blobs, rest.blobs);
    }

-- nor over entries that come after others
pub counters_go_on : (s : State) (es more : List Entry) → AreHigher (replay s es).tables.meta (replay s (es ++ more)).tables.meta
counters_go_on s [] more = counters_rise s more
counters_go_on s (e ∷ es) more = counters_go_on (after s e) es more
