-- No act but one with deeds changes what is in the trash: the same rows are there afterwards, and all others are present.
use Rattle.std.proofs.Common.{ℕ, ◌==◌, ◌&&◌, ◌≡◌, ◌≤◌, Bool, true, false, not, List, [], ◌∷◌, ◌++◌, Option, None, Some, Ok, get_or, if◌then◌else◌, inl, inr, refl, sym, ap, subst, ◌∙◌, arith}
use Rattle.std.specs.Prelude.{is_some, sum_by}
use Rattle.std.specs.List.{All}
use Rattle.std.specs.Option.{option_and_then}
use Rattle.std.proofs.lemmas.Bool.{and_cases, and_parts, both_ways, cases_Bool, false_from_ne_true, not-false, not-true, not_from_false}
use Rattle.std.proofs.lemmas.List.{append-nil}
use Rattle.std.proofs.lemmas.List.Elements.{All-append, All-cons, All-nil, filter-append}
use Rattle.std.proofs.lemmas.List.Filters.{sum_by-filter_both}
use Rattle.nf_base.specs.declared.changes.Change.{Change}
use Rattle.nf_base.specs.declared.rows.NodeRow.{NodeRow}
use Rattle.nf_defs.proofs.Climbs.{under_climb}
use Rattle.nf_defs.specs.Prelude.{filled, folder_of, is_present, is_root_place, node_row, Tables, with_node}
use Rattle.nf_laws.proofs.Added.{new_there}
use Rattle.nf_laws.proofs.Charging.{sums_agree}
use Rattle.nf_laws.proofs.Climbs.{climb_passes, climb_same, IsClosed, node_row_each, parent_at, row_of_those, some_there, those}
use Rattle.nf_laws.proofs.Entries.{entry_has}
use Rattle.nf_laws.proofs.Lists.{nodes_have}
use Rattle.nf_laws.proofs.OneRow.{filter_with, KeepsId, with_each}
use Rattle.nf_laws.proofs.Presence.{leads_present, present_there}
use Rattle.nf_laws.proofs.Present.{kept_leads, never_trash, root_leads}
use Rattle.nf_laws.proofs.Replaced.{kept_replaced}
use Rattle.nf_laws.proofs.Rows.{AreKept, kept_joined, parent_there, row_id, row_is, stamped_has}
use Rattle.nf_laws.proofs.Sizes.{weight}
use Rattle.nf_laws.proofs.Stays.{sound_after}
use Rattle.nf_laws.proofs.Weighing.{parts_sum}
use Rattle.nf_laws.specs.Charges.{bytes_trashed, owned_bytes, trashed_bytes}
use Rattle.nf_laws.specs.Tree.{IsTrashed}
use Rattle.nf_words.proofs.Ends.{known_change}
use Rattle.nf_words.proofs.Fits.{KnownChange}
use Rattle.nf_words.proofs.Known.{Known}
use Rattle.nf_words.proofs.Ways.{inside_present}
use Rattle.nf_words.specs.Prelude.{after, altered, AreSound, decision_of, IsSound, LeadsToRoot, MayCome, State, told}
use Rattle.nf_words.specs.declared.answer.Allowed.{Allowed}
use Rattle.nf_words.specs.declared.answer.Allowed.TheVariants as allowed
use Rattle.nf_words.specs.declared.answer.Report.{Report}
use Rattle.nf_words.specs.declared.history.Entry.{Entry}

-- a node that is there and not present
abbrev pub is_gone : Tables → ℕ → Bool
is_gone t node = is_some (node_row t.nodes node) && not (is_present t.users t.nodes node)

-- of some rows those that are in the trash in the tables are as they are there, and all others are present
pub record KeepsTrash (t : Tables) (rows : List NodeRow) : Type 0 where
  pub same : those (is_gone t) rows ≡ those (is_gone t) t.nodes
  pub present : All (λ (row : NodeRow). is_gone t row.id ≡ false → LeadsToRoot rows row.id) rows

module _ (t : Tables) (sound : AreSound t) where
  abbrev gone : ℕ → Bool
  gone = is_gone t

  -- ---- what is in the trash

  -- what is there and not in the trash is present
  stays_present : (node : ℕ) (row : NodeRow) → node_row t.nodes node ≡ Some row → gone node ≡ false → LeadsToRoot t.nodes node
  stays_present node row there stays =
      elim (and_cases (is_some (node_row t.nodes node)) (not (is_present t.users t.nodes node)) stays) [
        | inl none ↦ absurd (both_ways (is_some (node_row t.nodes node)) none (ap is_some there))
        | inr is ↦ (leads_present t node sound).1 (not-false (is_present t.users t.nodes node) is)
      ]

  pub all_kept : KeepsTrash t t.nodes
  all_kept = record {
    same = refl;
    present = λ k d within.
        let row = get_or t.nodes k d in stays_present row.id row (node_row_each t.nodes sound.rising k d within);
  }

  -- a number that wasn't given yet is none of a node in the trash
  fresh_stays : (node : ℕ) → t.meta.next_node ≤ node → gone node ≡ false
  fresh_stays node fresh = here (node_row t.nodes node) refl
    where
      here : (o : Option NodeRow) → node_row t.nodes node ≡ o → (is_some o && not (is_present t.users t.nodes node)) ≡ false
      here None e = refl
      here (Some row) e = let h = row_is t node row sound e in absurd (omega (arith, fresh, h.0, h.1.given))

  is_trashed : (node : ℕ) → gone node ≡ true → IsTrashed t.nodes node
  is_trashed node is =
      let both = and_parts (is_some (node_row t.nodes node)) (not (is_present t.users t.nodes node)) is in
      elim ((present_there.there t node sound).0 both.0) [
        | inl present ↦ absurd (both_ways (is_present t.users t.nodes node) (not-true (is_present t.users t.nodes node) both.1) present)
        | inr trashed ↦ trashed
      ]

  -- the folder of what is in the trash is there too
  gone_closed : IsClosed t.nodes gone
  gone_closed node parent above is =
      let both = and_parts (is_some (node_row t.nodes node)) (not (is_present t.users t.nodes node)) is in
      let row = some_there (node_row t.nodes node) both.0 in
      let folder = parent_there t node parent row.0 sound row.1 above in
      elim (cases_Bool (gone parent)) [
        | inl also ↦ also
        | inr stays ↦
            (let up = inside_present t.nodes node parent above (stays_present parent folder.0 folder.1 stays) in
            absurd (both_ways (is_present t.users t.nodes node) (not-true (is_present t.users t.nodes node) both.1) ((leads_present t node sound).0 up)))
      ]

  -- ---- other rows that keep it

  module _ (rows : List NodeRow) (kept : KeepsTrash t rows) where
    row_same : (node : ℕ) → gone node ≡ true → node_row rows node ≡ node_row t.nodes node
    row_same node is =
        sym (row_of_those gone rows node is) ∙ ap (λ (left : List NodeRow). node_row left node) kept.same ∙ row_of_those gone t.nodes node is

    -- what is present in them isn't in the trash: from there all climb as before
    present_stays : (node : ℕ) → LeadsToRoot rows node → gone node ≡ false
    present_stays node present =
        false_from_ne_true (gone node) (λ is.
        let trash = is_trashed node is in
        let up = under_climb t.nodes node trash.top.id trash.under in
        let climbs = climb_same t.nodes rows (λ k other. gone other ≡ true) (λ k other parent is above. gone_closed other parent above is)
        (λ k other is. ap (option_and_then (λ row. folder_of row.place)) (row_same other is)) up.0 node is in
        let top = climb_passes gone t.nodes gone_closed up.0 node trash.top.id up.2 is in
        never_trash up.0 rows node trash.top.id trash.top present (climbs ∙ up.2) (row_same trash.top.id top ∙ trash.there) trash.place)

    -- with a new row, which is present
    born_kept : (row : NodeRow) → t.meta.next_node ≤ row.id → LeadsToRoot (rows ++ row ∷ []) row.id → KeepsTrash t (rows ++ row ∷ [])
    born_kept row fresh up = record {
      same =
          filter-append (λ (row : NodeRow). gone row.id) rows (row ∷ [])
          ∙ ap (λ (more : List NodeRow). those gone rows ++ more) (simp (fresh_stays row.id fresh) refl)
          ∙ append-nil (those gone rows) ∙ kept.same;
      present = All-append Leads rows (row ∷ [])
          (λ k d within stays. kept_leads rows (rows ++ row ∷ []) (get_or rows k d).id (kept_joined rows (row ∷ [])) (kept.present k d within stays))
          (All-cons Leads row [] (λ stays. up) (All-nil Leads));
    }
      where
        Leads : NodeRow → Type 0
        Leads one = gone one.id ≡ false → LeadsToRoot (rows ++ row ∷ []) one.id

    -- with another row of what is present, where each node keeps its place
    filled_kept : (node : ℕ) (change : NodeRow → NodeRow) → KeepsId change → LeadsToRoot rows node → AreKept rows (with_node rows node change)
        → KeepsTrash t (with_node rows node change)
    filled_kept node change keeps up same = record {
      same = filter_with (λ (row : NodeRow). gone row.id) rows node change
          (λ row is.
          let stays = ap gone (row_id rows node row is) ∙ present_stays node up in
          (stays, ap gone (keeps row) ∙ stays)) ∙ kept.same;
      present = with_each Leads Leads rows node change (λ row h. h)
          (λ row is. subst (λ (n : ℕ). gone n ≡ false → LeadsToRoot (with_node rows node change) n) (sym (keeps row)))
          (λ k d within stays. kept_leads rows (with_node rows node change) (get_or rows k d).id same (kept.present k d within stays));
    }
      where
        Leads : NodeRow → Type 0
        Leads row = gone row.id ≡ false → LeadsToRoot (with_node rows node change) row.id

  -- just what isn't present in sound tables that keep it is in the trash
  gone_is : (made : Tables) → AreSound made → KeepsTrash t made.nodes
      → All (λ (row : NodeRow). not (is_present made.users made.nodes row.id) ≡ gone row.id) made.nodes
  gone_is made fine kept k d within =
      elim (cases_Bool (gone node)) [
        | inl is ↦
            not_from_false (is_present made.users made.nodes node) (false_from_ne_true (is_present made.users made.nodes node) (λ present.
            both_ways (gone node) (present_stays made.nodes kept node ((leads_present made node fine).1 present)) is)) ∙ sym is
        | inr stays ↦ ap not ((leads_present made node fine).0 (kept.present k d within stays)) ∙ sym stays
      ]
    where
      node : ℕ
      node = (get_or made.nodes k d).id

-- so as many bytes of a user's are in the trash as before
pub trash_same : (t made : Tables) (user : ℕ) → AreSound t → AreSound made → KeepsTrash t made.nodes
    → bytes_trashed made user ≡ bytes_trashed t user
trash_same t made user sound later kept =
    of_those made later kept ∙ ap (sum_by (owned_bytes user)) kept.same ∙ sym (of_those t sound (all_kept t sound))
  where
    swapped : (own gone : Bool) (n : ℕ) → (if own && gone then n else 0) ≡ (if gone then (if own then n else 0) else 0)
    swapped true gone n = refl
    swapped false true n = refl
    swapped false false n = refl

    of_those : (u : Tables) → AreSound u → KeepsTrash t u.nodes
        → bytes_trashed u user ≡ sum_by (owned_bytes user) (those (is_gone t) u.nodes)
    of_those u fine kept =
        omega (
          arith,
          sums_agree (trashed_bytes u user) (λ (row : NodeRow). if is_gone t row.id then owned_bytes user row else 0) u.nodes
              (λ k d within.
              let row = get_or u.nodes k d in
              ap (λ (gone : Bool). if row.owner == user && gone then weight row else 0) (gone_is t sound u fine kept k d within)
              ∙ swapped (row.owner == user) (is_gone t row.id) (weight row)),
          parts_sum (owned_bytes user) (λ row. is_gone t row.id) u.nodes,
          sum_by-filter_both (λ (row : NodeRow). is_gone t row.id) (λ (row : NodeRow). not (is_gone t row.id)) (λ row. refl) (owned_bytes user) u.nodes,
        )

-- ---- changes of rows

changes_kept : (t : Tables) (now : ℕ) (changes : List Change) (blob : Option ℕ) (report : Report) → AreSound t → KnownChange t now changes blob
    → KeepsTrash t (altered t now (allowed.Change changes blob report)).nodes
changes_kept t now changes blob report sound known =
    nodes_have (KeepsTrash t) (λ change. Unit {0}) t now changes blob report sound.rising known (λ k d within. tt)
    (λ u row kept it any.
    let born = it.born in
    let made = u.nodes ++ row ∷ [] in
    born_kept t sound u.nodes kept row it.fresh
    (inside_present made row.id born.folder (parent_at made row.id born.folder row (new_there u.nodes row born.newest) born.place)
    (kept_leads u.nodes made born.folder (kept_joined u.nodes (row ∷ [])) born.present)))
    (λ u row kept it any.
    filled_kept t sound u.nodes kept row.id (filled row.content row.changed) (λ r. refl) it.filled.present
    (kept_replaced u.nodes row.changed row.id row.content))
    (λ u row root kept it.
    born_kept t sound u.nodes kept root it.2
    (root_leads (u.nodes ++ root ∷ []) root.id
    (rw (new_there u.nodes root it.1.newest_node) (ap is_root_place it.1.place))))
    (all_kept t sound)

-- ---- acts without deeds

abbrev pub IsOther : Allowed → Type 0
IsOther (allowed.Deeds deeds report) = ⊥
IsOther act = Unit {0}

pub act_kept : (t : Tables) (now : ℕ) (act : Allowed) → AreSound t → t.meta.last ≤ now → Known t now act → IsOther act
    → KeepsTrash t (altered t now act).nodes
act_kept t now (allowed.Change changes blob report) sound later known other = changes_kept t now changes blob report sound known
act_kept t now (allowed.Deeds deeds report) sound later known other = absurd other
act_kept t now act sound later known other = all_kept t sound

-- ---- the law

-- after each entry whose act has no deeds as many bytes of a user's are in the trash as before
pub trash_after : (n : ℕ) (s : State) (e : Entry) (user : ℕ) → IsSound s → MayCome n s e
    → ((act : Allowed) → decision_of s e.seat e.moment e.event ≡ Ok act → IsOther act)
    → bytes_trashed (after s e).tables user ≡ bytes_trashed s.tables user
trash_after n s e user sound may others =
    trash_same s.tables (after s e).tables user sound.rows (sound_after n s e sound may).rows
    (entry_has (λ t tickets blob. KeepsTrash s.tables t.nodes) s e e.mark (all_kept s.tables sound.rows) (λ act is.
    stamped_has (λ (t : Tables). KeepsTrash s.tables t.nodes) s.tables (altered s.tables e.moment act) e.moment (told s.tables act)
    (all_kept s.tables sound.rows)
    (act_kept s.tables e.moment act sound.rows (omega (arith, sound.seen, may.not_before))
    (known_change s e.seat e.moment e.event act sound may.asked is) (others act is))))
