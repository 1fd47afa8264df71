-- A sound state stays sound by each entry that may come.
use Rattle.std.proofs.Common.{ℕ, ◌+◌, ◌≡◌, ◌≤◌, get_or, not, ◌==◌, false, true, List, [], ◌∷◌, Option, None, Some, ap, refl, sym, subst, ◌∙◌, arith, le_refl, inl, inr, ◌&&◌}
use Rattle.std.specs.List.{All, AllPairs}
use Rattle.std.specs.Option.{IfSome}
use Rattle.std.proofs.lemmas.List.Kept.{AllPairs-filter}
use Rattle.std.proofs.lemmas.List.Quantifiers.{all_pairs_push}
use Rattle.nf_base.specs.declared.content.Piece.{Piece}
use Rattle.nf_defs.specs.Prelude.{is_file, is_folder, Tables}
use Rattle.nf_defs.specs.declared.Seeker.{Seeker}
use Rattle.nf_defs.specs.declared.Seeker.TheVariants as seeker
use Rattle.nf_laws.proofs.Counters.{changed_up}
use Rattle.nf_laws.proofs.Entries.{entry_has, tickets_left, tickets_with}
use Rattle.nf_laws.proofs.Held.{act_leads, act_stays, held_on}
use Rattle.nf_laws.proofs.Links.{KeepsShares, link_stays, shares_kept}
use Rattle.nf_laws.proofs.Lists.{changes_sound}
use Rattle.nf_laws.proofs.Owned.{KeepsOwners, owners_kept}
use Rattle.nf_laws.proofs.Others.{stamp_sound}
use Rattle.nf_laws.proofs.Parts.{step_sound}
use Rattle.nf_laws.proofs.Rows.{content_has, pieces_kept, stamp, stamped_has, found_is}
use Rattle.nf_words.specs.Prelude.{after, after_mark, altered, AreApartHolds, AreSound, changed, goal_of, hold_of, HoldsFor, IsGoalSound, IsHeld, IsLegalFrom, IsPieceSound, IsSound, IsTicketSound, LeadsToRoot, MayCome, node_of_key, replay, State, ticket_for, told, with_goal, without}
use Rattle.nf_words.specs.Sound.{MayStoreBy}
use Rattle.nf_words.specs.declared.answer.Allowed.{Allowed}
use Rattle.nf_words.specs.declared.answer.Allowed.TheVariants as allowed
use Rattle.nf_words.specs.declared.answer.Goal.{Goal}
use Rattle.nf_words.specs.declared.answer.Goal.TheVariants.{Chunk, Serve, Store}
use Rattle.nf_words.specs.declared.answer.Hold.{Hold}
use Rattle.nf_words.specs.declared.history.Entry.{Entry}
use Rattle.nf_words.specs.declared.history.Event.{Event}
use Rattle.nf_words.specs.declared.history.Event.TheVariants.{Begin, End, Sweep}
use Rattle.nf_words.specs.declared.history.Mark.{Mark}
use Rattle.nf_words.specs.declared.history.Mark.TheVariants as mark
use Rattle.nf_words.specs.declared.history.Ticket.{Ticket}
use Rattle.nf_words.proofs.Ends.{known_change}
use Rattle.nf_words.proofs.Known.{Known}
use Rattle.nf_words.proofs.Ways.{HasRow}
use Rattle.nf_words.proofs.Spared.{Spares, step_spares}
use Rattle.nf_words.proofs.Steps.{differ_replay}
use Rattle.nf_words.specs.Others.{IsVersionSound}
use Rattle.nf_base.specs.declared.rows.VersionRow.{VersionRow}

-- ---- the rows

pub altered_sound : (t : Tables) (now : ℕ) (act : Allowed) → AreSound t → t.meta.last ≤ now → Known t now act
    → AreSound (stamp (altered t now act) now)
altered_sound t now (allowed.Change changes blob report) sound before known = changes_sound t now changes blob report sound before known
altered_sound t now (allowed.Deeds deeds report) sound before known = step_sound t now deeds sound before known
altered_sound t now act sound before known = stamp_sound t now sound before

-- ---- the tickets

goal_stays : (t made : Tables) (goal : Goal) → t.meta.next_node ≤ made.meta.next_node → t.meta.next_blob ≤ made.meta.next_blob
    → KeepsOwners t made → KeepsShares t made → IsGoalSound t goal → IsGoalSound made goal
goal_stays t made (Serve content) nodes blobs owners shares h = pieces_kept t made content blobs h
goal_stays t made (Chunk user dir number length) nodes blobs owners shares h = h
goal_stays t made (Store by key length) nodes blobs owners shares h = (h.0, may_store by.seeker by.mount h.1)
  where
    may_store : (who : Seeker) (mount : Option ℕ) → MayStoreBy t who mount (node_of_key key) → MayStoreBy made who mount (node_of_key key)
    may_store (seeker.User user) None own = record {
      given = omega (arith, own.given);
      owner = λ row there.
          let old = owners (node_of_key key) row own.given there in old.2 ∙ own.owner old.0 old.1;
    }
    may_store (seeker.User user) (Some mount) may = tt
    may_store (seeker.Link share) None own = absurd own
    may_store (seeker.Link share) (Some mount) is = link_stays t made share mount shares is

granted_sound : (t : Tables) (now : ℕ) (act : Allowed)
    → AreSound t → Known t now act → IfSome (goal_of act) (IsGoalSound (changed t now act))
granted_sound t now (allowed.Get node content) sound known =
    elim known.of_node [
      | inl same ↦ subst (λ (c : List Piece). All (IsPieceSound t) c) (sym same)
          (content_has (IsPieceSound t) t.nodes node (λ k d within. (sound.nodes k d within).pieces))
      | inr (version, at, found, same) ↦ subst (λ (c : List Piece). All (IsPieceSound t) c) (sym same)
          (found_is (IsVersionSound t) (λ (row : VersionRow). row.node == node && row.at == at) t.versions version sound.others.versions found).1.pieces
    ]
granted_sound t now (allowed.Put by key length) sound known = (known.short, known.storer)
granted_sound t now (allowed.Chunk user dir number length) sound known = (known.short, (known.some, known.few))
granted_sound t now act sound known = tt

-- what it holds is what its goal needs
granted_holds : (act : Allowed) → IfSome (goal_of act) (λ (goal : Goal). HoldsFor goal (hold_of act))
granted_holds (allowed.Get node content) = (node, refl)
granted_holds (allowed.Put by key length) = refl
granted_holds (allowed.Chunk user dir number length) = refl
granted_holds act = tt

-- what is there and no folder is a file
file_there : (t : Tables) (node : ℕ) → HasRow t.nodes node → is_folder t.nodes node ≡ false → is_file t.nodes node ≡ true
file_there t node of no_folder = rw of.1 (ap not (simp of.1 at no_folder))

-- what is granted is there, and held from then on
granted_held : (t : Tables) (now : ℕ) (act : Allowed) → AreSound t → Known t now act
    → IfSome (hold_of act) (λ (hold : Hold). IsHeld (changed t now act) hold.key)
granted_held t now (allowed.Get node content) sound known = file_there t node known.there known.no_folder
granted_held t now (allowed.Put by key length) sound known = known.held
granted_held t now act sound known = tt

-- and present
granted_present : (t : Tables) (now : ℕ) (act : Allowed) → Known t now act
    → IfSome (hold_of act) (λ (hold : Hold). LeadsToRoot (changed t now act).nodes (node_of_key hold.key))
granted_present t now (allowed.Get node content) known = known.present
granted_present t now (allowed.Put by key length) known = known.present
granted_present t now act known = tt

both_some : {X : Type 0} (P Q : X → Type 0) (o : Option X) → IfSome o P → IfSome o Q → IfSome o (λ (x : X). P x × Q x)
both_some P Q None p q = tt
both_some P Q (Some x) p q = (p, q)

granted_ticket : (t : Tables) (now seat : ℕ) (act : Allowed) → AreSound t → Known t now act
    → IfSome (goal_of act) (λ (goal : Goal). IsTicketSound (changed t now act) (ticket_for seat goal (hold_of act)))
granted_ticket t now seat act sound known =
    here (goal_of act) (granted_held t now act sound known) (granted_present t now act known) (both_some (IsGoalSound (changed t now act)) (λ (goal : Goal). HoldsFor goal (hold_of act)) (goal_of act)
    (granted_sound t now act sound known) (granted_holds act))
  where
    here : (o : Option Goal) → IfSome (hold_of act) (λ (hold : Hold). IsHeld (changed t now act) hold.key)
        → IfSome (hold_of act) (λ (hold : Hold). LeadsToRoot (changed t now act).nodes (node_of_key hold.key))
        → IfSome o (λ (goal : Goal). IsGoalSound (changed t now act) goal × HoldsFor goal (hold_of act))
        → IfSome o (λ (goal : Goal). IsTicketSound (changed t now act) (ticket_for seat goal (hold_of act)))
    here None held present both = tt
    here (Some goal) held present both = record { goal = both.0; hold = both.1; held = held; present = present }

-- what stays held by a ticket that a step leaves alone
spared_held : (t : Tables) (now : ℕ) (act : Allowed) (o : Option Hold) → AreSound t → t.meta.last ≤ now → Known t now act
    → IfSome o (λ (hold : Hold). IsHeld t hold.key) → IfSome o (λ (hold : Hold). LeadsToRoot t.nodes (node_of_key hold.key))
    → IfSome o (λ (hold : Hold). Spares t now hold act) → IfSome o (λ (hold : Hold). IsHeld (changed t now act) hold.key)
spared_held t now act None sound later known held present spares = tt
spared_held t now act (Some hold) sound later known held present spares =
    held_on t (changed t now act) hold.key (act_stays t hold sound held now act later known spares present) held

-- and present
spared_present : (t : Tables) (now : ℕ) (act : Allowed) (o : Option Hold) → AreSound t → t.meta.last ≤ now → Known t now act
    → IfSome o (λ (hold : Hold). IsHeld t hold.key) → IfSome o (λ (hold : Hold). LeadsToRoot t.nodes (node_of_key hold.key))
    → IfSome o (λ (hold : Hold). Spares t now hold act) → IfSome o (λ (hold : Hold). LeadsToRoot (changed t now act).nodes (node_of_key hold.key))
spared_present t now act None sound later known held present spares = tt
spared_present t now act (Some hold) sound later known held present spares = act_leads t hold sound held now act later known spares present

-- the new hold agrees with each that its step leaves alone
granted_apart : (t : Tables) (now : ℕ) (act : Allowed) (o : Option Hold) → IfSome o (λ (hold : Hold). Spares t now hold act)
    → AreApartHolds o (hold_of act)
granted_apart t now act None spares = tt
granted_apart t now (allowed.Get node content) (Some hold) spares = λ same. let both = spares (sym same) in (both.1, both.0)
granted_apart t now (allowed.Put by key length) (Some hold) spares = λ same. let both = spares (sym same) in (both.1, both.0)
granted_apart t now act (Some hold) spares = tt

-- holds of different tickets agree
abbrev AreApart : Ticket → Ticket → Type 0
AreApart a b = AreApartHolds a.hold b.hold

apart_with : (tickets : List Ticket) (seat : ℕ) (goal : Option Goal) (hold : Option Hold) → AllPairs AreApart tickets
    → All (λ (ticket : Ticket). AreApartHolds ticket.hold hold) tickets → AllPairs AreApart (with_goal tickets seat goal hold)
apart_with tickets seat None hold pairs each = pairs
apart_with tickets seat (Some goal) hold pairs each = all_pairs_push AreApart tickets (ticket_for seat goal hold) pairs each

apart_left : (s : State) (seat : ℕ) (event : Event) → AllPairs AreApart s.tickets → AllPairs AreApart (without s seat event).tickets
apart_left s seat (Begin words request) pairs = pairs
apart_left s seat (End outcome) pairs = AllPairs-filter AreApart (λ ticket. not (ticket.seat == seat)) s.tickets pairs
apart_left s seat Sweep pairs = pairs

-- ---- the state

-- what is sound of a state at the moment, but for the seats of its tickets
abbrev Holds : ℕ → Tables → List Ticket → Type 0
Holds now t tickets = AreSound t × (t.meta.last ≤ now) × All (IsTicketSound t) tickets × AllPairs AreApart tickets

act_holds : (t : Tables) (tickets : List Ticket) (seat now : ℕ) (act : Allowed) → Known t now act → Holds now t tickets
    → All (λ (ticket : Ticket). IfSome ticket.hold (λ (hold : Hold). Spares t now hold act)) tickets
    → Holds now (changed t now act) (with_goal tickets seat (goal_of act) (hold_of act))
act_holds t tickets seat now act known h spares =
    let made = changed t now act in
    let up = changed_up t now act in
    let left : All (IsTicketSound made) tickets = λ k d within.
    let is = h.2 k d within in
    record {
      goal = goal_stays t made (get_or tickets k d).goal up.nodes up.blobs (owners_kept t now act h.0 h.1 known) (shares_kept t now act h.0 known) is.goal;
      hold = is.hold;
      held = spared_held t now act (get_or tickets k d).hold h.0 h.1 known is.held is.present (spares k d within);
      present = spared_present t now act (get_or tickets k d).hold h.0 h.1 known is.held is.present (spares k d within);
    } in (
      stamped_has AreSound t (altered t now act) now (told t act) h.0 (altered_sound t now act h.0 h.1 known),
      stamped_has (λ (u : Tables). u.meta.last ≤ now) t (altered t now act) now (told t act) h.1 (le_refl _),
      tickets_with (IsTicketSound made) tickets seat (goal_of act) (hold_of act) left (granted_ticket t now seat act h.0 known),
      apart_with tickets seat (goal_of act) (hold_of act) h.3 (λ k d within. granted_apart t now act (get_or tickets k d).hold (spares k d within)),
    )

seen_after : (s : State) (e : Entry) (m : Mark) → (after_mark s e m).seen ≡ e.moment
seen_after s e mark.Answered = refl
seen_after s e m = refl

pub sound_after : (n : ℕ) (s : State) (e : Entry) → IsSound s → MayCome n s e → IsSound (after s e)
sound_after n s e sound may =
    let first : Holds e.moment s.tables (without s e.seat e.event).tickets = (
      sound.rows,
      omega (arith, sound.seen, may.not_before),
      tickets_left (IsTicketSound s.tables) s e.seat e.event sound.tickets,
      apart_left s e.seat e.event sound.apart,
    ) in
    let h = entry_has (λ t tickets blob. Holds e.moment t tickets) s e e.mark first (λ act is.
    act_holds s.tables (without s e.seat e.event).tickets e.seat e.moment act (known_change s e.seat e.moment e.event act sound may.asked is) first
    (step_spares s e.seat e.moment e.event act sound may.asked is)) in
    record {
      rows = h.0;
      seen = omega (arith, h.1, seen_after s e e.mark);
      seats = differ_replay n s (e ∷ []) sound.seats (may, tt);
      tickets = h.2;
      apart = h.3;
    }

pub stays : (n : ℕ) (s : State) (es : List Entry) → IsSound s → IsLegalFrom n s es → IsSound (replay s es)
stays n s [] sound legal = sound
stays n s (e ∷ es) sound legal = stays (n + 1) (after s e) es (sound_after n s e sound legal.0) legal.1
