-- What a state is after an entry: as before it but for what an event takes, or as an act made it of which its Known is known.
use Rattle.std.proofs.Common.{ℕ, ◌==◌, ◌≡◌, ◌≤◌, not, List, Option, None, Some, Result, Ok, Err, refl, ap, subst}
use Rattle.std.specs.List.{All}
use Rattle.std.specs.Option.{IfSome}
use Rattle.std.proofs.lemmas.List.Elements.{All-filter, All-push}
use Rattle.nf_defs.specs.Prelude.{Tables}
use Rattle.nf_laws.proofs.InTurn.{deeds_have, Fit}
use Rattle.nf_laws.proofs.Others.{stamp_sound}
use Rattle.nf_laws.proofs.Parts.{deeds_stamped, step_turn}
use Rattle.nf_laws.proofs.Rows.{stamp, stamped_has}
use Rattle.nf_laws.specs.Wholes.{blob_under}
use Rattle.nf_words.proofs.Ends.{known_change}
use Rattle.nf_words.proofs.Known.{Known, KnownSettled}
use Rattle.nf_words.specs.Prelude.{after, after_mark, altered, AreSound, blob_by, blob_of, changed, decided, decision_of, deed_done, deeds_done, goal_of, hold_of, IsSound, MayCome, State, step, ticket_for, told, with_goal, without}
use Rattle.nf_words.specs.declared.answer.Allowed.{Allowed}
use Rattle.nf_words.specs.declared.answer.Deed.{Deed}
use Rattle.nf_words.specs.declared.answer.Denial.{Denial}
use Rattle.nf_words.specs.declared.answer.Goal.{Goal}
use Rattle.nf_words.specs.declared.answer.Hold.{Hold}
use Rattle.nf_words.specs.declared.history.Entry.{Entry}
use Rattle.nf_words.specs.declared.history.Event.{Event}
use Rattle.nf_words.specs.declared.history.Event.TheVariants.{Begin, End, Sweep}
use Rattle.nf_words.specs.declared.history.Mark.{Mark}
use Rattle.nf_words.specs.declared.history.Mark.TheVariants as mark
use Rattle.nf_words.specs.declared.history.Ticket.{Ticket}

-- ---- the tickets

-- what all tickets have, those that an event leaves have
pub tickets_left : (P : Ticket → Type 0) (s : State) (seat : ℕ) (event : Event) → All P s.tickets → All P (without s seat event).tickets
tickets_left P s seat (Begin words request) all = all
tickets_left P s seat (End outcome) all = All-filter (λ ticket. not (ticket.seat == seat)) P s.tickets all
tickets_left P s seat Sweep all = all

-- and those with the one that is granted, which has it
pub tickets_with : (P : Ticket → Type 0) (tickets : List Ticket) (seat : ℕ) (goal : Option Goal) (hold : Option Hold)
    → All P tickets → IfSome goal (λ (goal : Goal). P (ticket_for seat goal hold)) → All P (with_goal tickets seat goal hold)
tickets_with P tickets seat None hold all one = all
tickets_with P tickets seat (Some goal) hold all one = All-push P tickets _ all one

-- ---- a step

-- what an event takes is no row
pub same_tables : (s : State) (seat : ℕ) (event : Event) → s.tables ≡ (without s seat event).tables
same_tables s seat (Begin words request) = refl
same_tables s seat (End outcome) = refl
same_tables s seat Sweep = refl

-- what holds with a refusal, and of each act that is decided on, holds after the step
pub step_has : (P : Tables → List Ticket → Result Allowed Denial → Type 0) (s : State) (seat now : ℕ) (event : Event)
    → ((refusal : Denial) → P s.tables (without s seat event).tickets (Err refusal))
    → ((act : Allowed) → decision_of s seat now event ≡ Ok act
    → P (changed s.tables now act) (with_goal (without s seat event).tickets seat (goal_of act) (hold_of act)) (Ok act))
    → P (step s seat now event).tables (step s seat now event).tickets (decision_of s seat now event)
step_has P s seat now event refused acts = here (decision_of s seat now event) acts
  where
    left : State
    left = without s seat event

    here : (d : Result Allowed Denial)
        → ((act : Allowed) → d ≡ Ok act → P (changed s.tables now act) (with_goal left.tickets seat (goal_of act) (hold_of act)) (Ok act))
        → P (decided left seat now d).tables (decided left seat now d).tickets d
    here (Ok act) acts =
        subst (λ (t : Tables). P (changed t now act) (with_goal left.tickets seat (goal_of act) (hold_of act)) (Ok act)) (same_tables s seat event) (acts act refl)
    here (Err refusal) acts = subst (λ (t : Tables). P t left.tickets (Err refusal)) (same_tables s seat event) (refused refusal)

-- the tables that an act makes
pub step_changed : (s : State) (seat now : ℕ) (event : Event) (act : Allowed) → decision_of s seat now event ≡ Ok act
    → (step s seat now event).tables ≡ changed s.tables now act
step_changed s seat now event act =
    step_has (λ t tickets decision. decision ≡ Ok act → t ≡ changed s.tables now act) s seat now event (λ refusal is. absurd (cc))
    (λ other decides is. let same : other ≡ act = cc in ap (changed s.tables now) same)

-- what the tables have before known deeds, and each deed keeps where it is done, they have after them
pub deeds_known_have : (P : Tables → Type 0) (t : Tables) (now : ℕ) (deeds : List Deed) → AreSound t → t.meta.last ≤ now → KnownSettled t now deeds
    → ((u : Tables) (one : Deed) → AreSound u → u.meta.last ≡ now → Fit u now one → P u → P (deed_done u one))
    → P (stamp t now) → P (stamp (deeds_done t deeds) now)
deeds_known_have P t now deeds sound later known keeps has =
    subst P (deeds_stamped t now deeds)
    (deeds_have P now keeps (stamp t now) deeds (stamp_sound t now sound later) refl (step_turn t now deeds sound later known) has)

-- ---- an entry

pub entry_has : (P : Tables → List Ticket → Option ℕ → Type 0) (s : State) (e : Entry) (m : Mark)
    → P s.tables (without s e.seat e.event).tickets None
    → ((act : Allowed) → decision_of s e.seat e.moment e.event ≡ Ok act
    → P (changed s.tables e.moment act) (with_goal (without s e.seat e.event).tickets e.seat (goal_of act) (hold_of act)) (blob_of act))
    → P (after_mark s e m).tables (after_mark s e m).tickets (blob_under s e m)
entry_has P s e mark.Answered same acts =
    step_has (λ t tickets decision. P t tickets (blob_by decision)) s e.seat e.moment e.event (λ refusal. same) acts
entry_has P s e m same acts = subst (λ (t : Tables). P t (without s e.seat e.event).tickets None) (same_tables s e.seat e.event) same

-- what the tables have before the entry, and those that an act makes once the moment is stamped, they have after it
pub after_has : (P : Tables → Type 0) (n : ℕ) (s : State) (e : Entry) → IsSound s → MayCome n s e → P s.tables
    → ((act : Allowed) → Known s.tables e.moment act → P (stamp (altered s.tables e.moment act) e.moment))
    → P (after s e).tables
after_has P n s e sound may same acts =
    entry_has (λ t tickets blob. P t) s e e.mark same (λ act is.
    stamped_has P s.tables (altered s.tables e.moment act) e.moment (told s.tables act) same
    (acts act (known_change s e.seat e.moment e.event act sound may.asked is)))
