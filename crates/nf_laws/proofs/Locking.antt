-- What is held stays as it is by the steps of others, and whoever would touch it is refused.
use Rattle.std.proofs.Common.{◌≡◌, ◌≢◌, ◌⊎◌, inl, inr, ℕ, ◌==◌, ◌≤◌, not, find, filter, get_or, suc, Bool, true, false, List, [], ◌∷◌, ◌++◌, Option, Ok, Err, refl, sym, ap, subst, ◌∙◌, arith, le_refl}
use Rattle.std.specs.Prelude.{None, Some, Contains, nat_lt, option_and_then, option_map}
use Rattle.std.specs.List.{All, AllPairs, Any, list_any}
use Rattle.std.specs.Option.{IfSome, option_map_or, option_or}
use Rattle.std.proofs.lemmas.Bool.{and_from, and_parts, cases_Bool, eq-eqb, eqb-true, eqb-false, ltb-false, ltb-true, ne_eqb, not-true}
use Rattle.std.proofs.lemmas.List.Elements.{All-cons, All-contains, All-contains_itself, All-filter, All-weaker, filter_passes}
use Rattle.std.proofs.lemmas.List.Folds.{Any-from_list_any, list_any-from_Any}
use Rattle.std.proofs.lemmas.Option.{none-some, same_Some}
use Rattle.nf_defs.proofs.ByName.{Contains-filter}
use Rattle.nf_defs.specs.Prelude.{Access, Tables}
use Rattle.nf_laws.proofs.Entries.{entry_has}
use Rattle.nf_laws.proofs.Held.{act_stays, stays_there}
use Rattle.nf_laws.specs.Locks.{GrantedIsHeld, HeldIsThere, HoldsAgree, IsBlocked, IsInWay, KeyStays, LockedExactly, OthersSpare}
use Rattle.nf_words.proofs.Ends.{known_change}
use Rattle.nf_words.proofs.Found.{found_has, found_passes}
use Rattle.nf_words.proofs.Known.{Known}
use Rattle.nf_words.proofs.Marks.{early, early_pass}
use Rattle.nf_words.proofs.Spared.{found_apart, holds_turned, least_has, none_least, Spares, step_spares}
use Rattle.nf_words.proofs.Steps.{other_without}
use Rattle.nf_words.specs.Prelude.{access_of, allowed_of, answered_by, AreApartHolds, AreSound, asked_by, blocks, Call, call_of, changed, clashes, decision_of, earlier_rules, first_that_holds, IsHeld, IsSound, IsTicketSound, key_in_way, later_rules, LeadsToRoot, least, lesser, limit_by, limit_rule, limited, locked_rule, node_of_key, Pass, places_of, refusal_of, room_rule, Rule, State, ticket_of, Touch, touches, unless_refused, without, quota_rule, exceeded, assembled_excess}
use Rattle.nf_words.specs.declared.answer.Allowed.{Allowed}
use Rattle.nf_words.specs.declared.answer.Denial.{Denial}
use Rattle.nf_words.specs.declared.answer.Denial.TheVariants as denial
use Rattle.nf_words.specs.declared.answer.Hold.{Hold}
use Rattle.nf_words.specs.declared.answer.Excess.{Excess}
use Rattle.nf_words.specs.declared.answer.Limit.{Limit}
use Rattle.nf_words.specs.declared.answer.LockKey.{LockKey}
use Rattle.nf_words.specs.declared.history.Ticket.{Ticket}

-- ---- what is held

ticket_sound : (s : State) (seat : ℕ) (ticket : Ticket) → IsSound s → ticket_of s seat ≡ Some ticket → IsTicketSound s.tables ticket
ticket_sound s seat ticket sound is =
    subst (λ (o : Option Ticket). IfSome o (IsTicketSound s.tables)) is
    (found_has (IsTicketSound s.tables) (λ (ticket : Ticket). ticket.seat == seat) s.tickets sound.tickets)

pub held_there : HeldIsThere
held_there s seat ticket sound is = (ticket_sound s seat ticket sound is).held

pub granted_held : GrantedIsHeld
granted_held s seat ticket sound is = (ticket_sound s seat ticket sound is).hold

pub holds_agree : HoldsAgree
holds_agree s seat other ticket another sound differ one two =
    subst (λ (o : Option Ticket). IfSome o Apart) two (found_has Apart (λ (t : Ticket). t.seat == other) s.tickets each)
    (ne_eqb another.seat seat (λ same. differ (sym same ∙ eqb-true another.seat other (found_passes (λ (t : Ticket). t.seat == other) s.tickets another two))))
  where
    Apart : Ticket → Type 0
    Apart t = (t.seat == seat) ≡ false → AreApartHolds ticket.hold t.hold

    each : All Apart s.tickets
    each = found_apart (λ (a b : Ticket). AreApartHolds a.hold b.hold) holds_turned (λ (t : Ticket). t.seat == seat) s.tickets ticket sound.apart one

-- ---- the steps of others

-- what a ticket holds stays as it is by an act that leaves it alone
held_stays : (t : Tables) (now : ℕ) (act : Allowed) (o : Option Hold) → AreSound t → t.meta.last ≤ now → Known t now act
    → IfSome o (λ (hold : Hold). IsHeld t hold.key) → IfSome o (λ (hold : Hold). LeadsToRoot t.nodes (node_of_key hold.key))
    → IfSome o (λ (hold : Hold). Spares t now hold act)
    → IfSome o (λ (hold : Hold). KeyStays t (changed t now act) hold.key)
held_stays t now act None sound later known held present spares = tt
held_stays t now act (Some hold) sound later known held present spares = act_stays t hold sound held now act later known spares present

nothing_stays : (t : Tables) (o : Option Hold) → IfSome o (λ (hold : Hold). IsHeld t hold.key)
    → IfSome o (λ (hold : Hold). KeyStays t t hold.key)
nothing_stays t None held = tt
nothing_stays t (Some hold) held = stays_there t hold.key held

pub others_spare : OthersSpare
others_spare n s e seat ticket sound may differ is =
    entry_has (λ t tickets blob. IfSome ticket.hold (λ (hold : Hold). KeyStays s.tables t hold.key)) s e e.mark
    (nothing_stays s.tables ticket.hold held)
    (λ act decides.
    held_stays s.tables e.moment act ticket.hold sound.rows (omega (arith, sound.seen, may.not_before))
    (known_change s e.seat e.moment e.event act sound may.asked decides) held (ticket_sound s seat ticket sound is).present (spared act decides))
  where
    held : IfSome ticket.hold (λ (hold : Hold). IsHeld s.tables hold.key)
    held = (ticket_sound s seat ticket sound is).held

    left : ticket_of (without s e.seat e.event) seat ≡ Some ticket
    left = other_without s e.seat e.event seat differ ∙ is

    spared : (act : Allowed) → decision_of s e.seat e.moment e.event ≡ Ok act
        → IfSome ticket.hold (λ (hold : Hold). Spares s.tables e.moment hold act)
    spared act decides =
        let Left : Ticket → Type 0 = λ (t : Ticket). IfSome t.hold (λ (hold : Hold). Spares s.tables e.moment hold act) in
        subst (λ (o : Option Ticket). IfSome o Left) left
        (found_has Left (λ (t : Ticket). t.seat == seat) (without s e.seat e.event).tickets
        (step_spares s e.seat e.moment e.event act sound may.asked decides))

-- ---- who is refused

-- the least of some tickets is one of them, and none is of a lesser seat
least_low : (tickets : List Ticket) (found : Ticket) → least tickets ≡ Some found → All (λ (t : Ticket). found.seat ≤ t.seat) tickets
least_low [] found is = absurd (none-some found is)
least_low (ticket ∷ tickets) found is = here (least tickets) (λ other e. least_low tickets other e) refl (same_Some (lesser ticket (least tickets)) found is)
  where
    Low : Ticket → Ticket → Type 0
    Low a t = a.seat ≤ t.seat

    here : (o : Option Ticket) → ((other : Ticket) → least tickets ≡ Some other → All (Low other) tickets) → least tickets ≡ o → lesser ticket o ≡ found
        → All (Low found) (ticket ∷ tickets)
    here None rest e same =
        subst (λ (ts : List Ticket). All (Low found) (ticket ∷ ts)) (sym (none_least tickets e))
        (All-cons (Low found) ticket [] (subst (λ (t : Ticket). t.seat ≤ ticket.seat) same (le_refl _)) (λ k d within. absurd (omega (arith, within))))
    here (Some other) rest e same = either (cases_Bool (nat_lt other.seat ticket.seat))
      where
        low : All (Low other) tickets
        low = rest other e

        either : ((nat_lt other.seat ticket.seat) ≡ true) ⊎ ((nat_lt other.seat ticket.seat) ≡ false) → All (Low found) (ticket ∷ tickets)
        either (inl less) =
            let is : other ≡ found = simp less at same in
            subst (λ (f : Ticket). All (Low f) (ticket ∷ tickets)) is (All-cons (Low other) ticket tickets (omega (arith, ltb-true other.seat ticket.seat less)) low)
        either (inr more) =
            let is : ticket ≡ found = simp more at same in
            subst (λ (f : Ticket). All (Low f) (ticket ∷ tickets)) is
            (All-cons (Low ticket) ticket tickets (le_refl _)
            (All-weaker (Low other) (Low ticket) (λ t lower. omega (arith, lower, ltb-false other.seat ticket.seat more)) tickets low))

-- each ticket is that of its seat
found_each : (tickets : List Ticket) → AllPairs (λ (a b : Ticket). a.seat ≢ b.seat) tickets
    → All (λ (t : Ticket). find (λ (u : Ticket). u.seat == t.seat) tickets ≡ Some t) tickets
found_each [] differ = λ k d within. absurd (omega (arith, within))
found_each (x ∷ xs) differ =
    All-cons (λ (t : Ticket). find (λ (u : Ticket). u.seat == t.seat) (x ∷ xs) ≡ Some t) x xs (simp (eq-eqb x.seat x.seat refl) refl)
    (λ k d within.
    let other : x.seat ≢ (get_or xs k d).seat = differ 0 (suc k) d (omega arith) (omega (arith, within)) in
    simp (ne_eqb x.seat (get_or xs k d).seat other)
    (found_each xs (λ i j d before within. differ (suc i) (suc j) d (omega (arith, before)) (omega (arith, within))) k d within))

-- of two tickets of one seat there is one
one_of : (tickets : List Ticket) → AllPairs (λ (a b : Ticket). a.seat ≢ b.seat) tickets → (a b : Ticket) → Contains tickets a → Contains tickets b
    → a.seat ≡ b.seat → a ≡ b
one_of tickets differ a b one two same =
    let Found : Ticket → Type 0 = λ (t : Ticket). find (λ (u : Ticket). u.seat == t.seat) tickets ≡ Some t in
    let each = found_each tickets differ in
    same_Some a b
    (sym (All-contains Found tickets a each one) ∙ ap (λ (n : ℕ). find (λ (u : Ticket). u.seat == n) tickets) same ∙ All-contains Found tickets b each two)

module _ (call : Call) where
  abbrev all : List Touch
  all = touches call.state.tables (asked_by call) (places_of call)

  abbrev test : Ticket → Bool
  test ticket = blocks call.state.tables.nodes call.seat all ticket

  abbrev others : List Ticket
  others = filter test call.state.tickets

  abbrev key_of : Ticket → Option LockKey
  key_of ticket = option_map (λ hold. hold.key) ticket.hold

  abbrev way : Option LockKey
  way = key_in_way call.state.tables.nodes call.seat all call.state.tickets

  -- a ticket that the test passes is another seat's and clashes, and the other way round
  clashing : Hold → Bool
  clashing hold = list_any (λ touch. clashes call.state.tables.nodes touch hold) all

  passes_blocked : (ticket : Ticket) → test ticket ≡ true → (ticket.seat ≢ call.seat) × ((hold : Hold) × IsBlocked call ticket hold)
  passes_blocked ticket is =
      let parts = and_parts (not (ticket.seat == call.seat)) (option_map_or (λ hold. list_any (λ touch. clashes call.state.tables.nodes touch hold) all) ticket.hold false) is in
      let hold = here ticket.hold refl parts.1 in
      (eqb-false ticket.seat call.seat (not-true (ticket.seat == call.seat) parts.0), (hold.0, record { holds = hold.1; clash = hold.2 }))
    where
      here : (o : Option Hold) → ticket.hold ≡ o → option_map_or (λ hold. list_any (λ touch. clashes call.state.tables.nodes touch hold) all) o false ≡ true
          → (hold : Hold) × (ticket.hold ≡ Some hold) × Any (λ (touch : Touch). clashes call.state.tables.nodes touch hold ≡ true) all
      here None e is = absurd (cc)
      here (Some hold) e is = (hold, e, Any-from_list_any (λ touch. clashes call.state.tables.nodes touch hold) all is)

  blocked_passes : (ticket : Ticket) (hold : Hold) → ticket.seat ≢ call.seat → IsBlocked call ticket hold → test ticket ≡ true
  blocked_passes ticket hold other is =
      and_from (not (ticket.seat == call.seat)) _ (ap not (ne_eqb ticket.seat call.seat other))
      (ap (λ (o : Option Hold). option_map_or (λ hold. list_any (λ touch. clashes call.state.tables.nodes touch hold) all) o false) is.holds
      ∙ list_any-from_Any (λ touch. clashes call.state.tables.nodes touch hold) all is.clash)

  -- the key that is named is in the way
  named_in_way : (key : LockKey) → way ≡ Some key → IsInWay call key
  named_in_way key is = here (least others) refl is
    where
      There : Ticket → Type 0
      There ticket = Contains call.state.tickets ticket × (test ticket ≡ true)

      each : All There others
      each k d within = (
        All-filter test (Contains call.state.tickets) call.state.tickets (All-contains_itself call.state.tickets) k d within,
        filter_passes test call.state.tickets k d within,
      )

      here : (o : Option Ticket) → least others ≡ o → option_and_then key_of o ≡ Some key → IsInWay call key
      here None e named = absurd (none-some key named)
      here (Some ticket) e named =
          let there = subst (λ (o : Option Ticket). IfSome o There) e (least_has There others each) in
          let blocked = passes_blocked ticket there.1 in
          let low = least_low others ticket e in
          record {
            ticket = ticket;
            there = there.0;
            other = blocked.0;
            hold = blocked.1.0;
            key_is = same_Some blocked.1.0.key key (sym (ap (option_map (λ hold. hold.key)) blocked.1.1.holds) ∙ named);
            blocked = blocked.1.1;
            least = λ k d within held other also.
                let another = get_or call.state.tickets k d in
                All-contains (λ (t : Ticket). ticket.seat ≤ t.seat) others another low
                (Contains-filter test call.state.tickets another (All-contains_itself call.state.tickets k d within)
                (blocked_passes another held other also));
          }

  -- and what is in the way is named, as no seat has two tickets
  in_way_named : (key : LockKey) → AllPairs (λ (a b : Ticket). a.seat ≢ b.seat) call.state.tickets → IsInWay call key → way ≡ Some key
  in_way_named key differ is = here (least others) refl
    where
      Of : Ticket → Type 0
      Of ticket = Contains call.state.tickets ticket × (test ticket ≡ true)

      among : Contains others is.ticket
      among = Contains-filter test call.state.tickets is.ticket is.there (blocked_passes is.ticket is.hold is.other is.blocked)

      each : All Of others
      each k d within = (
        All-filter test (Contains call.state.tickets) call.state.tickets (All-contains_itself call.state.tickets) k d within,
        filter_passes test call.state.tickets k d within,
      )

      here : (o : Option Ticket) → least others ≡ o → option_and_then key_of o ≡ Some key
      here None e = absurd (no_ticket among (none_least others e))
        where
          no_ticket : Contains others is.ticket → others ≡ [] → ⊥
          no_ticket there none = All-contains (λ (t : Ticket). ⊥) others is.ticket (subst (λ (ts : List Ticket). All (λ (t : Ticket). ⊥) ts) (sym none) (λ k d within. omega (arith, within))) there
      here (Some ticket) e =
          let there = subst (λ (o : Option Ticket). IfSome o Of) e (least_has Of others each) in
          let blocked = passes_blocked ticket there.1 in
          let low : ticket.seat ≤ is.ticket.seat = All-contains (λ (t : Ticket). ticket.seat ≤ t.seat) others is.ticket (least_low others ticket e) among in
          let high : is.ticket.seat ≤ ticket.seat =
          All-contains (λ (t : Ticket). (held : Hold) → t.seat ≢ call.seat → IsBlocked call t held → is.ticket.seat ≤ t.seat) call.state.tickets ticket is.least
          there.0 blocked.1.0 blocked.0 blocked.1.1 in
          let same : ticket ≡ is.ticket = one_of call.state.tickets differ ticket is.ticket there.0 is.there (omega (arith, low, high)) in
          ap key_of same ∙ ap (option_map (λ hold. hold.key)) is.blocked.holds ∙ ap Some is.key_is

  -- what later rules answer
  locked_is : (key : LockKey) → first_that_holds later_rules (access_of call.state) call ≡ Some (denial.Locked key) → way ≡ Some key
  unfolding locked_rule limit_rule room_rule quota_rule
  locked_is key is =
      let t = call.state.tables in
      here way (limited t (places_of call) (asked_by call).makes) (limit_by call call.request.wanted)
      (option_or (exceeded t (places_of call) (asked_by call).makes) (assembled_excess call call.request.wanted)) is
    where
      here : (o : Option LockKey) (limit room : Option Limit) (excess : Option Excess)
          → option_or (option_map denial.Locked o) (option_or (option_map denial.Limit limit)
          (option_or (option_map denial.Limit room) (option_or (option_map denial.Quota excess) None))) ≡ Some (denial.Locked key) → o ≡ Some key
      here None None None None is = absurd (cc)
      here None None None (Some excess) is = absurd (cc)
      here None None (Some limit) excess is = absurd (cc)
      here None (Some limit) room excess is = absurd (cc)
      here (Some other) limit room excess is = cc

  is_locked : (key : LockKey) → way ≡ Some key → first_that_holds later_rules (access_of call.state) call ≡ Some (denial.Locked key)
  unfolding locked_rule
  is_locked key is = rw is refl

pub refused : (o : Option Denial) (act : Allowed) (refusal : Denial) → answered_by (unless_refused o act) ≡ Err refusal → o ≡ Some refusal
refused None act refusal is = absurd (cc)
refused (Some other) act refusal is = let e : other ≡ refusal = cc in ap Some e

pub all_pass : (all : List Rule) (access : Access) (call : Call) → Pass all access call → (behind : List Rule)
    → first_that_holds (all ++ behind) access call ≡ first_that_holds behind access call
all_pass [] access call passes behind = refl
all_pass (rule ∷ others) access call passes behind = rw passes.0 (all_pass others access call passes.1 behind)

pub locked_exactly : LockedExactly
locked_exactly s seat now words request key sound = (
  λ is.
      let refusal = refused (refusal_of access call) (allowed_of access call) (denial.Locked key) is in
      let h = early_pass earlier_rules later_rules access call (denial.Locked key) early refl refusal in
      (h.0, named_in_way call key (locked_is call key h.1)),
  λ h.
      ap (λ (o : Option Denial). answered_by (unless_refused o (allowed_of access call)))
      (all_pass earlier_rules access call h.0 later_rules ∙ is_locked call key (in_way_named call key sound.seats h.1)),
)
  where
    call : Call
    call = call_of s seat now words request

    access : Access
    access = access_of s
