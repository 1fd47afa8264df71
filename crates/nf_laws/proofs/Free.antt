-- A file is read exactly while nobody else stores over it; a folder is listed whatever is held.
use Rattle.std.proofs.Common.{◌≡◌, ◌≢◌, ◌⊎◌, inl, inr, ℕ, ◌==◌, ◌&&◌, ◌||◌, not, filter, get_or, Bool, true, false, List, [], ◌∷◌, Option, refl, sym, ap, subst, ◌∙◌}
use Rattle.std.specs.Prelude.{None, Some, option_and_then, option_map}
use Rattle.std.specs.List.{All, list_any}
use Rattle.std.specs.Option.{option_map_or}
use Rattle.std.proofs.lemmas.Bool.{both_ways, cases_Bool, eqb-false, eqb-true, ne_eqb}
use Rattle.std.proofs.lemmas.List.Elements.{All-head, All-tail}
use Rattle.nf_base.specs.declared.rows.NodeRow.{NodeRow}
use Rattle.nf_defs.specs.Prelude.{is_folder}
use Rattle.nf_defs.specs.declared.Found.TheVariants.{At}
use Rattle.nf_laws.specs.Reads.{IsFreeToRead}
use Rattle.nf_words.proofs.Passing.{no_key}
use Rattle.nf_words.proofs.Spared.{none_blocks, same_self}
use Rattle.nf_words.specs.Prelude.{access_of, asked_by, blocks, Call, clashes, found, is_exclusive, least, locked_rule, places_of, same_key, Touch, touch_key, touches}
use Rattle.nf_words.specs.declared.answer.Denial.TheVariants as denial
use Rattle.nf_words.specs.declared.answer.Hold.{Hold}
use Rattle.nf_words.specs.declared.answer.LockKey.{LockKey}
use Rattle.nf_words.specs.declared.answer.LockKey.TheVariants.{Node, Slot}
use Rattle.nf_words.specs.declared.answer.Mode.{Mode}
use Rattle.nf_words.specs.declared.answer.Mode.TheVariants.{Exclusive, Shared}
use Rattle.nf_words.specs.declared.history.Ticket.{Ticket}
use Rattle.nf_words.specs.declared.request.Spot.{Spot}
use Rattle.nf_words.specs.declared.request.Wanted.TheVariants.{Get}

none_pass : {X : Type 0} (test : X → Bool) (xs : List X) → All (λ x. test x ≡ false) xs → filter test xs ≡ []
none_pass test [] all = refl
none_pass test (x ∷ xs) all =
    simp (All-head (λ x. test x ≡ false) x xs all) (none_pass test xs (All-tail (λ x. test x ≡ false) x xs all))

clash_stores : (node : ℕ) (key : LockKey) (mode : Mode) → (same_key (Node node) key && is_exclusive Shared mode) ≡ true
    → (key ≡ Node node) × (mode ≡ Exclusive)
clash_stores node (Node other) Exclusive is = here (cases_Bool (node == other))
  where
    here : ((node == other) ≡ true) ⊎ ((node == other) ≡ false) → (Node other ≡ Node node) × (Exclusive ≡ Exclusive)
    here (inl same) = (ap Node (sym (eqb-true node other same)), refl)
    here (inr differ) = absurd (both_ways (node == other) differ (both (node == other) is))
      where
        both : (b : Bool) → (b && true) ≡ true → b ≡ true
        both true h = refl
        both false h = absurd (cc)
clash_stores node (Node other) Shared is = absurd (never (node == other) is)
  where
    never : (b : Bool) → (b && false) ≡ true → ⊥
    never true h = cc
    never false h = cc
clash_stores node (Slot folder name) mode is = absurd (cc)

-- what is read alone isn't stored over by others
pub read_free : (call : Call) (node : ℕ) → touches call.state.tables (asked_by call) (places_of call) ≡ touch_key (Node node) Shared ∷ []
    → locked_rule (access_of call.state) call ≡ None → IsFreeToRead call.state call.seat node
unfolding locked_rule
read_free call node alone passes k d within other holds =
    let rows = call.state.tables.nodes in
    let ticket : Ticket = get_or call.state.tickets k d in
    let clear = subst (λ (some : List Touch). All (λ (ticket : Ticket). blocks rows call.seat some ticket ≡ false) call.state.tickets) alone
    (none_blocks rows call.seat (touches call.state.tables (asked_by call) (places_of call)) call.state.tickets (no_key _ passes)) k d within in
    absurd (both_ways (blocks rows call.seat (touch_key (Node node) Shared ∷ []) ticket) clear
    (simp (ne_eqb ticket.seat call.seat other, holds, same_self (Node node)) refl))

module _ (call : Call) (spot : Spot) (node : ℕ) (wanted : call.request.wanted ≡ Get spot) (at : found call spot ≡ At node) where
  abbrev rows : List NodeRow
  rows = call.state.tables.nodes

  abbrev all : List Touch
  all = touches call.state.tables (asked_by call) (places_of call)

  one_touch : is_folder rows node ≡ false → all ≡ touch_key (Node node) Shared ∷ []
  one_touch file = rw (wanted, at, file) refl

  no_touch : is_folder rows node ≡ true → all ≡ []
  no_touch folder = rw (wanted, at, folder) refl

  unlocked : All (λ (ticket : Ticket). blocks rows call.seat all ticket ≡ false) call.state.tickets → locked_rule (access_of call.state) call ≡ None
  unfolding locked_rule
  unlocked none =
      ap (λ (tickets : List Ticket). option_map denial.Locked (option_and_then (λ ticket. option_map (λ hold. hold.key) ticket.hold) (least tickets)))
      (none_pass (blocks rows call.seat all) call.state.tickets none)

  -- a test that no touch passes
  untouched : (own : Bool) (o : Option Hold) → (not own && option_map_or (λ hold. list_any (λ touch. clashes rows touch hold) []) o false) ≡ false
  untouched true o = refl
  untouched false None = refl
  untouched false (Some hold) = refl

  -- a file that nobody else stores over
  not_stored : (ticket : Ticket) → (ticket.seat ≢ call.seat → ticket.hold ≢ Some (record { key = Node node; mode = Exclusive }))
      → blocks rows call.seat (touch_key (Node node) Shared ∷ []) ticket ≡ false
  not_stored ticket free = here (ticket.seat == call.seat) ticket.hold refl refl
    where
      here : (own : Bool) (o : Option Hold) → (ticket.seat == call.seat) ≡ own → ticket.hold ≡ o
          → (not own && option_map_or (λ hold. list_any (λ touch. clashes rows touch hold) (touch_key (Node node) Shared ∷ [])) o false) ≡ false
      here true o mine is = refl
      here false None mine is = refl
      here false (Some hold) mine is = none (cases_Bool (same_key (Node node) hold.key && is_exclusive Shared hold.mode))
        where
          none : ((same_key (Node node) hold.key && is_exclusive Shared hold.mode) ≡ true)
              ⊎ ((same_key (Node node) hold.key && is_exclusive Shared hold.mode) ≡ false)
              → ((same_key (Node node) hold.key && is_exclusive Shared hold.mode) || false) ≡ false
          none (inl clash) =
              let stores = clash_stores node hold.key hold.mode clash in
              let alone : hold ≡ record { key = Node node; mode = Exclusive } = λ i. record { key = stores.0 i; mode = stores.1 i } in
              absurd (free (eqb-false ticket.seat call.seat mine) (is ∙ ap Some alone))
          none (inr clear) = rw clear refl

  pub free_unlocked : (is_folder rows node ≡ false → IsFreeToRead call.state call.seat node) → locked_rule (access_of call.state) call ≡ None
  free_unlocked free = here (cases_Bool (is_folder rows node))
    where
      here : (is_folder rows node ≡ true) ⊎ (is_folder rows node ≡ false) → locked_rule (access_of call.state) call ≡ None
      here (inl folder) =
          unlocked (subst (λ (some : List Touch). All (λ (ticket : Ticket). blocks rows call.seat some ticket ≡ false) call.state.tickets)
          (sym (no_touch folder)) (λ k d within.
          let ticket = get_or call.state.tickets k d in untouched (ticket.seat == call.seat) ticket.hold))
      here (inr file) =
          unlocked (subst (λ (some : List Touch). All (λ (ticket : Ticket). blocks rows call.seat some ticket ≡ false) call.state.tickets)
          (sym (one_touch file)) (λ k d within. not_stored (get_or call.state.tickets k d) (free file k d within)))

  pub unlocked_free : locked_rule (access_of call.state) call ≡ None → is_folder rows node ≡ false → IsFreeToRead call.state call.seat node
  unlocked_free passes file = read_free call node (one_touch file) passes
