-- What two books know after the same calls.
use Rattle.std.proofs.Common.{◌≡◌, ℕ, ◌+◌, ◌<◌, ◌≤◌, [], ◌∷◌, ◌++◌, refl, sym, ◌∙◌, ap, subst, arith, length, max, Ok, Err, append-nil, length-append}
use Rattle.nf_base.specs.declared.limits.TheConstants.{MAX_ENTRIES}
use Rattle.nf_words.specs.Prelude.{answer_at, LeavesRoom, opened, replay, State}
use Rattle.nf_words.specs.declared.answer.Denial.TheVariants as denial
use Rattle.nf_words.specs.declared.history.Entry.{Entry}
use Rattle.nf_words.specs.declared.history.Event.{Event}
use Rattle.nf_words.specs.declared.history.Event.TheVariants.{Begin}
use Rattle.nf_words.specs.declared.history.Mark.{Mark}
use Rattle.nf_words.specs.declared.history.Mark.TheVariants as mark
use Rattle.nf_words.specs.declared.request.Request.{Request}
use Rattle.nf_words.specs.declared.request.Words.{Words}
use Rattle.nf_session.specs.Book.{Answer, Begins, Book, Enters, Waits, entries_wanted, state_after, state_of}
use Rattle.nf_session.proofs.Moving.{no_others, none_of}
use Rattle.nf_checks.specs.Alike.{IsAlone, IsCalmAnswer, KnowSame}

-- ---- one book

pub know_self : (a b : Book) → b ≡ a → KnowSame a b
know_self a b e = record {
  opening = ap (λ (z : Book). z.opening) e;
  seat = ap (λ (z : Book). z.seat) e;
  known = ap (λ (z : Book). z.known) e;
  own = ap (λ (z : Book). z.own) e;
}

-- from one pair of books to the next
pub know_next : (a b c d : Book) → KnowSame a c → KnowSame a b → KnowSame c d → KnowSame b d
know_next a b c d k p q = record {
  opening = q.opening ∙ k.opening ∙ sym p.opening;
  seat = q.seat ∙ k.seat ∙ sym p.seat;
  known = q.known ∙ k.known ∙ sym p.known;
  own = q.own ∙ k.own ∙ sym p.own;
}

-- ---- alone

pub lone_waits : (a b : Book) → Waits a b → IsAlone a b → KnowSame a b
lone_waits a b w alone =
    let none : w.known.0 ≡ [] = none_of w.known.0 (omega (arith, alone, ap length w.own, ap length w.known.1, length-append a.known w.known.0)) in
    record {
      opening = w.lasts.opening;
      seat = w.lasts.seat;
      known = w.known.1 ∙ ap (λ z. a.known ++ z) none ∙ append-nil a.known;
      own = w.own;
    }

-- ---- an entry

mark_is : (s : State) (e : Entry) (m : Mark) → IsCalmAnswer (answer_at s e m) → m ≡ mark.Answered
mark_is s e mark.Answered calm = refl
mark_is s e mark.Store calm = absurd calm
mark_is s e mark.Memory calm = absurd calm

answered : (a b : Book) (now : ℕ) (event : Event) (x : Answer) (p : Enters a b now event x) → IsCalmAnswer x → p.entry.mark ≡ mark.Answered
answered a b now event x p calm = mark_is (state_after a p.others) p.entry p.entry.mark (subst (λ z. IsCalmAnswer z) p.answer_is calm)

pub enters_same : (a b c d : Book) (now : ℕ) (event : Event) (x y : Answer)
    → KnowSame a c → Enters a b now event x → Enters c d now event y → IsAlone a b → IsAlone c d
    → IsCalmAnswer x → IsCalmAnswer y → (y ≡ x) × KnowSame b d
enters_same a b c d now event x y k p q alone also calm still =
    let none : q.others ≡ p.others = no_others c d now event y q also ∙ sym (no_others a b now event x p alone) in
    let state : state_after c q.others ≡ state_after a p.others = λ i. replay (opened (k.opening i)) (k.known i ++ none i) in
    let seat : q.entry.seat ≡ p.entry.seat = q.seat_is ∙ k.seat ∙ sym p.seat_is in
    let moment : q.entry.moment ≡ p.entry.moment = q.moment_is ∙ (λ i. max (state i).seen now) ∙ sym p.moment_is in
    let event_is : q.entry.event ≡ p.entry.event = q.event_is ∙ sym p.event_is in
    let mark_same : q.entry.mark ≡ p.entry.mark = answered c d now event y q still ∙ sym (answered a b now event x p calm) in
    let entry : q.entry ≡ p.entry = λ i. record { seat = seat i; moment = moment i; event = event_is i; mark = mark_same i } in
    let answer : y ≡ x = q.answer_is ∙ (λ i. answer_at (state i) (entry i) (entry i).mark) ∙ sym p.answer_is in
    let same : KnowSame b d = record {
      opening = q.lasts.opening ∙ k.opening ∙ sym p.lasts.opening;
      seat = q.lasts.seat ∙ k.seat ∙ sym p.lasts.seat;
      known = q.known ∙ (λ i. (k.known i ++ none i) ++ entry i ∷ []) ∙ sym p.known;
      own = q.own ∙ (λ i. k.own i ++ (entry i, answer i) ∷ []) ∙ sym p.own;
    } in
    (answer, same)

-- ---- the Begin

-- a Begin that is calm made an entry, or found the run full
data Fate (a b : Book) (now : ℕ) (words : Words) (request : Request) (x : Answer) : Type 0 where
  unmade : x ≡ Err denial.RunFull → Waits a b → MAX_ENTRIES < entries_wanted b → Fate a b now words request x
  made : Enters a b now (Begin words request) x → Fate a b now words request x

fate : (a b : Book) (now : ℕ) (words : Words) (request : Request) (x : Answer)
    → Begins a b now words request x → IsCalmAnswer x → Fate a b now words request x
fate a b now words request (Ok reply) begins calm = made begins.entry
fate a b now words request (Err denial.RunFull) begins calm = unmade refl begins.entry.waits (begins.full refl)
fate a b now words request (Err denial.Memory) begins calm = absurd calm
fate a b now words request (Err refusal) begins calm = made begins.entry

-- an entry that is made had room
no_room : (a b c d : Book) (now : ℕ) (words : Words) (request : Request) (y : Answer)
    → KnowSame a c → Waits a b → MAX_ENTRIES < entries_wanted b → Enters c d now (Begin words request) y → IsAlone a b → IsAlone c d → ⊥
no_room a b c d now words request y k waits full q alone also =
    let stays : KnowSame a b = lone_waits a b waits alone in
    let none : [] ≡ q.others = sym (no_others c d now (Begin words request) y q also) in
    let open_is : b.opening ≡ c.opening = stays.opening ∙ sym k.opening in
    let known_is : b.known ≡ c.known ++ q.others =
    stays.known ∙ sym k.known ∙ sym (append-nil c.known) ∙ ap (λ z. c.known ++ z) none in
    let state : state_of b ≡ state_after c q.others = λ i. replay (opened (open_is i)) (known_is i) in
    let room : length (c.known ++ q.others) + length (state_after c q.others).tickets + 2 ≤ MAX_ENTRIES =
    subst (λ z. LeavesRoom (length (c.known ++ q.others)) (state_after c q.others) z) q.event_is q.may_come.room in
    let long : length b.known ≡ length (c.known ++ q.others) = ap length known_is in
    let held : length (state_of b).tickets ≡ length (state_after c q.others).tickets = ap (λ (z : State). length z.tickets) state in
    absurd (omega arith)

pub begins_same : (a b c d : Book) (now : ℕ) (words : Words) (request : Request) (x y : Answer)
    → KnowSame a c → Begins a b now words request x → Begins c d now words request y → IsAlone a b → IsAlone c d
    → IsCalmAnswer x → IsCalmAnswer y → (y ≡ x) × KnowSame b d
begins_same a b c d now words request x y k p q alone also calm still =
    both (fate a b now words request x p calm) (fate c d now words request y q still)
  where
    back : KnowSame c a
    back = record { opening = sym k.opening; seat = sym k.seat; known = sym k.known; own = sym k.own }

    both : Fate a b now words request x → Fate c d now words request y → (y ≡ x) × KnowSame b d
    both (unmade is waits full) (unmade is2 waits2 full2) =
        (is2 ∙ sym is, know_next a b c d k (lone_waits a b waits alone) (lone_waits c d waits2 also))
    both (unmade is waits full) (made enters) = absurd (no_room a b c d now words request y k waits full enters alone also)
    both (made enters) (unmade is waits full) = absurd (no_room c d a b now words request x back waits full enters also alone)
    both (made one) (made other) = enters_same a b c d now (Begin words request) x y k one other alone also calm still
