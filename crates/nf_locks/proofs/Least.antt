-- The least of some tickets, where one more comes behind them.
use Rattle.std.proofs.Common.{append-nil, cond, ◌≡◌, ℕ, ◌+◌, ◌<◌, ◌++◌, filter, take, length, get_or, Bool, true, false, List, [], ◌∷◌, Option, if◌then◌else◌, refl, sym, ◌∙◌, ap, arith}
use Rattle.std.proofs.lemmas.Bool.Decides.{nat_tests}
use Rattle.std.proofs.lemmas.List.Elements.{filter_more}
use Rattle.std.specs.Prelude.{None, Some}
use Rattle.nf_words.specs.Prelude.{least, lesser}
use Rattle.nf_words.specs.declared.history.Ticket.{Ticket}
use Rattle.nf_locks.specs.Touches.{sooner}

-- the lesser of three is the same either way
of_three : (a b c : Ticket) → lesser a (Some (sooner (Some b) c)) ≡ sooner (Some (lesser a (Some b))) c
of_three a b c = grind (arith, nat_tests)

pub least_behind : (tickets : List Ticket) (ticket : Ticket) → least (tickets ++ ticket ∷ []) ≡ Some (sooner (least tickets) ticket)
least_behind [] ticket = refl
least_behind (first ∷ tickets) ticket = here (least tickets) (least_behind tickets ticket)
  where
    here : (o : Option Ticket) → least (tickets ++ ticket ∷ []) ≡ Some (sooner o ticket)
        → Some (lesser first (least (tickets ++ ticket ∷ []))) ≡ Some (sooner (Some (lesser first o)) ticket)
    here None rest = ap (λ (o : Option Ticket). Some (lesser first o)) rest
    here (Some other) rest = ap (λ (o : Option Ticket). Some (lesser first o)) rest ∙ ap Some (of_three first other ticket)

-- where the next ticket passes the test, the least goes by it too, and otherwise it is as before
pub least_more : (test : Ticket → Bool) (tickets : List Ticket) (i : ℕ) (ticket : Ticket) (b : Bool) → i < length tickets
    → ticket ≡ get_or tickets i ticket → test ticket ≡ b
    → least (filter test (take (i + 1) tickets))
    ≡ (if b then Some (sooner (least (filter test (take i tickets))) ticket) else least (filter test (take i tickets)))
least_more test tickets i ticket b within is passes =
    ap least (filter_more test tickets i ticket within)
    ∙ ap (λ (next : Ticket). least (filter test (take i tickets) ++ cond (test next) (next ∷ []) [])) (sym is)
    ∙ ap (λ (b : Bool). least (filter test (take i tickets) ++ cond b (ticket ∷ []) [])) passes
    ∙ here b
  where
    here : (b : Bool) → least (filter test (take i tickets) ++ cond b (ticket ∷ []) [])
        ≡ (if b then Some (sooner (least (filter test (take i tickets))) ticket) else least (filter test (take i tickets)))
    here true = least_behind (filter test (take i tickets)) ticket
    here false = ap least (append-nil (filter test (take i tickets)))
