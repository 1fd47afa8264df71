-- Two sessions, turn by turn.
use Rattle.std.proofs.Common.{◌≡◌, ℕ, ◌+◌, ◌-◌, ◌<◌, ◌==◌, Bool, false, List, [], ◌∷◌, refl, sym, subst, arith, length, inl, inr}
use Rattle.std.specs.declared.option.Option.{Option}
use Rattle.std.specs.declared.option.Option.TheVariants.{None}
use Rattle.std.proofs.lemmas.Bool.{ne_eqb}
use Rattle.nf_base.specs.declared.limits.TheConstants.{MAX_MESSAGES}
use Rattle.nf_outside.specs.Lent.{Taken}
use Rattle.nf_session.specs.Prelude.{Scene, Session, Through, Turn}
use Rattle.nf_session.specs.declared.ended.Ended.{Ended}
use Rattle.nf_session.proofs.Calm.{goes_then, same_goes}
use Rattle.nf_session.proofs.Causes.{through_goes, turn_goes}
use Rattle.nf_checks.specs.Alike.{AreCalmTurns, AreSame, Clash, IsAlone, IsCalmEnd, IsCalmTurn, IsSteady, IsUndisturbed, SessionsEndAlike, StoresAgree, ToldSessionsEndAlike}
use Rattle.nf_checks.proofs.Goes.{Goes, alone_first, alone_then, clash_back, clash_on, goes_of, no_clash}
use Rattle.nf_checks.proofs.Scenes.{same_back}
use Rattle.nf_checks.proofs.Turns.{Alike, turns_same}

-- a turn that is the session's last
record Last {C : Type 0} (reads : C → Taken → C → Type 0) (last : Bool) (a b : Scene C) (end : Option Ended) : Type 0 where
  pub turn : Turn reads last a b end
  pub calm : IsCalmTurn reads last a b end turn
  pub well : IsCalmEnd end

-- the last turn of a session of n messages, and those before it
record Rest {C : Type 0} (reads : C → Taken → C → Type 0) (n : ℕ) (a : Scene C) (scenes : List (Scene C)) (m b : Scene C) (end : Option Ended) : Type 0 where
  pub through : Through reads a scenes m
  pub turns : AreCalmTurns reads a scenes m through
  pub last : Last reads (n == MAX_MESSAGES - 1) m b end
  pub few : n < MAX_MESSAGES
  pub full : end ≡ None → n ≡ MAX_MESSAGES - 1
  pub alone : IsAlone a.book b.book

next_goes : {C : Type 0} (reads : C → Taken → C → Type 0) (n : ℕ) (a next : Scene C) (scenes : List (Scene C))
    (m b : Scene C) (end : Option Ended) → Rest reads n a (next ∷ scenes) m b end → Goes next b
next_goes reads n a next scenes m b end p =
    goes_of (goes_then (through_goes reads next scenes m p.through.1) (turn_goes reads (n == MAX_MESSAGES - 1) m b end p.last.turn))

-- what follows the first turn
next_of : {C : Type 0} (reads : C → Taken → C → Type 0) (n : ℕ) (a next : Scene C) (scenes : List (Scene C)) (m b : Scene C)
    (end : Option Ended) → Rest reads n a (next ∷ scenes) m b end → Rest reads n next scenes m b end
next_of reads n a next scenes m b end p = record {
  through = p.through.1;
  turns = p.turns.1;
  last = p.last;
  few = p.few;
  full = p.full;
  alone = alone_then (goes_of (turn_goes reads false a next None p.through.0)) (next_goes reads n a next scenes m b end p) p.alone;
}

first_alone : {C : Type 0} (reads : C → Taken → C → Type 0) (n : ℕ) (a next : Scene C) (scenes : List (Scene C))
    (m b : Scene C) (end : Option Ended) → Rest reads n a (next ∷ scenes) m b end → IsAlone a.book next.book
first_alone reads n a next scenes m b end p =
    alone_first (goes_of (turn_goes reads false a next None p.through.0)) (next_goes reads n a next scenes m b end p) p.alone

last_of : {C : Type 0} (reads : C → Taken → C → Type 0) (n : ℕ) (a m b : Scene C) (end : Option Ended)
    → Rest reads n a [] m b end → Last reads (n == MAX_MESSAGES - 1) a b end
last_of reads n a m b end p = subst (λ z. Last reads (n == MAX_MESSAGES - 1) z b end) (sym p.through) p.last

lasts_same : {C : Type 0} (reads : C → Taken → C → Type 0) (last : Bool) (a b c d : Scene C) (end also : Option Ended)
    → IsSteady reads → AreSame a c → Last reads last a b end → Last reads last c d also
    → IsAlone a.book b.book → IsAlone c.book d.book → Alike b d end also
lasts_same reads last a b c d end also steady same p q alone lone =
    turns_same reads last a b c d end also p.turn q.turn steady same p.calm q.calm p.well q.well alone lone

-- no session goes on where the other ended
longer : {C : Type 0} (reads : C → Taken → C → Type 0) (n : ℕ) (a m b : Scene C) (c next d : Scene C) (end : Option Ended)
    (turn : Turn reads false c next None) → IsSteady reads → AreSame a c → Rest reads n a [] m b end → n < MAX_MESSAGES - 1
    → IsCalmTurn reads false c next None turn → IsAlone c.book next.book → Clash b next
longer reads n a m b c next d end turn steady same p less calm lone =
    end_of (lasts_same reads false a b c next end None steady same last (record { turn = turn; calm = calm; well = tt }) p.alone lone)
  where
    early : (n == MAX_MESSAGES - 1) ≡ false
    early = ne_eqb n (MAX_MESSAGES - 1) (λ e. absurd (omega arith))

    last : Last reads false a b end
    last = subst (λ z. Last reads z a b end) early (last_of reads n a m b end p)

    end_of : Alike b next end None → Clash b next
    end_of (inl ended) = let full : n ≡ MAX_MESSAGES - 1 = p.full (sym ended.0) in absurd (omega arith)
    end_of (inr clash) = clash

-- from turns that went on, to what follows
after_turns : {C : Type 0} (a c b d : Scene C) (end also : Option Ended) → Goes a b → Goes c d → IsAlone a.book b.book
    → IsAlone c.book d.book
    → Alike a c None None → (AreSame a c → Alike b d end also) → Alike b d end also
after_turns a c b d end also g h alone lone (inl ends) then = then ends.1
after_turns a c b d end also g h alone lone (inr clash) then = inr (clash_on a b c d g h alone lone clash)

-- after k turns
rests_same : {C : Type 0} (reads : C → Taken → C → Type 0) (k n also_n : ℕ) (a c : Scene C) (scenes others : List (Scene C)) (m b l d : Scene C)
    (end also : Option Ended) → IsSteady reads → AreSame a c → Rest reads n a scenes m b end → Rest reads also_n c others l d also
    → n ≡ k + length scenes → also_n ≡ k + length others → Alike b d end also
rests_same reads k n also_n a c [] [] m b l d end also steady same p q e f =
    let count : also_n ≡ n = omega arith in
    let last : Last reads (n == MAX_MESSAGES - 1) c d also =
    subst (λ z. Last reads (z == MAX_MESSAGES - 1) c d also) count (last_of reads also_n c l d also q) in
    lasts_same reads (n == MAX_MESSAGES - 1) a b c d end also steady same (last_of reads n a m b end p) last p.alone q.alone
rests_same reads k n also_n a c [] (next ∷ others) m b l d end also steady same p q e f =
    inr (clash_on b b next d (goes_of (same_goes b b 0 refl)) (next_goes reads also_n c next others l d also q)
    refl (next_of reads also_n c next others l d also q).alone
    (longer reads n a m b c next d end q.through.0 steady same p (omega (arith, q.few)) q.turns.0
    (first_alone reads also_n c next others l d also q)))
rests_same reads k n also_n a c (next ∷ scenes) [] m b l d end also steady same p q e f =
    inr (clash_on next b d d (next_goes reads n a next scenes m b end p) (goes_of (same_goes d d 0 refl))
    (next_of reads n a next scenes m b end p).alone refl
    (clash_back d next (longer reads also_n c l d a next b also p.through.0 steady (same_back a c same) q
    (omega (arith, p.few)) p.turns.0 (first_alone reads n a next scenes m b end p))))
rests_same reads k n also_n a c (next ∷ scenes) (other ∷ others) m b l d end also steady same p q e f =
    after_turns next other b d end also (next_goes reads n a next scenes m b end p) (next_goes reads also_n c other others l d also q)
    (next_of reads n a next scenes m b end p).alone (next_of reads also_n c other others l d also q).alone
    (turns_same reads false a next c other None None p.through.0 q.through.0 steady same p.turns.0 q.turns.0 tt tt
    (first_alone reads n a next scenes m b end p) (first_alone reads also_n c other others l d also q))
    (λ same_next. rests_same reads (k + 1) n also_n next other scenes others m b l d end also steady same_next
    (next_of reads n a next scenes m b end p) (next_of reads also_n c other others l d also q) (omega arith) (omega arith))

rest_of : {C : Type 0} (reads : C → Taken → C → Type 0) (a b : Scene C) (end : Option Ended) (session : Session reads a b end)
    → IsUndisturbed reads a b end session → Rest reads (length session.scenes) a session.scenes session.before b end
rest_of reads a b end session calm = record {
  through = session.through;
  turns = calm.turns;
  last = record { turn = session.turn; calm = calm.turn; well = calm.end_is };
  few = session.few;
  full = session.full;
  alone = calm.alone;
}

pub sessions_same : {C : Type 0} (reads : C → Taken → C → Type 0) → SessionsEndAlike reads
sessions_same reads a b c d end also one other steady same calm still =
    rests_same reads 0 (length one.scenes) (length other.scenes) a c one.scenes other.scenes one.before b other.before d end also steady same
    (rest_of reads a b end one calm) (rest_of reads c d also other still) (omega arith) (omega arith)

unless_clash : {C : Type 0} (b d : Scene C) (end also : Option Ended) → StoresAgree b.book d.book → Alike b d end also
    → (also ≡ end) × AreSame b d
unless_clash b d end also agree (inl same) = same
unless_clash b d end also agree (inr clash) = absurd (no_clash b d agree clash)

pub told_sessions_same : {C : Type 0} (reads : C → Taken → C → Type 0) → ToldSessionsEndAlike reads
told_sessions_same reads a b c d end also one other steady same calm still agree =
    unless_clash b d end also agree (sessions_same reads a b c d end also one other steady same calm still)
