-- How scenes go on where a message may fail, by a turn and by a session: what a session counts of the faults of its ends.
use Rattle.std.proofs.Common.{◌≡◌, ℕ, ◌+◌, ◌*◌, suc, List, [], ◌∷◌, length, take, refl, sym, ◌∙◌, ap, subst, inl, inr, arith, Result, Ok, Err}
use Rattle.std.specs.Prelude.{Bool, true, false, Option, None, Some, Vec}
use Rattle.std.specs.declared.alloc.Global.{Global}
use Rattle.nf_base.specs.declared.content.Piece.{Piece}
use Rattle.nf_http.specs.Filling.{HasReadCause}
use Rattle.nf_http.specs.Head.{Head}
use Rattle.nf_http.specs.declared.wire.WireFault.{WireFault}
use Rattle.nf_http.specs.declared.wire.WireFault.TheVariants as wire
use Rattle.nf_outside.specs.Lent.{Taken}
use Rattle.nf_words.specs.declared.answer.Denial.{Denial}
use Rattle.nf_words.specs.declared.answer.Denial.TheVariants as denial
use Rattle.nf_dav.specs.Reply.{continue_reply}
use Rattle.nf_dav.specs.declared.replies.Manner.{Manner}
use Rattle.nf_session.specs.Prelude.{Answers, CountsFault, CutsEarly, CutsShort, denial_of, end_by, end_of, end_of_close, end_of_denial, EndsBy, EndsSo, failed_by, failed_first, failed_in, file_front, manner_of, OnlyReads, Responds, Says, Scene, SendsFile, Session, StopsShort, Through, Turn, Way, way_of, Writes, WrotePart}
use Rattle.nf_session.specs.Laws.{SessionsFollow, failed_behind, failed_pieces, failed_through}
use Rattle.nf_session.specs.declared.backend.Ending.TheVariants as ending
use Rattle.nf_session.specs.declared.begun.Begun.{Begun}
use Rattle.nf_session.specs.declared.ended.Ended.{Ended}
use Rattle.nf_session.specs.declared.ended.Ended.TheVariants as ended
use Rattle.nf_session.specs.declared.response.Response.{Response}
use Rattle.nf_session.specs.declared.response.Response.TheVariants as response
use Rattle.nf_session.proofs.Calm.{Goes, closes_go, early_goes, goes_first, goes_last, goes_then, heads_go, invites_go, judges_go, pieces_go, reads_go, same_goes, takes_go, writes_go, wrote_goes}
use Rattle.nf_session.proofs.Inviting.{stops_sends}
use Rattle.nf_session.proofs.Moving.{fails_rise, same_moves, waits_move}
use Rattle.nf_session.proofs.Turns.{sends_failed}

-- ---- an end that is no fault

-- the ends by a fault of an end
abbrev pub is_fault : Option Ended → Bool
is_fault (Some ended.ReadFault) = true
is_fault (Some ended.WriteFault) = true
is_fault end = false

counts_none : (end : Option Ended) (r s w v : ℕ) → is_fault end ≡ false → s ≡ r → v ≡ w → CountsFault end r s w v
counts_none None r s w v calm p q = (p, q)
counts_none (Some ended.ReadFault) r s w v calm p q = cc
counts_none (Some ended.WriteFault) r s w v calm p q = cc
counts_none (Some other) r s w v calm p q = (p, q)

module _ {C : Type 0} {a b : Scene C} {n p : ℕ} where
  goes_to : (end : Option Ended) → is_fault end ≡ false → Goes a b n p None → Goes a b n p end
  goes_to end none goes = record {
    book = goes.book;
    bytes = goes.bytes;
    output = goes.output;
    counts = counts_none end a.read_faults b.read_faults a.write_faults b.write_faults none goes.counts.0 goes.counts.1;
  }

  ends_as : (end same : Option Ended) → end ≡ same → Goes a b n p same → Goes a b n p end
  ends_as end same is goes = subst (λ (z : Option Ended). Goes a b n p z) (sym is) goes

-- a response ends a session by none
close_is_none : (closes : Bool) → is_fault (end_of_close closes) ≡ false
close_is_none true = refl
close_is_none false = refl

denial_is_none : (closes : Bool) (d : Denial) → is_fault (end_of_denial closes d) ≡ false
denial_is_none closes denial.RunFull = refl
denial_is_none closes other = close_is_none closes

pub end_is_none : (closes : Bool) (v : Response) → is_fault (end_of closes v) ≡ false
end_is_none closes (response.Denied d) = denial_is_none closes d
end_is_none closes other = close_is_none closes

-- ---- responses

part_goes : {C : Type 0} (a b : Scene C) (bytes : List ℕ) → WrotePart a b bytes → Goes a b 0 0 (Some ended.WriteFault)
part_goes {C} a b bytes part = record {
  book = same_moves a.book b.book 0 (ap (λ (s : Scene C). s.book) part.only);
  bytes = take part.count bytes;
  output = part.bytes_are;
  counts = (ap (λ (s : Scene C). s.read_faults) part.only, part.cause);
}

says_go : {C : Type 0} (T : Type 0) (a b : Scene C) (bytes : List ℕ) (by : Ended) → Says {T = T} a b bytes (Err by) → Goes a b 0 (failed_by by) (Some by)
says_go T a b bytes ended.Memory says = goes_to (Some ended.Memory) refl (same_goes a b 0 says)
says_go T a b bytes ended.WriteFault says = part_goes a b bytes says
says_go T a b bytes other says = absurd says

file_goes : {C : Type 0} (T : Type 0) (close : Bool) (content : List Piece) (first : Option (Vec ℕ Global)) (a b : Scene C) (by : Ended)
    → SendsFile {T = T} close content first a b (Err by) → Goes a b 0 (failed_by by) (Some by)
file_goes T close content first a b (ended.Cut why) (given, writes, lacks, other) =
    goes_to (Some (ended.Cut why)) refl (pieces_go close content first a b given (failed_by (ended.Cut why)) writes
    (fails_rise a.book b.book lacks.piece why writes.pieces.waits.lasts.strikes lacks.failed))
file_goes T close content first a b ended.Memory (inl same) = goes_to (Some ended.Memory) refl (same_goes a b 0 same)
file_goes T close content first a b ended.Memory (inr (given, writes, lacks)) =
    goes_to (Some ended.Memory) refl (pieces_go close content first a b given 0 writes (inl (refl, lacks.failed)))
file_goes {C} T close content first a b ended.WriteFault (given, breaks) = record {
  book = waits_move a.book b.book 0 0 breaks.pieces.waits (inl (refl, breaks.unstruck));
  bytes = take breaks.count (file_front close content given);
  output = breaks.bytes_are;
  counts = (ap (λ (s : Scene C). s.read_faults) breaks.pieces.only, breaks.cause);
}
file_goes T close content first a b other sends = absurd sends

fault_goes : {C : Type 0} (T : Type 0) (manner : Manner) (v : Response) (a b : Scene C) (by : Ended) → Writes {T = T} manner v a b (Err by)
    → Goes a b 0 (failed_by by) (Some by)
fault_goes T manner (response.File content first) a b by writes = file_goes T manner.close content first a b by writes
fault_goes T manner other a b by writes = says_go T a b _ by writes

pub responds_go : {C : Type 0} (last : Bool) (way : Way) (v : Response) (a b : Scene C) (result : Result (Option Ended) Ended)
    → Responds last way v a b result → Goes a b 0 (failed_behind result) (end_by result)
responds_go last way v a b (Ok end) (is, writes) =
    ends_as end (end_of way.closes v) is (goes_to _ (end_is_none way.closes v) (writes_go (manner_of last way v) v a b writes))
responds_go last way v a b (Err by) writes = fault_goes (Unit {0}) (manner_of last way v) v a b by writes

-- the ends that keep a response from being written
abbrev pub is_whole : Option Ended → Bool
is_whole (Some ended.Memory) = false
is_whole (Some ended.WriteFault) = false
is_whole (Some (ended.Cut why)) = false
is_whole other = true

pub broken : {C : Type 0} (T : Type 0) (manner : Manner) (v : Response) (a b : Scene C) (by : Ended) → Writes {T = T} manner v a b (Err by)
    → is_whole (Some by) ≡ true → ⊥
broken T manner v a b ended.Memory writes whole = cc
broken T manner v a b ended.WriteFault writes whole = cc
broken T manner v a b (ended.Cut why) writes whole = cc
broken T manner (response.File content first) a b other never whole = never
broken T manner v a b other never whole = never

-- no other does
pub whole_by : {C : Type 0} (last : Bool) (way : Way) (v : Response) (a b : Scene C) (result : Result (Option Ended) Ended)
    → Responds last way v a b result → is_whole (end_by result) ≡ true
    → (end_by result ≡ end_of way.closes v) × Writes {T = Unit {0}} (manner_of last way v) v a b (Ok tt)
whole_by last way v a b (Ok end) responds whole = responds
whole_by last way v a b (Err by) responds whole = absurd (broken (Unit {0}) (manner_of last way v) v a b by responds whole)

-- ---- no message

so_goes : {C : Type 0} (d : Denial) (a b : Scene C) (by : Ended) → EndsSo d a b by → Goes a b 0 0 (Some by)
so_goes d a b ended.BadMessage ends = goes_to (Some ended.BadMessage) refl (wrote_goes a b _ ends)
so_goes d a b ended.WriteFault ends = part_goes a b _ ends
so_goes d a b ended.Memory ends = goes_to (Some ended.Memory) refl (same_goes a b 0 ends)
so_goes d a b other ends = absurd ends

-- bytes were refused by a fault of the input, or of its bytes
pub refused_goes : {C : Type 0} (T : Type 0) (a m b : Scene C) (fault : WireFault) (by : Ended) → OnlyReads a m
    → HasReadCause {T = T} a.read_faults m.read_faults (Err fault) → EndsBy fault m b by → Goes a b 0 0 (Some by)
refused_goes {C} T a m b wire.ReadFault by only cause ends =
    ends_as (Some by) (Some ended.ReadFault) (ap (λ (e : Ended). Some e) ends.0)
    (subst (λ (z : Scene C). Goes a z 0 0 (Some ended.ReadFault)) (sym ends.1)
    (reads_go a m 0 (Some ended.ReadFault) only (cause, ap (λ (s : Scene C). s.write_faults) only)))
refused_goes {C} T a m b wire.Memory by only cause ends =
    ends_as (Some by) (Some ended.Memory) (ap (λ (e : Ended). Some e) ends.0)
    (subst (λ (z : Scene C). Goes a z 0 0 (Some ended.Memory)) (sym ends.1)
    (reads_go a m 0 (Some ended.Memory) only (cause, ap (λ (s : Scene C). s.write_faults) only)))
refused_goes {C} T a m b other by only cause ends =
    goes_first (reads_go a m 0 None only (cause, ap (λ (s : Scene C). s.write_faults) only)) (so_goes (denial_of other) m b by ends)

-- ---- a turn

pub answers_go : {C : Type 0} (reads : C → Taken → C → Type 0) (last : Bool) (head : Head) (u : Begun) (a b : Scene C) (end : Option Ended)
    → (answers : Answers reads last head u a b end) → Goes a b 2 (failed_first answers.response + failed_behind answers.result) end
answers_go reads last head u a b end answers =
    ends_as end (end_by answers.result) answers.ends
    (goes_then (takes_go reads head a answers.taken u answers.response answers.takes)
    (goes_last (responds_go last (way_of head u) answers.response answers.taken answers.sent answers.result answers.responds)
    (closes_go reads _ _ answers.sent b answers.closes)))

pub short_goes : {C : Type 0} (reads : C → Taken → C → Type 0) (head : Head) (u : Begun) (a b : Scene C) (end : Option Ended)
    → CutsShort reads head u a b end → Goes a b 1 0 end
short_goes reads head u a b end cut =
    ends_as end (Some cut.by) cut.ends
    (goes_last (refused_goes ℕ a cut.cut cut.sent cut.fault cut.by cut.takes.only cut.takes.cause cut.responds)
    (closes_go reads ending.Gone _ cut.sent b cut.closes))

pub early_short_goes : {C : Type 0} (head : Head) (a b : Scene C) (end : Option Ended) → CutsEarly head a b end → Goes a b 0 0 end
early_short_goes head a b end cut =
    ends_as end (Some cut.by) cut.ends
    (refused_goes ℕ a cut.cut b cut.fault cut.by cut.takes.1.only cut.takes.1.cause cut.responds)

stops_go : {C : Type 0} (reads : C → Taken → C → Type 0) (head : Head) (u : Begun) (a b : Scene C) (end : Option Ended)
    → StopsShort reads head u a b end → Goes a b 1 0 end
stops_go reads head u a b end stops =
    let p = sends_failed (Unit {0}) a stops.sent continue_reply stops.by (stops_sends head u a stops.sent (Unit {0}) stops.by stops.invites) in
    ends_as end (Some ended.WriteFault) (stops.ends ∙ ap (λ (e : Ended). Some e) p.0)
    (goes_last (part_goes a stops.sent continue_reply p.1) (closes_go reads ending.Gone _ stops.sent b stops.closes))

pub turn_goes : {C : Type 0} (reads : C → Taken → C → Type 0) (last : Bool) (a b : Scene C) (end : Option Ended) (turn : Turn reads last a b end)
    → Goes a b 3 (failed_pieces reads last a b end turn) end
turn_goes {C} reads last a b end (inl (heads, is)) =
    ends_as end (Some ended.Closed) is (goes_to (Some ended.Closed) refl (heads_go a b 3 None heads))
turn_goes reads last a b end (inr (inl (m, fault, by, heads, ends, is))) =
    ends_as end (Some by) is
    (goes_last (refused_goes (Option Head) a m b fault by heads.only heads.cause ends) (same_goes b b 3 refl))
turn_goes reads last a b end (inr (inr (m, head, heads, inl cut))) =
    goes_first (heads_go a m 3 (Some head) heads) (early_short_goes head m b end cut)
turn_goes reads last a b end (inr (inr (m, head, heads, inr (n, body, takes, (opened, u, judged, inl stops))))) =
    goes_first (heads_go a m 1 (Some head) heads)
    (goes_first (early_goes head m n body takes)
    (goes_first (judges_go reads head body n opened u judged) (stops_go reads head u opened b end stops)))
turn_goes reads last a b end (inr (inr (m, head, heads, inr (n, body, takes, (opened, u, judged, inr (told, invites, inl answers)))))) =
    goes_first (heads_go a m 0 (Some head) heads)
    (goes_first (early_goes head m n body takes)
    (goes_first (judges_go reads head body n opened u judged)
    (goes_first (invites_go head u opened told invites) (answers_go reads last head u told b end answers))))
turn_goes reads last a b end (inr (inr (m, head, heads, inr (n, body, takes, (opened, u, judged, inr (told, invites, inr cut)))))) =
    goes_first (heads_go a m 1 (Some head) heads)
    (goes_first (early_goes head m n body takes)
    (goes_first (judges_go reads head body n opened u judged)
    (goes_first (invites_go head u opened told invites) (short_goes reads head u told b end cut))))

-- ---- a session

pub through_goes : {C : Type 0} (reads : C → Taken → C → Type 0) (a : Scene C) (scenes : List (Scene C)) (b : Scene C) (through : Through reads a scenes b)
    → Goes a b (3 * length scenes) (failed_through reads a scenes b through) None
through_goes reads a [] b through = same_goes a b 0 (sym through)
through_goes reads a (m ∷ scenes) b through =
    subst (λ (z : ℕ). Goes a b z (failed_through reads a (m ∷ scenes) b through) None) (more (length scenes))
    (goes_then (turn_goes reads false a m None through.0) (through_goes reads m scenes b through.1))
  where
    more : (n : ℕ) → 3 + 3 * n ≡ 3 * suc n
    more n = omega arith

pub session_goes : {C : Type 0} (reads : C → Taken → C → Type 0) (a b : Scene C) (end : Option Ended) (session : Session reads a b end)
    → Goes a b (3 * length session.scenes + 3) (failed_in reads a b end session) end
session_goes reads a b end session =
    goes_then (through_goes reads a session.scenes session.before session.through) (turn_goes reads _ session.before b end session.turn)

pub session_follows : {C : Type 0} (reads : C → Taken → C → Type 0) → SessionsFollow reads
session_follows reads a b end session =
    let all = session_goes reads a b end session in record { lasts = all.book.onward.lasts; counts = all.counts }
