-- Steps that read, write and ask, in two scenes that are the same.
use Rattle.std.proofs.Common.{◌≡◌, ℕ, Bool, true, false, List, refl, sym, ◌∙◌, ap, subst, inl, inr, Ok, Err, Result}
use Rattle.std.specs.Io.KnownBytes.{Keeps}
use Rattle.std.specs.declared.option.Option.{Option}
use Rattle.std.specs.declared.option.Option.TheVariants.{None, Some}
use Rattle.httparse.specs.Grammar.{print_request}
use Rattle.nf_http.specs.Head.{Head}
use Rattle.nf_http.specs.Next.{IsNext, IsOfBytes}
use Rattle.nf_http.specs.declared.wire.WireFault.{WireFault}
use Rattle.nf_http.specs.declared.wire.WireFault.TheVariants as wire
use Rattle.nf_http.proofs.Agreement.{one_answer_and_rest}
use Rattle.nf_outside.specs.Lent.{Taken, a_reading, two_words}
use Rattle.nf_words.specs.declared.answer.Denial.{Denial}
use Rattle.nf_words.specs.declared.request.Words.{Words}
use Rattle.nf_words.specs.declared.answer.Reply.TheVariants as reply
use Rattle.nf_dav.specs.Asked.{request_of}
use Rattle.nf_session.specs.Prelude.{Begins, Book, Closes, Ends, Heads, Judges, OnlyAsks, OnlyReads, Scene, Wrote}
use Rattle.nf_session.specs.Steps.{IsUnasked}
use Rattle.nf_session.specs.declared.backend.Ending.{Ending}
use Rattle.nf_session.specs.declared.backend.Ending.TheVariants as ending
use Rattle.nf_session.specs.declared.begun.Begun.{Begun}
use Rattle.nf_session.specs.declared.begun.Begun.TheVariants as begun
use Rattle.nf_checks.specs.Alike.{AreSame, IsAlone, IsCalmBegun, IsCalmDenial, IsSteady, KnowSame, TellSame}
use Rattle.nf_checks.proofs.Basics.{Left, left_of, told_appended}
use Rattle.nf_checks.proofs.Books.{begins_same, enters_same}

-- ---- scenes that stay

pub same_self : {C : Type 0} (a b c d : Scene C) → AreSame a c → b ≡ a → d ≡ c → AreSame b d
same_self a b c d s p q = subst (λ z. AreSame z d) (sym p) (subst (λ z. AreSame a z) (sym q) s)

pub same_back : {C : Type 0} (a c : Scene C) → AreSame a c → AreSame c a
same_back a c s = record {
  input = (s.input.0, s.input.2, s.input.1);
  output = (s.output.0, s.output.2, s.output.1);
  book = record { opening = sym s.book.opening; seat = sym s.book.seat; known = sym s.book.known; own = sym s.book.own };
  lent = sym s.lent;
}

-- nothing but the input was touched
pub same_reads : {C : Type 0} (a b c d : Scene C) → AreSame a c → OnlyReads a b → OnlyReads c d → TellSame b.input d.input → AreSame b d
same_reads a b c d s p q input =
    same_self (record a { input = b.input; kept = b.kept; answers = b.answers; read_faults = b.read_faults }) b
    (record c { input = d.input; kept = d.kept; answers = d.answers; read_faults = d.read_faults }) d
    (record { input = input; output = s.output; book = s.book; lent = s.lent }) p q

-- ---- heads

told_kept : (xs : List ℕ) (b : Option (List ℕ)) → Keeps (Some xs) b → Left b
told_kept xs None k = absurd k
told_kept xs (Some ys) k = (ys, refl)

-- the stream tells still
told_next : (xs : List ℕ) (b : Option (List ℕ)) (x : Result (Option Head) WireFault) → IsNext (Some xs) b x → IsOfBytes x → Left b
told_next xs b (Ok None) next calm = told_kept xs b next.1
told_next xs b (Ok (Some head)) (h, _, taken) calm = left_of (Some xs) b xs (print_request h) refl taken.3
told_next xs b (Err wire.ReadFault) next calm = absurd calm
told_next xs b (Err wire.Memory) next calm = absurd calm
told_next xs b (Err fault) next calm = told_kept xs b next.1

pub heads_same : {C : Type 0} (a b c d : Scene C) (x y : Result (Option Head) WireFault)
    → AreSame a c → Heads a b x → Heads c d y → IsOfBytes x → IsOfBytes y → (x ≡ y) × AreSame b d
heads_same a b c d x y s p q calm still =
    let one : IsNext (Some s.input.0) b.input x = subst (λ z. IsNext z b.input x) s.input.1 p.next in
    let other : IsNext (Some s.input.0) d.input y = subst (λ z. IsNext z d.input y) s.input.2 q.next in
    let same : (x ≡ y) × (b.input ≡ d.input) = one_answer_and_rest s.input.0 b.input d.input x y one other calm still in
    let left : Left b.input = told_next s.input.0 b.input x one calm in
    (same.0, same_reads a b c d s p.only q.only (left.0, left.1, sym same.1 ∙ left.1))

-- ---- writing

pub wrote_same : {C : Type 0} (a b c d : Scene C) (bytes : List ℕ) → AreSame a c → Wrote a b bytes → Wrote c d bytes → AreSame b d
wrote_same a b c d bytes s p q = same_self (record a { output = b.output }) b (record c { output = d.output }) d
    (record {
      input = s.input;
      output = told_appended a.output b.output c.output d.output bytes s.output p.bytes_are q.bytes_are;
      book = s.book;
      lent = s.lent;
    }) p.only q.only

-- ---- asking

-- readings of clocks that are the same, and words of dice that are
pub readings_same : {C : Type 0} (reads : C → Taken → C → Type 0) (a b c d : Scene C) (now also : ℕ)
    → IsSteady reads → AreSame a c → reads a.lent (a_reading now) b.lent → reads c.lent (a_reading also) d.lent → (now ≡ also) × (b.lent ≡ d.lent)
readings_same reads a b c d now also steady s p q =
    steady.readings a.lent now also b.lent d.lent p (subst (λ z. reads z (a_reading also) d.lent) s.lent q)

-- what a Begin takes of them
pub drawn_same : {C : Type 0} (reads : C → Taken → C → Type 0) (a b c d : Scene C) (now also : ℕ) (words others : Words)
    → IsSteady reads → AreSame a c → ((m : C) × reads a.lent (a_reading now) m × reads m (two_words words.first words.second) b.lent)
    → ((m : C) × reads c.lent (a_reading also) m × reads m (two_words others.first others.second) d.lent)
    → (now ≡ also) × (words ≡ others) × (b.lent ≡ d.lent)
drawn_same {C} reads a b c d now also words others steady s (m, read, drawn) (n, read2, drawn2) =
    let first = steady.readings a.lent now also m n read (subst (λ (z : C). reads z (a_reading also) n) s.lent read2) in
    let second = steady.words m words.first words.second others.first others.second b.lent d.lent drawn
    (subst (λ (z : C). reads z (two_words others.first others.second) d.lent) (sym first.1) drawn2) in (
      first.0,
      ap (λ (n : ℕ). record { first = n; second = words.second }) second.0 ∙ ap (λ (n : ℕ). record { first = others.first; second = n }) second.1,
      second.2,
    )

pub asks_same : {C : Type 0} (a b c d : Scene C)
    → AreSame a c → OnlyAsks a b → OnlyAsks c d → KnowSame b.book d.book → b.lent ≡ d.lent → AreSame b d
asks_same a b c d s p q book lent = same_self (record a { book = b.book; lent = b.lent }) b (record c { book = d.book; lent = d.lent }) d
    (record { input = s.input; output = s.output; book = book; lent = sym lent }) p q

unasked : (head : Head) (body : List ℕ) (refusal : Denial) → IsUnasked head body refusal → IsCalmDenial refusal
    → request_of head body ≡ Err refusal
unasked head body refusal (inl is) calm = is
unasked head body refusal (inr is) calm = absurd (subst (λ z. IsCalmDenial z) is calm)

pub judges_same : {C : Type 0} (reads : C → Taken → C → Type 0) (head : Head) (body : List ℕ) (a b c d : Scene C) (x y : Begun)
    → IsSteady reads → AreSame a c → Judges reads head body a b x → Judges reads head body c d y → IsCalmBegun x → IsCalmBegun y
    → IsAlone a.book b.book → IsAlone c.book d.book → (y ≡ x) × AreSame b d
judges_same reads head body a b c d (begun.Unasked r) (begun.Unasked s) steady same p q calm still alone also =
    let one : request_of head body ≡ Err r = unasked head body r p.0 calm in
    let other : request_of head body ≡ Err s = unasked head body s q.0 still in
    let is : s ≡ r = cc in
    (ap (λ z. begun.Unasked z) is, same_self a b c d same p.1 q.1)
judges_same reads head body a b c d (begun.Unasked r) (begun.Asked y) steady same p (r2, now2, words2, is2, read2, begins2, only2) calm still alone also =
    let one : request_of head body ≡ Err r = unasked head body r p.0 calm in
    absurd (cc)
judges_same reads head body a b c d (begun.Asked x) (begun.Unasked s) steady same (r1, now1, words1, is1, read1, begins1, only1) q calm still alone also =
    let other : request_of head body ≡ Err s = unasked head body s q.0 still in
    absurd (cc)
judges_same reads head body a b c d (begun.Asked x) (begun.Asked y) steady same
    (r1, now1, words1, is1, read1, begins1, only1) (r2, now2, words2, is2, read2, begins2, only2) calm still alone also =
    let r : r2 ≡ r1 = cc in
    let read = drawn_same reads a b c d now1 now2 words1 words2 steady same read1 read2 in
    let begins : Begins c.book d.book now1 words1 r1 y =
    subst (λ (w : Words). Begins c.book d.book now1 w r1 y) (sym read.1)
    (subst (λ z. Begins c.book d.book z words2 r1 y) (sym read.0) (subst (λ z. Begins c.book d.book now2 words2 z y) r begins2)) in
    let asked : (y ≡ x) × KnowSame b.book d.book =
    begins_same a.book b.book c.book d.book now1 words1 r1 x y same.book begins1 begins alone also calm still in
    (ap (λ z. begun.Asked z) asked.0, asks_same a b c d same only1 only2 asked.1 read.2)

-- ---- the End of what brings no body

ends_same : (a b c d : Book) (now : ℕ) (how : Ending) → KnowSame a c → Ends a b now how (Ok reply.Closed)
    → Ends c d now how (Ok reply.Closed) → IsAlone a b → IsAlone c d → KnowSame b d
ends_same a b c d now (ending.Body bytes) k p q alone also = absurd p.answered
ends_same a b c d now other k p q alone also =
    (enters_same a b c d now _ (Ok reply.Closed) (Ok reply.Closed) k p.enters q.enters alone also tt tt).1

pub closes_same : {C : Type 0} (reads : C → Taken → C → Type 0) (how : Ending) (granted : Bool) (a b c d : Scene C)
    → IsSteady reads → AreSame a c → Closes reads how granted a b → Closes reads how granted c d
    → IsAlone a.book b.book → IsAlone c.book d.book → AreSame b d
closes_same reads how false a b c d steady same p q alone also = same_self a b c d same p q
closes_same reads how true a b c d steady same (now1, read1, ends1, only1) (now2, read2, ends2, only2) alone also =
    let read : (now1 ≡ now2) × (b.lent ≡ d.lent) = readings_same reads a b c d now1 now2 steady same read1 read2 in
    let ends : Ends c.book d.book now1 how (Ok reply.Closed) =
    subst (λ z. Ends c.book d.book z how (Ok reply.Closed)) (sym read.0) ends2 in
    asks_same a b c d same only1 only2 (ends_same a.book b.book c.book d.book now1 how same.book ends1 ends alone also) read.1
