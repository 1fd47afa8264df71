-- How scenes go on by each step: what the seat knows goes on, the output grows, and a fault of an end is counted where it is named.
-- Here are the steps at which no end fails.
use Rattle.std.proofs.Common.{◌≡◌, ℕ, ◌+◌, List, [], ◌++◌, sym, ◌∙◌, ap, subst, inl, refl, arith, Ok, Err}
use Rattle.std.proofs.KnownBytes.{Appends-nil, Appends-trans}
use Rattle.std.specs.Io.KnownBytes.{Appends}
use Rattle.std.specs.Prelude.{Bool, true, false, MatchBool, Option, None, Vec}
use Rattle.std.specs.declared.alloc.Global.{Global}
use Rattle.nf_base.specs.declared.content.Piece.{Piece}
use Rattle.nf_dav.specs.declared.replies.Manner.{Manner}
use Rattle.nf_http.specs.Head.{Head, length_of}
use Rattle.nf_outside.specs.Lent.{Taken}
use Rattle.nf_words.specs.declared.answer.Goal.TheVariants as goal
use Rattle.nf_words.specs.declared.answer.Reply.TheVariants as reply
use Rattle.nf_session.specs.Prelude.{Answer, Bodies, Closes, CountsFault, failed_first, file_front, Heads, Invites, IsResponse, is_early, Judges, OnlyAsks, OnlyReads, Passes, Scene, taken_length, TakesEarly, TakesIn, Writes, WritesPieces, Wrote}
use Rattle.nf_session.specs.declared.backend.Ending.{Ending}
use Rattle.nf_session.specs.declared.begun.Begun.{Begun}
use Rattle.nf_session.specs.declared.begun.Begun.TheVariants as begun
use Rattle.nf_session.specs.declared.ended.Ended.{Ended}
use Rattle.nf_session.specs.declared.response.Response.{Response}
use Rattle.nf_session.specs.declared.response.Response.TheVariants as response
use Rattle.nf_session.proofs.Inviting.{invites_wrote}
use Rattle.nf_session.proofs.Moving.{Moves, Onward, Rises, begins_move, ends_move, enters_move, moves_then, onward_then, same_moves, starts_move, waits_move}

-- by so many entries of the seat's own at most, and so many pieces at which the store failed, to that end
pub record Goes {C : Type 0} (a b : Scene C) (most pieces : ℕ) (end : Option Ended) : Type 0 where
  pub book : Moves a.book b.book most pieces
  pub bytes : List ℕ
  pub output : Appends a.output b.output bytes
  pub counts : CountsFault end a.read_faults b.read_faults a.write_faults b.write_faults

module _ {C : Type 0} {a m b : Scene C} {n k : ℕ} {end : Option Ended} where
  pub goes_then : {p q : ℕ} → Goes a m n p None → Goes m b k q end → Goes a b (n + k) (p + q) end
  goes_then x y = record {
    book = moves_then x.book y.book;
    bytes = x.bytes ++ y.bytes;
    output = Appends-trans a.output m.output b.output x.bytes y.bytes x.output y.output;
    counts = subst (λ (z : ℕ). CountsFault end z b.read_faults a.write_faults b.write_faults) x.counts.0
        (subst (λ (z : ℕ). CountsFault end m.read_faults b.read_faults z b.write_faults) x.counts.1 y.counts);
  }

  -- a step before, or behind, that pays for no piece
  pub goes_first : {q : ℕ} → Goes a m n 0 None → Goes m b k q end → Goes a b (n + k) q end
  goes_first {q} x y = subst (λ (z : ℕ). Goes a b (n + k) z end) (zero q) (goes_then x y)
    where
      zero : (q : ℕ) → 0 + q ≡ q
      zero q = omega arith

  pub goes_last : {p : ℕ} → Goes a m n p end → Goes m b k 0 None → Goes a b (n + k) p end
  goes_last {p} x y = record {
    book = subst (λ (z : ℕ). Moves a.book b.book (n + k) z) (zero p) (moves_then x.book y.book);
    bytes = x.bytes ++ y.bytes;
    output = Appends-trans a.output m.output b.output x.bytes y.bytes x.output y.output;
    counts = subst (λ (z : ℕ). CountsFault end a.read_faults z a.write_faults b.write_faults) (sym y.counts.0)
        (subst (λ (z : ℕ). CountsFault end a.read_faults m.read_faults a.write_faults z) (sym y.counts.1) x.counts);
  }
    where
      zero : (p : ℕ) → p + 0 ≡ p
      zero p = omega arith

-- ---- what was touched

-- nothing was written
quietly_goes : {C : Type 0} (a b : Scene C) (most pieces : ℕ) (end : Option Ended) → Moves a.book b.book most pieces → b.output ≡ a.output
    → CountsFault end a.read_faults b.read_faults a.write_faults b.write_faults → Goes a b most pieces end
quietly_goes a b most pieces end book output counts = record {
  book = book;
  bytes = [];
  output = subst (λ (z : Option (List ℕ)). Appends a.output z []) (sym output) (Appends-nil a.output);
  counts = counts;
}

-- nor does an end fail in a scene that is like this one
quiet : {C : Type 0} (a b x : Scene C) (most pieces : ℕ) → b ≡ x → x.output ≡ a.output → x.read_faults ≡ a.read_faults → x.write_faults ≡ a.write_faults
    → Moves a.book b.book most pieces → Goes a b most pieces None
quiet {C} a b x most pieces only output read write moves =
    quietly_goes a b most pieces None moves (ap (λ (s : Scene C). s.output) only ∙ output)
    (ap (λ (s : Scene C). s.read_faults) only ∙ read, ap (λ (s : Scene C). s.write_faults) only ∙ write)

pub same_goes : {C : Type 0} (a b : Scene C) (most : ℕ) → b ≡ a → Goes a b most 0 None
same_goes {C} a b most same = quiet a b _ most 0 same refl refl refl (same_moves a.book b.book most (ap (λ (x : Scene C). x.book) same))

asks_go : {C : Type 0} (a b : Scene C) (most pieces : ℕ) → OnlyAsks a b → Moves a.book b.book most pieces → Goes a b most pieces None
asks_go a b most pieces only moves = quiet a b _ most pieces only refl refl refl moves

pub reads_go : {C : Type 0} (a b : Scene C) (most : ℕ) (end : Option Ended) → OnlyReads a b
    → CountsFault end a.read_faults b.read_faults a.write_faults b.write_faults → Goes a b most 0 end
reads_go {C} a b most end only counts =
    quietly_goes a b most 0 end (same_moves a.book b.book most (ap (λ (x : Scene C). x.book) only)) (ap (λ (x : Scene C). x.output) only) counts

pub wrote_goes : {C : Type 0} (a b : Scene C) (bytes : List ℕ) → Wrote a b bytes → Goes a b 0 0 None
wrote_goes {C} a b bytes wrote = record {
  book = same_moves a.book b.book 0 (ap (λ (x : Scene C). x.book) wrote.only);
  bytes = bytes;
  output = wrote.bytes_are;
  counts = (ap (λ (x : Scene C). x.read_faults) wrote.only, ap (λ (x : Scene C). x.write_faults) wrote.only);
}

-- ---- the steps

pub heads_go : {C : Type 0} (a b : Scene C) (most : ℕ) (found : Option Head) → Heads a b (Ok found) → Goes a b most 0 None
heads_go {C} a b most found heads = reads_go a b most None heads.only (heads.cause, ap (λ (x : Scene C). x.write_faults) heads.only)

pub judges_go : {C : Type 0} (reads : C → Taken → C → Type 0) (head : Head) (body : List ℕ) (a b : Scene C) (v : Begun)
    → Judges reads head body a b v → Goes a b 1 0 None
judges_go reads head body a b (begun.Unasked refusal) (is, same) = same_goes a b 1 same
judges_go reads head body a b (begun.Asked answer) (r, now, words, asked, read, begins, only) =
    asks_go a b 1 0 only (begins_move a.book b.book now _ r answer begins)

-- nobody waited to be told, or was told
pub invites_go : {C : Type 0} (head : Head) (v : Begun) (a b : Scene C) → Invites {T = Unit {0}} head v a b (Ok tt) → Goes a b 0 0 None
invites_go head v a b invites = wrote_goes a b _ (invites_wrote head v a b (Unit {0}) tt invites)

pub bodies_go : {C : Type 0} (a b : Scene C) (n : ℕ) (body : List ℕ) → Bodies a b n body → Goes a b 0 0 None
bodies_go {C} a b n body bodies = quiet a b _ 0 0 bodies.only refl refl refl (same_moves a.book b.book 0 (ap (λ (x : Scene C). x.book) bodies.only))

-- a body that was taken before the request was looked for, or none
pub early_goes : {C : Type 0} (head : Head) (a b : Scene C) (body : List ℕ) → TakesEarly head a b (Ok body) → Goes a b 0 0 None
early_goes {C} head a b body takes = here (is_early head) takes
  where
    here : (early : Bool) → MatchBool early (Bodies a b (length_of head) body) ((body ≡ []) × (b ≡ a)) → Goes a b 0 0 None
    here true bodies = bodies_go a b (length_of head) body bodies
    here false none = same_goes a b 0 none.1

-- an answer that isn't of a file has no piece
plain_response : (answer : Answer) (v : Response) → IsResponse answer v → failed_first v ≡ 0
plain_response (Ok reply.Closed) v is = absurd is
plain_response (Ok (reply.Granted goal)) v is = absurd is
plain_response other v is = ap failed_first is

plain_goes : {C : Type 0} (a b : Scene C) (answer : Answer) (v : Response) → IsResponse answer v → Goes a b 1 0 None → Goes a b 1 (failed_first v) None
plain_goes a b answer v is goes = subst (λ (z : ℕ). Goes a b 1 z None) (sym (plain_response answer v is)) goes

pub passes_go : {C : Type 0} (reads : C → Taken → C → Type 0) (body : List ℕ) (a b : Scene C) (u : Begun) (v : Response)
    → Passes reads body a b u v → Goes a b 1 (failed_first v) None
passes_go reads body a b (begun.Unasked refusal) v (is, same) = plain_goes a b (Err refusal) v is (same_goes a b 1 same)
passes_go reads body a b (begun.Asked (Ok (reply.Granted (goal.Serve content)))) v starts =
    quiet a b _ 1 _ starts.only refl refl refl (starts_move a.book b.book 1 content v starts.starts)
passes_go reads body a b (begun.Asked (Ok (reply.Granted (goal.Store by key length)))) v (now, answer, read, ends, is, only) =
    plain_goes a b answer v is (asks_go a b 1 0 only (enters_move a.book b.book now _ answer ends.enters))
passes_go reads body a b (begun.Asked (Ok (reply.Granted (goal.Chunk user dir number length)))) v (now, answer, read, ends, is, only) =
    plain_goes a b answer v is (asks_go a b 1 0 only (enters_move a.book b.book now _ answer ends.enters))
passes_go reads body a b (begun.Asked answer) v passes = plain_goes a b answer v passes.0 (same_goes a b 1 passes.1)

pub takes_go : {C : Type 0} (reads : C → Taken → C → Type 0) (head : Head) (a b : Scene C) (u : Begun) (v : Response)
    → TakesIn reads head a b u (Ok v) → Goes a b 1 (failed_first v) None
takes_go reads head a b u v (m, body, bodies, passes) =
    goes_first (bodies_go a m (taken_length head u) body bodies) (passes_go reads body m b u v passes)

pub pieces_go : {C : Type 0} (close : Bool) (content : List Piece) (first : Option (Vec ℕ Global)) (a b : Scene C) (given : List (List ℕ)) (pieces : ℕ)
    → WritesPieces close content first a b given → Rises a.book.strikes pieces b.book.strikes → Goes a b 0 pieces None
pieces_go {C} close content first a b given pieces writes rises = record {
  book = waits_move a.book b.book 0 pieces writes.pieces.waits rises;
  bytes = file_front close content given;
  output = writes.bytes_are;
  counts = (ap (λ (x : Scene C). x.read_faults) writes.pieces.only, writes.no_fault);
}

-- a response that is written whole
pub writes_go : {C : Type 0} (manner : Manner) (v : Response) (a b : Scene C) → Writes {T = Unit {0}} manner v a b (Ok tt) → Goes a b 0 0 None
writes_go manner (response.File content first) a b (given, writes, all, unstruck) =
    pieces_go manner.close content first a b given 0 writes (inl (refl, unstruck))
writes_go manner other a b wrote = wrote_goes a b _ wrote

pub closes_go : {C : Type 0} (reads : C → Taken → C → Type 0) (how : Ending) (granted : Bool) (a b : Scene C) → Closes reads how granted a b
    → Goes a b 1 0 None
closes_go reads how true a b (now, read, ends, only) = asks_go a b 1 0 only (ends_move a.book b.book now how _ ends)
closes_go reads how false a b same = same_goes a b 1 same

-- ---- what is known goes on, and no count of faults rises

pub record Calm {C : Type 0} (a b : Scene C) : Type 0 where
  pub onward : Onward a.book b.book
  pub read : b.read_faults ≡ a.read_faults
  pub write : b.write_faults ≡ a.write_faults

pub calm_of : {C : Type 0} {a b : Scene C} {most pieces : ℕ} → Goes a b most pieces None → Calm a b
calm_of goes = record { onward = goes.book.onward; read = goes.counts.0; write = goes.counts.1 }

pub calm_then : {C : Type 0} (a m b : Scene C) → Calm a m → Calm m b → Calm a b
calm_then a m b p q = record {
  onward = onward_then a.book m.book b.book p.onward q.onward;
  read = q.read ∙ p.read;
  write = q.write ∙ p.write;
}
