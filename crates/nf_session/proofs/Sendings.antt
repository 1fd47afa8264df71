-- A file that is sent piece by piece.
use Rattle.std.proofs.Common.{◌≡◌, ℕ, ◌+◌, ◌-◌, ◌^◌, ◌<◌, ◌≤◌, List, [], ◌∷◌, ◌++◌, length, take, sym, ◌∙◌, ap, subst, inl, inr, arith, append-nil, append_assoc, length-append, Result, Ok, Err}
use Rattle.std.proofs.Math.Seq.{take-append-add}
use Rattle.std.proofs.lemmas.List.{take-append-le}
use Rattle.std.proofs.lemmas.List.Folds.{concat-append}
use Rattle.std.proofs.lemmas.Option.{slice_get_within}
use Rattle.std.proofs.KnownBytes.{Appends-trans}
use Rattle.std.specs.Prelude.{Bool, min, Option, Some, slice_get, Vec}
use Rattle.std.specs.List.{concat}
use Rattle.std.specs.declared.alloc.Global.{Global}
use Rattle.std.specs.Io.KnownBytes.{Appends}
use Rattle.nf_outside.specs.Causes.{Rose}
use Rattle.nf_base.specs.Content.{size_of}
use Rattle.nf_base.specs.declared.content.Piece.{Piece}
use Rattle.nf_dav.specs.Reply.{file_head}
use Rattle.nf_session.specs.Prelude.{AreGiven, Book, FailsPiece, file_front, HaveBytes, held, IsGiven, IsPiece, Lasts, Says, Scene, Sends, SendsFile, Waits, WritesPieces, Wrote, WrotePart}
use Rattle.nf_session.specs.Files.{IsStarted, Lacks, SendsPiece, SendsPieces, TakesPiece, taken_first}
use Rattle.nf_session.specs.declared.backend.PieceFault.{PieceFault}
use Rattle.nf_session.specs.declared.backend.PieceFault.TheVariants as fault
use Rattle.nf_session.specs.declared.ended.Ended.{Ended}
use Rattle.nf_session.specs.declared.ended.Ended.TheVariants as ended
use Rattle.nf_session.proofs.Lasting.{lasts_refl, lasts_same, lasts_then, piece_lasts, waits_same, waits_then}
use Rattle.nf_session.proofs.Turns.{sends_failed}

-- ---- pieces that were given

have_then : (P Q : Piece → List ℕ → Type 0) (content : List Piece) (given : List (List ℕ))
    → ((piece : Piece) (bytes : List ℕ) → P piece bytes → Q piece bytes) → HaveBytes P content given → HaveBytes Q content given
have_then P Q content [] each have = tt
have_then P Q [] (bytes ∷ given) each have = absurd have
have_then P Q (piece ∷ content) (bytes ∷ given) each have = (each piece bytes have.0, have_then P Q content given each have.1)

-- between two moments is between an earlier and a later one
pub given_within : (a x y b : Book) (content : List Piece) (given : List (List ℕ)) → Lasts a x → Lasts y b → AreGiven x y content given
    → AreGiven a b content given
given_within a x y b content given before behind =
    have_then (IsGiven x y) (IsGiven a b) content given
    (λ piece bytes is. (is.0, lasts_then a x is.0 before is.1, lasts_then is.0 y b is.2 behind, is.3))

-- what was given while no other's entry came is told still
pub given_alone : (a b : Book) (content : List Piece) (given : List (List ℕ))
    → length b.known + length a.own ≡ length a.known + length b.own
    → AreGiven a b content given → HaveBytes (IsPiece b) content given
given_alone a b content given alone =
    have_then (IsGiven a b) (IsPiece b) content given
    (λ piece bytes is. piece_lasts is.0 b piece bytes is.2 (omega (arith, alone, is.1.entries, is.2.entries)) is.3)

have_more : (P : Piece → List ℕ → Type 0) (content : List Piece) (given : List (List ℕ)) (piece : Piece) (bytes : List ℕ)
    → HaveBytes P content given → slice_get content (length given) ≡ Some piece → P piece bytes → HaveBytes P content (given ++ bytes ∷ [])
have_more P [] [] piece bytes have at is = absurd (cc)
have_more P (first ∷ content) [] piece bytes have at is =
    let there : ◌≡◌ {A = Option Piece} (Some first) (Some piece) = at in
    let same : piece ≡ first = cc in (subst (λ (z : Piece). P z bytes) same is, tt)
have_more P [] (other ∷ given) piece bytes have at is = absurd have
have_more P (first ∷ content) (other ∷ given) piece bytes have at is = (have.0, have_more P content given piece bytes have.1 at is)

-- where one more is there, as many were given as its index says
so_many : (content : List Piece) (given : List (List ℕ)) (n : ℕ) (piece : Piece) → length given ≡ min n (length content)
    → slice_get content n ≡ Some piece → (length given ≡ n) × (n < length content)
so_many content given n piece count at = let below : n < length content = slice_get_within content n piece at in (omega arith, below)

-- ---- bytes

front_more : (close : Bool) (content : List Piece) (given : List (List ℕ)) (bytes : List ℕ)
    → file_front close content (given ++ bytes ∷ []) ≡ file_front close content given ++ bytes
front_more close content given bytes =
    ap (λ (z : List ℕ). file_head close (size_of content) ++ z)
    (concat-append given (bytes ∷ []) ∙ ap (λ (z : List ℕ). concat given ++ z) (append-nil bytes))
    ∙ sym (append_assoc (file_head close (size_of content)) (concat given) bytes)

-- the head and the first piece, however they are cut
pub front_is : (close : Bool) (content : List Piece) (first : Option (Vec ℕ Global)) (size : ℕ) (head piece front rest : List ℕ)
    → size ≡ size_of content → head ≡ file_head close size → piece ≡ concat (taken_first first) → front ++ rest ≡ head ++ piece
    → front ++ rest ≡ file_front close content (taken_first first)
front_is close content first size head piece front rest size_is head_is piece_is cut =
    cut ∙ ap (λ (z : List ℕ). z ++ piece) (head_is ∙ ap (file_head close) size_is)
    ∙ ap (λ (z : List ℕ). file_head close (size_of content) ++ z) piece_is

-- a front of some bytes after others is a front of both
pub record IsFront (a b : Option (List ℕ)) (bytes : List ℕ) : Type 0 where
  pub count : ℕ
  pub less : count < length bytes
  pub bytes_are : Appends a b (take count bytes)

front_behind : (a m b : Option (List ℕ)) (bytes more : List ℕ) → Appends a m bytes → IsFront m b more → IsFront a b (bytes ++ more)
front_behind a m b bytes more p q = record {
  count = length bytes + q.count;
  less = omega (arith, length-append bytes more, q.less);
  bytes_are =
      subst (λ (z : List ℕ). Appends a b z) (sym (take-append-add bytes more q.count))
      (Appends-trans a m b bytes (take q.count more) p q.bytes_are);
}

front_of : {C : Type 0} (a b : Scene C) (bytes : List ℕ) → WrotePart a b bytes → IsFront a.output b.output bytes
front_of a b bytes part = record { count = part.count; less = part.less; bytes_are = part.bytes_are }

-- ---- scenes

-- nothing else was touched but what is known and the output
abbrev OnlySends : {C : Type 0} → Scene C → Scene C → Type 0
OnlySends a b = b ≡ record a { book = b.book; output = b.output; write_faults = b.write_faults }

sends_then : {C : Type 0} (a m b : Scene C) → OnlySends a m → OnlySends m b → OnlySends a b
sends_then a m b p q =
    q ∙ ap (λ (z : Scene _). record z { book = b.book; output = b.output; write_faults = b.write_faults }) p

wrote_sends : {C : Type 0} (a b : Scene C) → b ≡ record a { output = b.output } → OnlySends a b
wrote_sends a b p =
    let book : b.book ≡ a.book = ap (λ (z : Scene _). z.book) p in
    let faults : b.write_faults ≡ a.write_faults = ap (λ (z : Scene _). z.write_faults) p in
    cc

part_sends : {C : Type 0} (a b : Scene C) → b ≡ record a { output = b.output; write_faults = b.write_faults } → OnlySends a b
part_sends a b p = let book : b.book ≡ a.book = ap (λ (z : Scene _). z.book) p in cc

took_sends : {C : Type 0} (a b : Scene C) → b ≡ record a { book = b.book } → OnlySends a b
took_sends a b p =
    let output : b.output ≡ a.output = ap (λ (z : Scene _). z.output) p in
    let faults : b.write_faults ≡ a.write_faults = ap (λ (z : Scene _). z.write_faults) p in
    cc

-- ---- bytes that are written in two parts

part_before : {C : Type 0} (a b : Scene C) (bytes more : List ℕ) → WrotePart a b bytes → WrotePart a b (bytes ++ more)
part_before a b bytes more part = record {
  only = part.only;
  count = part.count;
  less = omega (arith, length-append bytes more, part.less);
  bytes_are =
      subst (λ (z : List ℕ). Appends a.output b.output z) (sym (take-append-le part.count bytes more (omega (arith, part.less)))) part.bytes_are;
  cause = part.cause;
}

part_behind : {C : Type 0} (a m b : Scene C) (bytes more : List ℕ) → Wrote a m bytes → WrotePart m b more → WrotePart a b (bytes ++ more)
part_behind a m b bytes more wrote part =
    let front = front_behind a.output m.output b.output bytes more wrote.bytes_are (front_of m b more part) in
    record {
      only = part.only ∙ ap (λ (z : Scene _). record z { output = b.output; write_faults = b.write_faults }) wrote.only;
      count = front.count;
      less = front.less;
      bytes_are = front.bytes_are;
      cause = subst (λ z. Rose z b.write_faults) (ap (λ (z : Scene _). z.write_faults) wrote.only) part.cause;
    }

pub part_failed : {C : Type 0} (T : Type 0) (a b : Scene C) (bytes more all : List ℕ) (by : Ended) → bytes ++ more ≡ all
    → Sends {T = T} a b bytes (Err by) → Says {T = T} a b all (Err by)
part_failed T a b bytes more all by is sends =
    let p = sends_failed T a b bytes by sends in
    subst (λ (z : Ended). Says {T = T} a b all (Err z)) (sym p.0)
    (subst (λ (z : List ℕ). WrotePart a b z) is (part_before a b bytes more p.1))

pub parts_written : {C T : Type 0} (a m b : Scene C) (bytes more all : List ℕ) (result : Result T Ended) → bytes ++ more ≡ all
    → Wrote a m bytes → Sends m b more result → Says a b all result
parts_written a m b bytes more all (Ok sent) is wrote sends = record {
  only = sends.only ∙ ap (λ (z : Scene _). record z { output = b.output }) wrote.only;
  bytes_are =
      subst (λ (z : List ℕ). Appends a.output b.output z) is
      (Appends-trans a.output m.output b.output bytes more wrote.bytes_are sends.bytes_are);
}
parts_written {C} {T} a m b bytes more all (Err by) is wrote sends =
    let p = sends_failed T m b more by sends in
    subst (λ (z : Ended). Says {T = T} a b all (Err z)) (sym p.0)
    (subst (λ (z : List ℕ). WrotePart a b z) is (part_behind a m b bytes more wrote p.1))

-- a write leaves what is held
pub book_held : {C : Type 0} (a b : Scene C) → b ≡ record a { output = b.output } → held b.book ≡ held a.book
book_held a b p = ap (λ (z : Scene _). held z.book) p

-- why a piece isn't given, as of an earlier book with as many strikes
fails_since : (piece : Piece) (m a b : Book) (why : PieceFault) → m.strikes ≡ a.strikes → FailsPiece m b piece why → FailsPiece a b piece why
fails_since piece m a b fault.Store same struck = struck ∙ ap (λ n. min (n + 1) (2 ^ 64 - 1)) same
fails_since piece m a b (fault.Damaged damage) same damaged = (damaged.0 ∙ same, damaged.1, damaged.2)
fails_since piece m a b fault.Memory same none = none ∙ same

-- ---- a file so far

module _ {C : Type 0} (close : Bool) (content : List Piece) (first : Option (Vec ℕ Global)) where
  -- so many pieces were sent behind the head, or as many as there are, without a strike
  abbrev pub SentSome : Scene C → Scene C → ℕ → Type 0
  SentSome a b n =
      (given : List (List ℕ)) × (length given ≡ min n (length content)) × WritesPieces close content first a b given
      × (b.book.strikes ≡ a.book.strikes)

  pieces_then : (a m b : Scene C) (given : List (List ℕ)) → SendsPieces content first a m given → OnlySends m b → Waits m.book b.book
      → SendsPieces content first a b given
  pieces_then a m b given sends only waits = record {
    only = sends_then a m b sends.only only;
    waits = waits_then a.book m.book b.book sends.waits waits;
    are_given = given_within a.book a.book m.book b.book content given (lasts_refl a.book) waits.lasts sends.are_given;
    first_is = sends.first_is;
  }

  pieces_more : (a b : Scene C) (given : List (List ℕ)) (piece : Piece) (bytes : List ℕ) → SendsPieces content first a b given
      → slice_get content (length given) ≡ Some piece → IsPiece b.book piece bytes → SendsPieces content first a b (given ++ bytes ∷ [])
  pieces_more a b given piece bytes sends at is = record {
    only = sends.only;
    waits = sends.waits;
    are_given =
        have_more (IsGiven a.book b.book) content given piece bytes sends.are_given at (b.book, sends.waits.lasts, lasts_refl b.book, is);
    first_is = (
      sends.first_is.0 ++ bytes ∷ [],
      ap (λ (z : List (List ℕ)). z ++ bytes ∷ []) sends.first_is.1 ∙ append_assoc (taken_first first) sends.first_is.0 (bytes ∷ []),
    );
  }

  -- the piece that was taken before, or none
  pieces_first : (a b : Scene C) → IsStarted a.book content first → OnlySends a b → b.book ≡ a.book
      → SendsPieces content first a b (taken_first first)
  pieces_first a b started only same = record {
    only = only;
    waits = waits_same a.book b.book same;
    are_given =
        have_then (IsPiece a.book) (IsGiven a.book b.book) content (taken_first first)
        (λ piece bytes is. (a.book, lasts_refl a.book, lasts_same a.book b.book same, is)) started.given;
    first_is = ([], sym (append-nil (taken_first first)));
  }

  -- ---- the head and the first piece, if it has one

  breaks_off : (a b : Scene C) (given : List (List ℕ)) → SendsPieces content first a b given → IsFront a.output b.output (file_front close content given)
      → Rose a.write_faults b.write_faults → b.book.strikes ≡ a.book.strikes
      → SendsFile {T = Unit {0}} close content first a b (Err ended.WriteFault)
  breaks_off a b given sends is rose unstruck = (
    given,
    record { pieces = sends; count = is.count; less = is.less; bytes_are = is.bytes_are; cause = rose; unstruck = unstruck },
  )

  pub front_failed : (T : Type 0) (a b : Scene C) (by : Ended) → IsStarted a.book content first
      → Says {T = T} a b (file_front close content (taken_first first)) (Err by) → SendsFile {T = Unit {0}} close content first a b (Err by)
  front_failed T a b ended.WriteFault started says =
      breaks_off a b (taken_first first) (pieces_first a b started (part_sends a b says.only) (ap (λ (z : Scene C). z.book) says.only))
      (front_of a b (file_front close content (taken_first first)) says)
      says.cause
      (ap (λ (z : Scene C). z.book.strikes) says.only)
  front_failed T a b ended.Memory started says = inl says
  front_failed T a b other started says = absurd says

  pub front_sent : (a b : Scene C) → IsStarted a.book content first → Wrote a b (file_front close content (taken_first first))
      → SentSome a b 1
  front_sent a b started wrote =
      let writes : WritesPieces close content first a b (taken_first first) = record {
        pieces = pieces_first a b started (wrote_sends a b wrote.only) (ap (λ (z : Scene C). z.book) wrote.only);
        bytes_are = wrote.bytes_are;
        no_fault = ap (λ (z : Scene C). z.write_faults) wrote.only;
      } in
      (taken_first first, started.count, writes, ap (λ (z : Scene C). z.book.strikes) wrote.only)

  -- ---- the pieces behind

  took_then : (a m t : Scene C) (given : List (List ℕ)) (n : ℕ) (got : Result (Vec ℕ Global) PieceFault) → SendsPieces content first a m given
      → TakesPiece content n m t got → SendsPieces content first a t given
  took_then a m t given n got sends takes = pieces_then a m t given sends (took_sends m t takes.only) takes.gives.waits

  -- a piece more was taken
  took_more : (a m t : Scene C) (given : List (List ℕ)) (n : ℕ) (piece : Vec ℕ Global) → length given ≡ min n (length content) → SendsPieces content first a m given
      → TakesPiece content n m t (Ok piece) → SendsPieces content first a t (given ++ piece.items ∷ [])
  took_more a m t given n piece count sends takes =
      pieces_more a t given takes.gives.piece piece.items (took_then a m t given n (Ok piece) sends takes)
      (ap (slice_get content) (so_many content given n takes.gives.piece count takes.gives.at_index).0 ∙ takes.gives.at_index) takes.gives.given.0

  pub piece_sent : (T : Type 0) (sent : T) (a m b : Scene C) (n : ℕ) → SentSome a m n → SendsPiece content n m b (Ok sent) → SentSome a b (n + 1)
  piece_sent T sent a m b n (given, count, so_far, unstruck) (t, piece, takes, wrote) = (
    given ++ piece.items ∷ [],
    omega (arith, length-append given (piece.items ∷ []), so_many content given n takes.gives.piece count takes.gives.at_index),
    record {
      pieces =
          pieces_then a t b (given ++ piece.items ∷ []) (took_more a m t given n piece count so_far.pieces takes)
          (wrote_sends t b wrote.only) (waits_same t.book b.book (ap (λ (z : Scene C). z.book) wrote.only));
      bytes_are =
          subst (λ (z : List ℕ). Appends a.output b.output z) (sym (front_more close content given piece.items))
          (Appends-trans a.output m.output b.output _ piece.items so_far.bytes_are
          (subst (λ (z : Option (List ℕ)). Appends z b.output piece.items) (ap (λ (z : Scene C). z.output) takes.only) wrote.bytes_are));
      no_fault =
          ap (λ (z : Scene C). z.write_faults) wrote.only ∙ ap (λ (z : Scene C). z.write_faults) takes.only ∙ so_far.no_fault;
    },
    ap (λ (z : Scene C). z.book.strikes) wrote.only ∙ takes.gives.given.1 ∙ unstruck,
  )

  lacks : (a m b : Scene C) (given : List (List ℕ)) (n : ℕ) (why : PieceFault) → length given ≡ min n (length content) → WritesPieces close content first a m given
      → m.book.strikes ≡ a.book.strikes → TakesPiece content n m b (Err why)
      → WritesPieces close content first a b given × Lacks content a b given why
  lacks a m b given n why count so_far unstruck takes = (
    record {
      pieces = took_then a m b given n (Err why) so_far.pieces takes;
      bytes_are = subst (λ (z : Option (List ℕ)). Appends a.output z (file_front close content given)) (sym (ap (λ (z : Scene C). z.output) takes.only)) so_far.bytes_are;
      no_fault = ap (λ (z : Scene C). z.write_faults) takes.only ∙ so_far.no_fault;
    },
    record {
      piece = takes.gives.piece;
      at_index = ap (slice_get content) (so_many content given n takes.gives.piece count takes.gives.at_index).0 ∙ takes.gives.at_index;
      failed = fails_since takes.gives.piece m.book a.book b.book why unstruck takes.gives.given;
    },
  )

  pub piece_failed : (T : Type 0) (a m b : Scene C) (n : ℕ) (by : Ended) → SentSome a m n → SendsPiece {T = T} content n m b (Err by)
      → SendsFile {T = Unit {0}} close content first a b (Err by)
  piece_failed T a m b n ended.WriteFault (given, count, so_far, unstruck) (t, piece, takes, part) =
      breaks_off a b (given ++ piece.items ∷ [])
      (pieces_then a t b (given ++ piece.items ∷ []) (took_more a m t given n piece count so_far.pieces takes)
      (part_sends t b part.only) (waits_same t.book b.book (ap (λ (z : Scene C). z.book) part.only)))
      (subst (λ (z : List ℕ). IsFront a.output b.output z) (sym (front_more close content given piece.items))
      (front_behind a.output m.output b.output _ piece.items so_far.bytes_are
      (subst (λ (z : Option (List ℕ)). IsFront z b.output piece.items) (ap (λ (z : Scene C). z.output) takes.only)
      (front_of t b piece.items part))))
      (subst (λ z. Rose z b.write_faults) (ap (λ (z : Scene C). z.write_faults) takes.only ∙ so_far.no_fault) part.cause)
      (ap (λ (z : Scene C). z.book.strikes) part.only ∙ takes.gives.given.1 ∙ unstruck)
  piece_failed T a m b n (ended.Cut why) (given, count, so_far, unstruck) sends =
      let cut = lacks a m b given n why count so_far unstruck sends.0 in (given, cut.0, cut.1, sends.1)
  piece_failed T a m b n ended.Memory (given, count, so_far, unstruck) sends =
      let cut = lacks a m b given n fault.Memory count so_far unstruck sends in inr (given, cut.0, cut.1)
  piece_failed T a m b n other so_far sends = absurd sends

  pub all_sent : (a b : Scene C) (n : ℕ) → SentSome a b n → length content ≤ n → SendsFile {T = Unit {0}} close content first a b (Ok tt)
  all_sent a b n (given, count, so_far, unstruck) all = (given, so_far, omega arith, unstruck)

-- a piece that was given, and then written or not
pub piece_written : {C T : Type 0} (content : List Piece) (n : ℕ) (a m b : Scene C) (piece : Vec ℕ Global) (result : Result T Ended)
    → TakesPiece content n a m (Ok piece) → Sends m b piece.items result → SendsPiece content n a b result
piece_written content n a m b piece (Ok sent) takes sends = (m, piece, takes, sends)
piece_written {C} {T} content n a m b piece (Err by) takes sends =
    let p = sends_failed T m b piece.items by sends in
    subst (λ (z : Ended). SendsPiece {T = T} content n a b (Err z)) (sym p.0) (m, piece, takes, p.1)
