-- Responses that are written in two scenes that are the same.
use Rattle.std.proofs.Common.{append_assoc, ◌++◌, ◌≡◌, ◌≢◌, ◌⊎◌, ℕ, Bool, true, false, List, [], ◌∷◌, refl, sym, ◌∙◌, ap, subst, arith, length, inl, inr, Ok, Err, Result}
use Rattle.std.specs.declared.option.Option.{Option}
use Rattle.std.specs.Io.KnownBytes.{Appends}
use Rattle.std.specs.declared.alloc.Global.{Global}
use Rattle.std.specs.Prelude.{Vec, bytes_eq}
use Rattle.std.proofs.lemmas.Slice.Eq.{bytes_eq-Decides}
use Rattle.std.specs.declared.option.Option.TheVariants.{Some}
use Rattle.std.specs.List.{concat}
use Rattle.nf_base.specs.Content.{size_of}
use Rattle.nf_base.specs.declared.content.Piece.{Piece}
use Rattle.nf_http.specs.declared.wire.WireFault.{WireFault}
use Rattle.nf_http.specs.declared.wire.WireFault.TheVariants as wire
use Rattle.nf_http.specs.Next.{IsOfBytes}
use Rattle.nf_dav.specs.Reply.{file_head, last_manner, refusal_reply}
use Rattle.nf_dav.specs.declared.replies.Manner.{Manner}
use Rattle.nf_session.specs.Prelude.{Book, denial_of, end_by, end_of, EndsBy, EndsSo, file_front, HaveBytes, how_of, IsPiece, manner_of, Responds, Scene, Sends, SendsFile, stays_granted, Way, Writes, WritesPieces, Wrote}
use Rattle.nf_session.specs.declared.ended.Ended.{Ended}
use Rattle.nf_session.specs.declared.ended.Ended.TheVariants as ended
use Rattle.nf_session.specs.declared.response.Response.{Response}
use Rattle.nf_session.specs.declared.response.Response.TheVariants as response
use Rattle.nf_session.proofs.Causes.{broken, is_whole}
use Rattle.nf_session.proofs.Sendings.{given_alone}
use Rattle.nf_checks.specs.Alike.{AreSame, Clash, IsAlone, IsCalmEnd, IsCalmEnded}
use Rattle.nf_checks.proofs.Basics.{told_appended, told_more}
use Rattle.nf_checks.proofs.Bodies.{Similar, equal, files}
use Rattle.nf_checks.proofs.Books.{know_next, lone_waits}
use Rattle.nf_checks.proofs.Scenes.{same_self, wrote_same}

-- ---- the bytes of pieces

decided : (x y : List ℕ) (t : Bool) → bytes_eq x y ≡ t → (x ≡ y) ⊎ (x ≢ y)
decided x y true e = inl ((bytes_eq-Decides x y).0 e)
decided x y false e = inr (λ same. cc (e, (bytes_eq-Decides x y).1 same))

-- a piece of which different bytes were given
record Differing (b d : Book) : Type 0 where
  pub piece : Piece
  pub one : List ℕ
  pub other : List ℕ
  pub given : IsPiece b piece one
  pub also : IsPiece d piece other
  pub differ : one ≢ other

-- bytes that were given are the same up to one
abbrev Differ : Book → Book → List (List ℕ) → List (List ℕ) → Type 0
Differ b d xs ys =
    (p : Differing b d) × (front : List ℕ) × (rest : List ℕ) × (more : List ℕ)
    × (concat xs ≡ front ++ p.one ++ rest) × (concat ys ≡ front ++ p.other ++ more)

in_front : (x front one rest : List ℕ) → x ++ (front ++ one ++ rest) ≡ (x ++ front) ++ one ++ rest
in_front x front one rest = simp append_assoc

given_same : (b d : Book) (content : List Piece) (xs ys : List (List ℕ))
    → HaveBytes (IsPiece b) content xs → HaveBytes (IsPiece d) content ys → length xs ≡ length ys → (xs ≡ ys) ⊎ Differ b d xs ys
given_same b d content [] [] p q n = inl refl
given_same b d content [] (y ∷ ys) p q n = absurd (omega arith)
given_same b d content (x ∷ xs) [] p q n = absurd (omega arith)
given_same b d [] (x ∷ xs) (y ∷ ys) p q n = absurd p
given_same b d (piece ∷ content) (x ∷ xs) (y ∷ ys) p q n =
    both (decided x y (bytes_eq x y) refl) (given_same b d content xs ys p.1 q.1 (omega arith))
  where
    both : (x ≡ y) ⊎ (x ≢ y) → (xs ≡ ys) ⊎ Differ b d xs ys → (x ∷ xs ≡ y ∷ ys) ⊎ Differ b d (x ∷ xs) (y ∷ ys)
    both (inl here) (inl there) = inl (λ i. here i ∷ there i)
    both (inl here) (inr (p, front, rest, more, wrote, also)) =
        let one : x ++ concat xs ≡ (x ++ front) ++ p.one ++ rest = ap (λ z. x ++ z) wrote ∙ in_front x front p.one rest in
        let other : y ++ concat ys ≡ (x ++ front) ++ p.other ++ more = (λ i. sym here i ++ also i) ∙ in_front x front p.other more in
        inr (p, x ++ front, rest, more, one, other)
    both (inr differ) there =
        let first : Differing b d = record { piece = piece; one = x; other = y; given = p.0; also = q.0; differ = differ } in
        inr (first, [], concat xs, concat ys, refl, refl)

-- ---- files

pieces_same : {C : Type 0} (a b c d : Scene C) (close : Bool) (content : List Piece)
    (first other : Option (Vec ℕ Global)) (xs ys : List (List ℕ))
    → AreSame a c → WritesPieces close content first a b xs → WritesPieces close content other c d ys → xs ≡ ys
    → IsAlone a.book b.book → IsAlone c.book d.book → AreSame b d
pieces_same a b c d close content first other xs ys s p q e alone also =
    let bytes : Appends c.output d.output (file_front close content xs) =
    subst (λ z. Appends c.output d.output (file_front close content z)) (sym e) q.bytes_are in
    same_self (record a { book = b.book; output = b.output; write_faults = b.write_faults }) b
    (record c { book = d.book; output = d.output; write_faults = d.write_faults }) d
    (record {
      input = s.input;
      output = told_appended a.output b.output c.output d.output (file_front close content xs) s.output p.bytes_are bytes;
      book = know_next a.book b.book c.book d.book s.book
          (lone_waits a.book b.book p.pieces.waits alone) (lone_waits c.book d.book q.pieces.waits also);
      lent = s.lent;
    }) p.pieces.only q.pieces.only

-- a file that is sent whole
abbrev Whole : {C : Type 0} → Bool → List Piece → Option (Vec ℕ Global) → Scene C → Scene C → Type 0
Whole close content first a b = SendsFile {T = Unit {0}} close content first a b (Ok tt)

ahead : (out head front one rest : List ℕ) → out ++ (head ++ (front ++ one ++ rest)) ≡ (out ++ (head ++ front)) ++ one ++ rest
ahead out head front one rest = simp append_assoc

file_written : (a b : Option (List ℕ)) (close : Bool) (content : List Piece) (given : List (List ℕ)) (out front one rest : List ℕ)
    → a ≡ Some out → Appends a b (file_front close content given) → concat given ≡ front ++ one ++ rest
    → b ≡ Some ((out ++ (file_head close (size_of content) ++ front)) ++ one ++ rest)
file_written a b close content given out front one rest e x is =
    told_more out (file_front close content given) b (subst (λ z. Appends z b (file_front close content given)) e x)
    ∙ ap (λ z. Some (out ++ (file_head close (size_of content) ++ z))) is
    ∙ ap (λ z. Some z) (ahead out (file_head close (size_of content)) front one rest)

files_clash : {C : Type 0} (a b c d : Scene C) (close : Bool) (content : List Piece)
    (first other : Option (Vec ℕ Global)) (xs ys : List (List ℕ))
    → AreSame a c → WritesPieces close content first a b xs → WritesPieces close content other c d ys → Differ b.book d.book xs ys
    → Clash b d
files_clash a b c d close content first other xs ys same p q (f, front, rest, more, wrote, also) = record {
  piece = f.piece;
  one = f.one;
  other = f.other;
  given = f.given;
  also = f.also;
  differ = f.differ;
  front = same.output.0 ++ (file_head close (size_of content) ++ front);
  rest = rest;
  more = more;
  wrote = file_written a.output b.output close content xs same.output.0 front f.one rest same.output.1 p.bytes_are wrote;
  wrote_also = file_written c.output d.output close content ys same.output.0 front f.other more same.output.2 q.bytes_are also;
}

files_same : {C : Type 0} (a b c d : Scene C) (close : Bool) (content : List Piece) (first other : Option (Vec ℕ Global))
    → AreSame a c → Whole close content first a b → Whole close content other c d
    → IsAlone a.book b.book → IsAlone c.book d.book → AreSame b d ⊎ Clash b d
files_same a b c d close content first other same (xs, p, n, calm) (ys, q, m, still) alone also =
    end (given_same b.book d.book content xs ys (given_alone a.book b.book content xs alone p.pieces.are_given)
    (given_alone c.book d.book content ys also q.pieces.are_given) (n ∙ sym m))
  where
    end : (xs ≡ ys) ⊎ Differ b.book d.book xs ys → AreSame b d ⊎ Clash b d
    end (inl e) = inl (pieces_same a b c d close content first other xs ys same p q e alone also)
    end (inr f) = inr (files_clash a b c d close content first other xs ys same p q f)

-- ---- any response

same_writes : {C : Type 0} (a b c d : Scene C) (manner : Manner) (v : Response)
    → AreSame a c → Writes {T = Unit {0}} manner v a b (Ok tt) → Writes {T = Unit {0}} manner v c d (Ok tt)
    → IsAlone a.book b.book → IsAlone c.book d.book → AreSame b d ⊎ Clash b d
same_writes a b c d manner (response.File content first) same p q alone also = files_same a b c d manner.close content first first same p q alone also
same_writes a b c d manner other same p q alone also = inl (wrote_same a b c d _ same p q)

pub writes_same : {C : Type 0} (a b c d : Scene C) (manner : Manner) (v w : Response)
    → Similar v w → AreSame a c → Writes {T = Unit {0}} manner v a b (Ok tt) → Writes {T = Unit {0}} manner w c d (Ok tt)
    → IsAlone a.book b.book → IsAlone c.book d.book → AreSame b d ⊎ Clash b d
writes_same a b c d manner v w (equal e) same p q alone also =
    same_writes a b c d manner v same p (subst (λ z. Writes {T = Unit {0}} manner z c d (Ok tt)) e q) alone also
writes_same a b c d manner v w (files content one two e f) same p q alone also =
    files_same a b c d manner.close content one two same
    (subst (λ z. Writes {T = Unit {0}} manner z a b (Ok tt)) e p) (subst (λ z. Writes {T = Unit {0}} manner z c d (Ok tt)) f q) alone also

-- ---- how the response ends the session

-- a response that isn't written whole ends it otherwise
calm_whole : (end : Option Ended) → IsCalmEnd end → is_whole end ≡ true
calm_whole (Some (ended.Cut fault)) calm = absurd calm
calm_whole (Some ended.WriteFault) calm = absurd calm
calm_whole (Some ended.Memory) calm = absurd calm
calm_whole other calm = refl

-- whoever is invited is told
pub untold : {C : Type 0} (a b : Scene C) (bytes : List ℕ) (by : Ended) → Sends {T = Unit {0}} a b bytes (Err by) → IsCalmEnded by → ⊥
untold a b bytes ended.WriteFault sends calm = calm
untold a b bytes by sends calm = sends

-- so a calm end is the response's own
pub record IsWritten {C : Type 0} (last : Bool) (way : Way) (v : Response) (a b : Scene C)
    (result : Result (Option Ended) Ended) (end : Option Ended) : Type 0 where
  pub whole : result ≡ Ok end
  pub end_is : end ≡ end_of way.closes v
  pub written : Writes {T = Unit {0}} (manner_of last way v) v a b (Ok tt)

pub written_of : {C : Type 0} (last : Bool) (way : Way) (v : Response) (a b : Scene C)
    (result : Result (Option Ended) Ended) (end : Option Ended)
    → Responds last way v a b result → end ≡ end_by result → IsCalmEnd end → IsWritten last way v a b result end
written_of last way v a b (Ok e) end p is calm = record { whole = ap (λ z. Ok z) (sym is); end_is = is ∙ p.0; written = p.1 }
written_of last way v a b (Err by) end p is calm =
    absurd (broken (Unit {0}) (manner_of last way v) v a b by p (calm_whole (Some by) (subst (λ z. IsCalmEnd z) is calm)))

pub ends_similar : (closes : Bool) (v w : Response) → Similar v w → end_of closes v ≡ end_of closes w
ends_similar closes v w (equal e) = sym (ap (end_of closes) e)
ends_similar closes v w (files content one other e f) = ap (end_of closes) e ∙ sym (ap (end_of closes) f)

pub stays_similar : (v w : Response) → Similar v w → stays_granted v ≡ stays_granted w
stays_similar v w (equal e) = sym (ap stays_granted e)
stays_similar v w (files content one other e f) = ap stays_granted e ∙ sym (ap stays_granted f)

pub how_similar : (v w : Response) (one two : Option Ended) → Similar v w
    → how_of {T = Option Ended} v (Ok one) ≡ how_of {T = Option Ended} w (Ok two)
how_similar v w one two (equal e) = whole v one two ∙ sym (ap (λ z. how_of {T = Option Ended} z (Ok two)) e)
  where
    whole : (v : Response) (one two : Option Ended) → how_of {T = Option Ended} v (Ok one) ≡ how_of {T = Option Ended} v (Ok two)
    whole (response.File content first) one two = refl
    whole other one two = refl
how_similar v w one two (files content first other e f) =
    ap (λ z. how_of {T = Option Ended} z (Ok one)) e ∙ sym (ap (λ z. how_of {T = Option Ended} z (Ok two)) f)

-- ---- no message

-- a calm end of bytes that are no message, or end inside one: they are denied
pub record IsDenied {C : Type 0} (fault : WireFault) (a b : Scene C) (by : Ended) : Type 0 where
  pub end_is : by ≡ ended.BadMessage
  pub bytes : IsOfBytes (Err fault)
  pub wrote : Wrote a b (refusal_reply last_manner (denial_of fault))

told_so : {C : Type 0} (fault : WireFault) (a b : Scene C) (by : Ended) → IsOfBytes (Err fault)
    → EndsSo (denial_of fault) a b by → IsCalmEnded by → IsDenied fault a b by
told_so fault a b ended.BadMessage bytes p calm = record { end_is = refl; bytes = bytes; wrote = p }
told_so fault a b ended.WriteFault bytes p calm = absurd calm
told_so fault a b ended.Memory bytes p calm = absurd calm
told_so fault a b by bytes p calm = absurd p

pub denied_of : {C : Type 0} (fault : WireFault) (a b : Scene C) (by : Ended) → EndsBy fault a b by → IsCalmEnded by → IsDenied fault a b by
denied_of wire.ReadFault a b by p calm = absurd (subst (λ z. IsCalmEnded z) p.0 calm)
denied_of wire.Memory a b by p calm = absurd (subst (λ z. IsCalmEnded z) p.0 calm)
denied_of other a b by p calm = told_so other a b by tt p calm
