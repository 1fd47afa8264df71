-- How scenes go on: the book grows, and so does what was written.
use Rattle.std.proofs.Common.{◌≡◌, ℕ, List, ◌++◌, append_assoc, sym, ◌∙◌, ap, subst, arith}
use Rattle.std.proofs.KnownBytes.{Appends-trans}
use Rattle.std.specs.Io.KnownBytes.{Appends}
use Rattle.std.specs.Option.{IfSome}
use Rattle.std.specs.declared.option.Option.{Option}
use Rattle.std.specs.declared.option.Option.TheVariants.{Some}
use Rattle.nf_defs.specs.Blobs.{blob_at}
use Rattle.nf_session.specs.Prelude.{Lasts, Scene, TellsPiece}
use Rattle.nf_session.specs.declared.ended.Ended.{Ended}
use Rattle.nf_session.proofs.Calm.{Goes as Step}
use Rattle.nf_session.proofs.Lasting.{lasts_then, piece_lasts}
use Rattle.nf_checks.specs.Alike.{Clash, IsAlone, StoresAgree}
use Rattle.nf_checks.proofs.Basics.{told_more}

-- what every call keeps is kept, and more was written
pub record Goes {C : Type 0} (a b : Scene C) : Type 0 where
  pub lasts : Lasts a.book b.book
  pub bytes : List ℕ
  pub output : Appends a.output b.output bytes

pub goes_of : {C : Type 0} {a b : Scene C} {n p : ℕ} {end : Option Ended} → Step a b n p end → Goes a b
goes_of s = record { lasts = s.book.onward.lasts; bytes = s.bytes; output = s.output }

module _ {C : Type 0} {a m b : Scene C} where
  pub goes_on : Goes a m → Goes m b → Goes a b
  goes_on p q = record {
    lasts = lasts_then a.book m.book b.book p.lasts q.lasts;
    bytes = p.bytes ++ q.bytes;
    output = Appends-trans a.output m.output b.output p.bytes q.bytes p.output q.output;
  }

  pub alone_first : Goes a m → Goes m b → IsAlone a.book b.book → IsAlone a.book m.book
  alone_first p q alone = omega (arith, p.lasts.entries, q.lasts.entries, alone)

  pub alone_then : Goes a m → Goes m b → IsAlone a.book b.book → IsAlone m.book b.book
  alone_then p q alone = omega (arith, p.lasts.entries, q.lasts.entries, alone)

-- ---- a clash stays one

written_on : (a b : Option (List ℕ)) (front one rest bytes : List ℕ)
    → Appends a b bytes → a ≡ Some (front ++ one ++ rest) → b ≡ Some (front ++ one ++ (rest ++ bytes))
written_on a b front one rest bytes x e =
    told_more (front ++ one ++ rest) bytes b (subst (λ z. Appends z b bytes) e x) ∙ ap (λ z. Some z) (append_assoc (front ++ one) rest bytes)

pub clash_on : {C : Type 0} (a b c d : Scene C) → Goes a b → Goes c d → IsAlone a.book b.book → IsAlone c.book d.book → Clash a c
    → Clash b d
clash_on a b c d g h alone lone clash = record {
  piece = clash.piece;
  one = clash.one;
  other = clash.other;
  given = piece_lasts a.book b.book clash.piece clash.one g.lasts alone clash.given;
  also = piece_lasts c.book d.book clash.piece clash.other h.lasts lone clash.also;
  differ = clash.differ;
  front = clash.front;
  rest = clash.rest ++ g.bytes;
  more = clash.more ++ h.bytes;
  wrote = written_on a.output b.output clash.front clash.one clash.rest g.bytes g.output clash.wrote;
  wrote_also = written_on c.output d.output clash.front clash.other clash.more h.bytes h.output clash.wrote_also;
}

pub clash_back : {C : Type 0} (b d : Scene C) → Clash b d → Clash d b
clash_back b d clash = record {
  piece = clash.piece;
  one = clash.other;
  other = clash.one;
  given = clash.also;
  also = clash.given;
  differ = λ same. clash.differ (sym same);
  front = clash.front;
  rest = clash.more;
  more = clash.rest;
  wrote = clash.wrote_also;
  wrote_also = clash.wrote;
}

-- there is none where the stores agree
pub no_clash : {C : Type 0} (b d : Scene C) → StoresAgree b.book d.book → Clash b d → ⊥
no_clash b d (one, other, e, f, agree) clash =
    let given : blob_at one clash.piece.blob ≡ Some clash.one =
    (subst (λ z. IfSome z (TellsPiece b.book clash.piece clash.one)) e clash.given.told).there in
    let also : blob_at other clash.piece.blob ≡ Some clash.other =
    (subst (λ z. IfSome z (TellsPiece d.book clash.piece clash.other)) f clash.also.told).there in
    clash.differ (agree clash.piece.blob clash.one clash.other given also)
