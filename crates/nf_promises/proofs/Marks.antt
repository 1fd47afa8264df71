-- The bytes of an answer tell whether it says that something was made or done.
use Rattle.std.proofs.Common.{ℕ, ◌==◌, ◌≡◌, ◌&&◌, ◌||◌, ◌<◌, ◌≤◌, ◌⊎◌, nat_lt, Bool, true, false, List, [], ◌++◌, length, take, get_or, codes, Option, None, Some, Result, Ok, Err, inl, inr, refl, sym, ap, subst, ◌∙◌, arith}
use Rattle.std.proofs.KnownBytes.{Appends-nil}
use Rattle.std.specs.Prelude.{if◌then◌else◌, IsSome, Vec}
use Rattle.std.specs.List.{concat}
use Rattle.std.specs.Io.KnownBytes.{Appends}
use Rattle.std.specs.declared.alloc.Global.{Global}
use Rattle.std.proofs.lemmas.Bool.{ltb-true, ltb-false}
use Rattle.std.proofs.lemmas.List.{append_cancel_left, get_or-take, length-take}
use Rattle.std.proofs.Math.ListN.{get_or-eq_default}
use Rattle.nf_base.specs.Content.{size_of}
use Rattle.nf_base.specs.declared.content.Piece.{Piece}
use Rattle.nf_dav.specs.Reply.{continue_reply, done_reply, file_head, head_bytes, items_reply, last_manner, listing_reply, made_reply, own_line, refusal_body, refusal_reply, status_of, plain_reply, share_reply, shares_reply, versions_reply}
use Rattle.nf_dav.specs.declared.replies.Manner.{Manner}
use Rattle.nf_http.specs.declared.wire.WireFault.{WireFault}
use Rattle.nf_http.specs.declared.wire.WireFault.TheVariants as wire
use Rattle.nf_words.specs.declared.answer.Denial.{Denial}
use Rattle.nf_words.specs.declared.answer.Denial.TheVariants as denial
use Rattle.nf_words.specs.declared.listing.ItemLine.{ItemLine}
use Rattle.nf_words.specs.declared.listing.VersionLine.{VersionLine}
use Rattle.nf_words.specs.declared.listing.ListingLine.{ListingLine}
use Rattle.nf_words.specs.declared.sharing.ShareLine.{ShareLine}
use Rattle.nf_session.specs.Prelude.{denial_of, denial_of_piece, EndsBy, EndsSo, file_front, manner_of, Responds, Says, Scene, SendsFile, Way, Writes}
use Rattle.nf_session.specs.declared.ended.Ended.{Ended}
use Rattle.nf_session.specs.declared.ended.Ended.TheVariants as ended
use Rattle.nf_session.specs.declared.response.Response.{Response}
use Rattle.nf_session.specs.declared.response.Response.TheVariants as response
use Rattle.nf_promises.specs.Kept.{SaysStored}

-- ---- the first and the last digit of the status

-- they are those of 201 or 204, or of 100, which comes before these
abbrev pub is_done : List ℕ → Bool
is_done bytes = get_or bytes 9 0 == 49 || get_or bytes 9 0 == 50 && (get_or bytes 11 0 == 49 || get_or bytes 11 0 == 52)

pub made_mark : (close : Bool) → is_done (made_reply close) ≡ true
made_mark close = refl

pub done_mark : (close : Bool) → is_done (done_reply close) ≡ true
done_mark close = refl

-- those of the invitation, whatever follows
pub invited_mark : (more : List ℕ) → is_done (continue_reply ++ more) ≡ true
invited_mark more = refl

status_mark : (close : Bool) (d : Denial) (own kind more : List ℕ) (n : ℕ) → is_done (head_bytes (status_of d) close own kind n ++ more) ≡ false
status_mark close denial.BadMessage own kind more n = refl
status_mark close other own kind more n = refl

refusal_mark : (manner : Manner) (d : Denial) → is_done (refusal_reply manner d) ≡ false
refusal_mark manner d =
    status_mark manner.close d (own_line d) (codes "application/json") (if manner.head_only then [] else refusal_body manner.ocs d)
    (length (refusal_body manner.ocs d))

file_mark : (close : Bool) (size : ℕ) (more : List ℕ) → is_done (file_head close size ++ more) ≡ false
file_mark close size more = refl

listing_mark : (close : Bool) (lines : List ListingLine) → is_done (listing_reply close lines) ≡ false
listing_mark close lines = refl

share_mark : (close : Bool) (line : ShareLine) → is_done (share_reply close line) ≡ false
share_mark close line = refl

shares_mark : (close : Bool) (lines : List ShareLine) → is_done (shares_reply close lines) ≡ false
shares_mark close lines = refl

items_mark : (close : Bool) (lines : List ItemLine) → is_done (items_reply close lines) ≡ false
items_mark close lines = refl

versions_mark : (close : Bool) (lines : List VersionLine) → is_done (versions_reply close lines) ≡ false
versions_mark close lines = refl

plain_mark : (close : Bool) → is_done (plain_reply close) ≡ false
plain_mark close = refl

-- nor do other fronts
take_mark : (n : ℕ) (bytes : List ℕ) → is_done bytes ≡ false → is_done (take n bytes) ≡ false
take_mark n bytes none = by_first (nat_lt 9 n) refl
  where
    never : (a : Bool) → (a && false) ≡ false
    never true = refl
    never false = refl

    first_none : (a c : Bool) → (a || c) ≡ false → a ≡ false
    first_none true c is = is
    first_none false c is = refl

    by_last : (a : Bool) → nat_lt 11 n ≡ a → get_or (take n bytes) 9 0 ≡ get_or bytes 9 0 → is_done (take n bytes) ≡ false
    by_last true e first =
        let far : 11 < n = ltb-true 11 n e in
        let last : get_or (take n bytes) 11 0 ≡ get_or bytes 11 0 = get_or-take n bytes 11 0 far in
        (λ i. first i == 49 || first i == 50 && (last i == 49 || last i == 52)) ∙ none
    by_last false e first =
        let few : n ≤ 11 = ltb-false 11 n e in
        let past : get_or (take n bytes) 11 0 ≡ 0 = get_or-eq_default (take n bytes) 0 (omega (arith, length-take n bytes)) in
        let other : (get_or bytes 9 0 == 49) ≡ false = first_none _ _ none in
        (λ i. first i == 49 || first i == 50 && (past i == 49 || past i == 52))
        ∙ ap (λ (a : Bool). a || get_or bytes 9 0 == 50 && false) other ∙ never (get_or bytes 9 0 == 50)

    by_first : (a : Bool) → nat_lt 9 n ≡ a → is_done (take n bytes) ≡ false
    by_first true e =
        let near : 9 < n = ltb-true 9 n e in by_last (nat_lt 11 n) refl (get_or-take n bytes 9 0 near)
    by_first false e =
        let few : n ≤ 9 = ltb-false 9 n e in
        let short : length (take n bytes) ≤ 9 = omega (arith, length-take n bytes) in
        let past : get_or (take n bytes) 9 0 ≡ 0 = get_or-eq_default (take n bytes) 0 short in
        (λ i. past i == 49 || past i == 50 && (get_or (take n bytes) 11 0 == 49 || get_or (take n bytes) 11 0 == 52))

-- ---- what was written is one thing

pub one_written : (old new : Option (List ℕ)) (x y : List ℕ) → IsSome old → Appends old new x → Appends old new y → x ≡ y
one_written None new x y told is also = absurd (cc)
one_written (Some xs) None x y told is also = absurd is
one_written (Some xs) (Some ys) x y told is also = append_cancel_left xs x y (sym is ∙ also)

-- and no such answer
abbrev pub Other : Option (List ℕ) → Option (List ℕ) → Type 0
Other old new = (bytes : List ℕ) × Appends old new bytes × (is_done bytes ≡ false)

pub other_not_done : (old new : Option (List ℕ)) (w : List ℕ) → Other old new → IsSome old → Appends old new w → is_done w ≡ true → ⊥
other_not_done old new w (x, is, other) told also done =
    let same : x ≡ w = one_written old new x w told is also in
    let never : false ≡ true = sym other ∙ ap is_done same ∙ done in cc

-- nothing is none
same_other : {C : Type 0} (a b : Scene C) → b ≡ a → Other a.output b.output
same_other {C} a b same = subst (λ (x : Scene C). Other a.output x.output) (sym same) ([], Appends-nil a.output, refl)

-- ---- the answers

says_other : {C : Type 0} (a b : Scene C) (bytes : List ℕ) (result : Result (Unit {0}) Ended) → is_done bytes ≡ false
    → Says a b bytes result → Other a.output b.output
says_other a b bytes (Ok sent) other wrote = (bytes, wrote.bytes_are, other)
says_other a b bytes (Err ended.Memory) other same = same_other a b same
says_other a b bytes (Err ended.WriteFault) other part = (take part.count bytes, part.bytes_are, take_mark part.count bytes other)
says_other a b bytes (Err by) other never = absurd never

front_mark : (close : Bool) (content : List Piece) (given : List (List ℕ)) → is_done (file_front close content given) ≡ false
front_mark close content given = file_mark close (size_of content) (concat given)

sends_other : {C : Type 0} (close : Bool) (content : List Piece) (first : Option (Vec ℕ Global)) (a b : Scene C) (result : Result (Unit {0}) Ended)
    → SendsFile close content first a b result → Other a.output b.output
sends_other close content first a b (Ok sent) (given, writes, count, calm) = (_, writes.bytes_are, front_mark close content given)
sends_other close content first a b (Err (ended.Cut why)) (given, writes, lacks, other) = (_, writes.bytes_are, front_mark close content given)
sends_other close content first a b (Err ended.Memory) (inl same) = same_other a b same
sends_other close content first a b (Err ended.Memory) (inr (given, writes, lacks)) = (_, writes.bytes_are, front_mark close content given)
sends_other close content first a b (Err ended.WriteFault) (given, breaks) =
    (_, breaks.bytes_are, take_mark breaks.count (file_front close content given) (front_mark close content given))
sends_other close content first a b (Err by) never = absurd never

writes_said : {C : Type 0} (manner : Manner) (v : Response) (a b : Scene C) (result : Result (Unit {0}) Ended)
    → Writes {T = Unit {0}} manner v a b result → SaysStored v ⊎ Other a.output b.output
writes_said manner response.Made a b result writes = inl tt
writes_said manner response.Done a b result writes = inl tt
writes_said manner (response.Listing lines) a b result says = inr (says_other a b _ result (listing_mark manner.close lines) says)
writes_said manner (response.Share line) a b result says = inr (says_other a b _ result (share_mark manner.close line) says)
writes_said manner (response.Shares lines) a b result says = inr (says_other a b _ result (shares_mark manner.close lines) says)
writes_said manner (response.Items lines) a b result says = inr (says_other a b _ result (items_mark manner.close lines) says)
writes_said manner (response.Versions lines) a b result says = inr (says_other a b _ result (versions_mark manner.close lines) says)
writes_said manner response.Plain a b result says = inr (says_other a b _ result (plain_mark manner.close) says)
writes_said manner (response.Denied refusal) a b result says = inr (says_other a b _ result (refusal_mark manner refusal) says)
writes_said manner (response.Lost why) a b result says = inr (says_other a b _ result (refusal_mark manner (denial_of_piece why)) says)
writes_said manner (response.File content first) a b result sends = inr (sends_other manner.close content first a b result sends)

-- the response whose bytes say so does
pub responds_stored : {C : Type 0} (last : Bool) (way : Way) (v : Response) (a b : Scene C) (w : List ℕ) (result : Result (Option Ended) Ended)
    → Responds last way v a b result → IsSome a.output → Appends a.output b.output w → is_done w ≡ true → SaysStored v
responds_stored last way v a b w result responds told wrote done = stored (said result responds)
  where
    said : (result : Result (Option Ended) Ended) → Responds last way v a b result → SaysStored v ⊎ Other a.output b.output
    said (Ok end) (is, writes) = writes_said (manner_of last way v) v a b (Ok tt) writes
    said (Err by) writes = writes_said (manner_of last way v) v a b (Err by) writes

    stored : SaysStored v ⊎ Other a.output b.output → SaysStored v
    stored (inl says) = says
    stored (inr other) = absurd (other_not_done a.output b.output w other told wrote done)

-- and bytes that are no message are answered otherwise
so_other : {C : Type 0} (refusal : Denial) (a b : Scene C) (by : Ended) → EndsSo refusal a b by → Other a.output b.output
so_other refusal a b ended.BadMessage wrote = (_, wrote.bytes_are, refusal_mark last_manner refusal)
so_other refusal a b ended.WriteFault part =
    (_, part.bytes_are, take_mark part.count (refusal_reply last_manner refusal) (refusal_mark last_manner refusal))
so_other refusal a b ended.Memory same = same_other a b same
so_other refusal a b other never = absurd never

pub ends_other : {C : Type 0} (why : WireFault) (a b : Scene C) (by : Ended) → EndsBy why a b by → Other a.output b.output
ends_other wire.ReadFault a b by (is, same) = same_other a b same
ends_other wire.Memory a b by (is, same) = same_other a b same
ends_other other a b by ends = so_other (denial_of other) a b by ends
