-- Bodies that are taken in two scenes that are the same, and what they make of what was begun.
use Rattle.std.proofs.Common.{◌≡◌, ℕ, List, [], ◌∷◌, refl, sym, ◌∙◌, ap, subst, Ok, Err}
use Rattle.std.specs.Io.KnownBytes.{IsAtEnd}
use Rattle.std.specs.declared.option.Option.{Option}
use Rattle.std.specs.declared.option.Option.TheVariants.{None, Some}
use Rattle.std.specs.Prelude.{Bool, true, false, MatchBool, Vec}
use Rattle.std.specs.declared.alloc.Global.{Global}
use Rattle.nf_base.specs.declared.content.Piece.{Piece}
use Rattle.nf_http.specs.Bodies.{CutsBody, CutsRead, TakesBody}
use Rattle.nf_http.proofs.Wholes.{whole_or_cut}
use Rattle.nf_http.specs.Head.{Head, length_of}
use Rattle.nf_http.specs.Next.{IsOfBytes}
use Rattle.nf_http.specs.declared.wire.WireFault.{WireFault}
use Rattle.nf_http.specs.declared.wire.WireFault.TheVariants as wire
use Rattle.nf_outside.specs.Lent.{Taken}
use Rattle.nf_words.specs.declared.answer.Goal.TheVariants as goal
use Rattle.nf_words.specs.declared.answer.Reply.TheVariants as reply
use Rattle.nf_session.specs.Prelude.{Answer, Bodies, Book, Cuts, cutting, EndsBody, event_of_body, IsResponse, OnlyReads, Passes, Scene, Starts, StartsFile, StoresBody, taken_length, TakesEarly, TakesIn, is_early}
use Rattle.nf_session.specs.declared.begun.Begun.{Begun}
use Rattle.nf_session.specs.declared.begun.Begun.TheVariants as begun
use Rattle.nf_session.specs.declared.response.Response.{Response}
use Rattle.nf_session.specs.declared.response.Response.TheVariants as response
use Rattle.nf_checks.specs.Alike.{AreSame, IsAlone, IsCalmAnswer, IsCalmResponse, IsSteady, KnowSame, TellSame}
use Rattle.nf_checks.proofs.Basics.{Left, left_of, told_taken}
use Rattle.nf_checks.proofs.Books.{enters_same, know_next, know_self, lone_waits}
use Rattle.nf_checks.proofs.Scenes.{asks_same, readings_same, same_reads, same_self}

-- ---- responses

-- the same response, but for the bytes of a file's first piece
pub data Similar (v w : Response) : Type 0 where
  equal : w ≡ v → Similar v w
  files : (content : List Piece) (one other : Option (Vec ℕ Global)) → v ≡ response.File content one → w ≡ response.File content other → Similar v w

similar : (answer : Answer) (v w : Response) → IsResponse answer v → IsResponse answer w → Similar v w
similar (Ok reply.Closed) v w p q = absurd p
similar (Ok (reply.Granted goal)) v w p q = absurd p
similar answer v w p q = equal (q ∙ sym p)

calm_answer : (answer : Answer) (v : Response) → IsResponse answer v → IsCalmResponse v → IsCalmAnswer answer
calm_answer (Ok reply) v p calm = tt
calm_answer (Err refusal) v p calm = subst (λ z. IsCalmResponse z) p calm

-- ---- the first piece of a file

-- a file is begun with that content, and the book waited at most
started : (a b : Book) (content : List Piece) (v : Response) → Starts a b content v → IsCalmResponse v → IsAlone a b
    → KnowSame a b × (first : Option (Vec ℕ Global)) × (v ≡ response.File content first)
started a b [] (response.File content None) s calm alone = (know_self a b s.1, None, ap (λ z. response.File z None) s.0)
started a b (piece ∷ pieces) (response.File content (Some first)) s calm alone =
    (lone_waits a b s.1 alone, Some first, ap (λ z. response.File z (Some first)) s.0)
started a b (piece ∷ pieces) (response.Lost fault) s calm alone = absurd calm
started a b content other s calm alone = absurd s

starts_same : {C : Type 0} (a b c d : Scene C) (content : List Piece) (v w : Response)
    → AreSame a c → StartsFile a b content v → StartsFile c d content w → IsCalmResponse v → IsCalmResponse w
    → IsAlone a.book b.book → IsAlone c.book d.book → Similar v w × AreSame b d
starts_same a b c d content v w same p q calm still alone also =
    let one = started a.book b.book content v p.starts calm alone in
    let other = started c.book d.book content w q.starts still also in
    let book : KnowSame b.book d.book = know_next a.book b.book c.book d.book same.book one.0 other.0 in (
      files content one.1 other.1 one.2 other.2,
      same_self (record a { book = b.book }) b (record c { book = d.book }) d
          (record { input = same.input; output = same.output; book = book; lent = same.lent }) p.only q.only,
    )

-- ---- the body that is stored

stores_same : {C : Type 0} (reads : C → Taken → C → Type 0) (body : List ℕ) (a b c d : Scene C) (v w : Response)
    → IsSteady reads → AreSame a c → StoresBody reads body a b v → StoresBody reads body c d w → IsCalmResponse v → IsCalmResponse w
    → IsAlone a.book b.book → IsAlone c.book d.book → Similar v w × AreSame b d
stores_same reads body a b c d v w steady same (now1, x, read1, ends1, is1, only1) (now2, y, read2, ends2, is2, only2) calm still alone also =
    let read : (now1 ≡ now2) × (b.lent ≡ d.lent) = readings_same reads a b c d now1 now2 steady same read1 read2 in
    let ends : EndsBody c.book d.book now1 body y = subst (λ z. EndsBody c.book d.book z body y) (sym read.0) ends2 in
    let made : (y ≡ x) × KnowSame b.book d.book =
    enters_same a.book b.book c.book d.book now1 (event_of_body body) x y same.book ends1.enters ends.enters alone also
    (calm_answer x v is1 calm) (calm_answer y w is2 still) in
    (similar x v w is1 (subst (λ z. IsResponse z w) made.0 is2), asks_same a b c d same only1 only2 made.1 read.1)

-- ---- what the body makes of what was begun

pub passes_same : {C : Type 0} (reads : C → Taken → C → Type 0) (body : List ℕ) (a b c d : Scene C) (x : Begun) (v w : Response)
    → IsSteady reads → AreSame a c → Passes reads body a b x v → Passes reads body c d x w → IsCalmResponse v → IsCalmResponse w
    → IsAlone a.book b.book → IsAlone c.book d.book → Similar v w × AreSame b d
passes_same reads body a b c d (begun.Unasked refusal) v w steady same p q calm still alone also =
    (equal (q.0 ∙ sym p.0), same_self a b c d same p.1 q.1)
passes_same reads body a b c d (begun.Asked (Ok (reply.Granted (goal.Serve content)))) v w steady same p q calm still alone also =
    starts_same a b c d content v w same p q calm still alone also
passes_same reads body a b c d (begun.Asked (Ok (reply.Granted (goal.Store by key size)))) v w steady same p q calm still alone also =
    stores_same reads body a b c d v w steady same p q calm still alone also
passes_same reads body a b c d (begun.Asked (Ok (reply.Granted (goal.Chunk user dir number size)))) v w steady same p q calm still alone also =
    stores_same reads body a b c d v w steady same p q calm still alone also
passes_same reads body a b c d (begun.Asked answer) v w steady same p q calm still alone also =
    (similar answer v w p.0 q.0, same_self a b c d same p.1 q.1)

-- ---- the body itself

pub bodies_same : {C : Type 0} (a b c d : Scene C) (n : ℕ) (p q : List ℕ)
    → AreSame a c → Bodies a b n p → Bodies c d n q → (p ≡ q) × AreSame b d
bodies_same a b c d n p q s x y =
    let taken : (p ≡ q) × TellSame b.input d.input = told_taken a.input b.input c.input d.input n p q s.input x.taken y.taken in (
      taken.0,
      same_self (record a { input = b.input; kept = b.kept }) b (record c { input = d.input; kept = d.kept }) d
          (record { input = taken.1; output = s.output; book = s.book; lent = s.lent }) x.only y.only,
    )

pub early_same : {C : Type 0} (head : Head) (a b c d : Scene C) (p q : List ℕ)
    → AreSame a c → TakesEarly head a b (Ok p) → TakesEarly head c d (Ok q) → (p ≡ q) × AreSame b d
early_same head a b c d p q same x y = here (is_early head) x y
  where
    here : (early : Bool) → MatchBool early (Bodies a b (length_of head) p) ((p ≡ []) × (b ≡ a))
        → MatchBool early (Bodies c d (length_of head) q) ((q ≡ []) × (d ≡ c)) → (p ≡ q) × AreSame b d
    here true x y = bodies_same a b c d (length_of head) p q same x y
    here false x y = (x.0 ∙ sym y.0, same_self a b c d same x.1 y.1)

pub takes_same : {C : Type 0} (reads : C → Taken → C → Type 0) (head : Head) (a b c d : Scene C) (x : Begun) (v w : Response)
    → IsSteady reads → AreSame a c → TakesIn reads head a b x (Ok v) → TakesIn reads head c d x (Ok w)
    → IsCalmResponse v → IsCalmResponse w → IsAlone a.book b.book → IsAlone c.book d.book → Similar v w × AreSame b d
takes_same {C = C} reads head a b c d x v w steady same (m, p, bodies1, passes1) (n, q, bodies2, passes2) calm still alone also =
    let taken : (p ≡ q) × AreSame m n = bodies_same a m c n (taken_length head x) p q same bodies1 bodies2 in
    let passes : Passes reads p n d x w = subst (λ z. Passes reads z n d x w) (sym taken.0) passes2 in
    passes_same reads p m b n d x v w steady taken.1 passes1 passes calm still
    (subst (λ z. IsAlone z b.book) (sym (ap (λ (z : Scene C). z.book) bodies1.only)) alone)
    (subst (λ z. IsAlone z d.book) (sym (ap (λ (z : Scene C). z.book) bodies2.only)) also)

-- ---- a body that is cut

-- a body that neither a fault of reading nor want of memory cut, was cut by the end of the input
pub record IsCut {C : Type 0} (a b : Scene C) (n : ℕ) (fault : WireFault) : Type 0 where
  pub fault_is : fault ≡ wire.Truncated
  pub only : OnlyReads a b
  pub cut : CutsRead a.input b.input n wire.Truncated

cut_read : (a b : Option (List ℕ)) (n : ℕ) (fault : WireFault) → CutsRead a b n fault → IsOfBytes (Err fault)
    → (fault ≡ wire.Truncated) × CutsRead a b n wire.Truncated
cut_read a b n wire.Truncated cut calm = (refl, cut)
cut_read a b n wire.ReadFault cut calm = absurd calm
cut_read a b n fault cut calm = absurd cut

cut_by : (x : Begun) (a b : Option (List ℕ)) (n : ℕ) (fault : WireFault) → cutting x a b n fault → IsOfBytes (Err fault)
    → (fault ≡ wire.Truncated) × CutsRead a b n wire.Truncated
cut_by (begun.Asked (Ok (reply.Granted (goal.Store by key size)))) a b n wire.Memory cut calm = absurd calm
cut_by (begun.Asked (Ok (reply.Granted (goal.Store by key size)))) a b n fault cut calm = cut_read a b n fault cut calm
cut_by (begun.Asked (Ok (reply.Granted (goal.Chunk user dir number size)))) a b n wire.Memory cut calm = absurd calm
cut_by (begun.Asked (Ok (reply.Granted (goal.Chunk user dir number size)))) a b n fault cut calm = cut_read a b n fault cut calm
cut_by other a b n fault cut calm = cut_read a b n fault cut calm

pub cut_of : {C : Type 0} (a b : Scene C) (x : Begun) (n : ℕ) (fault : WireFault)
    → Cuts (cutting x) a b n fault → IsOfBytes (Err fault) → IsCut a b n fault
cut_of a b x n fault cuts calm =
    let cut : (fault ≡ wire.Truncated) × CutsRead a.input b.input n wire.Truncated = cut_by x a.input b.input n fault cuts.cut calm in
    record { fault_is = cut.0; only = cuts.only; cut = cut.1 }

-- the same of a body that is taken before the request is looked for
cut_early : (a b : Option (List ℕ)) (n : ℕ) (fault : WireFault) → CutsBody a b n fault → IsOfBytes (Err fault)
    → (fault ≡ wire.Truncated) × CutsRead a b n wire.Truncated
cut_early a b n wire.Memory cut calm = absurd calm
cut_early a b n fault cut calm = cut_read a b n fault cut calm

pub cut_early_of : {C : Type 0} (a b : Scene C) (n : ℕ) (fault : WireFault) → Cuts CutsBody a b n fault → IsOfBytes (Err fault) → IsCut a b n fault
cut_early_of a b n fault cuts calm =
    let cut : (fault ≡ wire.Truncated) × CutsRead a.input b.input n wire.Truncated = cut_early a.input b.input n fault cuts.cut calm in
    record { fault_is = cut.0; only = cuts.only; cut = cut.1 }

-- nothing is left
nothing_left : (a b : Option (List ℕ)) (xs : List ℕ) (n : ℕ) → a ≡ Some xs → CutsRead a b n wire.Truncated → b ≡ Some []
nothing_left a b xs n e cut =
    let left : Left b = left_of a b xs cut.0.0 e cut.0.2 in
    left.1 ∙ ap (λ z. Some z) (subst (λ z. IsAtEnd z) left.1 cut.1)

pub cuts_same : {C : Type 0} (a b c d : Scene C) (n : ℕ) (x y : WireFault) → AreSame a c → IsCut a b n x → IsCut c d n y → AreSame b d
cuts_same a b c d n x y same p q = same_reads a b c d same p.only q.only
    ([], nothing_left a.input b.input same.input.0 n same.input.1 p.cut, nothing_left c.input d.input same.input.0 n same.input.2 q.cut)

-- a body that is there whole isn't cut
pub never_cut : {C : Type 0} (a b c d : Scene C) (n : ℕ) (body : List ℕ) (y : WireFault)
    → AreSame a c → Bodies a b n body → IsCut c d n y → ⊥
never_cut a b c d n body y same p q = whole_or_cut same.input.0 b.input d.input n body
    (subst (λ z. TakesBody z b.input n body) same.input.1 p.taken) (subst (λ z. CutsRead z d.input n wire.Truncated) same.input.2 q.cut)
