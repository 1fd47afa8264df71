-- A message that is answered below 300 ends with an entry of its own, or its Begin alone was one; and then the store has the rows.
use Rattle.std.proofs.Common.{ℕ, ◌≡◌, Bool, List, Option, Result, Ok, Err, sym, ap, subst, ◌∙◌}
use Rattle.std.specs.Option.{IfSome}
use Rattle.std.specs.Prelude.{Vec}
use Rattle.std.specs.declared.alloc.Global.{Global}
use Rattle.nf_base.specs.declared.content.Piece.{Piece}
use Rattle.nf_http.specs.Head.{Head}
use Rattle.nf_outside.specs.Lent.{Taken}
use Rattle.nf_words.specs.declared.answer.Goal.TheVariants as goal
use Rattle.nf_words.specs.declared.answer.Reply.TheVariants as reply
use Rattle.nf_session.specs.Prelude.{Book, Closes, Judges, OnlyWrites, Passes, Responds, Scene, TakesIn, TellsRows, Way, how_of, stays_granted, way_of}
use Rattle.nf_session.specs.declared.begun.Begun.{Begun}
use Rattle.nf_session.specs.declared.begun.Begun.TheVariants as begun
use Rattle.nf_session.specs.declared.ended.Ended.{Ended}
use Rattle.nf_session.specs.declared.response.Response.{Response}
use Rattle.nf_session.specs.declared.response.Response.TheVariants as response
use Rattle.nf_session.proofs.Inviting.{invites_wrote}
use Rattle.nf_promises.specs.Acknowledged.{AcknowledgedIsStored, IsBelow300}
use Rattle.nf_promises.proofs.Touches.{StartsOther, book_of, says_only, starts_other, stored_only}

abbrev Tells : Book → Type 0
Tells b = IfSome b.told (λ _. TellsRows b)

-- an answer below 300 that is no file
abbrev IsPlain : Response → Type 0
IsPlain (response.File content first) = ⊥
IsPlain other = IsBelow300 other

plain_other : (v : Response) → IsPlain v → StartsOther v → ⊥
plain_other (response.File content first) plain other = plain
plain_other (response.Lost fault) plain other = plain
plain_other v plain other = other

plain_only : {C : Type 0} (last : Bool) (way : Way) (v : Response) (a b : Scene C) (result : Result (Option Ended) Ended) → IsPlain v
    → Responds last way v a b result → OnlyWrites a b
plain_only last way (response.Listing lines) a b (Ok end) plain responds = says_only {T = Unit {0}} a b _ (Ok tt) responds.1
plain_only last way (response.Listing lines) a b (Err by) plain responds = says_only {T = Unit {0}} a b _ (Err by) responds
plain_only last way (response.Share line) a b (Ok end) plain responds = says_only {T = Unit {0}} a b _ (Ok tt) responds.1
plain_only last way (response.Share line) a b (Err by) plain responds = says_only {T = Unit {0}} a b _ (Err by) responds
plain_only last way (response.Shares lines) a b (Ok end) plain responds = says_only {T = Unit {0}} a b _ (Ok tt) responds.1
plain_only last way (response.Shares lines) a b (Err by) plain responds = says_only {T = Unit {0}} a b _ (Err by) responds
plain_only last way (response.Items lines) a b (Ok end) plain responds = says_only {T = Unit {0}} a b _ (Ok tt) responds.1
plain_only last way (response.Versions lines) a b (Ok end) plain responds = says_only {T = Unit {0}} a b _ (Ok tt) responds.1
plain_only last way (response.Items lines) a b (Err by) plain responds = says_only {T = Unit {0}} a b _ (Err by) responds
plain_only last way (response.Versions lines) a b (Err by) plain responds = says_only {T = Unit {0}} a b _ (Err by) responds
plain_only last way response.Plain a b (Ok end) plain responds = says_only {T = Unit {0}} a b _ (Ok tt) responds.1
plain_only last way response.Plain a b (Err by) plain responds = says_only {T = Unit {0}} a b _ (Err by) responds
plain_only last way v a b result plain responds = stored_only last way v a b result plain responds

module _ {C : Type 0} (reads : C → Taken → C → Type 0) where
  -- the End of what was granted is an entry
  file_tells : (content : List Piece) (first : Option (Vec ℕ Global)) (a b : Scene C) (result : Result (Option Ended) Ended)
      → Closes reads (how_of (response.File content first) result) (stays_granted (response.File content first)) a b → Tells b.book
  file_tells content first a b (Ok end) closes = closes.2.enters.rows
  file_tells content first a b (Err by) closes = closes.2.enters.rows

  plain_closes : (v : Response) (a b : Scene C) (result : Result (Option Ended) Ended) → IsPlain v
      → Closes reads (how_of v result) (stays_granted v) a b → b.book ≡ a.book
  plain_closes response.Made a b result plain same = ap (λ (x : Scene C). x.book) same
  plain_closes response.Done a b result plain same = ap (λ (x : Scene C). x.book) same
  plain_closes (response.Listing lines) a b result plain same = ap (λ (x : Scene C). x.book) same
  plain_closes (response.Share line) a b result plain same = ap (λ (x : Scene C). x.book) same
  plain_closes (response.Shares lines) a b result plain same = ap (λ (x : Scene C). x.book) same
  plain_closes (response.Items lines) a b result plain same = ap (λ (x : Scene C). x.book) same
  plain_closes (response.Versions lines) a b result plain same = ap (λ (x : Scene C). x.book) same
  plain_closes response.Plain a b result plain same = ap (λ (x : Scene C). x.book) same
  plain_closes v a b result plain closes = absurd plain

  -- the End of a body is one, and else the Begin was
  passes_tells : (head : Head) (early : List ℕ) (begun : Begun) (v : Response) (body : List ℕ) (a m x b : Scene C) → Judges reads head early a m begun
      → x.book ≡ m.book → Passes reads body x b begun v → IsPlain v → Tells b.book
  passes_tells head early (begun.Unasked refusal) v body a m x b judges same passes plain = absurd (subst IsPlain passes.0 plain)
  passes_tells head early (begun.Asked (Ok (reply.Granted (goal.Serve content)))) v body a m x b judges same starts plain =
      absurd (plain_other v plain (starts_other x.book b.book content v starts.starts))
  passes_tells head early (begun.Asked (Ok (reply.Granted (goal.Store by key length)))) v body a m x b judges same stores plain =
      stores.3.enters.rows
  passes_tells head early (begun.Asked (Ok (reply.Granted (goal.Chunk user dir number length)))) v body a m x b judges same stores plain =
      stores.3.enters.rows
  passes_tells head early (begun.Asked (Err refusal)) v body a m x b judges same passes plain = absurd (subst IsPlain passes.0 plain)
  passes_tells head early (begun.Asked (Ok word)) v body a m x b (r, now, words, asked, read, begins, only) same passes plain =
      subst Tells (sym (ap (λ (y : Scene C). y.book) passes.1 ∙ same)) begins.entry.rows

  answered_tells : (last : Bool) (head : Head) (early : List ℕ) (begun : Begun) (v : Response) (result : Result (Option Ended) Ended) (a m n t s b : Scene C)
      → Judges reads head early a m begun → n.book ≡ m.book → TakesIn reads head n t begun (Ok v) → Responds last (way_of head begun) v t s result
      → Closes reads (how_of v result) (stays_granted v) s b → IsBelow300 v → Tells b.book
  answered_tells last head early begun (response.File content first) result a m n t s b judges told takes responds closes below =
      file_tells content first s b result closes
  answered_tells last head early begun v result a m n t s b judges told takes responds closes below =
      let book : b.book ≡ t.book =
      plain_closes v s b result below closes ∙ book_of t s (plain_only last (way_of head begun) v t s result below responds) in
      subst Tells (sym book)
      (passes_tells head early begun v takes.1 a m takes.0 t judges (ap (λ (y : Scene C). y.book) takes.2.only ∙ told) takes.3 below)

  pub acknowledged : AcknowledgedIsStored reads
  acknowledged last a b end is =
      let told : is.invited.book ≡ is.judged.book = ap (λ (x : Scene C). x.book)
      (invites_wrote is.head is.begun is.judged is.invited (Unit {0}) tt is.invites).only in
      answered_tells last is.head is.early is.begun is.answers.response is.answers.result is.taken is.judged is.invited is.answers.taken
      is.answers.sent b is.judges told is.answers.takes is.answers.responds is.answers.closes is.below
