-- A turn that takes a chunk's body brings it, and one that serves a file reads it out.
use Rattle.std.proofs.Common.{◌≡◌, ℕ, Bool, List, [], ◌∷◌, Option, None, Some, Result, Ok, ap, subst, ◌∙◌}
use Rattle.std.specs.Prelude.{Vec}
use Rattle.std.specs.declared.alloc.Global.{Global}
use Rattle.nf_base.specs.declared.content.Piece.{Piece}
use Rattle.nf_joins.specs.Turns.{TurnsBring, TurnsRead}
use Rattle.nf_outside.specs.Lent.{Taken}
use Rattle.nf_session.proofs.Lasting.{lasts_same, lasts_then}
use Rattle.nf_session.specs.Prelude.{Book, Lasts, Responds, Scene, SendsFile, Starts, StartsFile, StoresBody, manner_of, way_of}
use Rattle.nf_session.specs.declared.begun.Begun.{Begun}
use Rattle.nf_session.specs.declared.begun.Begun.TheVariants as begun
use Rattle.nf_session.specs.declared.ended.Ended.{Ended}
use Rattle.nf_session.specs.declared.response.Response.{Response}
use Rattle.nf_session.specs.declared.response.Response.TheVariants as response
use Rattle.nf_words.specs.declared.answer.Goal.TheVariants as goal
use Rattle.nf_words.specs.declared.answer.Reply.TheVariants as reply

-- a file starts with the content that was granted
starts_file : (a b : Book) (content other : List Piece) (first : Option (Vec ℕ Global)) → Starts a b content (response.File other first)
    → (other ≡ content) × Lasts a b
starts_file a b [] other None (is, same) = (is, lasts_same a b same)
starts_file a b [] other (Some first) never = absurd never
starts_file a b (piece ∷ pieces) other None never = absurd never
starts_file a b (piece ∷ pieces) other (Some first) (is, waits, given, calm) = (is, waits.lasts)

module _ {C : Type 0} (reads : C → Taken → C → Type 0) where
  pub turns_bring : TurnsBring reads
  turns_bring last head a b user dir number size end answers made = (
    answers.takes.0,
    answers.takes.1,
    answers.takes.2,
    subst (λ (v : Response). StoresBody reads answers.takes.1 answers.takes.0 answers.taken v) made answers.takes.3,
  )

  pub turns_read : TurnsRead reads
  turns_read last head early k m a b content other first end ended (r, now, words, asked, read, begins, only) invites answers is written =
      let begun : Begun = begun.Asked (Ok (reply.Granted (goal.Serve content))) in
      let x : Scene C = answers.takes.0 in
      let starts : StartsFile x answers.taken content (response.File other first) =
      subst (λ (v : Response). StartsFile x answers.taken content v) is answers.takes.3 in
      let file = starts_file x.book answers.taken.book content other first starts.starts in
      let responds : Responds last (way_of head begun) (response.File other first) answers.taken answers.sent (Ok ended) =
      subst (λ (v : Response). Responds last (way_of head begun) v answers.taken answers.sent (Ok ended)) is
      (subst (λ (z : Result (Option Ended) Ended). Responds last (way_of head begun) answers.response answers.taken answers.sent z) written
      answers.responds) in
      let close : Bool = (manner_of last (way_of head begun) (response.File other first)).close in
      let sends : SendsFile {T = Unit {0}} close content first answers.taken answers.sent (Ok tt) =
      subst (λ (pieces : List Piece). SendsFile {T = Unit {0}} close pieces first answers.taken answers.sent (Ok tt)) file.0 responds.1 in
      let same : x.book ≡ m.book = ap (λ (y : Scene C). y.book) answers.takes.2.only ∙ ap (λ (y : Scene C). y.book) invites.1 in
      record {
        now = now;
        words = words;
        request = r;
        enters = begins.entry;
        lasts = lasts_then m.book x.book answers.taken.book (lasts_same m.book x.book same) file.1;
        close = close;
        first = first;
        given = sends.0;
        writes = sends.1;
        all = sends.2;
      }
