-- What the body makes of what was begun.
use Rattle.std.proofs.Common.{◌≡◌, ℕ, List, refl, sym, ◌∙◌, subst, Ok}
use Rattle.std.specs.Prelude.{None, Some}
use Rattle.nf_http.specs.Head.{Head}
use Rattle.nf_outside.specs.Lent.{Taken}
use Rattle.nf_words.specs.declared.answer.Goal.TheVariants as goal
use Rattle.nf_words.specs.declared.answer.Reply.TheVariants as reply
use Rattle.nf_session.specs.Prelude.{Bodies, Passes, Scene, StoresBody, taken_length, TakesIn}
use Rattle.nf_session.specs.Steps.{Skips, skipped_length, stored_length}
use Rattle.nf_session.specs.declared.begun.Begun.{Begun}
use Rattle.nf_session.specs.declared.begun.Begun.TheVariants as begun
use Rattle.nf_session.specs.declared.response.Response.{Response}

taken_none : (head : Head) (v : Begun) → stored_length v ≡ None → taken_length head v ≡ skipped_length head v
taken_none head (begun.Asked (Ok (reply.Granted (goal.Store by key length)))) none = absurd (cc)
taken_none head (begun.Asked (Ok (reply.Granted (goal.Chunk user dir number length)))) none = absurd (cc)
taken_none head other none = refl

module _ {C : Type 0} (reads : C → Taken → C → Type 0) (head : Head) (a m b : Scene C) (v : Begun) (w : Response) where
  -- it was to be stored
  pub take_stored : (n : ℕ) (body : List ℕ) → stored_length v ≡ Some n → Bodies a m n body → StoresBody reads body m b w → TakesIn reads head a b v (Ok w)
  take_stored n body is bodies stores = here v is
    where
      here : (z : Begun) → stored_length z ≡ Some n → TakesIn reads head a b z (Ok w)
      here (begun.Asked (Ok (reply.Granted (goal.Store by key length)))) is =
          let same : length ≡ n = cc in (m, body, subst (λ (k : ℕ). Bodies a m k body) (sym same) bodies, stores)
      here (begun.Asked (Ok (reply.Granted (goal.Chunk user dir number length)))) is =
          let same : length ≡ n = cc in (m, body, subst (λ (k : ℕ). Bodies a m k body) (sym same) bodies, stores)
      here other is = absurd (cc)

  -- it was skipped, and makes the same, whatever it was
  pub take_skipped : (n : ℕ) → stored_length v ≡ None → n ≡ skipped_length head v → Skips a m n
      → ((body : List ℕ) → Passes reads body m b v w) → TakesIn reads head a b v (Ok w)
  take_skipped n none length skips passes =
      (m, skips.0, subst (λ (k : ℕ). Bodies a m k skips.0) (length ∙ sym (taken_none head v none)) skips.1, passes skips.0)
