-- What a body leaves as it was that is taken before the request is looked for.
use Rattle.std.proofs.Common.{◌≡◌, ℕ, List, [], refl, sym, ◌∙◌, ap, subst, inl, inr, Ok}
use Rattle.std.specs.Prelude.{Bool, true, false, MatchBool, Option}
use Rattle.nf_http.specs.Head.{Head, length_of}
use Rattle.nf_outside.specs.Lent.{Taken}
use Rattle.nf_session.specs.Prelude.{Bodies, Meets, MeetsWith, Scene, TakesEarly, is_early}
use Rattle.nf_session.specs.declared.ended.Ended.{Ended}

module _ {C : Type 0} (head : Head) (a b : Scene C) (body : List ℕ) where
  abbrev Early : Bool → Type 0
  Early early = MatchBool early (Bodies a b (length_of head) body) ((body ≡ []) × (b ≡ a))

  pub early_bodies : is_early head ≡ true → TakesEarly head a b (Ok body) → Bodies a b (length_of head) body
  early_bodies is takes = subst Early is takes

  pub early_none : is_early head ≡ false → TakesEarly head a b (Ok body) → (body ≡ []) × (b ≡ a)
  early_none is takes = subst Early is takes

  -- nothing was touched but the input
  pub early_only : TakesEarly head a b (Ok body) → b ≡ record a { input = b.input; kept = b.kept }
  early_only takes = here (is_early head) takes
    where
      here : (early : Bool) → Early early → b ≡ record a { input = b.input; kept = b.kept }
      here true bodies = bodies.only
      here false none = subst (λ (z : Scene C). z ≡ record a { input = z.input; kept = z.kept }) (sym none.1) refl

  pub early_book : TakesEarly head a b (Ok body) → b.book ≡ a.book
  early_book takes = ap (λ (z : Scene C). z.book) (early_only takes)

-- where none is taken so, the step does nothing
pub none_early : {C : Type 0} (head : Head) (a : Scene C) → is_early head ≡ false → TakesEarly head a a (Ok [])
none_early {C} head a is =
    subst (λ (early : Bool). MatchBool early (Bodies a a (length_of head) []) ((◌≡◌ {A = List ℕ} [] []) × (a ≡ a))) (sym is) (refl, refl)

-- and the request is met at once
pub meets_at_once : {C : Type 0} (reads : C → Taken → C → Type 0) (last : Bool) (head : Head) (a b : Scene C) (end : Option Ended)
    → is_early head ≡ false → Meets reads last head a b end → MeetsWith reads last head [] a b end
meets_at_once reads last head a b end is (inl cut) = let never : true ≡ false = sym cut.takes.0 ∙ is in absurd (cc)
meets_at_once {C} reads last head a b end is (inr (m, body, takes, meets)) =
    let none = early_none head a m body is takes in
    subst (λ (x : Scene C). MeetsWith reads last head [] x b end) none.1
    (subst (λ (bytes : List ℕ). MeetsWith reads last head bytes m b end) none.0 meets)
