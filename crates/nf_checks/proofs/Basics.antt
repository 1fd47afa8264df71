-- Bytes that are told.
use Rattle.std.proofs.Common.{◌≡◌, ℕ, List, ◌++◌, refl, sym, ◌∙◌, ap, subst}
use Rattle.std.specs.Io.KnownBytes.{Appends, Consumes}
use Rattle.std.specs.declared.option.Option.{Option}
use Rattle.std.specs.declared.option.Option.TheVariants.{None, Some}
use Rattle.nf_http.specs.Bodies.{TakesBody}
use Rattle.nf_http.proofs.Wholes.{one_body}
use Rattle.nf_checks.specs.Alike.{TellSame}

pub told_more : (xs bytes : List ℕ) (b : Option (List ℕ)) → Appends (Some xs) b bytes → b ≡ Some (xs ++ bytes)
told_more xs bytes None x = absurd x
told_more xs bytes (Some ys) x = ap (λ z. Some z) x

pub told_appended : (a b c d : Option (List ℕ)) (bytes : List ℕ) → TellSame a c → Appends a b bytes → Appends c d bytes → TellSame b d
told_appended a b c d bytes (xs, e, f) x y = (
  xs ++ bytes,
  told_more xs bytes b (subst (λ z. Appends z b bytes) e x),
  told_more xs bytes d (subst (λ z. Appends z d bytes) f y),
)

-- what is left behind a front
abbrev pub Left : Option (List ℕ) → Type 0
Left b = (rest : List ℕ) × (b ≡ Some rest)

told_left : (xs front : List ℕ) (b : Option (List ℕ)) → Consumes (Some xs) b front → Left b
told_left xs front None x = absurd x
told_left xs front (Some ys) x = (ys, refl)

pub left_of : (a b : Option (List ℕ)) (xs front : List ℕ) → a ≡ Some xs → Consumes a b front → Left b
left_of a b xs front e x = told_left xs front b (subst (λ z. Consumes z b front) e x)

-- bodies of one length were taken
pub told_taken : (a b c d : Option (List ℕ)) (n : ℕ) (p q : List ℕ)
    → TellSame a c → TakesBody a b n p → TakesBody c d n q → (p ≡ q) × TellSame b d
told_taken a b c d n p q (xs, e, f) x y =
    let same : (p ≡ q) × (b ≡ d) =
    one_body xs b d n p q (subst (λ z. TakesBody z b n p) e x) (subst (λ z. TakesBody z d n q) f y) in
    let left : Left b = left_of a b xs p e x.1 in
    (same.0, (left.0, left.1, sym same.1 ∙ left.1))
