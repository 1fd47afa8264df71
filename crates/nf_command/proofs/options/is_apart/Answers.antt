use Rattle.std.proofs.Common.{◌≡◌, ◌∙◌, ◌↔◌, ℕ, List, [], ◌∷◌, Bool, IsTrue, true, get_or, codes, sym, ap}
use Rattle.std.specs.String.{string_bytes}
use Rattle.std.specs.Str.{bytes_eq}
use Rattle.std.proofs.lemmas.Slice.Eq.{bytes_eq-Decides}
use Rattle.nf_command.proofs.Words.{two_items}
use Rattle.nf_command.proofs.options.is_apart.Goals as goal

decides_second : (option text number : List ℕ) (all : List (List ℕ)) (r : Bool) → true ≡ bytes_eq option (codes "--connections")
    → r ≡ bytes_eq text number → all ≡ option ∷ text ∷ [] → IsTrue r ↔ all ≡ codes "--connections" ∷ number ∷ []
decides_second option text number all r begins is two =
    let d = bytes_eq-Decides text number in
    let front : option ≡ codes "--connections" = (bytes_eq-Decides option (codes "--connections")).0 (sym begins) in (
      λ yes. two ∙ (ap (λ (t : List ℕ). t ∷ text ∷ []) front ∙ ap (λ (t : List ℕ). codes "--connections" ∷ t ∷ []) (d.0 (sym is ∙ yes))),
      λ same. is ∙ d.1 (ap (λ (w : List (List ℕ)). get_or w 1 []) (sym two ∙ same)),
    )

pub returns-then-eq : goal.returns-then-eq
returns-then-eq c =
    decides_second c.as_str.result.now c.as_str-then-eq.result.now c.args.number.now _ c.eq-then-eq.result c.if-eq.ensures c.eq-then-eq.ensures
    (two_items string_bytes _ _ c.args.words.now _ _ c.in-len2.len_at_least c.in-len2.len_below c.option-item.is c.digits-item.is
    c.as_str.ensures.value c.as_str-then-eq.ensures.value)
