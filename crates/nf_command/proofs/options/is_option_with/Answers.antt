use Rattle.std.proofs.Common.{◌≡◌, ◌++◌, ◌∙◌, ◌↔◌, ℕ, List, Bool, IsTrue, codes, drop, sym, ap}
use Rattle.std.specs.Str.{bytes_eq}
use Rattle.std.proofs.lemmas.Slice.Eq.{bytes_eq-Decides}
use Rattle.nf_command.proofs.options.is_option_with.Goals as goal

decides_behind : (word digits number : List ℕ) (r : Bool) → r ≡ bytes_eq digits number → word ≡ codes "--connections=" ++ digits
    → IsTrue r ↔ word ≡ codes "--connections=" ++ number
decides_behind word digits number r is front =
    let d = bytes_eq-Decides digits number in (
      λ yes. front ∙ ap (λ (t : List ℕ). codes "--connections=" ++ t) (d.0 (sym is ∙ yes)),
      λ same. is ∙ d.1 (ap (λ (w : List ℕ). drop 14 w) (sym front ∙ same)),
    )

pub returns-in-Some : goal.returns-in-Some
returns-in-Some c =
    let strips = c.in-Some.ensures.cases in
    decides_behind c.args.word.now c.in-Some.digits.now c.args.number.now c.eq.result c.eq.ensures
    (strips.1.1 ∙ ap (λ (l : List ℕ). codes "--connections=" ++ l) (sym strips.2))

pub returns-in-None : goal.returns-in-None
returns-in-None c = (λ yes. absurd (cc yes), λ same. absurd (c.in-None.ensures.cases _ same))
