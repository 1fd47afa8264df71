use Rattle.std.proofs.Common.{arith, ◌≡◌, sym, ◌∙◌, ap, map, List, [], ◌∷◌, ℕ, Bool, true}
use Rattle.std.specs.String.{string_bytes}
use Rattle.std.specs.Str.{bytes_eq}
use Rattle.std.proofs.lemmas.Slice.Eq.{bytes_eq-Decides}
use Rattle.nf_command.proofs.Words.{one_item}
use Rattle.nf_command.proofs.command.is_only.Goals as goal

decides_one : (text word : List ℕ) (all : List (List ℕ)) (r : Bool) → r ≡ bytes_eq text word → all ≡ text ∷ []
    → (r ≡ true → all ≡ word ∷ []) × (all ≡ word ∷ [] → r ≡ true)
decides_one text word all r is one =
    let d = bytes_eq-Decides text word in
    (λ t. one ∙ ap (λ z. z ∷ []) (d.0 (sym is ∙ t)), λ e. is ∙ d.1 (cc))

pub returns-in-len1 : goal.returns-in-len1
returns-in-len1 c =
    decides_one c.as_str.result.now c.args.text.now (map string_bytes c.args.words.now) c.eq.result c.eq.ensures
    (one_item string_bytes c.word-item.result c.args.words.now c.as_str.result.now (omega arith) (omega arith) c.word-item.is c.as_str.ensures.value)
