use Rattle.std.proofs.Common.{◌≡◌, ◌≤◌, ◌-◌, ◌∙◌, ℕ, true, List, ◌∷◌, map, take, drop, length, get_or, codes, Ok, sym, refl, subst}
use Rattle.std.specs.String.{string_bytes}
use Rattle.std.specs.Str.{bytes_eq}
use Rattle.std.proofs.lemmas.Slice.Eq.{bytes_eq-Decides}
use Rattle.nf_command.specs.Reading.{ReadsCommand}
use Rattle.nf_command.proofs.Words.{first_item}
use Rattle.nf_command.proofs.command.command_of.Goals as goal

begun : {S : Type 0} (f : S → List ℕ) (w : S) (ws : List S) (text word : List ℕ) → true ≡ bytes_eq text word
    → 1 ≤ length ws → w ≡ get_or ws 0 w → text ≡ f w → word ∷ map f (take (length ws - 1) (drop 1 ws)) ≡ map f ws
begun f w ws text word same some first reads =
    sym (first_item f w ws word _ some first (sym ((bytes_eq-Decides text word).0 (sym same)) ∙ reads) refl)

pub returns-in-len1-up : goal.returns-in-len1-up
returns-in-len1-up c =
    subst (λ (ws : List (List ℕ)). ReadsCommand ws c.init_of.result)
    (begun string_bytes _ c.args.words.now _ (codes "init") c.if-eq.ensures c.in-len1-up.len_at_least c.word-item.is c.as_str.ensures.value)
    c.init_of.ensures

pub returns-in-len1-up-2 : goal.returns-in-len1-up-2
returns-in-len1-up-2 c =
    subst (λ (ws : List (List ℕ)). ReadsCommand ws c.serve_of.result)
    (begun string_bytes _ c.args.words.now _ (codes "serve") c.if-eq-2.ensures c.in-len1-up.len_at_least c.word-item-2.is c.as_str-2.ensures.value)
    c.serve_of.ensures

pub returns-in-len1-up-3 : goal.returns-in-len1-up-3
returns-in-len1-up-3 c =
    subst (λ (ws : List (List ℕ)). ReadsCommand ws (Ok c.generate_of.result))
    (begun string_bytes _ c.args.words.now _ (codes "generate") c.if-eq-3.ensures c.in-len1-up.len_at_least c.word-item-3.is c.as_str-3.ensures.value)
    c.generate_of.ensures
