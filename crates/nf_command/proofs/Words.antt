-- The words of a slice of strings, and what those of a `serve` say.
use Rattle.std.proofs.Common.{◌≡◌, ◌≤◌, ◌<◌, ◌-◌, ◌∙◌, ℕ, List, [], ◌∷◌, map, take, drop, length, get_or, sym, ap, arith, inl, inr}
use Rattle.std.specs.Prelude.{decimal}
use Rattle.std.proofs.lemmas.List.{take_all}
use Rattle.nf_command.specs.declared.options.TheConstants.{DEFAULT_CONNECTIONS}
use Rattle.nf_command.specs.Command.{IsGenerate, SaysServe}

-- ---- a slice, by its length and what its items read

pub one_item : {S : Type 0} (f : S → List ℕ) (w : S) (ws : List S) (text : List ℕ) → 1 ≤ length ws → length ws < 2 → w ≡ get_or ws 0 w
    → text ≡ f w → map f ws ≡ text ∷ []
one_item f w [] text some one is reads = absurd (omega arith)
one_item f w (x ∷ []) text some one is reads = ap (λ t. t ∷ []) (sym (reads ∙ ap f is))
one_item f w (x ∷ (y ∷ ws)) text some one is reads = absurd (omega arith)

pub two_items : {S : Type 0} (f : S → List ℕ) (v w : S) (ws : List S) (first second : List ℕ) → 2 ≤ length ws → length ws < 3
    → v ≡ get_or ws 0 v → w ≡ get_or ws 1 w → first ≡ f v → second ≡ f w → map f ws ≡ first ∷ second ∷ []
two_items f v w [] first second some two is also reads behind = absurd (omega arith)
two_items f v w (x ∷ ws) first second some two is also reads behind =
    ap (λ l. f x ∷ l) (one_item f w ws second (omega arith) (omega arith) also behind) ∙ ap (λ t. t ∷ second ∷ []) (sym (reads ∙ ap f is))

pub first_item : {S : Type 0} (f : S → List ℕ) (w : S) (ws : List S) (text : List ℕ) (rest : List (List ℕ)) → 1 ≤ length ws → w ≡ get_or ws 0 w
    → text ≡ f w → map f (take (length ws - 1) (drop 1 ws)) ≡ rest → map f ws ≡ text ∷ rest
first_item f w [] text rest some is reads behind = absurd (omega arith)
first_item f w (x ∷ ws) text rest some is reads behind = ap (λ t. t ∷ map f ws) (sym (reads ∙ ap f is))
    ∙ ap (λ l. text ∷ l) (ap (map f) (sym (take_all (length (x ∷ ws) - 1) ws (omega arith))) ∙ behind)

-- ---- the words of a `serve`

-- the first byte
abbrev pub begins : List (List ℕ) → ℕ
begins words = get_or (get_or words 0 []) 0 0

pub serve_begins : (words : List (List ℕ)) (n : ℕ) → SaysServe words n → begins words ≡ 115
serve_begins words n (inl says) = ap begins says.0
serve_begins words n (inr (inl says)) = ap begins says
serve_begins words n (inr (inr says)) = ap begins says

-- the second byte of the first
abbrev pub goes_on : List (List ℕ) → ℕ
goes_on words = get_or (get_or words 0 []) 1 0

pub serve_goes_on : (words : List (List ℕ)) (n : ℕ) → SaysServe words n → goes_on words ≡ 101
serve_goes_on words n (inl says) = ap goes_on says.0
serve_goes_on words n (inr (inl says)) = ap goes_on says
serve_goes_on words n (inr (inr says)) = ap goes_on says

-- ---- the words of a `generate`

pub generate_begins : (words : List (List ℕ)) (seed count : ℕ) → IsGenerate words seed count → begins words ≡ 103
generate_begins words seed count is = ap begins is.spelled

-- ---- the digits that the words of a `serve` say

abbrev said : List (List ℕ) → List ℕ
said (word ∷ (joined ∷ [])) = drop 14 joined
said (word ∷ (option ∷ (digits ∷ others))) = digits
said others = decimal DEFAULT_CONNECTIONS

pub is_said : (words : List (List ℕ)) (n : ℕ) → SaysServe words n → decimal n ≡ said words
is_said words n (inl says) = ap decimal says.1 ∙ sym (ap said says.0)
is_said words n (inr (inl says)) = sym (ap said says)
is_said words n (inr (inr says)) = sym (ap said says)
