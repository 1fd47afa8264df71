-- The words behind `serve`: what clap makes of the option, and what it says.
use Rattle.std.proofs.Common.{◌≡◌, ◌≢◌, ◌++◌, ◌∙◌, ℕ, true, List, [], ◌∷◌, drop, Option, None, Some, MatchOption, codes, refl, sym, ap, subst, arith, inl, inr}
use Rattle.std.specs.Prelude.{decimal}
use Rattle.clap.specs.Words.{Text, first_of, matches_of, takes}
use Rattle.nf_command.specs.Behind.{AreOption, SaysNumber, is_operand}
use Rattle.nf_command.specs.Command.{IsCommand, IsServe, SaysServe}
use Rattle.nf_command.specs.Parsers.{serve_app}
use Rattle.nf_command.proofs.Parses.{apart_found, apart_taken, joined_found, joined_taken, no_option_found, no_option_taken}
use Rattle.nf_command.proofs.Three.{decimal_is_operand, is_no_option}
use Rattle.nf_command.proofs.Words.{begins, generate_begins, goes_on}

-- clap takes the option, and finds that number
pub record FindsNumber (words : List Text) (number : Option Text) : Type 0 where
  pub taken : takes serve_app words ≡ true
  pub found : first_of (codes "connections") (matches_of serve_app words) ≡ number

finds_apart : (number : Text) → is_operand number ≡ true → FindsNumber (codes "--connections" ∷ number ∷ []) (Some number)
finds_apart [] operand = absurd (cc operand)
finds_apart (x ∷ xs) operand =
    let begun : x ≢ 45 = is_no_option (x ∷ xs) operand in
    record { taken = apart_taken x xs begun; found = apart_found x xs begun }

pub record IsFound (words : List Text) (n : ℕ) : Type 0 where
  pub number : Option Text
  pub option : AreOption words number
  pub says : SaysNumber number n
  pub finds : FindsNumber words number

pub serve_is_found : (words : List Text) (n : ℕ) → IsServe (codes "serve" ∷ words) n → IsFound words n
serve_is_found words n is = case is.spelled
  where
    case : SaysServe (codes "serve" ∷ words) n → IsFound words n
    case (inl says) =
        let none : words ≡ [] = ap (λ (w : List Text). drop 1 w) says.0 in
        record {
          number = None;
          option = none;
          says = says.1;
          finds = subst (λ (w : List Text). FindsNumber w None) (sym none) (record { taken = no_option_taken; found = no_option_found });
        }
    case (inr (inl says)) =
        let apart : words ≡ codes "--connections" ∷ decimal n ∷ [] = ap (λ (w : List Text). drop 1 w) says in
        record {
          number = Some (decimal n);
          option = inl apart;
          says = (refl, is.some, is.few);
          finds = subst (λ (w : List Text). FindsNumber w (Some (decimal n))) (sym apart)
              (finds_apart (decimal n) (decimal_is_operand n (omega (arith, is.few))));
        }
    case (inr (inr says)) =
        let joined : words ≡ (codes "--connections=" ++ decimal n) ∷ [] = ap (λ (w : List Text). drop 1 w) says in
        record {
          number = Some (decimal n);
          option = inr joined;
          says = (refl, is.some, is.few);
          finds = subst (λ (w : List Text). FindsNumber w (Some (decimal n))) (sym joined)
              (record { taken = joined_taken (decimal n); found = joined_found (decimal n) });
        }

is_serve : (words : List Text) (number : Option Text) (n : ℕ) → AreOption words number → SaysNumber number n → IsServe (codes "serve" ∷ words) n
is_serve words None n none says =
    record { spelled = inl (ap (λ (w : List Text). codes "serve" ∷ w) none, says); some = omega (arith, says); few = omega (arith, says) }
is_serve words (Some number) n (inl apart) says = record {
  spelled = inr (inl (ap (λ (w : List Text). codes "serve" ∷ w) apart
      ∙ ap (λ (d : Text). codes "serve" ∷ codes "--connections" ∷ d ∷ []) says.0));
  some = says.1;
  few = says.2;
}
is_serve words (Some number) n (inr joined) says = record {
  spelled = inr (inr (ap (λ (w : List Text). codes "serve" ∷ w) joined
      ∙ ap (λ (d : Text). codes "serve" ∷ (codes "--connections=" ++ d) ∷ []) says.0));
  some = says.1;
  few = says.2;
}

-- what the number that is found says is what the words say
pub said_is_served : (words : List Text) (number : Option Text) (r : Option ℕ)
    → ((n : ℕ) (found : IsFound words n) → number ≡ found.number)
    → MatchOption r ((n : ℕ) → AreOption words number → SaysNumber number n → ⊥) (λ n. AreOption words number × SaysNumber number n)
    → MatchOption r ((n : ℕ) → IsServe (codes "serve" ∷ words) n → ⊥) (λ n. IsServe (codes "serve" ∷ words) n)
said_is_served words number None finds none = λ n is.
    let found = serve_is_found words n is in
    let same : found.number ≡ number = sym (finds n found) in
    none n (subst (λ (v : Option Text). AreOption words v) same found.option) (subst (λ (v : Option Text). SaysNumber v n) same found.says)
said_is_served words number (Some n) finds says = is_serve words number n says.0 says.1

-- words behind `serve` are a command only as a `serve`
pub only_serve : (words : List Text) → ((n : ℕ) → IsServe (codes "serve" ∷ words) n → ⊥) → IsCommand (codes "serve" ∷ words) → ⊥
only_serve words none (inl batch) = omega (arith, ap begins batch)
only_serve words none (inr (inl init)) = omega (arith, ap begins init.3.spelled)
only_serve words none (inr (inr (inl serve))) = none serve.0 serve.1
only_serve words none (inr (inr (inr (inl sweep)))) = omega (arith, ap goes_on sweep)
only_serve words none (inr (inr (inr (inr list)))) = omega (arith, generate_begins _ list.0 list.1 list.2)
