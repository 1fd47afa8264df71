-- The words behind `init`: what clap makes of operands.
use Rattle.std.proofs.Common.{◌≡◌, ◌≢◌, ◌≤◌, ◌<◌, ◌==◌, ◌&&◌, ◌^◌, ℕ, zero, suc, Bool, true, not, List, [], ◌∷◌, length, get_or, Some, codes, drop, sym, refl, ap, subst, arith, inl, inr}
use Rattle.std.specs.Prelude.{decimal}
use Rattle.std.specs.List.{list_all}
use Rattle.std.proofs.lemmas.Bool.Decides.{nat_tests}
use Rattle.std.proofs.lemmas.Fmt.{decimal_digit, first_decimal}
use Rattle.nf_base.specs.Naming.{IsName}
use Rattle.clap.specs.Words.{Text, fault_of, first_of, matches_of, takes}
use Rattle.nf_command.specs.Behind.{AreOperands, is_operand}
use Rattle.nf_command.specs.Command.{IsCommand, IsInit, IsOption}
use Rattle.nf_command.specs.Parsers.{init_app}
use Rattle.nf_command.proofs.Parses.{four_fail, is_some_kind, name_taken, none_fails, one_fails, quota_taken, three_taken, token_taken, two_fail}
use Rattle.nf_command.proofs.Words.{begins, generate_begins, serve_begins}

no_dash : (x : ℕ) (rest : Bool) → (not (x == 45) && rest) ≡ true → x ≢ 45
no_dash x rest all = λ e. absurd (grind (arith, nat_tests))

others : (x : ℕ) (rest : Bool) → (not (x == 45) && rest) ≡ true → rest ≡ true
others x rest all = grind (arith, nat_tests)

abbrev Three : List Text → Type 0
Three words = (name : Text) × (token : Text) × (quota : Text) × (words ≡ name ∷ token ∷ quota ∷ [])

fails : (words : List Text) → is_some_kind (fault_of init_app words) ≡ true → fault_of init_app words ≡ [] → ⊥
fails words some none = cc (ap is_some_kind none)

-- they are three, or clap refuses them
pub are_three : (words : List Text) → list_all is_operand words ≡ true → fault_of init_app words ≡ [] → Three words
are_three [] all none = absurd (fails _ none_fails none)
are_three ([] ∷ words) all none = absurd (cc all)
are_three ((x ∷ xs) ∷ []) all none = absurd (fails _ (one_fails x xs (no_dash x _ all)) none)
are_three ((x ∷ xs) ∷ [] ∷ words) all none = absurd (cc (others x _ all))
are_three ((x ∷ xs) ∷ (y ∷ ys) ∷ []) all none =
    absurd (fails _ (two_fail x y xs ys (no_dash x _ all) (no_dash y _ (others x _ all))) none)
are_three ((x ∷ xs) ∷ (y ∷ ys) ∷ [] ∷ words) all none = absurd (cc (others y _ (others x _ all)))
are_three ((x ∷ xs) ∷ (y ∷ ys) ∷ (z ∷ zs) ∷ []) all none = (x ∷ xs, y ∷ ys, z ∷ zs, refl)
are_three ((x ∷ xs) ∷ (y ∷ ys) ∷ (z ∷ zs) ∷ [] ∷ words) all none = absurd (cc (others z _ (others y _ (others x _ all))))
are_three ((x ∷ xs) ∷ (y ∷ ys) ∷ (z ∷ zs) ∷ (w ∷ ws) ∷ words) all none =
    let second = others x _ all in
    let third = others y _ second in
    let fourth = others z _ third in
    absurd (fails _ (four_fail x y z w xs ys zs ws words (no_dash x _ all) (no_dash y _ second) (no_dash z _ third) (no_dash w _ fourth)) none)

-- three are taken, each in its place
pub record AreTaken (words : List Text) (name token quota : Text) : Type 0 where
  pub taken : takes init_app words ≡ true
  pub name_is : first_of (codes "name") (matches_of init_app words) ≡ Some name
  pub token_is : first_of (codes "token") (matches_of init_app words) ≡ Some token
  pub quota_is : first_of (codes "quota") (matches_of init_app words) ≡ Some quota

three_are_taken : (name token quota : Text) → list_all is_operand (name ∷ token ∷ quota ∷ []) ≡ true
    → AreTaken (name ∷ token ∷ quota ∷ []) name token quota
three_are_taken [] token quota all = absurd (cc all)
three_are_taken (x ∷ xs) [] quota all = absurd (cc (others x _ all))
three_are_taken (x ∷ xs) (y ∷ ys) [] all = absurd (cc (others y _ (others x _ all)))
three_are_taken (x ∷ xs) (y ∷ ys) (z ∷ zs) all =
    let second = others x _ all in
    let p = no_dash x _ all in
    let q = no_dash y _ second in
    let r = no_dash z _ (others y _ second) in
    record {
      taken = three_taken x y z xs ys zs p q r;
      name_is = name_taken x y z xs ys zs p q r;
      token_is = token_taken x y z xs ys zs p q r;
      quota_is = quota_taken x y z xs ys zs p q r;
    }

pub are_taken : (words : List Text) (name token quota : Text) → AreOperands words name token quota → AreTaken words name token quota
are_taken words name token quota are =
    subst (λ (ws : List Text). AreTaken ws name token quota) (sym are.spelled)
    (three_are_taken name token quota (subst (λ (ws : List Text). list_all is_operand ws ≡ true) are.spelled are.all))

-- ---- the operands of an `init`

pub is_operand_is : (word : Text) → 1 ≤ length word → (IsOption word → ⊥) → is_operand word ≡ true
is_operand_is [] some no_option = absurd (omega arith)
is_operand_is (x ∷ xs) some no_option = let n : x ≢ 45 = no_option in grind (arith, nat_tests)

pub is_no_option : (word : Text) → is_operand word ≡ true → IsOption word → ⊥
is_no_option [] operand option = cc operand
is_no_option (x ∷ xs) operand option = let e : x ≡ 45 = option in absurd (grind (arith, nat_tests))

name_is_some : (name : Text) → IsName name → 1 ≤ length name
name_is_some [] is = absurd (cc is)
name_is_some (x ∷ xs) is = omega arith

pub decimal_is_operand : (n : ℕ) → n < 2 ^ 64 → is_operand (decimal n) ≡ true
decimal_is_operand zero few = ap is_operand (decimal_digit 0 (omega arith))
decimal_is_operand (suc n) few =
    let above : 48 < get_or (decimal (suc n)) 0 0 = first_decimal (suc n) (omega arith) few in
    is_operand_is (decimal (suc n)) (some (decimal (suc n)) above) (λ e. absurd (omega arith))
  where
    some : (digits : Text) → 48 < get_or digits 0 0 → 1 ≤ length digits
    some [] above = absurd (omega arith)
    some (x ∷ xs) above = omega arith

three_all : (a b c : Text) → is_operand a ≡ true → is_operand b ≡ true → is_operand c ≡ true → list_all is_operand (a ∷ b ∷ c ∷ []) ≡ true
three_all a b c p q r = rw (p, q, r) refl

pub init_are_operands : (words : List Text) (name token : Text) (quota : ℕ) → IsInit (codes "init" ∷ words) name token quota
    → AreOperands words name token (decimal quota)
init_are_operands words name token quota init =
    let spelled : words ≡ name ∷ token ∷ decimal quota ∷ [] = ap (λ (ws : List Text). drop 1 ws) init.spelled in
    record {
      spelled = spelled;
      all = subst (λ (ws : List Text). list_all is_operand ws ≡ true) (sym spelled)
          (three_all name token (decimal quota) (is_operand_is name (name_is_some name init.named) init.no_option.0)
          (is_operand_is token init.secret.some init.no_option.1) (decimal_is_operand quota (omega (arith, init.few))));
    }

-- words behind `init` are a command only as an `init`
pub only_init : (words : List Text) → IsCommand (codes "init" ∷ words)
    → (name : Text) × (token : Text) × (quota : ℕ) × IsInit (codes "init" ∷ words) name token quota
only_init words (inl batch) = absurd (omega (arith, ap begins batch))
only_init words (inr (inl init)) = init
only_init words (inr (inr (inl serve))) = absurd (omega (arith, serve_begins _ serve.0 serve.1.spelled))
only_init words (inr (inr (inr (inl sweep)))) = absurd (omega (arith, ap begins sweep))
only_init words (inr (inr (inr (inr list)))) = absurd (omega (arith, generate_begins _ list.0 list.1 list.2))
