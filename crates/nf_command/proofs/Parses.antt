-- What clap makes of the words behind `init`, none of which is empty or begins with a dash, and of those behind `serve`.
use Rattle.std.proofs.Common.{◌≡◌, ◌≢◌, ◌==◌, ◌++◌, ℕ, List, [], ◌∷◌, Bool, true, false, Some, None, codes, refl, arith}
use Rattle.std.proofs.lemmas.Bool.Decides.{nat_tests}
use Rattle.clap.specs.Words.{Kinds, Text, fault_of, first_of, is_simple, is_simple_and_free, matches_of, takes}
use Rattle.clap.proofs.OnLiterals.{clap_on_literals}
use Rattle.nf_command.specs.Parsers.{init_app, serve_app}

no_dash : (x : ℕ) → x ≢ 45 → (x == 45) ≡ false
no_dash x n = grind (arith, nat_tests)

abbrev pub is_some_kind : Kinds → Bool
is_some_kind [] = false
is_some_kind (kind ∷ kinds) = true

pub init_simple : is_simple init_app ≡ true
unfolding clap_on_literals
init_simple = refl

pub init_free : is_simple_and_free init_app ≡ true
unfolding clap_on_literals
init_free = refl

pub three_taken : (x y z : ℕ) (xs ys zs : Text) → x ≢ 45 → y ≢ 45 → z ≢ 45
    → takes init_app ((x ∷ xs) ∷ (y ∷ ys) ∷ (z ∷ zs) ∷ []) ≡ true
unfolding clap_on_literals
three_taken x y z xs ys zs p q r = let e = no_dash x p in let f = no_dash y q in let g = no_dash z r in simp (e, f, g)

pub name_taken : (x y z : ℕ) (xs ys zs : Text) → x ≢ 45 → y ≢ 45 → z ≢ 45
    → first_of (codes "name") (matches_of init_app ((x ∷ xs) ∷ (y ∷ ys) ∷ (z ∷ zs) ∷ [])) ≡ Some (x ∷ xs)
unfolding clap_on_literals
name_taken x y z xs ys zs p q r = let e = no_dash x p in let f = no_dash y q in let g = no_dash z r in simp (e, f, g)

pub token_taken : (x y z : ℕ) (xs ys zs : Text) → x ≢ 45 → y ≢ 45 → z ≢ 45
    → first_of (codes "token") (matches_of init_app ((x ∷ xs) ∷ (y ∷ ys) ∷ (z ∷ zs) ∷ [])) ≡ Some (y ∷ ys)
unfolding clap_on_literals
token_taken x y z xs ys zs p q r = let e = no_dash x p in let f = no_dash y q in let g = no_dash z r in simp (e, f, g)

pub quota_taken : (x y z : ℕ) (xs ys zs : Text) → x ≢ 45 → y ≢ 45 → z ≢ 45
    → first_of (codes "quota") (matches_of init_app ((x ∷ xs) ∷ (y ∷ ys) ∷ (z ∷ zs) ∷ [])) ≡ Some (z ∷ zs)
unfolding clap_on_literals
quota_taken x y z xs ys zs p q r = let e = no_dash x p in let f = no_dash y q in let g = no_dash z r in simp (e, f, g)

pub none_fails : is_some_kind (fault_of init_app []) ≡ true
unfolding clap_on_literals
none_fails = refl

pub one_fails : (x : ℕ) (xs : Text) → x ≢ 45 → is_some_kind (fault_of init_app ((x ∷ xs) ∷ [])) ≡ true
unfolding clap_on_literals
one_fails x xs p = let e = no_dash x p in simp e

pub two_fail : (x y : ℕ) (xs ys : Text) → x ≢ 45 → y ≢ 45 → is_some_kind (fault_of init_app ((x ∷ xs) ∷ (y ∷ ys) ∷ [])) ≡ true
unfolding clap_on_literals
two_fail x y xs ys p q = let e = no_dash x p in let f = no_dash y q in simp (e, f)

-- with a fourth, whatever follows
pub four_fail : (x y z w : ℕ) (xs ys zs ws : Text) (rest : List Text) → x ≢ 45 → y ≢ 45 → z ≢ 45 → w ≢ 45
    → is_some_kind (fault_of init_app ((x ∷ xs) ∷ (y ∷ ys) ∷ (z ∷ zs) ∷ (w ∷ ws) ∷ rest)) ≡ true
unfolding clap_on_literals
four_fail x y z w xs ys zs ws rest p q r s =
    let e = no_dash x p in let f = no_dash y q in let g = no_dash z r in let h = no_dash w s in simp (e, f, g, h)

pub serve_simple : is_simple serve_app ≡ true
unfolding clap_on_literals
serve_simple = refl

pub no_option_taken : takes serve_app [] ≡ true
unfolding clap_on_literals
no_option_taken = refl

pub apart_taken : (x : ℕ) (xs : Text) → x ≢ 45 → takes serve_app (codes "--connections" ∷ (x ∷ xs) ∷ []) ≡ true
unfolding clap_on_literals
apart_taken x xs p = let e = no_dash x p in simp e

pub joined_taken : (number : Text) → takes serve_app ((codes "--connections=" ++ number) ∷ []) ≡ true
unfolding clap_on_literals
joined_taken number = refl

pub no_option_found : first_of (codes "connections") (matches_of serve_app []) ≡ None
unfolding clap_on_literals
no_option_found = refl

pub apart_found : (x : ℕ) (xs : Text) → x ≢ 45
    → first_of (codes "connections") (matches_of serve_app (codes "--connections" ∷ (x ∷ xs) ∷ [])) ≡ Some (x ∷ xs)
unfolding clap_on_literals
apart_found x xs p = let e = no_dash x p in simp e

pub joined_found : (number : Text) → first_of (codes "connections") (matches_of serve_app ((codes "--connections=" ++ number) ∷ [])) ≡ Some number
unfolding clap_on_literals
joined_found number = refl
