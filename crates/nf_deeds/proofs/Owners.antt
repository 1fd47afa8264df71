-- Whose items there are, each user once.
use Rattle.std.proofs.Common.{◌≡◌, ◌≢◌, ℕ, ◌==◌, ◌||◌, not, Bool, true, false, List, [], ◌∷◌, ◌++◌, filter, if◌then◌else◌, cond, nat_cmp, refl, sym, ap, subst, arith, ◌∙◌}
use Rattle.std.specs.List.{list_any}
use Rattle.std.specs.Ordering.{eq_by_cmp, is_eq}
use Rattle.std.proofs.lemmas.Bool.Decides.{nat_tests}
use Rattle.std.proofs.lemmas.List.Folds.{list_any-append}
use Rattle.std.proofs.lemmas.Bool.{cond_both, eq-eqb, eqb-true, false≢true, ne_eqb, not-false}
use Rattle.std.proofs.lemmas.List.{append-nil}
use Rattle.std.proofs.lemmas.List.Elements.{filter-append}
use Rattle.nf_base.specs.declared.rows.ItemRow.{ItemRow}
use Rattle.nf_words.specs.Prelude.{owners_of}

abbrev others : ℕ → List ℕ → List ℕ
others user users = filter (λ other. not (other == user)) users

abbrev pub among : ℕ → List ℕ → Bool
among user users = list_any (λ other. other == user) users

-- a user is among some without another where it is among all
among_others : (user but : ℕ) (users : List ℕ) → user ≢ but → among user (others but users) ≡ among user users
among_others user but [] differs = refl
among_others user but (first ∷ users) differs =
    cond_both (not (first == but)) (first ∷ others but users) (others but users) (λ (kept : List ℕ). among user kept ≡ among user (first ∷ users))
    (λ e. ap (λ (b : Bool). (first == user) || b) (among_others user but users differs))
    (λ e.
    let same : first ≡ but = eqb-true first but (not-false (first == but) e) in
    let other : (first == user) ≡ false = ne_eqb first user (λ it. differs (sym it ∙ same)) in
    among_others user but users differs ∙ sym (ap (λ (b : Bool). b || among user users) other))

-- one item more
pub owners_more : (items : List ItemRow) (item : ItemRow)
    → owners_of (items ++ item ∷ [])
    ≡ (if among item.owner (owners_of items) then owners_of items else owners_of items ++ item.owner ∷ [])
owners_more [] item = refl
owners_more (first ∷ items) item =
    ap (λ (users : List ℕ). first.owner ∷ others first.owner users) (owners_more items item) ∙ here (first.owner == item.owner) refl
  where
    all : List ℕ
    all = owners_of items

    user : ℕ
    user = item.owner

    -- whether it is the owner of the first or not
    both : (a b : Bool) → (first.owner == user) ≡ a → among user all ≡ b
        → first.owner ∷ others first.owner (if b then all else all ++ user ∷ [])
        ≡ (if a || among user (others first.owner all) then first.owner ∷ others first.owner all else first.owner ∷ others first.owner all ++ user ∷ [])
    both true true e f = refl
    both true false e f =
        let out : not (user == first.owner) ≡ false = ap not (eq-eqb user first.owner (sym (eqb-true first.owner user e))) in
        ap (λ (users : List ℕ). first.owner ∷ users)
        (filter-append (λ other. not (other == first.owner)) all (user ∷ [])
        ∙ ap (λ (b : Bool). others first.owner all ++ (if b then user ∷ [] else [])) out
        ∙ append-nil (others first.owner all))
    both false b e f =
        let differs : user ≢ first.owner = λ same. false≢true (sym e ∙ eq-eqb first.owner user (sym same)) in
        let kept : not (user == first.owner) ≡ true = ap not (ne_eqb user first.owner differs) in
        last b f (among_others user first.owner all differs ∙ f) kept
      where
        last : (b : Bool) → among user all ≡ b → among user (others first.owner all) ≡ b → not (user == first.owner) ≡ true
            → first.owner ∷ others first.owner (if b then all else all ++ user ∷ [])
            ≡ (if among user (others first.owner all) then first.owner ∷ others first.owner all else first.owner ∷ others first.owner all ++ user ∷ [])
        last true f g kept = sym (ap (λ (b : Bool). if b then first.owner ∷ others first.owner all else first.owner ∷ others first.owner all ++ user ∷ []) g)
        last false f g kept =
            ap (λ (users : List ℕ). first.owner ∷ users)
            (filter-append (λ other. not (other == first.owner)) all (user ∷ [])
            ∙ ap (λ (b : Bool). others first.owner all ++ (if b then user ∷ [] else [])) kept)
            ∙ sym (ap (λ (b : Bool). if b then first.owner ∷ others first.owner all else first.owner ∷ others first.owner all ++ user ∷ []) g)

    here : (a : Bool) → (first.owner == user) ≡ a
        → first.owner ∷ others first.owner (if among user all then all else all ++ user ∷ [])
        ≡ (if among user (first.owner ∷ others first.owner all) then first.owner ∷ others first.owner all else first.owner ∷ others first.owner all ++ user ∷ [])
    here a e =
        both a (among user all) e refl
        ∙ sym (ap (λ (b : Bool). if b || among user (others first.owner all) then first.owner ∷ others first.owner all else first.owner ∷ others first.owner all ++ user ∷ []) e)

-- so it is put behind the others, where it isn't among them
pub owners_step : (items : List ItemRow) (item : ItemRow) (b : Bool) (users : List ℕ) → b ≡ among item.owner (owners_of items)
    → users ≡ (if b then owners_of items else owners_of items ++ item.owner ∷ []) → users ≡ owners_of (items ++ item ∷ [])
owners_step items item b users is put =
    put ∙ ap (λ (b : Bool). if b then owners_of items else owners_of items ++ item.owner ∷ []) is ∙ sym (owners_more items item)

-- ---- those that were seen

-- one more is seen, where it wasn't
pub seen_step : (saw next users more : List ℕ) (user : ℕ) (there : Bool) → ((q : ℕ) → list_any (eq_by_cmp nat_cmp q) saw ≡ among q users)
    → ((q : ℕ) → list_any (eq_by_cmp nat_cmp q) next ≡ cond (is_eq (nat_cmp user q)) true (list_any (eq_by_cmp nat_cmp q) saw))
    → there ≡ among user users → more ≡ (if there then users else users ++ user ∷ []) → (q : ℕ) → list_any (eq_by_cmp nat_cmp q) next ≡ among q more
seen_step saw next users more user there same updates is put q =
    updates q ∙ ap (cond (is_eq (nat_cmp user q)) true) (same q) ∙ ap (λ (b : Bool). cond b true (among q users)) test ∙ here there is ∙ sym (ap (among q) put)
  where
    test : is_eq (nat_cmp user q) ≡ (user == q)
    test = grind (arith, nat_tests)

    known : (b : Bool) → (user == q) ≡ b → true ≡ among user users → cond b true (among q users) ≡ among q users
    known true e is = subst (λ (n : ℕ). true ≡ among n users) (eqb-true user q e) is
    known false e is = refl

    fresh : (b a : Bool) → cond b true a ≡ (a || (b || false))
    fresh true true = refl
    fresh true false = refl
    fresh false true = refl
    fresh false false = refl

    here : (there : Bool) → there ≡ among user users → cond (user == q) true (among q users) ≡ among q (if there then users else users ++ user ∷ [])
    here true is = known (user == q) refl is
    here false is = fresh (user == q) (among q users) ∙ sym (list_any-append (λ other. other == q) users (user ∷ []))
