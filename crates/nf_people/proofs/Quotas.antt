-- Users that are found by their numbers, and their quotas.
use Rattle.std.proofs.Common.{ℕ, ◌<◌, ◌==◌, ◌≡◌, ◌&&◌, Bool, true, false, List, [], ◌∷◌, length, get_or, set, Some, None, refl, sym, ap, ◌∙◌}
use Rattle.std.specs.Cmp.{tied_itself}
use Rattle.std.specs.List.{find, position}
use Rattle.std.proofs.lemmas.List.{get_or_default}
use Rattle.std.proofs.lemmas.List.Quantifiers.{position-Some}
use Rattle.nf_base.specs.declared.rows.UserRow.{UserRow}
use Rattle.nf_defs.specs.Prelude.{IsRising, key_cmp, put, user_key, user_row, with_quota}
use Rattle.nf_defs.proofs.Lookups.{find_nowhere, find_there, is_sought}
use Rattle.nf_defs.proofs.Puts.{key_total, put_over, put_rising}

pub and_true : (b : Bool) → b && true ≡ b
and_true true = refl
and_true false = refl

-- the test of a user's number is that of its key
pub by_user : (rows : List UserRow) (user : ℕ) → find (is_sought user_key (user ∷ [])) rows ≡ user_row rows user
by_user rows user = ap (λ (test : UserRow → Bool). find test rows) (λ i row. and_true (row.id == user) i)

module _ (rows : List UserRow) (user : ℕ) where
  abbrev pub sought : UserRow → Bool
  sought = is_sought user_key (user ∷ [])

  pub user_there : (at : ℕ) (old : UserRow) → Some at ≡ position sought rows → old ≡ get_or rows at old → user_row rows user ≡ Some old
  user_there at old first is = sym (find_there sought rows at old first is ∙ by_user rows user)

  pub index_within : (at : ℕ) (old : UserRow) → Some at ≡ position sought rows → at < length rows
  index_within at old first = (position-Some sought rows at old (sym first)).0

  pub user_nowhere : None ≡ position sought rows → user_row rows user ≡ None
  user_nowhere none = sym (find_nowhere sought rows none ∙ by_user rows user)

  module _ (at quota : ℕ) (old : UserRow) (first : Some at ≡ position sought rows) (is : old ≡ get_or rows at old) (rising : IsRising user_key rows) where
    abbrev changed : UserRow
    changed = record old { quota = quota }

    put_there : set rows at changed ≡ put user_key changed rows
    put_there =
        let p = position-Some sought rows at old (sym first) in
        put_over user_key changed rows at p.0
        (λ d. ap (λ (row : UserRow). key_cmp (row.id ∷ []) (old.id ∷ [])) (get_or_default rows at d old p.0 ∙ sym is) ∙ tied_itself key_total (old.id ∷ []))
        rising

    pub quota_set : set rows at changed ≡ with_quota rows user quota
    quota_set = rw (user_there at old first is) put_there

    pub quota_rising : IsRising user_key (set rows at changed)
    quota_rising = rw put_there (put_rising user_key changed rows rising)
