-- A user who is put.
use Rattle.std.proofs.Common.{◌<◌, ◌≡◌, ◌==◌, ◌⊎◌, inl, inr, true, false, List, Option, None, Some, is_some, refl, ap, subst, sym, ◌∙◌, arith}
use Rattle.std.specs.Option.{IfSome, option_map_or}
use Rattle.std.proofs.lemmas.Bool.{both_ways, eqb-true}
use Rattle.nf_base.specs.declared.rows.UserRow.{UserRow}
use Rattle.nf_defs.specs.Prelude.{put, user_key, user_row, with_quota}
use Rattle.nf_words.proofs.Found.{found_has, found_passes}
use Rattle.nf_state.specs.Current.{IsAdded, IsRequoted}

-- where a user of that number is there, it has another quota
pub is_requoted : (users : List UserRow) (row : UserRow) → is_some (user_row users row.id) ≡ true → IsAdded users row ⊎ IsRequoted users row
    → IsRequoted users row
is_requoted users row there (inr it) = it
is_requoted users row there (inl it) = here (user_row users row.id) refl there
  where
    here : (o : Option UserRow) → user_row users row.id ≡ o → is_some o ≡ true → IsRequoted users row
    here None e there = absurd (cc)
    here (Some was) e there =
        let less = subst (λ (o : Option UserRow). IfSome o (λ (other : UserRow). other.id < row.id)) e
        (found_has (λ (other : UserRow). other.id < row.id) (λ (other : UserRow). other.id == row.id) users it.newest) in
        let same = eqb-true was.id row.id (found_passes (λ (other : UserRow). other.id == row.id) users was e) in
        absurd (omega (arith, less, same))

-- elsewhere it is new
pub is_added : (users : List UserRow) (row : UserRow) → is_some (user_row users row.id) ≡ false → IsAdded users row ⊎ IsRequoted users row
    → IsAdded users row
is_added users row none (inl it) = it
is_added users row none (inr it) = absurd (both_ways (is_some (user_row users row.id)) none (ap (λ (o : Option UserRow). is_some o) it.there))

-- another quota puts the row
pub quota_put : (users : List UserRow) (row : UserRow) → IsRequoted users row → with_quota users row.id row.quota ≡ put user_key row users
quota_put users row it =
    ap (λ (o : Option UserRow). option_map_or (λ (old : UserRow). put user_key (record old { quota = row.quota }) users) o users) it.there
    ∙ ap (λ (r : UserRow). put user_key r users) (sym it.same)
