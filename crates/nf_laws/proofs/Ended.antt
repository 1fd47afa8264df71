-- Shares that are ended with what is removed.
use Rattle.std.proofs.Common.{◌≡◌, ℕ, ◌||◌, Bool, true, false, List, [], ◌∷◌, map, option_map, Option, if◌then◌else◌, refl, sym, ap, ◌∙◌}
use Rattle.std.specs.Prelude.{None, Some}
use Rattle.std.specs.Option.{IfSome}
use Rattle.nf_access.specs.Shares.{share_row}
use Rattle.nf_base.specs.declared.rows.ShareRow.{ShareRow}
use Rattle.nf_laws.proofs.Others.{row_ended, unless_gone}
use Rattle.nf_laws.specs.Acts.{AreEnded}
use Rattle.nf_words.specs.Prelude.{ended_row}

is_ended : (gone : ℕ → Bool) (share : ShareRow) → gone share.node ≡ true → unless_gone gone share ≡ ended_row share
is_ended gone share is = ap (λ (b : Bool). if b then ended_row share else share) is

is_same : (gone : ℕ → Bool) (share : ShareRow) → gone share.node ≡ false → unless_gone gone share ≡ share
is_same gone share is = ap (λ (b : Bool). if b then ended_row share else share) is

-- where what is gone is what passes, just its shares are ended
pub are_ended : (gone : ℕ → Bool) (IsGone : ℕ → Type 0) (shares : List ShareRow) → ((node : ℕ) → IsGone node → gone node ≡ true)
    → ((node : ℕ) → (IsGone node → ⊥) → gone node ≡ false) → AreEnded shares (map (unless_gone gone) shares) IsGone
are_ended gone IsGone shares passes fails = record {
  ended = λ id share there goes.
      row_ended gone shares id ∙ ap (option_map (unless_gone gone)) there ∙ ap Some (is_ended gone share (passes share.node goes));
  others = λ id stays. row_ended gone shares id ∙ here (share_row shares id) stays;
}
  where
    here : (o : Option ShareRow) → IfSome o (λ (share : ShareRow). IsGone share.node → ⊥) → option_map (unless_gone gone) o ≡ o
    here None stays = refl
    here (Some share) stays = ap Some (is_same gone share (fails share.node stays))

-- what two tests end is what one of them passes
module _ (p q : ℕ → Bool) where
  abbrev pub any : ℕ → Bool
  any node = q node || p node

  one_twice : (share : ShareRow) → unless_gone q (unless_gone p share) ≡ unless_gone any share
  one_twice share = here (p share.node) (q share.node) refl refl
    where
      here : (a b : Bool) → p share.node ≡ a → q share.node ≡ b → unless_gone q (unless_gone p share) ≡ unless_gone any share
      here true true e f = ap (unless_gone q) (is_ended p share e) ∙ is_ended q (ended_row share) f ∙ sym (is_ended any share (rw f refl))
      here true false e f = ap (unless_gone q) (is_ended p share e) ∙ is_same q (ended_row share) f ∙ sym (is_ended any share (rw (f, e) refl))
      here false true e f = ap (unless_gone q) (is_same p share e) ∙ is_ended q share f ∙ sym (is_ended any share (rw f refl))
      here false false e f = ap (unless_gone q) (is_same p share e) ∙ is_same q share f ∙ sym (is_same any share (rw (f, e) refl))

  pub ended_twice : (shares : List ShareRow) → map (unless_gone q) (map (unless_gone p) shares) ≡ map (unless_gone any) shares
  ended_twice [] = refl
  ended_twice (share ∷ shares) =
      ap (λ (row : ShareRow). row ∷ map (unless_gone q) (map (unless_gone p) shares)) (one_twice share)
      ∙ ap (λ (rows : List ShareRow). unless_gone any share ∷ rows) (ended_twice shares)
