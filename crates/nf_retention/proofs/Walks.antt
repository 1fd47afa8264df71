-- What the walk keeps is what is to be kept, and what it lets go is the rest.
use Rattle.std.proofs.Common.{◌≡◌, ◌<◌, ◌≤◌, ◌-◌, ◌⊎◌, ℕ, Bool, true, false, List, [], ◌∷◌, if◌then◌else◌, refl, inl, inr, arith, Contains}
use Rattle.std.specs.Prelude.{nat_le}
use Rattle.std.proofs.lemmas.Bool.{leb-true, leb-false}
use Rattle.nf_retention.specs.Laws.{KeptIsRight, ThinnedIsRest}
use Rattle.nf_retention.specs.Thinning.{AreApart, AreParted, IsBetween, kept, kept_below, step, thinned_below}
use Rattle.nf_retention.proofs.Members.{Fall, both_in, fall_at_most, fall_below, fall_from, fall_wider, head_in, in_cases, none_in, rest_in}

-- ---- what is kept

-- those are kept of the versions below the last one that is
pub record AreWalked (now last : ℕ) (versions those : List ℕ) : Type 0 where
  pub members : (x : ℕ) → Contains those x → Contains versions x
  pub apart : AreApart now (last ∷ those)
  pub others : (moment version : ℕ) → Contains versions version → IsBetween (last ∷ those) moment version
      → moment - version < step (now - moment)

-- less than a step below the last one a version is left out
skips : (now last version : ℕ) (older those : List ℕ) → Fall last (version ∷ older) → last - version < step (now - last)
    → AreWalked now last older those → AreWalked now last (version ∷ older) those
skips now last version older those fall close walked =
    record {
      members = λ x has. rest_in version x older (walked.members x has);
      apart = walked.apart;
      others = others;
    }
  where
    others : (moment x : ℕ) → Contains (version ∷ older) x → IsBetween (last ∷ those) moment x → moment - x < step (now - moment)
    others moment x has between = elim (in_cases version x older has) [
      | inr behind ↦ walked.others moment x behind between
      | inl is ↦ elim (in_cases last moment those between.above) [
        | inl top ↦ rw (top, is) close
        | inr inside ↦ absurd (omega (arith, between.below, fall_below version older moment fall.1 (walked.members moment inside)))
      ]
    ]

-- a step or more below it, it is the next one
keeps : (now last version : ℕ) (older those : List ℕ) → Fall last (version ∷ older) → step (now - last) ≤ last - version
    → AreWalked now version older those → AreWalked now last (version ∷ older) (version ∷ those)
keeps now last version older those fall far walked =
    record {
      members = members;
      apart = (far, walked.apart);
      others = others;
    }
  where
    members : (x : ℕ) → Contains (version ∷ those) x → Contains (version ∷ older) x
    members = both_in version those older walked.members

    at_most : (x : ℕ) → Contains (version ∷ older) x → x ≤ version
    at_most x = fall_at_most version older x fall.1

    others : (moment x : ℕ) → Contains (version ∷ older) x → IsBetween (last ∷ version ∷ those) moment x → moment - x < step (now - moment)
    others moment x has between = elim (in_cases last moment (version ∷ those) between.above) [
      | inl top ↦
          let under = between.next version (rest_in last version (version ∷ those) (head_in version those)) (omega (arith, fall.0)) in
          absurd (omega (arith, at_most x has, under))
      | inr inside ↦ elim (in_cases version x older has) [
        | inl is ↦ absurd (omega (arith, between.below, at_most moment (members moment inside)))
        | inr behind ↦ walked.others moment x behind (record {
          above = inside;
          below = between.below;
          next = λ other among. between.next other (rest_in last other (version ∷ those) among);
        })
      ]
    ]

-- so what the walk below the last one keeps is kept below it
walk_on : (now last version : ℕ) (older : List ℕ) (b : Bool) → nat_le (step (now - last)) (last - version) ≡ b
    → Fall last (version ∷ older) → AreWalked now version older (kept_below now version older) → AreWalked now last older (kept_below now last older)
    → AreWalked now last (version ∷ older) (if b then version ∷ kept_below now version older else kept_below now last older)
walk_on now last version older true far fall next same = keeps now last version older _ fall (leb-true _ _ far) next
walk_on now last version older false close fall next same = skips now last version older _ fall (leb-false _ _ close) same

pub kept_walked : (now last : ℕ) (versions : List ℕ) → Fall last versions → AreWalked now last versions (kept_below now last versions)
kept_walked now last [] fall =
    record { members = λ x has. has; apart = tt; others = λ moment version has. absurd (none_in version has) }
kept_walked now last (version ∷ older) fall =
    walk_on now last version older _ refl fall (kept_walked now version older fall.1)
    (kept_walked now last older (fall_wider version last older (omega (arith, fall.0)) fall.1))

pub kept_right : KeptIsRight
kept_right now [] falling =
    record { newest = refl; members = λ x has. has; apart = tt; others = λ moment version has. absurd (none_in version has) }
kept_right now (newest ∷ older) falling =
    record {
      newest = refl;
      members = members;
      apart = walked.apart;
      others = others;
    }
  where
    fall : Fall newest older
    fall = fall_from newest older falling

    walked : AreWalked now newest older (kept_below now newest older)
    walked = kept_walked now newest older fall

    members : (x : ℕ) → Contains (kept now (newest ∷ older)) x → Contains (newest ∷ older) x
    members = both_in newest (kept_below now newest older) older walked.members

    others : (moment x : ℕ) → Contains (newest ∷ older) x → IsBetween (kept now (newest ∷ older)) moment x → moment - x < step (now - moment)
    others moment x has between = elim (in_cases newest x older has) [
      | inl is ↦ absurd (omega (arith, between.below, fall_at_most newest older moment fall (members moment between.above)))
      | inr behind ↦ walked.others moment x behind between
    ]

-- ---- what goes

-- one more above all that stays
stays : (version : ℕ) (older stay go : List ℕ) → Fall version older → AreParted older stay go → AreParted (version ∷ older) (version ∷ stay) go
stays version older stay go fall parted = record { each = λ x. (out x, back x); once = once }
  where
    out : (x : ℕ) → Contains (version ∷ older) x → Contains (version ∷ stay) x ⊎ Contains go x
    out x has = elim (in_cases version x older has) [
      | inl is ↦ inl (rw is (head_in version stay))
      | inr behind ↦ elim ((parted.each x).0 behind) [
        | inl staying ↦ inl (rest_in version x stay staying)
        | inr gone ↦ inr gone
      ]
    ]

    back : (x : ℕ) → Contains (version ∷ stay) x ⊎ Contains go x → Contains (version ∷ older) x
    back x (inl has) = elim (in_cases version x stay has) [
      | inl is ↦ rw is (head_in version older)
      | inr behind ↦ rest_in version x older ((parted.each x).1 (inl behind))
    ]
    back x (inr gone) = rest_in version x older ((parted.each x).1 (inr gone))

    once : (x : ℕ) → Contains (version ∷ stay) x → Contains go x → ⊥
    once x has gone = elim (in_cases version x stay has) [
      | inl is ↦ omega (arith, is, fall_below version older x fall ((parted.each x).1 (inr gone)))
      | inr behind ↦ parted.once x behind gone
    ]

-- what stays and what goes, the other way round
turned : (versions stay go : List ℕ) → AreParted versions stay go → AreParted versions go stay
turned versions stay go parted =
    record {
      each = λ x. (λ has. other ((parted.each x).0 has), λ has. (parted.each x).1 (other has));
      once = λ x gone staying. parted.once x staying gone;
    }
  where
    other : {A B : Type 0} → A ⊎ B → B ⊎ A
    other (inl a) = inr a
    other (inr b) = inl b

-- so one more above all that goes
goes : (version : ℕ) (older stay go : List ℕ) → Fall version older → AreParted older stay go → AreParted (version ∷ older) stay (version ∷ go)
goes version older stay go fall parted =
    turned (version ∷ older) (version ∷ go) stay (stays version older go stay fall (turned older stay go parted))

none_parted : AreParted [] [] []
none_parted = record { each = λ x. (λ has. inl has, λ has. elim has [ inl stay ↦ stay | inr gone ↦ gone ]); once = λ x has gone. none_in x has }

by_step : (now last version : ℕ) (older : List ℕ) (b : Bool) → Fall version older
    → AreParted older (kept_below now version older) (thinned_below now version older)
    → AreParted older (kept_below now last older) (thinned_below now last older)
    → AreParted (version ∷ older)
    (if b then version ∷ kept_below now version older else kept_below now last older)
    (if b then thinned_below now version older else version ∷ thinned_below now last older)
by_step now last version older true fall far close = stays version older _ _ fall far
by_step now last version older false fall far close = goes version older _ _ fall close

rest_parted : (now last : ℕ) (versions : List ℕ) → Fall last versions
    → AreParted versions (kept_below now last versions) (thinned_below now last versions)
rest_parted now last [] fall = none_parted
rest_parted now last (version ∷ older) fall =
    by_step now last version older (nat_le (step (now - last)) (last - version)) fall.1 (rest_parted now version older fall.1)
    (rest_parted now last older (fall_wider version last older (omega (arith, fall.0)) fall.1))

pub thinned_rest : ThinnedIsRest
thinned_rest now [] falling = none_parted
thinned_rest now (newest ∷ older) falling =
    let fall = fall_from newest older falling in stays newest older _ _ fall (rest_parted now newest older fall)
