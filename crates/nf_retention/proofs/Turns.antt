-- A pass over the versions, one after the other, lets go what the walk does.
use Rattle.std.proofs.Common.{◌≡◌, ◌<◌, ◌≤◌, ◌+◌, ◌-◌, ◌∙◌, ℕ, List, [], ◌∷◌, ◌++◌, length, get_or, drop, take, All, refl, sym, ap, subst, arith}
use Rattle.std.proofs.lemmas.Bool.{le-leb, lt-leb}
use Rattle.std.proofs.lemmas.List.{append-nil, append_assoc, drop_all, drop_more, take_all}
use Rattle.nf_retention.specs.Thinning.{AreFalling, step, thinned, thinned_below}
use Rattle.nf_retention.proofs.Members.{Fall, fall_from, fall_wider}

-- where the pass stands: behind that last one those are left, and with what has gone what goes of them is all that goes
pub record IsPassing (now last : ℕ) (left gone all : List ℕ) : Type 0 where
  pub falling : Fall last left
  pub past : last ≤ now
  pub sofar : gone ++ thinned_below now last left ≡ all

-- it begins behind the newest one
pub begins : (now newest : ℕ) (versions : List ℕ) → AreFalling versions → All (λ version. version ≤ now) versions
    → 1 ≤ length versions → newest ≡ get_or versions 0 newest → IsPassing now newest (take (length versions - 1) (drop 1 versions)) [] (thinned now versions)
begins now newest [] falling past some is = absurd (omega (arith, some))
begins now newest (first ∷ older) falling past some is =
    rw (is, take_all (length (first ∷ older) - 1) older (omega arith)) (record {
      falling = fall_from first older falling;
      past = past 0 0 (omega arith);
      sofar = refl;
    })

next_is : (version i : ℕ) (older : List ℕ) → i < length older → version ≡ get_or older i version
    → drop i older ≡ version ∷ drop (i + 1) older
next_is version i older within is = drop_more older i version within ∙ ap (λ x. x ∷ drop (i + 1) older) (sym is)

-- one that is kept is the last one from then on
pub keeps_on : (now last version i : ℕ) (older gone all : List ℕ) → i < length older → version ≡ get_or older i version
    → step (now - last) ≤ last - version → IsPassing now last (drop i older) gone all → IsPassing now version (drop (i + 1) older) gone all
keeps_on now last version i older gone all within is far passing =
    let next = next_is version i older within is in
    let falling = subst (Fall last) next passing.falling in
    let sofar = subst (λ (xs : List ℕ). gone ++ thinned_below now last xs ≡ all) next passing.sofar in
    record { falling = falling.1; past = omega (arith, falling.0, passing.past); sofar = rw (le-leb _ _ far) at sofar }

-- and one that goes has gone
pub goes_on : (now last version i : ℕ) (older gone all : List ℕ) → i < length older → version ≡ get_or older i version
    → last - version < step (now - last) → IsPassing now last (drop i older) gone all → IsPassing now last (drop (i + 1) older) (gone ++ version ∷ []) all
goes_on now last version i older gone all within is close passing =
    let next = next_is version i older within is in
    let falling = subst (Fall last) next passing.falling in
    let sofar = subst (λ (xs : List ℕ). gone ++ thinned_below now last xs ≡ all) next passing.sofar in
    let one : gone ++ (version ∷ thinned_below now last (drop (i + 1) older)) ≡ all = rw (lt-leb _ _ close) at sofar in
    record {
      falling = fall_wider version last (drop (i + 1) older) (omega (arith, falling.0)) falling.1;
      past = passing.past;
      sofar = append_assoc gone (version ∷ []) (thinned_below now last (drop (i + 1) older)) ∙ one;
    }

-- at the end all has gone that goes
pub ends : (now last i : ℕ) (older gone all : List ℕ) → length older ≤ i → IsPassing now last (drop i older) gone all → gone ≡ all
ends now last i older gone all over passing =
    sym (append-nil gone) ∙ (rw (drop_all i older over) at passing.sofar)
