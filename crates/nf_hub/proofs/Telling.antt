-- What a store that tells shows of its blobs, at a turn's end and before.
use Rattle.std.proofs.Common.{◌≡◌, ℕ, ◌<◌, List, inl, inr, refl, sym, ap, ◌∙◌, arith}
use Rattle.std.specs.Prelude.{Bool, true, false, Option, None, Some, is_some, nat_lt, option_map, if◌then◌else◌}
use Rattle.std.specs.Option.{IfSome, option_or}
use Rattle.std.proofs.lemmas.Bool.Decides.{nat_tests}
use Rattle.std.proofs.lemmas.Option.{same_Some}
use Rattle.nf_defs.specs.Blobs.{Blobs, blob_at}
use Rattle.nf_desk.specs.Desk.{blobs_in, next_of, shelf_of}
use Rattle.nf_session.specs.Book.{IsStill, TellsStill}
use Rattle.nf_site.specs.Kept.{Kept}
use Rattle.nf_told.specs.Told.{Told}
use Rattle.nf_turn.specs.Agreeing.{HasOrLacks, bytes_under}

-- the bytes are told under a number that was given
abbrev pub Shows : Kept → ℕ → List ℕ → Blobs → Type 0
Shows x id bytes shelf = (id < next_of x) × (blob_at shelf id ≡ Some bytes)

-- a store tells later where it told first
pub tells_where : (cause : Type 0) (first taken given : Option Told) (x y : Kept) (next : ℕ)
    → is_some (option_map (shelf_of y) taken) ≡ is_some (option_map (shelf_of x) first)
    → TellsStill cause next (blobs_in taken) (blobs_in given)
    → is_some (blobs_in given) ≡ is_some (blobs_in first)
tells_where cause None None given x y next same still = ap is_some still
tells_where cause None (Some taken) given x y next same still = absurd (cc)
tells_where cause (Some first) None given x y next same still = absurd (cc)
tells_where cause (Some first) (Some taken) None x y next same still = absurd still
tells_where cause (Some first) (Some taken) (Some given) x y next same still = refl

-- what is so where it tells now is so where it told at the start
pub where_told : (now start : Option Blobs) (Q : Type 0) → is_some now ≡ is_some start → (is_some now ≡ true → Q) → IfSome start (λ _. Q)
where_told now None Q same gives = tt
where_told now (Some begun) Q same gives = gives same

-- the bytes are on the shelf then
pub seen_now : (x : Kept) (now : Option Told) (before : Option (List ℕ)) (id : ℕ) (bytes : List ℕ) → is_some (blobs_in now) ≡ true
    → IfSome (blobs_in now) (Shows x id bytes) → option_or (bytes_under (option_map (shelf_of x) now) id) before ≡ Some bytes
seen_now x None before id bytes some shows = absurd (cc)
seen_now x (Some told) before id bytes some shows = here (nat_lt id (next_of x)) refl
  where
    here : (given : Bool) → nat_lt id (next_of x) ≡ given
        → option_or (if given then blob_at told.blobs id else None) before ≡ Some bytes
    here true is = ap (λ (o : Option (List ℕ)). option_or o before) shows.1
    here false is = let less = shows.0 in absurd (grind (arith, nat_tests))

-- bytes that are told are those that were told before
told_before : (cause : Type 0) (old new : Option (List ℕ)) (bytes : List ℕ) → new ≡ Some bytes → IsStill cause old new → old ≡ Some bytes
told_before cause old new bytes is (inl same) = sym same ∙ is
told_before cause old new bytes is (inr gone) = absurd (let none = gone.0 in cc)

-- and what was there before were the same bytes
pub had_same : (cause : Type 0) (x y : Kept) (taken given : Option Told) (id : ℕ) (before bytes : List ℕ) → is_some (blobs_in given) ≡ true
    → IfSome (blobs_in given) (Shows y id bytes) → TellsStill cause (next_of x) (blobs_in taken) (blobs_in given)
    → HasOrLacks (option_map (shelf_of x) taken) id before → before ≡ bytes
had_same cause x y taken None id before bytes some shows still had = absurd (cc)
had_same cause x y None (Some given) id before bytes some shows still (inl has) = absurd (cc)
had_same cause x y None (Some given) id before bytes some shows still (inr lacks) = absurd lacks
had_same cause x y (Some taken) (Some given) id before bytes some shows still (inl has) = here (nat_lt id (next_of x)) refl has
  where
    here : (below : Bool) → nat_lt id (next_of x) ≡ below → (if below then blob_at taken.blobs id else None) ≡ Some before → before ≡ bytes
    here true is has =
        let less : id < next_of x = grind (arith, nat_tests) in
        same_Some before bytes (sym has ∙ told_before cause (blob_at taken.blobs id) (blob_at given.blobs id) bytes shows.1 (still id less))
    here false is has = absurd (cc)
had_same cause x y (Some taken) (Some given) id before bytes some shows still (inr lacks) =
    let there = told_before cause (blob_at taken.blobs id) (blob_at given.blobs id) bytes shows.1 (still id lacks.0) in
    let none : Some bytes ≡ None = sym there ∙ lacks.1 in absurd (cc)
