-- What one call spares after another.
use Rattle.std.proofs.Common.{◌≡◌, ℕ, Bool, true, false, List, refl, ◌∙◌, IsTrue}
use Rattle.nf_extents.specs.Room.{Room, is_free}
use Rattle.nf_extents.specs.Keeping.{Keeps, Spares}
use Rattle.nf_extents.proofs.Kept.{same_keeps}

stays_used : (a b : Bool) → (IsTrue b → IsTrue a) → a ≡ false → b ≡ false
stays_used a true frees used = let held : a ≡ true = frees refl in cc
stays_used a false frees used = refl

-- what a second call leaves, where the first made nothing free
pub keeps_on : (first second : Room) (a b c : List ℕ) → ((byte : ℕ) → IsTrue (is_free second byte) → IsTrue (is_free first byte)) →
    Keeps first a b → Keeps second b c → Keeps first a c
keeps_on first second a b c frees one two = record {
  each = λ byte used there.
      let before = one.each byte used there in
      let after = two.each byte (stays_used (is_free first byte) (is_free second byte) (frees byte) used) before.0 in
      (after.0, after.1 ∙ before.1);
}

pub spares_same : (room : Room) (seen : List ℕ) (leaves leaves_after : List ℕ → Type 0) → ((c : List ℕ) → leaves_after c → leaves c) → Spares room room seen seen leaves leaves_after
spares_same room seen leaves leaves_after fewer = record {
  kept = same_keeps room seen;
  crash = λ c left. (c, fewer c left, same_keeps room c);
  frees_none = λ byte free. free;
}

pub spares_itself : (room : Room) (seen : List ℕ) (leaves : List ℕ → Type 0) → Spares room room seen seen leaves leaves
spares_itself room seen leaves = spares_same room seen leaves leaves (λ c left. left)

pub spares_on : {r s t : Room} {a b c : List ℕ} {la lb lc : List ℕ → Type 0} → Spares r s a b la lb → Spares s t b c lb lc → Spares r t a c la lc
spares_on {r} {s} {t} {a} {b} {c} {la} {lb} {lc} one two = record {
  kept = keeps_on r s a b c one.frees_none one.kept two.kept;
  crash = λ last left.
      let (middle, left_before, kept_last) = two.crash last left in
      let (first, left_first, kept_middle) = one.crash middle left_before in
      (first, left_first, keeps_on r s first middle last one.frees_none kept_middle kept_last);
  frees_none = λ byte free. one.frees_none byte (two.frees_none byte free);
}
