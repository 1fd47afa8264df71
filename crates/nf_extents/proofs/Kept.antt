-- What stays of a file, and what is read of it.
use Rattle.std.proofs.Common.{◌≡◌, ℕ, ◌+◌, ◌-◌, ◌<◌, min, List, ◌++◌, length, get_or, take, drop, refl, arith, sym, subst, ◌∙◌, Result, Ok, Err, OnErr}
use Rattle.std.proofs.Math.Seq.{take-append_seam}
use Rattle.std.proofs.lemmas.List.{get_or-drop, get_or-take, length-drop, length-take}
use Rattle.std.proofs.lemmas.Grind.{same_number_lists}
use Rattle.nf_extents.specs.declared.gaps.Extent.{Extent}
use Rattle.nf_extents.specs.Room.{Room, Takes, TakesSome}
use Rattle.nf_extents.specs.Keeping.{Keeps, body_at}

pub same_keeps : (room : Room) (file : List ℕ) → Keeps room file file
same_keeps room file = record { each = λ byte used there. (there, refl) }

-- bytes that are the file's at the extent, as far as the file reaches
pub body_is : (file bytes : List ℕ) (extent : Extent) → length bytes ≡ min extent.size (length file - extent.place) →
    ((k : ℕ) → k < length bytes → get_or file (extent.place + k) 0 ≡ get_or bytes k 0) → bytes ≡ body_at file extent
body_is file bytes extent long each =
    same_number_lists bytes (body_at file extent) (rw (length-take, length-drop) long)
    (λ k there. let inside : k < extent.size = omega arith in sym (get_or-take extent.size (drop extent.place file) k 0 inside ∙ get_or-drop extent.place file k 0 ∙ each k there))

-- the front of a list that begins so
pub front_is : (n : ℕ) (bytes rest : List ℕ) → n ≡ length bytes → take n (bytes ++ rest) ≡ bytes
front_is n bytes rest same = rw same (take-append_seam bytes rest)

pub some_taken : (extent : Extent) (size : ℕ) (old new : Room) → extent.size ≡ size → Takes extent old new → TakesSome size old new
some_taken extent size old new same taken = (extent.place, subst (λ (n : ℕ). Takes (record { place = extent.place; size = n }) old new) same taken)

pub at_err : {T E : Type 0} {P : Type 0} (result : Result T E) → P → OnErr result P
at_err (Ok value) fact = tt
at_err (Err error) fact = fact
