-- A row behind rows by rising key.
use Rattle.std.proofs.Common.{ℕ, ◌<◌, ◌-◌, ◌≡◌, List, [], ◌∷◌, ◌++◌, length, get_or, subst, inl, inr, arith, length-append}
use Rattle.std.proofs.lemmas.Bool.{cases_lt}
use Rattle.std.proofs.lemmas.List.{get_or_append_left}
use Rattle.std.proofs.lemmas.Option.{slice_get-get_or}
use Rattle.std.proofs.Math.Seq.{get_or-append_seam}
use Rattle.std.specs.Prelude.{IfSome, slice_get}
use Rattle.nf_defs.proofs.Puts.{key_total}
use Rattle.nf_defs.specs.Puts.{key_cmp}
use Rattle.nf_rows.specs.Spelling.{Raw}
use Rattle.nf_told.specs.Told.{AreRisingRaws, raw_key}
use Rattle.std.specs.declared.cmp.Ordering.TheVariants.{Less}

abbrev Below : Raw → Raw → Type 0
Below a b = key_cmp (raw_key a) (raw_key b) ≡ Less

-- what is above the last is above all
above_all : (raws : List Raw) (raw : Raw) → AreRisingRaws raws → IfSome (slice_get raws (length raws - 1)) (λ last. Below last raw)
    → (i : ℕ) (d : Raw) → i < length raws → Below (get_or raws i d) raw
above_all raws raw rising above i d within =
    let last = length raws - 1 in
    let below_last : Below (get_or raws last d) raw =
    subst (λ found. IfSome found (λ one. Below one raw)) (slice_get-get_or raws last d (omega arith)) above in
    elim (cases_lt i last) [
      | inl before ↦ key_total.trans (raw_key (get_or raws i d)) (raw_key (get_or raws last d)) (raw_key raw) (rising i last d before (omega arith)) below_last
      | inr behind ↦ let e : i ≡ last = omega arith in rw e below_last
    ]

pub rises_behind : (raws : List Raw) (raw : Raw) → AreRisingRaws raws → IfSome (slice_get raws (length raws - 1)) (λ last. Below last raw)
    → AreRisingRaws (raws ++ raw ∷ [])
rises_behind raws raw rising above i j d before within =
    let count = length-append raws (raw ∷ []) in
    rw (get_or_append_left raws (raw ∷ []) d i (omega arith))
    (elim (cases_lt j (length raws)) [
      | inl inside ↦ rw (get_or_append_left raws (raw ∷ []) d j inside) (rising i j d before inside)
      | inr behind ↦
          let e : j ≡ length raws = omega arith in
          rw e (rw (get_or-append_seam raws raw [] d) (above_all raws raw rising above i d (omega arith)))
    ])
