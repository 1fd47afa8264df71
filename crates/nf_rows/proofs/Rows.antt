-- What is read of a row; and where it has a fault, what is told of the row cut at the fault's place.
use Rattle.std.proofs.Common.{◌≡◌, ℕ, suc, ◌+◌, ◌-◌, ◌<◌, ◌≤◌, false, ltb, List, [], ◌∷◌, length, take, Result, Ok, Err, refl, sym, ap, subst, ◌∙◌, arith}
use Rattle.std.specs.Prelude.{◌||◌, IsOk}
use Rattle.std.specs.List.{flat_map}
use Rattle.std.proofs.lemmas.List.{length-take-le, take_all}
use Rattle.nf_rows.specs.declared.fault.RowFault.{RowFault}
use Rattle.nf_rows.specs.declared.fault.RowFault.TheVariants as faults
use Rattle.nf_rows.specs.declared.parts.TheConstants.{FORMAT}
use Rattle.nf_rows.specs.Fields.{key_fields, body_fields}
use Rattle.nf_rows.specs.Spelling.{Value, Valued, spelled, AreFit}
use Rattle.nf_rows.specs.Faults.{AreBytes, ◌>>=◌, format_at, values_at, row_at, reading}
use Rattle.nf_rows.proofs.Front.{Reading, then_other, if_read, IsFaultAt}
use Rattle.nf_rows.proofs.FieldLaws.{format_read, format_again}
use Rattle.nf_rows.proofs.Values.{Cut, values_read}

abbrev with_bodies : ℕ → List Value → ℕ → List Value → Result Valued RowFault
with_bodies kind keys format bodies = Ok (record { kind = kind; key = keys; format = format; body = bodies })

-- what is read of a body, once the key's values are there
abbrev body_at : ℕ → ℕ → List Value → List ℕ → Result Valued RowFault
body_at kind start keys body =
    format_at start body >>= λ format. values_at (body_fields format.0 kind) (start + length body) format.1 >>= λ bodies. with_bodies kind keys format.0 bodies

-- the row as it is, and cut at a bad value or before a byte too many
abbrev pub IsRead : ℕ → (key body : List ℕ) → Valued → Type 0
IsRead kind key body v = (v.kind ≡ kind) × (key ≡ flat_map spelled v.key) × (body ≡ FORMAT ∷ flat_map spelled v.body) × AreFit v.key × AreFit v.body

abbrev pub IsFaulty : ℕ → (key body : List ℕ) → RowFault → Type 0
IsFaulty kind key body (faults.Value at) = reading kind (take at key) (take (at - length key) body) ≡ Err (faults.Short at)
IsFaulty kind key body (faults.Long at) = (length key ≤ at → IsOk (reading kind key (take (at - length key) body))) × (at < length key → reading kind (take at key) [] ≡ Err (faults.Short at))
IsFaulty kind key body fault = Unit {0}

-- what comes of a row once its key was read, and once its format was
row_is : (kind : ℕ) (key body : List ℕ) (keys : List Value) → values_at (key_fields kind) (length key) key ≡ Ok keys → row_at kind key body ≡ body_at kind (length key) keys body
row_is kind key body keys k = ap (λ (r : Result (List Value) RowFault). r >>= λ keys. body_at kind (length key) keys body) k

body_is : (kind start : ℕ) (keys : List Value) (rest : List ℕ) → body_at kind start keys (FORMAT ∷ rest) ≡ (values_at (body_fields FORMAT kind) (start + length (FORMAT ∷ rest)) rest >>= with_bodies kind keys FORMAT)
body_is kind start keys rest = ap (λ (r : Result (ℕ × List ℕ) RowFault). r >>= λ format. values_at (body_fields format.0 kind) (start + length (FORMAT ∷ rest)) format.1 >>= with_bodies kind keys format.0) (format_again start rest)

no_body : (kind start : ℕ) (keys : List Value) → body_at kind start keys [] ≡ Err (faults.Short start)
unfolding format_at
no_body kind start keys = refl

-- a row with so many bytes of its body behind the format
behind_at : (kind : ℕ) (key body : List ℕ) (keys : List Value) (format : ℕ × List ℕ) (at count : ℕ) → values_at (key_fields kind) (length key) key ≡ Ok keys → body ≡ FORMAT ∷ format.1 → count ≤ length format.1 → at ≡ length key + suc count
    → row_at kind key (take (at - length key) body) ≡ (values_at (body_fields FORMAT kind) at (take count format.1) >>= with_bodies kind keys FORMAT)
behind_at kind key body keys format at count k parts within counted =
    let left : at - length key ≡ suc count = omega arith in
    let tail : take (at - length key) body ≡ FORMAT ∷ take count format.1 = ap (λ (n : ℕ). take n body) left ∙ ap (take (suc count)) parts in
    let ends : length key + length (FORMAT ∷ take count format.1) ≡ at = omega (arith, length-take-le count format.1 within) in
    ap (row_at kind key) tail
    ∙ row_is kind key (FORMAT ∷ take count format.1) keys k
    ∙ body_is kind (length key) keys (take count format.1)
    ∙ ap (λ (end : ℕ). values_at (body_fields FORMAT kind) end (take count format.1) >>= with_bodies kind keys FORMAT) ends

-- The fault is in the key, in the format, or in the rest of the body.

key_fault : (kind : ℕ) (key body : List ℕ) → (ltb kind 1 || ltb 12 kind) ≡ false → (fault : RowFault) → Cut fault (key_fields kind) (length key) key → IsFaulty kind key body fault
key_fault kind key body known (faults.Value at) (n, c) =
    let here : n ≡ at = omega (arith, c.1) in
    let len : length (take n key) ≡ n = length-take-le n key c.0 in
    let short = ap (λ (r : Result (List Value) RowFault). r >>= λ keys. body_at kind (length (take n key)) keys (take (n - length key) body)) (c.2 (length (take n key))) in
    rw (known, ← here) (short ∙ ap (λ (k : ℕ). Err (faults.Short k)) len)
key_fault kind key body known (faults.Long at) (n, c) =
    let here : n ≡ at = omega (arith, c.1) in
    let len : length (take n key) ≡ n = length-take-le n key (omega (arith, c.0)) in
    (λ past. absurd (omega (arith, c.0, here)), λ inside. rw (known, ← here) (row_is kind (take n key) [] c.2 (c.3 (length (take n key))) ∙ no_body kind (length (take n key)) c.2 ∙ ap (λ (k : ℕ). Err (faults.Short k)) len))
key_fault kind key body known fault c = tt

format_fault : (kind : ℕ) (key body : List ℕ) → (ltb kind 1 || ltb 12 kind) ≡ false → (keys : List Value) → values_at (key_fields kind) (length key) key ≡ Ok keys → (fault : RowFault) → IsFaultAt (length key) fault → IsFaulty kind key body fault
format_fault kind key body known keys k (faults.Value at) here =
    let front : take at key ≡ key = take_all at key (omega (arith, here)) in
    let left : at - length key ≡ 0 = omega (arith, here) in
    rw (known, front, left) (row_is kind key [] keys k ∙ no_body kind (length key) keys ∙ ap (λ (n : ℕ). Err (faults.Short n)) (sym here))
format_fault kind key body known keys k (faults.Long at) here = absurd here
format_fault kind key body known keys k fault here = tt

body_fault : (kind : ℕ) (key body : List ℕ) → (ltb kind 1 || ltb 12 kind) ≡ false → (keys : List Value) → values_at (key_fields kind) (length key) key ≡ Ok keys → (format : ℕ × List ℕ) → body ≡ FORMAT ∷ format.1 → (fault : RowFault)
    → Cut fault (body_fields FORMAT kind) (length key + length body) format.1 → IsFaulty kind key body fault
body_fault kind key body known keys k format parts (faults.Value at) (n, c) =
    let counted : at ≡ length key + suc n = omega (arith, c.0, c.1, ap length parts) in
    let front : take at key ≡ key = take_all at key (omega (arith, counted)) in
    rw (known, front) (behind_at kind key body keys format at n k parts c.0 counted ∙ ap (λ (r : Result (List Value) RowFault). r >>= with_bodies kind keys FORMAT) (c.2 at))
body_fault kind key body known keys k format parts (faults.Long at) (n, c) =
    let counted : at ≡ length key + suc n = omega (arith, c.0, c.1, ap length parts) in
    (λ past. rw (known, behind_at kind key body keys format at n k parts (omega (arith, c.0)) counted, c.3 at) refl, λ inside. absurd (omega (arith, counted)))
body_fault kind key body known keys k format parts fault c = tt

pub row_read : (kind : ℕ) (key body : List ℕ) → AreBytes key → AreBytes body → Reading (IsFaulty kind key body) (IsRead kind key body) (reading kind key body)
row_read kind key body key_fits body_fits = if_read (ltb kind 1 || ltb 12 kind) _ _ (λ unknown. record { is = tt }) (λ known.
    then_other (values_at (key_fields kind) (length key) key) _ (values_read (key_fields kind) (length key) key key_fits (omega arith)) (key_fault kind key body known) (λ keys k t.
    then_other (format_at (length key) body) _ (format_read (length key) body body_fits) (format_fault kind key body known keys k) (λ format f u.
    let parts : body ≡ FORMAT ∷ format.1 = u.parts ∙ ap (λ (n : ℕ). n ∷ format.1) u.fit in
    let within : length format.1 ≤ length key + length body = omega (arith, ap length parts) in
    then_other (values_at (body_fields format.0 kind) (length key + length body) format.1) _ (values_read (body_fields format.0 kind) (length key + length body) format.1 u.left within)
    (λ fault c. body_fault kind key body known keys k format parts fault (subst (λ (n : ℕ). Cut fault (body_fields n kind) (length key + length body) format.1) u.fit c)) (λ bodies b w.
    record { is = (refl, t.0, parts ∙ ap (λ (r : List ℕ). FORMAT ∷ r) w.0, t.1, w.1) }))))

-- what follows of a row that was read, and of one with a fault
pub found_is : (kind : ℕ) (key body : List ℕ) (v : Valued) → AreBytes key → AreBytes body → reading kind key body ≡ Ok v → IsRead kind key body v
found_is kind key body v key_fits body_fits e = (subst (λ (r : Result Valued RowFault). Reading (IsFaulty kind key body) (IsRead kind key body) r) e (row_read kind key body key_fits body_fits)).is

pub faulty_is : (kind : ℕ) (key body : List ℕ) (fault : RowFault) → AreBytes key → AreBytes body → reading kind key body ≡ Err fault → IsFaulty kind key body fault
faulty_is kind key body fault key_fits body_fits e = (subst (λ (r : Result Valued RowFault). Reading (IsFaulty kind key body) (IsRead kind key body) r) e (row_read kind key body key_fits body_fits)).is
