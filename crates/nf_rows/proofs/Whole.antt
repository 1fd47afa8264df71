-- Whole rows: what is read is spelled so, and what is spelled so is read.
use Rattle.std.proofs.Common.{◌≡◌, ℕ, ◌+◌, List, ◌∷◌, length, Result, Ok, Err, refl, sym, ap, subst, ◌∙◌}
use Rattle.std.specs.Prelude.{map, IfOk, MatchResult}
use Rattle.std.specs.List.{flat_map}
use Rattle.nf_base.specs.Keys.{key_of}
use Rattle.nf_base.specs.declared.changes.RowKey.{RowKey}
use Rattle.nf_base.specs.declared.changes.RowKey.TheVariants as keys
use Rattle.nf_base.specs.declared.rows.Row.{Row}
use Rattle.nf_base.specs.declared.rows.Row.TheVariants as rows
use Rattle.nf_rows.specs.declared.fault.RowFault.{RowFault}
use Rattle.nf_rows.specs.declared.fault.RowFault.TheVariants as faults
use Rattle.nf_rows.specs.declared.parts.TheConstants.{FORMAT}
use Rattle.nf_rows.specs.Fields.{field_of, key_fields, body_fields}
use Rattle.nf_rows.specs.Spelling.{Value, Keyed, Raw, AreFit, spelled, FitsKey, kind_of, key_values, values_of, key_spelling, spelling_of, Fits}
use Rattle.nf_rows.specs.Faults.{AreBytes, Gives, values_at, row_at, reading}
use Rattle.nf_rows.proofs.Rows.{found_is}
use Rattle.nf_rows.proofs.OneRow.{same_key, same_row}
use Rattle.nf_rows.proofs.FieldLaws.{format_again}
use Rattle.nf_rows.proofs.Values.{values_again}

pub found : (kind : ℕ) (key body : List ℕ) (row : Row) → AreBytes key → AreBytes body → reading kind key body ≡ Ok (values_of FORMAT row) → Fits row × (spelling_of row ≡ record { kind = kind; key = key; body = body })
found kind key body row key_fits body_fits e =
    let t = found_is kind key body (values_of FORMAT row) key_fits body_fits e in
    let same : spelling_of row ≡ record { kind = kind; key = key; body = body } = rw (t.1, t.2, ← t.0) refl in
    (record { key = t.3; body = t.4 }, same)

abbrev done : {A : Type 0} → A → Result A RowFault
done x = Ok x

ok_is : {A : Type 0} (x y : A) → done x ≡ done y → x ≡ y
ok_is x y e = cc

row_again : (kind : ℕ) (keys bodies : List Value) → key_fields kind ≡ map field_of keys → body_fields FORMAT kind ≡ map field_of bodies → AreFit keys → AreFit bodies
    → row_at kind (flat_map spelled keys) (FORMAT ∷ flat_map spelled bodies) ≡ Ok (record { kind = kind; key = keys; format = FORMAT; body = bodies })
row_again kind keys bodies of_key of_body key_fits body_fits =
    rw (of_key, values_again keys (length (flat_map spelled keys)) key_fits, format_again (length (flat_map spelled keys)) (flat_map spelled bodies), of_body, values_again bodies (length (flat_map spelled keys) + length (FORMAT ∷ flat_map spelled bodies)) body_fits) refl

of_row : (row : Row) (kind : ℕ) → key_fields kind ≡ map field_of (values_of FORMAT row).key → body_fields FORMAT kind ≡ map field_of (values_of FORMAT row).body → Fits row
    → row_at kind (flat_map spelled (values_of FORMAT row).key) (FORMAT ∷ flat_map spelled (values_of FORMAT row).body) ≡ Ok (record { kind = kind; key = (values_of FORMAT row).key; format = FORMAT; body = (values_of FORMAT row).body })
of_row row kind of_key of_body fits = row_again kind (values_of FORMAT row).key (values_of FORMAT row).body of_key of_body fits.key fits.body

pub read_again : (row : Row) → Fits row → reading (spelling_of row).kind (spelling_of row).key (spelling_of row).body ≡ Ok (values_of FORMAT row)
read_again (rows.Meta r) fits = of_row (rows.Meta r) 1 refl refl fits
read_again row fits = of_row row (kind_of (key_of row)) refl refl fits

-- a reading isn't well and faulty
given_not : {X : Type 0} {r : Result X RowFault} {x : X} {fault : RowFault} → r ≡ Ok x → r ≡ Err fault → ⊥
given_not p q = cc

pub is_found : (kind : ℕ) (key body : List ℕ) (r : Result Row RowFault) → AreBytes key → AreBytes body → Gives (values_of FORMAT) r (reading kind key body) → IfOk r (λ row. Fits row × (spelling_of row ≡ record { kind = kind; key = key; body = body }))
is_found kind key body (Ok row) key_fits body_fits given = found kind key body row key_fits body_fits given
is_found kind key body (Err fault) key_fits body_fits given = tt

-- reading what a row is spelled with gives its values
spelled_again : (kind : ℕ) (key body : List ℕ) (row : Row) → Fits row → spelling_of row ≡ record { kind = kind; key = key; body = body } → reading kind key body ≡ Ok (values_of FORMAT row)
spelled_again kind key body row fits same = subst (λ (raw : Raw). reading raw.kind raw.key raw.body ≡ Ok (values_of FORMAT row)) same (read_again row fits)

pub is_only : (kind : ℕ) (key body : List ℕ) (r : Result Row RowFault) (row : Row) → Gives (values_of FORMAT) r (reading kind key body) → Fits row → spelling_of row ≡ record { kind = kind; key = key; body = body } → MatchResult r (λ read. read ≡ row) (λ fault. fault ≡ faults.Memory)
is_only kind key body (Ok read) row given fits same =
    same_row read row (ok_is (values_of FORMAT read) (values_of FORMAT row) (sym given ∙ spelled_again kind key body row fits same))
is_only kind key body (Err faults.Memory) row given fits same = refl
is_only kind key body (Err fault) row given fits same = absurd (given_not (spelled_again kind key body row fits same) (given (λ e. cc)))

-- the same bytes are the same row
pub one_row : (a b : Row) → Fits a → Fits b → spelling_of a ≡ spelling_of b → a ≡ b
one_row a b a_fits b_fits same =
    same_row a b (ok_is (values_of FORMAT a) (values_of FORMAT b) (sym (read_again a a_fits) ∙ ap (λ (raw : Raw). reading raw.kind raw.key raw.body) same ∙ read_again b b_fits))

key_fields_of : (key : RowKey) → key_fields (kind_of key) ≡ map field_of (key_values key)
key_fields_of keys.Meta = refl
key_fields_of key = refl

-- a key's bytes are read as its values
key_again : (key : RowKey) → FitsKey key → values_at (key_fields (kind_of key)) 0 (flat_map spelled (key_values key)) ≡ Ok (key_values key)
key_again key fits = rw key_fields_of (values_again (key_values key) 0 fits)

-- the same bytes are the same key
pub one_key : (a b : RowKey) → FitsKey a → FitsKey b → key_spelling a ≡ key_spelling b → a ≡ b
one_key a b a_fits b_fits same =
    let kinds : kind_of a ≡ kind_of b = ap (λ (key : Keyed). key.kind) same in
    same_key a b kinds (ok_is (key_values a) (key_values b) (sym (key_again a a_fits) ∙ ap (λ (key : Keyed). values_at (key_fields key.kind) 0 key.bytes) same ∙ key_again b b_fits))
