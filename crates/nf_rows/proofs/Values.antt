-- What is read of a field, and of fields one after the other.
use Rattle.std.proofs.Common.{◌≡◌, ℕ, zero, suc, ◌+◌, ◌-◌, ◌<◌, ◌≤◌, List, [], ◌∷◌, ◌++◌, length, take, Result, Ok, Err, refl, sym, ap, subst, ◌∙◌, arith}
use Rattle.std.specs.Prelude.{map}
use Rattle.std.specs.List.{flat_map, AllByRecursion}
use Rattle.std.specs.Int.{w16, w32, w64, to_be_bytes}
use Rattle.std.proofs.Math.Seq.{take-append-add}
use Rattle.std.proofs.lemmas.List.{length-append}
use Rattle.std.proofs.lemmas.List.Concat.{flat_map-cons}
use Rattle.nf_base.specs.declared.content.Piece.{Piece}
use Rattle.nf_base.specs.declared.rows.NodeKind.{NodeKind}
use Rattle.nf_base.specs.declared.rows.NodeKind.TheVariants.{Folder, File}
use Rattle.nf_rows.specs.declared.fault.RowFault.{RowFault}
use Rattle.nf_rows.specs.declared.fault.RowFault.TheVariants as faults
use Rattle.nf_rows.specs.Fields.{Field, field_of}
use Rattle.nf_rows.specs.Fields as fields
use Rattle.nf_rows.specs.Spelling.{Value, spelled, FitsValue, FitsContent, most_pieces, node_kind, content}
use Rattle.nf_rows.specs.Spelling as values
use Rattle.nf_rows.specs.Faults.{AreBytes, ◌>>=◌, as_value, name_at, path_at, place_at, node_kind_at, share_kind_at, optional_at, flag_at, permissions_at, content_at, what_at, value_at, values_at}
use Rattle.nf_rows.proofs.Front.{Reading, then_read, then_other, IsFaultAt, Taken, ReadsAt, taken, short, bad, bytes_read, bytes_again, wide16, wide32, wide64, number_read, number_again}
use Rattle.nf_rows.proofs.FieldLaws.{name_read, name_again, path_read, path_again, place_read, place_again, share_kind_read, share_kind_again, optional_read, optional_again, flag_read, flag_again, permissions_read, permissions_again, content_read, content_again, what_again}

-- the text of a value of this field was taken
abbrev IsTaken : Field → List ℕ → Value × List ℕ → Type 0
IsTaken f bytes v = Taken spelled FitsValue bytes v × (field_of v.0 ≡ f)

viewed : {X : Type 0} {at : ℕ} {text : X → List ℕ} {Fit : X → Type 0} {bytes : List ℕ} (r : Result (X × List ℕ) RowFault) (view : X → Value) (f : Field)
    → ((x : X) → spelled (view x) ≡ text x) → ((x : X) → Fit x → FitsValue (view x)) → ((x : X) → field_of (view x) ≡ f) → ReadsAt at text Fit bytes r → Reading (IsFaultAt at) (IsTaken f bytes) (as_value view r)
viewed r view f same fit of_field read = then_read r _ read (λ x t.
    record { is = (record { parts = t.parts ∙ ap (λ (text : List ℕ). text ++ x.1) (sym (same x.0)); left = t.left; fit = fit x.0 t.fit }, of_field x.0) })

-- What is read of a field. A fault stands so many bytes behind the field's first: none, but for a node's content, which stands
-- behind its kind. Cut there, the field is short.
record Stands (f : Field) (end : ℕ) (bytes : List ℕ) : Type 0 where
  pub place : ℕ
  pub behind : ℕ
  pub read : Reading (IsFaultAt place) (IsTaken f bytes) (value_at f end bytes)
  pub within : behind ≤ length bytes
  pub counted : length bytes ≤ end → place ≡ (end - length bytes) + behind
  pub short : (other : ℕ) → value_at f other (take behind bytes) ≡ Err (faults.Short (other - 0))

first_byte : (f : Field) (end : ℕ) (bytes : List ℕ) → Reading (IsFaultAt (end - length bytes)) (IsTaken f bytes) (value_at f end bytes) → ((other : ℕ) → value_at f other [] ≡ Err (faults.Short (other - 0))) → Stands f end bytes
first_byte f end bytes read short = record { place = end - length bytes; behind = 0; read = read; within = omega arith; counted = λ below. omega arith; short = short }

behind_kind : (kind : NodeKind) (end : ℕ) (bytes : List ℕ) → AreBytes bytes → ReadsAt (end - length bytes) (λ (what : NodeKind × List Piece). node_kind what.0 ∷ content what.1) (λ what. FitsContent (most_pieces what.0) what.1)
    (node_kind kind ∷ bytes) (content_at (most_pieces kind) (end - length bytes) bytes >>= λ content. Ok ((kind, content.0), content.1))
behind_kind kind end bytes fits = then_read (content_at (most_pieces kind) (end - length bytes) bytes) _ (content_read (most_pieces kind) (end - length bytes) bytes fits) (λ pieces t.
    taken (kind, pieces.0) pieces.1 (ap (λ (r : List ℕ). node_kind kind ∷ r) t.parts) t.left t.fit)

second_byte : (end b : ℕ) (bytes : List ℕ) → Reading (IsFaultAt (end - length bytes)) (IsTaken fields.What (b ∷ bytes)) (value_at fields.What end (b ∷ bytes)) → ((other : ℕ) → value_at fields.What other (b ∷ []) ≡ Err (faults.Short (other - 0))) → Stands fields.What end (b ∷ bytes)
second_byte end b bytes read short = record { place = end - length bytes; behind = 1; read = read; within = omega arith; counted = λ below. omega (arith, below); short = short }

what_stands : (end : ℕ) (bytes : List ℕ) → AreBytes bytes → Stands fields.What end bytes
unfolding value_at spelled what_at node_kind_at content_at
what_stands end [] fits = first_byte fields.What end [] short (λ other. refl)
what_stands end (zero ∷ bytes) fits = second_byte end 0 bytes (viewed (what_at end (0 ∷ bytes)) (λ what. values.What what.0 what.1) fields.What (λ x. refl) (λ x fit. fit) (λ x. refl) (behind_kind Folder end bytes (λ i. fits (suc i)))) (λ other. refl)
what_stands end (suc zero ∷ bytes) fits = second_byte end 1 bytes (viewed (what_at end (1 ∷ bytes)) (λ what. values.What what.0 what.1) fields.What (λ x. refl) (λ x fit. fit) (λ x. refl) (behind_kind File end bytes (λ i. fits (suc i)))) (λ other. refl)
what_stands end (suc (suc b) ∷ bytes) fits = first_byte fields.What end (suc (suc b) ∷ bytes) bad (λ other. refl)

stands : (f : Field) (end : ℕ) (bytes : List ℕ) → AreBytes bytes → Stands f end bytes
unfolding value_at spelled name_at path_at place_at share_kind_at optional_at flag_at permissions_at content_at
stands fields.U16 end bytes fits = first_byte fields.U16 end bytes (viewed _ values.U16 fields.U16 (λ x. refl) (λ x fit. fit) (λ x. refl) (number_read wide16 (end - length bytes) bytes fits)) (λ other. refl)
stands fields.U32 end bytes fits = first_byte fields.U32 end bytes (viewed _ values.U32 fields.U32 (λ x. refl) (λ x fit. fit) (λ x. refl) (number_read wide32 (end - length bytes) bytes fits)) (λ other. refl)
stands fields.U64 end bytes fits = first_byte fields.U64 end bytes (viewed _ values.U64 fields.U64 (λ x. refl) (λ x fit. fit) (λ x. refl) (number_read wide64 (end - length bytes) bytes fits)) (λ other. refl)
stands fields.Digest end bytes fits = first_byte fields.Digest end bytes (viewed _ values.Digest fields.Digest (λ x. refl) (λ x fit. fit.0) (λ x. refl) (bytes_read 32 (end - length bytes) bytes fits)) (λ other. refl)
stands fields.Name end bytes fits = first_byte fields.Name end bytes (viewed _ values.Name fields.Name (λ x. refl) (λ x fit. fit) (λ x. refl) (name_read (end - length bytes) bytes fits)) (λ other. refl)
stands fields.Path end bytes fits = first_byte fields.Path end bytes (viewed _ values.Path fields.Path (λ x. refl) (λ x fit. fit) (λ x. refl) (path_read (end - length bytes) bytes fits)) (λ other. refl)
stands fields.Where end bytes fits = first_byte fields.Where end bytes (viewed _ values.Where fields.Where (λ x. refl) (λ x fit. fit) (λ x. refl) (place_read (end - length bytes) bytes fits)) (λ other. refl)
stands fields.What end bytes fits = what_stands end bytes fits
stands fields.Whom end bytes fits = first_byte fields.Whom end bytes (viewed _ values.Whom fields.Whom (λ x. refl) (λ x fit. fit) (λ x. refl) (share_kind_read (end - length bytes) bytes fits)) (λ other. refl)
stands fields.Optional end bytes fits = first_byte fields.Optional end bytes (viewed _ values.Optional fields.Optional (λ x. refl) (λ x fit. fit) (λ x. refl) (optional_read (end - length bytes) bytes fits)) (λ other. refl)
stands fields.Permissions end bytes fits = first_byte fields.Permissions end bytes (viewed _ values.Permissions fields.Permissions (λ x. refl) (λ x fit. fit) (λ x. refl) (permissions_read (end - length bytes) bytes fits)) (λ other. refl)
stands fields.Flag end bytes fits = first_byte fields.Flag end bytes (viewed _ values.Flag fields.Flag (λ x. refl) (λ x fit. tt) (λ x. refl) (flag_read (end - length bytes) bytes fits)) (λ other. refl)
stands (fields.Pieces most) end bytes fits = first_byte (fields.Pieces most) end bytes (viewed _ (values.Pieces most) (fields.Pieces most) (λ x. refl) (λ x fit. fit) (λ x. refl) (content_read most (end - length bytes) bytes fits)) (λ other. refl)

value_again : (v : Value) (end : ℕ) (rest : List ℕ) → FitsValue v → value_at (field_of v) end (spelled v ++ rest) ≡ Ok (v, rest)
unfolding value_at spelled
value_again (values.U16 n) end rest fit = rw (number_again wide16 (end - length (to_be_bytes w16 n ++ rest)) n rest fit) refl
value_again (values.U32 n) end rest fit = rw (number_again wide32 (end - length (to_be_bytes w32 n ++ rest)) n rest fit) refl
value_again (values.U64 n) end rest fit = rw (number_again wide64 (end - length (to_be_bytes w64 n ++ rest)) n rest fit) refl
value_again (values.Digest bytes) end rest fit = rw (bytes_again 32 (end - length (bytes ++ rest)) bytes rest fit) refl
value_again (values.Name bytes) end rest fit = rw (name_again (end - length (values.name bytes ++ rest)) bytes rest fit) refl
value_again (values.Path names) end rest fit = rw (path_again (end - length (values.path names ++ rest)) names rest fit) refl
value_again (values.Where p) end rest fit = rw (place_again (end - length (values.place p ++ rest)) p rest fit) refl
value_again (values.What kind pieces) end rest fit = rw (what_again end kind pieces rest fit) refl
value_again (values.Whom kind) end rest fit = rw (share_kind_again (end - length (values.share_kind kind ++ rest)) kind rest fit) refl
value_again (values.Optional n) end rest fit = rw (optional_again (end - length (values.optional n ++ rest)) n rest fit) refl
value_again (values.Permissions bits) end rest fit = rw (permissions_again (end - length (bits ∷ rest)) bits rest fit) refl
value_again (values.Flag b) end rest fit = rw (flag_again (end - length (values.flag b ∷ rest)) b rest) refl
value_again (values.Pieces most pieces) end rest fit = rw (content_again most (end - length (values.content pieces ++ rest)) pieces rest fit) refl

-- Of lists of fields: cut at the place of a bad value they are short there, and cut before a byte too many they are whole.

abbrev IsCut : RowFault → List Field → ℕ → List ℕ → ℕ → Type 0
IsCut (faults.Value at) fs end bytes n = (n ≤ length bytes) × (at ≡ (end - length bytes) + n) × ((other : ℕ) → values_at fs other (take n bytes) ≡ Err (faults.Short other))
IsCut (faults.Long at) fs end bytes n = (n < length bytes) × (at ≡ (end - length bytes) + n) × (vs : List Value) × ((other : ℕ) → values_at fs other (take n bytes) ≡ Ok vs)
IsCut fault fs end bytes n = Unit {0}

abbrev pub Cut : RowFault → List Field → ℕ → List ℕ → Type 0
Cut fault fs end bytes = (n : ℕ) × IsCut fault fs end bytes n

-- the first field has the fault
cut_first : {f : Field} {end : ℕ} {bytes : List ℕ} (s : Stands f end bytes) (fs : List Field) (fault : RowFault) → length bytes ≤ end → IsFaultAt s.place fault → Cut fault (f ∷ fs) end bytes
cut_first s fs (faults.Value at) below here =
    let same : (other : ℕ) → other - 0 ≡ other = λ other. omega arith in
    (s.behind, (s.within, here ∙ s.counted below, λ other. rw (s.short other, same other) refl))
cut_first s fs (faults.Long at) below here = absurd here
cut_first s fs fault below here = (0, tt)

-- a later field has it
value_before : (f : Field) (bytes : List ℕ) (v : Value × List ℕ) (n : ℕ) → IsTaken f bytes v
    → (length bytes ≡ length (spelled v.0) + length v.1) × ((other : ℕ) → value_at f other (take (length (spelled v.0) + n) bytes) ≡ Ok (v.0, take n v.1))
value_before f bytes v n t =
    let front : take (length (spelled v.0) + n) bytes ≡ spelled v.0 ++ take n v.1 = ap (take (length (spelled v.0) + n)) t.0.parts ∙ take-append-add (spelled v.0) v.1 n in
    let again : (other : ℕ) → value_at f other (spelled v.0 ++ take n v.1) ≡ Ok (v.0, take n v.1) = λ other. subst (λ (g : Field). value_at g other (spelled v.0 ++ take n v.1) ≡ Ok (v.0, take n v.1)) t.1 (value_again v.0 other (take n v.1) t.0.fit) in
    (ap length t.0.parts ∙ length-append (spelled v.0) v.1, λ other. ap (value_at f other) front ∙ again other)

cut_later : (f : Field) (fs : List Field) (end : ℕ) (bytes : List ℕ) (v : Value × List ℕ) → IsTaken f bytes v → length bytes ≤ end → (fault : RowFault) → Cut fault fs end v.1 → Cut fault (f ∷ fs) end bytes
cut_later f fs end bytes v t below (faults.Value at) (n, cut) =
    let b = value_before f bytes v n t in
    (length (spelled v.0) + n, (omega (arith, cut.0, b.0), omega (arith, cut.1, b.0, below), λ other. rw (b.1 other, cut.2 other) refl))
cut_later f fs end bytes v t below (faults.Long at) (n, cut) =
    let b = value_before f bytes v n t in
    (length (spelled v.0) + n, (omega (arith, cut.0, b.0), omega (arith, cut.1, b.0, below), v.0 ∷ cut.2, λ other. rw (b.1 other, cut.3 other) refl))
cut_later f fs end bytes v t below fault cut = (0, tt)

pub values_read : (fs : List Field) (end : ℕ) (bytes : List ℕ) → AreBytes bytes → length bytes ≤ end
    → Reading (λ fault. Cut fault fs end bytes) (λ vs. (bytes ≡ flat_map spelled vs) × AllByRecursion FitsValue vs) (values_at fs end bytes)
values_read [] end [] fits below = record { is = (refl, tt) }
values_read [] end (b ∷ bytes) fits below = record { is = (0, (omega arith, omega arith, [], λ other. refl)) }
values_read (f ∷ fs) end bytes fits below =
    let s = stands f end bytes fits in
    then_other (value_at f end bytes) _ s.read (λ fault. cut_first s fs fault below) (λ v e t.
    let left : length v.1 ≤ end = omega (arith, (value_before f bytes v 0 t).0, below) in
    then_other (values_at fs end v.1) _ (values_read fs end v.1 t.0.left left) (cut_later f fs end bytes v t below) (λ vs d u.
    record { is = (t.0.parts ∙ ap (λ (r : List ℕ). spelled v.0 ++ r) u.0 ∙ sym (flat_map-cons spelled v.0 vs), (t.0.fit, u.1)) }))

pub values_again : (vs : List Value) (end : ℕ) → AllByRecursion FitsValue vs → values_at (map field_of vs) end (flat_map spelled vs) ≡ Ok vs
values_again [] end fits = refl
values_again (v ∷ vs) end fits =
    ap (values_at (field_of v ∷ map field_of vs) end) (flat_map-cons spelled v vs)
    ∙ rw (value_again v end (flat_map spelled vs) fits.0, values_again vs end fits.1) refl
