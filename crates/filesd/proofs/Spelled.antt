-- Rows that are spelled in a store: an opening finds these and no others.
use Rattle.std.proofs.Common.{◌≡◌, ℕ, zero, suc, List, [], ◌∷◌, map, refl, sym, ◌∙◌, subst}
use Rattle.std.specs.Prelude.{Option, Some, Ok, Err, slice_get}
use Rattle.std.specs.List.{All}
use Rattle.std.proofs.lemmas.List.Elements.{All-head, All-nil, All-tail}
use Rattle.std.proofs.lemmas.Option.{same_Some}
use Rattle.nf_base.specs.declared.rows.Row.{Row}
use Rattle.nf_desk.specs.Opened.{IsBroken}
use Rattle.nf_desk.specs.Opening.{AreSpelled, IsLoaded, IsUnread, OpensTo}
use Rattle.nf_keeper.specs.Keeping.{AreTold}
use Rattle.nf_rows.proofs.Whole.{one_row, read_again}
use Rattle.nf_rows.specs.Faults.{reading}
use Rattle.nf_rows.specs.Spelling.{Fits, Raw, spelling_of, values_of}
use Rattle.nf_rows.specs.declared.fault.RowFault.{RowFault}
use Rattle.nf_rows.specs.declared.parts.TheConstants.{FORMAT}
use Rattle.nf_rules.specs.Rules.{AreUnbroken, Broken}
use Rattle.nf_told.specs.Told.{Told}

-- no others are spelled so
pub same_rows : (a b : List Row) → All Fits a → All Fits b → map spelling_of a ≡ map spelling_of b → a ≡ b
same_rows [] [] a_fit b_fit is = refl
same_rows [] (y ∷ b) a_fit b_fit is = absurd (cc)
same_rows (x ∷ a) [] a_fit b_fit is = absurd (cc)
same_rows (x ∷ a) (y ∷ b) a_fit b_fit is =
    let one : x ≡ y = one_row x y (All-head Fits x a a_fit) (All-head Fits y b b_fit) (cc) in
    let rest : a ≡ b = same_rows a b (All-tail Fits x a a_fit) (All-tail Fits y b b_fit) (cc) in
    cc

-- and each can be read
are_read : (rows : List Row) (index : ℕ) (raw : Raw) (why : RowFault) → All Fits rows → slice_get (map spelling_of rows) index ≡ Some raw
    → reading raw.kind raw.key raw.body ≡ Err why → ⊥
are_read [] zero raw why fit at is = absurd (cc)
are_read [] (suc k) raw why fit at is = absurd (cc)
are_read (row ∷ rows) zero raw why fit at is =
    let same : spelling_of row ≡ raw = same_Some (spelling_of row) raw at in
    let read = read_again row (All-head Fits row rows fit) in
    let well = subst (λ (r : Raw). reading r.kind r.key r.body ≡ Ok (values_of FORMAT row)) same read in
    cc
are_read (row ∷ rows) (suc k) raw why fit at is = are_read rows k raw why (All-tail Fits row rows fit) at is

pub loaded_is : (told : Option Told) (it : Told) (raws : List Raw) → told ≡ Some it → IsLoaded told raws → raws ≡ it.rows
loaded_is told it raws tells loaded = subst (λ (t : Option Told). AreTold t raws) tells loaded.told

-- ---- a store that tells rows which are spelled so

module _ (told : Option Told) (it : Told) (rows : List Row) (tells : told ≡ Some it) (spelled : AreSpelled it.rows rows) where
  pub loaded_so : (raws : List Raw) → IsLoaded told raws → raws ≡ map spelling_of rows
  loaded_so raws loaded = loaded_is told it raws tells loaded ∙ sym spelled.spelled

  pub unread_never : (raws : List Raw) (index : ℕ) (why : RowFault) → IsLoaded told raws → IsUnread raws index why → ⊥
  unread_never raws index why loaded unread =
      are_read rows index unread.raw why spelled.fit
      (subst (λ (z : List Raw). slice_get z index ≡ Some unread.raw) (loaded_so raws loaded) unread.at_index) unread.unread

  module _ (unbroken : AreUnbroken rows) where
    pub broken_never : (raws : List Raw) (broken : Broken) → IsLoaded told raws → IsBroken raws broken → ⊥
    broken_never raws broken loaded is =
        let same : is.rows ≡ rows = same_rows is.rows rows is.spelled.fit spelled.fit (is.spelled.spelled ∙ loaded_so raws loaded) in
        let first = is.first in
        cc

    pub missing_never : (raws : List Raw) → IsLoaded told raws → raws ≡ [] → ⊥
    missing_never raws loaded none =
        let no_rows : rows ≡ [] = same_rows rows [] spelled.fit (All-nil Fits) (sym (loaded_so raws loaded) ∙ none) in
        cc

    -- a site that is opened is opened over these
    pub opened_so : (first : List Row) (raws : List Raw) (opening : List Row) → IsLoaded told raws → OpensTo first raws opening → opening ≡ rows
    opened_so first [] opening loaded opens = absurd (missing_never [] loaded refl)
    opened_so first (raw ∷ raws) opening loaded opens =
        same_rows opening rows opens.fit spelled.fit (opens.spelled ∙ loaded_so (raw ∷ raws) loaded)
