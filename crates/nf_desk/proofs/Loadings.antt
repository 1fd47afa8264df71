-- What the rows that are loaded, or the first ones, make of a desk.
use Rattle.std.proofs.Common.{◌≡◌, ◌≢◌, ◌⊎◌, inl, inr, ℕ, zero, suc, ◌+◌, ◌<◌, ◌==◌, Bool, true, false, List, [], ◌∷◌, ◌++◌, length, get_or, map, take, replicate, refl, sym, ap, subst, ◌∙◌, arith}
use Rattle.std.specs.Prelude.{Option, None, Some, option_map, sum, Result, Ok, Err, IfOk, OnOk}
use Rattle.std.specs.List.{All, Contains}
use Rattle.std.specs.Option.{IfSome}
use Rattle.std.proofs.lemmas.Bool.{cases_lt, eqb-true, false≢true}
use Rattle.std.proofs.lemmas.List.{get_or_past, get_or-map, get_or-replicate, length-map, length-take-le, map-append, take_more}
use Rattle.std.proofs.lemmas.List.Elements.{All-contains_itself, All-push}
use Rattle.std.proofs.lemmas.Option.{slice_get_read}
use Rattle.nf_base.specs.declared.limits.TheConstants.{MAX_SEATS}
use Rattle.nf_base.specs.declared.changes.Change.TheVariants.{Put}
use Rattle.nf_base.specs.declared.rows.Row.{Row}
use Rattle.nf_defs.specs.Tables.{tables_of}
use Rattle.nf_keeper.specs.Keeping.{AreTold, applied}
use Rattle.nf_keeper.specs.declared.keeper.Keeper.{Ghosts as KeeperOf}
use Rattle.nf_laws.proofs.Opening.{opens_whole}
use Rattle.nf_opening.specs.Judged.{IsFaultOf}
use Rattle.nf_opening.specs.declared.fault.SiteFault.{SiteFault}
use Rattle.nf_opening.specs.declared.fault.SiteFault.TheVariants as judged
use Rattle.nf_rows.specs.Spelling.{Fits, Raw, spelling_of}
use Rattle.nf_rules.proofs.Among.{meta_has}
use Rattle.nf_rules.proofs.Firsts.{keep_each}
use Rattle.nf_rules.specs.Rules.{AreUnbroken, rules}
use Rattle.nf_session.proofs.Lasting.{tells_refl}
use Rattle.nf_site.specs.Held.{Held}
use Rattle.nf_site.specs.Kept.{Kept, opened_over}
use Rattle.nf_told.proofs.Follows.{told_again, told_begins}
use Rattle.nf_told.specs.Told.{AreFit, AreRisingRaws, FitsChange, Told, told_all, told_of}
use Rattle.nf_desk.specs.Desk.{IsCounted, IsDesk, Shown, TellsSite, blobs_in, failures, first_blob_of, risen, strikes_of, tale}
use Rattle.nf_desk.specs.Faults.{of_site}
use Rattle.nf_desk.specs.Opened.{AreUnread, IsFault, IsFresh, IsKept, IsSpelled, IsUnreadAt, MayBegin, MayHaveRows, Opens, first_blob, first_of, told_first}
use Rattle.nf_desk.specs.Opening.{AreSpelled, BeginsWithMeta, IsLoaded, IsUnread, OpensTo}
use Rattle.nf_desk.specs.declared.first.First.{First}
use Rattle.nf_desk.specs.declared.first.OpenFault.{OpenFault}
use Rattle.nf_desk.specs.declared.first.OpenFault.TheVariants as fault
use Rattle.nf_desk.specs.declared.first.Opening.{Opening}
use Rattle.nf_desk.specs.declared.first.Opening.TheVariants.{Fresh, Either}
use Rattle.nf_desk.specs.declared.first.Opening.TheVariants as over

-- ---- rows that are read

-- one more
pub spelled_more : (raws : List Raw) (i : ℕ) (raw : Raw) (rows more : List Row) (row : Row) → i < length raws → raw ≡ get_or raws i raw
    → AreSpelled (take i raws) rows → IsSpelled raw row → more ≡ rows ++ row ∷ [] → AreSpelled (take (i + 1) raws) more
spelled_more raws i raw rows more row less at before is same =
    subst (AreSpelled (take (i + 1) raws)) (sym same)
    (record {
      spelled = map-append spelling_of rows (row ∷ [])
          ∙ ap (λ (before : List Raw). before ++ spelling_of row ∷ []) before.spelled
          ∙ ap (λ (last : Raw). take i raws ++ last ∷ []) (is.spelled ∙ at)
          ∙ sym (take_more raws i raw less);
      fit = All-push Fits rows row before.fit is.fit;
    })

-- those before one that can't be read are as many as its index
count_is : (raws : List Raw) (i : ℕ) (rows : List Row) → i < length raws → AreSpelled (take i raws) rows → length rows ≡ i
count_is raws i rows less before =
    sym (length-map rows spelling_of) ∙ ap (λ (these : List Raw). length these) before.spelled ∙ length-take-le i raws (omega arith)

pub unread_here : (raws : List Raw) (i : ℕ) (raw : Raw) (rows : List Row) (why : OpenFault) → i < length raws → raw ≡ get_or raws i raw
    → AreSpelled (take i raws) rows → IsUnreadAt raw (length rows) why → AreUnread raws why
unread_here raws i raw rows (fault.Unread index why) less at before is =
    subst (λ (n : ℕ). IsUnread raws n why) (sym (is.0 ∙ count_is raws i rows less before))
    (record { before = (rows, before); raw = raw; at_index = slice_get_read raws (length raws) i raw refl less at; unread = is.1 })
unread_here raws i raw rows other less at before is = is

-- ---- the rows that are told when a desk is opened

record AreToldRows (all : List Row) (keeper : Option Told) : Type 0 where
  fit : AreFit (tables_of all)
  told : IfSome keeper (λ told. told.rows ≡ told_of (tables_of all))

first_told : (first : First) (all : List Row) (before : Option Told) → AreTold before [] → all ≡ first.rows
    → All Fits all → BeginsWithMeta first.rows → AreToldRows all (told_first first [] before)
first_told first all before told same fit meta =
    let law = told_begins meta.0 meta.1 (subst (All Fits) (same ∙ meta.2) fit) in
    record {
      fit = subst (λ (these : List Row). AreFit (tables_of these)) (sym (same ∙ meta.2)) law.fit;
      told = here before told (ap (λ (these : List Row). told_all [] (map Put these)) meta.2 ∙ law.told
          ∙ ap (λ (these : List Row). told_of (tables_of these)) (sym (same ∙ meta.2)));
    }
  where
    here : (before : Option Told) → AreTold before [] → told_all [] (map Put first.rows) ≡ told_of (tables_of all)
        → IfSome (told_first first [] before) (λ told. told.rows ≡ told_of (tables_of all))
    here None told is = tt
    here (Some old) told is = ap (λ (raws : List Raw). told_all raws (map Put first.rows)) (sym told) ∙ is

loaded_told : (all : List Row) (raws : List Raw) (before : Option Told) → AreTold before raws → AreRisingRaws raws
    → AreSpelled raws all → AreUnbroken all → AreToldRows all before
loaded_told all raws before told rising spelled unbroken =
    let there = meta_has (Contains all) all (keep_each rules all unbroken).0.1 (All-contains_itself all) in
    let law = told_again all (tables_of all).meta spelled.fit (subst AreRisingRaws (sym spelled.spelled) rising) there in
    record { fit = law.fit; told = here before told (sym spelled.spelled ∙ law.told) }
  where
    here : (before : Option Told) → AreTold before raws → raws ≡ told_of (tables_of all)
        → IfSome before (λ told. told.rows ≡ told_of (tables_of all))
    here None told is = tt
    here (Some old) told is = sym told ∙ is

rows_told : (first : First) (all : List Row) (raws : List Raw) (before : Option Told) → IsLoaded before raws
    → OpensTo first.rows raws all → AreUnbroken all → All Fits all → (raws ≡ [] → BeginsWithMeta first.rows)
    → AreToldRows all (told_first first raws before)
rows_told first all [] before loaded opens unbroken fit meta = first_told first all before loaded.told opens fit (meta refl)
rows_told first all (raw ∷ raws) before loaded opens unbroken fit meta =
    loaded_told all (raw ∷ raws) before loaded.told loaded.rising opens unbroken

-- where none were loaded there are first ones
first_meta : (opening : Opening) (raws : List Raw) → MayBegin opening → (IsKept opening → raws ≢ []) → raws ≡ []
    → BeginsWithMeta (first_of opening).rows
first_meta (Fresh first) raws may kept none = may.meta
first_meta (Either first) raws may kept none = may.meta
first_meta over.Kept raws may kept none = absurd (kept tt none)

-- ---- the desk

-- a desk at which nothing was done
abbrev pub begun : Kept → Option Told → ℕ → List ℕ → Shown
begun k told faults strikes = record {
  site = k;
  told = told;
  faults = faults;
  strikes = strikes;
  start = record { told = told; faults = faults };
}

begun_counted : (all : List Row) (told : Option Told) (faults : ℕ) (strikes : List ℕ) → sum strikes ≡ 0
    → IsCounted (begun (opened_over all) told faults strikes)
begun_counted all told faults strikes none =
    let failed : failures (begun (opened_over all) told faults strikes) ≡ 0 = omega (arith, none) in
    record { is = ap (risen faults) (sym failed); fits = λ some. absurd (omega (arith, failed, some)) }

begun_told : (all : List Row) (told : Option Told) → IfSome told (λ told. told.rows ≡ told_of (tables_of all))
    → IfSome told (TellsSite (blobs_in told) (opened_over all))
begun_told all None rows = tt
begun_told all (Some told) rows = record { rows = rows; begun = told.blobs; at_start = refl; whole = opens_whole all told.blobs }

begun_desk : (all : List Row) (told : Option Told) (faults : ℕ) (strikes : List ℕ) → AreUnbroken all → AreToldRows all told
    → length strikes ≡ MAX_SEATS → sum strikes ≡ 0 → IsDesk (begun (opened_over all) told faults strikes)
begun_desk all told faults strikes unbroken rows seats none = record {
  unbroken = unbroken;
  fit = rows.fit;
  told = begun_told all told rows.told;
  since = tells_refl _ (first_blob_of all) (blobs_in told);
  seats = seats;
  counted = begun_counted all told faults strikes none;
}

pub opened_desk : (opening : Opening) (before after : Option Told) (k : Kept) (faults : ℕ) (strikes : List ℕ) → Opens opening before after k
    → AreUnbroken k.opening → All Fits k.opening → MayBegin opening → length strikes ≡ MAX_SEATS → sum strikes ≡ 0
    → IsDesk (begun k after faults strikes)
opened_desk opening before after k faults strikes opens unbroken fit may seats none =
    subst (λ (z : Kept). IsDesk (begun z after faults strikes)) (sym opens.begun)
    (subst (λ (o : Option Told). IsDesk (begun (opened_over k.opening) o faults strikes)) (sym opens.told)
    (begun_desk k.opening (told_first (first_of opening) opens.raws before) faults strikes unbroken
    (rows_told (first_of opening) k.opening opens.raws before opens.loaded opens.rows unbroken fit (first_meta opening opens.raws may opens.kept))
    seats none))

-- what the keeper told then is what it tells
pub opened_tale : {K : Type 0} (k : KeeperOf K) (site : Kept) (keeper : K) (strikes : List ℕ) (start : K) → start ≡ keeper
    → IsDesk (begun site (k.told keeper) (k.faults keeper) strikes)
    → IsDesk (record { site = site; told = k.told keeper; faults = k.faults keeper; strikes = strikes; start = tale k start })
opened_tale {K = K} k site keeper strikes start same desk =
    subst (λ (z : K). IsDesk (record { site = site; told = k.told keeper; faults = k.faults keeper; strikes = strikes; start = tale k z }))
    (sym same) desk

-- no seat has a strike
pub no_strikes_of : (strikes : List ℕ) → strikes ≡ replicate MAX_SEATS 0 → (seat : ℕ) → strikes_of strikes seat ≡ 0
no_strikes_of strikes none zero = refl
no_strikes_of strikes none (suc place) = ap (λ (z : List ℕ). get_or z place 0) none ∙ elim (cases_lt place MAX_SEATS) [
  | inl within ↦ get_or-replicate MAX_SEATS place 0 0 within
  | inr past ↦ get_or_past (replicate MAX_SEATS 0) place 0 past
]

-- ---- what is opened

-- whether rows were loaded
pub are_some : (raws shown : List Raw) (empty : Bool) → empty ≡ (length shown == 0) → shown ≡ raws → empty ≡ false → raws ≢ []
are_some raws shown empty is same some = λ none.
    false≢true (sym some ∙ is ∙ ap (λ (these : List Raw). length these == 0) (same ∙ none))

pub are_none : (raws shown : List Raw) (empty : Bool) → empty ≡ (length shown == 0) → shown ≡ raws → empty ≡ true → raws ≡ []
are_none [] shown empty is same none = refl
are_none (raw ∷ raws) shown empty is same none =
    absurd (omega (arith, eqb-true (length shown) 0 (sym is ∙ none), ap (λ (these : List Raw). length these) same))

-- a Put fits where its row does
puts_fit : (all : List Row) → All FitsChange (map Put all) → All Fits all
puts_fit all fits = λ k d within.
    subst FitsChange (get_or-map Put all k d (Put d) within) (fits k (Put d) (omega (arith, length-map all Put)))

pub first_fit : (first : First) (result : Result Held OpenFault) → IfOk result (λ site. site.kept ≡ opened_over first.rows)
    → OnOk result (All FitsChange (map Put first.rows)) → IfOk result (λ site. All Fits site.kept.opening)
first_fit first (Ok site) is fits = subst (λ (k : Kept). All Fits k.opening) (sym is) (puts_fit first.rows fits)
first_fit first (Err why) is fits = tt

-- what isn't to be fresh may have rows
pub may_have : (opening : Opening) → ((first : First) × (opening ≡ Either first)) ⊎ (opening ≡ over.Kept) → MayHaveRows opening
may_have opening (inl either) = subst MayHaveRows (sym either.1) tt
may_have opening (inr kept) = subst MayHaveRows (sym kept) tt

-- the first rows are those of an opening that has some
of_first : (opening : Opening) (first : First) → (opening ≡ Fresh first) ⊎ (opening ≡ Either first)
    → (IsKept opening → ⊥) × (first ≡ first_of opening)
of_first opening first (inl fresh) =
    (λ kept. subst IsKept fresh kept, sym (ap first_of fresh))
of_first opening first (inr either) =
    (λ kept. subst IsKept either kept, sym (ap first_of either))

-- over the first rows, where none were loaded
pub opens_first : (opening : Opening) (before loaded after : Option Told) (raws : List Raw) (first : First) (result : Result Held OpenFault)
    → raws ≡ [] → AreTold before raws → AreRisingRaws raws → loaded ≡ before → (opening ≡ Fresh first) ⊎ (opening ≡ Either first)
    → IfOk result (λ site. site.kept ≡ opened_over first.rows)
    → OnOk result (after ≡ option_map (applied (map Put first.rows) (first_blob first)) loaded)
    → IfOk result (λ site. Opens opening before after site.kept)
opens_first opening before loaded after raws first (Err why) none told rising still of is made = tt
opens_first opening before loaded after raws first (Ok site) none told rising still of is made =
    let its = of_first opening first of in
    let rows = ap (λ (k : Kept). k.opening) is in
    record {
      raws = [];
      loaded = record { told = subst (AreTold before) none told; rising = subst AreRisingRaws none rising };
      fresh = λ _. refl;
      kept = λ kept. absurd (its.0 kept);
      rows = rows ∙ ap (λ (f : First). f.rows) its.1;
      begun = is ∙ ap opened_over (sym rows);
      told = made ∙ (λ i. option_map (applied (map Put (its.1 i).rows) (first_blob (its.1 i))) (still i));
    }

-- over the rows that were loaded
pub opens_loaded : (opening : Opening) (before after : Option Told) (raws : List Raw) (all : List Row) (k : Kept) → raws ≢ []
    → AreTold before raws → AreRisingRaws raws → after ≡ before → MayHaveRows opening → AreSpelled raws all → k ≡ opened_over all
    → Opens opening before after k
opens_loaded opening before after [] all k some told rising still may spelled is = absurd (some refl)
opens_loaded opening before after (raw ∷ raws) all k some told rising still may spelled is =
    subst (λ (z : Kept). Opens opening before after z) (sym is)
    (record {
      raws = raw ∷ raws;
      loaded = record { told = told; rising = rising };
      fresh = λ fresh. absurd (never opening fresh may);
      kept = λ _. some;
      rows = spelled;
      begun = refl;
      told = still;
    })
  where
    never : (opening : Opening) → IsFresh opening → MayHaveRows opening → ⊥
    never (Fresh first) fresh may = may
    never (Either first) fresh may = fresh
    never over.Kept fresh may = fresh

-- ---- why nothing is opened

pub unread_fault : (opening : Opening) (keeper : Option Told) (raws : List Raw) (why : OpenFault) → MayHaveRows opening → AreTold keeper raws
    → AreRisingRaws raws → AreUnread raws why → IsFault opening keeper why
unread_fault opening keeper raws (fault.Unread index why) may told rising is = (may, (raws, record { told = told; rising = rising }, is))
unread_fault opening keeper raws fault.Memory may told rising is = tt
unread_fault opening keeper raws other may told rising is = absurd is

pub unbuilt_fault : (opening : Opening) (keeper : Option Told) (raws : List Raw) (all : List Row) (why : SiteFault) → raws ≢ []
    → MayHaveRows opening → AreTold keeper raws → AreRisingRaws raws → AreSpelled raws all → IsFaultOf all why
    → IsFault opening keeper (of_site why)
unbuilt_fault opening keeper raws all (judged.Broken broken) some may told rising spelled is =
    (may, (raws, record { told = told; rising = rising }, record { some = some; rows = all; spelled = spelled; first = is }))
unbuilt_fault opening keeper raws all judged.Memory some may told rising spelled is = tt
