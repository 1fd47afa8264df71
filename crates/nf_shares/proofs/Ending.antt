-- Shares that are ended one after the other, in the order of their rows.
use Rattle.std.proofs.Common.{ℕ, zero, suc, ◌≡◌, ◌==◌, ◌<◌, ◌≤◌, Bool, true, false, List, [], ◌∷◌, ◌++◌, get_or, take, drop, length, length-append, map, ◌+◌, Some, refl, sym, ap, subst, ◌∙◌, arith}
use Rattle.std.specs.Cmp.{tied_itself}
use Rattle.std.specs.Prelude.{is_some, if◌then◌else◌}
use Rattle.std.specs.declared.cmp.Ordering.TheVariants.{Less, Greater}
use Rattle.std.proofs.Math.Seq.{get_or-append_seam}
use Rattle.std.proofs.lemmas.List.{drop_more, get_or-map, length-map}
use Rattle.nf_access.proofs.Kept.{share_row_each}
use Rattle.nf_access.specs.Shares.{share_row}
use Rattle.nf_base.specs.declared.rows.ShareRow.{ShareRow}
use Rattle.nf_defs.specs.Prelude.{IsRising, key_cmp, put, share_key}
use Rattle.nf_defs.proofs.Puts.{Below, below_rest, key_total, tail_rising, turned}
use Rattle.nf_shares.specs.Kept.{changed, ended, ended_where, ids_of}
use Rattle.nf_shares.specs.declared.entries.Entry.{Entry}

-- a row of the same number takes the place of the old one
put_seam : (new old : ShareRow) (front rest : List ShareRow) → new.id ≡ old.id → IsRising share_key (front ++ old ∷ rest)
    → put share_key new (front ++ old ∷ rest) ≡ front ++ new ∷ rest
put_seam new old [] rest same rising =
    rw (ap (λ (id : ℕ). key_cmp (id ∷ []) (share_key old)) same ∙ tied_itself key_total (share_key old)) refl
put_seam new old (x ∷ front) rest same rising =
    let less : key_cmp (share_key x) (share_key old) ≡ Less =
    subst (λ (y : ShareRow). Below share_key x y) (get_or-append_seam front old rest old)
    (below_rest share_key x (front ++ old ∷ rest) rising (length front) old (simp length-append (omega arith))) in
    let above : key_cmp (share_key new) (share_key x) ≡ Greater =
    ap (λ (id : ℕ). key_cmp (id ∷ []) (share_key x)) same ∙ turned (share_key x) (share_key old) Less less in
    rw above (ap (λ rest. x ∷ rest) (put_seam new old front rest same (tail_rising share_key x (front ++ old ∷ rest) rising)))

pub seam_there : (front : List ShareRow) (row : ShareRow) (rest : List ShareRow) → IsRising share_key (front ++ row ∷ rest)
    → share_row (front ++ row ∷ rest) row.id ≡ Some row
seam_there front row rest rising =
    let at = share_row_each (front ++ row ∷ rest) rising (length front) row (simp length-append (omega arith)) in
    subst (λ (own : ShareRow). share_row (front ++ row ∷ rest) own.id ≡ Some own) (get_or-append_seam front row rest row) at

-- the share behind some others ends
pub ended_seam : (front : List ShareRow) (row : ShareRow) (rest : List ShareRow) → IsRising share_key (front ++ row ∷ rest)
    → changed ended row.id (front ++ row ∷ rest) ≡ front ++ ended row ∷ rest
ended_seam front row rest rising =
    rw (seam_there front row rest rising) (put_seam (ended row) row front rest refl rising)

-- ---- so far

-- the rows where the first of them are ended that pass a test
abbrev pub ended_until : (ShareRow → Bool) → ℕ → List ShareRow → List ShareRow
ended_until test i rows = ended_where test (take i rows) ++ drop i rows

until_seam : (test : ShareRow → Bool) (i : ℕ) (rows : List ShareRow) (d : ShareRow) → i < length rows
    → ended_until test i rows ≡ ended_where test (take i rows) ++ get_or rows i d ∷ drop (suc i) rows
until_seam test i [] d within = absurd (omega arith)
until_seam test zero (x ∷ rows) d within = refl
until_seam test (suc i) (x ∷ rows) d within = ap (λ rest. (if test x then ended x else x) ∷ rest) (until_seam test i rows d (omega arith))

until_next : (test : ShareRow → Bool) (i : ℕ) (rows : List ShareRow) (d : ShareRow) → i < length rows
    → ended_until test (suc i) rows
    ≡ ended_where test (take i rows) ++ (if test (get_or rows i d) then ended (get_or rows i d) else get_or rows i d) ∷ drop (suc i) rows
until_next test i [] d within = absurd (omega arith)
until_next test zero (x ∷ rows) d within = refl
until_next test (suc i) (x ∷ rows) d within = ap (λ rest. (if test x then ended x else x) ∷ rest) (until_next test i rows d (omega arith))

until_at : (test : ShareRow → Bool) (i : ℕ) (rows : List ShareRow) (d : ShareRow) → i < length rows
    → get_or (ended_until test i rows) i d ≡ get_or rows i d
until_at test i [] d within = absurd (omega arith)
until_at test zero (x ∷ rows) d within = refl
until_at test (suc i) (x ∷ rows) d within = until_at test i rows d (omega arith)

pub until_length : (test : ShareRow → Bool) (i : ℕ) (rows : List ShareRow) → length (ended_until test i rows) ≡ length rows
until_length test zero rows = refl
until_length test (suc i) [] = refl
until_length test (suc i) (x ∷ rows) = ap suc (until_length test i rows)

pub until_all : (test : ShareRow → Bool) (i : ℕ) (rows : List ShareRow) → length rows ≤ i → ended_until test i rows ≡ ended_where test rows
until_all test zero [] all = refl
until_all test zero (x ∷ rows) all = absurd (omega arith)
until_all test (suc i) [] all = refl
until_all test (suc i) (x ∷ rows) all = ap (λ rest. (if test x then ended x else x) ∷ rest) (until_all test i rows (omega arith))

-- ---- the shares of a node

abbrev pub is_on : ℕ → ShareRow → Bool
is_on node row = row.node == node

-- their numbers stay
pub ids_kept : (node i : ℕ) (rows : List ShareRow) → ids_of (is_on node) (ended_until (is_on node) i rows) ≡ ids_of (is_on node) rows
ids_kept node zero rows = refl
ids_kept node (suc i) [] = refl
ids_kept node (suc i) (x ∷ rows) = here (x.node == node) refl (ids_kept node i rows)
  where
    here : (b : Bool) → (x.node == node) ≡ b → ids_of (is_on node) (ended_until (is_on node) i rows) ≡ ids_of (is_on node) rows
        → ids_of (is_on node) (ended_until (is_on node) (suc i) (x ∷ rows)) ≡ ids_of (is_on node) (x ∷ rows)
    here true e rest = rw e (rw e (ap (λ ids. x.id ∷ ids) rest))
    here false e rest = rw e (rw e rest)

-- the next row that passes a test, behind others that stay
pub record Next (test : ShareRow → Bool) (old : List ShareRow) (i id : ℕ) (more : List ℕ) : Type 0 where
  pub at : ℕ
  pub row : ShareRow
  pub within : at < length old
  pub is : row ≡ get_or old at row
  pub passes : test row ≡ true
  pub number : row.id ≡ id
  pub same : ended_until test i old ≡ ended_until test at old
  pub rest : ids_of test (drop (suc at) old) ≡ more

pub next_passing : (test : ShareRow → Bool) (old : List ShareRow) (i id : ℕ) (more : List ℕ) → ids_of test (drop i old) ≡ id ∷ more → Next test old i id more
next_passing test [] zero id more is = absurd (cc)
next_passing test [] (suc i) id more is = absurd (cc)
next_passing test (x ∷ old) (suc i) id more is =
    let n = next_passing test old i id more is in
    record { at = suc n.at; row = n.row; within = omega (arith, n.within); is = n.is; passes = n.passes; number = n.number; same = ap (λ rest. (if test x then ended x else x) ∷ rest) n.same; rest = n.rest }
next_passing test (x ∷ old) zero id more is = here (test x) refl (λ fails. next_passing test old zero id more (rw fails at is))
  where
    here : (b : Bool) → test x ≡ b → (test x ≡ false → Next test old zero id more) → Next test (x ∷ old) zero id more
    here true e rest =
        let ids : x.id ∷ ids_of test old ≡ id ∷ more = rw e at is in
        record { at = zero; row = x; within = omega arith; is = refl; passes = e; number = cc; same = refl; rest = cc }
    here false e rest =
        let n = rest e in
        record { at = suc n.at; row = n.row; within = omega (arith, n.within); is = n.is; passes = n.passes; number = n.number; same = rw e (ap (λ rest. x ∷ rest) n.same); rest = n.rest }

-- where no other passes, all are ended that are to be
pub none_passing : (test : ShareRow → Bool) (old : List ShareRow) (i : ℕ) → ids_of test (drop i old) ≡ [] → ended_until test i old ≡ ended_where test old
none_passing test [] zero is = refl
none_passing test [] (suc i) is = refl
none_passing test (x ∷ old) (suc i) is = ap (λ rest. (if test x then ended x else x) ∷ rest) (none_passing test old i is)
none_passing test (x ∷ old) zero is = here (test x) refl (λ fails. none_passing test old zero (rw fails at is))
  where
    here : (b : Bool) → test x ≡ b → (test x ≡ false → old ≡ ended_where test old) → x ∷ old ≡ ended_where test (x ∷ old)
    here true e rest = absurd (let ids : x.id ∷ ids_of test old ≡ [] = rw e at is in cc)
    here false e rest = rw e (ap (λ rest. x ∷ rest) (rest e))

-- ---- one more

module _ (test : ShareRow → Bool) (old rows : List ShareRow) (i : ℕ) (row : ShareRow) (within : i < length old)
    (so_far : rows ≡ ended_until test i old) (rising : IsRising share_key rows) (is : row ≡ get_or rows i row) where
  front : List ShareRow
  front = ended_where test (take i old)

  rest : List ShareRow
  rest = drop (suc i) old

  own : row ≡ get_or old i row
  own = is ∙ ap (λ (rows : List ShareRow). get_or rows i row) so_far ∙ until_at test i old row within

  seam : rows ≡ front ++ row ∷ rest
  unfolding front rest
  seam = so_far ∙ until_seam test i old row within ∙ ap (λ (own : ShareRow). front ++ own ∷ rest) (sym own)

  pub row_there : is_some (share_row rows row.id) ≡ true
  row_there =
      ap (λ (rows : List ShareRow). is_some (share_row rows row.id)) seam
      ∙ ap is_some (seam_there front row rest (subst (IsRising share_key) seam rising))

  next : (b : Bool) → test row ≡ b → ended_until test (suc i) old ≡ front ++ (if b then ended row else row) ∷ rest
  unfolding front rest
  next b passes =
      until_next test i old row within
      ∙ ap (λ (own : ShareRow). front ++ (if test own then ended own else own) ∷ rest) (sym own)
      ∙ ap (λ (b : Bool). front ++ (if b then ended row else row) ∷ rest) passes

  pub one_ended : test row ≡ true → changed ended row.id rows ≡ ended_until test (suc i) old
  one_ended passes =
      ap (changed ended row.id) seam ∙ ended_seam front row rest (subst (IsRising share_key) seam rising) ∙ sym (next true passes)

  pub one_kept : test row ≡ false → rows ≡ ended_until test (suc i) old
  one_kept fails = seam ∙ sym (next false fails)

-- there are as many entries
pub ids_long : (node : ℕ) (rows : List ShareRow) (entries : List (Entry ℕ)) → map (λ (entry : Entry ℕ). entry.share) entries ≡ ids_of (is_on node) rows
    → length (ids_of (is_on node) rows) ≡ length entries
ids_long node rows entries numbers = sym (ap length numbers) ∙ length-map entries (λ (entry : Entry ℕ). entry.share)

-- ---- one entry more

module _ (node place : ℕ) (old rows : List ShareRow) (entries : List (Entry ℕ)) (i : ℕ) (so_far : rows ≡ ended_until (is_on node) i old)
    (rest : ids_of (is_on node) (drop i old) ≡ drop place (ids_of (is_on node) old)) (rising : IsRising share_key rows)
    (numbers : map (λ (entry : Entry ℕ). entry.share) entries ≡ ids_of (is_on node) rows) (within : place < length (ids_of (is_on node) old)) where
  abbrev ids : List ℕ
  ids = ids_of (is_on node) old

  shares : map (λ (entry : Entry ℕ). entry.share) entries ≡ ids
  shares = numbers ∙ ap (ids_of (is_on node)) so_far ∙ ids_kept node i old

  pub entry_there : place < length entries
  entry_there = omega (arith, ids_long node old entries shares, within)

  number : (d : Entry ℕ) → (get_or entries place d).share ≡ get_or ids place 0
  number d = sym (get_or-map (λ (entry : Entry ℕ). entry.share) entries place d 0 entry_there) ∙ ap (λ list. get_or list place 0) shares

  next_on : (d : Entry ℕ) → Next (is_on node) old i (get_or entries place d).share (drop (place + 1) ids)
  next_on d = next_passing (is_on node) old i _ _ (rest ∙ drop_more ids place 0 within ∙ ap (λ id. id ∷ drop (place + 1) ids) (sym (number d)))

  module _ (d : Entry ℕ) where
    abbrev n : Next (is_on node) old i (get_or entries place d).share (drop (place + 1) ids)
    n = next_on d

    reached : rows ≡ ended_until (is_on node) n.at old
    reached = so_far ∙ n.same

    here : n.row ≡ get_or rows n.at n.row
    here = n.is ∙ sym (ap (λ list. get_or list n.at n.row) reached ∙ until_at (is_on node) n.at old n.row n.within)

    pub share_there : is_some (share_row rows (get_or entries place d).share) ≡ true
    share_there =
        subst (λ id. is_some (share_row rows id) ≡ true) n.number (row_there (is_on node) old rows n.at n.row n.within reached rising here)

    pub share_ended : (j : ℕ) × (changed ended (get_or entries place d).share rows ≡ ended_until (is_on node) j old) × (ids_of (is_on node) (drop j old) ≡ drop (place + 1) ids)
    share_ended = (
      suc n.at,
      subst (λ id. changed ended id rows ≡ ended_until (is_on node) (suc n.at) old) n.number
          (one_ended (is_on node) old rows n.at n.row n.within reached rising here n.passes),
      n.rest,
    )
