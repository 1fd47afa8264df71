-- How a book goes on by each call: what is kept, which entries came, and what was counted.
use Rattle.std.proofs.Common.{◌≡◌, ◌⊎◌, ℕ, ◌+◌, ◌-◌, ◌^◌, ◌≤◌, List, [], ◌∷◌, ◌++◌, refl, sym, ◌∙◌, ap, subst, inl, inr, arith, length, append-nil, append_assoc, length-append, Err}
use Rattle.std.proofs.lemmas.List.Sums.{sum_by-append}
use Rattle.std.specs.Prelude.{Bool, true, false, min, None, Some, MatchBool, if◌then◌else◌}
use Rattle.nf_base.specs.declared.content.Piece.{Piece}
use Rattle.nf_words.specs.declared.answer.Denial.TheVariants as denial
use Rattle.nf_words.specs.declared.history.Entry.{Entry}
use Rattle.nf_words.specs.declared.history.Event.{Event}
use Rattle.nf_words.specs.declared.history.Mark.{Mark}
use Rattle.nf_words.specs.declared.history.Mark.TheVariants as mark
use Rattle.nf_words.specs.declared.request.Request.{Request}
use Rattle.nf_words.specs.declared.request.Words.{Words}
use Rattle.nf_words.proofs.Marks.{marked_store}
use Rattle.nf_session.specs.Prelude.{Answer, Begins, Book, Ends, Enters, failed_by, failed_entries, failed_first, FailsPiece, is_unmade, Lasts, Starts, state_after, Strikes, Struck, Waits}
use Rattle.nf_session.specs.Laws.{is_failed}
use Rattle.nf_session.specs.Book.{Passes as Unchanged}
use Rattle.nf_session.specs.declared.backend.Ending.{Ending}
use Rattle.nf_session.specs.declared.backend.Ending.TheVariants as ending
use Rattle.nf_session.specs.declared.backend.PieceFault.{PieceFault}
use Rattle.nf_session.specs.declared.backend.PieceFault.TheVariants as fault
use Rattle.nf_session.specs.declared.ended.Ended.TheVariants as ended
use Rattle.nf_session.specs.declared.response.Response.{Response}
use Rattle.nf_session.specs.declared.response.Response.TheVariants as response
use Rattle.nf_session.proofs.Lasting.{Later, known_then, lasts_then, waits_same}

-- ---- so many strikes

-- one after the other, up to the last value
abbrev pub Rises : ℕ → ℕ → ℕ → Type 0
Rises before n now = ((n ≡ 0) × (now ≡ before)) ⊎ ((before ≤ 2 ^ 64 - 1) × (now ≡ min (before + n) (2 ^ 64 - 1)))

rises_one : (a b : ℕ) → a ≤ b → Struck a b → Rises a 1 b
rises_one a b fits struck = inr (omega (arith, fits, struck), struck)

rises_then : (a m b n k : ℕ) → Rises a n m → Rises m k b → Rises a (n + k) b
rises_then a m b n k (inl p) (inl q) = inl (omega (arith, p.0, q.0), q.1 ∙ p.1)
rises_then a m b n k (inl p) (inr q) = inr (omega (arith, p.1, q.0), omega (arith, p.0, p.1, q.1))
rises_then a m b n k (inr p) (inl q) = inr (p.0, omega (arith, p.1, q.0, q.1))
rises_then a m b n k (inr p) (inr q) = inr (p.0, omega (arith, p.1, q.1))

-- ---- what becomes of a book

-- one, or none
abbrev ones : Bool → ℕ
ones failed = if failed then 1 else 0

-- what every call keeps, and what is known stays known
pub record Onward (a b : Book) : Type 0 where
  pub lasts : Lasts a b
  pub known : Later a.known b.known

pub onward_then : (a m b : Book) → Onward a m → Onward m b → Onward a b
onward_then a m b p q = record {
  lasts = lasts_then a m b p.lasts q.lasts;
  known = known_then a.known m.known b.known p.known q.known;
}

-- so many entries of the seat's own came at most, and were counted with so many pieces
pub record Moves (a b : Book) (most pieces : ℕ) : Type 0 where
  pub onward : Onward a b
  pub entries : List (Entry × Answer)
  pub own : b.own ≡ a.own ++ entries
  pub few : length b.own ≤ length a.own + most
  pub rises : Rises a.strikes (failed_entries entries + pieces) b.strikes

pub waits_move : (a b : Book) (most pieces : ℕ) → Waits a b → Rises a.strikes pieces b.strikes → Moves a b most pieces
waits_move a b most pieces waits rises =
    let own : length b.own ≡ length a.own = ap length waits.own in
    record {
      onward = record { lasts = waits.lasts; known = waits.known };
      entries = [];
      own = waits.own ∙ sym (append-nil a.own);
      few = omega arith;
      rises = subst (λ (z : ℕ). Rises a.strikes z b.strikes) (omega arith) rises;
    }

pub same_moves : (a b : Book) (most : ℕ) → b ≡ a → Moves a b most 0
same_moves a b most same = waits_move a b most 0 (waits_same a b same) (inl (refl, ap (λ (z : Book). z.strikes) same))

module _ {a m b : Book} {n k p q : ℕ} where
  pub moves_then : Moves a m n p → Moves m b k q → Moves a b (n + k) (p + q)
  moves_then x y = record {
    onward = onward_then a m b x.onward y.onward;
    entries = x.entries ++ y.entries;
    own = y.own ∙ ap (λ (z : List (Entry × Answer)). z ++ y.entries) x.own ∙ append_assoc a.own x.entries y.entries;
    few = omega (arith, x.few, y.few);
    rises = subst (λ (z : ℕ). Rises a.strikes z b.strikes) (sym (sums x.entries y.entries))
        (rises_then a.strikes m.strikes b.strikes (failed_entries x.entries + p) (failed_entries y.entries + q) x.rises y.rises);
  }
    where
      sums : (x y : List (Entry × Answer)) → failed_entries (x ++ y) + (p + q) ≡ (failed_entries x + p) + (failed_entries y + q)
      sums x y = omega (arith, sum_by-append (λ (made : Entry × Answer). ones (is_failed made.1)) x y)

-- ---- an entry

pub none_of : {X : Type 0} (xs : List X) → length xs ≡ 0 → xs ≡ []
none_of [] none = refl
none_of (x ∷ xs) none = absurd (omega (arith, none))

-- as many entries came as are the seat's own: no other's did
pub no_others : (a b : Book) (now : ℕ) (event : Event) (answer : Answer) (enters : Enters a b now event answer)
    → length b.known + length a.own ≡ length a.known + length b.own → enters.others ≡ []
no_others a b now event answer enters only =
    let own : length b.own ≡ length a.own + 1 = simp length-append at (ap length enters.own) in
    let known : length b.known ≡ length a.known + length enters.others + 1 = simp length-append at (ap length enters.known) in
    none_of enters.others (omega (arith, only))

is_store : (answer : Answer) → is_failed answer ≡ true → answer ≡ Err denial.Store
is_store (Err denial.Store) failed = refl
is_store other failed = absurd (cc)

-- the strikes of an entry
abbrev struck_by : Mark → ℕ
struck_by mark.Store = 1
struck_by other = 0

-- an answer tells that the store failed exactly where its entry is marked so
marked_by : (m : Mark) (answer : Answer) → (answer ≡ Err denial.Store → m ≡ mark.Store) → (m ≡ mark.Store → answer ≡ Err denial.Store)
    → ones (is_failed answer) ≡ struck_by m
marked_by mark.Store answer marked back = ap (λ (z : Answer). ones (is_failed z)) (back refl)
marked_by other answer marked back =
    unmarked (is_failed answer) (λ is. let never : other ≡ mark.Store = marked (is_store answer is) in cc)
  where
    unmarked : (failed : Bool) → (failed ≡ true → ⊥) → ones failed ≡ struck_by other
    unmarked true not = absurd (not refl)
    unmarked false not = refl

mark_rises : (a b : ℕ) (m : Mark) → a ≤ b → Strikes m a b → Rises a (struck_by m) b
mark_rises a b mark.Store fits strikes = rises_one a b fits strikes
mark_rises a b other fits strikes = inl (refl, strikes)

pub enters_move : (a b : Book) (now : ℕ) (event : Event) (answer : Answer) → Enters a b now event answer → Moves a b 1 0
enters_move a b now event answer e =
    let marked = marked_store (state_after a e.others) e.entry in
    let told = marked_by e.entry.mark answer (λ is. marked.0 (sym e.answer_is ∙ is)) (λ is. e.answer_is ∙ marked.1 is) in
    let own : length b.own ≡ length a.own + 1 = simp length-append at (ap length e.own) in
    record {
      onward = record {
        lasts = e.lasts;
        known = (e.others ++ e.entry ∷ [], e.known ∙ append_assoc a.known e.others (e.entry ∷ []));
      };
      entries = (e.entry, answer) ∷ [];
      own = e.own;
      few = omega arith;
      rises = subst (λ (z : ℕ). Rises a.strikes z b.strikes) (omega (arith, told))
          (mark_rises a.strikes b.strikes e.entry.mark e.lasts.strikes e.strikes);
    }

pub begins_move : (a b : Book) (now : ℕ) (words : Words) (r : Request) (answer : Answer) → Begins a b now words r answer → Moves a b 1 0
begins_move a b now words r answer begins = here (is_unmade answer) _ begins.entry
  where
    here : (unmade : Bool) (event : Event) → MatchBool unmade (Unchanged a b) (Enters a b now event answer) → Moves a b 1 0
    here true event passes = waits_move a b 1 0 passes.waits (inl (refl, passes.unstruck))
    here false event made = enters_move a b now event answer made

pub ends_move : (a b : Book) (now : ℕ) (how : Ending) (answer : Answer) → Ends a b now how answer → Moves a b 1 0
ends_move a b now (ending.Body bytes) answer ends = enters_move a b now _ answer ends.enters
ends_move a b now other answer ends = enters_move a b now _ answer ends.enters

-- ---- a piece

pub fails_rise : (a b : Book) (piece : Piece) (why : PieceFault) → a.strikes ≤ b.strikes → FailsPiece a b piece why
    → Rises a.strikes (failed_by (ended.Cut why)) b.strikes
fails_rise a b piece fault.Store fits struck = rises_one a.strikes b.strikes fits struck
fails_rise a b piece (fault.Damaged damage) fits damaged = inl (refl, damaged.0)
fails_rise a b piece fault.Memory fits none = inl (refl, none)

failed_so : (why : PieceFault) → failed_by (ended.Cut why) ≡ failed_first (response.Lost why)
failed_so fault.Store = refl
failed_so other = refl

pub starts_move : (a b : Book) (most : ℕ) (content : List Piece) (v : Response) → Starts a b content v → Moves a b most (failed_first v)
starts_move a b most [] (response.File content None) starts = same_moves a b most starts.1
starts_move a b most (piece ∷ pieces) (response.File content (Some first)) starts = waits_move a b most 0 starts.1 (inl (refl, starts.3))
starts_move a b most (piece ∷ pieces) (response.Lost why) starts = waits_move a b most _ starts.0
    (subst (λ (z : ℕ). Rises a.strikes z b.strikes) (failed_so why) (fails_rise a b piece why starts.0.lasts.strikes starts.1))
starts_move a b most content other starts = absurd starts
