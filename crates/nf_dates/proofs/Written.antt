-- A text is the date of one day at most.
use Rattle.std.proofs.Common.{◌≡◌, ◌∙◌, ℕ, zero, suc, ◌+◌, ◌*◌, ◌/◌, ◌%◌, ◌≤◌, ◌<◌, Bool, true, false, List, [], ◌∷◌, ◌++◌, length, drop, Option, Some, None, refl, sym, ap, subst, arith, ℤ, pos, negsuc, if◌then◌else◌}
use Rattle.std.specs.Prelude.{IfSome, bytes_eq, get_or, nat_le, option_map}
use Rattle.std.proofs.lemmas.Bool.{false≢true}
use Rattle.std.proofs.lemmas.Bool.Decides.{nat_tests}
use Rattle.std.proofs.lemmas.Slice.Eq.{bytes_eq-Decides}
use Rattle.std.proofs.lemmas.List.{drop_all, drop_more}
use Rattle.std.proofs.lemmas.Nat.{div-add-mod', div-mul-add, mod-mul-add}
use Rattle.jiff_core.proofs.SignedLemmas.{signed_arith}
use Rattle.jiff_core.proofs.CalendarLemmas.{days_in_month_bounds}
use Rattle.jiff_core.specs.Calendar.{IsDate, days_from_civil, days_in_month}
use Rattle.jiff_core.specs.Date.{epoch_day}
use Rattle.jiff_core.specs.declared.civil.date.Date.{Date}
use Rattle.jiff_fmt.specs.Text.{pad2}
use Rattle.nf_dates.specs.Dates.{Civil, date_at, date_text, day_written, end_written, in_digits, number_to_read, written}
use Rattle.nf_dates.proofs.Days.{IsDay, is_day, only_text}

-- ---- digits

same_pads : (n m : ℕ) → n / 10 ≡ m / 10 → n % 10 ≡ m % 10 → n ≡ m
same_pads n m tens ones = omega (arith, div-add-mod' n 10, div-add-mod' m 10)

same_years : (n m : ℕ) → n / 100 ≡ m / 100 → n % 100 ≡ m % 100 → n ≡ m
same_years n m hundreds ones = omega (arith, div-add-mod' n 100, div-add-mod' m 100)

-- the byte at a place
at_place : (i n m : ℕ) (a b : List ℕ) → a ≡ b → get_or a i 0 ≡ 48 + n → get_or b i 0 ≡ 48 + m → n ≡ m
at_place i n m a b e one other =
    let same : get_or a i 0 ≡ get_or b i 0 = ap (λ (l : List ℕ). get_or l i 0) e in omega (arith, same, one, other)

record IsSame (a b : Civil) : Type 0 where
  year : a.year ≡ b.year
  month : a.month ≡ b.month
  day : a.day ≡ b.day

same_written : (a b : Civil) → written a ≡ written b → IsSame a b
same_written a b e = record {
  year = same_years _ _
      (same_pads _ _ (at_place 0 _ _ (written a) (written b) e refl refl) (at_place 1 _ _ (written a) (written b) e refl refl))
      (same_pads _ _ (at_place 2 _ _ (written a) (written b) e refl refl) (at_place 3 _ _ (written a) (written b) e refl refl));
  month = same_pads _ _ (at_place 5 _ _ (written a) (written b) e refl refl) (at_place 6 _ _ (written a) (written b) e refl refl);
  day = same_pads _ _ (at_place 8 _ _ (written a) (written b) e refl refl) (at_place 9 _ _ (written a) (written b) e refl refl);
}

-- ---- one day

same_day : (j k : ℕ) → j ≤ 2932896 → k ≤ 2932896 → date_text j ≡ date_text k → j ≡ k
unfolding date_text
same_day j k few many e =
    let same : IsSame (date_at j) (date_at k) = same_written (date_at j) (date_at k) e in
    let one = (is_day j few).number in
    let other : days_from_civil (pos (date_at j).year) (date_at j).month (date_at j).day ≡ pos k =
    rw (same.year, same.month, same.day) (is_day k many).number in
    let is : pos j ≡ pos k = sym one ∙ other in
    omega (arith, signed_arith, is)

not_this : (n k : ℕ) (text : List ℕ) → bytes_eq (date_text n) text ≡ false → date_text k ≡ text → k ≡ n → ⊥
not_this n k text e is same =
    let there : date_text n ≡ text = rw same at is in false≢true (sym e ∙ (bytes_eq-Decides (date_text n) text).1 there)

pub first_written : (n k : ℕ) (text : List ℕ) → k < n → n ≤ 2932897 → date_text k ≡ text → day_written n text ≡ Some k
unfolding day_written
first_written zero k text below few is = absurd (omega arith)
first_written (suc n) k text below few is =
    here (λ lower. first_written n k text lower (omega arith) is) (bytes_eq (date_text n) text) refl
  where
    lower : (k ≡ n → ⊥) → k < n
    lower other = omega (arith, other)

    here : (k < n → day_written n text ≡ Some k) → (test : Bool) → bytes_eq (date_text n) text ≡ test → (if test then Some n else day_written n text) ≡ Some k
    here more true e = ap Some (same_day n k (omega arith) (omega arith) ((bytes_eq-Decides (date_text n) text).0 e ∙ sym is))
    here more false e = more (lower (not_this n k text e is))

pub never_written : (n : ℕ) (text : List ℕ) → ((k : ℕ) → k < n → date_text k ≡ text → ⊥) → day_written n text ≡ None
unfolding day_written
never_written zero text never = refl
never_written (suc n) text never =
    here (never_written n text (λ k below is. never k (omega arith) is)) (bytes_eq (date_text n) text) refl
  where
    here : day_written n text ≡ None → (test : Bool) → bytes_eq (date_text n) text ≡ test → (if test then Some n else day_written n text) ≡ None
    here more true e = absurd (never n (omega arith) ((bytes_eq-Decides (date_text n) text).0 e))
    here more false e = more

-- ---- what is read

abbrev in_civil : ℕ → ℕ → ℕ → ℕ → Civil
in_civil century year month day = record { year = century * 100 + year; month = month; day = day }

digits_written : (c y m d : ℕ) → y < 100 → in_digits c y m d ≡ written (in_civil c y m d)
digits_written c y m d small = rw (div-mul-add c 100 y small, mod-mul-add c 100 y small) refl

-- a day of that date has its parts
same_parts : (k c y m d : ℕ) → y < 100 → date_text k ≡ in_digits c y m d → IsSame (date_at k) (in_civil c y m d)
unfolding date_text
same_parts k c y m d small is = same_written (date_at k) (in_civil c y m d) (is ∙ digits_written c y m d small)

pub day_of_parts : (k c y m d : ℕ) → y < 100 → k ≤ 2932896 → date_text k ≡ in_digits c y m d → IsDay k (in_civil c y m d)
day_of_parts k c y m d small few is =
    let same = same_parts k c y m d small is in
    let day = is_day k few in
    record {
      early = rw same.year at day.early;
      month_from = rw same.month at day.month_from;
      month_to = rw same.month at day.month_to;
      day_from = rw same.day at day.day_from;
      day_to = rw (same.year, same.month, same.day) at day.day_to;
      number = rw (same.year, same.month, same.day) at day.number;
    }

-- a date of the calendar is written so
pub text_of_parts : (n c y m d : ℕ) (date : Date) → y < 100 → n ≤ 2932896 → epoch_day date ≡ pos n
    → date.year ≡ pos (c * 100 + y) → date.month ≡ m → date.day ≡ d → date_text n ≡ in_digits c y m d
text_of_parts n c y m d date small few is year month day =
    let text = only_text n date few is in
    sym (digits_written c y m d small ∙ (rw (year, month, day) at text))

pub day_read : (c y m d : ℕ) (date : Date) → y < 100 → date.year ≡ pos (c * 100 + y) → date.month ≡ m → date.day ≡ d
    → number_to_read (epoch_day date) ≡ day_written 2932532 (in_digits c y m d)
day_read c y m d date small year month day = here (epoch_day date) refl
  where
    -- a day of those parts has that number
    number : (n : ℕ) → n < 2932532 → date_text n ≡ in_digits c y m d → epoch_day date ≡ pos n
    number n few is = let there = day_of_parts n c y m d small (omega arith) is in rw (year, month, day) there.number

    early : (n : ℕ) → epoch_day date ≡ pos n → (test : Bool) → nat_le n 2932531 ≡ test
        → (if test then Some n else None) ≡ day_written 2932532 (in_digits c y m d)
    early n is true e =
        let few : n ≤ 2932531 = grind (arith, nat_tests) in
        sym (first_written 2932532 n (in_digits c y m d) (omega arith) (omega arith) (text_of_parts n c y m d date small (omega arith) is year month day))
    early n is false e =
        let late : 2932532 ≤ n = grind (arith, nat_tests) in
        sym (never_written 2932532 (in_digits c y m d) (λ k few there.
        let same : pos k ≡ pos n = sym (number k few there) ∙ is in absurd (omega (arith, signed_arith, same, late, few))))

    here : (z : ℤ) → epoch_day date ≡ z → number_to_read z ≡ day_written 2932532 (in_digits c y m d)
    here (pos n) is = early n is (nat_le n 2932531) refl
    here (negsuc n) is =
        sym (never_written 2932532 (in_digits c y m d) (λ k few there.
        let same : pos k ≡ negsuc n = sym (number k few there) ∙ is in absurd (omega (arith, signed_arith, same))))

-- the same date by signed numbers
same_date : (c y m d : ℕ) (year month day : ℤ) → pos (c * 100 + y) ≡ year → pos m ≡ month → pos d ≡ day
    → IsDate (pos (c * 100 + y)) (pos m) (pos d) → IsDate year month day
same_date c y m d year month day one two three is =
    subst (λ d. IsDate year month d) three (subst (λ m. IsDate year m (pos d)) two (subst (λ y. IsDate y (pos m) (pos d)) one is))

-- parts that the calendar doesn't have are no date
pub no_day : (c y m d : ℕ) (year month day : ℤ) → pos (c * 100 + y) ≡ year → pos m ≡ month → pos d ≡ day
    → y < 100 → (IsDate year month day → false ≡ true) → None ≡ day_written 2932532 (in_digits c y m d)
no_day c y m d year month day one two three small none = sym (never_written 2932532 (in_digits c y m d) (λ k few there.
    let is = day_of_parts k c y m d small (omega arith) there in
    false≢true (none (same_date c y m d year month day one two three (
      (omega (arith, signed_arith), omega (arith, signed_arith, is.early)),
      (omega (arith, signed_arith, is.month_from), omega (arith, signed_arith, is.month_to)),
      (omega (arith, signed_arith, is.day_from), omega (arith, signed_arith, is.day_to)),
    )))))

-- ---- the bytes of a date

-- the bytes of a text at their places
abbrev pub at : List ℕ → ℕ → ℕ
at text i = get_or text i 0

-- a text is laid out as a date, of those pairs of digits
pub record IsLaid (text : List ℕ) (c y m d : ℕ) : Type 0 where
  pub long : length text ≡ 10
  pub dash : at text 4 ≡ 45
  pub other : at text 7 ≡ 45
  pub century : pad2 c ≡ at text 0 ∷ at text 1 ∷ []
  pub year : pad2 y ≡ at text 2 ∷ at text 3 ∷ []
  pub month : pad2 m ≡ at text 5 ∷ at text 6 ∷ []
  pub day : pad2 d ≡ at text 8 ∷ at text 9 ∷ []
  pub few_centuries : c < 100
  pub few_years : y < 100
  pub few_months : m < 100
  pub few_days : d < 100

laid : (k : ℕ) → k ≤ 2932896 → IsLaid (date_text k) ((date_at k).year / 100) ((date_at k).year % 100) (date_at k).month (date_at k).day
unfolding date_text
laid k few =
    let is = is_day k few in
    let days : days_in_month (pos (date_at k).year) (date_at k).month ≤ 31 = (days_in_month_bounds (pos (date_at k).year) (date_at k).month).0 in
    record {
      long = refl;
      dash = refl;
      other = refl;
      century = refl;
      year = refl;
      month = refl;
      day = refl;
      few_centuries = omega (arith, is.early);
      few_years = omega arith;
      few_months = omega (arith, is.month_to);
      few_days = omega (arith, is.day_to, days);
    }

-- what isn't laid out so is no date
pub unlaid : (text : List ℕ) → ((c y m d : ℕ) → IsLaid text c y m d → ⊥) → None ≡ day_written 2932532 text
unlaid text never = sym (never_written 2932532 text (λ k few is.
    never _ _ _ _ (subst (λ text. IsLaid text ((date_at k).year / 100) ((date_at k).year % 100) (date_at k).month (date_at k).day) is (laid k (omega arith)))))

bytes : ℕ → ℕ → List ℕ → List ℕ
bytes i zero text = []
bytes i (suc n) text = at text i ∷ bytes (i + 1) n text

all_bytes : (n i : ℕ) (text : List ℕ) → length text ≡ i + n → drop i text ≡ bytes i n text
unfolding bytes
all_bytes zero i text long = drop_all i text (omega arith)
all_bytes (suc n) i text long =
    drop_more text i 0 (omega arith) ∙ ap (λ (more : List ℕ). at text i ∷ more) (all_bytes n (i + 1) text (omega arith))

ten_bytes : (text : List ℕ) → length text ≡ 10
    → text ≡ at text 0 ∷ at text 1 ∷ at text 2 ∷ at text 3 ∷ at text 4 ∷ at text 5 ∷ at text 6 ∷ at text 7 ∷ at text 8 ∷ at text 9 ∷ []
unfolding bytes
ten_bytes text long = all_bytes 10 0 text long

joined : (text c y m d : List ℕ) → length text ≡ 10 → at text 4 ≡ 45 → at text 7 ≡ 45
    → c ≡ at text 0 ∷ at text 1 ∷ [] → y ≡ at text 2 ∷ at text 3 ∷ [] → m ≡ at text 5 ∷ at text 6 ∷ [] → d ≡ at text 8 ∷ at text 9 ∷ []
    → c ++ y ++ 45 ∷ m ++ 45 ∷ d ≡ text
joined text c y m d long dash other one two three four =
    rw (one, two, three, four) (sym (ten_bytes text long ∙ rw (dash, other) refl))

-- and a text that is laid out so is those digits
pub in_whole : (text : List ℕ) (c y m d : ℕ) → length text ≡ 10 → at text 4 ≡ 45 → at text 7 ≡ 45
    → pad2 c ≡ at text 0 ∷ at text 1 ∷ [] → pad2 y ≡ at text 2 ∷ at text 3 ∷ [] → pad2 m ≡ at text 5 ∷ at text 6 ∷ []
    → pad2 d ≡ at text 8 ∷ at text 9 ∷ [] → in_digits c y m d ≡ text
in_whole text c y m d long dash other one two three four =
    joined text (pad2 c) (pad2 y) (pad2 m) (pad2 d) long dash other one two three four

-- ---- a day that is found

-- it is one of those that were looked at, and is written so
pub is_written : (n : ℕ) (text : List ℕ) → IfSome (day_written n text) (λ (k : ℕ). (k < n) × (date_text k ≡ text))
unfolding day_written
is_written zero text = tt
is_written (suc n) text = here (is_written n text) (bytes_eq (date_text n) text) refl
  where
    more : (found : Option ℕ) → IfSome found (λ (k : ℕ). (k < n) × (date_text k ≡ text)) → IfSome found (λ (k : ℕ). (k < suc n) × (date_text k ≡ text))
    more None is = tt
    more (Some k) is = let below : k < suc n = omega (arith, is.0) in (below, is.1)

    here : IfSome (day_written n text) (λ (k : ℕ). (k < n) × (date_text k ≡ text)) → (test : Bool) → bytes_eq (date_text n) text ≡ test
        → IfSome (if test then Some n else day_written n text) (λ (k : ℕ). (k < suc n) × (date_text k ≡ text))
    here is true e = let below : n < suc n = omega arith in (below, (bytes_eq-Decides (date_text n) text).0 e)
    here is false e = more (day_written n text) is

-- an end that is read is a midnight, the last that of 9999-01-01
pub end_bounds : (text : List ℕ) → IfSome (end_written text) (λ (end : ℕ). (0 < end) × (end % 86400 ≡ 0) × (end ≤ 253370764800))
end_bounds text = here (day_written 2932532 text) (is_written 2932532 text)
  where
    here : (found : Option ℕ) → IfSome found (λ (k : ℕ). (k < 2932532) × (date_text k ≡ text))
        → IfSome (option_map (λ day. (day + 1) * 86400) found) (λ (end : ℕ). (0 < end) × (end % 86400 ≡ 0) × (end ≤ 253370764800))
    here None is = tt
    here (Some k) is =
        let early : 0 < (k + 1) * 86400 = omega arith in
        let late : (k + 1) * 86400 ≤ 253370764800 = omega (arith, is.0) in
        let even : (k + 1) * 86400 % 86400 ≡ 0 = omega arith in
        (early, even, late)
