-- The day that many days after 1970-01-01 has that day number.
use Rattle.std.proofs.Common.{◌≡◌, ◌∙◌, ℕ, zero, suc, ◌+◌, ◌≤◌, Bool, true, false, nat_lt, [], ◌∷◌, ◌++◌, refl, sym, arith, ℤ, pos, neg_ℤ, ◌+ℤ◌, ◌≤ℤ◌, if◌then◌else◌}
use Rattle.std.proofs.lemmas.Bool.Decides.{nat_tests}
use Rattle.jiff_core.proofs.SignedLemmas.{signed_arith}
use Rattle.jiff_core.proofs.CalendarLemmas.{day_count-epoch, days_from_civil-day_count, days_in_month_bounds}
use Rattle.jiff_core.proofs.DateLemmas.{epoch_day_injective, days_from_civil-day, days_from_civil-next_month, days_from_civil-next_year, days_from_civil-max}
use Rattle.jiff_core.specs.Calendar.{days_from_civil, days_in_month}
use Rattle.jiff_core.specs.Date.{epoch_day}
use Rattle.jiff_core.specs.declared.civil.date.Date.{Date}
use Rattle.jiff_fmt.specs.Text.{pad2, year_text}
use Rattle.nf_dates.specs.Dates.{Civil, date_at, date_text, next_day}

-- the date is of the calendar, and has that day number
pub record IsDay (n : ℕ) (date : Civil) : Type 0 where
  pub early : date.year ≤ 9999
  pub month_from : 1 ≤ date.month
  pub month_to : date.month ≤ 12
  pub day_from : 1 ≤ date.day
  pub day_to : date.day ≤ days_in_month (pos date.year) date.month
  pub number : days_from_civil (pos date.year) date.month date.day ≡ pos n

-- ---- the day after

same_month : (n y m d : ℕ) → 1 ≤ d → days_from_civil (pos y) m d ≡ pos n → days_from_civil (pos y) m (d + 1) ≡ pos (suc n)
same_month n y m d one is =
    let step = days_from_civil-day (pos y) m d (d + 1) one (omega arith) in omega (arith, signed_arith, step, is)

next_month : (n y m d : ℕ) → 1 ≤ m → d ≡ days_in_month (pos y) m → days_from_civil (pos y) m d ≡ pos n
    → days_from_civil (pos y) (m + 1) 1 ≡ pos (suc n)
next_month n y m d one last is =
    let step = days_from_civil-next_month (pos y) m d one last in omega (arith, signed_arith, step, is)

next_year : (n y : ℕ) → days_from_civil (pos y) 12 31 ≡ pos n → days_from_civil (pos (y + 1)) 1 1 ≡ pos (suc n)
next_year n y is =
    let after : pos (y + 1) ≡ pos y +ℤ pos 1 = omega (arith, signed_arith) in
    let late : neg_ℤ (pos 10000) ≤ℤ pos y = omega (arith, signed_arith) in
    let step = days_from_civil-next_year (pos y) (pos (y + 1)) late after in
    omega (arith, signed_arith, step, is)

-- December has 31 days
december : (y m : ℕ) → m ≡ 12 → days_in_month (pos y) m ≡ 31
december y m is = rw is refl

lasts : (y m d : ℕ) → m ≡ 12 → d ≡ 31 → (n : ℕ) → days_from_civil (pos y) m d ≡ pos n → days_from_civil (pos y) 12 31 ≡ pos n
lasts y m d twelve last n is = rw (twelve, last) at is

not_last : (n y : ℕ) → y ≤ 9999 → suc n ≤ 2932896 → days_from_civil (pos y) 12 31 ≡ pos n → y ≤ 9998
not_last n y early few is = here (nat_lt y 9999) refl
  where
    here : (test : Bool) → nat_lt y 9999 ≡ test → y ≤ 9998
    here true e = grind (arith, nat_tests)
    here false e =
        let last : y ≡ 9999 = grind (arith, nat_tests, early) in
        let there : days_from_civil (pos 9999) 12 31 ≡ pos n = rw last at is in
        let same : pos n ≡ pos 2932896 = sym there ∙ days_from_civil-max in
        absurd (omega (arith, signed_arith, same, few))

later : (n : ℕ) (date : Civil) → suc n ≤ 2932896 → IsDay n date → IsDay (suc n) (next_day date)
later n date few day = here (nat_lt date.day (days_in_month (pos date.year) date.month)) refl
  where
    there : date.day ≡ days_in_month (pos date.year) date.month → (test : Bool) → nat_lt date.month 12 ≡ test
        → IsDay (suc n)
        (if test then record { year = date.year; month = date.month + 1; day = 1 } else record { year = date.year + 1; month = 1; day = 1 })
    there last true e = record {
      early = day.early;
      month_from = omega arith;
      month_to = grind (arith, nat_tests);
      day_from = omega arith;
      day_to = omega (arith, (days_in_month_bounds (pos date.year) (date.month + 1)).1);
      number = next_month n date.year date.month date.day day.month_from last day.number;
    }
    there last false e =
        let twelve : date.month ≡ 12 = grind (arith, nat_tests, day.month_to) in
        let is = lasts date.year date.month date.day twelve (last ∙ december date.year date.month twelve) n day.number in
        let year : date.year ≤ 9998 = not_last n date.year day.early few is in
        record {
          early = omega (arith, year);
          month_from = omega arith;
          month_to = omega arith;
          day_from = omega arith;
          day_to = omega (arith, (days_in_month_bounds (pos (date.year + 1)) 1).1);
          number = next_year n date.year is;
        }

    here : (test : Bool) → nat_lt date.day (days_in_month (pos date.year) date.month) ≡ test
        → IsDay (suc n)
        (if test then record date { day = date.day + 1 }
        else if nat_lt date.month 12 then record { year = date.year; month = date.month + 1; day = 1 }
        else record { year = date.year + 1; month = 1; day = 1 })
    here true e = record {
      early = day.early;
      month_from = day.month_from;
      month_to = day.month_to;
      day_from = omega arith;
      day_to = grind (arith, nat_tests);
      number = same_month n date.year date.month date.day day.day_from day.number;
    }
    here false e = there (grind (arith, nat_tests, day.day_to)) (nat_lt date.month 12) refl

-- ---- each day

pub is_day : (n : ℕ) → n ≤ 2932896 → IsDay n (date_at n)
unfolding date_at
is_day zero few = record {
  early = omega arith;
  month_from = omega arith;
  month_to = omega arith;
  day_from = omega arith;
  day_to = omega (arith, (days_in_month_bounds (pos 1970) 1).1);
  number = omega (arith, signed_arith, days_from_civil-day_count (pos 1970) 1 1, day_count-epoch);
}
is_day (suc n) few = later n (date_at n) few (is_day n (omega (arith, few)))

only_day : (n : ℕ) (date : Date) → n ≤ 2932896 → epoch_day date ≡ pos n
    → (date.year ≡ pos (date_at n).year) × (date.month ≡ (date_at n).month) × (date.day ≡ (date_at n).day)
only_day n date few is = epoch_day_injective date other (is ∙ sym day.number)
  where
    day : IsDay n (date_at n)
    day = is_day n few

    other : Date
    other = record {
      year = pos (date_at n).year;
      month = (date_at n).month;
      day = (date_at n).day;
      year_in = (omega (arith, signed_arith), omega (arith, signed_arith, day.early));
      month_in = (day.month_from, day.month_to);
      day_in = (day.day_from, day.day_to);
    }

same_text : (n : ℕ) (y : ℤ) (m d : ℕ) → (y ≡ pos (date_at n).year) × (m ≡ (date_at n).month) × (d ≡ (date_at n).day)
    → year_text y ++ 45 ∷ [] ++ pad2 m ++ 45 ∷ [] ++ pad2 d ≡ date_text n
unfolding date_text
same_text n y m d same = rw (same.0, same.1, same.2) refl

-- the date with that day number is written so
pub only_text : (n : ℕ) (date : Date) → n ≤ 2932896 → epoch_day date ≡ pos n
    → year_text date.year ++ 45 ∷ [] ++ pad2 date.month ++ 45 ∷ [] ++ pad2 date.day ≡ date_text n
only_text n date few is = same_text n date.year date.month date.day (only_day n date few is)
