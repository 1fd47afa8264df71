-- Days as dates (ISO 8601, section 5.2.2.1), by the proleptic Gregorian calendar.
use Rattle.std.specs.Prelude.{◌≡◌, ℕ, zero, suc, ◌+◌, ◌-◌, ◌*◌, ◌/◌, ◌<◌, nat_lt, nat_le, List, [], ◌∷◌, ◌++◌, bytes_eq, codes, Option, None, Some, option_map, ℤ, pos, negsuc, if◌then◌else◌}
use Rattle.jiff_core.specs.Calendar.{days_in_month}
use Rattle.jiff_fmt.specs.Text.{pad2, pad4}

pub record Civil : Type 0 where
  pub year : ℕ
  pub month : ℕ
  pub day : ℕ

-- the day after a day
abbrev pub next_day : Civil → Civil
next_day date =
    if nat_lt date.day (days_in_month (pos date.year) date.month) then record date { day = date.day + 1 }
    else if nat_lt date.month 12 then record { year = date.year; month = date.month + 1; day = 1 }
    else record { year = date.year + 1; month = 1; day = 1 }

-- the day that many days after 1970-01-01
unfoldable pub date_at : ℕ → Civil
date_at zero = record { year = 1970; month = 1; day = 1 }
date_at (suc n) = next_day (date_at n)

-- `YYYY-MM-DD`
abbrev pub written : Civil → List ℕ
written date = pad4 date.year ++ codes "-" ++ pad2 date.month ++ codes "-" ++ pad2 date.day

unfoldable pub date_text : ℕ → List ℕ
date_text n = written (date_at n)

-- the last day before an end, which is at the begin of a day
abbrev pub end_day : ℕ → ℕ
end_day end = end / 86400 - 1

-- its date, to 9999-12-31
abbrev pub end_date : ℕ → Option (List ℕ)
end_date end = if nat_le (end_day end) 2932896 then Some (date_text (end_day end)) else None

-- ---- reading

-- which of the first n days a text is the date of
unfoldable pub day_written : ℕ → List ℕ → Option ℕ
day_written zero text = None
day_written (suc n) text = if bytes_eq (date_text n) text then Some n else day_written n text

-- the midnight after the day that a text is the date of, to 9998-12-31
abbrev pub end_written : List ℕ → Option ℕ
end_written text = option_map (λ day. (day + 1) * 86400) (day_written 2932532 text)

-- two digits are read as the number below 100 that is written so
abbrev pub ReadsPair : ℕ → ℕ → Option ℕ → Type 0
ReadsPair tens ones (Some n) = (n < 100) × (pad2 n ≡ tens ∷ ones ∷ [])
ReadsPair tens ones None = (n : ℕ) → n < 100 → pad2 n ≡ tens ∷ ones ∷ [] → ⊥

-- a date by the pairs of its digits
abbrev pub in_digits : ℕ → ℕ → ℕ → ℕ → List ℕ
in_digits century year month day = pad2 century ++ pad2 year ++ codes "-" ++ pad2 month ++ codes "-" ++ pad2 day

-- the number of a day to 9998-12-31
abbrev pub number_to_read : ℤ → Option ℕ
number_to_read (pos n) = if nat_le n 2932531 then Some n else None
number_to_read (negsuc n) = None
