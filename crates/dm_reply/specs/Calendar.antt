-- Times as a user reads them. A day is named by counting on from the first of January 1970, one day after another: nothing
-- here is the arithmetic that a program finds a date by.
use Rattle.std.specs.Prelude.{ℕ, zero, suc, ◌-◌, ◌/◌, ◌%◌, nat_lt, nat_le, if◌then◌else◌, pos, List, ◌++◌, length, codes, decimal, replicate}
use Rattle.jiff_core.specs.Calendar.{days_in_month}

-- a day of the calendar
pub record Day : Type 0 where
  pub year : ℕ
  pub month : ℕ
  pub day : ℕ

-- the day after a day
abbrev pub day_after : Day → Day
day_after d =
    if nat_lt d.day (days_in_month (pos d.year) d.month) then record d { day = suc d.day }
    else (if nat_lt d.month 12 then record { year = d.year; month = suc d.month; day = 1 }
    else record { year = suc d.year; month = 1; day = 1 })

-- the day that so many days after the first of January 1970 is
unfoldable pub calendar_day : ℕ → Day
calendar_day zero = record { year = 1970; month = 1; day = 1 }
calendar_day (suc n) = day_after (calendar_day n)

abbrev pub seconds_in_day : ℕ
seconds_in_day = 86400

-- the last second that has a date here: that of the year 9998
abbrev pub last_dated_second : ℕ
last_dated_second = 253370764799

-- a text, right in so many places, with this byte (32 a space, 48 a zero) before it
abbrev pub right_in : ℕ → ℕ → List ℕ → List ℕ
right_in filler places text = replicate (places - length text) filler ++ text

-- a number of so many digits, with zeros before it
abbrev pub digits_of : ℕ → ℕ → List ℕ
digits_of places number = right_in 48 places (decimal number)

-- `YYYY-MM-DD`
abbrev pub date_text : Day → List ℕ
date_text d = digits_of 4 d.year ++ codes "-" ++ digits_of 2 d.month ++ codes "-" ++ digits_of 2 d.day

-- `hh:mm:ss`
abbrev pub clock_text : ℕ → ℕ → ℕ → List ℕ
clock_text hour minute second = digits_of 2 hour ++ codes ":" ++ digits_of 2 minute ++ codes ":" ++ digits_of 2 second

-- the time of the day that so many seconds after midnight is
abbrev pub time_of_day_text : ℕ → List ℕ
time_of_day_text s = clock_text (s / 3600) (s / 60 % 60) (s % 60)

-- `YYYY-MM-DDThh:mm:ssZ`, in UTC
abbrev pub moment_text : ℕ → List ℕ
moment_text s = date_text (calendar_day (s / seconds_in_day)) ++ codes "T" ++ time_of_day_text (s % seconds_in_day) ++ codes "Z"

-- the date and the time of the day, or the number of the second where it is beyond the last that has a date
abbrev pub time_text : ℕ → List ℕ
time_text s = if nat_le s last_dated_second then moment_text s else decimal s ++ codes "s"
