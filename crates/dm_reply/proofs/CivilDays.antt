-- The day that counting from the first of January 1970 comes to is the one whose number `jiff` knows.
use Rattle.std.proofs.Common.{◌≡◌, ℕ, zero, suc, ◌+◌, ◌*◌, ◌/◌, ◌%◌, ◌<◌, ◌≤◌, nat_lt, cond, true, false, Bool, refl, ap, ◌∙◌, arith, ℤ, pos, ◌<ℤ◌, inl, inr, List, ◌++◌, append_assoc, codes, unsigned_abs}
use Rattle.std.proofs.lemmas.Bool.{cases_order, ltb-true, ltb-false}
use Rattle.std.proofs.lemmas.Int.{by_lt_z}
use Rattle.jiff_core.specs.declared.civil.date.Date.{Date}
use Rattle.jiff_core.specs.declared.civil.datetime.DateTime.{DateTime}
use Rattle.jiff_core.specs.Calendar.{day_count, days_from_civil, days_in_month, IsCivilDate, IsYear}
use Rattle.jiff_core.specs.Date.{epoch_day}
use Rattle.jiff_core.specs.DateTime.{civil_nanos}
use Rattle.jiff_core.proofs.SignedLemmas.{signed_arith}
use Rattle.jiff_core.proofs.CalendarLemmas.{days_from_civil-day_count, day_count-lt_year, day_count-lt_month, day_count-day, day_count-epoch, days_in_month_bounds}
use Rattle.jiff_core.proofs.DateLemmas.{civil, days_from_civil-day, days_from_civil-next_month, days_from_civil-next_year}
use Rattle.jiff_core.proofs.DateTimeLemmas.{civil_nanos-parts, time_nanos_bound}
use Rattle.jiff_core.specs.Time.{time_nanos}
use Rattle.dm_reply.specs.Calendar.{Day, calendar_day, day_after, seconds_in_day, date_text, clock_text, moment_text}

-- a day of the calendar from 1970 on, and its number
record IsDay (d : Day) (n : ℕ) : Type 0 where
  late : 1970 ≤ d.year
  month_low : 1 ≤ d.month
  month_high : d.month ≤ 12
  day_low : 1 ≤ d.day
  day_high : d.day ≤ days_in_month (pos d.year) d.month
  number : days_from_civil (pos d.year) d.month d.day ≡ pos n

first_number : days_from_civil (pos 1970) 1 1 ≡ pos 0
first_number = omega (arith, signed_arith, days_from_civil-day_count (pos 1970) 1 1, day_count-epoch)

first_day : IsDay (record { year = 1970; month = 1; day = 1 }) 0
first_day = record { late = omega arith; month_low = omega arith; month_high = omega arith; day_low = omega arith; day_high = omega (arith, (days_in_month_bounds (pos 1970) 1).1); number = first_number }

within_month : (y m d n : ℕ) → IsDay (record { year = y; month = m; day = d }) n → d < days_in_month (pos y) m → IsDay (record { year = y; month = m; day = suc d }) (suc n)
within_month y m d n h less = record {
  late = h.late;
  month_low = h.month_low;
  month_high = h.month_high;
  day_low = omega arith;
  day_high = omega arith;
  number = omega (arith, signed_arith, h.number, days_from_civil-day (pos y) m d (suc d) h.day_low (omega arith));
}

next_month : (y m d n : ℕ) → IsDay (record { year = y; month = m; day = d }) n → days_in_month (pos y) m ≤ d → m < 12 → IsDay (record { year = y; month = suc m; day = 1 }) (suc n)
next_month y m d n h last more =
    let e : d ≡ days_in_month (pos y) m = omega (arith, h.day_high) in
    let s : m + 1 ≡ suc m = omega arith in
    record {
      late = h.late;
      month_low = omega arith;
      month_high = omega arith;
      day_low = omega arith;
      day_high = omega (arith, (days_in_month_bounds (pos y) (suc m)).1);
      number = omega (arith, signed_arith, h.number, rw s at (days_from_civil-next_month (pos y) m d h.month_low e));
    }

next_year : (y m d n : ℕ) → IsDay (record { year = y; month = m; day = d }) n → days_in_month (pos y) m ≤ d → 12 ≤ m → IsDay (record { year = suc y; month = 1; day = 1 }) (suc n)
next_year y m d n h last late =
    let december : m ≡ 12 = omega (arith, h.month_high) in
    let long : days_in_month (pos y) m ≡ 31 = rw december refl in
    let day : d ≡ 31 = omega (arith, h.day_high) in
    let number : days_from_civil (pos y) 12 31 ≡ pos n = rw (december, day) at h.number in
    record {
      late = omega (arith, h.late);
      month_low = omega arith;
      month_high = omega arith;
      day_low = omega arith;
      day_high = omega (arith, (days_in_month_bounds (pos (suc y)) 1).1);
      number = omega (arith, signed_arith, number, days_from_civil-next_year (pos y) (pos (suc y)) (omega (arith, signed_arith)) (omega (arith, signed_arith)));
    }

chosen : (b c : Bool) (x y z : Day) (n : ℕ) → (b ≡ true → IsDay x n) → (b ≡ false → c ≡ true → IsDay y n) → (b ≡ false → c ≡ false → IsDay z n) → IsDay (cond b x (cond c y z)) n
chosen true c x y z n h k l = h refl
chosen false true x y z n h k l = k refl refl
chosen false false x y z n h k l = l refl refl

next_day : (d : Day) (n : ℕ) → IsDay d n → IsDay (day_after d) (suc n)
next_day d n h = chosen (nat_lt d.day (days_in_month (pos d.year) d.month)) (nat_lt d.month 12) _ _ _ (suc n)
    (λ more. within_month d.year d.month d.day n h (ltb-true _ _ more))
    (λ last more. next_month d.year d.month d.day n h (ltb-false _ _ last) (ltb-true _ _ more))
    (λ last late. next_year d.year d.month d.day n h (ltb-false _ _ last) (ltb-false _ _ late))

is_day : (n : ℕ) → IsDay (calendar_day n) n
unfolding calendar_day
is_day zero = first_day
is_day (suc n) = next_day (calendar_day n) n (is_day n)

-- two days of the calendar with one number are one day
count_is : (y : ℤ) (m d n : ℕ) → days_from_civil y m d ≡ pos n → day_count y m d ≡ 4371953 + n
count_is y m d n e = omega (arith, signed_arith, days_from_civil-day_count y m d, e)

same_year : (a : Date) (d : Day) (n : ℕ) → IsDay d n → a.year ≡ pos d.year → day_count a.year a.month a.day ≡ 4371953 + n → day_count (pos d.year) d.month d.day ≡ 4371953 + n → (a.year ≡ pos d.year) × (a.month ≡ d.month) × (a.day ≡ d.day)
same_year a d n h year ca cd =
    let here : day_count (pos d.year) a.month a.day ≡ 4371953 + n = rw year at ca in
    let is_civil : IsCivilDate (pos d.year) a.month a.day = rw year at (civil a) in
    elim (cases_order a.month d.month) [
      | inr (inl less) ↦ absurd (omega (arith, here, cd, day_count-lt_month (pos d.year) a.month a.day d.month d.day is_civil h.day_low less))
      | inl month ↦ (year, month, (let there : day_count (pos d.year) d.month a.day ≡ 4371953 + n = rw month at here in omega (arith, there, cd, day_count-day (pos d.year) d.month a.day d.day a.day_in.0 h.day_low)))
      | inr (inr more) ↦ absurd (omega (arith, here, cd, day_count-lt_month (pos d.year) d.month d.day a.month a.day (is_civil.0, (h.month_low, h.month_high), (h.day_low, h.day_high)) a.day_in.0 more))
    ]

late_year : {n : ℕ} (a : Date) (d : Day) → IsDay d n → pos d.year <ℤ a.year → IsYear (pos d.year)
late_year a d h more = omega (arith, signed_arith, a.year_in, h.late)

same_day : (a : Date) (d : Day) (n : ℕ) → IsDay d n → epoch_day a ≡ pos n → (a.year ≡ pos d.year) × (a.month ≡ d.month) × (a.day ≡ d.day)
same_day a d n h e =
    let ca : day_count a.year a.month a.day ≡ 4371953 + n = count_is _ _ _ n e in
    let cd : day_count (pos d.year) d.month d.day ≡ 4371953 + n = count_is _ _ _ n h.number in
    by_lt_z a.year (pos d.year)
    (λ less. absurd (omega (arith, ca, cd, day_count-lt_year _ _ _ (pos d.year) d.month d.day (civil a) h.day_low less)))
    (λ ge. by_lt_z (pos d.year) a.year
    (λ more. absurd (omega (arith, ca, cd, day_count-lt_year (pos d.year) d.month d.day a.year a.month a.day (late_year a d h more, (h.month_low, h.month_high), (h.day_low, h.day_high)) a.day_in.0 more)))
    (λ le. let year : a.year ≡ pos d.year = omega (arith, signed_arith) in same_year a d n h year ca cd))

-- what a date and time of the day show, where they are so many seconds after the first of January 1970
pub record Shows (moment : DateTime) (s : ℕ) : Type 0 where
  pub year : moment.date.year ≡ pos (calendar_day (s / seconds_in_day)).year
  pub month : moment.date.month ≡ (calendar_day (s / seconds_in_day)).month
  pub day : moment.date.day ≡ (calendar_day (s / seconds_in_day)).day
  pub hour : moment.time.hour ≡ s % seconds_in_day / 3600
  pub minute : moment.time.minute ≡ s % seconds_in_day / 60 % 60
  pub second : moment.time.second ≡ s % seconds_in_day % 60

pub shown : (moment : DateTime) (s : ℕ) → civil_nanos moment ≡ pos (s * 1000000000) → Shows moment s
shown moment s e =
    let within = time_nanos_bound moment.time in
    let parts = civil_nanos-parts moment in
    let day : epoch_day moment.date ≡ pos (s / 86400) = omega (arith, signed_arith, e, parts, within) in
    let time : time_nanos moment.time ≡ s % 86400 * 1000000000 = omega (arith, signed_arith, e, parts, within, day) in
    let date = same_day moment.date (calendar_day (s / 86400)) (s / 86400) (is_day (s / 86400)) day in
    record {
      year = date.0;
      month = date.1;
      day = date.2;
      hour = omega (arith, time, moment.time.minute_in, moment.time.second_in, moment.time.subsec_in);
      minute = omega (arith, time, moment.time.minute_in, moment.time.second_in, moment.time.subsec_in);
      second = omega (arith, time, moment.time.minute_in, moment.time.second_in, moment.time.subsec_in);
    }

-- what `jiff` shows is printed as the moment
pub shown_text : (moment : DateTime) (s : ℕ) → Shows moment s → (y m d h i z : ℕ)
    → y ≡ unsigned_abs moment.date.year → m ≡ unsigned_abs (pos moment.date.month) → d ≡ unsigned_abs (pos moment.date.day)
    → h ≡ unsigned_abs (pos moment.time.hour) → i ≡ unsigned_abs (pos moment.time.minute) → z ≡ unsigned_abs (pos moment.time.second)
    → date_text (record { year = y; month = m; day = d }) ++ codes "T" ++ clock_text h i z ++ codes "Z" ≡ moment_text s
shown_text moment s k y m d h i z ey em ed eh ei ez =
    let year : y ≡ (calendar_day (s / seconds_in_day)).year = ey ∙ ap unsigned_abs k.year in
    let month : m ≡ (calendar_day (s / seconds_in_day)).month = em ∙ k.month in
    let day : d ≡ (calendar_day (s / seconds_in_day)).day = ed ∙ k.day in
    let hour : h ≡ s % seconds_in_day / 3600 = eh ∙ k.hour in
    let minute : i ≡ s % seconds_in_day / 60 % 60 = ei ∙ k.minute in
    let second : z ≡ s % seconds_in_day % 60 = ez ∙ k.second in
    rw (year, month, day, hour, minute, second) refl

pub four_behind : (o a b c d : List ℕ) → o ++ a ++ b ++ c ++ d ≡ o ++ (a ++ b ++ c ++ d)
four_behind o a b c d = simp append_assoc
