-- The year, the month and the day that a text counts out are those of the date with that day number; what jiff prints
-- of a moment is that text.
use Rattle.std.proofs.Common.{◌≡◌, ℕ, zero, suc, ◌+◌, ◌/◌, ◌%◌, ◌<◌, ◌≤◌, Bool, true, false, cond, List, ◌∷◌, ◌++◌, None, append_assoc, refl, sym, ap, ◌∙◌, arith, ℤ, pos, negsuc, ◌*ℤ◌, ◌<ℤ◌, ◌≤ℤ◌, unsigned_abs, int_le, inl, inr}
use Rattle.std.specs.Prelude.{codes}
use Rattle.std.specs.List.{count_by, range_with_len}
use Rattle.std.proofs.lemmas.List.Sums.{sum_by-cons}
use Rattle.std.proofs.lemmas.Bool.{cases_lt}
use Rattle.std.proofs.lemmas.Int.{by_lt_z, ints}
use Rattle.jiff_core.specs.Calendar.{day_count, days_from_civil}
use Rattle.jiff_core.specs.Time.{time_seconds}
use Rattle.jiff_core.specs.declared.civil.time.Time.{Time}
use Rattle.jiff_core.specs.declared.timestamp.Timestamp.{Timestamp}
use Rattle.jiff_core.proofs.DateTimeLemmas.{civil_nanos-parts}
use Rattle.jiff_fmt.specs.declared.temporal.printer.DateTimePrinter.{DateTimePrinter}
use Rattle.jiff_fmt.specs.Printer.{options, IsTimestampText}
use Rattle.jiff_fmt.specs.Text.{time_text, year_text, zulu_text}
use Rattle.jiff_fmt.specs.Text as printed
use Rattle.jiff_core.specs.Date.{epoch_day}
use Rattle.jiff_core.specs.declared.civil.date.Date.{Date}
use Rattle.jiff_core.proofs.SignedLemmas.{signed_arith}
use Rattle.jiff_core.proofs.MarchLemmas.{day_count-early}
use Rattle.jiff_core.proofs.CalendarLemmas.{day_count-epoch, days_in_month_bounds, days_from_civil-day_count, day_count-lt_year, day_count-lt_month, day_count-later_year, day_count-day, day_count-day_of_year}
use Rattle.jiff_core.proofs.DateLemmas.{civil, days_from_civil-day}
use Rattle.wu_core.specs.Limits.{last_deadline}
use Rattle.wu_report.specs.Texts.{year_of_day, month_of_day, day_of_month, date_text, clock_text, moment_text, four_digits, two_digits}

count_cons : (p : ℕ → Bool) (a n : ℕ) → count_by p (range_with_len a (suc n)) ≡ cond (p a) 1 0 + count_by p (range_with_len (a + 1) n)
count_cons p a n = sum_by-cons (λ x. cond (p x) 1 0) a (range_with_len (a + 1) n)

-- none of the numbers from a on passes
count_none : (p : ℕ → Bool) (a n : ℕ) → ((k : ℕ) → a ≤ k → k < a + n → p k ≡ false) → count_by p (range_with_len a n) ≡ 0
count_none p a zero h = refl
count_none p a (suc n) h =
    let here : p a ≡ false = h a (omega arith) (omega arith) in
    let rest = count_none p (a + 1) n (λ k low high. h k (omega arith) (omega arith)) in
    count_cons p a n ∙ rw (here, rest) refl

-- the numbers from a up to `last` pass, and no later one
pub count_up_to : (p : ℕ → Bool) (a n last : ℕ) → a ≤ last + 1 → last < a + n
    → ((k : ℕ) → a ≤ k → k ≤ last → p k ≡ true)
    → ((k : ℕ) → last < k → k < a + n → p k ≡ false)
    → a + count_by p (range_with_len a n) ≡ last + 1
count_up_to p a zero last low high pass fail = omega arith
count_up_to p a (suc n) last low high pass fail =
    elim (cases_lt last a) [
      | inl past ↦
          let none = count_none p a (suc n) (λ k from to. fail k (omega arith) to) in
          omega (arith, none)
      | inr within ↦
          let here : p a ≡ true = pass a (omega arith) within in
          let rest = count_up_to p (a + 1) n last (omega arith) (omega arith) (λ k from to. pass k (omega arith) to) (λ k from to. fail k from (omega arith)) in
          omega (arith, count_cons p a n, ap {B = ℕ} (λ b. cond b 1 0) here, rest)
    ]

-- the day number of 1 January 2101
day_count-2101 : day_count (pos 2101) 1 1 ≡ 4_371_953 + 47_847
day_count-2101 = day_count-early (pos 2101) 12100 1 1 refl (omega arith) (omega arith) (omega arith)

int_le-true : (a b : ℤ) → a ≤ℤ b → int_le a b ≡ true
int_le-true a b h = grind (arith, ints)

int_le-false : (a b : ℤ) → b <ℤ a → int_le a b ≡ false
int_le-false a b h = grind (arith, ints)

-- whether a date's day number is at most that of another, by the days counted
starts_by : (day : ℕ) (y₂ : ℤ) (m₂ d₂ : ℕ) (d : Date) → epoch_day d ≡ pos day
    → day_count y₂ m₂ d₂ ≤ day_count d.year d.month d.day → int_le (days_from_civil y₂ m₂ d₂) (pos day) ≡ true
starts_by day y₂ m₂ d₂ d e h =
    int_le-true (days_from_civil y₂ m₂ d₂) (pos day) (omega (arith, signed_arith, days_from_civil-day_count y₂ m₂ d₂, days_from_civil-day_count d.year d.month d.day))

starts_after : (day : ℕ) (y₂ : ℤ) (m₂ d₂ : ℕ) (d : Date) → epoch_day d ≡ pos day
    → day_count d.year d.month d.day < day_count y₂ m₂ d₂ → int_le (days_from_civil y₂ m₂ d₂) (pos day) ≡ false
starts_after day y₂ m₂ d₂ d e h =
    int_le-false (days_from_civil y₂ m₂ d₂) (pos day) (omega (arith, signed_arith, days_from_civil-day_count y₂ m₂ d₂, days_from_civil-day_count d.year d.month d.day))

-- the first day of the date's year, and of each earlier one, is not after the date
year_begun : (d : Date) (k : ℕ) → pos k ≤ℤ d.year → day_count (pos k) 1 1 ≤ day_count d.year d.month d.day
year_begun d k h =
    by_lt_z (pos k) d.year
    (λ lt. omega (arith, day_count-later_year (pos k) d.year (omega (arith, signed_arith)) lt, day_count-day_of_year d.year d.month d.day d.day_in.0, civil d))
    (λ ge. let same : pos k ≡ d.year = omega (arith, signed_arith) in
    rw same (omega (arith, day_count-day_of_year d.year d.month d.day d.day_in.0, civil d)))

year_not_begun : (d : Date) (k : ℕ) → d.year <ℤ pos k → day_count d.year d.month d.day < day_count (pos k) 1 1
year_not_begun d k h = day_count-lt_year d.year d.month d.day (pos k) 1 1 (civil d) (omega arith) h

month_begun : (d : Date) (k : ℕ) → 1 ≤ k → k ≤ d.month → day_count d.year k 1 ≤ day_count d.year d.month d.day
month_begun d k low h =
    elim (cases_lt k d.month) [
      | inl lt ↦
          let long = days_in_month_bounds d.year k in
          omega (arith, day_count-lt_month d.year k 1 d.month d.day (d.year_in, (low, omega (arith, d.month_in)), (omega arith, omega arith)) d.day_in.0 lt)
      | inr ge ↦
          let same : k ≡ d.month = omega arith in
          rw same (omega (arith, day_count-day d.year d.month d.day 1 d.day_in.0 (omega arith), d.day_in.0))
    ]

month_not_begun : (d : Date) (k : ℕ) → d.month < k → day_count d.year d.month d.day < day_count d.year k 1
month_not_begun d k h = day_count-lt_month d.year d.month d.day k 1 (civil d) (omega arith) h

-- a day from 1970 to 2100 has a year from 1970 to 2100
year_range : (d : Date) (day : ℕ) → epoch_day d ≡ pos day → day ≤ 47_846 → (pos 1970 ≤ℤ d.year) × (d.year ≤ℤ pos 2100)
year_range d day e h =
    let counted = days_from_civil-day_count d.year d.month d.day in
    let low : pos 1970 ≤ℤ d.year = by_lt_z d.year (pos 1970)
    (λ lt. absurd (omega (arith, signed_arith, counted, year_not_begun d 1970 lt, day_count-epoch)))
    (λ ge. ge) in
    let high : d.year ≤ℤ pos 2100 = by_lt_z (pos 2100) d.year
    (λ gt. absurd (omega (arith, signed_arith, counted, year_begun d 2101 (omega (arith, signed_arith)), day_count-2101)))
    (λ le. le) in
    (low, high)

not_negative : (z : ℤ) → pos 0 ≤ℤ z → pos (unsigned_abs z) ≡ z
not_negative (pos n) h = refl
not_negative (negsuc n) h = absurd (omega (arith, signed_arith))

from_1970 : (z : ℤ) → pos 1970 ≤ℤ z → pos (unsigned_abs z) ≡ z
from_1970 z h = not_negative z (omega (arith, signed_arith))

one_less : (n counted last : ℕ) → suc n + counted ≡ last + 1 → n + counted ≡ last
one_less n counted last h = omega arith

from_one : (counted last : ℕ) → 1 + counted ≡ last + 1 → counted ≡ last
from_one counted last h = omega arith

year_counted : (d : Date) (day y : ℕ) → epoch_day d ≡ pos day → pos y ≡ d.year → 1970 ≤ y → y ≤ 2100
    → 1970 + count_by (λ year. int_le (days_from_civil (pos year) 1 1) (pos day)) (range_with_len 1970 131) ≡ y + 1
year_counted d day y e same low high =
    count_up_to (λ year. int_le (days_from_civil (pos year) 1 1) (pos day)) 1970 131 y (omega arith) (omega arith)
    (λ k from to. starts_by day (pos k) 1 1 d e (year_begun d k (omega (arith, signed_arith))))
    (λ k from to. starts_after day (pos k) 1 1 d e (year_not_begun d k (omega (arith, signed_arith))))

year_of_day-is : (d : Date) (day : ℕ) → epoch_day d ≡ pos day → day ≤ 47_846 → year_of_day day ≡ unsigned_abs d.year
unfolding year_of_day
year_of_day-is d day e h =
    let range = year_range d day e h in
    let same = from_1970 d.year range.0 in
    one_less 1969 _ _ (year_counted d day (unsigned_abs d.year) e same (omega (arith, signed_arith)) (omega (arith, signed_arith)))

month_counted : (d : Date) (day : ℕ) → epoch_day d ≡ pos day
    → 1 + count_by (λ month. int_le (days_from_civil d.year month 1) (pos day)) (range_with_len 1 12) ≡ d.month + 1
month_counted d day e =
    count_up_to (λ month. int_le (days_from_civil d.year month 1) (pos day)) 1 12 d.month (omega arith) (omega (arith, d.month_in))
    (λ k from to. starts_by day d.year k 1 d e (month_begun d k from to))
    (λ k from to. starts_after day d.year k 1 d e (month_not_begun d k from))

month_of_day-is : (d : Date) (day : ℕ) → epoch_day d ≡ pos day → pos (unsigned_abs d.year) ≡ d.year → month_of_day (unsigned_abs d.year) day ≡ d.month
unfolding month_of_day
month_of_day-is d day e same =
    ap (λ y. count_by (λ month. int_le (days_from_civil y month 1) (pos day)) (range_with_len 1 12)) same ∙ from_one _ _ (month_counted d day e)

-- the first day of a month from 1970 on has a day number
month_from_1970 : (d : Date) → pos 1970 ≤ℤ d.year → pos (unsigned_abs (days_from_civil d.year d.month 1)) ≡ days_from_civil d.year d.month 1
month_from_1970 d low =
    let start : day_count (pos 1970) 1 1 ≤ day_count d.year 1 1 = by_lt_z (pos 1970) d.year
    (λ lt. omega (arith, day_count-later_year (pos 1970) d.year (omega (arith, signed_arith)) lt))
    (λ le. let same : d.year ≡ pos 1970 = omega (arith, signed_arith) in rw same (omega arith)) in
    not_negative _ (omega (arith, signed_arith, days_from_civil-day_count d.year d.month 1, day_count-day_of_year d.year d.month 1 (omega arith), day_count-epoch))

day_of_month-is : (d : Date) (day : ℕ) → epoch_day d ≡ pos day → pos 1970 ≤ℤ d.year → pos (unsigned_abs d.year) ≡ d.year → day_of_month (unsigned_abs d.year) d.month day ≡ d.day
day_of_month-is d day e low same =
    let first = month_from_1970 d low in
    let moved = days_from_civil-day d.year d.month d.day 1 d.day_in.0 (omega arith) in
    rw same (omega (arith, signed_arith, d.day_in.0))

-- the text of the day is that of the date
pub date_text-is : (d : Date) (day : ℕ) → epoch_day d ≡ pos day → day ≤ 47_846
    → date_text day ≡ four_digits (unsigned_abs d.year) ++ codes "-" ++ two_digits d.month ++ codes "-" ++ two_digits d.day
date_text-is d day e h =
    let range = year_range d day e h in
    let same = from_1970 d.year range.0 in
    rw (year_of_day-is d day e h, month_of_day-is d day e same, day_of_month-is d day e range.0 same) refl

-- what jiff prints of the date, of a time of day without a fraction and of a moment is the same text
year_text-is : (year : ℤ) → pos 0 ≤ℤ year → year_text year ≡ four_digits (unsigned_abs year)
year_text-is (pos n) h = refl
year_text-is (negsuc n) h = absurd (omega (arith, signed_arith))

time_text-is : (t : Time) → t.subsec_nanosecond ≡ 0 → time_text None t ≡ clock_text (time_seconds t)
time_text-is t whole =
    let hour : t.hour ≡ time_seconds t / 3600 = omega (arith, t.minute_in, t.second_in) in
    let minute : t.minute ≡ time_seconds t / 60 % 60 = omega (arith, t.minute_in, t.second_in) in
    let second : t.second ≡ time_seconds t % 60 = omega (arith, t.second_in) in
    rw (whole, ← hour, ← minute, ← second) refl

joined : (date₁ date₂ clock₁ clock₂ : List ℕ) → date₁ ≡ date₂ → clock₁ ≡ clock₂
    → date₁ ++ 84 ∷ clock₁ ++ codes "Z" ≡ date₂ ++ codes "T" ++ clock₂ ++ codes "Z"
joined date₁ date₂ clock₁ clock₂ e1 e2 = rw (e1, e2) (simp append_assoc)

pub timestamp_text-is : (printer : DateTimePrinter) (t : Timestamp) (moment : ℕ) (text : List ℕ) → options printer ≡ (false, 84, None)
    → t.nanosecond ≡ pos moment *ℤ pos 1_000_000_000 → moment ≤ last_deadline → IsTimestampText printer t text → text ≡ moment_text moment
unfolding moment_text
timestamp_text-is printer t moment text plain at within (shown, same, is) =
    let time = shown.time in
    let parts = civil_nanos-parts shown in
    let day : epoch_day shown.date ≡ pos (moment / 86400) = omega (arith, signed_arith, parts, time.hour_in, time.minute_in, time.second_in, time.subsec_in) in
    let seconds : time_seconds time ≡ moment % 86400 = omega (arith, signed_arith, parts, time.hour_in, time.minute_in, time.second_in, time.subsec_in) in
    let whole : time.subsec_nanosecond ≡ 0 = omega (arith, signed_arith, parts, time.hour_in, time.minute_in, time.second_in, time.subsec_in) in
    let range = year_range shown.date (moment / 86400) day (omega arith) in
    let date_is : printed.date_text shown.date ≡ date_text (moment / 86400) =
    ap (λ year. year ++ codes "-" ++ two_digits shown.date.month ++ codes "-" ++ two_digits shown.date.day) (year_text-is shown.date.year (omega (arith, signed_arith, range.0)))
    ∙ sym (date_text-is shown.date (moment / 86400) day (omega arith)) in
    let time_is : time_text None time ≡ clock_text (moment % 86400) = time_text-is time whole ∙ ap clock_text seconds in
    is ∙ ap (λ o. printed.datetime_text o.0 o.1 o.2 shown ++ zulu_text o.0) plain
    ∙ joined (printed.date_text shown.date) (date_text (moment / 86400)) (time_text None time) (clock_text (moment % 86400)) date_is time_is
