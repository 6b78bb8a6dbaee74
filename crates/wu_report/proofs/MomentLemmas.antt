-- The text of a moment by its date, which is given: so no year is counted out.
use Rattle.std.proofs.Common.{◌≡◌, ℕ, ◌/◌, ◌%◌, ◌≤◌, ◌++◌, ap, arith, refl, rules, pos, unsigned_abs}
use Rattle.std.specs.Prelude.{codes}
use Rattle.jiff_core.specs.Calendar.{days_of_years, days_of_months, day_count, days_from_civil}
use Rattle.jiff_core.specs.Date.{epoch_day}
use Rattle.jiff_core.specs.declared.civil.date.Date.{Date}
use Rattle.wu_report.specs.Texts.{clock_text, four_digits, moment_text, two_digits}
use Rattle.wu_report.proofs.DayLemmas.{date_text-is}

-- the text of a moment on this date
pub moment_on : (d : Date) (moment : ℕ) → epoch_day d ≡ pos (moment / 86400) → moment / 86400 ≤ 47_846
    → moment_text moment
    ≡ (four_digits (unsigned_abs d.year) ++ codes "-" ++ two_digits d.month ++ codes "-" ++ two_digits d.day) ++ codes "T" ++ clock_text (moment % 86400) ++ codes "Z"
unfolding moment_text
moment_on d moment day within = ap (λ date. date ++ codes "T" ++ clock_text (moment % 86400) ++ codes "Z") (date_text-is d (moment / 86400) day within)

-- ---- the moments of the examples

abbrev epoch : Date
epoch = record { year = pos 1970; month = 1; day = 1; year_in = search rules; month_in = search rules; day_in = search rules }

pub first-text : moment_text 0 ≡ codes "1970-01-01T00:00:00Z"
unfolding days_from_civil day_count days_of_years days_of_months
first-text = moment_on epoch 0 refl (omega arith)

abbrev march_1 : Date
march_1 = record { year = pos 2026; month = 3; day = 1; year_in = search rules; month_in = search rules; day_in = search rules }

pub noon-text : moment_text 1772366400 ≡ codes "2026-03-01T12:00:00Z"
unfolding days_from_civil day_count days_of_years days_of_months
noon-text = moment_on march_1 1772366400 refl (omega arith)

pub sending-text : moment_text 1772370000 ≡ codes "2026-03-01T13:00:00Z"
unfolding days_from_civil day_count days_of_years days_of_months
sending-text = moment_on march_1 1772370000 refl (omega arith)

pub reporting-text : moment_text 1772373600 ≡ codes "2026-03-01T14:00:00Z"
unfolding days_from_civil day_count days_of_years days_of_months
reporting-text = moment_on march_1 1772373600 refl (omega arith)

abbrev march_2 : Date
march_2 = record { year = pos 2026; month = 3; day = 2; year_in = search rules; month_in = search rules; day_in = search rules }

pub midnight-text : moment_text 1772409600 ≡ codes "2026-03-02T00:00:00Z"
unfolding days_from_civil day_count days_of_years days_of_months
midnight-text = moment_on march_2 1772409600 refl (omega arith)

abbrev march_8 : Date
march_8 = record { year = pos 2026; month = 3; day = 8; year_in = search rules; month_in = search rules; day_in = search rules }

pub due-text : moment_text 1772974800 ≡ codes "2026-03-08T13:00:00Z"
unfolding days_from_civil day_count days_of_years days_of_months
due-text = moment_on march_8 1772974800 refl (omega arith)

abbrev leap_day : Date
leap_day = record { year = pos 2028; month = 2; day = 29; year_in = search rules; month_in = search rules; day_in = search rules }

pub leap_day-text : moment_text 1835395200 ≡ codes "2028-02-29T00:00:00Z"
unfolding days_from_civil day_count days_of_years days_of_months
leap_day-text = moment_on leap_day 1835395200 refl (omega arith)

abbrev last_day : Date
last_day = record { year = pos 2099; month = 12; day = 31; year_in = search rules; month_in = search rules; day_in = search rules }

pub last-text : moment_text 4102444799 ≡ codes "2099-12-31T23:59:59Z"
unfolding days_from_civil day_count days_of_years days_of_months
last-text = moment_on last_day 4102444799 refl (omega arith)

abbrev last_due_day : Date
last_due_day = record { year = pos 2100; month = 12; day = 31; year_in = search rules; month_in = search rules; day_in = search rules }

pub last_deadline-text : moment_text 4133980799 ≡ codes "2100-12-31T23:59:59Z"
unfolding days_from_civil day_count days_of_years days_of_months
last_deadline-text = moment_on last_due_day 4133980799 refl (omega arith)
