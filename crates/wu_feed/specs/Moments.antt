-- Texts that are moments.
use Rattle.std.specs.Prelude.{ℕ, ◌+◌, ◌-◌, ◌*◌, ◌==◌, nat_le, Bool, ◌&&◌, if◌then◌else◌, ℤ, pos, ◌+ℤ◌, ◌*ℤ◌, unsigned_abs, List, length, slice_index, codes, Result, Ok, Err}
use Rattle.std.specs.Char.{is_ascii_digit}
use Rattle.std.specs.List.{list_all, zip}
use Rattle.jiff_core.specs.Calendar.{days_in_month, days_from_civil}
use Rattle.wu_core.specs.Limits.{last_moment}
use Rattle.wu_core.specs.Parameters.{is_between}
use Rattle.wu_core.specs.declared.fault.Fault.{Fault}
use Rattle.wu_core.specs.declared.fault.Fault.TheVariants.{BadMoment}

-- The form of the text of a moment, with '0' for each digit.
abbrev pub shape_of_moment : List ℕ
shape_of_moment = codes "0000-00-00T00:00:00Z"

-- Whether a byte fits the form: any digit fits '0' (48), and any other byte only itself.
abbrev pub fits : ℕ → ℕ → Bool
fits shape byte = if shape == 48 then is_ascii_digit byte else byte == shape

-- Whether the text has the form of a moment, whatever its digits.
abbrev pub has_shape : List ℕ → Bool
has_shape text = length text == 20 && list_all (λ pair. fits pair.0 pair.1) (zip shape_of_moment text)

-- The number of the two digits at a place, and of the four.
abbrev pub two_at : List ℕ → ℕ → ℕ
two_at text place = 10 * (slice_index text place - 48) + (slice_index text (place + 1) - 48)

abbrev pub four_at : List ℕ → ℕ → ℕ
four_at text place = 100 * two_at text place + two_at text (place + 2)

-- Whether the calendar has this day.
abbrev pub is_civil_date : ℕ → ℕ → ℕ → Bool
is_civil_date year month day = nat_le 1 month && nat_le month 12 && nat_le 1 day && nat_le day (days_in_month (pos year) month)

-- Whether a clock shows this time; there are no leap seconds.
abbrev pub is_clock_time : ℕ → ℕ → ℕ → Bool
is_clock_time hour minute second = nat_le hour 23 && nat_le minute 59 && nat_le second 59

-- The seconds since the start of 1970.
abbrev pub seconds_of : ℕ → ℕ → ℕ → ℕ → ℕ → ℕ → ℤ
seconds_of year month day hour minute second =
    days_from_civil (pos year) month day *ℤ pos 86_400 +ℤ pos (hour * 3600 + minute * 60 + second)

-- The moment of this date and time, from 1970 to 2099; else `BadMoment`.
abbrev pub moment_at : ℕ → ℕ → ℕ → ℕ → ℕ → ℕ → Result ℕ Fault
moment_at year month day hour minute second =
    if is_civil_date year month day && is_clock_time hour minute second
    && is_between 0 last_moment (seconds_of year month day hour minute second)
    then Ok (unsigned_abs (seconds_of year month day hour minute second))
    else Err BadMoment

-- The moment that a text writes; else `BadMoment`.
abbrev pub moment_of : List ℕ → Result ℕ Fault
moment_of text =
    if has_shape text
    then moment_at (four_at text 0) (two_at text 5) (two_at text 8) (two_at text 11) (two_at text 14) (two_at text 17)
    else Err BadMoment
