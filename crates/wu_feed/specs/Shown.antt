-- The field of a file that a fault refuses, as a report shows it.
use Rattle.std.specs.Prelude.{ℕ, Bool, ◌&&◌, if◌then◌else◌, nat_le, List, length, Option, Some, None, option_and_then, slice_get}
use Rattle.std.specs.List.{list_all}
use Rattle.csv.specs.Records.{field_at}
use Rattle.wu_feed.specs.Limits.{most_shown}
use Rattle.wu_feed.specs.Rows.{first_records_of}

-- Whether the byte is a printable ASCII character.
abbrev pub is_printable : ℕ → Bool
is_printable byte = nat_le 32 byte && nat_le byte 126

-- Whether a report shows the field: 1 to 64 printable characters.
abbrev pub is_shown : List ℕ → Bool
is_shown field = nat_le 1 (length field) && nat_le (length field) most_shown && list_all is_printable field

-- The field, if a report shows it.
abbrev pub shown : List ℕ → Option (List ℕ)
shown field = if is_shown field then Some field else None

-- The field in a row and a column of a file, both from 0, if it is there and a report shows it.
abbrev pub shown_at : List ℕ → ℕ → ℕ → Option (List ℕ)
shown_at file row column =
    option_and_then (λ fields. option_and_then shown (field_at fields column)) (slice_get (first_records_of file) row)
