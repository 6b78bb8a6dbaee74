-- Files of classes: a header `host,class`, and a row for each host that gets a class.
use Rattle.std.specs.Prelude.{ℕ, ◌==◌, nat_le, Bool, not, ◌&&◌, if◌then◌else◌, codes, List, [], ◌∷◌, length, slice_index, Option, Some, None, Result, Ok, Err}
use Rattle.std.specs.Char.{is_ascii_digit}
use Rattle.std.specs.List.{list_all}
use Rattle.std.specs.Str.Parse.{digits_value}
use Rattle.wu_core.specs.declared.fault.Fault.{Fault}
use Rattle.wu_core.specs.declared.fault.Fault.TheVariants.{BadFile}
use Rattle.wu_core.specs.declared.fault.FileCause.TheVariants as cause
use Rattle.wu_core.specs.declared.workunit.HostClass.{HostClass}
use Rattle.wu_core.specs.Limits.{highest_class}
use Rattle.wu_core.specs.Names.{name_of}
use Rattle.wu_feed.specs.Fields.{two_of}
use Rattle.wu_feed.specs.Rows.{rows_of_file}

abbrev pub classes_header : List (List ℕ)
classes_header = codes "host" ∷ codes "class" ∷ []

-- Whether the text is one or more digits, of which the first is not '0' (48).
abbrev pub is_decimal : List ℕ → Bool
is_decimal text = nat_le 1 (length text) && not (slice_index text 0 == 48) && list_all is_ascii_digit text

-- The class that a text writes in decimal, from 1 to 65535 without leading zeros; else `None`.
abbrev pub class_written : List ℕ → Option ℕ
class_written text =
    if is_decimal text && nat_le (digits_value 10 text) highest_class then Some (digits_value 10 text) else None

-- A host and its class.
abbrev pub classed : List ℕ → ℕ → HostClass
classed host class = record { host = host; class = class }

-- A host and its class, from the fields; the first field that is wrong decides the fault.
abbrev pub host_class_of_fields : ℕ → Result (List ℕ) Fault → Option ℕ → Result HostClass Fault
host_class_of_fields row (Ok host) (Some class) = Ok (classed host class)
host_class_of_fields row (Ok host) None = Err (BadFile row cause.Class)
host_class_of_fields row (Err fault) class = Err (BadFile row cause.Host)

abbrev pub host_class_of_two : ℕ → Option (List ℕ × List ℕ) → Result HostClass Fault
host_class_of_two row (Some pair) = host_class_of_fields row (name_of pair.0) (class_written pair.1)
host_class_of_two row None = Err (BadFile row cause.Fields)

-- A host and its class, from a row's fields, or the first fault.
abbrev pub host_class_of : ℕ → List (List ℕ) → Result HostClass Fault
host_class_of row fields = host_class_of_two row (two_of fields)

-- The hosts and classes of a file, or its first fault.
abbrev pub classes_of_file : List ℕ → Result (List HostClass) Fault
classes_of_file = rows_of_file classes_header host_class_of
