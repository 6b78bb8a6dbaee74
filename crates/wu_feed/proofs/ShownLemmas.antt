-- A field that is shown is ASCII, and so it is text.
use Rattle.std.proofs.Common.{◌≡◌, ◌∙◌, ℕ, ◌<◌, true, ◌&&◌, List, length, map, nat_le, None, Some, IsUtf8, ap, arith, sym}
use Rattle.std.proofs.lemmas.Bool.Decides.{nat_tests}
use Rattle.std.proofs.lemmas.List.Sums.{AllPass-from_list_all}
use Rattle.std.proofs.lemmas.Str.{IsUtf8-from_ascii}
use Rattle.std.proofs.lemmas.Str.Ascii.{IsAscii-from_all}
use Rattle.std.proofs.lemmas.Option.{slice_get-map}
use Rattle.std.specs.List.{list_all, slice_get}
use Rattle.std.specs.Option.{option_and_then, option_map}
use Rattle.csv.specs.Records.{field_at}
use Rattle.wu_feed.specs.Limits.{most_shown}
use Rattle.wu_feed.specs.Rows.{first_records_of}
use Rattle.wu_feed.specs.Shown.{is_printable, is_shown, shown, shown_at}
use Rattle.wu_core.proofs.NameLemmas.{second}

printable_is_ascii : (byte : ℕ) → is_printable byte ≡ true → byte < 128
printable_is_ascii byte h = grind (arith, nat_tests)

pub shown_is_text : (field : List ℕ) → is_shown field ≡ true → IsUtf8 field
shown_is_text field h =
    let passes = AllPass-from_list_all is_printable field (second (nat_le 1 (length field) && nat_le (length field) most_shown) (list_all is_printable field) h) in
    IsUtf8-from_ascii field (IsAscii-from_all field (λ k d within. printable_is_ascii _ (passes k d within)))

module _ {R : Type 0} (fields : R → List (List ℕ)) (rows : List R) (file : List ℕ) (row column : ℕ) (read : map fields rows ≡ first_records_of file) where
  -- The row at this place of the file.
  row_there : slice_get (first_records_of file) row ≡ option_map fields (slice_get rows row)
  row_there = sym (ap (λ all. slice_get all row) read) ∙ slice_get-map fields rows row

  -- Where there is no such row nothing is shown.
  pub no_row : slice_get rows row ≡ None → shown_at file row column ≡ None
  no_row none = ap (option_and_then (λ of_row. option_and_then shown (field_at of_row column))) (row_there ∙ ap (option_map fields) none)

  -- Of a row that is there its field in the column is shown, or nothing.
  pub of_row : (one : R) → slice_get rows row ≡ Some one → shown_at file row column ≡ option_and_then shown (field_at (fields one) column)
  of_row one there = ap (option_and_then (λ of_row. option_and_then shown (field_at of_row column))) (row_there ∙ ap (option_map fields) there)
