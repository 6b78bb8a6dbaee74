-- The rows of a file, one after the other.
use Rattle.std.proofs.Common.{◌≡◌, ◌≤◌, ◌<◌, ◌+◌, ◌-◌, ℕ, Bool, true, false, inl, inr, List, [], ◌∷◌, ◌++◌, length, get_or, map, drop, take, zero, suc, nat_lt, Result, Ok, Err, IfOk, All, append_assoc, if◌then◌else◌, arith, refl, sym, ap, ◌∙◌}
use Rattle.std.proofs.lemmas.Bool.Decides.{nat_tests}
use Rattle.std.proofs.lemmas.List.{append-nil, drop_all, drop_more, take_all}
use Rattle.std.proofs.lemmas.List.Elements.{All-cons, All-nil}
use Rattle.csv.specs.Records.{Row, fields_of}
use Rattle.wu_core.specs.Reads.{IsOrWantsMemory}
use Rattle.wu_core.specs.declared.fault.Fault.{Fault}
use Rattle.wu_core.specs.declared.fault.Fault.TheVariants.{BadFile}
use Rattle.wu_core.specs.declared.fault.FileCause.TheVariants as cause
use Rattle.wu_feed.proofs.ReadLemmas.{is_read}
use Rattle.wu_feed.specs.Limits.{last_row, longest_file, most_rows}
use Rattle.wu_feed.specs.Rows.{first_records_of, has_header, is_header, records_of, row_at, rows_from, rows_of_file, rows_under, with_first}

-- the numbers of rows
pub above_2 : 2 ≤ 1002
above_2 = omega arith

pub next_within : {number : ℕ} → number ≤ last_row → number + 1 ≤ 1002
next_within within = omega arith

-- records of which the first is the header have it
pub header_there : (names : List (List ℕ)) (records : List Row) (header : Row) → 1 ≤ length records → header ≡ get_or records 0 header → is_header names (fields_of header) ≡ true
    → has_header names (map fields_of records) ≡ true
header_there names [] header some is true-header = absurd (omega arith)
header_there names (r ∷ rows) header some is true-header = rw (← is) true-header

-- rows before others
abbrev pub with_all : {R : Type 0} → List R → Result (List R) Fault → Result (List R) Fault
with_all front (Ok rows) = Ok (front ++ rows)
with_all front (Err fault) = Err fault

pub none_before : {R : Type 0} (rest : Result (List R) Fault) → with_all [] rest ≡ rest
none_before (Ok rows) = refl
none_before (Err fault) = refl

-- the next row was read
push : {R : Type 0} (front : List R) (row : R) (rest : Result (List R) Fault) → with_all (front ++ row ∷ []) rest ≡ with_all front (with_first (Ok row) rest)
push front row (Ok rows) = ap Ok (append_assoc front (row ∷ []) rows)
push front row (Err fault) = refl

refusal : {R : Type 0} (front : List R) (fault : Fault) (read : Result R Fault) (rest whole : Result (List R) Fault) → IsOrWantsMemory (Err fault) read
    → with_all front (with_first read rest) ≡ whole → IsOrWantsMemory (Err fault) whole
refusal front fault read rest whole (inl e) so_far = inl (rw (← e) at so_far)
refusal front fault read rest whole (inr e) so_far = inr (cc e)

pub first_parts : {R : Type 0} (read : Result R Fault) (rest : Result (List R) Fault) (rows : List R) → with_first read rest ≡ Ok rows
    → (row : R) × (more : List R) × (read ≡ Ok row) × (rest ≡ Ok more) × (row ∷ more ≡ rows)
first_parts (Ok row) (Ok more) rows e = (row, more, refl, refl, cc e)
first_parts (Ok row) (Err why) rows e = cc e
first_parts (Err why) rest rows e = cc e

module _ {R : Type 0} (row_of : ℕ → List (List ℕ) → Result R Fault) where
  -- the rows from a place on are the one there and those after it
  rows_at : (number : ℕ) (rows : List Row) (i : ℕ) (r : Row) → i < length rows → r ≡ get_or rows i r
      → rows_from row_of number (map fields_of (drop i rows)) ≡ with_first (row_at row_of number (fields_of r)) (rows_from row_of (number + 1) (map fields_of (drop (i + 1) rows)))
  unfolding rows_from
  rows_at number rows i r within is = rw (drop_more rows i r within, ← is) refl

  pub one_more : (front : List R) (row : R) (number : ℕ) (rows : List Row) (i : ℕ) (r : Row) (whole : Result (List R) Fault) → i < length rows → r ≡ get_or rows i r
      → IsOrWantsMemory (Ok row) (row_at row_of number (fields_of r)) → with_all front (rows_from row_of number (map fields_of (drop i rows))) ≡ whole
      → with_all (front ++ row ∷ []) (rows_from row_of (number + 1) (map fields_of (drop (i + 1) rows))) ≡ whole
  one_more front row number rows i r whole within is gave so_far =
      let at = rows_at number rows i r within is in
      let here = is_read row (row_at row_of number (fields_of r)) gave in
      push front row (rows_from row_of (number + 1) (map fields_of (drop (i + 1) rows))) ∙ rw (at, here) at so_far

  -- a row that is refused
  pub refused : (front : List R) (fault : Fault) (number : ℕ) (rows : List Row) (i : ℕ) (r : Row) (whole : Result (List R) Fault) → i < length rows → r ≡ get_or rows i r
      → IsOrWantsMemory (Err fault) (row_at row_of number (fields_of r)) → with_all front (rows_from row_of number (map fields_of (drop i rows))) ≡ whole → IsOrWantsMemory (Err fault) whole
  refused front fault number rows i r whole within is gave so_far =
      let at = rows_at number rows i r within is in
      refusal front fault (row_at row_of number (fields_of r)) _ whole gave (rw at at so_far)

  -- no row is left
  pub all_rows : (front : List R) (number : ℕ) (rows : List Row) (i : ℕ) (whole : Result (List R) Fault) → length rows ≤ i
      → with_all front (rows_from row_of number (map fields_of (drop i rows))) ≡ whole → Ok front ≡ whole
  unfolding rows_from
  all_rows front number rows i whole past so_far =
      let none : drop i rows ≡ [] = drop_all i rows past in
      ap Ok (sym (append-nil front)) ∙ rw none at so_far

  -- a row that was read is not after the last one
  pub row_within : (row : R) (number : ℕ) (fields : List (List ℕ)) → IsOrWantsMemory (Ok row) (row_at row_of number fields) → number ≤ last_row
  row_within row number fields gave = by (nat_lt last_row number) refl (is_read row (row_at row_of number fields) gave)
    where
      by : (b : Bool) → nat_lt last_row number ≡ b → row_at row_of number fields ≡ Ok row → number ≤ last_row
      by true past e = cc (rw past at e)
      by false within e = grind (arith, nat_tests)

  -- records of which the first is the header
  pub rows_below : (names : List (List ℕ)) (records : List Row) (header : Row) (result : Result (List R) Fault) → 1 ≤ length records → header ≡ get_or records 0 header
      → is_header names (fields_of header) ≡ true → IsOrWantsMemory result (rows_from row_of 2 (map fields_of (take (length records - 1) (drop 1 records))))
      → IsOrWantsMemory result (rows_under names row_of (map fields_of records))
  rows_below names [] header result some is true-header gave = absurd (omega arith)
  rows_below names (r ∷ rows) header result some is true-header gave =
      let all = take_all (length (r ∷ rows) - 1) rows (omega arith) in
      rw (← is, true-header) (rw all at gave)

  -- a thousand and one rows decide
  cut : (n number : ℕ) (rows : List (List (List ℕ))) → number + n ≡ 1002 → rows_from row_of number (take (suc n) rows) ≡ rows_from row_of number rows
  unfolding rows_from
  cut n number [] e = refl
  cut zero number (r ∷ rows) e =
      let last : number ≡ 1002 = omega arith in
      rw last refl
  cut (suc n) number (r ∷ rows) e = ap (with_first (row_at row_of number r)) (cut n (number + 1) rows (omega arith))

  rows_under-take : (names : List (List ℕ)) (records : List (List (List ℕ))) → rows_under names row_of (take 1002 records) ≡ rows_under names row_of records
  rows_under-take names [] = refl
  rows_under-take names (header ∷ rows) = rw (cut 1000 2 rows refl) refl

  -- a file that is not too long
  pub file_read : (names : List (List ℕ)) (file : List ℕ) (rows : List (List (List ℕ))) (result : Result (List R) Fault) → length file ≤ longest_file
      → rows ≡ first_records_of file → IsOrWantsMemory result (rows_under names row_of rows) → IsOrWantsMemory result (rows_of_file names row_of file)
  file_read names file rows result within taken gave =
      let short : nat_lt longest_file (length file) ≡ false = grind (arith, nat_tests) in
      rw short (rw (taken, rows_under-take names (records_of file)) at gave)

  -- the rows of a file are few
  rows_from-few : (number : ℕ) (fields : List (List (List ℕ))) (rows : List R) → number ≤ 1002 → rows_from row_of number fields ≡ Ok rows → number + length rows ≤ 1002
  unfolding rows_from
  rows_from-few number [] rows small e =
      let none : [] ≡ rows = cc e in
      rw (← none) (omega arith)
  rows_from-few number (r ∷ fields) rows small e =
      let (row, more, here, rest, same) = first_parts (row_at row_of number r) (rows_from row_of (number + 1) fields) rows e in
      let within = row_within row number r (inl (sym here)) in
      let others = rows_from-few (number + 1) fields more (omega arith) rest in
      rw (← same) (omega arith)

  rows_under-few : (names : List (List ℕ)) (read : List (List (List ℕ))) (rows : List R) → rows_under names row_of read ≡ Ok rows → length rows ≤ most_rows
  rows_under-few names [] rows e = cc e
  rows_under-few names (header ∷ fields) rows e = by (is_header names header) e
    where
      by : (b : Bool) → (if b then rows_from row_of 2 fields else Err (BadFile 1 cause.Header)) ≡ Ok rows → length rows ≤ most_rows
      by true e = let few = rows_from-few 2 fields rows (omega arith) e in omega arith
      by false e = cc e

  file_few : (names : List (List ℕ)) (file : List ℕ) (rows : List R) → rows_of_file names row_of file ≡ Ok rows → length rows ≤ most_rows
  file_few names file rows e = by (nat_lt longest_file (length file)) e
    where
      by : (b : Bool) → (if b then Err (BadFile 0 cause.TooLong) else rows_under names row_of (records_of file)) ≡ Ok rows → length rows ≤ most_rows
      by true e = cc e
      by false e = rows_under-few names (records_of file) rows e

  pub rows_of_file-few : (names : List (List ℕ)) (file : List ℕ) (result : Result (List R) Fault) → IsOrWantsMemory result (rows_of_file names row_of file) → IfOk result (λ rows. length rows ≤ most_rows)
  rows_of_file-few names file (Ok rows) (inl e) = file_few names file rows (sym e)
  rows_of_file-few names file (Ok rows) (inr e) = cc e
  rows_of_file-few names file (Err why) gave = tt

-- what each row that is read has, each row of a file has
module _ {R : Type 0} (row_of : ℕ → List (List ℕ) → Result R Fault) (P : R → Type 0) (each : (number : ℕ) (fields : List (List ℕ)) (row : R) → row_of number fields ≡ Ok row → P row) where
  row_at-each : (number : ℕ) (fields : List (List ℕ)) (row : R) → row_at row_of number fields ≡ Ok row → P row
  row_at-each number fields row e = by (nat_lt last_row number) e
    where
      by : (past : Bool) → (if past then Err (BadFile number cause.TooManyRows) else row_of number fields) ≡ Ok row → P row
      by true e = cc e
      by false e = each number fields row e

  rows_from-each : (number : ℕ) (fields : List (List (List ℕ))) (rows : List R) → rows_from row_of number fields ≡ Ok rows → All P rows
  unfolding rows_from
  rows_from-each number [] rows e =
      let none : [] ≡ rows = cc e in
      rw (← none) (All-nil P)
  rows_from-each number (r ∷ fields) rows e =
      let (row, more, here, rest, same) = first_parts (row_at row_of number r) (rows_from row_of (number + 1) fields) rows e in
      let others = rows_from-each (number + 1) fields more rest in
      rw (← same) (All-cons P row more (row_at-each number r row here) others)

  rows_under-each : (names : List (List ℕ)) (read : List (List (List ℕ))) (rows : List R) → rows_under names row_of read ≡ Ok rows → All P rows
  rows_under-each names [] rows e = cc e
  rows_under-each names (header ∷ fields) rows e = by (is_header names header) e
    where
      by : (b : Bool) → (if b then rows_from row_of 2 fields else Err (BadFile 1 cause.Header)) ≡ Ok rows → All P rows
      by true e = rows_from-each 2 fields rows e
      by false e = cc e

  file_each : (names : List (List ℕ)) (file : List ℕ) (rows : List R) → rows_of_file names row_of file ≡ Ok rows → All P rows
  file_each names file rows e = by (nat_lt longest_file (length file)) e
    where
      by : (b : Bool) → (if b then Err (BadFile 0 cause.TooLong) else rows_under names row_of (records_of file)) ≡ Ok rows → All P rows
      by true e = cc e
      by false e = rows_under-each names (records_of file) rows e

  pub rows_of_file-each : (names : List (List ℕ)) (file : List ℕ) (result : Result (List R) Fault) → IsOrWantsMemory result (rows_of_file names row_of file) → IfOk result (All P)
  rows_of_file-each names file (Ok rows) (inl e) = file_each names file rows (sym e)
  rows_of_file-each names file (Ok rows) (inr e) = cc e
  rows_of_file-each names file (Err why) gave = tt
