-- The limits of files, templates and scripts, by the constants of the code.
use Rattle.std.specs.Prelude.{ℕ}
use Rattle.wu_feed.specs.declared.limits.TheConstants.{LAST_ROW, LONGEST_FILE, LONGEST_TEMPLATE, MOST_LINES, MOST_RECORDS, MOST_ROWS, MOST_SHOWN}

-- The most bytes of a file.
abbrev pub longest_file : ℕ
longest_file = LONGEST_FILE

-- The most bytes of a template.
abbrev pub longest_template : ℕ
longest_template = LONGEST_TEMPLATE

-- The most rows of a file after its header.
abbrev pub most_rows : ℕ
most_rows = MOST_ROWS

-- The number of the last row that a file may have; the header is row 1.
abbrev pub last_row : ℕ
last_row = LAST_ROW

-- The most records that are read of a file: the header, the rows that it may have, and one more.
abbrev pub most_records : ℕ
most_records = MOST_RECORDS

-- The most lines of a script.
abbrev pub most_lines : ℕ
most_lines = MOST_LINES

-- The most bytes of a field that a report shows.
abbrev pub most_shown : ℕ
most_shown = MOST_SHOWN
