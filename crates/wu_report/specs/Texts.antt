-- The texts of views, as functions of values. Each line ends with a line feed.
use Rattle.std.specs.Prelude.{ℕ, ◌+◌, ◌-◌, ◌/◌, ◌%◌, ◌==◌, pos, int_le, if◌then◌else◌, List, [], ◌∷◌, ◌++◌, length, find, flat_map, count_by, codes, unsigned_abs, Option, Some, None}
use Rattle.std.specs.Fmt.{decimal}
use Rattle.std.specs.List.{enumerate_from, range_with_len}
use Rattle.std.specs.Option.{option_map_or}
use Rattle.hex.specs.Hex.{encode_lower}
use Rattle.jiff_core.specs.Calendar.{days_from_civil}
use Rattle.wu_core.specs.declared.import.ImportKind.{ImportKind}
use Rattle.wu_core.specs.declared.import.ImportKind.TheVariants as kind
use Rattle.wu_core.specs.declared.workunit.Archived.{Archived}
use Rattle.wu_core.specs.declared.workunit.HostClass.{HostClass}
use Rattle.wu_core.specs.Mask.{error_mask_code}
use Rattle.wu_core.specs.Words.{import_kind_word, server_state_word, outcome_word, validate_state_word, assimilate_word, file_delete_word}
use Rattle.wu_core.specs.World.{World}
use Rattle.wu_views.specs.declared.failures.HostFailures.{HostFailures}
use Rattle.wu_schema.specs.declared.rows.HostSum.{HostSum}
use Rattle.wu_views.specs.declared.lines.ImportLine.{ImportLine}
use Rattle.wu_views.specs.declared.lines.ResultLine.{ResultLine}
use Rattle.wu_views.specs.declared.lines.Summary.{Summary}
use Rattle.wu_views.specs.declared.lines.WorkunitLine.{WorkunitLine}
use Rattle.wu_views.specs.declared.waiting.DueLine.{DueLine}
use Rattle.wu_views.specs.declared.waiting.StatusLine.{StatusLine}
use Rattle.wu_views.specs.declared.waiting.StatusLine.TheVariants as status
use Rattle.wu_views.specs.Waiting.{status_lines}
use Rattle.wu_rules.specs.Verdicts.{report_verdict_code, report_verdict_word, send_verdict_code, send_verdict_word}
use Rattle.wu_rules.specs.declared.verdicts.ReportVerdict.{ReportVerdict}
use Rattle.wu_rules.specs.declared.verdicts.ReportVerdict.TheVariants as report
use Rattle.wu_rules.specs.declared.verdicts.SendVerdict.{SendVerdict}
use Rattle.wu_rules.specs.declared.verdicts.SendVerdict.TheVariants as send
use Rattle.wu_rules.specs.declared.due.Pass.{Pass}
use Rattle.wu_rules.specs.declared.due.Pass.TheVariants.{Transition, Validate, Assimilate, Delete, Purge}
use Rattle.wu_views.specs.Lines.{archived_lines, class_lines, host_lines, import_lines, import_lines_named, result_lines, summary_of, workunit_lines}
use Rattle.wu_machine.specs.declared.view.View.{View}
use Rattle.wu_machine.specs.declared.view.View.TheVariants as view

abbrev pub line_end : List ℕ
line_end = 10 ∷ []

-- The text of a value, or '-' without one.
abbrev pub or_dash : {T : Type 0} → (T → List ℕ) → Option T → List ℕ
or_dash text (Some it) = text it
or_dash text None = codes "-"

-- The number in decimal with at least two digits, and with at least four.
abbrev pub two_digits : ℕ → List ℕ
two_digits n = (48 + n / 10) ∷ (48 + n % 10) ∷ []

abbrev pub four_digits : ℕ → List ℕ
four_digits n = two_digits (n / 100) ++ two_digits (n % 100)

-- The year of a day that is counted from the start of 1970: the last one that has begun by then.
unfoldable pub year_of_day : ℕ → ℕ
year_of_day day = 1969 + count_by (λ year. int_le (days_from_civil (pos year) 1 1) (pos day)) (range_with_len 1970 131)

-- The month of a day: the last one of its year that has begun by then.
unfoldable pub month_of_day : ℕ → ℕ → ℕ
month_of_day year day = count_by (λ month. int_le (days_from_civil (pos year) month 1) (pos day)) (range_with_len 1 12)

-- The day of the month.
abbrev pub day_of_month : ℕ → ℕ → ℕ → ℕ
day_of_month year month day = 1 + (day - unsigned_abs (days_from_civil (pos year) month 1))

abbrev pub date_in_year : ℕ → ℕ → List ℕ
date_in_year year day =
    let month = month_of_day year day in
    four_digits year ++ codes "-" ++ two_digits month ++ codes "-" ++ two_digits (day_of_month year month day)

abbrev pub date_text : ℕ → List ℕ
date_text day = date_in_year (year_of_day day) day

abbrev pub clock_text : ℕ → List ℕ
clock_text second = two_digits (second / 3600) ++ codes ":" ++ two_digits (second / 60 % 60) ++ codes ":" ++ two_digits (second % 60)

-- The text of a moment or a deadline, as YYYY-MM-DDTHH:MM:SSZ.
unfoldable pub moment_text : ℕ → List ℕ
moment_text seconds = date_text (seconds / 86400) ++ codes "T" ++ clock_text (seconds % 86400) ++ codes "Z"

abbrev pub parameters_text : WorkunitLine → List ℕ
parameters_text w =
    codes " quorum=" ++ decimal w.params.min_quorum ++ codes " target=" ++ decimal w.params.target_nresults
    ++ codes " max_error=" ++ decimal w.params.max_error_results ++ codes " max_total=" ++ decimal w.params.max_total_results
    ++ codes " max_success=" ++ decimal w.params.max_success_results ++ codes " delay=" ++ decimal w.params.delay_bound
    ++ codes " credit=" ++ decimal w.params.credit

-- The line of a workunit.
abbrev pub workunit_line : WorkunitLine → List ℕ
workunit_line w =
    decimal w.number ++ codes " " ++ w.name ++ codes " input=" ++ decimal w.input ++ parameters_text w
    ++ codes " mask=" ++ decimal (error_mask_code w.error_mask) ++ codes " canonical=" ++ or_dash decimal w.canonical
    ++ codes " assimilate=" ++ assimilate_word w.assimilate ++ codes " delete=" ++ file_delete_word w.file_delete
    ++ codes " done=" ++ or_dash moment_text w.done_at ++ codes " class=" ++ decimal w.class ++ line_end

-- The line of an instance.
abbrev pub result_line : ResultLine → List ℕ
result_line r =
    r.workunit ++ codes "_" ++ decimal r.n ++ codes " " ++ server_state_word r.server_state ++ codes " " ++ outcome_word r.outcome
    ++ codes " " ++ validate_state_word r.validate_state ++ codes " " ++ file_delete_word r.file_delete
    ++ codes " host=" ++ or_dash (λ host. host) r.host ++ codes " sent=" ++ or_dash moment_text r.sent_at
    ++ codes " deadline=" ++ or_dash moment_text r.deadline ++ codes " received=" ++ or_dash moment_text r.received_at
    ++ codes " output=" ++ decimal r.output ++ line_end

-- The line of a host.
abbrev pub host_line : HostSum → List ℕ
host_line host = host.name ++ codes " total=" ++ decimal host.total ++ codes " grants=" ++ decimal host.grants ++ line_end

-- The bytes in hex, or '-' without a byte.
abbrev pub bytes_text : List ℕ → List ℕ
bytes_text [] = codes "-"
bytes_text (byte ∷ bytes) = encode_lower (byte ∷ bytes)

-- The line of an archived row.
abbrev pub archived_line : Archived → List ℕ
archived_line row =
    decimal row.number ++ codes " " ++ row.name ++ codes " mask=" ++ decimal (error_mask_code row.error_mask)
    ++ codes " canonical=" ++ or_dash decimal row.canonical ++ codes " done=" ++ moment_text row.done_at
    ++ codes " output=" ++ bytes_text row.output ++ line_end

-- The line of a host and its class.
abbrev pub class_line : HostClass → List ℕ
class_line it = it.host ++ codes " class=" ++ decimal it.class ++ line_end

-- A number in decimal, or '-' for 0.
abbrev pub number_or_dash : ℕ → List ℕ
number_or_dash n = if n == 0 then codes "-" else decimal n

-- How many rows of a file were applied.
abbrev pub applied_count : List ℕ → ℕ
applied_count verdicts = count_by (λ verdict. verdict == 0) verdicts

-- The line of an import: how many rows its file had, how many were applied and skipped, and the number of the first
-- workunit that it made.
abbrev pub import_line : ImportLine → List ℕ
import_line it =
    import_kind_word it.kind ++ codes " " ++ it.name ++ codes " rows=" ++ decimal (length it.verdicts)
    ++ codes " applied=" ++ decimal (applied_count it.verdicts)
    ++ codes " skipped=" ++ decimal (length it.verdicts - applied_count it.verdicts)
    ++ codes " first=" ++ number_or_dash it.first_number ++ line_end

-- The verdict on a row of sends that has this number, or `None`.
abbrev pub send_verdict_numbered : ℕ → Option SendVerdict
send_verdict_numbered number =
    find (λ verdict. send_verdict_code verdict == number) (send.Applied ∷ send.Unknown ∷ send.NotUnsent ∷ send.SameHost ∷ send.Class ∷ [])

-- The verdict on a row of reports that has this number, or `None`.
abbrev pub report_verdict_numbered : ℕ → Option ReportVerdict
report_verdict_numbered number =
    find (λ verdict. report_verdict_code verdict == number)
    (report.Applied ∷ report.Unknown ∷ report.NotSent ∷ report.WrongHost ∷ report.BeforeSent ∷ report.Over ∷ [])

-- Why a row of sends was skipped, by the number of its verdict; `None` if it was applied.
abbrev pub send_skip_word : ℕ → Option (List ℕ)
send_skip_word number = option_map_or send_verdict_word (send_verdict_numbered number) None

-- Why a row of reports was skipped, by the number of its verdict; `None` if it was applied.
abbrev pub report_skip_word : ℕ → Option (List ℕ)
report_skip_word number = option_map_or report_verdict_word (report_verdict_numbered number) None

-- Why a row of a file of this kind was skipped, by the number of its verdict; `None` if it was applied. Each row of a
-- batch and of classes is applied.
abbrev pub skip_word : ImportKind → ℕ → Option (List ℕ)
skip_word kind.Batch number = None
skip_word kind.Sent number = send_skip_word number
skip_word kind.Reported number = report_skip_word number
skip_word kind.Classes number = None

-- The line of a skipped row; no text for an applied one.
abbrev pub skip_line : (ℕ → Option (List ℕ)) → ℕ × ℕ → List ℕ
skip_line word row =
    option_map_or (λ why. codes "  row " ++ decimal row.0 ++ codes ": " ++ why ++ line_end) (word row.1) []

-- A line for each skipped row; the first row after the header is row 2.
abbrev pub skip_lines : (ℕ → Option (List ℕ)) → List ℕ → List ℕ
skip_lines word verdicts = flat_map (skip_line word) (enumerate_from 2 verdicts)

-- The line of an import, and a line for each row of it that was skipped.
abbrev pub import_detail : ImportLine → List ℕ
import_detail it = import_line it ++ skip_lines (skip_word it.kind) it.verdicts

abbrev pub counted : List ℕ → ℕ → List ℕ
counted word n = word ++ codes " " ++ decimal n ++ line_end

-- The word of a pass, in its answer and in the view of what waits.
abbrev pub pass_word : Pass → List ℕ
pass_word Transition = codes "transition"
pass_word Validate = codes "validate"
pass_word Assimilate = codes "assimilate"
pass_word Delete = codes "delete"
pass_word Purge = codes "purge"

-- The line of a pass: how many workunits wait for it.
abbrev pub due_line : DueLine → List ℕ
due_line it = counted (pass_word it.pass) it.count

-- The line of the earliest deadline that is still awaited.
abbrev pub next_line : Option ℕ → List ℕ
next_line deadline = codes "next_deadline " ++ or_dash moment_text deadline ++ line_end

-- The line of a host of which many instances ended with an error or without a reply.
abbrev pub failures_line : HostFailures → List ℕ
failures_line it = codes "host " ++ it.host ++ codes " errors " ++ decimal it.errors ++ codes " no_reply " ++ decimal it.no_replies ++ line_end

-- A line on what is open.
abbrev pub status_line : StatusLine → List ℕ
status_line (status.Due it) = due_line it
status_line (status.Undecided n) = counted (codes "undecided") n
status_line (status.GivenUp n) = counted (codes "given_up") n
status_line (status.Overdue n) = counted (codes "overdue") n
status_line (status.NextDeadline deadline) = next_line deadline
status_line (status.Host it) = failures_line it

-- The twelve lines of a summary.
abbrev pub summary_lines : Summary → List ℕ
summary_lines s =
    counted (codes "version") s.version
    ++ counted (codes "next") s.next_number
    ++ counted (codes "workunits") s.workunits
    ++ counted (codes "results") s.results
    ++ counted (codes "unsent") s.unsent
    ++ counted (codes "in_progress") s.in_progress
    ++ counted (codes "over") s.over
    ++ counted (codes "archived") s.archived
    ++ counted (codes "grants") s.grants
    ++ counted (codes "credit") s.credit
    ++ counted (codes "imports") s.imports
    ++ counted (codes "classes") s.classes

-- The text of a view.
abbrev pub view_text : World → View → List ℕ
view_text world view.Workunits = flat_map workunit_line (workunit_lines world)
view_text world view.Results = flat_map result_line (result_lines world)
view_text world view.Hosts = flat_map host_line (host_lines world)
view_text world view.Archive = flat_map archived_line (archived_lines world)
view_text world view.Summary = summary_lines (summary_of world)
view_text world view.Classes = flat_map class_line (class_lines world)
view_text world view.Imports = flat_map import_line (import_lines world)
view_text world (view.Import name) = flat_map import_detail (import_lines_named name world)
view_text world (view.Status now) = flat_map status_line (status_lines now world)
