-- Which faults the readers tell.
use Rattle.std.proofs.Common.{ℕ, ◌+◌, Bool, true, false, inl, inr, List, [], ◌∷◌, length, nat_lt, Result, Ok, Err, Option, Some, None, IfErr, IfOk, ◌≤◌, if◌then◌else◌, find, not, refl}
use Rattle.toml.specs.Data.{Members}
use Rattle.wu_core.specs.Names.{is_name, name_of}
use Rattle.wu_core.specs.ResultNames.{result_name_of}
use Rattle.wu_core.specs.Statuses.{status_of}
use Rattle.wu_core.specs.declared.name.ResultName.{ResultName}
use Rattle.wu_core.specs.declared.states.Status.{Status}
use Rattle.wu_core.specs.declared.workunit.HostClass.{HostClass}
use Rattle.wu_core.specs.Parameters.{Parameters}
use Rattle.wu_core.specs.Reads.{IsOrWantsMemory}
use Rattle.wu_core.specs.Templates.{parameters_of, range_tests, template_parameters, unless_failed}
use Rattle.wu_core.specs.declared.fault.Fault.{Fault}
use Rattle.wu_core.specs.declared.fault.Fault.TheVariants.{BadFile, BadTemplate}
use Rattle.wu_core.specs.declared.fault.FileCause.TheVariants as cause
use Rattle.wu_core.specs.declared.fault.TemplateKey.{TemplateKey}
use Rattle.wu_core.specs.declared.fault.TemplateKey.TheVariants as key
use Rattle.wu_feed.specs.Classes.{class_written, classes_header, classes_of_file, host_class_of, host_class_of_fields, host_class_of_two}
use Rattle.wu_feed.specs.Fields.{two_of}
use Rattle.wu_feed.specs.Inputs.{input_of}
use Rattle.wu_feed.specs.Jobs.{job_of, job_of_two, job_with, jobs_header, jobs_of_file}
use Rattle.wu_feed.specs.Limits.{last_row, longest_file, most_rows}
use Rattle.wu_feed.specs.Rows.{IsFileFault, ReadsFile, TellsTooLong, is_header, records_of, row_at, rows_from, rows_of_file, rows_under, with_first}
use Rattle.wu_feed.specs.Moments.{moment_of}
use Rattle.wu_feed.specs.declared.reports.ReportRow.{ReportRow}
use Rattle.wu_feed.specs.Reports.{report_of, report_of_fields, report_with, reported_output, reports_header, reports_of_file}
use Rattle.wu_feed.specs.declared.sends.SendRow.{SendRow}
use Rattle.wu_feed.specs.Sends.{send_of, send_of_fields, sends_header, sends_of_file}
use Rattle.wu_feed.specs.Templates.{document_parameters, has_only_keys, IsTemplateFault, value_of_key}
use Rattle.wu_feed.specs.declared.jobs.Job.{Job}

-- the first key that is out of range
range_told : (failed : Option (TemplateKey × Bool)) (params : Parameters) → IfErr (unless_failed failed params) IsTemplateFault
range_told (Some failed) params = inr (failed.0, refl)
range_told None params = tt

-- the parameters of a document
pub document_told : (document : Members) → IfErr (document_parameters document) IsTemplateFault
document_told document = by (has_only_keys document)
  where
    by : (only : Bool) → IfErr (if only then template_parameters (value_of_key document) else Err (BadTemplate key.Unknown)) IsTemplateFault
    by true = range_told (find (λ test. not test.1) (range_tests (value_of_key document))) (parameters_of (value_of_key document))
    by false = inr (key.Unknown, refl)

first_told : {R : Type 0} (read : Result R Fault) (rest : Result (List R) Fault) → IfErr read IsFileFault → IfErr rest IsFileFault → IfErr (with_first read rest) IsFileFault
first_told (Err fault) rest here after = here
first_told (Ok row) (Err fault) here after = after
first_told (Ok row) (Ok rows) here after = tt

module _ {R : Type 0} (row_of : ℕ → List (List ℕ) → Result R Fault) (row_told : (number : ℕ) (fields : List (List ℕ)) → IfErr (row_of number fields) IsFileFault) where
  at_told : (number : ℕ) (fields : List (List ℕ)) → IfErr (row_at row_of number fields) IsFileFault
  at_told number fields = by (nat_lt last_row number)
    where
      by : (past : Bool) → IfErr (if past then Err (BadFile number cause.TooManyRows) else row_of number fields) IsFileFault
      by true = inr (number, cause.TooManyRows, refl)
      by false = row_told number fields

  from_told : (number : ℕ) (rows : List (List (List ℕ))) → IfErr (rows_from row_of number rows) IsFileFault
  unfolding rows_from
  from_told number [] = tt
  from_told number (fields ∷ more) = first_told (row_at row_of number fields) (rows_from row_of (number + 1) more) (at_told number fields) (from_told (number + 1) more)

  under_told : (names : List (List ℕ)) (records : List (List (List ℕ))) → IfErr (rows_under names row_of records) IsFileFault
  under_told names [] = inr (1, cause.Header, refl)
  under_told names (header ∷ more) = by (is_header names header)
    where
      by : (is : Bool) → IfErr (if is then rows_from row_of 2 more else Err (BadFile 1 cause.Header)) IsFileFault
      by true = from_told 2 more
      by false = inr (1, cause.Header, refl)

  file_told : (names : List (List ℕ)) (file : List ℕ) → IfErr (rows_of_file names row_of file) IsFileFault
  file_told names file = by (nat_lt longest_file (length file))
    where
      by : (long : Bool) → IfErr (if long then Err (BadFile 0 cause.TooLong) else rows_under names row_of (records_of file)) IsFileFault
      by true = inr (0, cause.TooLong, refl)
      by false = under_told names (records_of file)

with_told : (number : ℕ) (name : List ℕ) (input : Option (List ℕ)) → IfErr (job_with number name input) IsFileFault
with_told number name (Some input) = tt
with_told number name None = inr (number, cause.Input, refl)

two_told : (number : ℕ) (two : Option (List ℕ × List ℕ)) → IfErr (job_of_two number two) IsFileFault
two_told number (Some pair) = by (is_name pair.0)
  where
    by : (is : Bool) → IfErr (if is then job_with number pair.0 (input_of pair.1) else Err (BadFile number cause.Name)) IsFileFault
    by true = with_told number pair.0 (input_of pair.1)
    by false = inr (number, cause.Name, refl)
two_told number None = inr (number, cause.Fields, refl)

-- a file of rows, each of which tells such a fault
read_told : {R : Type 0} (row_of : ℕ → List (List ℕ) → Result R Fault) → ((number : ℕ) (fields : List (List ℕ)) → IfErr (row_of number fields) IsFileFault)
    → (names : List (List ℕ)) (file : List ℕ) (result : Result (List R) Fault) → IsOrWantsMemory result (rows_of_file names row_of file) → IfErr result IsFileFault
read_told row_of row_told names file result (inl same) = rw same (file_told row_of row_told names file)
read_told row_of row_told names file result (inr wanted) = rw wanted (inl refl)

-- a file of jobs
pub jobs_told : (file : List ℕ) (result : Result (List Job) Fault) → IsOrWantsMemory result (jobs_of_file file) → IfErr result IsFileFault
jobs_told = read_told job_of (λ number fields. two_told number (two_of fields)) jobs_header

send_fields_told : (number : ℕ) (name : Result ResultName Fault) (host : Result (List ℕ) Fault) (moment : Result ℕ Fault) → IfErr (send_of_fields number name host moment) IsFileFault
send_fields_told number (Ok name) (Ok host) (Ok moment) = tt
send_fields_told number (Ok name) (Ok host) (Err why) = inr (number, cause.Moment, refl)
send_fields_told number (Ok name) (Err why) moment = inr (number, cause.Host, refl)
send_fields_told number (Err why) host moment = inr (number, cause.Result, refl)

send_told : (number : ℕ) (fields : List (List ℕ)) → IfErr (send_of number fields) IsFileFault
send_told number [] = inr (number, cause.Fields, refl)
send_told number (a ∷ []) = inr (number, cause.Fields, refl)
send_told number (a ∷ b ∷ []) = inr (number, cause.Fields, refl)
send_told number (a ∷ b ∷ c ∷ []) = send_fields_told number (result_name_of a) (name_of b) (moment_of c)
send_told number (a ∷ b ∷ c ∷ d ∷ more) = inr (number, cause.Fields, refl)

-- a file of sends
pub sends_told : (file : List ℕ) (result : Result (List SendRow) Fault) → IsOrWantsMemory result (sends_of_file file) → IfErr result IsFileFault
sends_told = read_told send_of send_told sends_header

host_class_fields_told : (number : ℕ) (host : Result (List ℕ) Fault) (class : Option ℕ) → IfErr (host_class_of_fields number host class) IsFileFault
host_class_fields_told number (Ok host) (Some class) = tt
host_class_fields_told number (Ok host) None = inr (number, cause.Class, refl)
host_class_fields_told number (Err why) class = inr (number, cause.Host, refl)

host_class_told : (number : ℕ) (two : Option (List ℕ × List ℕ)) → IfErr (host_class_of_two number two) IsFileFault
host_class_told number (Some pair) = host_class_fields_told number (name_of pair.0) (class_written pair.1)
host_class_told number None = inr (number, cause.Fields, refl)

-- a file of classes
pub classes_told : (file : List ℕ) (result : Result (List HostClass) Fault) → IsOrWantsMemory result (classes_of_file file) → IfErr result IsFileFault
classes_told = read_told host_class_of (λ number fields. host_class_told number (two_of fields)) classes_header

report_with_told : (number : ℕ) (sent : SendRow) (how : Status) (output : Option (List ℕ)) → IfErr (report_with number sent how output) IsFileFault
report_with_told number sent how (Some output) = tt
report_with_told number sent how None = inr (number, cause.Output, refl)

report_fields_told : (number : ℕ) (sent : Result SendRow Fault) (how : Option Status) (output : List ℕ) → IfErr sent IsFileFault → IfErr (report_of_fields number sent how output) IsFileFault
report_fields_told number (Err why) how output told = told
report_fields_told number (Ok sent) None output told = inr (number, cause.Status, refl)
report_fields_told number (Ok sent) (Some how) output told = report_with_told number sent how (reported_output how output)

report_told : (number : ℕ) (fields : List (List ℕ)) → IfErr (report_of number fields) IsFileFault
report_told number [] = inr (number, cause.Fields, refl)
report_told number (a ∷ []) = inr (number, cause.Fields, refl)
report_told number (a ∷ b ∷ []) = inr (number, cause.Fields, refl)
report_told number (a ∷ b ∷ c ∷ []) = inr (number, cause.Fields, refl)
report_told number (a ∷ b ∷ c ∷ d ∷ []) = inr (number, cause.Fields, refl)
report_told number (a ∷ b ∷ c ∷ d ∷ e ∷ []) = report_fields_told number (send_of number (a ∷ b ∷ c ∷ [])) (status_of d) e (send_told number (a ∷ b ∷ c ∷ []))
report_told number (a ∷ b ∷ c ∷ d ∷ e ∷ f ∷ more) = inr (number, cause.Fields, refl)

-- a file of reports
pub reports_told : (file : List ℕ) (result : Result (List ReportRow) Fault) → IsOrWantsMemory result (reports_of_file file) → IfErr result IsFileFault
reports_told = read_told report_of report_told reports_header

-- ---- a whole file

-- what was read of a file of rows whose faults and ranges are known
pub file_read : {R : Type 0} (rows_of : List ℕ → Result (List R) Fault) (AreRows : List R → Type 0) → ((file : List ℕ) (result : Result (List R) Fault) → IsOrWantsMemory result (rows_of file) → IfErr result IsFileFault) → ((file : List ℕ) (result : Result (List R) Fault) → IsOrWantsMemory result (rows_of file) → IfOk result AreRows)
    → (file : List ℕ) (result : Result (List R) Fault) → IsOrWantsMemory result (rows_of file) → TellsTooLong result file → IfOk result (λ rows. length rows ≤ most_rows) → ReadsFile result file rows_of AreRows
file_read rows_of AreRows told ranged file result exact long few = record { exact = exact; long = long; told = told file result exact; few = few; ranged = ranged file result exact }
