-- Files of reports: a header `result,host,moment,status,output`, and a row for each instance that was reported.
use Rattle.std.specs.Prelude.{ℕ, codes, List, [], ◌∷◌, Option, Some, None, Result, Ok, Err}
use Rattle.wu_core.specs.declared.fault.Fault.{Fault}
use Rattle.wu_core.specs.declared.fault.Fault.TheVariants.{BadFile}
use Rattle.wu_core.specs.declared.fault.FileCause.TheVariants as cause
use Rattle.wu_core.specs.declared.states.Status.{Status}
use Rattle.wu_core.specs.declared.states.Status.TheVariants as status
use Rattle.wu_core.specs.Statuses.{status_of}
use Rattle.wu_feed.specs.Inputs.{output_of}
use Rattle.wu_feed.specs.Rows.{rows_of_file}
use Rattle.wu_feed.specs.Sends.{send_of}
use Rattle.wu_feed.specs.declared.sends.SendRow.{SendRow}
use Rattle.wu_feed.specs.declared.reports.ReportRow.{ReportRow}

abbrev pub reports_header : List (List ℕ)
reports_header = codes "result" ∷ codes "host" ∷ codes "moment" ∷ codes "status" ∷ codes "output" ∷ []

-- The output of a report: a success has one in hex; any other status has none.
abbrev pub reported_output : Status → List ℕ → Option (List ℕ)
reported_output status.Success text = output_of text
reported_output _ [] = Some []
reported_output _ _ = None

abbrev pub report_with : ℕ → SendRow → Status → Option (List ℕ) → Result ReportRow Fault
report_with row sent status (Some output) = Ok (record { workunit = sent.workunit; n = sent.n; host = sent.host; moment = sent.moment; status = status; output = output })
report_with row sent status None = Err (BadFile row cause.Output)

-- A status and its output; without an output a fault.
abbrev pub ending_with : ℕ → Status → Option (List ℕ) → Result (Status × List ℕ) Fault
ending_with row status (Some output) = Ok (status, output)
ending_with row status None = Err (BadFile row cause.Output)

abbrev pub ending_of : ℕ → Option Status → List ℕ → Result (Status × List ℕ) Fault
ending_of row (Some status) output = ending_with row status (reported_output status output)
ending_of row None output = Err (BadFile row cause.Status)

-- A report, from its fields; the first field that is wrong decides the fault.
abbrev pub report_of_fields : ℕ → Result SendRow Fault → Option Status → List ℕ → Result ReportRow Fault
report_of_fields row (Err fault) status output = Err fault
report_of_fields row (Ok sent) None output = Err (BadFile row cause.Status)
report_of_fields row (Ok sent) (Some status) output = report_with row sent status (reported_output status output)

-- The report of a row's fields (instance, host, moment, status and output), or the first fault.
abbrev pub report_of : ℕ → List (List ℕ) → Result ReportRow Fault
report_of row (name ∷ host ∷ moment ∷ status ∷ output ∷ []) =
    report_of_fields row (send_of row (name ∷ host ∷ moment ∷ [])) (status_of status) output
report_of row _ = Err (BadFile row cause.Fields)

-- The reports of a file, or its first fault.
abbrev pub reports_of_file : List ℕ → Result (List ReportRow) Fault
reports_of_file = rows_of_file reports_header report_of
