use Rattle.std.proofs.Common.{◌∙◌, ◌∷◌, [], inl, refl, sym}
use Rattle.csv.specs.Records.{fields_of}
use Rattle.wu_core.specs.Statuses.{status_of}
use Rattle.wu_feed.proofs.ReadLemmas.{passed_on}
use Rattle.wu_feed.proofs.ToldLemmas.{report_of-other, report_told, send_of_row}
use Rattle.wu_feed.specs.Sends.{send_of}
use Rattle.wu_feed.proofs.reports.read_report.Goals as goal

pub returns-in_err-sent : goal.returns-in_err-sent
returns-in_err-sent c =
    let same = passed_on c.in_err-sent.field-0.0 c.from_residual.result c.from_residual.ensures in
    let sent = send_of c.args.number (c.in-Some.name.now ∷ c.in-Some.host.now ∷ c.in-Some.moment.now ∷ []) in
    let was = rw c.both.ensures at c.in_err-sent.was in
    let told = report_told c.args.number sent c.read_send-sent.result (status_of c.in-Some.status.now) c.in-Some.output.now c.read_ending-ending.result _ (send_of_row c.args.number _ _ _)
    c.read_send-sent.ensures.exact c.read_send-sent.ensures.told c.read_ending-ending.ensures.exact c.read_ending-ending.ensures.told was in
    let found = c.in-Some.ensures.found in
    rw (same, found) (record { exact = told.0; fields = λ other. absurd (other refl); told = told.1 })

pub returns-in_default : goal.returns-in_default
returns-in_default c =
    let other = report_of-other c.args.number (fields_of c.args.row.now) c.in_default.ensures.other in
    rw c.fault_at.ensures (record { exact = inl (sym other); fields = λ _. refl; told = λ row why found e. sym other ∙ e })

pub returns : goal.returns
returns c =
    let sent = send_of c.args.number (c.in-Some.name.now ∷ c.in-Some.host.now ∷ c.in-Some.moment.now ∷ []) in
    let was = rw c.both.ensures at c.in_ok-sent.was in
    let told = report_told c.args.number sent c.read_send-sent.result (status_of c.in-Some.status.now) c.in-Some.output.now c.read_ending-ending.result _ (send_of_row c.args.number _ _ _)
    c.read_send-sent.ensures.exact c.read_send-sent.ensures.told c.read_ending-ending.ensures.exact c.read_ending-ending.ensures.told was in
    let found = c.in-Some.ensures.found in
    rw found (record { exact = told.0; fields = λ other. absurd (other refl); told = told.1 })
