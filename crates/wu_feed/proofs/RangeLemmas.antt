-- What the rows of a file have that are read, and the parameters of a template.
use Rattle.std.proofs.Common.{◌≡◌, ◌≤◌, ◌<◌, ◌+◌, ◌-◌, ◌*◌, ◌==◌, ℕ, ℤ, pos, negsuc, unsigned_abs, Bool, true, false, ◌&&◌, not, nat_le, List, [], ◌∷◌, length, Result, Ok, Err, Option, Some, None, All, IfOk, if◌then◌else◌, find, arith, refl, sym, inl}
use Rattle.std.proofs.lemmas.Bool.{and_parts}
use Rattle.std.proofs.lemmas.Bool.Decides.{nat_tests}
use Rattle.std.specs.Char.{is_ascii_digit}
use Rattle.std.specs.List.{before_last, after_last, list_any}
use Rattle.hex.specs.Hex.{decode_of}
use Rattle.wu_core.specs.Classes.{AreClassed, IsClassed}
use Rattle.wu_core.specs.Limits.{highest_class, highest_quorum, highest_target, last_moment, longest_input, longest_delay, longest_output, most_credit, most_instances}
use Rattle.wu_core.specs.Names.{is_name, name_of, place_of}
use Rattle.wu_core.specs.Parameters.{IsParameters, Parameters, is_between}
use Rattle.wu_core.specs.Reads.{IsOrWantsMemory}
use Rattle.wu_core.specs.ResultNames.{instance_of, is_underscore, result_name_of}
use Rattle.wu_core.specs.Statuses.{status_of}
use Rattle.wu_core.specs.Templates.{is_whole_between, number_of, parameters_of, range_tests, template_parameters, unless_failed}
use Rattle.wu_core.specs.declared.fault.Fault.{Fault}
use Rattle.wu_core.specs.declared.fault.Fault.TheVariants.{BadFile, BadMoment, BadName, BadTemplate}
use Rattle.wu_core.specs.declared.fault.FileCause.TheVariants as cause
use Rattle.wu_core.specs.declared.fault.TemplateKey.{TemplateKey}
use Rattle.wu_core.specs.declared.fault.TemplateKey.TheVariants as key
use Rattle.wu_core.specs.declared.name.ResultName.{ResultName}
use Rattle.wu_core.specs.declared.states.Status.{Status}
use Rattle.wu_core.specs.declared.states.Status.TheVariants as status
use Rattle.wu_core.specs.declared.workunit.HostClass.{HostClass}
use Rattle.wu_core.proofs.ParameterLemmas.{all_passed}
use Rattle.toml.specs.Data.{Members}
use Rattle.wu_feed.specs.Classes.{class_written, classed, classes_header, classes_of_file, host_class_of, host_class_of_fields, host_class_of_two}
use Rattle.wu_feed.specs.Fields.{two_of}
use Rattle.wu_feed.specs.Inputs.{input_of}
use Rattle.wu_feed.specs.Jobs.{job_of, job_of_two, job_with, jobs_header, jobs_of_file}
use Rattle.wu_feed.specs.Moments.{four_at, has_shape, is_civil_date, is_clock_time, moment_at, moment_of, seconds_of, two_at}
use Rattle.wu_feed.specs.Ranges.{IsJob, IsReportRow, IsSendRow}
use Rattle.wu_feed.specs.Reports.{report_of, report_of_fields, report_with, reported_output, reports_header, reports_of_file}
use Rattle.wu_feed.specs.Sends.{send_of, send_of_fields, sends_header, sends_of_file}
use Rattle.wu_feed.specs.Templates.{document_of, has_only_keys, parameters_if, template_of, value_of_key}
use Rattle.wu_feed.specs.declared.jobs.Job.{Job}
use Rattle.wu_feed.specs.declared.reports.ReportRow.{ReportRow}
use Rattle.wu_feed.specs.declared.sends.SendRow.{SendRow}
use Rattle.wu_feed.proofs.ClassLemmas.{class_within}
use Rattle.wu_feed.proofs.InputLemmas.{short_enough-short}
use Rattle.wu_feed.proofs.RowLemmas.{rows_of_file-each}

-- ---- jobs

job_with-ranged : (row : ℕ) (name text : List ℕ) (found : Option (List ℕ)) (job : Job) → is_name name ≡ true → input_of text ≡ found → job_with row name found ≡ Ok job → IsJob job
job_with-ranged row name text (Some input) job named is e =
    let same : record { name = name; input = input } ≡ job = cc e in
    rw (← same) (record { name = named; input = short_enough-short longest_input (decode_of text) input is })
job_with-ranged row name text None job named is e = cc e

job_of-ranged : (row : ℕ) (fields : List (List ℕ)) (job : Job) → job_of row fields ≡ Ok job → IsJob job
job_of-ranged row fields job e = two (two_of fields) e
  where
    named : (b : Bool) (pair : List ℕ × List ℕ) → is_name pair.0 ≡ b → (if b then job_with row pair.0 (input_of pair.1) else Err (BadFile row cause.Name)) ≡ Ok job → IsJob job
    named true pair is e = job_with-ranged row pair.0 pair.1 (input_of pair.1) job is refl e
    named false pair is e = cc e

    two : (o : Option (List ℕ × List ℕ)) → job_of_two row o ≡ Ok job → IsJob job
    two (Some pair) e = named (is_name pair.0) pair refl e
    two None e = cc e

pub jobs_read : (file : List ℕ) (result : Result (List Job) Fault) → IsOrWantsMemory result (jobs_of_file file) → IfOk result (All IsJob)
jobs_read = rows_of_file-each job_of IsJob job_of-ranged jobs_header

-- the jobs of a file
pub jobs_ranged : (file : List ℕ) (jobs : List Job) → jobs_of_file file ≡ Ok jobs → All IsJob jobs
jobs_ranged file jobs is = jobs_read file (Ok jobs) (inl (sym is))

-- ---- sends

place_within : (text : List ℕ) (n : ℕ) → place_of text ≡ Some n → n < most_instances
place_within [] n e = cc e
place_within (ones ∷ []) n e = by (is_ascii_digit ones) refl e
  where
    by : (b : Bool) → is_ascii_digit ones ≡ b → (if b then Some (ones - 48) else None) ≡ Some n → n < most_instances
    by true digit e = let same : ones - 48 ≡ n = cc e in grind (arith, nat_tests)
    by false digit e = cc e
place_within (tens ∷ ones ∷ []) n e = by (is_ascii_digit tens) (is_ascii_digit ones) (not (tens == 48)) refl refl e
  where
    by : (a b c : Bool) → is_ascii_digit tens ≡ a → is_ascii_digit ones ≡ b → (if a && b && c then Some (10 * (tens - 48) + (ones - 48)) else None) ≡ Some n → n < most_instances
    by true true true first second e = let same : 10 * (tens - 48) + (ones - 48) ≡ n = cc e in grind (arith, nat_tests)
    by true true false first second e = cc e
    by true false c first second e = cc e
    by false b c first second e = cc e
place_within (a ∷ b ∷ c ∷ more) n e = cc e

-- a name of an instance, as it is read
abbrev IsPlaced : ResultName → Type 0
IsPlaced name = (is_name name.workunit ≡ true) × (name.n < most_instances)

instance_placed : (text digits : List ℕ) (place : Option ℕ) (name : ResultName) → is_name text ≡ true → place_of digits ≡ place → instance_of text place ≡ Ok name → IsPlaced name
instance_placed text digits (Some n) name named is e =
    let same : record { workunit = text; n = n } ≡ name = cc e in
    rw (← same) (named, place_within digits n is)
instance_placed text digits None name named is e = cc e

result_name_placed : (text : List ℕ) (name : ResultName) → result_name_of text ≡ Ok name → IsPlaced name
result_name_placed text name e = by (list_any is_underscore text) (is_name (before_last is_underscore text)) refl e
  where
    by : (parted named : Bool) → is_name (before_last is_underscore text) ≡ named
        → (if parted && named then instance_of (before_last is_underscore text) (place_of (after_last is_underscore text)) else Err BadName) ≡ Ok name → IsPlaced name
    by true true is e = instance_placed (before_last is_underscore text) (after_last is_underscore text) (place_of (after_last is_underscore text)) name is refl e
    by true false is e = cc e
    by false named is e = cc e

name_is_one : (text name : List ℕ) → name_of text ≡ Ok name → is_name name ≡ true
name_is_one text name e = by (is_name text) refl e
  where
    by : (b : Bool) → is_name text ≡ b → (if b then Ok text else Err BadName) ≡ Ok name → is_name name ≡ true
    by true is e = let same : text ≡ name = cc e in rw (← same) is
    by false is e = cc e

moment_at-within : (year month day hour minute second moment : ℕ) → moment_at year month day hour minute second ≡ Ok moment → moment ≤ last_moment
moment_at-within year month day hour minute second moment e = by (is_civil_date year month day) (is_clock_time hour minute second) (seconds_of year month day hour minute second) e
  where
    within : (n : ℕ) (b : Bool) → is_between 0 last_moment (pos n) ≡ b → (if b then Ok n else Err BadMoment) ≡ Ok moment → moment ≤ last_moment
    within n true is e =
        let same : n ≡ moment = cc e in
        let low : nat_le n last_moment ≡ true = (and_parts (nat_le 0 n) (nat_le n last_moment) is).1 in
        rw (← same) (grind (arith, nat_tests))
    within n false is e = cc e

    by : (date clock : Bool) (seconds : ℤ) → (if date && clock && is_between 0 last_moment seconds then Ok (unsigned_abs seconds) else Err BadMoment) ≡ Ok moment → moment ≤ last_moment
    by true true (pos n) e = within n (is_between 0 last_moment (pos n)) refl e
    by true true (negsuc n) e = cc e
    by true false seconds e = cc e
    by false clock seconds e = cc e

moment_within : (text : List ℕ) (moment : ℕ) → moment_of text ≡ Ok moment → moment ≤ last_moment
moment_within text moment e = by (has_shape text) e
  where
    by : (b : Bool) → (if b then moment_at (four_at text 0) (two_at text 5) (two_at text 8) (two_at text 11) (two_at text 14) (two_at text 17) else Err BadMoment) ≡ Ok moment → moment ≤ last_moment
    by true e = moment_at-within (four_at text 0) (two_at text 5) (two_at text 8) (two_at text 11) (two_at text 14) (two_at text 17) moment e
    by false e = cc e

send_fields-ranged : (row : ℕ) (name : Result ResultName Fault) (host : Result (List ℕ) Fault) (moment : Result ℕ Fault) (send : SendRow)
    → ((is : ResultName) → name ≡ Ok is → IsPlaced is) → ((is : List ℕ) → host ≡ Ok is → is_name is ≡ true) → ((is : ℕ) → moment ≡ Ok is → is ≤ last_moment)
    → send_of_fields row name host moment ≡ Ok send → IsSendRow send
send_fields-ranged row (Ok name) (Ok host) (Ok moment) send placed named within e =
    let same : record { workunit = name.workunit; n = name.n; host = host; moment = moment } ≡ send = cc e in
    rw (← same) (record { workunit = (placed name refl).0; place = (placed name refl).1; host = named host refl; moment = within moment refl })
send_fields-ranged row (Ok name) (Ok host) (Err why) send placed named within e = cc e
send_fields-ranged row (Ok name) (Err why) moment send placed named within e = cc e
send_fields-ranged row (Err why) host moment send placed named within e = cc e

send_of-ranged : (row : ℕ) (fields : List (List ℕ)) (send : SendRow) → send_of row fields ≡ Ok send → IsSendRow send
send_of-ranged row [] send e = cc e
send_of-ranged row (a ∷ []) send e = cc e
send_of-ranged row (a ∷ b ∷ []) send e = cc e
send_of-ranged row (a ∷ b ∷ c ∷ []) send e =
    send_fields-ranged row (result_name_of a) (name_of b) (moment_of c) send (result_name_placed a) (name_is_one b) (moment_within c) e
send_of-ranged row (a ∷ b ∷ c ∷ d ∷ more) send e = cc e

pub sends_read : (file : List ℕ) (result : Result (List SendRow) Fault) → IsOrWantsMemory result (sends_of_file file) → IfOk result (All IsSendRow)
sends_read = rows_of_file-each send_of IsSendRow send_of-ranged sends_header

-- the sends of a file
pub sends_ranged : (file : List ℕ) (sends : List SendRow) → sends_of_file file ≡ Ok sends → All IsSendRow sends
sends_ranged file sends is = sends_read file (Ok sends) (inl (sym is))

-- ---- classes

host_class_fields-ranged : (row : ℕ) (host : Result (List ℕ) Fault) (class : Option ℕ) (it : HostClass) → ((is : List ℕ) → host ≡ Ok is → is_name is ≡ true)
    → ((is : ℕ) → class ≡ Some is → (1 ≤ is) × (is ≤ highest_class)) → host_class_of_fields row host class ≡ Ok it → IsClassed it
host_class_fields-ranged row (Ok host) (Some class) it named within e =
    let same : classed host class ≡ it = cc e in
    rw (← same) (record { host = named host refl; named = (within class refl).0; within = (within class refl).1 })
host_class_fields-ranged row (Ok host) None it named within e = cc e
host_class_fields-ranged row (Err why) class it named within e = cc e

host_class_of-ranged : (row : ℕ) (fields : List (List ℕ)) (it : HostClass) → host_class_of row fields ≡ Ok it → IsClassed it
host_class_of-ranged row fields it e = two (two_of fields) e
  where
    two : (o : Option (List ℕ × List ℕ)) → host_class_of_two row o ≡ Ok it → IsClassed it
    two (Some pair) e = host_class_fields-ranged row (name_of pair.0) (class_written pair.1) it (name_is_one pair.0) (class_within pair.1) e
    two None e = cc e

pub classes_read : (file : List ℕ) (result : Result (List HostClass) Fault) → IsOrWantsMemory result (classes_of_file file) → IfOk result AreClassed
classes_read = rows_of_file-each host_class_of IsClassed host_class_of-ranged classes_header

-- the hosts and their classes of a file
pub classes_ranged : (file : List ℕ) (classes : List HostClass) → classes_of_file file ≡ Ok classes → AreClassed classes
classes_ranged file classes is = classes_read file (Ok classes) (inl (sym is))

-- ---- reports

no_bytes : (output : List ℕ) → Some [] ≡ Some output → length output ≤ longest_output
no_bytes output e = let same : [] ≡ output = cc e in rw (← same) (omega arith)

reported_output-short : (how : Status) (text output : List ℕ) → reported_output how text ≡ Some output → length output ≤ longest_output
reported_output-short status.Success text output e = short_enough-short longest_output (decode_of text) output e
reported_output-short status.ClientError [] output e = no_bytes output e
reported_output-short status.ClientError (x ∷ more) output e = cc e
reported_output-short status.Detached [] output e = no_bytes output e
reported_output-short status.Detached (x ∷ more) output e = cc e

report_with-ranged : (row : ℕ) (sent : SendRow) (how : Status) (text : List ℕ) (found : Option (List ℕ)) (report : ReportRow) → IsSendRow sent → reported_output how text ≡ found
    → report_with row sent how found ≡ Ok report → IsReportRow report
report_with-ranged row sent how text (Some output) report send is e =
    let same : record { workunit = sent.workunit; n = sent.n; host = sent.host; moment = sent.moment; status = how; output = output } ≡ report = cc e in
    rw (← same) (record { workunit = send.workunit; place = send.place; host = send.host; moment = send.moment; output = reported_output-short how text output is })
report_with-ranged row sent how text None report send is e = cc e

report_fields-ranged : (row : ℕ) (sent : Result SendRow Fault) (how : Option Status) (text : List ℕ) (report : ReportRow) → ((is : SendRow) → sent ≡ Ok is → IsSendRow is)
    → report_of_fields row sent how text ≡ Ok report → IsReportRow report
report_fields-ranged row (Err why) how text report send e = cc e
report_fields-ranged row (Ok sent) None text report send e = cc e
report_fields-ranged row (Ok sent) (Some how) text report send e = report_with-ranged row sent how text (reported_output how text) report (send sent refl) refl e

report_of-ranged : (row : ℕ) (fields : List (List ℕ)) (report : ReportRow) → report_of row fields ≡ Ok report → IsReportRow report
report_of-ranged row [] report e = cc e
report_of-ranged row (a ∷ []) report e = cc e
report_of-ranged row (a ∷ b ∷ []) report e = cc e
report_of-ranged row (a ∷ b ∷ c ∷ []) report e = cc e
report_of-ranged row (a ∷ b ∷ c ∷ d ∷ []) report e = cc e
report_of-ranged row (a ∷ b ∷ c ∷ d ∷ f ∷ []) report e =
    report_fields-ranged row (send_of row (a ∷ b ∷ c ∷ [])) (status_of d) f report (λ sent is. send_of-ranged row (a ∷ b ∷ c ∷ []) sent is) e
report_of-ranged row (a ∷ b ∷ c ∷ d ∷ f ∷ g ∷ more) report e = cc e

pub reports_read : (file : List ℕ) (result : Result (List ReportRow) Fault) → IsOrWantsMemory result (reports_of_file file) → IfOk result (All IsReportRow)
reports_read = rows_of_file-each report_of IsReportRow report_of-ranged reports_header

-- the reports of a file
pub reports_ranged : (file : List ℕ) (reports : List ReportRow) → reports_of_file file ≡ Ok reports → All IsReportRow reports
reports_ranged file reports is = reports_read file (Ok reports) (inl (sym is))

-- ---- templates

-- a value that passes its test
whole_within : (low high : ℕ) (value : Option ℤ) → is_whole_between low high value ≡ true → (low ≤ number_of value) × (number_of value ≤ high)
whole_within low high (Some (pos n)) is =
    let parts = and_parts (nat_le low n) (nat_le n high) is in
    (grind (arith, nat_tests, parts.0), grind (arith, nat_tests, parts.1))
whole_within low high (Some (negsuc n)) is = cc is
whole_within low high None is = cc is

-- a target that a template may set is one that a workunit may have
raisable : (target : ℕ) → target ≤ highest_quorum → target ≤ highest_target
raisable target low = omega (arith, low)

tested : (value : TemplateKey → Option ℤ) → find (λ test. not test.1) (range_tests value) ≡ None → IsParameters (parameters_of value)
tested value none =
    let passed = all_passed (range_tests value) none in
    let between = whole_within (number_of (value key.MinQuorum)) highest_quorum (value key.TargetNresults) passed.1.0 in
    record {
      min_quorum = whole_within 1 highest_quorum (value key.MinQuorum) passed.0;
      target_nresults = (between.0, raisable (number_of (value key.TargetNresults)) between.1);
      max_error_results = (whole_within 0 most_instances (value key.MaxErrorResults) passed.1.1.0).1;
      max_total_results = whole_within 1 most_instances (value key.MaxTotalResults) passed.1.1.1.0;
      max_success_results = (whole_within 0 most_instances (value key.MaxSuccessResults) passed.1.1.1.1.0).1;
      delay_bound = whole_within 1 longest_delay (value key.DelayBound) passed.1.1.1.1.1.0;
      credit = (whole_within 0 most_credit (value key.Credit) passed.1.1.1.1.1.1.0).1;
    }

template_parameters-ranged : (value : TemplateKey → Option ℤ) (params : Parameters) → template_parameters value ≡ Ok params → IsParameters params
template_parameters-ranged value params e = by (find (λ test. not test.1) (range_tests value)) refl e
  where
    by : (failed : Option (TemplateKey × Bool)) → find (λ test. not test.1) (range_tests value) ≡ failed → unless_failed failed (parameters_of value) ≡ Ok params → IsParameters params
    by (Some failed) is e = cc e
    by None is e = let same : parameters_of value ≡ params = cc e in rw (← same) (tested value is)

-- the parameters of a template
pub template_ranged : (text : List ℕ) (params : Parameters) → template_of text ≡ Ok params → IsParameters params
template_ranged text params e = by (document_of text) e
  where
    only : (document : Members) (b : Bool) → (if b then template_parameters (value_of_key document) else Err (BadTemplate key.Unknown)) ≡ Ok params → IsParameters params
    only document true e = template_parameters-ranged (value_of_key document) params e
    only document false e = cc e

    by : (document : Option Members) → parameters_if document ≡ Ok params → IsParameters params
    by (Some document) e = only document (has_only_keys document) e
    by None e = cc e
