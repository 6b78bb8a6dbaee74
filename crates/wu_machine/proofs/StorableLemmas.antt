-- Files of sends, of reports and of classes keep a project one: what they apply to a workunit leaves it one that can be
-- read.
use Rattle.std.proofs.Common.{◌≡◌, ◌≢◌, ℕ, ◌<◌, ◌≤◌, ◌==◌, Bool, true, false, List, [], ◌∷◌, length, map, Option, Some, None, Result, Ok, Err, is_some, All, bytes_eq, refl, sym, ap, subst, ◌∙◌, inl, inr, arith}
use Rattle.std.proofs.lemmas.Bool.{cases_Bool, eqb-true}
use Rattle.std.proofs.lemmas.List.{length-set}
use Rattle.std.proofs.lemmas.List.Elements.{All-cons, All-from_recursion, All-head, All-nil, All-replicate, All-set, All-tail, All-weaker, recursion_from_All}
use Rattle.std.proofs.lemmas.Option.{get_or_from_slice_get, slice_get_within}
use Rattle.std.proofs.lemmas.Slice.Eq.{bytes_eq-Decides}
use Rattle.std.specs.List.{AllByRecursion}
use Rattle.std.specs.Option.{option_map_or}
use Rattle.std.specs.Prelude.{find, if◌then◌else◌, slice_get, IfSome}
use Rattle.wu_core.specs.Classes.{AreClassed, IsClassed, class_of}
use Rattle.wu_core.specs.Limits.{last_moment, longest_output}
use Rattle.wu_core.specs.Names.{is_name}
use Rattle.wu_core.specs.Workunit.{with_instance_set}
use Rattle.wu_core.specs.World.{World, Import, last_skip}
use Rattle.wu_core.specs.declared.fault.Fault.{Fault}
use Rattle.wu_core.specs.declared.fault.Fault.TheVariants.{NameUsed}
use Rattle.wu_core.specs.declared.import.ImportKind.TheVariants as kind
use Rattle.wu_core.specs.declared.states.Status.{Status}
use Rattle.wu_core.specs.declared.workunit.HostClass.{HostClass}
use Rattle.wu_core.specs.declared.workunit.Instance.{Instance}
use Rattle.wu_core.specs.declared.workunit.Workunit.{Workunit}
use Rattle.wu_feed.specs.Classes.{classes_of_file}
use Rattle.wu_feed.specs.Ranges.{IsReportRow, IsSendRow}
use Rattle.wu_feed.specs.Reports.{reports_of_file}
use Rattle.wu_feed.specs.Sends.{sends_of_file}
use Rattle.wu_feed.specs.declared.reports.ReportRow.{ReportRow}
use Rattle.wu_feed.specs.declared.sends.SendRow.{SendRow}
use Rattle.wu_core.proofs.ClassLemmas.{class_of-within, classed-set}
use Rattle.wu_feed.proofs.RangeLemmas.{classes_ranged, reports_ranged, sends_ranged}
use Rattle.wu_rules.specs.Reporting.{report_verdict_in, report_verdict_of, reported_as}
use Rattle.wu_rules.specs.Sending.{send_verdict_in, sent_to}
use Rattle.wu_rules.specs.Verdicts.{report_verdict_code, send_verdict_code}
use Rattle.wu_rules.specs.declared.verdicts.ReportVerdict.{ReportVerdict}
use Rattle.wu_rules.specs.declared.verdicts.ReportVerdict.TheVariants as report
use Rattle.wu_rules.specs.declared.verdicts.SendVerdict.{SendVerdict}
use Rattle.wu_rules.specs.declared.verdicts.SendVerdict.TheVariants as send
use Rattle.wu_core.specs.Storable.{AreStoredInstances, AreVerdicts, IsClass, IsStoredInstance, IsStorable, IsAbove}
use Rattle.wu_machine.specs.FileRows.{Rule, after_classes, after_row, after_rows, report_rule, row_verdict, row_verdicts, send_rule, unknown}
use Rattle.wu_machine.specs.Imports.{Given, classes_given, classes_read, first_answer, has_content, import_of, imported_after, kept_import, reported_given, rows_read, sent_given}
use Rattle.wu_machine.specs.Batches.{all_applied}
use Rattle.wu_machine.specs.Machine.{IsUpToDate, step}
use Rattle.wu_machine.specs.Sound.{IsProject}
use Rattle.wu_machine.specs.Requests.{AskClasses, AskReported, AskSent}
use Rattle.wu_machine.specs.Worlds.{with_host_class, with_named, workunit_named}
use Rattle.wu_machine.proofs.ApartLemmas.{Apart, apart_changed, apart_pairs, pairs_apart}
use Rattle.wu_machine.proofs.BatchKeeps.{has_classes, keeps_done, KeepsProject, keeps_if, keeps_import}
use Rattle.wu_machine.proofs.ImportLemmas.{same_rows}

-- ---- what is found can be read

pub found_is : {X : Type 0} (P : X → Type 0) (p : X → Bool) (xs : List X) → All P xs → IfSome (find p xs) P
found_is P p [] all = tt
found_is P p (x ∷ xs) all = elim (cases_Bool (p x)) [
  | inl is ↦ rw is (All-head P x xs all)
  | inr not ↦ rw not (found_is P p xs (All-tail P x xs all))
]

-- ---- a row of any kind

-- where a row is applied to a workunit that can be read, so can what it makes of it; number and name stay
pub record IsKeeping {Row : Type 0} (rule : Rule Row) (row : Row) : Type 0 where
  pub number : (w : Workunit) → (rule.image row w).number ≡ w.number
  pub name : (w : Workunit) → (rule.image row w).name ≡ w.name
  pub storable : (w : Workunit) → IsStorable w → rule.verdict row w ≡ 0 → IsStorable (rule.image row w)

module _ {Row : Type 0} (rule : Rule Row) (row : Row) (keeps : IsKeeping rule row) where
  -- a workunit after the row, if the row is applied to the one of its name
  abbrev changed : Workunit → Workunit
  changed w = if bytes_eq w.name (rule.workunit row) then rule.image row w else w

  number_kept : (w : Workunit) → (changed w).number ≡ w.number
  number_kept w = by (bytes_eq w.name (rule.workunit row))
    where
      by : (b : Bool) → (if b then rule.image row w else w).number ≡ w.number
      by true = keeps.number w
      by false = refl

  name_kept : (w : Workunit) → (changed w).name ≡ w.name
  name_kept w = by (bytes_eq w.name (rule.workunit row))
    where
      by : (b : Bool) → (if b then rule.image row w else w).name ≡ w.name
      by true = keeps.name w
      by false = refl

  above_kept : (n : ℕ) (ws : List Workunit) → IsAbove n ws → IsAbove n (map changed ws)
  above_kept n [] above = tt
  above_kept n (w ∷ ws) above = (subst (λ k. k < n) (sym (number_kept w)) above.0, above_kept n ws above.1)

  same_elsewhere : (w : Workunit) → w.name ≡ rule.workunit row → (ws : List Workunit) → AllByRecursion (λ (v : Workunit). w.name ≢ v.name) ws → map changed ws ≡ ws
  same_elsewhere w named [] others = refl
  same_elsewhere w named (v ∷ ws) others = elim (cases_Bool (bytes_eq v.name (rule.workunit row))) [
    | inl is ↦ absurd (others.0 (named ∙ sym ((bytes_eq-Decides v.name (rule.workunit row)).0 is)))
    | inr not ↦ rw not (ap (λ us. v ∷ us) (same_elsewhere w named ws others.1))
  ]

  storable_kept : (ws : List Workunit) → Apart ws → AllByRecursion IsStorable ws
      → option_map_or (rule.verdict row) (find (λ (w : Workunit). bytes_eq w.name (rule.workunit row)) ws) unknown ≡ 0 → AllByRecursion IsStorable (map changed ws)
  storable_kept [] apart storable applied = tt
  storable_kept (w ∷ ws) apart storable applied = elim (cases_Bool (bytes_eq w.name (rule.workunit row))) [
    | inl is ↦
        let named = (bytes_eq-Decides w.name (rule.workunit row)).0 is in
        let here : rule.verdict row w ≡ 0 = rw is at applied in
        let image : IsStorable (changed w) = rw is (keeps.storable w storable.0 here) in
        (image, subst (λ us. AllByRecursion IsStorable us) (sym (same_elsewhere w named ws apart.0)) storable.1)
    | inr not ↦
        let same : IsStorable (changed w) = rw not storable.0 in
        (same, storable_kept ws apart.1 storable.1 (rw not at applied))
  ]

  pub row_keeps : (world : World) → IsUpToDate world → IsProject world → IsProject (after_row rule world row)
  row_keeps world is_now project = elim (cases_Bool (row_verdict rule world row == 0)) [
    | inl applied ↦ rw applied (record {
      first = project.first;
      known = project.known;
      above = above_kept world.next_number world.workunits project.above;
      next = project.next;
      verdicts = project.verdicts;
      storable = All-from_recursion IsStorable (map changed world.workunits)
          (storable_kept world.workunits (pairs_apart world.workunits project.names) (recursion_from_All IsStorable world.workunits project.storable) (eqb-true (row_verdict rule world row) 0 applied));
      names = apart_pairs (map changed world.workunits) (apart_changed changed name_kept world.workunits (pairs_apart world.workunits project.names));
      classed = project.classed;
      classes_in_time = has_classes world is_now (with_named world (rule.workunit row) (rule.image row)) refl;
    })
    | inr skipped ↦ rw skipped project
  ]

-- ---- the rows of a file

module _ {Row : Type 0} (rule : Rule Row) where
  pub rows_keep : (rows : List Row) → All (IsKeeping rule) rows → (world : World) → IsUpToDate world → IsProject world → IsProject (after_rows rule world rows)
  rows_keep [] keeping world is project = project
  rows_keep (row ∷ rows) keeping world is project =
      rows_keep rows (All-tail (IsKeeping rule) row rows keeping) (after_row rule world row) ((same_rows rule world (row ∷ [])).version ∙ is)
      (row_keeps rule row (All-head (IsKeeping rule) row rows keeping) world is project)

  -- each verdict is one of its kind
  pub verdicts_within : (last : ℕ) → unknown ≤ last → ((row : Row) (w : Workunit) → rule.verdict row w ≤ last) → (rows : List Row) (world : World) → All (λ verdict. verdict ≤ last) (row_verdicts rule world rows)
  verdicts_within last known within [] world = All-nil (λ verdict. verdict ≤ last)
  verdicts_within last known within (row ∷ rows) world =
      All-cons (λ verdict. verdict ≤ last) (row_verdict rule world row) (row_verdicts rule (after_row rule world row) rows) (by (workunit_named world (rule.workunit row)))
      (verdicts_within last known within rows (after_row rule world row))
    where
      by : (found : Option Workunit) → option_map_or (rule.verdict row) found unknown ≤ last
      by (Some w) = within row w
      by None = known

-- ---- an instance changed at its place

-- the workunit has this class then
abbrev changed_as : Workunit → ℕ → ℕ → (Instance → Instance) → Instance → Workunit
changed_as w n class change i = record (with_instance_set w n (change i)) { class = class }

abbrev changed_at : Workunit → ℕ → ℕ → (Instance → Instance) → Workunit
changed_at w n class change = option_map_or (changed_as w n class change) (slice_get w.instances n) w

module _ (w : Workunit) (n : ℕ) (class : ℕ) (change : Instance → Instance) where
  at_number : (changed_at w n class change).number ≡ w.number
  at_number = by (slice_get w.instances n)
    where
      by : (found : Option Instance) → (option_map_or (changed_as w n class change) found w).number ≡ w.number
      by (Some i) = refl
      by None = refl

  at_name : (changed_at w n class change).name ≡ w.name
  at_name = by (slice_get w.instances n)
    where
      by : (found : Option Instance) → (option_map_or (changed_as w n class change) found w).name ≡ w.name
      by (Some i) = refl
      by None = refl

  stored_at : (i : Instance) → AreStoredInstances w.instances → slice_get w.instances n ≡ Some i → IsStoredInstance i
  stored_at i stored at = subst IsStoredInstance (get_or_from_slice_get w.instances n i i at) (stored.each n i (slice_get_within w.instances n i at))

  at_storable : IsStorable w → IsClass class → ((i : Instance) → slice_get w.instances n ≡ Some i → IsStoredInstance i → IsStoredInstance (change i))
      → IsStorable (changed_at w n class change)
  at_storable storable low keeps = by (slice_get w.instances n) refl
    where
      long : (i : Instance) → length (changed_as w n class change i).instances ≡ length w.instances
      long i = length-set w.instances n (change i)

      by : (found : Option Instance) → slice_get w.instances n ≡ found → IsStorable (option_map_or (changed_as w n class change) found w)
      by (Some i) at = record {
        number = storable.number;
        row = storable.row;
        class = low;
        instances = record {
          each = All-set IsStoredInstance w.instances n (change i) (keeps i at (stored_at i storable.instances at)) storable.instances.each;
          few = (let few = storable.instances.few in omega (arith, long i, few));
        };
        whole = record {
          within = (let within = storable.whole.within in omega (arith, long i, within));
          canonical = λ place e. (let among = storable.whole.canonical place e in omega (arith, long i, among));
        };
      }
      by None at = storable

-- ---- sends

sent_stored : (w : Workunit) (host : List ℕ) (moment : ℕ) (i : Instance) → IsStorable w → is_name host ≡ true → moment ≤ last_moment → IsStoredInstance i → IsStoredInstance (sent_to w host moment i)
sent_stored w host moment i storable named low stored = record {
  values = record {
    host = named;
    moments = record { sent_at = low; deadline = (let delay = storable.row.parameters.delay_bound.1 in omega (arith, low, delay)); received_at = stored.values.moments.received_at };
    output = stored.values.output;
  };
  formed = record { sent_with_host = refl; due_with_host = refl; unsent = λ e. cc; in_progress = λ e. refl; success = λ e f. refl };
}

send_keeps : (classes : List HostClass) → AreClassed classes → (row : SendRow) → IsSendRow row → IsKeeping (send_rule classes) row
send_keeps classes are row is = record {
  number = λ w. at_number w row.n (class_of classes row.host) (sent_to w row.host row.moment);
  name = λ w. at_name w row.n (class_of classes row.host) (sent_to w row.host row.moment);
  storable = λ w storable applied. at_storable w row.n (class_of classes row.host) (sent_to w row.host row.moment) storable (class_of-within row.host classes are)
      (λ i at stored. sent_stored w row.host row.moment i storable is.host is.moment stored);
}

send_within : (verdict : SendVerdict) → send_verdict_code verdict ≤ 4
send_within send.Applied = omega arith
send_within send.Unknown = omega arith
send_within send.NotUnsent = omega arith
send_within send.SameHost = omega arith
send_within send.Class = omega arith

-- ---- reports

reported_stored : (moment : ℕ) (status : Status) (output : List ℕ) (i : Instance) → is_some i.host ≡ true → moment ≤ last_moment → length output ≤ longest_output → IsStoredInstance i
    → IsStoredInstance (reported_as moment status output i)
reported_stored moment status output i sent low short stored = record {
  values = record {
    host = stored.values.host;
    moments = record { sent_at = stored.values.moments.sent_at; deadline = stored.values.moments.deadline; received_at = low };
    output = short;
  };
  formed = record { sent_with_host = stored.formed.sent_with_host; due_with_host = stored.formed.due_with_host; unsent = λ e. cc; in_progress = λ e. sent; success = λ e f. sent };
}

-- a report that is applied is of an instance that was sent
was_sent : (host : List ℕ) (moment : ℕ) (i : Instance) → report_verdict_of host moment i ≡ report.Applied → is_some i.host ≡ true
was_sent host moment i applied = by i.host refl
  where
    by : (o : Option (List ℕ)) → i.host ≡ o → is_some o ≡ true
    by (Some its) e = refl
    by None e = cc (rw e at applied)

-- the number 0 is that of a report that is applied
pub code_applied : (verdict : ReportVerdict) → report_verdict_code verdict ≡ 0 → verdict ≡ report.Applied
code_applied report.Applied is = refl
code_applied report.Unknown is = absurd cc
code_applied report.NotSent is = absurd cc
code_applied report.WrongHost is = absurd cc
code_applied report.BeforeSent is = absurd cc
code_applied report.Over is = absurd cc

report_keeps : (row : ReportRow) → IsReportRow row → IsKeeping report_rule row
report_keeps row is = record {
  number = λ w. at_number w row.n w.class (reported_as row.moment row.status row.output);
  name = λ w. at_name w row.n w.class (reported_as row.moment row.status row.output);
  storable = λ w storable applied.
      at_storable w row.n w.class (reported_as row.moment row.status row.output) storable storable.class (λ i at stored.
      let taken : report_verdict_in w row.n row.host row.moment ≡ report.Applied = code_applied (report_verdict_in w row.n row.host row.moment) applied in
      let here : report_verdict_of row.host row.moment i ≡ report.Applied = rw at at taken in
      reported_stored row.moment row.status row.output i (was_sent row.host row.moment i here) is.moment is.output stored);
}

report_within : (verdict : ReportVerdict) → report_verdict_code verdict ≤ 5
report_within report.Applied = omega arith
report_within report.Unknown = omega arith
report_within report.NotSent = omega arith
report_within report.WrongHost = omega arith
report_within report.BeforeSent = omega arith
report_within report.Over = omega arith

-- ---- files of them

module _ (classes : List HostClass) (rows : List SendRow) (world : World) where
  pub sends_keep : AreClassed classes → All IsSendRow rows → IsUpToDate world → IsProject world → IsProject (after_rows (send_rule classes) world rows)
  sends_keep classed are is project =
      rows_keep (send_rule classes) rows (All-weaker IsSendRow (IsKeeping (send_rule classes)) (send_keeps classes classed) rows are) world is project

  pub send_verdicts : AreVerdicts kind.Sent (row_verdicts (send_rule classes) world rows)
  send_verdicts = verdicts_within (send_rule classes) (last_skip kind.Sent) (omega arith)
      (λ row w. send_within (send_verdict_in w row.n row.host (class_of classes row.host))) rows world

module _ (rows : List ReportRow) (world : World) where
  pub reports_keep : All IsReportRow rows → IsUpToDate world → IsProject world → IsProject (after_rows report_rule world rows)
  reports_keep are is project = rows_keep report_rule rows (All-weaker IsReportRow (IsKeeping report_rule) report_keeps rows are) world is project

  pub report_verdicts : AreVerdicts kind.Reported (row_verdicts report_rule world rows)
  report_verdicts = verdicts_within report_rule (last_skip kind.Reported) (omega arith) (λ row w. report_within (report_verdict_in w row.n row.host row.moment)) rows world

-- a host's class that is set
class_keeps : (it : HostClass) → IsClassed it → (world : World) → IsUpToDate world → IsProject world → IsProject (with_host_class world it)
class_keeps it ranged world is project = record {
  first = project.first;
  known = project.known;
  above = project.above;
  next = project.next;
  verdicts = project.verdicts;
  storable = project.storable;
  names = project.names;
  classed = classed-set it.host it.class world.classes ranged project.classed;
  classes_in_time = has_classes world is (with_host_class world it) refl;
}

pub classes_keep : (rows : List HostClass) → AreClassed rows → (world : World) → IsUpToDate world → IsProject world → IsProject (after_classes world rows)
classes_keep [] are world is project = project
classes_keep (row ∷ rows) are world is project =
    classes_keep rows (All-tail IsClassed row rows are) (with_host_class world row) is (class_keeps row (All-head IsClassed row rows are) world is project)

-- each verdict on a row of classes is that it is applied
pub class_verdicts : (rows : List HostClass) → AreVerdicts kind.Classes (all_applied rows)
class_verdicts rows = All-replicate (λ verdict. verdict ≤ last_skip kind.Classes) (length rows) 0 (omega arith)

module _ (world : World) (is : IsUpToDate world) (project : IsProject world) where
  -- a new file, where its rows keep a project one and its verdicts are those of its kind
  file_keeps : {Row : Type 0} (rule : Rule Row) (given : Given) (rows : Result (List Row) Fault)
      → ((are : List Row) → rows ≡ Ok are → IsProject (after_rows rule world are) × AreVerdicts given.kind (row_verdicts rule world are)) → KeepsProject world (rows_read rule given world rows)
  file_keeps rule given (Err fault) keep = project
  file_keeps rule given (Ok rows) keep =
      let kept = keep rows refl in
      keeps_import (after_rows rule world rows) kept.0 (kept_import given 0 (row_verdicts rule world rows)) kept.1

  sent_imported : (name file : List ℕ) (earlier : Option Import) → KeepsProject world (imported_after world (sent_given name file) earlier)
  sent_imported name file (Some import) = keeps_if (has_content (sent_given name file) import) world (Ok (first_answer import, world)) (Err NameUsed) project project
  sent_imported name file None =
      file_keeps (send_rule world.classes) (sent_given name file) (sends_of_file file)
      (λ rows are. (sends_keep world.classes rows world project.classed (sends_ranged file rows are) is project, send_verdicts world.classes rows world))

  reported_imported : (name file : List ℕ) (earlier : Option Import) → KeepsProject world (imported_after world (reported_given name file) earlier)
  reported_imported name file (Some import) = keeps_if (has_content (reported_given name file) import) world (Ok (first_answer import, world)) (Err NameUsed) project project
  reported_imported name file None =
      file_keeps report_rule (reported_given name file) (reports_of_file file) (λ rows are. (reports_keep rows world (reports_ranged file rows are) is project, report_verdicts rows world))

  classes_new : (given : Given) (rows : Result (List HostClass) Fault) → given.kind ≡ kind.Classes → ((are : List HostClass) → rows ≡ Ok are → AreClassed are)
      → KeepsProject world (classes_read given world rows)
  classes_new given (Err fault) of_kind ranged = project
  classes_new given (Ok rows) of_kind ranged =
      keeps_import (after_classes world rows) (classes_keep rows (ranged rows refl) world is project) (kept_import given 0 (all_applied rows))
      (subst (λ kind. AreVerdicts kind (all_applied rows)) (sym of_kind) (class_verdicts rows))

  classes_imported : (name file : List ℕ) (earlier : Option Import) → KeepsProject world (imported_after world (classes_given name file) earlier)
  classes_imported name file (Some import) = keeps_if (has_content (classes_given name file) import) world (Ok (first_answer import, world)) (Err NameUsed) project project
  classes_imported name file None = classes_new (classes_given name file) (classes_of_file file) refl (classes_ranged file)

-- a file keeps a project one, whatever becomes of it
module _ (world : World) (project : IsProject world) (name file : List ℕ) where
  pub keeps_project_sent : IsProject (step world (AskSent name file))
  keeps_project_sent = keeps_done world (AskSent name file) project refl (λ is. sent_imported world is project name file (import_of world (sent_given name file)))

  pub keeps_project_reported : IsProject (step world (AskReported name file))
  keeps_project_reported = keeps_done world (AskReported name file) project refl
      (λ is. reported_imported world is project name file (import_of world (reported_given name file)))

  pub keeps_project_classes : IsProject (step world (AskClasses name file))
  keeps_project_classes = keeps_done world (AskClasses name file) project refl
      (λ is. classes_imported world is project name file (import_of world (classes_given name file)))
