-- Rows of files of sends, of reports and of classes: the verdict of a row on a world, and what it makes of one.
use Rattle.std.specs.Prelude.{◌≡◌, ℕ, ◌==◌, if◌then◌else◌, List, [], ◌∷◌}
use Rattle.std.specs.Option.{option_map_or}
use Rattle.wu_core.specs.declared.workunit.HostClass.{HostClass}
use Rattle.wu_core.specs.declared.workunit.Workunit.{Workunit}
use Rattle.wu_core.specs.Classes.{class_of}
use Rattle.wu_core.specs.World.{World}
use Rattle.wu_feed.specs.declared.reports.ReportRow.{ReportRow}
use Rattle.wu_feed.specs.declared.sends.SendRow.{SendRow}
use Rattle.wu_rules.specs.Reporting.{report_verdict_in, reported_in}
use Rattle.wu_rules.specs.Sending.{send_verdict_in, sent_in}
use Rattle.wu_rules.specs.Verdicts.{report_verdict_code, send_verdict_code}
use Rattle.wu_machine.specs.Worlds.{workunit_named, with_host_class, with_named}

-- What a kind of rows means: the name of a row's workunit, the number of the verdict on it, and what it makes of the
-- workunit. The number is 0 if the row is applied, else that of the reason for its skip.
pub record Rule (Row : Type 0) : Type 0 where
  pub workunit : Row → List ℕ
  pub verdict : Row → Workunit → ℕ
  pub image : Row → Workunit → Workunit

-- The rule of sends, given the classes of hosts.
abbrev pub send_rule : List HostClass → Rule SendRow
send_rule classes = record {
  workunit = λ row. row.workunit;
  verdict = λ row w. send_verdict_code (send_verdict_in w row.n row.host (class_of classes row.host));
  image = λ row w. sent_in w row.n row.host (class_of classes row.host) row.moment;
}

abbrev pub report_rule : Rule ReportRow
report_rule = record {
  workunit = λ row. row.workunit;
  verdict = λ row w. report_verdict_code (report_verdict_in w row.n row.host row.moment);
  image = λ row w. reported_in w row.n row.moment row.status row.output;
}

-- The workunit keeps its name and its number.
pub record KeepsIdentity (old new : Workunit) : Type 0 where
  pub name : new.name ≡ old.name
  pub number : new.number ≡ old.number

-- The workunit as a row with this verdict leaves it.
abbrev pub left_by : {Row : Type 0} → Rule Row → Row → ℕ → Workunit → Workunit
left_by rule row verdict w = if verdict == 0 then rule.image row w else w

-- The number of the verdict on a row whose workunit is not present.
abbrev pub unknown : ℕ
unknown = 1

abbrev pub row_verdict : {Row : Type 0} → Rule Row → World → Row → ℕ
row_verdict rule world row = option_map_or (rule.verdict row) (workunit_named world (rule.workunit row)) unknown

-- The world after a row: an applied row changes its workunit, and any other row changes nothing.
abbrev pub after_row : {Row : Type 0} → Rule Row → World → Row → World
after_row rule world row =
    if row_verdict rule world row == 0 then with_named world (rule.workunit row) (rule.image row) else world

-- The world after the rows of a file, in order; each sees what the rows before it left.
abbrev pub after_rows : {Row : Type 0} → Rule Row → World → List Row → World
after_rows rule world [] = world
after_rows rule world (row ∷ rows) = after_rows rule (after_row rule world row) rows

abbrev pub row_verdicts : {Row : Type 0} → Rule Row → World → List Row → List ℕ
row_verdicts rule world [] = []
row_verdicts rule world (row ∷ rows) = row_verdict rule world row ∷ row_verdicts rule (after_row rule world row) rows

-- The world after a file of classes: each row sets the class of its host, so that a later row wins.
abbrev pub after_classes : World → List HostClass → World
after_classes world [] = world
after_classes world (row ∷ rows) = after_classes (with_host_class world row) rows
