-- What each row of a file of sends or reports meets and makes, and which instances a file leaves.
use Rattle.std.specs.Prelude.{◌≡◌, ◌≢◌, ◌↔◌, ℕ, List, [], ◌∷◌, Option, Some, None, Ok, IfSome, slice_get}
use Rattle.std.specs.Option.{option_and_then}
use Rattle.wu_core.specs.declared.import.ImportKind.TheVariants as kind
use Rattle.wu_core.specs.declared.workunit.HostClass.{HostClass}
use Rattle.wu_core.specs.declared.workunit.Instance.{Instance}
use Rattle.wu_core.specs.declared.workunit.Workunit.{Workunit}
use Rattle.wu_core.specs.Classes.{class_of}
use Rattle.wu_core.specs.World.{World}
use Rattle.wu_feed.specs.declared.reports.ReportRow.{ReportRow}
use Rattle.wu_feed.specs.declared.sends.SendRow.{SendRow}
use Rattle.wu_feed.specs.Reports.{reports_of_file}
use Rattle.wu_feed.specs.Sends.{sends_of_file}
use Rattle.wu_rules.specs.declared.verdicts.ReportVerdict.TheVariants as report
use Rattle.wu_rules.specs.declared.verdicts.SendVerdict.TheVariants as send
use Rattle.wu_rules.specs.Reporting.{report_verdict_in}
use Rattle.wu_rules.specs.Sending.{send_verdict_in}
use Rattle.wu_rules.specs.Verdicts.{report_verdict_code, send_verdict_code}
use Rattle.wu_rules_laws.specs.Rows.{IsReported, IsSent}
use Rattle.wu_machine.specs.Imports.{import_of, reported_given, sent_given}
use Rattle.wu_machine.specs.Machine.{reply, step}
use Rattle.wu_machine.specs.Requests.{AskReported, AskSent, Imported}
use Rattle.wu_machine.specs.Worlds.{workunit_named}
use Rattle.wu_machine_laws.specs.Files.{MayReport, MaySend, OfInstance, OfNamed}
use Rattle.wu_machine_laws.specs.Leaving.{ChangesNamed}

-- The instance of this number of the workunit of this name.
abbrev pub instance_in : World → List ℕ → ℕ → Option Instance
instance_in world name n = option_and_then (λ (w : Workunit). slice_get w.instances n) (workunit_named world name)

-- Each other instance of the workunit of this name, and each other workunit, stays as it was.
pub record LeavesAllBut (name : List ℕ) (n : ℕ) (old new : World) : Type 0 where
  pub instances : (k : ℕ) → k ≢ n → instance_in new name k ≡ instance_in old name k
  pub workunits : ChangesNamed (name ∷ []) old new

-- The verdict on a row is that of its workunit, or `unknown` if no workunit has its name.
pub record IsVerdict (world : World) (name : List ℕ) (on : Workunit → ℕ) (unknown verdict : ℕ) : Type 0 where
  pub present : IfSome (workunit_named world name) (λ w. verdict ≡ on w)
  pub absent : workunit_named world name ≡ None → verdict ≡ unknown

-- An applied row makes of its instance what this relation says.
abbrev pub MakesOf : World → World → List ℕ → ℕ → (Workunit → Instance → Instance → Type 0) → Type 0
MakesOf old new name n Becomes =
    (w : Workunit) (i : Instance) → workunit_named old name ≡ Some w → slice_get w.instances n ≡ Some i
    → OfNamed new name (OfInstance n (Becomes w i))

-- A send gets the verdict that its workunit gives, with these classes of hosts. It is applied exactly if it may be, and
-- then changes only its instance, as it says. A skipped send leaves the world.
pub record TakesSend (classes : List HostClass) (row : SendRow) (verdict : ℕ) (old new : World) : Type 0 where
  pub told : IsVerdict old row.workunit (λ w. send_verdict_code (send_verdict_in w row.n row.host (class_of classes row.host)))
      (send_verdict_code send.Unknown) verdict
  pub applied : (verdict ≡ 0) ↔ MaySend classes old row
  pub sent : verdict ≡ 0 → MakesOf old new row.workunit row.n (λ w. IsSent w row.host row.moment)
  pub others : LeavesAllBut row.workunit row.n old new
  pub skipped : verdict ≢ 0 → new ≡ old

-- A report gets the verdict that its workunit gives. It is applied exactly if it may be, and then changes only its
-- instance, as it says. A skipped report leaves the world.
pub record TakesReport (row : ReportRow) (verdict : ℕ) (old new : World) : Type 0 where
  pub told : IsVerdict old row.workunit
      (λ w. report_verdict_code (report_verdict_in w row.n row.host row.moment))
      (report_verdict_code report.Unknown) verdict
  pub applied : (verdict ≡ 0) ↔ MayReport old row
  pub reported : verdict ≡ 0
      → MakesOf old new row.workunit row.n (λ w. IsReported row.moment row.status row.output)
  pub others : LeavesAllBut row.workunit row.n old new
  pub skipped : verdict ≢ 0 → new ≡ old

-- Each row is taken with its verdict, in the world as the rows before it left it.
unfoldable pub RowByRow : {Row : Type 0} → (Row → ℕ → World → World → Type 0) → List Row → List ℕ → World → World → Type 0
RowByRow Takes [] [] old new = new.workunits ≡ old.workunits
RowByRow Takes [] (verdict ∷ verdicts) old new = ⊥
RowByRow Takes (row ∷ rows) [] old new = ⊥
RowByRow Takes (row ∷ rows) (verdict ∷ verdicts) old new = (between : World) × Takes row verdict old between × RowByRow Takes rows verdicts between new

-- No applied row is of this instance.
abbrev pub NoneIsOf : {Row : Type 0} → (Row → List ℕ) → (Row → ℕ) → List Row → List ℕ → List ℕ → ℕ → Type 0
NoneIsOf {Row} workunit place rows verdicts name n =
    (k : ℕ) (row : Row) → slice_get rows k ≡ Some row → slice_get verdicts k ≡ Some 0 → name ≡ workunit row → n ≢ place row

-- A new file takes its rows so, and leaves each instance that no applied row is of.
pub record SeesRows (world : World) (name file verdicts : List ℕ) : Type 0 where
  pub sent : (rows : List SendRow) → import_of world (sent_given name file) ≡ None
      → sends_of_file file ≡ Ok rows
      → reply world (AskSent name file) ≡ Ok (Imported kind.Sent name 0 verdicts)
      → RowByRow (TakesSend world.classes) rows verdicts world (step world (AskSent name file))
  pub reported : (rows : List ReportRow) → import_of world (reported_given name file) ≡ None
      → reports_of_file file ≡ Ok rows
      → reply world (AskReported name file) ≡ Ok (Imported kind.Reported name 0 verdicts)
      → RowByRow TakesReport rows verdicts world (step world (AskReported name file))

abbrev pub RowsSeeRows : Type 0
RowsSeeRows = (world : World) (name file verdicts : List ℕ) → SeesRows world name file verdicts

pub record LeavesInstances (world : World) (name file verdicts : List ℕ) : Type 0 where
  pub sent : (rows : List SendRow) → import_of world (sent_given name file) ≡ None
      → sends_of_file file ≡ Ok rows
      → reply world (AskSent name file) ≡ Ok (Imported kind.Sent name 0 verdicts)
      → (workunit : List ℕ) (n : ℕ) → NoneIsOf (λ (row : SendRow). row.workunit) (λ row. row.n) rows verdicts workunit n
      → instance_in (step world (AskSent name file)) workunit n ≡ instance_in world workunit n
  pub reported : (rows : List ReportRow) → import_of world (reported_given name file) ≡ None
      → reports_of_file file ≡ Ok rows
      → reply world (AskReported name file) ≡ Ok (Imported kind.Reported name 0 verdicts)
      → (workunit : List ℕ) (n : ℕ) → NoneIsOf (λ (row : ReportRow). row.workunit) (λ row. row.n) rows verdicts workunit n
      → instance_in (step world (AskReported name file)) workunit n ≡ instance_in world workunit n

abbrev pub LeavesUnnamedInstances : Type 0
LeavesUnnamedInstances = (world : World) (name file verdicts : List ℕ) → LeavesInstances world name file verdicts
