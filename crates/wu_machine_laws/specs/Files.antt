-- What files of sends, reports and classes make, in BOINC's words.
use Rattle.std.specs.Prelude.{◌≡◌, ◌≢◌, ◌↔◌, ℕ, ◌+◌, All, List, drop, length, slice_get, Some, None, Ok, IsSomeAnd}
use Rattle.wu_core.specs.declared.import.ImportKind.TheVariants as kind
use Rattle.wu_core.specs.declared.states.Outcome.TheVariants as outcome
use Rattle.wu_core.specs.declared.states.ServerState.TheVariants as server
use Rattle.wu_core.specs.declared.states.Status.TheVariants as status
use Rattle.wu_core.specs.declared.workunit.HostClass.{HostClass}
use Rattle.wu_core.specs.declared.workunit.Instance.{Instance}
use Rattle.wu_core.specs.declared.workunit.Workunit.{Workunit}
use Rattle.wu_core.specs.Classes.{class_of}
use Rattle.wu_core.specs.World.{World}
use Rattle.wu_feed.specs.declared.reports.ReportRow.{ReportRow}
use Rattle.wu_feed.specs.declared.sends.SendRow.{SendRow}
use Rattle.wu_feed.specs.Classes.{classes_of_file}
use Rattle.wu_feed.specs.Reports.{reports_of_file}
use Rattle.wu_feed.specs.Sends.{sends_of_file}
use Rattle.wu_rules_laws.specs.Rows.{MayBeReported, MayBeSent}
use Rattle.wu_machine.specs.Imports.{classes_given, import_of, reported_given, sent_given}
use Rattle.wu_machine.specs.Machine.{reply, step}
use Rattle.wu_machine.specs.Requests.{AskClasses, AskReported, AskSent, Imported}
use Rattle.wu_machine.specs.Worlds.{workunit_named}

-- The workunit of this name is present, and this holds of it.
abbrev pub OfNamed : World → List ℕ → (Workunit → Type 0) → Type 0
OfNamed world name P = IsSomeAnd (workunit_named world name) P

-- The workunit has an instance of this number, and this holds of it.
abbrev pub OfInstance : ℕ → (Instance → Type 0) → Workunit → Type 0
OfInstance n P w = IsSomeAnd (slice_get w.instances n) P

-- The instance is out as the row says.
pub record IsOutAs (row : SendRow) (i : Instance) : Type 0 where
  pub out : i.server_state ≡ server.InProgress
  pub host : i.host ≡ Some row.host
  pub since : i.sent_at ≡ Some row.moment

-- The instance is over as the row says.
pub record IsOverAs (row : ReportRow) (i : Instance) : Type 0 where
  pub over : (i.server_state ≡ server.Over) × (i.received_at ≡ Some row.moment)
  pub success : row.status ≡ status.Success → i.outcome ≡ outcome.Success
  pub client_error : row.status ≡ status.ClientError → i.outcome ≡ outcome.ClientError
  pub detached : row.status ≡ status.Detached → i.outcome ≡ outcome.ClientDetached
  pub output : i.output ≡ row.output

-- A file has a verdict for each row, 0 for an applied one. The first row is applied exactly if it may be. After the
-- file each applied row holds; without an applied row, the workunits are as they were.
pub record IsApplied {Row : Type 0} (rows : List Row) (verdicts : List ℕ) (May Holds : World → Row → Type 0) (old new : World)
    : Type 0 where
  pub one_each : length verdicts ≡ length rows
  pub first : (row : Row) → slice_get rows 0 ≡ Some row → (slice_get verdicts 0 ≡ Some 0)
      ↔ May old row
  pub applied : (k : ℕ) (row : Row) → slice_get rows k ≡ Some row → slice_get verdicts k ≡ Some 0
      → Holds new row
  pub skipped : All (λ verdict. verdict ≢ 0) verdicts → new.workunits ≡ old.workunits

-- Which rows may be applied, and what holds once they are.
abbrev pub MaySend : List HostClass → World → SendRow → Type 0
MaySend classes world row = OfNamed world row.workunit (λ w. MayBeSent w row.n row.host (class_of classes row.host))

abbrev pub HoldsSent : World → SendRow → Type 0
HoldsSent world row = OfNamed world row.workunit (OfInstance row.n (IsOutAs row))

abbrev pub MayReport : World → ReportRow → Type 0
MayReport world row = OfNamed world row.workunit (OfInstance row.n (MayBeReported row.host row.moment))

abbrev pub HoldsReported : World → ReportRow → Type 0
HoldsReported world row = OfNamed world row.workunit (OfInstance row.n (IsOverAs row))

-- A host that rows name then has the class of the last such row. Each other host keeps its class.
pub record GivesClasses (rows old new : List HostClass) : Type 0 where
  pub named : (k : ℕ) (row : HostClass) → slice_get rows k ≡ Some row
      → All (λ later. later.host ≢ row.host) (drop (k + 1) rows) → class_of new row.host ≡ row.class
  pub others : (host : List ℕ) → All (λ row. row.host ≢ host) rows → class_of new host ≡ class_of old host

-- A file that is new does what its rows say.
pub record AppliesRows (world : World) (name file verdicts : List ℕ) : Type 0 where
  pub sent : (rows : List SendRow) → import_of world (sent_given name file) ≡ None
      → sends_of_file file ≡ Ok rows
      → reply world (AskSent name file) ≡ Ok (Imported kind.Sent name 0 verdicts)
      → IsApplied rows verdicts (MaySend world.classes) HoldsSent world (step world (AskSent name file))
  pub reported : (rows : List ReportRow) → import_of world (reported_given name file) ≡ None
      → reports_of_file file ≡ Ok rows
      → reply world (AskReported name file) ≡ Ok (Imported kind.Reported name 0 verdicts)
      → IsApplied rows verdicts MayReport HoldsReported world (step world (AskReported name file))
  pub classed : (rows : List HostClass) → import_of world (classes_given name file) ≡ None
      → classes_of_file file ≡ Ok rows
      → reply world (AskClasses name file) ≡ Ok (Imported kind.Classes name 0 verdicts)
      → GivesClasses rows world.classes (step world (AskClasses name file)).classes

abbrev pub AppliesFiles : Type 0
AppliesFiles = (world : World) (name file verdicts : List ℕ) → AppliesRows world name file verdicts
