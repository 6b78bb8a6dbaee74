-- The workunits that rows of a file named, each as it was before the file and as the rows left it.
use Rattle.std.specs.Prelude.{◌≡◌, ◌≢◌, ℕ, List, [], ◌∷◌, ◌++◌, map, find, bytes_eq, string_bytes, if◌then◌else◌, Option, Some, Result, IfOk, OnOk, String}
use Rattle.std.specs.declared.alloc.Global.{Global}
use Rattle.std.specs.List.{AllPairs}
use Rattle.std.specs.Option.{option_map, option_map_or}
use Rattle.wu_core.specs.declared.fault.Fault.{Fault}
use Rattle.wu_core.specs.declared.workunit.HostClass.{HostClass}
use Rattle.wu_core.specs.declared.workunit.Workunit.{Workunit}
use Rattle.wu_core.specs.Classes.{class_of}
use Rattle.wu_core.specs.World.{World}
use Rattle.wu_feed.specs.declared.reports.ReportRow.{ReportRow}
use Rattle.wu_feed.specs.declared.sends.SendRow.{SendRow}
use Rattle.wu_rules.specs.Sending.{send_verdict_in, sent_in}
use Rattle.wu_rules.specs.Verdicts.{send_verdict_code}
use Rattle.wu_core.specs.declared.import.ImportKind.{ImportKind}
use Rattle.wu_machine.specs.FileRows.{Rule, after_rows, left_by, report_rule, row_verdicts}
use Rattle.wu_machine.specs.Imports.{Given, imported, newly_imported, rows_read}
use Rattle.wu_machine.specs.Machine.{CameBefore, done, IsUpToDate, MakesNothing}
use Rattle.wu_machine.specs.Requests.{Request}
use Rattle.wu_machine.specs.Worlds.{workunit_named}
use Rattle.wu_store.specs.StandsFor.{KnowsClasses}
use Rattle.wu_store.specs.declared.changes.Change.{Change}
use Rattle.wu_store.specs.declared.changes.Change.TheVariants.{Replace}
use Rattle.wu_plans.specs.declared.touched.Touch.{Touch}

-- ---- a file of rows

-- This is asked of the machine by importing this file of rows. A new one is read as these rows, each of which has the
-- verdict of the rule; and only one that came before makes nothing.
pub record IsImportOf {Row : Type 0} (world : World) (request : Request) (given : Given) (rows : Result (List Row) Fault) (rule : Rule Row) : Type 0 where
  pub asked : IsUpToDate world → done world request ≡ imported world given
  pub read : newly_imported world given given.kind ≡ rows_read rule given world rows
  pub before : MakesNothing world request → CameBefore world given

-- A file of this kind is imported as such rows.
abbrev pub IsImportedAs : {Row : Type 0} → ImportKind → (List ℕ → List ℕ → Request) → (List ℕ → Result (List Row) Fault) → (List HostClass → Rule Row) → Type 0
IsImportedAs kind asks rows_of rule =
    (world : World) (name content : List ℕ)
    → IsImportOf world (asks name content) (record { kind = kind; name = name; template = []; content = content }) (rows_of content) (rule world.classes)

-- ---- the class on which the verdict on a row depends

-- The class of a send is that of its host, given the classes of hosts.
abbrev pub send_class : List HostClass → SendRow → ℕ
send_class classes row = class_of classes row.host

-- A report has no class.
abbrev pub no_class : List HostClass → ReportRow → ℕ
no_class classes row = 0

-- The rule of sends whose host has this class.
abbrev pub send_rule_at : ℕ → Rule SendRow
send_rule_at class = record {
  workunit = λ row. row.workunit;
  verdict = λ row w. send_verdict_code (send_verdict_in w row.n row.host class);
  image = λ row w. sent_in w row.n row.host class row.moment;
}

abbrev pub report_rule_at : ℕ → Rule ReportRow
report_rule_at class = report_rule

-- The rule of this kind of rows, given the classes of hosts.
abbrev pub rule_in : {Row : Type 0} → (ℕ → Rule Row) → (List HostClass → Row → ℕ) → List HostClass → Rule Row
rule_in rule class_in classes = record {
  workunit = λ row. (rule (class_in classes row)).workunit row;
  verdict = λ row. (rule (class_in classes row)).verdict row;
  image = λ row. (rule (class_in classes row)).image row;
}

-- ---- the workunits that were touched

-- The touched workunit of this name; `None` if it was not touched.
abbrev pub touched_named : List Touch → List ℕ → Option Touch
touched_named touched name = find (λ touch. bytes_eq touch.now.name name) touched

-- The workunit as the rows left it; one that was not touched stays as it was.
abbrev pub as_left : List Touch → Workunit → Workunit
as_left touched w = option_map_or (λ touch. touch.now) (touched_named touched w.name) w

-- The entry has the name of its workunit as its key.
abbrev pub IsUnderItsName : String Global × Touch → Type 0
IsUnderItsName entry = string_bytes entry.0 ≡ entry.1.now.name

-- The workunit before any row.
abbrev pub untouched : Workunit → Touch
untouched w = record { was = w; now = w }

-- This workunit is touched too, as it was before any row.
abbrev pub HasAlso : Workunit → List Touch → List Touch → Type 0
HasAlso w old new = (name : List ℕ) → touched_named new name ≡ if bytes_eq w.name name then Some (untouched w) else touched_named old name

-- The workunit as a row with this verdict leaves it.
abbrev pub touched_by : {Row : Type 0} → Rule Row → Row → ℕ → Touch → Touch
touched_by rule row verdict touch = record touch { now = left_by rule row verdict touch.now }

-- The workunit of the row is as the row with this verdict leaves it, and each other stays as it was.
abbrev pub LeavesBy : {Row : Type 0} → Rule Row → Row → ℕ → List Touch → List Touch → Type 0
LeavesBy rule row verdict old new =
    (name : List ℕ) → touched_named new name ≡ if bytes_eq (rule.workunit row) name
    then option_map (touched_by rule row verdict) (touched_named old name) else touched_named old name

-- The world with each touched workunit as the rows left it.
abbrev pub with_touched : List Touch → World → World
with_touched touched world = record world { workunits = map (as_left touched) world.workunits }

-- This was the present workunit of its name, and its number stays.
pub record IsImage (world : World) (touch : Touch) : Type 0 where
  pub present : workunit_named world touch.now.name ≡ Some touch.was
  pub number : touch.now.number ≡ touch.was.number

abbrev pub AreImages : World → List Touch → Type 0
AreImages world touched = (name : List ℕ) (touch : Touch) → touched_named touched name ≡ Some touch → IsImage world touch

-- No two touched workunits have the same name.
abbrev pub AreDistinct : List Touch → Type 0
AreDistinct touched = AllPairs (λ (one other : Touch). one.now.name ≢ other.now.name) touched

-- The change that replaces a touched workunit by what the rows left of it.
abbrev pub replaces : Touch → Change
replaces touch = Replace touch.was touch.now

-- This is what rows left of a world, with their verdicts.
pub record IsLeft {Row : Type 0} (rule : Rule Row) (rows : List Row) (world : World) (touched : List Touch) (verdicts : List ℕ) : Type 0 where
  pub images : AreImages world touched
  pub left : with_touched touched world ≡ after_rows rule world rows
  pub told : verdicts ≡ row_verdicts rule world rows

-- The workunit of this name is now touched if the world has one, and the world as the rows left it stays the same.
pub record IsTouched (name : List ℕ) (world : World) (old new : List Touch) : Type 0 where
  pub images : AreImages world new
  pub left : with_touched new world ≡ with_touched old world
  pub found : option_map (λ (touch : Touch). touch.now) (touched_named new name) ≡ workunit_named (with_touched new world) name

abbrev pub TouchesNamed : {T : Type 0} → List ℕ → List Touch → List Touch → Result T Fault → World → Type 0
TouchesNamed name old new result world = KnowsClasses world → AreImages world old → OnOk result (IsTouched name world old new)

-- One row more is applied or skipped, over a world with classes.
abbrev pub LeavesRow : {Row : Type 0} → (List HostClass → Rule Row) → Row → List Touch → List Touch → Result ℕ Fault → World → Type 0
LeavesRow {Row} rule row old new result world =
    KnowsClasses world → (rows : List Row) (verdicts : List ℕ) → IsLeft (rule world.classes) rows world old verdicts
    → IfOk result (λ verdict. IsLeft (rule world.classes) (rows ++ row ∷ []) world new (verdicts ++ verdict ∷ []))
