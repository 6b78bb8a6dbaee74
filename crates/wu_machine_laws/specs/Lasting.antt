-- What lasts over any list of requests.
use Rattle.std.specs.Prelude.{◌≡◌, ◌⊎◌, ◌↔◌, ⊤, true, false, ℕ, ◌<◌, ◌≤◌, ◌++◌, All, List, Some, None, Ok, IfSome, slice_get, take}
use Rattle.wu_core.specs.Classes.{class_of}
use Rattle.wu_core.specs.World.{World, empty_world}
use Rattle.wu_core.specs.declared.import.ImportKind.TheVariants as kind
use Rattle.wu_core.specs.declared.states.Status.TheVariants as status
use Rattle.wu_core.specs.declared.workunit.Instance.{Instance}
use Rattle.wu_core.specs.declared.workunit.Workunit.{Workunit}
use Rattle.wu_feed.specs.declared.reports.ReportRow.{ReportRow}
use Rattle.wu_feed.specs.Reports.{reports_of_file}
use Rattle.wu_rules.specs.Counts.{has_active, is_clear}
use Rattle.wu_rules.specs.Consistent.{HostsApart, IsOneClass, KeepsHosts, KeepsVerdicts}
use Rattle.wu_rules.specs.Instances.{is_active, is_in_progress}
use Rattle.wu_machine.specs.Batches.{is_one_of, taken_names}
use Rattle.wu_machine.specs.FileRows.{after_rows, report_rule}
use Rattle.wu_machine.specs.Imports.{import_of, reported_given}
use Rattle.wu_machine.specs.Machine.{fold_steps, HasValues, reply, step}
use Rattle.wu_machine.specs.Passes.{is_among}
use Rattle.wu_machine.specs.Requests.{Request, AskClasses, AskReported, Imported}
use Rattle.wu_machine.specs.Sound.{IsSound}
use Rattle.wu_machine_laws.specs.Files.{MayReport, OfInstance, OfNamed}

-- This holds of each world and of what any list of requests makes of it.
abbrev pub OverSteps : (World → World → Type 0) → Type 0
OverSteps Is = (world : World) (requests : List Request) → Is world (fold_steps world requests)

-- This holds of each sound world and of what any list of requests with values in range makes of it.
abbrev pub OverSoundSteps : (World → World → Type 0) → Type 0
OverSoundSteps Is =
    (world : World) (requests : List Request) → All HasValues requests → IsSound world → Is world (fold_steps world requests)

-- The new list begins with the old one.
abbrev pub Begins : {X : Type 0} → List X → List X → Type 0
Begins {X} old new = (more : List X) × (new ≡ old ++ more)

-- No grant, no archived row and no import is ever removed or changed.
abbrev pub GrantsLast : Type 0
GrantsLast = OverSteps (λ old new. Begins old.grants new.grants)

abbrev pub ArchiveLasts : Type 0
ArchiveLasts = OverSteps (λ old new. Begins old.archived new.archived)

abbrev pub ImportsLast : Type 0
ImportsLast = OverSteps (λ old new. Begins old.imports new.imports)

-- The number that the next workunit gets never falls.
abbrev pub NextNumberRises : Type 0
NextNumberRises = OverSteps (λ old new. old.next_number ≤ new.next_number)

-- This holds of each workunit and of what any list of requests makes of it, as long as it is present.
abbrev pub WhilePresent : (Workunit → Workunit → Type 0) → Type 0
WhilePresent Is =
    OverSoundSteps (λ old new. All (λ w. All (λ v. v.number ≡ w.number → Is w v) new.workunits) old.workunits)

-- A canonical result stays the canonical result as long as its workunit is present.
abbrev pub CanonicalResultsLast : Type 0
CanonicalResultsLast = WhilePresent (λ w v. (n : ℕ) → w.canonical ≡ Some n → v.canonical ≡ Some n)

-- A workunit keeps its name as long as it is present.
abbrev pub NamesLast : Type 0
NamesLast = WhilePresent (λ w v. v.name ≡ w.name)

-- A final verdict of an instance stays as long as its workunit is present.
abbrev pub VerdictsLast : Type 0
VerdictsLast = WhilePresent KeepsVerdicts

-- A workunit that was given up stays given up.
abbrev pub GivenUpLasts : Type 0
GivenUpLasts = WhilePresent (λ w v. is_clear w.error_mask ≡ false → is_clear v.error_mask ≡ false)

-- An instance that was sent stays with its host as long as its workunit is present.
abbrev pub HostsLast : Type 0
HostsLast = WhilePresent KeepsHosts

-- If no host has two instances of one workunit, none ever gets a second one.
abbrev pub HostsStayApart : Type 0
HostsStayApart = OverSoundSteps (λ old new. All HostsApart old.workunits → All HostsApart new.workunits)

-- In a project that began fresh, no host ever has two instances of one workunit.
abbrev pub HostsAreApart : Type 0
HostsAreApart =
    (requests : List Request) → All HasValues requests
    → All HostsApart (fold_steps empty_world requests).workunits

-- A name that a workunit or an archived row has stays taken.
abbrev pub NamesStayTaken : Type 0
NamesStayTaken =
    OverSoundSteps (λ old new. (name : List ℕ)
    → is_one_of (taken_names old) name ≡ true → is_one_of (taken_names new) name ≡ true)

-- No number is given twice: a workunit whose number was given before was present before.
abbrev pub NumbersAreGivenOnce : Type 0
NumbersAreGivenOnce =
    OverSoundSteps (λ old new. All (λ v. v.number < old.next_number → is_among old.workunits v ≡ true) new.workunits)

-- ---- classes of hosts

-- The request is not a file of classes.
abbrev pub IsNoClasses : Request → Type 0
IsNoClasses (AskClasses name file) = ⊥
IsNoClasses _ = ⊤

-- Without a file of classes each host keeps its class.
abbrev pub ClassesStay : Type 0
ClassesStay =
    (world : World) (requests : List Request) → All IsNoClasses requests
    → (fold_steps world requests).classes ≡ world.classes

-- The active instances of each workunit are at hosts of one class.
abbrev pub AreOneClass : World → Type 0
AreOneClass world = All (IsOneClass world.classes) world.workunits

-- If no instance is active, each workunit is of one class.
abbrev pub IdleWorldsAreOneClass : Type 0
IdleWorldsAreOneClass =
    (world : World) → All (λ w. has_active w ≡ false) world.workunits → AreOneClass world

-- The host of each active instance has the class that it had.
abbrev pub KeepsClass : World → World → Instance → Type 0
KeepsClass old new i =
    is_active i ≡ true
    → IfSome i.host (λ host. class_of new.classes host ≡ class_of old.classes host)

abbrev pub KeepsActiveClasses : World → World → Type 0
KeepsActiveClasses old new = All (λ w. All (KeepsClass old new) w.instances) old.workunits

-- The instance of the row is in progress, or its host has the class of its workunit.
abbrev pub IsInTime : World → ReportRow → Type 0
IsInTime world row =
    OfNamed world row.workunit
    (λ w. OfInstance row.n (λ i. is_in_progress i ≡ true) w
    ⊎ (class_of world.classes row.host ≡ w.class))

-- Each success that may be reported is in time, in the world as the rows before it left it.
abbrev pub ComeInTime : World → List ReportRow → Type 0
ComeInTime world rows =
    (k : ℕ) (row : ReportRow) → slice_get rows k ≡ Some row → row.status ≡ status.Success
    → MayReport (after_rows report_rule world (take k rows)) row
    → IsInTime (after_rows report_rule world (take k rows)) row

-- A file of classes changes no class of a host with an active instance. In a new file of reports each success is in
-- time. Nothing is asked of other requests.
abbrev pub LeavesOneClass : World → Request → Type 0
LeavesOneClass world (AskClasses name file) =
    KeepsActiveClasses world (step world (AskClasses name file))
LeavesOneClass world (AskReported name file) =
    (rows : List ReportRow) (verdicts : List ℕ) → import_of world (reported_given name file) ≡ None
    → reports_of_file file ≡ Ok rows
    → reply world (AskReported name file) ≡ Ok (Imported kind.Reported name 0 verdicts)
    → ComeInTime world rows
LeavesOneClass world _ = ⊤

-- In a sound world, a request leaves the active instances of each workunit of one class exactly if this holds.
abbrev pub OneClassStaysByStep : Type 0
OneClassStaysByStep =
    (world : World) (request : Request) → IsSound world → AreOneClass world
    → AreOneClass (step world request) ↔ LeavesOneClass world request

-- This holds of each request, in the world as those before it left it.
abbrev pub EachAsked : (World → Request → Type 0) → World → List Request → Type 0
EachAsked Is world requests =
    (k : ℕ) (request : Request) → slice_get requests k ≡ Some request
    → Is (fold_steps world (take k requests)) request

-- Any list of such requests leaves the active instances of each workunit of one class.
abbrev pub OneClassStays : Type 0
OneClassStays =
    (world : World) (requests : List Request) → All HasValues requests → IsSound world
    → EachAsked LeavesOneClass world requests → AreOneClass world
    → AreOneClass (fold_steps world requests)

-- In a project that began fresh, after a list of such requests, the active instances of each workunit are of one class.
abbrev pub OneClassSince : Type 0
OneClassSince =
    (requests : List Request) → All HasValues requests
    → EachAsked LeavesOneClass empty_world requests → AreOneClass (fold_steps empty_world requests)
