-- What a request leaves of the workunits of a world, which it removes, and which it adds.
use Rattle.std.specs.Prelude.{◌≡◌, ◌≢◌, ◌⊎◌, ℕ, ◌+◌, ◌<◌, true, false, not, All, List, [], ◌∷◌, ◌++◌, filter, length, map, slice_get, Some, None, Ok, Err, IsSomeAnd}
use Rattle.wu_core.specs.declared.import.ImportKind.TheVariants as kind
use Rattle.wu_core.specs.declared.states.Assimilate.TheVariants as assimilate
use Rattle.wu_core.specs.declared.states.FileDelete.TheVariants as file_delete
use Rattle.wu_core.specs.declared.fault.Fault.{Fault}
use Rattle.wu_core.specs.declared.fault.Fault.TheVariants.{OldSchema}
use Rattle.wu_core.specs.declared.workunit.Workunit.{Workunit}
use Rattle.wu_core.specs.Parameters.{Parameters}
use Rattle.wu_core.specs.World.{World, IsInOrder}
use Rattle.wu_feed.specs.declared.jobs.Job.{Job}
use Rattle.wu_feed.specs.declared.reports.ReportRow.{ReportRow}
use Rattle.wu_feed.specs.declared.sends.SendRow.{SendRow}
use Rattle.wu_feed.specs.Jobs.{jobs_of_file}
use Rattle.wu_feed.specs.Reports.{reports_of_file}
use Rattle.wu_feed.specs.Sends.{sends_of_file}
use Rattle.wu_feed.specs.Templates.{template_of}
use Rattle.wu_rules.specs.Assimilation.{is_purgeable}
use Rattle.wu_rules.specs.Counts.{is_undecided}
use Rattle.wu_rules.specs.declared.due.Pass.TheVariants.{Purge}
use Rattle.wu_rules.specs.Due.{chosen}
use Rattle.wu_machine.specs.Batches.{is_one_of}
use Rattle.wu_machine.specs.Imports.{batch_given, import_of}
use Rattle.wu_machine.specs.Machine.{fold_steps, IsUpToDate, MakesNothing, present_version, reply, step}
use Rattle.wu_machine.specs.Passes.{is_among, passed}
use Rattle.wu_machine.specs.Requests.{Request, AskBatch, AskCancel, AskClasses, AskPass, AskReported, AskSent, AskUpgrade, Cancelled, Imported, Upgraded}
use Rattle.wu_machine.specs.Sound.{IsProject}
use Rattle.wu_machine.specs.Worlds.{workunit_named}
use Rattle.wu_rules_laws.specs.Laws.{IsCancelled}
use Rattle.wu_machine_laws.specs.Lasting.{Begins}

-- ---- what is removed

-- The request is a purge, at a moment and a least age at which the workunit may be purged.
abbrev pub TakesAway : Request → Workunit → Type 0
TakesAway (AskPass Purge now limit min_age) w = is_purgeable w now min_age ≡ true
TakesAway _ w = ⊥

-- A workunit is present after a request, unless the request is a purge that may remove it.
abbrev pub GoesByPurgeAlone : Type 0
GoesByPurgeAlone =
    (world : World) (request : Request) → IsInOrder world
    → All (λ w. (is_among (step world request).workunits w ≡ true) ⊎ TakesAway request w) world.workunits

-- A workunit that a purge takes is no longer present.
abbrev pub PurgedIsGone : Type 0
PurgedIsGone =
    (now min_age limit : ℕ) (world : World)
    → All (λ w. is_among (passed Purge now min_age limit world).workunits w ≡ false)
    (chosen Purge now min_age limit world)

-- ---- what is left

-- The workunits of a world that have none of these names.
abbrev pub unnamed : List (List ℕ) → World → List Workunit
unnamed names world = filter (λ w. not (is_one_of names w.name)) world.workunits

-- Workunits without one of these names stay as they were. No workunit comes or goes, and each keeps its number and its
-- name. Nothing is granted or archived, and no host gets a class.
pub record ChangesNamed (names : List (List ℕ)) (old new : World) : Type 0 where
  pub others : unnamed names new ≡ unnamed names old
  pub numbers : map (λ w. w.number) new.workunits ≡ map (λ w. w.number) old.workunits
  pub same_names : map (λ w. w.name) new.workunits ≡ map (λ w. w.name) old.workunits
  pub grants : new.grants ≡ old.grants
  pub archived : new.archived ≡ old.archived
  pub classes : new.classes ≡ old.classes
  pub next_number : new.next_number ≡ old.next_number
  pub version : new.version ≡ old.version

-- A file of sends or reports changes only the workunits that its rows name, and a cancel only the one of its name. A
-- batch leaves all present workunits, and a file of classes and an upgrade leave all. A refusal leaves the world.
pub record LeavesOthers (world : World) : Type 0 where
  pub sent : (name file : List ℕ) (rows : List SendRow) → sends_of_file file ≡ Ok rows
      → ChangesNamed (map (λ row. row.workunit) rows) world (step world (AskSent name file))
  pub reported : (name file : List ℕ) (rows : List ReportRow) → reports_of_file file ≡ Ok rows
      → ChangesNamed (map (λ row. row.workunit) rows) world (step world (AskReported name file))
  pub cancelled : (name : List ℕ) → ChangesNamed (name ∷ []) world (step world (AskCancel name))
  pub batch : (name template file : List ℕ)
      → Begins world.workunits (step world (AskBatch name template file)).workunits
  pub classed : (name file : List ℕ) → (step world (AskClasses name file)).workunits ≡ world.workunits
  pub upgraded : (step world AskUpgrade).workunits ≡ world.workunits
  pub refused : (request : Request) (fault : Fault) → reply world request ≡ Err fault
      → step world request ≡ world

abbrev pub LeavesWhatIsNotNamed : Type 0
LeavesWhatIsNotNamed = (world : World) → LeavesOthers world

-- ---- what is added

-- The workunit is as the job of a batch says, has this number, and is undecided with nothing done yet.
pub record IsNewOf (params : Parameters) (job : Job) (number : ℕ) (w : Workunit) : Type 0 where
  pub its_number : w.number ≡ number
  pub as_said : (w.name ≡ job.name) × (w.input ≡ job.input) × (w.params ≡ params)
  pub undecided : is_undecided w ≡ true
  pub no_instances : w.instances ≡ []
  pub not_done : (w.assimilate ≡ assimilate.Init) × (w.file_delete ≡ file_delete.Init)
      × (w.done_at ≡ None)

-- A batch adds one workunit for each job after those that are there, with consecutive numbers from the next one. Its
-- first number is that of the first of them, or 0 without a job.
pub record Numbers (old new : World) (params : Parameters) (jobs : List Job) (first : ℕ) : Type 0 where
  pub added : List Workunit
  pub behind : new.workunits ≡ old.workunits ++ added
  pub one_each : length added ≡ length jobs
  pub consecutive : (k : ℕ) (job : Job) → slice_get jobs k ≡ Some job
      → IsSomeAnd (slice_get added k) (IsNewOf params job (old.next_number + k))
  pub next : new.next_number ≡ old.next_number + length jobs
  pub none : jobs ≡ [] → first ≡ 0
  pub some : jobs ≢ [] → first ≡ old.next_number

-- A new batch adds its workunits so.
abbrev pub NumbersBatches : Type 0
NumbersBatches =
    (world : World) (name template file verdicts : List ℕ) (first : ℕ) (params : Parameters) (jobs : List Job)
    → import_of world (batch_given name template file) ≡ None
    → template_of template ≡ Ok params → jobs_of_file file ≡ Ok jobs
    → reply world (AskBatch name template file) ≡ Ok (Imported kind.Batch name first verdicts)
    → Numbers world (step world (AskBatch name template file)) params jobs first

-- ---- what is cancelled, and an upgrade

-- A cancel that is answered was of a present, undecided workunit, which is then cancelled. An upgrade answers the
-- version that it found, and the world is then at the present one.
pub record DoesAsAnswered (world : World) : Type 0 where
  pub cancelled : (name : List ℕ) → reply world (AskCancel name) ≡ Ok (Cancelled name)
      → IsSomeAnd (workunit_named world name) (λ w. (is_undecided w ≡ true)
      × IsSomeAnd (workunit_named (step world (AskCancel name)) name) (IsCancelled w))
  pub upgraded : (from to : ℕ) → reply world AskUpgrade ≡ Ok (Upgraded from to)
      → (from ≡ world.version) × (to ≡ present_version) × ((step world AskUpgrade).version ≡ to)

abbrev pub CancelsAndUpgrades : Type 0
CancelsAndUpgrades = (world : World) → DoesAsAnswered world

-- A world of an older version answers that version to all requests except an upgrade. An upgrade answers the version
-- found and the present one, and changes nothing except the version.
pub record UpgradesFirst (world : World) : Type 0 where
  pub refused : (request : Request) → request ≢ AskUpgrade → world.version < present_version
      → reply world request ≡ Err (OldSchema world.version)
  pub answered : reply world AskUpgrade ≡ Ok (Upgraded world.version present_version)
  pub alone : record (step world AskUpgrade) { version = world.version } ≡ world

abbrev pub OlderProjectsUpgradeFirst : Type 0
OlderProjectsUpgradeFirst = (world : World) → UpgradesFirst world

-- A world of the present version stays at it, whatever is asked, if what comes of it is a project.
abbrev pub StaysPresent : Type 0
StaysPresent =
    (world : World) (requests : List Request) → IsUpToDate world → IsProject (fold_steps world requests)
    → IsUpToDate (fold_steps world requests)

-- ---- what is left as it was

-- If the machine makes nothing of a world, the world stays as it is.
abbrev pub StaysByNothing : Type 0
StaysByNothing =
    (world : World) (request : Request) → MakesNothing world request → step world request ≡ world
