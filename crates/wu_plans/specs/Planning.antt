-- The plan of a command: its answer and its changes, computed before anything is changed.
use Rattle.std.specs.Prelude.{◌≡◌, ◌≢◌, ◌⊎◌, ℕ, ◌+◌, ◌==◌, ◌&&◌, Bool, true, false, bytes_eq, if◌then◌else◌, List, [], ◌∷◌, ◌++◌, map, length, Some, None, Result, Ok, Err, find, IfErr, IfOk, MatchResult, ⊤}
use Rattle.std.specs.List.{enumerate_from}
use Rattle.std.specs.Borrow.{Bor}
use Rattle.sqlite.specs.Held.{Held}
use Rattle.sqlite.specs.Store.{Ghosts}
use Rattle.wu_core.specs.declared.fault.Fault.{Fault}
use Rattle.wu_core.specs.declared.fault.Fault.TheVariants.{Memory, Ended, NameUsed, NotOpenToCancel, WorkunitUsed}
use Rattle.wu_core.specs.declared.workunit.HostClass.{HostClass}
use Rattle.wu_core.specs.declared.workunit.Workunit.{Workunit}
use Rattle.wu_core.specs.Classes.{AreClassed}
use Rattle.wu_core.specs.Parameters.{Parameters}
use Rattle.wu_rules.specs.Cancelling.{cancelled}
use Rattle.wu_rules.specs.Counts.{is_undecided}
use Rattle.wu_core.specs.Storable.{AreStorable}
use Rattle.wu_core.specs.World.{World, is_import}
use Rattle.wu_feed.specs.declared.jobs.Job.{Job}
use Rattle.wu_core.specs.declared.import.ImportKind.TheVariants as kind
use Rattle.wu_feed.specs.Jobs.{jobs_of_file}
use Rattle.wu_feed.specs.Templates.{template_of}
use Rattle.wu_store.specs.Changes.{with_import}
use Rattle.wu_store.specs.Loading.{IsStoreFault}
use Rattle.wu_store.specs.StandsFor.{KnowsClasses, StandsFor}
use Rattle.wu_store.specs.Reads.{Reads}
use Rattle.wu_schema.specs.declared.rows.StoredImport.{StoredImport}
use Rattle.wu_schema.specs.Refines.{Refines}
use Rattle.wu_plans.specs.declared.plan.Plan.{Plan}
use Rattle.wu_plans.specs.declared.imports.Source.{Source}
use Rattle.wu_plans.specs.declared.files.AppliedRows.{AppliedRows}
use Rattle.wu_store.specs.declared.changes.Change.{Change}
use Rattle.wu_store.specs.declared.changes.Change.TheVariants.{Add, Class, Replace, Next, Keep}
use Rattle.wu_store.specs.declared.changes.Import.{Import as Kept}
use Rattle.wu_machine.specs.declared.command.Batch.{Batch}
use Rattle.wu_machine.specs.Batches.{all_applied, first_taken, is_one_of, job_names, new_workunit, taken_names}
use Rattle.wu_store.specs.Changing.{AreRight, import_of_change, made_all}
use Rattle.wu_machine.specs.Imports.{Given, first_answer, kept_import}
use Rattle.wu_machine.specs.FileRows.{Rule, after_rows, row_verdicts}
use Rattle.wu_machine.specs.Machine.{done, is_upgrade, IsUpToDate, MakesNothing}
use Rattle.wu_plans.specs.Touched.{AreDistinct, IsLeft, replaces}
use Rattle.wu_machine.specs.declared.command.Answer.{Answer}
use Rattle.wu_machine.specs.declared.command.Answer.TheVariants as answer
use Rattle.wu_machine.specs.Requests.{Request, AskUpgrade}
use Rattle.wu_machine.specs.Commands.{request_of_batch, reply_of_answer}
use Rattle.wu_machine.specs.Sound.{IsProject}

-- What a source is imported as.
abbrev pub given_of : Source → Given
given_of source = record { kind = source.kind; name = source.name.now; template = source.template.now; content = source.content.now }

-- This is the plan of a cancel: the image of the undecided workunit replaces it.
pub record IsCancelPlan (w : Workunit) (plan : Plan) : Type 0 where
  pub undecided : is_undecided w ≡ true
  pub answer : plan.answer ≡ answer.Cancelled w.name
  pub changes : plan.changes.items ≡ Replace w (cancelled w) ∷ []

-- A cancel is refused for a workunit that is not undecided, or is out of memory.
abbrev pub RefusesCancel : Workunit → Fault → Type 0
RefusesCancel w fault = (fault ≡ Memory) ⊎ ((fault ≡ NotOpenToCancel) × (is_undecided w ≡ false))

-- What the rows of a file left of a world that has classes, with their verdicts.
abbrev pub LeavesRows : {Row : Type 0} → (List HostClass → Rule Row) → List Row → Result AppliedRows Fault → World → Type 0
LeavesRows rule rows result world =
    KnowsClasses world → IfOk result (λ left. IsLeft (rule world.classes) rows world left.touched left.verdicts.items)

-- The call never reports that the session has ended.
abbrev pub NeverEnded : {T : Type 0} → Result T Fault → Type 0
NeverEnded result = IfErr result (λ fault. fault ≢ Ended)

-- The fault is that the name of a workunit is used, or one of the store.
abbrev pub RefusesName : Fault → Type 0
RefusesName fault = ((row : ℕ) × (fault ≡ WorkunitUsed row)) ⊎ IsStoreFault fault

-- No batch had this name before.
abbrev pub IsNew : World → List ℕ → Type 0
IsNew world name = find (is_import kind.Batch name) world.imports ≡ None

-- The fault reports the first job whose name is taken.
abbrev pub TellsTaken : World → List Job → Fault → Type 0
TellsTaken world jobs fault = (place : ℕ × List ℕ) × (first_taken world jobs ≡ Some place) × (fault ≡ WorkunitUsed (place.0 + 2))

-- The answer is the machine's reply, and the changes make of the world what the machine makes of it. If the machine
-- makes nothing, there are no changes.
pub record Plans (world : World) (request : Request) (answer : Answer) (changes : List Change) : Type 0 where
  pub done : done world request ≡ Ok (reply_of_answer answer, made_all changes world)
  pub right : AreRight changes world
  pub idle : MakesNothing world request → changes ≡ []

-- The result is a plan of the request, the machine's refusal, or a fault of the store.
abbrev pub IsPlan : World → Request → Result Plan Fault → Type 0
IsPlan world request result = MatchResult result (λ plan. Plans world request plan.answer plan.changes.items) (λ fault. (done world request ≡ Err fault) ⊎ IsStoreFault fault)

-- The changes that add the jobs, with consecutive numbers from the next one.
abbrev pub additions : Parameters → ℕ → List Job → List Change
additions params next jobs = map (λ p. Add (new_workunit params p.0 p.1)) (enumerate_from next jobs) ++ Next (next + length jobs) ∷ []

-- The import is kept with the answer that it gets.
abbrev pub KeepsImport : Given → ℕ → List ℕ → Kept → Type 0
KeepsImport given first verdicts kept = import_of_change kept ≡ kept_import given first verdicts

-- The first of so many numbers; 0 without one.
abbrev pub first_of : ℕ → ℕ → ℕ
first_of next count = if count == 0 then 0 else next

-- This is the plan of a new batch: it adds its jobs, and keeps the import.
pub record IsNewBatch (given : Given) (next : ℕ) (params : Parameters) (jobs : List Job) (plan : Plan) : Type 0 where
  pub kept : Kept
  pub keeps : KeepsImport given (first_of next (length jobs)) (all_applied jobs) kept
  pub answer : reply_of_answer plan.answer ≡ first_answer (import_of_change kept)
  pub changes : plan.changes.items ≡ additions params next jobs ++ Keep kept ∷ []

-- Whether the earlier import of this kind and name had the same content.
abbrev pub has_same_content : Given → StoredImport → Bool
has_same_content given earlier = bytes_eq earlier.template given.template && bytes_eq earlier.content given.content

-- This is the plan of a repeated import: its first answer, and no change.
pub record IsRepeated (given : Given) (earlier : StoredImport) (plan : Plan) : Type 0 where
  pub same : has_same_content given earlier ≡ true
  pub answer : plan.answer ≡ answer.Imported given.kind given.name earlier.first_number earlier.verdicts
  pub nothing : plan.changes.items ≡ []

-- A repeated import is refused for other content, or is out of memory.
abbrev pub RefusesRepeat : Given → StoredImport → Fault → Type 0
RefusesRepeat given earlier fault = (fault ≡ Memory) ⊎ ((fault ≡ NameUsed) × (has_same_content given earlier ≡ false))

-- What the rows of a file left replaces what was there, and the import is kept.
pub record IsNewFile (given : Given) (left : AppliedRows) (plan : Plan) : Type 0 where
  pub kept : Kept
  pub keeps : KeepsImport given 0 left.verdicts.items kept
  pub reply : reply_of_answer plan.answer ≡ first_answer (import_of_change kept)
  pub changes : plan.changes.items ≡ map replaces left.touched ++ Keep kept ∷ []
  pub distinct : AreDistinct left.touched

-- This is the plan of a file of these rows: they are applied or skipped, and the import is kept with their verdicts.
-- Without a template, these changes may be made of the world.
pub record IsFilePlan {Row : Type 0} (rule : Rule Row) (given : Given) (rows : List Row) (world : World) (plan : Plan) : Type 0 where
  pub kept : Kept
  pub keeps : KeepsImport given 0 (row_verdicts rule world rows) kept
  pub reply : reply_of_answer plan.answer ≡ first_answer (import_of_change kept)
  pub made : made_all plan.changes.items world ≡ with_import (import_of_change kept) (after_rows rule world rows)
  pub right : given.template ≡ [] → AreRight plan.changes.items world

-- The change that sets the class of a row's host.
abbrev pub sets_class : HostClass → Change
sets_class row = Class row.host row.class

-- This is the plan of a new file of classes: the class of each row's host is set, in the order of the rows, and the
-- import is kept.
pub record IsNewClasses (given : Given) (rows : List HostClass) (plan : Plan) : Type 0 where
  pub kept : Kept
  pub keeps : KeepsImport given 0 (all_applied rows) kept
  pub reply : reply_of_answer plan.answer ≡ first_answer (import_of_change kept)
  pub changes : plan.changes.items ≡ map sets_class rows ++ Keep kept ∷ []

-- ---- what a call that reads reports of the tables, and of each world that they represent

module _ {S T : Type 0} (g : Ghosts S) (old new : Held S) (result : Result T Fault) where
  module _ (Asked : Type 0) (Finds : Result T Fault → World → Type 0) (Can : World → Type 0) where
    -- A plan: it only reads, the tables represent the world, and the fault is not that the session has ended. Where this
    -- holds, the connection is open afterwards, except after `Memory` and `Broken`.
    abbrev pub PlansWorldIf : Type 0
    PlansWorldIf = Reads g old new result Asked (λ fault. fault ≢ Ended) Refines Finds Can

    -- Likewise of a world with its queue.
    abbrev pub PlansProjectIf : Type 0
    PlansProjectIf = Reads g old new result Asked (λ fault. fault ≢ Ended) StandsFor Finds Can

  module _ (Finds : Result T Fault → World → Type 0) (Can : World → Type 0) where
    -- A plan of which the connection is open afterwards, except after `Memory` and `Broken`.
    abbrev pub PlansWorld : Type 0
    PlansWorld = PlansWorldIf ⊤ Finds Can

    -- Likewise of a world with its queue.
    abbrev pub PlansProject : Type 0
    PlansProject = PlansProjectIf ⊤ Finds Can

-- The answer is whether the name is taken by a workunit or an archived row, or it is a fault of the store.
abbrev pub KnowsTaken : List ℕ → Result Bool Fault → World → Type 0
KnowsTaken name result world = MatchResult result (λ taken. taken ≡ is_one_of (taken_names world) name) IsStoreFault

-- The bytes of these texts.
abbrev pub texts_of : List (Bor (List ℕ)) → List (List ℕ)
texts_of texts = map (λ text. text.now) texts

-- The answer is whether the name is one of these, or taken by a workunit or an archived row, or it is a fault of the
-- store.
abbrev pub KnowsUsed : List (List ℕ) → List ℕ → Result Bool Fault → World → Type 0
KnowsUsed names name result world = MatchResult result (λ used. used ≡ is_one_of (taken_names world ++ names) name) IsStoreFault

-- No job's name is taken, or the fault reports the first one that is.
abbrev pub FindsFree : {T : Type 0} → List Job → Result T Fault → World → Type 0
FindsFree jobs result world = MatchResult result (λ _. first_taken world jobs ≡ None) (λ fault. TellsTaken world jobs fault ⊎ IsStoreFault fault)

-- Rows can be applied to the world: it has classes, and its workunits and the classes of its hosts can be read.
pub record TakesRows (world : World) : Type 0 where
  pub known : KnowsClasses world
  pub storable : AreStorable world
  pub classed : AreClassed world.classes

-- The world is a project of the present version.
abbrev pub IsPresentProject : World → Type 0
IsPresentProject world = IsUpToDate world × IsProject world

-- Over a project, the answer is the version of its tables.
abbrev pub TellsVersion : Result ℕ Fault → World → Type 0
TellsVersion result world = IsProject world → MatchResult result (λ version. version ≡ world.version) IsStoreFault

-- Over a project, the result is the plan of the request.
abbrev pub PlansFor : Request → Result Plan Fault → World → Type 0
PlansFor request result world = IsProject world → IsPlan world request result

-- Over a project of the present version, the result is the plan of the request.
abbrev pub PlansNow : Request → Result Plan Fault → World → Type 0
PlansNow request result world = IsUpToDate world → IsProject world → IsPlan world request result

-- The world is a project of the present version, or of an older one and the request is an upgrade.
abbrev pub IsReadyFor : Request → World → Type 0
IsReadyFor request world = (is_upgrade request ≡ false → IsUpToDate world) × IsProject world

-- The world is a project of this version; and it is one that is ready for the request.
abbrev pub IsOfVersion : ℕ → World → Type 0
IsOfVersion version world = (version ≡ world.version) × IsProject world

abbrev pub IsReadyAt : ℕ → Request → World → Type 0
IsReadyAt version request world = (version ≡ world.version) × IsReadyFor request world

-- Over a project of this version that is ready for the request, the result is its plan.
abbrev pub PlansAt : ℕ → Request → Result Plan Fault → World → Type 0
PlansAt version request result world = version ≡ world.version → IsReadyFor request world → IsPlan world request result

-- Over a project of this version, the result is the plan of an upgrade.
abbrev pub PlansUpgrade : ℕ → Result Plan Fault → World → Type 0
PlansUpgrade version result world = version ≡ world.version → IsProject world → IsPlan world AskUpgrade result

-- Over a world with classes, the result is the plan of a new file of these rows.
abbrev pub PlansRows : {Row : Type 0} → (List HostClass → Rule Row) → Given → List Row → Result Plan Fault → World → Type 0
PlansRows rule given rows result world =
    KnowsClasses world → MatchResult result (IsFilePlan (rule world.classes) given rows world) IsStoreFault

-- Over a project of the present version, the result is the plan of the batch.
abbrev pub PlansBatch : Batch → Result Plan Fault → World → Type 0
PlansBatch batch = PlansNow (request_of_batch batch)

-- Over a project of the present version without a batch of this name, the result is the plan of the batch.
abbrev pub PlansNew : Batch → Result Plan Fault → World → Type 0
PlansNew batch result world = IsUpToDate world → IsProject world → IsNew world batch.name → IsPlan world (request_of_batch batch) result

-- Over a project of the present version without a batch of this name, the result is the plan of the batch with these
-- parameters and jobs.
abbrev pub PlansJobs : Batch → Parameters → List Job → Result Plan Fault → World → Type 0
PlansJobs batch params jobs result world =
    IsUpToDate world → IsProject world → IsNew world batch.name → template_of batch.template ≡ Ok params → jobs_of_file batch.file ≡ Ok jobs → IsPlan world (request_of_batch batch) result
