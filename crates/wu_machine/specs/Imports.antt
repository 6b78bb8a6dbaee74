-- Imports: each kind and name once, with its content and its first answer kept permanently.
use Rattle.std.specs.Prelude.{ℕ, Bool, ◌&&◌, if◌then◌else◌, List, [], ◌∷◌, ◌++◌, find, bytes_eq, Option, Some, None, Result, Ok, Err}
use Rattle.wu_core.specs.declared.fault.Fault.{Fault}
use Rattle.wu_core.specs.declared.fault.Fault.TheVariants.{NameUsed}
use Rattle.wu_core.specs.declared.import.ImportKind.{ImportKind}
use Rattle.wu_core.specs.declared.import.ImportKind.TheVariants as kind
use Rattle.wu_core.specs.declared.workunit.HostClass.{HostClass}
use Rattle.wu_core.specs.Parameters.{Parameters}
use Rattle.wu_core.specs.World.{World, Import, is_import}
use Rattle.wu_feed.specs.declared.jobs.Job.{Job}
use Rattle.wu_feed.specs.Classes.{classes_of_file}
use Rattle.wu_feed.specs.Jobs.{jobs_of_file}
use Rattle.wu_feed.specs.Templates.{template_of}
use Rattle.wu_machine.specs.Batches.{jobs_added, first_number, all_applied}
use Rattle.wu_feed.specs.Reports.{reports_of_file}
use Rattle.wu_feed.specs.Sends.{sends_of_file}
use Rattle.wu_machine.specs.Requests.{Reply, Imported}
use Rattle.wu_machine.specs.FileRows.{Rule, after_classes, after_rows, row_verdicts, report_rule, send_rule}

-- A reply, and the world after it.
abbrev pub Done : Type 0
Done = Reply × World

-- What a file is imported as.
pub record Given : Type 0 where
  pub kind : ImportKind
  pub name : List ℕ
  pub template : List ℕ
  pub content : List ℕ

abbrev pub batch_given : (name template file : List ℕ) → Given
batch_given name template file = record { kind = kind.Batch; name = name; template = template; content = file }

abbrev pub sent_given : (name file : List ℕ) → Given
sent_given name file = record { kind = kind.Sent; name = name; template = []; content = file }

abbrev pub reported_given : (name file : List ℕ) → Given
reported_given name file = record { kind = kind.Reported; name = name; template = []; content = file }

abbrev pub classes_given : (name file : List ℕ) → Given
classes_given name file = record { kind = kind.Classes; name = name; template = []; content = file }

-- The import of this kind and name, if there was one.
abbrev pub import_of : World → Given → Option Import
import_of world given = find (is_import given.kind given.name) world.imports

abbrev pub has_content : Given → Import → Bool
has_content given import = bytes_eq import.template given.template && bytes_eq import.content given.content

-- The answer that was given when the import was new.
abbrev pub first_answer : Import → Reply
first_answer import = Imported import.kind import.name import.first_number import.verdicts

-- What is kept of a new import.
abbrev pub kept_import : Given → ℕ → List ℕ → Import
kept_import given first verdicts = record {
  kind = given.kind;
  name = given.name;
  template = given.template;
  content = given.content;
  first_number = first;
  verdicts = verdicts;
}

-- The answer to a new import, and the world that it makes with the import kept.
abbrev pub keeping : Given → ℕ → List ℕ → World → Done
keeping given first verdicts world =
    (first_answer (kept_import given first verdicts), record world { imports = world.imports ++ kept_import given first verdicts ∷ [] })

abbrev pub jobs_kept : Given → World → List Job → Result World Fault → Result Done Fault
jobs_kept given world jobs (Ok after) = Ok (keeping given (first_number world jobs) (all_applied jobs) after)
jobs_kept given world jobs (Err fault) = Err fault

-- A new batch: its template, its file or its jobs are refused, in this order, or the jobs are added.
abbrev pub batch_read : Given → World → Result Parameters Fault → Result (List Job) Fault → Result Done Fault
batch_read given world (Err fault) jobs = Err fault
batch_read given world (Ok params) (Err fault) = Err fault
batch_read given world (Ok params) (Ok jobs) = jobs_kept given world jobs (jobs_added world params jobs)

-- A new file of sends or reports is refused, or each of its rows is applied or skipped.
abbrev pub rows_read : {Row : Type 0} → Rule Row → Given → World → Result (List Row) Fault → Result Done Fault
rows_read rule given world (Err fault) = Err fault
rows_read rule given world (Ok rows) = Ok (keeping given 0 (row_verdicts rule world rows) (after_rows rule world rows))

-- A new file of classes is refused, or each of its rows is applied.
abbrev pub classes_read : Given → World → Result (List HostClass) Fault → Result Done Fault
classes_read given world (Err fault) = Err fault
classes_read given world (Ok rows) = Ok (keeping given 0 (all_applied rows) (after_classes world rows))

-- What a file makes that was not imported before.
abbrev pub newly_imported : World → Given → ImportKind → Result Done Fault
newly_imported world given kind.Batch = batch_read given world (template_of given.template) (jobs_of_file given.content)
newly_imported world given kind.Sent = rows_read (send_rule world.classes) given world (sends_of_file given.content)
newly_imported world given kind.Reported = rows_read report_rule given world (reports_of_file given.content)
newly_imported world given kind.Classes = classes_read given world (classes_of_file given.content)

-- A repeated import gets its first answer and changes nothing. Other content under the same name is refused.
abbrev pub imported_after : World → Given → Option Import → Result Done Fault
imported_after world given (Some import) = if has_content given import then Ok (first_answer import, world) else Err NameUsed
imported_after world given None = newly_imported world given given.kind

abbrev pub imported : World → Given → Result Done Fault
imported world given = imported_after world given (import_of world given)
