-- What the views show of a world, line by line, and its summary.
use Rattle.std.specs.Prelude.{◌≡◌, ℕ, ◌<◌, ◌≤◌, ◌^◌, All, List, [], ◌∷◌, ◌++◌, length, map, sum_by, count_by, filter, find, bytes_eq, Option, option_map, Result, IfOk, Vec}
use Rattle.std.specs.List.{enumerate_from, flat_map}
use Rattle.sqlite.specs.Order.{Row}
use Rattle.sqlite.specs.declared.types.Value.TheVariants.{Text}
use Rattle.wu_core.specs.declared.fault.Fault.{Fault}
use Rattle.wu_core.specs.declared.import.ImportKind.{ImportKind}
use Rattle.wu_core.specs.declared.workunit.Archived.{Archived}
use Rattle.wu_core.specs.declared.workunit.Grant.{Grant}
use Rattle.wu_core.specs.declared.workunit.HostClass.{HostClass}
use Rattle.wu_core.specs.declared.workunit.Instance.{Instance}
use Rattle.wu_core.specs.declared.workunit.Workunit.{Workunit}
use Rattle.wu_core.specs.Codes.{assimilate_code, file_delete_code, outcome_code, server_state_code, validate_state_code}
use Rattle.wu_core.specs.Mask.{error_mask_code}
use Rattle.wu_core.specs.Limits.{longest_input, longest_output}
use Rattle.wu_core.specs.Parameters.{IsParameters}
use Rattle.wu_core.specs.Hosts.{credit_of, grants_of, hosts_of}
use Rattle.wu_core.specs.World.{Import, World, is_import}
use Rattle.wu_rules.specs.Instances.{is_in_progress, is_over, is_unsent}
use Rattle.wu_schema.specs.Reading.{kind_cell, verdicts_cell}
use Rattle.wu_schema.specs.declared.rows.StoredImport.{StoredImport}
use Rattle.wu_schema.specs.Stored.{number, number_or_null, parameter_cells, text_or_null}
use Rattle.wu_core.specs.Storable.{AreVerdicts, IsClass, IsName, IsPlace, IsStamped, IsStoredInstance}
use Rattle.wu_views.specs.Counting.{all_instances}
use Rattle.wu_views.specs.Imports.{imports_in_order}
use Rattle.wu_schema.specs.declared.rows.HostSum.{HostSum}
use Rattle.wu_views.specs.declared.lines.ImportLine.{ImportLine}
use Rattle.wu_views.specs.declared.lines.ResultLine.{ResultLine}
use Rattle.wu_views.specs.declared.lines.Summary.{Summary}
use Rattle.wu_views.specs.declared.lines.WorkunitLine.{WorkunitLine}

-- ---- workunits

-- The values of a workunit's line.
abbrev pub line_of : Workunit → WorkunitLine
line_of w =
    record {
      number = w.number;
      name = w.name;
      input = length w.input;
      params = w.params;
      error_mask = w.error_mask;
      canonical = w.canonical;
      assimilate = w.assimilate;
      file_delete = w.file_delete;
      done_at = w.done_at;
      class = w.class;
    }

-- The lines of a world's workunits, in order of number.
abbrev pub workunit_lines : World → List WorkunitLine
workunit_lines world = map line_of world.workunits

-- ---- results

-- The values of the line of an instance, by its number in the workunit of this name.
abbrev pub result_line_of : List ℕ → ℕ × Instance → ResultLine
result_line_of workunit p =
    record {
      workunit = workunit;
      n = p.0;
      server_state = p.1.server_state;
      outcome = p.1.outcome;
      validate_state = p.1.validate_state;
      file_delete = p.1.file_delete;
      host = p.1.host;
      sent_at = p.1.sent_at;
      deadline = p.1.deadline;
      received_at = p.1.received_at;
      output = length p.1.output;
    }

-- The lines of a workunit's instances, in order of their numbers.
abbrev pub result_lines_of : Workunit → List ResultLine
result_lines_of w = map (result_line_of w.name) (enumerate_from 0 w.instances)

-- The lines of the instances of all workunits, in order of number.
abbrev pub result_lines : World → List ResultLine
result_lines world = flat_map result_lines_of world.workunits

-- ---- hosts

-- The values of a host's line.
abbrev pub host_line_of : List Grant → List ℕ → HostSum
host_line_of grants host = record { name = host; total = credit_of grants host; grants = grants_of grants host }

-- The lines of the hosts that have grants, in the order of their names' bytes.
abbrev pub host_lines : World → List HostSum
host_lines world = map (host_line_of world.grants) (hosts_of world.grants)

-- ---- the archive

-- The archived rows, in order of their archiving.
abbrev pub archived_lines : World → List Archived
archived_lines world = world.archived

-- ---- classes of hosts

-- The hosts that a file named, each with its class, in the order of their names' bytes.
abbrev pub class_lines : World → List HostClass
class_lines world = world.classes

-- ---- imports

-- The values of an import's line.
abbrev pub import_line_of : Import → ImportLine
import_line_of import = record { kind = import.kind; name = import.name; first_number = import.first_number; verdicts = import.verdicts }

-- The lines of the imports, in order of kind and of the bytes of their names.
abbrev pub import_lines : World → List ImportLine
import_lines world = map import_line_of (imports_in_order world.imports)

-- The line of the import of this kind and name, or `None` if there is none.
abbrev pub import_line_named : ImportKind → List ℕ → World → Option ImportLine
import_line_named kind name world = option_map import_line_of (find (is_import kind name) world.imports)

-- The lines of the imports of this name, in order of kind.
abbrev pub import_lines_named : List ℕ → World → List ImportLine
import_lines_named name world = filter (λ it. bytes_eq it.name name) (import_lines world)

-- The lines of the imports of this name are found.
abbrev pub FindsLinesNamed : {A : Type 0} → List ℕ → Result (Vec ImportLine A) Fault → World → Type 0
FindsLinesNamed name result world = IfOk result (λ found. found.items ≡ import_lines_named name world)

-- The line of what is stored of an import of this kind and name.
abbrev pub stored_line : ImportKind → List ℕ → StoredImport → ImportLine
stored_line kind name stored = record { kind = kind; name = name; first_number = stored.first_number; verdicts = stored.verdicts }

-- ---- the summary

-- How many of each there are, and the credit of all grants.
abbrev pub summary_of : World → Summary
summary_of world =
    record {
      version = world.version;
      next_number = world.next_number;
      workunits = length world.workunits;
      results = length (all_instances world);
      unsent = count_by is_unsent (all_instances world);
      in_progress = count_by is_in_progress (all_instances world);
      over = count_by is_over (all_instances world);
      archived = length world.archived;
      grants = length world.grants;
      credit = sum_by (λ grant. grant.credit) world.grants;
      imports = length world.imports;
      classes = length world.classes;
    }

-- ---- what is read

-- A row of the view of workunits: the columns of a workunit with the length of its input, and the class.
abbrev pub line_row : WorkunitLine → Row
line_row w =
    number w.number ∷ Text w.name ∷ parameter_cells w.params
    ++ (number w.input ∷ number (error_mask_code w.error_mask) ∷ number_or_null w.canonical ∷ number (assimilate_code w.assimilate)
    ∷ number (file_delete_code w.file_delete) ∷ number_or_null w.done_at ∷ number w.class ∷ [])

-- The number of bytes is at most that of an input.
abbrev pub IsInputLength : ℕ → Type 0
IsInputLength bytes = bytes ≤ longest_input

-- A workunit of these values can be read.
pub record IsStoredLine (w : WorkunitLine) : Type 0 where
  pub name : IsName w.name
  pub parameters : IsParameters w.params
  pub input : IsInputLength w.input
  pub canonical : IsPlace w.canonical
  pub stamped : IsStamped w.assimilate w.done_at
  pub class : IsClass w.class

-- A row of the view of results: the columns of an instance, its number, the name of its workunit, and the length of its
-- output.
abbrev pub result_line_row : ResultLine → Row
result_line_row r =
    number (server_state_code r.server_state) ∷ number (outcome_code r.outcome) ∷ number (validate_state_code r.validate_state)
    ∷ number (file_delete_code r.file_delete) ∷ text_or_null r.host ∷ number_or_null r.sent_at ∷ number_or_null r.deadline
    ∷ number_or_null r.received_at ∷ number r.n ∷ Text r.workunit ∷ number r.output ∷ []

-- The instance of a line, without its output.
abbrev pub bare_instance_of : ResultLine → Instance
bare_instance_of r =
    record {
      server_state = r.server_state;
      outcome = r.outcome;
      validate_state = r.validate_state;
      file_delete = r.file_delete;
      host = r.host;
      sent_at = r.sent_at;
      deadline = r.deadline;
      received_at = r.received_at;
      output = [];
    }

-- The number of bytes is at most that of an output.
abbrev pub IsOutputLength : ℕ → Type 0
IsOutputLength bytes = bytes ≤ longest_output

-- An instance of these values can be read, and its workunit has a valid name.
pub record IsStoredResult (r : ResultLine) : Type 0 where
  pub workunit : IsName r.workunit
  pub n : r.n < 2 ^ 32
  pub instance : IsStoredInstance (bare_instance_of r)
  pub output : IsOutputLength r.output

-- A row of the view of imports: the kind, the name, the first number and the verdicts.
abbrev pub import_row : ImportLine → Row
import_row it = kind_cell it.kind ∷ Text it.name ∷ number it.first_number ∷ verdicts_cell it.verdicts ∷ []

-- The import has a valid name, and its verdicts are of its kind.
pub record IsStoredImportLine (it : ImportLine) : Type 0 where
  pub name : IsName it.name
  pub verdicts : AreVerdicts it.kind it.verdicts

-- ---- what can be read

-- The hosts of grants have valid names.
abbrev pub AreHostsNamed : World → Type 0
AreHostsNamed world = All IsName (hosts_of world.grants)

-- The imports have valid names, and verdicts of their kinds.
abbrev pub AreImportsStorable : World → Type 0
AreImportsStorable world = All (λ import. IsStoredImportLine (import_line_of import)) world.imports
