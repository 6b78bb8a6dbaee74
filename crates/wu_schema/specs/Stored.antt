-- Values as rows of the tables, column by column.
use Rattle.std.specs.Prelude.{ℕ, ◌+◌, pos, Bool, if◌then◌else◌, List, [], ◌∷◌, ◌++◌, map, Option}
use Rattle.sqlite.specs.Order.{Row}
use Rattle.sqlite.specs.Values as values
use Rattle.sqlite.specs.declared.types.Value.{Value}
use Rattle.sqlite.specs.declared.types.Value.TheVariants.{Null, Int, Text, Blob}
use Rattle.wu_core.specs.declared.marks.Marks.{Marks}
use Rattle.wu_core.specs.declared.workunit.Archived.{Archived}
use Rattle.wu_core.specs.declared.workunit.Grant.{Grant}
use Rattle.wu_core.specs.declared.workunit.HostClass.{HostClass}
use Rattle.wu_core.specs.declared.workunit.Instance.{Instance}
use Rattle.wu_core.specs.declared.workunit.Workunit.{Workunit}
use Rattle.wu_core.specs.Codes.{server_state_code, outcome_code, validate_state_code, assimilate_code, file_delete_code, import_kind_code}
use Rattle.wu_core.specs.Mask.{error_mask_code}
use Rattle.wu_core.specs.Parameters.{Parameters}
use Rattle.wu_core.specs.World.{World, Import}

abbrev pub number : ℕ → Value
number n = Int (pos n)

abbrev pub number_or_null : Option ℕ → Value
number_or_null o = values.or_null number o

abbrev pub text_or_null : Option (List ℕ) → Value
text_or_null o = values.or_null Text o

abbrev pub parameter_cells : Parameters → Row
parameter_cells p =
    number p.min_quorum ∷ number p.target_nresults ∷ number p.max_error_results ∷ number p.max_total_results
    ∷ number p.max_success_results ∷ number p.delay_bound ∷ number p.credit ∷ []

-- The columns of a workunit after its number.
abbrev pub workunit_cells : Workunit → Row
workunit_cells w =
    Text w.name ∷ parameter_cells w.params
    ++ (Blob w.input ∷ number (error_mask_code w.error_mask) ∷ number_or_null w.canonical ∷ number (assimilate_code w.assimilate)
    ∷ number (file_delete_code w.file_delete) ∷ number_or_null w.done_at ∷ [])

-- The row of a workunit as it is written and read.
abbrev pub workunit_row : Workunit → Row
workunit_row w = number w.number ∷ workunit_cells w

-- The row of a workunit as the table keeps it: the key first, and NULL in the key's own column.
abbrev pub stored_workunit : Workunit → Row
stored_workunit w = number w.number ∷ Null ∷ workunit_cells w

-- The columns of an instance after its workunit's number and its own.
abbrev pub instance_row : Instance → Row
instance_row i =
    number (server_state_code i.server_state) ∷ number (outcome_code i.outcome) ∷ number (validate_state_code i.validate_state)
    ∷ number (file_delete_code i.file_delete) ∷ text_or_null i.host ∷ number_or_null i.sent_at ∷ number_or_null i.deadline
    ∷ number_or_null i.received_at ∷ Blob i.output ∷ []

-- The row of an instance, with its workunit's number and its own.
abbrev pub instance_cells : ℕ → ℕ → Instance → Row
instance_cells workunit n i = number workunit ∷ number n ∷ instance_row i

-- The columns of a grant after its place.
abbrev pub grant_cells : Grant → Row
grant_cells g = number g.workunit ∷ number g.n ∷ Text g.host ∷ number g.credit ∷ []

-- The row of a grant as the table keeps it, by its place in the list, from 1.
abbrev pub stored_grant : ℕ × Grant → Row
stored_grant p = number p.0 ∷ Null ∷ grant_cells p.1

-- The columns of an archived workunit after its place.
abbrev pub archived_cells : Archived → Row
archived_cells a = number a.number ∷ Text a.name ∷ number (error_mask_code a.error_mask) ∷ number_or_null a.canonical ∷ Blob a.output ∷ number a.done_at ∷ []

abbrev pub stored_archived : ℕ × Archived → Row
stored_archived p = number p.0 ∷ Null ∷ archived_cells p.1

-- The row of a host: its name, its credit and the number of its grants.
abbrev pub host_cells : List ℕ → ℕ → ℕ → Row
host_cells name total grants = Text name ∷ number total ∷ number grants ∷ []

-- Verdicts as text, one digit each.
abbrev pub verdict_digits : List ℕ → List ℕ
verdict_digits verdicts = map (λ verdict. 48 + verdict) verdicts

-- The columns of what is kept of an import's content and answer.
abbrev pub kept_cells : Import → Row
kept_cells import = Blob import.template ∷ Blob import.content ∷ number import.first_number ∷ Text (verdict_digits import.verdicts) ∷ []

abbrev pub import_cells : Import → Row
import_cells import = number (import_kind_code import.kind) ∷ Text import.name ∷ kept_cells import

-- A column that is 1 if this is true, else 0.
abbrev pub flag : Bool → Value
flag is = number (if is then 1 else 0)

-- The columns of a workunit's marks, after its number.
abbrev pub marks_cells : Marks → Row
marks_cells m = number_or_null m.wake ∷ flag m.to_validate ∷ flag m.to_assimilate ∷ flag m.to_delete ∷ number_or_null m.purge_from ∷ []

-- The row of the queue as the table keeps it, by the workunit's number.
abbrev pub stored_marks : ℕ × Marks → Row
stored_marks p = number p.0 ∷ Null ∷ marks_cells p.1

-- The row of a host and its class.
abbrev pub class_cells : HostClass → Row
class_cells it = Text it.host ∷ number it.class ∷ []

-- The row of a workunit's number and class, as the table keeps it.
abbrev pub class_row : ℕ × ℕ → Row
class_row p = number p.0 ∷ Null ∷ number p.1 ∷ []

abbrev pub stored_class : Workunit → Row
stored_class w = class_row (w.number, w.class)

-- The one row of the project, as the table keeps it.
abbrev pub stored_project : World → Row
stored_project world = number 1 ∷ Null ∷ number world.version ∷ number world.next_number ∷ []
