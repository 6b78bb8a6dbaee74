-- Worked examples of texts: what is printed.
use Rattle.std.specs.Prelude.{List, [], ◌∷◌, Some, codes}
use Rattle.wu_core.specs.declared.import.ImportKind.TheVariants.{Batch, Sent}
use Rattle.wu_core.specs.declared.workunit.Archived.{Archived}
use Rattle.wu_core.specs.declared.workunit.Instance.{Instance}
use Rattle.wu_core.specs.declared.workunit.Workunit.{Workunit}
use Rattle.wu_core.specs.Parameters.{default_parameters}
use Rattle.wu_core.specs.Workunit.{fresh}
use Rattle.wu_core.specs.World.{World, empty_world}
use Rattle.wu_rules.specs.Assimilation.{archived_row}
use Rattle.wu_machine.specs.Examples.{three_classes}
use Rattle.wu_rules.specs.Examples.{credit, h1, h2, job, masked, too_many_errors}

-- The workunit that a batch adds, and one with these instances.
abbrev pub first_job : Workunit
first_job = job default_parameters []

abbrev pub job_having : List Instance → Workunit
job_having instances = job default_parameters instances

-- A world of one workunit.
abbrev pub holding : Workunit → World
holding w = record empty_world { workunits = w ∷ []; next_number = 2 }

-- A world after a batch of one job, and a transition that made two instances.
abbrev pub after_a_batch : World
after_a_batch =
    record (holding (job_having (fresh ∷ fresh ∷ []))) {
      imports = record { kind = Batch; name = []; template = []; content = []; first_number = 1; verdicts = 0 ∷ [] } ∷ [];
    }

-- The archived row of a workunit with too many errors, assimilated on 2026-03-02 at midnight.
abbrev pub given_up_row : Archived
given_up_row = archived_row (masked too_many_errors first_job) 1772409600

-- The archived row of a workunit that was decided, with an output of two bytes.
abbrev pub decided_row : Archived
decided_row = record (archived_row first_job 1772409600) { canonical = Some 0; output = 0 ∷ 255 ∷ [] }

-- A world with one archived row.
abbrev pub archiving : Archived → World
archiving row = record empty_world { archived = row ∷ [] }

-- Three grants of two hosts.
abbrev pub three_grants : World
three_grants = record empty_world { grants = credit 0 h2 ∷ credit 1 h1 ∷ credit 2 h2 ∷ [] }

-- Three hosts with classes.
abbrev pub three_hosts : World
three_hosts = record empty_world { classes = three_classes }

-- Three imports, as they came: two batches, one without a job, and sends of which one was skipped.
abbrev pub three_imports : World
three_imports =
    record empty_world {
      imports =
          record { kind = Sent; name = codes "a"; template = []; content = []; first_number = 0; verdicts = 0 ∷ 3 ∷ 0 ∷ [] }
          ∷ record { kind = Batch; name = codes "b2"; template = []; content = []; first_number = 0; verdicts = [] }
          ∷ record { kind = Batch; name = codes "b1"; template = []; content = []; first_number = 1; verdicts = 0 ∷ 0 ∷ [] } ∷ [];
    }
