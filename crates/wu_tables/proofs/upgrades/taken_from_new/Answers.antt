use Rattle.std.proofs.Common.{ℕ, List, ◌++◌}
use Rattle.wu_schema.specs.Made.{class_tables, names_of, record_tables, work_tables}
use Rattle.wu_schema.specs.Queue.{queue_names}
use Rattle.wu_tables.proofs.UpgradeLemmas.{first_after, first_before, free_both, none_after, some_after}
use Rattle.wu_tables.proofs.upgrades.taken_from_new.Goals as goal

-- the names of the tables that each version has
abbrev of_first : List (List ℕ)
of_first = names_of (work_tables ++ record_tables)

abbrev of_classes : List (List ℕ)
of_classes = names_of class_tables

pub returns-in-Some-first_taken-clause-taken : goal.returns-in-Some-first_taken-clause-taken
returns-in-Some-first_taken-clause-taken c =
    let schema = c.args.schema.now in
    let name = c.in-Some-first_taken.name.now in
    first_before schema (of_first ++ of_classes) queue_names name (first_after schema of_first of_classes name c.in_default.ensures c.in-Some-first_taken.ensures)

pub returns-clause-free : goal.returns-clause-free
returns-clause-free c =
    let schema = c.args.schema.now in
    none_after schema (of_first ++ of_classes) queue_names (free_both schema of_first of_classes c.in_default.ensures c.in_default-first_taken.ensures) c.first_taken-3.result c.first_taken-3.ensures

pub returns-clause-taken : goal.returns-clause-taken
returns-clause-taken c =
    let schema = c.args.schema.now in
    some_after schema (of_first ++ of_classes) queue_names (free_both schema of_first of_classes c.in_default.ensures c.in_default-first_taken.ensures) c.first_taken-3.result c.first_taken-3.ensures
