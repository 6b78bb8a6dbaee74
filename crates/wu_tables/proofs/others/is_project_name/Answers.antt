use Rattle.std.proofs.Common.{◌++◌, ℕ, List, inl, inr}
use Rattle.wu_schema.specs.Made.{class_tables, names_of, record_tables, work_tables}
use Rattle.wu_schema.specs.Queue.{queue_names}
use Rattle.wu_tables.proofs.OthersLemmas.{had_moved, moved_had}
use Rattle.wu_tables.proofs.others.is_project_name.Goals as goal

-- the names of the tables that each version has, and of those of classes
abbrev of_first : List (List ℕ)
of_first = names_of (work_tables ++ record_tables)

abbrev of_classes : List (List ℕ)
of_classes = names_of class_tables

pub returns-then-is_one_of : goal.returns-then-is_one_of
returns-then-is_one_of c =
    (λ h. had_moved of_first of_classes queue_names c.args.name.now (inl (c.is_one_of.ensures.0 h)), λ has. c.if-is_one_of.true)

pub returns-else-is_one_of : goal.returns-else-is_one_of
returns-else-is_one_of c = (
  λ h. had_moved of_first of_classes queue_names c.args.name.now (inr (c.is_one_of-else-is_one_of.ensures.0 h)),
  λ has. elim (moved_had of_first of_classes queue_names c.args.name.now has) [
    | inl one ↦ absurd (let yes = c.is_one_of.ensures.1 one in let no = c.if-is_one_of.false in cc)
    | inr two ↦ c.is_one_of-else-is_one_of.ensures.1 two
  ],
)
