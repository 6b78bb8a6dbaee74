-- The SELECTs: each text, what it asks for, and that it fits its table.
use Rattle.wu_schema.proofs.Words.{Expr-F, Int, List, Name, None, Some, Term, [], archived_at, arith, codes, col, everything, import_at, lit, negsuc, pos, project_at, refl, result_at, roll-Expr, suc, workunit_at, ℕ, ◌∷◌}
use Rattle.sqlite_sql.specs.declared.ops.CompareOp.TheVariants as compare
use Rattle.wu_schema.specs.Tables.{queue_at}
use Rattle.wu_rules.specs.declared.due.Pass.{Pass}
use Rattle.wu_rules.specs.declared.due.Pass.TheVariants.{Transition, Validate, Assimilate, Delete, Purge}
use Rattle.wu_store.specs.Queues.{marked_text}
pub use Rattle.wu_schema.proofs.SelectLemmas.{CompilesTo, compiles_to, Asked, Fits, Test}
use Rattle.wu_schema.proofs.ExprLemmas.{same, more, parameter}
use Rattle.wu_store.specs.declared.texts.TheConstants.{SELECT_ABOVE, SELECT_ARCHIVED, SELECT_IMPORT, SELECT_INSTANCES, SELECT_NAMED, SELECT_NEXT_NUMBER, SELECT_NUMBER, SELECT_NUMBERED}

-- ---- the columns of a workunit and of an instance, as each statement that has all of them lists them

abbrev pub workunit_shown : List ℕ
workunit_shown = 0 ∷ 1 ∷ 2 ∷ 3 ∷ 4 ∷ 5 ∷ 6 ∷ 7 ∷ 8 ∷ 9 ∷ 10 ∷ 11 ∷ 12 ∷ 13 ∷ 14 ∷ []

-- ---- the import of a kind and a name

abbrev pub import_asked : Asked
import_asked = record { text = SELECT_IMPORT.now; parameters = codes "?1" ∷ codes "?2" ∷ []; shown = 2 ∷ 3 ∷ 4 ∷ 5 ∷ []; tests = (0, compare.Eq, 0) ∷ (1, compare.Eq, 1) ∷ []; order = []; limit = None; upto = lit (Int (negsuc 0)) }

pub import_fits : (tree : ℕ) → Fits (codes "import") (import_at tree) import_asked
unfolding everything
import_fits tree = record { shown = refl; tests = refl; strict = refl; order = refl; height = (697, refl); few = omega arith; limit = λ schema. refl; read = refl; typed = refl }

abbrev pub import_tests : List Term
import_tests = same (col 1 1) (col 0 0) ∷ same (col 1 2) (col 0 1) ∷ []

abbrev pub import_shows : List Term
import_shows = col 1 3 ∷ col 1 4 ∷ col 1 5 ∷ col 1 6 ∷ []

-- ---- the workunit of a name

abbrev pub workunit_asked : Asked
workunit_asked = record { text = SELECT_NUMBER.now; parameters = codes "?1" ∷ []; shown = 0 ∷ []; tests = (1, compare.Eq, 0) ∷ []; order = []; limit = None; upto = lit (Int (negsuc 0)) }

pub workunit_fits : (tree : ℕ) → Fits (codes "workunit") (workunit_at tree) workunit_asked
unfolding everything
workunit_fits tree = record { shown = refl; tests = refl; strict = refl; order = refl; height = (698, refl); few = omega arith; limit = λ schema. refl; read = refl; typed = refl }

abbrev pub workunit_tests : List Term
workunit_tests = same (col 1 2) (col 0 0) ∷ []

-- ---- the row of the workunit of a name

abbrev pub named_asked : Asked
named_asked = record { text = SELECT_NAMED.now; parameters = codes "?1" ∷ []; shown = workunit_shown; tests = (1, compare.Eq, 0) ∷ []; order = []; limit = None; upto = lit (Int (negsuc 0)) }

pub named_fits : (tree : ℕ) → Fits (codes "workunit") (workunit_at tree) named_asked
unfolding everything
named_fits tree = record { shown = refl; tests = refl; strict = refl; order = refl; height = (698, refl); few = omega arith; limit = λ schema. refl; read = refl; typed = refl }

-- ---- the row of the workunit of a number

abbrev pub numbered_asked : Asked
numbered_asked = record { text = SELECT_NUMBERED.now; parameters = codes "?1" ∷ []; shown = workunit_shown; tests = (0, compare.Eq, 0) ∷ []; order = []; limit = None; upto = lit (Int (negsuc 0)) }

pub numbered_fits : (tree : ℕ) → Fits (codes "workunit") (workunit_at tree) numbered_asked
unfolding everything
numbered_fits tree = record { shown = refl; tests = refl; strict = refl; order = refl; height = (698, refl); few = omega arith; limit = λ schema. refl; read = refl; typed = refl }

abbrev pub numbered_tests : List Term
numbered_tests = same (col 1 0) (col 0 0) ∷ []

-- ---- the archived workunit of a name

abbrev pub archived_asked : Asked
archived_asked = record { text = SELECT_ARCHIVED.now; parameters = codes "?1" ∷ []; shown = 1 ∷ []; tests = (2, compare.Eq, 0) ∷ []; order = []; limit = None; upto = lit (Int (negsuc 0)) }

pub archived_fits : (tree : ℕ) → Fits (codes "archived") (archived_at tree) archived_asked
unfolding everything
archived_fits tree = record { shown = refl; tests = refl; strict = refl; order = refl; height = (698, refl); few = omega arith; limit = λ schema. refl; read = refl; typed = refl }

-- ---- the next number

abbrev pub next_asked : Asked
next_asked = record { text = SELECT_NEXT_NUMBER.now; parameters = []; shown = 2 ∷ []; tests = []; order = []; limit = None; upto = lit (Int (negsuc 0)) }

pub next_fits : (tree : ℕ) → Fits (codes "project") (project_at tree) next_asked
unfolding everything
next_fits tree = record { shown = refl; tests = refl; strict = refl; order = refl; height = (0, tt); few = omega arith; limit = λ schema. refl; read = refl; typed = refl }

abbrev pub next_shows : List Term
next_shows = col 1 3 ∷ []

-- ---- the columns of a workunit, as they are shown

abbrev pub all_shows : List Term
all_shows = col 1 0 ∷ col 1 2 ∷ col 1 3 ∷ col 1 4 ∷ col 1 5 ∷ col 1 6 ∷ col 1 7 ∷ col 1 8 ∷ col 1 9 ∷ col 1 10 ∷ col 1 11 ∷ col 1 12 ∷ col 1 13 ∷ col 1 14 ∷ col 1 15 ∷ []

-- ---- the first workunit above a number

abbrev pub above_asked : Asked
above_asked = record { text = SELECT_ABOVE.now; parameters = codes "?1" ∷ []; shown = workunit_shown; tests = (0, compare.Gt, 0) ∷ []; order = 0 ∷ []; limit = Some (roll-Expr (Expr-F.Integer (codes "1"))); upto = lit (Int (pos 1)) }

pub above_fits : (tree : ℕ) → Fits (codes "workunit") (workunit_at tree) above_asked
unfolding everything
above_fits tree = record { shown = refl; tests = refl; strict = refl; order = refl; height = (698, refl); few = omega arith; limit = λ schema. refl; read = refl; typed = refl }

abbrev pub above_tests : List Term
above_tests = more (col 1 0) (col 0 0) ∷ []

-- ---- the instances of a workunit, in order of their numbers

abbrev pub instances_asked : Asked
instances_asked = record { text = SELECT_INSTANCES.now; parameters = codes "?1" ∷ []; shown = 2 ∷ 3 ∷ 4 ∷ 5 ∷ 6 ∷ 7 ∷ 8 ∷ 9 ∷ 10 ∷ []; tests = (0, compare.Eq, 0) ∷ []; order = 1 ∷ []; limit = None; upto = lit (Int (negsuc 0)) }

pub instances_fits : (tree : ℕ) → Fits (codes "result") (result_at tree) instances_asked
unfolding everything
instances_fits tree = record { shown = refl; tests = refl; strict = refl; order = refl; height = (698, refl); few = omega arith; limit = λ schema. refl; read = refl; typed = refl }

abbrev pub instances_tests : List Term
instances_tests = same (col 1 1) (col 0 0) ∷ []

abbrev pub instances_shows : List Term
instances_shows = col 1 3 ∷ col 1 4 ∷ col 1 5 ∷ col 1 6 ∷ col 1 7 ∷ col 1 8 ∷ col 1 9 ∷ col 1 10 ∷ col 1 11 ∷ []

-- ---- the workunits of a pass, by a mark

-- the first so many numbers in the queue, by tests of their marks, and with the limit's place among what is given
abbrev pub marked_asked : List ℕ → List Name → List Test → ℕ → Asked
marked_asked text parameters tests place = record { text = text; parameters = parameters; shown = 0 ∷ []; tests = tests; order = 0 ∷ []; limit = Some (parameter (suc place)); upto = col 0 place }

-- how the mark for a pass is tested: it is set, or a moment up to one
abbrev pub mark_tests : Pass → List Test
mark_tests Transition = (1, compare.Ge, 0) ∷ (1, compare.Le, 1) ∷ []
mark_tests Validate = (2, compare.Eq, 0) ∷ []
mark_tests Assimilate = (3, compare.Eq, 0) ∷ []
mark_tests Delete = (4, compare.Eq, 0) ∷ []
mark_tests Purge = (5, compare.Ge, 0) ∷ (5, compare.Le, 1) ∷ []

abbrev pub mark_parameters : Pass → List Name
mark_parameters Transition = codes "?1" ∷ codes "?2" ∷ codes "?3" ∷ []
mark_parameters Purge = codes "?1" ∷ codes "?2" ∷ codes "?3" ∷ []
mark_parameters _ = codes "?1" ∷ codes "?2" ∷ []

abbrev pub limit_place : Pass → ℕ
limit_place Transition = 2
limit_place Purge = 2
limit_place _ = 1

abbrev pub pass_asked : Pass → Asked
pass_asked pass = marked_asked (marked_text pass) (mark_parameters pass) (mark_tests pass) (limit_place pass)

pub pass_fits : (pass : Pass) (tree : ℕ) → Fits (codes "queue") (queue_at tree) (pass_asked pass)
unfolding everything
pass_fits Transition tree = record { shown = refl; tests = refl; strict = refl; order = refl; height = (697, refl); few = omega arith; limit = λ schema. refl; read = refl; typed = refl }
pass_fits Validate tree = record { shown = refl; tests = refl; strict = refl; order = refl; height = (698, refl); few = omega arith; limit = λ schema. refl; read = refl; typed = refl }
pass_fits Assimilate tree = record { shown = refl; tests = refl; strict = refl; order = refl; height = (698, refl); few = omega arith; limit = λ schema. refl; read = refl; typed = refl }
pass_fits Delete tree = record { shown = refl; tests = refl; strict = refl; order = refl; height = (698, refl); few = omega arith; limit = λ schema. refl; read = refl; typed = refl }
pass_fits Purge tree = record { shown = refl; tests = refl; strict = refl; order = refl; height = (697, refl); few = omega arith; limit = λ schema. refl; read = refl; typed = refl }
