-- What the questions for classes answer.
use Rattle.wu_schema.proofs.Words.{Binary, Bool, Int, Less, List, None, Option, Row, Shown, Some, State, Text, Workunit, World, [], ap, arith, bytes_eq, class_cells, codes, column, drop, equal, everything, filter, find, holds, host_class_at, length, list_all, lit, negsuc, number, option_map, option_to_list, refl, stored_class, sym, true, workunit_class_at, ℕ, ◌==◌, ◌∙◌, ◌∷◌, ◌≡◌, ◌≤◌, IsAscending}
use Rattle.std.specs.Option.{option_map_or}
use Rattle.sqlite_sql.specs.declared.ops.CompareOp.TheVariants as compare
use Rattle.wu_core.specs.declared.workunit.HostClass.{HostClass}
use Rattle.wu_core.proofs.HostLemmas.{Ascends, matches, pairs_ascend}
use Rattle.wu_core.proofs.ClassLemmas.{Before}
use Rattle.wu_schema.specs.Tables.{IsClassedVersion}
use Rattle.wu_schema.specs.declared.table.ProjectTable.{ProjectTable}
use Rattle.wu_schema.specs.declared.table.ProjectTable.TheVariants as the_table
use Rattle.wu_schema.specs.ProjectTables.{IsTableOf, table_name, table_at}
use Rattle.wu_schema.proofs.RowLemmas.{one_test}
use Rattle.wu_schema.proofs.SelectLemmas.{Asked, Fits, IsTyped}
use Rattle.wu_store.specs.Answers.{numbered}
use Rattle.wu_store.specs.Reads.{WithClasses}
use Rattle.wu_store.proofs.AskLemmas.{IsQuestion, question_over}
use Rattle.wu_store.proofs.EqualLemmas.{number_equal, text_equal}
use Rattle.wu_store.proofs.OnceLemmas.{one_passes}
use Rattle.wu_store.proofs.ReadAnswers.{asked_rows, cells_shown, one_row, only_shown}
use Rattle.wu_store.proofs.WorldOnce.{bytes_same, once_number}
use Rattle.wu_store.specs.declared.texts.TheConstants.{SELECT_CLASS, SELECT_HOST_CLASS}

-- ---- a question for a class, whole

-- one that fits its table
pub class_question : (p : ProjectTable) → ((version : ℕ) → IsClassedVersion version → IsTableOf p version) → (q : Asked) → ((tree : ℕ) → Fits (table_name p) (table_at p tree) q) → (params : Row) → length params ≡ length q.parameters → ((tree : ℕ) → IsTyped (table_name p) (table_at p tree) q params)
    → IsQuestion q.text params WithClasses
class_question p in_p q fits params few typed = question_over p q fits params few typed WithClasses (λ db world stood. (stood.1, in_p world.version stood.0))

-- ---- the class of a workunit

abbrev pub class_asked : Asked
class_asked = record { text = SELECT_CLASS.now; parameters = codes "?1" ∷ []; shown = 1 ∷ []; tests = (0, compare.Eq, 0) ∷ []; order = []; limit = None; upto = lit (Int (negsuc 0)) }

pub class_fits : (tree : ℕ) → Fits (codes "workunit_class") (workunit_class_at tree) class_asked
unfolding everything
class_fits tree = record { shown = refl; tests = refl; strict = refl; order = refl; height = (698, refl); few = omega arith; limit = λ schema. refl; read = refl; typed = refl }

-- as the answer shows it
abbrev pub work_row : Workunit → Row
work_row w = number w.class ∷ []

abbrev pub row_classed : ℕ → World → Option Row
row_classed n world = option_map work_row (numbered n world)

pub class_found : (old new : State) (n : ℕ) (rows : List Row) → Shown class_asked.text (number n ∷ []) old new rows → (world : World) → WithClasses old.now world → rows ≡ option_to_list (row_classed n world)
class_found old new n rows h world (known, s) =
    one_row stored_class work_row (λ (w : Workunit). w.number == n) _ _ world.workunits _ rows (s.rows.classes known).workunits.same (once_number old.now world s n) (λ w. one_test _ ∙ number_equal w.number n) (λ w. refl)
    (asked_rows the_table.WorkunitClass class_asked class_fits old new world s known (number n ∷ []) rows refl h)

-- ---- the class of a host

abbrev pub host_asked : Asked
host_asked = record { text = SELECT_HOST_CLASS.now; parameters = codes "?1" ∷ []; shown = 1 ∷ []; tests = (0, compare.Eq, 0) ∷ []; order = []; limit = None; upto = lit (Int (negsuc 0)) }

pub host_fits : (tree : ℕ) → Fits (codes "host_class") (host_class_at tree) host_asked
unfolding everything
host_fits tree = record { shown = refl; tests = refl; strict = refl; order = refl; height = (698, refl); few = omega arith; limit = λ schema. refl; read = refl; typed = refl }

abbrev pub class_row : HostClass → Row
class_row it = number it.class ∷ []

abbrev is_named : List ℕ → HostClass → Bool
is_named host it = bytes_eq it.host host

abbrev pub row_named : List ℕ → World → Option Row
row_named host world = option_map class_row (find (is_named host) world.classes)

pub rising : (classes : List HostClass) → Ascends Before classes → IsAscending Before classes
rising [] up = tt
rising (it ∷ more) up = (up.0, rising more up.1)

-- at most one is called so
once_named : (host : List ℕ) (classes : List HostClass) → IsAscending Before classes → length (filter (is_named host) classes) ≤ 1
once_named host classes up = one_passes (is_named host) Before classes (λ a b has_a has_b low on_a on_b.
    let same : bytes_eq b.host a.host ≡ true = bytes_same b.host host a.host on_b on_a in
    absurd (let e = sym same ∙ matches a.host b.host Less low in cc)) up

abbrev by_name : List ℕ → Row → Bool
by_name host cells = equal Binary (column cells 0) (Text host)

abbrev class_in : Row → Row
class_in cells = column cells 1 ∷ []

tests_cells : (host : List ℕ) (r : Row) → list_all (holds ((Text host ∷ []) ∷ r ∷ [])) (Rattle.wu_schema.proofs.SelectLemmas.tests_of (codes "host_class") (host_class_at 0) host_asked) ≡ by_name host (drop 1 r)
tests_cells host [] = one_test _
tests_cells host (v ∷ r) = one_test _

pub host_found : (old new : State) (host : List ℕ) (rows : List Row) → Shown host_asked.text (Text host ∷ []) old new rows → (world : World) → WithClasses old.now world → rows ≡ option_to_list (row_named host world)
host_found old new host rows h world (known, s) =
    let stored = old.now.trees (s.trees the_table.HostClass) in
    let all = asked_rows the_table.HostClass host_asked host_fits old new world s known (Text host ∷ []) rows refl h in
    only_shown class_row (is_named host) world.classes rows (once_named host world.classes (rising world.classes (pairs_ascend Before world.classes s.rows.classes_in_order)))
    (cells_shown class_cells class_row (is_named host) (by_name host) class_in _ _ (tests_cells host) shows_cells (λ it. text_equal it.host host) (λ it. refl) world.classes stored (s.rows.classes known).hosts rows all)
  where
    shows_cells : (r : Row) → column r 2 ∷ [] ≡ class_in (drop 1 r)
    shows_cells [] = refl
    shows_cells (v ∷ r) = refl

-- ---- what the answers are

-- the row that is shown has the class
pub shown_class : (o : Option HostClass) (row : Row) → option_map class_row o ≡ Some row → column row 0 ≡ number (option_map_or (λ (it : HostClass). it.class) o 0)
shown_class None row is = absurd (cc)
shown_class (Some it) row is = let e : class_row it ≡ row = cc in ap (λ (r : Row). column r 0) (sym e)

pub none_shown : (o : Option HostClass) → option_map class_row o ≡ None → option_map_or (λ (it : HostClass). it.class) o 0 ≡ 0
none_shown None is = refl
none_shown (Some it) is = absurd (cc)

pub shown_work : (o : Option Workunit) (row : Row) → option_map work_row o ≡ Some row → (class : ℕ) × (option_map (λ (w : Workunit). w.class) o ≡ Some class) × (column row 0 ≡ number class)
shown_work None row is = absurd (cc)
shown_work (Some w) row is = let e : work_row w ≡ row = cc in (w.class, refl, ap (λ (r : Row). column r 0) (sym e))

pub no_work : (o : Option Workunit) → option_map work_row o ≡ None → option_map (λ (w : Workunit). w.class) o ≡ None
no_work None is = refl
no_work (Some w) is = absurd (cc)
