-- What the SELECTs of the views answer of the world that the tables stand for.
use Rattle.wu_schema.proofs.Words.{Binary, Database, Equal, Import, Int, IsAscending, IsPermutation, IsPermutation-map, IsPermutation-trans, Less, List, None, Ordering, Output, Refines, Row, Shown, State, Term, Text, World, [], AllByRecursion, ap, archived_at, arith, class_cells, codes, col, column, drop, eval_all, everything, false, filter, host_at, host_class_at, hosts_of, import_at, import_cells, import_kind_code, lit, map, map-map, nat_le, negsuc, refl, stored_archived, subst, sym, true, value_cmp, ℕ, ◌^◌, ◌∙◌, ◌∷◌, ◌≡◌}
use Rattle.std.specs.Ordering.{nat_cmp, ordering_then}
use Rattle.sqlite.specs.Program.{overlay}
use Rattle.sqlite.specs.Query.{IsSureAnswer, output_cmp}
use Rattle.sqlite_value.proofs.OrderLemmas.{then-Equal, value_cmp-Text}
use Rattle.sqlite_value.specs.declared.keys.Key.{Key}
use Rattle.wu_core.specs.declared.workunit.HostClass.{HostClass}
use Rattle.wu_core.proofs.HostLemmas.{once, pairs_ascend}
use Rattle.wu_core.proofs.ClassLemmas.{Before}
use Rattle.wu_schema.specs.declared.table.ProjectTable.TheVariants as the_table
use Rattle.wu_schema.proofs.RowLemmas.{no_test}
use Rattle.wu_schema.proofs.SelectLemmas.{Asked, Fits}
use Rattle.wu_schema.specs.Refines.{host_of}
use Rattle.wu_store.specs.StandsFor.{KnowsClasses}
use Rattle.wu_store.proofs.ClassAnswers.{rising}
use Rattle.wu_store.proofs.OrderAnswers.{behind_rowid, by_column, by_key, ordered, ordered_pair, pair, same_cmp, sorted, sure_in_order, sure_ordered}
use Rattle.wu_store.proofs.ReadAnswers.{asked_answers}
use Rattle.wu_store.proofs.KeyedLemmas.{numbers_compare}
use Rattle.wu_views.specs.Imports.{import_order, imports_in_order}
use Rattle.wu_views.specs.Listings.{all_results_shown, archive_of, import_shown, placed_archived_row, workunit_shown}
use Rattle.wu_views.proofs.ImportLemmas.{in_order_rises, in_order_same, Precedes}
use Rattle.wu_views.proofs.JoinAnswers as joins
use Rattle.wu_views.proofs.JoinTexts.{results_joined, results_text, workunits_joined, workunits_text}
use Rattle.wu_views.proofs.ListLemmas.{AnswersAll, answers_all}
use Rattle.wu_views.proofs.ViewAnswers.{host_pair, host_shows, names_rise, names_shown}
use Rattle.wu_views.specs.declared.texts.TheConstants.{LIST_ARCHIVE, LIST_CLASSES, LIST_HOSTS, LIST_IMPORTS}

-- no limit
abbrev no_limit : Term
no_limit = lit (Int (negsuc 0))

-- a whole table whose rowids SQLite picks, in an order in which what is shown of its rows rises
module _ {X : Type 0} (tree : ℕ) (shows : List Term) (order : List (Term × Key)) (cells : X → Row) (cell_pair : Row → Output) (xs : List X) where
  abbrev row_ordered : Row → Output
  row_ordered = ordered_pair tree [] shows [] order no_limit

  abbrev cells_pair : X → Output
  cells_pair x = cell_pair (cells x)

  all_ordered : (db : Database) (rows : List Row) → nat_le (2 ^ 31) tree ≡ false → ((r : Row) → row_ordered r ≡ cell_pair (drop 1 r)) → IsAscending (λ a b. output_cmp (ordered tree [] shows [] order no_limit) a b ≡ Less) (map cells_pair xs)
      → IsPermutation (map cells xs) (map (drop 1) (db.trees tree)) → IsSureAnswer (ordered tree [] shows [] order no_limit) (overlay db.trees []) [] rows → rows ≡ map (λ (o : Output). o.1) (map cells_pair xs)
  all_ordered db rows low pair_is up same h =
      let stored = db.trees tree in
      let those : IsPermutation (map cells_pair xs) (map cell_pair (map (drop 1) stored)) = subst (λ os. IsPermutation os (map cell_pair (map (drop 1) stored))) (map-map cell_pair cells xs) (IsPermutation-map cell_pair _ _ same) in
      let seen : map row_ordered (filter (λ r. true) stored) ≡ map cell_pair (map (drop 1) stored) = behind_rowid (λ r. true) (λ r. true) row_ordered cell_pair (λ r. refl) pair_is stored ∙ ap (map cell_pair) (no_test (map (drop 1) stored)) in
      sure_ordered tree [] shows [] order no_limit db rows (map cells_pair xs) low up (subst (IsPermutation (map cells_pair xs)) (sym seen) those) h

-- in the order of a column that rises
module _ {X : Type 0} (tree : ℕ) (shows : List Term) (place : ℕ) (cells : X → Row) (cell_pair : Row → Output) (xs : List X) where
  abbrev row_pair : Row → Output
  row_pair = pair tree [] shows place false no_limit []

  pub all_sorted : (db : Database) (rows : List Row) → nat_le (2 ^ 31) tree ≡ false → ((r : Row) → row_pair r ≡ cell_pair (drop 1 r)) → IsAscending (λ a b. by_key a b ≡ Less) (map (λ x. cell_pair (cells x)) xs) → IsPermutation (map cells xs) (map (drop 1) (db.trees tree))
      → IsSureAnswer (sorted tree [] shows place false no_limit []) (overlay db.trees []) [] rows → rows ≡ map (λ (o : Output). o.1) (map (λ x. cell_pair (cells x)) xs)
  all_sorted db rows low pair_is up same h =
      all_ordered tree shows (by_column tree [] shows place false no_limit []) cells cell_pair xs db rows low pair_is
      (subst (λ c. IsAscending (λ a b. c a b ≡ Less) (map (λ x. cell_pair (cells x)) xs)) (same_cmp tree [] shows place false no_limit []) up) same h

-- ---- hosts, in order of their names

abbrev pub hosts_asked : Asked
hosts_asked = record { text = LIST_HOSTS.now; parameters = []; shown = 0 ∷ 1 ∷ 2 ∷ []; tests = []; order = 0 ∷ []; limit = None; upto = lit (Int (negsuc 0)) }

hosts_fits : (tree : ℕ) → Fits (codes "host") (host_at tree) hosts_asked
unfolding everything
hosts_fits tree = record { shown = refl; tests = refl; strict = refl; order = refl; height = (0, tt); few = omega arith; limit = λ schema. refl; read = refl; typed = refl }

abbrev pub hosts_shown : World → List Row
hosts_shown world = map (host_of world.grants) (hosts_of world.grants)

host_pairs : (tree : ℕ) (r : Row) → row_pair tree host_shows 1 (host_of []) host_pair [] r ≡ host_pair (drop 1 r)
host_pairs tree [] = refl
host_pairs tree (v ∷ r) = refl

pub hosts_found : (old new : State) (rows : List Row) → Shown hosts_asked.text [] old new rows → (world : World) → KnowsClasses world → Refines old.now world → rows ≡ hosts_shown world
hosts_found old new rows h world known s =
    let grants = world.grants in
    all_sorted (s.trees the_table.Host) host_shows 1 (host_of grants) host_pair (hosts_of grants) old.now rows (s.tables.each the_table.Host tt).1.low (host_pairs (s.trees the_table.Host)) (names_rise grants (hosts_of grants) (once grants)) s.rows.hosts.same
    (asked_answers the_table.Host hosts_asked hosts_fits old new world s tt [] rows h).answer
    ∙ names_shown grants (hosts_of grants)

pub hosts_answer : AnswersAll hosts_asked.text hosts_shown
hosts_answer = answers_all the_table.Host (λ version known. tt) hosts_asked hosts_fits refl (λ tree. refl) hosts_shown hosts_found

-- ---- the archive, in order of archiving

abbrev pub archive_asked : Asked
archive_asked = record { text = LIST_ARCHIVE.now; parameters = []; shown = 0 ∷ 1 ∷ 2 ∷ 3 ∷ 4 ∷ 5 ∷ 6 ∷ []; tests = []; order = 0 ∷ []; limit = None; upto = lit (Int (negsuc 0)) }

archive_fits : (tree : ℕ) → Fits (codes "archived") (archived_at tree) archive_asked
unfolding everything
archive_fits tree = record { shown = refl; tests = refl; strict = refl; order = refl; height = (0, tt); few = omega arith; limit = λ schema. refl; read = refl; typed = refl }

abbrev archive_shows : List Term
archive_shows = col 1 0 ∷ col 1 2 ∷ col 1 3 ∷ col 1 4 ∷ col 1 5 ∷ col 1 6 ∷ col 1 7 ∷ []

abbrev pub archive_shown : World → List Row
archive_shown world = map placed_archived_row (archive_of world)

pub archive_found : (old new : State) (rows : List Row) → Shown archive_asked.text [] old new rows → (world : World) → KnowsClasses world → Refines old.now world → rows ≡ archive_shown world
archive_found old new rows h world known s =
    let tree = (s.trees the_table.Archived) in
    let shown : Row → Row = λ r. eval_all archive_shows ([] ∷ r ∷ []) in
    sure_in_order tree [] archive_shows no_limit [] old.now rows (s.tables.each the_table.Archived tt).1.low s.rows.archived.shaped.0 (asked_answers the_table.Archived archive_asked archive_fits old new world s tt [] rows h).answer
    ∙ ap (map shown) (no_test (old.now.trees tree) ∙ s.rows.archived.same)
    ∙ map-map shown stored_archived (archive_of world)

pub archive_answer : AnswersAll archive_asked.text archive_shown
archive_answer = answers_all the_table.Archived (λ version known. tt) archive_asked archive_fits refl (λ tree. refl) archive_shown archive_found

-- ---- the classes of hosts, in order of their names

abbrev pub classes_asked : Asked
classes_asked = record { text = LIST_CLASSES.now; parameters = []; shown = 0 ∷ 1 ∷ []; tests = []; order = 0 ∷ []; limit = None; upto = lit (Int (negsuc 0)) }

classes_fits : (tree : ℕ) → Fits (codes "host_class") (host_class_at tree) classes_asked
unfolding everything
classes_fits tree = record { shown = refl; tests = refl; strict = refl; order = refl; height = (0, tt); few = omega arith; limit = λ schema. refl; read = refl; typed = refl }

abbrev class_shows : List Term
class_shows = col 1 1 ∷ col 1 2 ∷ []

-- of the cells of a host with a class its name, and what is shown
abbrev class_pair : Row → Output
class_pair c = (column c 0 ∷ [], column c 0 ∷ column c 1 ∷ [])

abbrev it_pair : HostClass → Output
it_pair it = class_pair (class_cells it)

below_all : (it : HostClass) (more : List HostClass) → AllByRecursion (Before it) more → AllByRecursion (λ b. by_key (it_pair it) b ≡ Less) (map it_pair more)
below_all it [] low = tt
below_all it (one ∷ more) low = (value_cmp-Text it.host one.host ∙ low.0, below_all it more low.1)

classes_rise : (all : List HostClass) → IsAscending Before all → IsAscending (λ a b. by_key a b ≡ Less) (map it_pair all)
classes_rise [] up = tt
classes_rise (it ∷ more) up = (below_all it more up.0, classes_rise more up.1)

class_pairs : (tree : ℕ) (r : Row) → row_pair tree class_shows 1 class_cells class_pair [] r ≡ class_pair (drop 1 r)
class_pairs tree [] = refl
class_pairs tree (v ∷ r) = refl

abbrev pub classes_shown : World → List Row
classes_shown world = map class_cells world.classes

pub classes_found : (old new : State) (rows : List Row) → Shown classes_asked.text [] old new rows → (world : World) → KnowsClasses world → Refines old.now world → rows ≡ classes_shown world
classes_found old new rows h world known s =
    all_sorted (s.trees the_table.HostClass) class_shows 1 class_cells class_pair world.classes old.now rows (s.tables.each the_table.HostClass known).1.low (class_pairs (s.trees the_table.HostClass)) (classes_rise world.classes (rising world.classes (pairs_ascend Before world.classes s.rows.classes_in_order)))
    (s.rows.classes known).hosts.same (asked_answers the_table.HostClass classes_asked classes_fits old new world s known [] rows h).answer
    ∙ map-map (λ (o : Output). o.1) it_pair world.classes

pub classes_answer : AnswersAll classes_asked.text classes_shown
classes_answer = answers_all the_table.HostClass (λ version known. known) classes_asked classes_fits refl (λ tree. refl) classes_shown classes_found

-- ---- imports, in order of their kinds and names

abbrev pub imports_asked : Asked
imports_asked = record { text = LIST_IMPORTS.now; parameters = []; shown = 0 ∷ 1 ∷ 4 ∷ 5 ∷ []; tests = []; order = 0 ∷ 1 ∷ []; limit = None; upto = lit (Int (negsuc 0)) }

imports_fits : (tree : ℕ) → Fits (codes "import") (import_at tree) imports_asked
unfolding everything
imports_fits tree = record { shown = refl; tests = refl; strict = refl; order = refl; height = (0, tt); few = omega arith; limit = λ schema. refl; read = refl; typed = refl }

abbrev import_shows : List Term
import_shows = col 1 1 ∷ col 1 2 ∷ col 1 5 ∷ col 1 6 ∷ []

abbrev import_sorts : List (Term × Key)
import_sorts = (col 1 1, record { collation = Binary; descending = false }) ∷ (col 1 2, record { collation = Binary; descending = false }) ∷ []

-- of the cells of an import its kind and its name, and what is shown
abbrev import_pair : Row → Output
import_pair c = (column c 0 ∷ column c 1 ∷ [], column c 0 ∷ column c 1 ∷ column c 4 ∷ column c 5 ∷ [])

abbrev pair_of : Import → Output
pair_of import = import_pair (import_cells import)

abbrev cmp_of : ℕ → Output → Output → Ordering
cmp_of tree = output_cmp (ordered tree [] import_shows [] import_sorts no_limit)

-- rows stand as their imports
cmp_is : (tree : ℕ) (a b : Import) → cmp_of tree (pair_of a) (pair_of b) ≡ import_order a b
cmp_is tree a b =
    ap (λ o. ordering_then o (ordering_then (value_cmp (Text a.name) (Text b.name)) Equal)) (numbers_compare (import_kind_code a.kind) (import_kind_code b.kind))
    ∙ ap (ordering_then (nat_cmp (import_kind_code a.kind) (import_kind_code b.kind))) (then-Equal (value_cmp (Text a.name) (Text b.name)) ∙ value_cmp-Text a.name b.name)

above_all : (tree : ℕ) (import : Import) (more : List Import) → AllByRecursion (Precedes import) more → AllByRecursion (λ b. cmp_of tree (pair_of import) b ≡ Less) (map pair_of more)
above_all tree import [] low = tt
above_all tree import (one ∷ more) low = (cmp_is tree import one ∙ low.0, above_all tree import more low.1)

imports_rise : (tree : ℕ) (all : List Import) → IsAscending Precedes all → IsAscending (λ a b. cmp_of tree a b ≡ Less) (map pair_of all)
imports_rise tree [] up = tt
imports_rise tree (import ∷ more) up = (above_all tree import more up.0, imports_rise tree more up.1)

import_pairs : (tree : ℕ) (r : Row) → row_ordered tree import_shows import_sorts import_cells import_pair [] r ≡ import_pair (drop 1 r)
import_pairs tree [] = refl
import_pairs tree (v ∷ r) = refl

abbrev pub imports_shown : World → List Row
imports_shown world = map import_shown (imports_in_order world.imports)

pub imports_found : (old new : State) (rows : List Row) → Shown imports_asked.text [] old new rows → (world : World) → KnowsClasses world → Refines old.now world → rows ≡ imports_shown world
imports_found old new rows h world known s =
    let all = imports_in_order world.imports in
    let same : IsPermutation (map import_cells all) (map (drop 1) (old.now.trees (s.trees the_table.Import))) =
    IsPermutation-trans _ _ _ (IsPermutation-map import_cells _ _ (in_order_same world.imports)) s.rows.imports.same in
    all_ordered (s.trees the_table.Import) import_shows import_sorts import_cells import_pair all old.now rows (s.tables.each the_table.Import tt).1.low (import_pairs (s.trees the_table.Import))
    (imports_rise (s.trees the_table.Import) all (in_order_rises world.imports s.rows.imported_once)) same (asked_answers the_table.Import imports_asked imports_fits old new world s tt [] rows h).answer
    ∙ map-map (λ (o : Output). o.1) pair_of all

pub imports_answer : AnswersAll imports_asked.text imports_shown
imports_answer = answers_all the_table.Import (λ version known. tt) imports_asked imports_fits refl (λ tree. refl) imports_shown imports_found

-- ---- workunits with their classes, in order of number

abbrev pub workunits_shown : World → List Row
workunits_shown world = map workunit_shown world.workunits

pub workunits_answer : AnswersAll workunits_text workunits_shown
workunits_answer = record {
  question = workunits_joined.question;
  compiles = λ old world known s. (_, _, _, workunits_joined.here old world known s);
  found = λ old new rows h world known s. joins.workunits_found old world known s rows _ _ (workunits_joined.here old world known s) new h;
}

-- ---- instances, in order of their workunits' numbers and their own

pub results_answer : AnswersAll results_text all_results_shown
results_answer = record {
  question = results_joined.question;
  compiles = λ old world known s. (_, _, _, results_joined.here old world known s);
  found = λ old new rows h world known s. joins.results_found old world known s rows _ _ (results_joined.here old world known s) new h;
}
