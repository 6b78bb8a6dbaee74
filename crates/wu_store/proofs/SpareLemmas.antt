-- What the statements of a project leave of the tables of other programs.
use Rattle.wu_schema.proofs.Words.{Database, Executes, HasNamed, List, Ok, Refines, Row, State, Text, World, [], arith, codes, number, subst, ℕ, ◌∷◌, ◌≡◌}
use Rattle.sqlite_rules.specs.Lists.{Has}
use Rattle.wu_schema.specs.Made.{Named, host_class_table, project_table, result_table, workunit_class_table, workunit_table}
use Rattle.wu_schema.specs.Others.{AreThere, Spares, SparesWith, table_names, tables_of_workunits}
use Rattle.wu_schema.specs.Queue.{queue_table}
use Rattle.wu_schema.specs.Tables.{host_class_at, workunit_at}
use Rattle.wu_schema.proofs.OthersLemmas.{others_apart, others_calm, others_still, ours_host_class, ours_workunit}
use Rattle.wu_schema.proofs.SetTexts.{SetBy, SetFits}
use Rattle.wu_schema.proofs.StandsLemmas.{is_there}
use Rattle.wu_store.specs.StandsFor.{KnowsClasses, StandsFor}
use Rattle.wu_store.proofs.DeleteEffect as workunit
use Rattle.wu_store.proofs.DeleteTexts.{delete_text}
use Rattle.wu_store.proofs.HostClassEffect as host_class
use Rattle.wu_store.proofs.HostClassEffect.{cut_text}
use Rattle.wu_store.proofs.SetEffect.{sets_by}
use Rattle.wu_schema.specs.declared.table.ProjectTable.TheVariants as the_table

-- ---- rows that are set

pub set_spares : (named : Named) → ((tree : ℕ) → (named.0 ≡ (named.1 tree).name) × Has table_names (named.1 tree).name) → (from : ℕ) (q : SetBy) → ((tree : ℕ) → SetFits (named.1 tree) from q) → (params : Row) (old new : State) (count : ℕ) → Executes q.text params old new (Ok count) → Spares named old.now new.now
set_spares named ours from q fits params old new count ran there =
    let tree = there.0.0 in
    let table = named.1 tree in
    let has = subst (λ name. HasNamed old.now.schema name table) (ours tree).0 there.0.1 in
    let sets = sets_by old new table has.0 has.1 (is_there old.now.schema _ _ has) from q (fits tree) params count ran in
    others_still old.now new.now sets.schema (λ t is. sets.others t is.there (others_apart old.now.schema t table.name table is has (ours tree).1) (others_calm old.now.schema t table.tree is))

-- ---- rows that go

pub spares_delete_workunit : (n : ℕ) (old new : State) (count : ℕ) → Executes delete_text (number n ∷ []) old new (Ok count) → Spares workunit_table old.now new.now
spares_delete_workunit n old new count ran there =
    let tree = there.0.0 in
    let has = there.0.1 in
    let cut = workunit.cuts old new tree has _ count ran in
    others_still old.now new.now cut.schema (λ t is. cut.others t is.there is.owns (others_apart old.now.schema t (codes "workunit") (workunit_at tree) is has ours_workunit) is.bare)

pub spares_delete_host : (host : List ℕ) (old new : State) (count : ℕ) → Executes cut_text (Text host ∷ []) old new (Ok count) → Spares host_class_table old.now new.now
spares_delete_host host old new count ran there =
    let tree = there.0.0 in
    let has = there.0.1 in
    let cut = host_class.cuts old new tree has host count ran in
    others_still old.now new.now cut.schema (λ t is. cut.others t is.there (others_apart old.now.schema t (codes "host_class") (host_class_at tree) is has ours_host_class) (others_calm old.now.schema t tree is))

-- ---- among the tables of workunits

pub of_workunit : (old new : Database) → Spares workunit_table old new → SparesWith tables_of_workunits old new
of_workunit old new spares there = spares (there.0, tt)

pub of_result : (old new : Database) → Spares result_table old new → SparesWith tables_of_workunits old new
of_result old new spares there = spares (there.1.0, tt)

pub of_class : (old new : Database) → Spares workunit_class_table old new → SparesWith tables_of_workunits old new
of_class old new spares there = spares (there.1.1.0, tt)

pub of_queue : (old new : Database) → Spares queue_table old new → SparesWith tables_of_workunits old new
of_queue old new spares there = spares (there.1.1.1.0, tt)

-- where the tables represent a world, its tables are there
pub there_in : (db : Database) (world : World) → KnowsClasses world → StandsFor db world → AreThere db.schema tables_of_workunits
there_in db world known stands =
    let s = stands.refines in
    let q = stands.queue (omega (arith, known)) in
    (((s.trees the_table.Workunit), (s.tables.each the_table.Workunit tt)), (((s.trees the_table.Result), (s.tables.each the_table.Result tt)), (((s.trees the_table.WorkunitClass), s.tables.each the_table.WorkunitClass known), ((q.tree, q.table), tt))))

pub project_there : (db : Database) (world : World) → Refines db world → AreThere db.schema (project_table ∷ [])
project_there db world s = (((s.trees the_table.Project), (s.tables.each the_table.Project tt)), tt)
