-- The version of each world that the tables stand for, in the row of their project.
use Rattle.wu_schema.proofs.Words.{[], ◌∷◌, column, inl, inr, refl, Database, Ghosts, Held, List, Ok, ProjectTrees, Row, Vec, ap, map, state, sym, ℕ, ◌∙◌, ◌≡◌, number, subst}
use Rattle.wu_schema.specs.Tables.{IsClassedVersion}
use Rattle.wu_schema.specs.ProjectTables.{HasTables}
use Rattle.wu_schema.specs.Versions.{AreOfVersion, project_row}
use Rattle.wu_loader.specs.Asked.{LooksAtTables}
use Rattle.wu_loader.specs.Shown.{keyed}
use Rattle.wu_schema.proofs.AskingLemmas.{asks_made}
use Rattle.wu_check.specs.Versions.{IsReadVersion, IsVersionOf, TellVersion}
use Rattle.wu_store.proofs.AskLemmas.{never_err}
use Rattle.wu_store.proofs.SameWorld.{one_table}
use Rattle.wu_schema.specs.declared.table.ProjectTable.TheVariants as the_table
use Rattle.wu_schema.proofs.TableOrder.{table_of_more}

-- the tables of a version are there for one that has no more
pub fewer_tables : (more fewer : ℕ) → (IsClassedVersion fewer → IsClassedVersion more) → (db : Database) (trees : ProjectTrees) → HasTables more db.schema trees → HasTables fewer db.schema trees
fewer_tables more fewer within db trees has = record { each = λ table is_in. has.each table (table_of_more fewer more within table is_in); by_bytes = has.by_bytes }

one_row : {r s : Row} → ◌≡◌ {A = List Row} (r ∷ []) (s ∷ []) → r ≡ s
one_row e = cc

same_number : {a b : ℕ} → number a ≡ number b → a ≡ b
same_number e = cc

-- what the rows of a project tell is its version
told_is : (rows : List Row) (version : ℕ) → TellVersion rows version → (told : ℕ) → AreOfVersion rows told → version ≡ told
told_is rows version (inl (value, (row, one, is), inl same)) told of = let e = sym one ∙ of.1 in let f = sym is ∙ ap (λ (r : Row). column r 1) (one_row e) in same_number (sym same ∙ f)
told_is rows version (inl (value, (row, one, is), inr none)) told of = let e = sym one ∙ of.1 in absurd (none.1 told (sym is ∙ ap (λ (r : Row). column r 1) (one_row e)))
told_is rows version (inr none) told of = absurd (none.1 (number told) (project_row of.0 told, of.1, refl))

-- what is read in the row of the project is the version of each world
version_of_row : (rows : List Row) (version : ℕ) → TellVersion rows version → (db : Database) (trees : ProjectTrees) → HasTables 1 db.schema trees → rows ≡ map (keyed 3) (db.trees (trees the_table.Project)) → IsVersionOf db version
version_of_row rows version tells db trees tables shown world stands =
    let stored = one_table db _ _ _ (tables.each the_table.Project tt) (stands.tables.each the_table.Project tt) ∙ stands.rows.project in
    sym (told_is rows version tells world.version (number world.next_number, shown ∙ ap (map (keyed 3)) stored))

-- and of its one row
read_of_row : (rows : List Row) (version : ℕ) → TellVersion rows version → (db : Database) (trees : ProjectTrees) → HasTables 1 db.schema trees → rows ≡ map (keyed 3) (db.trees (trees the_table.Project)) → IsReadVersion db version
read_of_row rows version tells db trees tables shown = record {
  stands = version_of_row rows version tells db trees tables shown;
  read = λ others there. subst (λ rs. TellVersion rs version) (shown ∙ ap (map (keyed 3)) (one_table db _ _ _ (tables.each the_table.Project tt) (there.each the_table.Project tt))) tells;
}

module _ {S A : Type 0} (g : Ghosts S) (a b : Held S) where
  pub looks_version : (rows : Vec Row A) (version : ℕ) → LooksAtTables 1 g a b (Ok rows) (λ db trees shown. shown.items ≡ map (keyed 3) (db.trees (trees the_table.Project))) → TellVersion rows.items version → LooksAtTables 1 g a b (Ok version) (λ db trees version. IsReadVersion db version)
  looks_version rows version it tells = record {
    asks = asks_made g a b rows (Ok version) (never_err version) it.asks;
    opens = it.opens;
    says = λ clean trees has. read_of_row rows.items version tells (state g a).now trees has.tables (it.says clean trees has);
    fault = tt;
    answered = λ clean trees has unlimited. tt;
  }
