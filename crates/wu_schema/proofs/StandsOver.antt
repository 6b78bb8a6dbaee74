-- A world stands over any schema that has its tables still, whatever else was made beside them.
use Rattle.wu_schema.proofs.Words.{Binary, Database, Has, HasNamed, HasTable, HasTables, Index, IsDatabase, List, OwnsTree, ProjectTrees, Schema, Refines, Table, World, [], false, first_key, guards, host_at, inl, inr, refl, subst, sym, true, ℕ, ◌∙◌, ◌∷◌, ◌≡◌, ◌⊎◌}
use Rattle.wu_schema.specs.Made.{KeepsOthers}
use Rattle.wu_schema.proofs.StandsLemmas.{is_there}
use Rattle.wu_schema.proofs.Parts.{HasParts, table_of, parts_there, parts_hold, Holds, kept, stands_in, rows_stand}
use Rattle.wu_schema.specs.declared.table.ProjectTable.TheVariants as the_table
use Rattle.wu_schema.specs.ProjectTables.{table_name}

-- what was there is there still, by its name and in a tree of its own, and no new index guards a table that was there
pub record Grows (old new : Database) : Type 0 where
  pub named : (name : List ℕ) (at : ℕ) (t : Table) → HasTable old.schema name at t → HasTable new.schema name at t
  pub owns : (t : Table) → Has old.schema.tables t → OwnsTree old.schema t → OwnsTree new.schema t
  pub keeps : KeepsOthers old new
  pub new_indexes : (i : Index) → Has new.schema.indexes i → Has old.schema.indexes i ⊎ ((t : Table) → Has old.schema.tables t → guards i t ≡ false)

pub grows_same : (old new : Database) → new ≡ old → Grows old new
grows_same old new same = subst (Grows old) (sym same) (record {
  named = λ name at t has. has;
  owns = λ t has own. own;
  keeps = record { tables = λ t has. (has, refl); owns = λ t has own. own; indexes = λ i has. has; views = refl };
  new_indexes = λ i has. inl has;
})

pub grows_both : (old mid new : Database) → Grows old mid → Grows mid new → Grows old new
grows_both old mid new one two = record {
  named = λ name at t has. two.named name at t (one.named name at t has);
  owns = λ t has own. two.owns t (one.keeps.tables t has).0 (one.owns t has own);
  keeps = record {
    tables = λ t has. let first = one.keeps.tables t has in let next = two.keeps.tables t first.0 in (next.0, next.1 ∙ first.1);
    owns = λ t has own. two.keeps.owns t (one.keeps.tables t has).0 (one.keeps.owns t has own);
    indexes = λ i has. two.keeps.indexes i (one.keeps.indexes i has);
    views = two.keeps.views ∙ one.keeps.views;
  };
  new_indexes = λ i has. elim (two.new_indexes i has) [ inl before ↦ one.new_indexes i before | inr none ↦ inr (λ t there. none t (one.keeps.tables t there).0) ];
}

-- how the names of hosts compare
abbrev pub ByBytes : Schema → ℕ → Type 0
ByBytes schema tree = (i : Index) → Has schema.indexes i → guards i (host_at tree) ≡ true → i.columns ≡ 1 ∷ [] → (first_key i.order).collation ≡ Binary

pub tables_are : (version : ℕ) (schema : Schema) (t : ProjectTrees) → HasParts version schema t → ByBytes schema (t the_table.Host) → HasTables version schema t
tables_are version schema t there by = record { each = there; by_bytes = by }

module _ (old new : Database) (grows : Grows old new) where
  pub still_named : (name : List ℕ) (t : Table) → HasNamed old.schema name t → HasNamed new.schema name t
  still_named name t has = (has.0, grows.named name has.0 t has.1, grows.owns t (is_there old.schema name t has) has.2)

  pub still_compares : (tree : ℕ) → Has old.schema.tables (host_at tree) → ByBytes old.schema tree → ByBytes new.schema tree
  still_compares tree there by i has guard columns = elim (grows.new_indexes i has) [ inl before ↦ by i before guard columns | inr none ↦ absurd (let e = sym (none (host_at tree) there) ∙ guard in cc) ]

  pub stands_over : (world : World) → Refines old world → IsDatabase new → Refines new world
  stands_over world s sound =
      let there = parts_there old world s in
      let stands = stands_in world.version old s.trees there in
      record {
        trees = s.trees;
        tables = tables_are world.version new.schema s.trees (λ p is_in. still_named (table_name p) (table_of s.trees p) (there p is_in)) (still_compares (s.trees the_table.Host) (stands the_table.Host tt) s.tables.by_bytes);
        rows = rows_stand new s.trees world (λ p is_in. subst (λ rs. Holds p rs world) (sym (kept world.version old s.trees there new p (grows.keeps.tables (table_of s.trees p) (stands p is_in)).1)) (parts_hold old world s p is_in)) s.rows.classless;
        sound = sound;
      }
