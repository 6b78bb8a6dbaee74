-- What is found in a schema, or is wrong with it.
use Rattle.std.specs.Prelude.{◌≡◌, ◌<◌, ◌^◌, ℕ, true, false, nat_le, List, [], ◌∷◌, codes, Option, Some, None, IsSome}
use Rattle.std.specs.List.{AllByRecursion}
use Rattle.sqlite.specs.Collation.TheVariants.{Binary}
use Rattle.sqlite.specs.Schema.{Schema}
use Rattle.sqlite.specs.Table.{Table}
use Rattle.sqlite_rules.specs.Lists.{Has}
use Rattle.sqlite_schema.specs.Names.{table_named}
use Rattle.sqlite_schema.specs.Rules.{guards}
use Rattle.sqlite_schema.specs.declared.schema.Index.{Index}
use Rattle.sqlite_value.specs.Keys.{first_key}
use Rattle.wu_schema.specs.Indexes.{IsIndexed, queue_indexes}
use Rattle.wu_schema.specs.Tables.{HasNamed, OwnsTree, host_at, queue_at}
use Rattle.wu_tables.specs.Forms.{table_of_form}
use Rattle.wu_schema.specs.ProjectTables.{IsTableOf, table_name, rank, table_at}
use Rattle.wu_schema.specs.declared.table.ProjectTable.{ProjectTable}
use Rattle.wu_schema.specs.declared.table.ProjectTable.TheVariants.{Host}
use Rattle.wu_tables.specs.declared.forms.TableForm.{TableForm}
use Rattle.wu_tables.specs.declared.project.Misfit.{Misfit}
use Rattle.wu_tables.specs.declared.project.Misfit.TheVariants.{Missing, Altered, HostNames}

-- The property holds of the number that is found; if none is found, it holds of no number.
abbrev pub FindsPlace : (ℕ → Type 0) → Option ℕ → Type 0
FindsPlace P None = (n : ℕ) → P n → ⊥
FindsPlace P (Some n) = P n

-- The name finds this table in its tree.
abbrev pub IsTableIn : Schema → List ℕ → (ℕ → Table) → ℕ → Type 0
IsTableIn schema name made tree = HasNamed schema name (made tree)

-- The table has this form, in a stored tree that no other table has.
pub record Stands (schema : Schema) (table : Table) (form : TableForm) : Type 0 where
  pub like : table ≡ table_of_form form table.tree
  pub low : nat_le (2 ^ 31) table.tree ≡ false
  pub owns : OwnsTree schema (table_of_form form table.tree)

-- If the index is a unique one on only the names of the hosts in this tree, it compares their bytes.
abbrev pub IsByBytes : ℕ → Index → Type 0
IsByBytes tree i = guards i (host_at tree) ≡ true → i.columns ≡ 1 ∷ [] → (first_key i.order).collation ≡ Binary

-- Each such index compares the bytes of the names.
abbrev pub AreByBytes : Schema → ℕ → Type 0
AreByBytes schema tree = (i : Index) → Has schema.indexes i → IsByBytes tree i

-- The queue is there with its five indexes.
pub record HasQueueIn (schema : Schema) (tree : ℕ) : Type 0 where
  pub table : HasNamed schema (codes "queue") (queue_at tree)
  pub indexes : AllByRecursion (IsIndexed schema tree) queue_indexes

-- If the version has this table of a project, its name finds it in this tree.
abbrev pub IsThere : ℕ → Schema → ProjectTable → ℕ → Type 0
IsThere version schema which tree = IsTableOf which version → IsTableIn schema (table_name which) (table_at which) tree

-- This is wrong with the schema: a table of the version is missing; or its name is there, but nowhere as the program
-- makes it; or an index does not compare the bytes of the names of hosts.
abbrev pub IsMisfitOf : ℕ → Schema → Misfit → Type 0
IsMisfitOf version schema (Missing which) = IsTableOf which version × (table_named schema (table_name which) ≡ None)
IsMisfitOf version schema (Altered which) =
    IsTableOf which version × IsSome (table_named schema (table_name which)) × ((tree : ℕ) → IsTableIn schema (table_name which) (table_at which) tree → ⊥)
IsMisfitOf version schema HostNames = (tree : ℕ) × HasNamed schema (codes "host") (host_at tree) × (AreByBytes schema tree → ⊥)

-- The place of what is wrong in the written order: that of its table, and for the names of hosts a place behind all
-- tables.
abbrev pub rank_of : Misfit → ℕ
rank_of (Missing which) = rank which
rank_of (Altered which) = rank which
rank_of HostNames = 9

-- Each table of the version with a place below this one is there as the program makes it.
abbrev pub AreThereBefore : ℕ → Schema → ℕ → Type 0
AreThereBefore version schema place = (which : ProjectTable) → rank which < place → (tree : ℕ) × IsThere version schema which tree

-- The table of hosts is there, and each unique index on its names compares their bytes.
abbrev pub HasBytewiseHosts : ℕ → Schema → Type 0
HasBytewiseHosts version schema = (tree : ℕ) × IsThere version schema Host tree × AreByBytes schema tree

-- This is the first that is wrong with the schema, in the written order.
pub record IsFirstMisfit (version : ℕ) (schema : Schema) (misfit : Misfit) : Type 0 where
  pub wrong : IsMisfitOf version schema misfit
  pub before : AreThereBefore version schema (rank_of misfit)
