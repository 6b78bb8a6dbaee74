-- The tables of schema versions 1 to 3, wherever the store puts them, and schemas that have those of a version, except
-- the queue.
use Rattle.std.specs.Prelude.{◌≡◌, ◌≤◌, ◌^◌, ◌==◌, find, nat_le, false, [], ◌∷◌, Some, None, codes, List, ℕ, true, pos, slice_get}
use Rattle.wu_core.specs.Limits.{class_version}
use Rattle.sqlite.specs.Collation.TheVariants.{Binary}
use Rattle.sqlite.specs.declared.types.Value.TheVariants.{Null, Int}
use Rattle.sqlite.specs.Term.{lit, col, op2}
use Rattle.sqlite.specs.Table.{Table}
use Rattle.sqlite_schema.specs.declared.schema.Column.{Column}
use Rattle.sqlite_schema.specs.declared.schema.Reference.{Reference}
use Rattle.sqlite_schema.specs.declared.schema.Action.TheVariants as action
use Rattle.sqlite.specs.Schema.{Schema}
use Rattle.sqlite_sql.specs.declared.ops.BinaryOp.TheVariants as by
use Rattle.sqlite_sql.specs.declared.ops.CompareOp.TheVariants as compare
use Rattle.sqlite.specs.Kind.{Kind}
use Rattle.sqlite.specs.Kind.TheVariants.{Integer, Text, Blob}
use Rattle.sqlite_schema.specs.Names.{table_named}
use Rattle.sqlite_rules.specs.Lists.{Has}

-- A column that needs a value.
abbrev pub needs : List ℕ → Kind → Column
needs name kind = record { name = name; kind = kind; is_strict = true; not_null = true; default = Null; collation = Binary }

-- A column that may be empty.
abbrev pub may : List ℕ → Kind → Column
may name kind = record { name = name; kind = kind; is_strict = true; not_null = false; default = Null; collation = Binary }

-- A table of these columns, without a key and without rules.
abbrev pub blank : List ℕ → ℕ → List Column → Table
blank name tree columns = record {
  name = name;
  tree = tree;
  columns = columns;
  key = None;
  primary = [];
  uniques = [];
  orders = [];
  checks = [];
  references = [];
  computed = [];
  stamps = record { places = []; terms = []; formats = [] };
  is_counted = false;
}

-- The table of the project: one row.
abbrev pub project_at : ℕ → Table
project_at tree = record (blank (codes "project") tree (may (codes "one") Integer ∷ needs (codes "version") Integer ∷ needs (codes "next_number") Integer ∷ [])) {
  key = Some 0;
  primary = 0 ∷ [];
  checks = op2 (by.Compare compare.Eq Binary) (col 1 0) (lit (Int (pos 1))) ∷ [];
}

-- The table of workunits, by number, with unique names.
abbrev pub workunit_at : ℕ → Table
workunit_at tree = record (blank (codes "workunit") tree (may (codes "number") Integer
    ∷ needs (codes "name") Text
    ∷ needs (codes "min_quorum") Integer
    ∷ needs (codes "target_nresults") Integer
    ∷ needs (codes "max_error_results") Integer
    ∷ needs (codes "max_total_results") Integer
    ∷ needs (codes "max_success_results") Integer
    ∷ needs (codes "delay_bound") Integer
    ∷ needs (codes "credit") Integer
    ∷ needs (codes "input") Blob
    ∷ needs (codes "error_mask") Integer
    ∷ may (codes "canonical") Integer
    ∷ needs (codes "assimilate") Integer
    ∷ needs (codes "file_delete") Integer
    ∷ may (codes "done_at") Integer
    ∷ [])) {
      key = Some 0;
      primary = 0 ∷ [];
      uniques = (2 ∷ []) ∷ [];
      orders = record { digits = 0 } ∷ [];
    }

-- An instance refers to its workunit, and is deleted with it.
abbrev pub result_refers : Reference
result_refers = record { columns = 1 ∷ []; parent = codes "workunit"; parent_columns = codes "number" ∷ []; on_delete = action.Cascade; on_update = action.NoAction; is_deferred = false }

-- The table of instances, by workunit and number.
abbrev pub result_at : ℕ → Table
result_at tree = record (blank (codes "result") tree (needs (codes "workunit") Integer
    ∷ needs (codes "n") Integer
    ∷ needs (codes "server_state") Integer
    ∷ needs (codes "outcome") Integer
    ∷ needs (codes "validate_state") Integer
    ∷ needs (codes "file_delete") Integer
    ∷ may (codes "host") Text
    ∷ may (codes "sent_at") Integer
    ∷ may (codes "deadline") Integer
    ∷ may (codes "received_at") Integer
    ∷ needs (codes "output") Blob
    ∷ [])) {
      primary = 1 ∷ 2 ∷ [];
      uniques = (1 ∷ 2 ∷ []) ∷ [];
      orders = record { digits = 0 } ∷ [];
      references = result_refers ∷ [];
    }

-- The table of grants, in order of their making, one for an instance.
abbrev pub grant_at : ℕ → Table
grant_at tree = record (blank (codes "credit_grant") tree (may (codes "seq") Integer ∷ needs (codes "workunit") Integer ∷ needs (codes "n") Integer ∷ needs (codes "host") Text ∷ needs (codes "credit") Integer ∷ [])) {
  key = Some 0;
  primary = 0 ∷ [];
  uniques = (2 ∷ 3 ∷ []) ∷ [];
  orders = record { digits = 0 } ∷ [];
}

-- The table of hosts, with what each was granted.
abbrev pub host_at : ℕ → Table
host_at tree = record (blank (codes "host") tree (needs (codes "name") Text ∷ needs (codes "total") Integer ∷ needs (codes "grants") Integer ∷ [])) {
  primary = 1 ∷ [];
  uniques = (1 ∷ []) ∷ [];
  orders = record { digits = 0 } ∷ [];
}

-- The table of archived workunits, in order of archiving, with unique numbers and names.
abbrev pub archived_at : ℕ → Table
archived_at tree = record (blank (codes "archived") tree (may (codes "seq") Integer ∷ needs (codes "number") Integer ∷ needs (codes "name") Text ∷ needs (codes "error_mask") Integer ∷ may (codes "canonical") Integer ∷ needs (codes "output") Blob ∷ needs (codes "done_at") Integer ∷ [])) {
  key = Some 0;
  primary = 0 ∷ [];
  uniques = (2 ∷ []) ∷ (3 ∷ []) ∷ [];
  orders = record { digits = 0 } ∷ record { digits = 0 } ∷ [];
}

-- The table of imports, by kind and name.
abbrev pub import_at : ℕ → Table
import_at tree = record (blank (codes "import") tree (needs (codes "kind") Integer ∷ needs (codes "name") Text ∷ needs (codes "template") Blob ∷ needs (codes "content") Blob ∷ needs (codes "first_number") Integer ∷ needs (codes "verdicts") Text ∷ [])) {
  primary = 1 ∷ 2 ∷ [];
  uniques = (1 ∷ 2 ∷ []) ∷ [];
  orders = record { digits = 0 } ∷ [];
}

-- A row whose key is the number of a workunit refers to that, and is deleted with it.
abbrev pub number_refers : Reference
number_refers = record result_refers { columns = 0 ∷ [] }

-- The queue: what the passes select by, for each workunit.
abbrev pub queue_at : ℕ → Table
queue_at tree = record (blank (codes "queue") tree (may (codes "workunit") Integer ∷ may (codes "wake") Integer ∷ needs (codes "to_validate") Integer ∷ needs (codes "to_assimilate") Integer ∷ needs (codes "to_delete") Integer ∷ may (codes "purge_from") Integer ∷ [])) {
  key = Some 0;
  primary = 0 ∷ [];
  references = number_refers ∷ [];
}

-- The table of the class of each host that has one.
abbrev pub host_class_at : ℕ → Table
host_class_at tree = record (blank (codes "host_class") tree (needs (codes "host") Text ∷ needs (codes "class") Integer ∷ [])) {
  primary = 1 ∷ [];
  uniques = (1 ∷ []) ∷ [];
  orders = record { digits = 0 } ∷ [];
}

-- The table of the class of each workunit.
abbrev pub workunit_class_at : ℕ → Table
workunit_class_at tree = record (blank (codes "workunit_class") tree (may (codes "workunit") Integer ∷ needs (codes "class") Integer ∷ [])) {
  key = Some 0;
  primary = 0 ∷ [];
  references = number_refers ∷ [];
}

-- The name finds this table.
pub record HasTable (schema : Schema) (name : List ℕ) (at : ℕ) (table : Table) : Type 0 where
  pub named : table_named schema name ≡ Some at
  pub there : slice_get schema.tables at ≡ Some table
  -- The tree of the table is a stored one, and finds the table.
  pub low : nat_le (2 ^ 31) table.tree ≡ false
  pub stands : find (λ t. t.tree == table.tree) schema.tables ≡ Some table

-- No other table, whoever made it, has this table's tree.
abbrev pub OwnsTree : Schema → Table → Type 0
OwnsTree schema table = (other : Table) → Has schema.tables other → other.tree ≡ table.tree → other ≡ table

-- The name finds this table, wherever it is in the list, and its tree is its own.
abbrev pub HasNamed : Schema → List ℕ → Table → Type 0
HasNamed schema name table = (at : ℕ) × HasTable schema name at table × OwnsTree schema table

-- The version of the schema has classes of hosts and of workunits.
abbrev pub IsClassedVersion : ℕ → Type 0
IsClassedVersion version = class_version ≤ version
