-- Which tables the actions of one change do not touch.
use Rattle.std.specs.Prelude.{◌≡◌, ◌≢◌, ℕ, [], Some}
use Rattle.sqlite.specs.Schema.{Schema}
use Rattle.sqlite.specs.Table.{Table}
use Rattle.sqlite_schema.specs.declared.schema.Action.TheVariants.{NoAction}
use Rattle.sqlite_schema.specs.declared.schema.Keys.{Keys}
use Rattle.sqlite_schema.specs.declared.schema.Reference.{Reference}
use Rattle.sqlite_schema.specs.Rules.{ParentKey, parent_key}
use Rattle.sqlite_rules.specs.Lists.{Has}

module _ (schema : Schema) (keys : Keys) where
  -- Tables in this tree refer to no table.
  abbrev pub IsChildless : ℕ → Type 0
  IsChildless tree = (t : Table) → Has schema.tables t → t.tree ≡ tree → t.references ≡ []

  -- Tables in the first tree refer only to the table in the second.
  abbrev pub RefersOnlyTo : ℕ → ℕ → Type 0
  RefersOnlyTo tree parent = (t : Table) (ref : Reference) (key : ParentKey) → Has schema.tables t → t.tree ≡ tree → Has t.references ref → parent_key schema.tables ref ≡ Some key → key.0 ≡ parent

  -- The table refers only to one parent. The parent refers to no table, and is not in the tree that is written.
  pub record IsCalm (at : Table) (source : ℕ) : Type 0 where
    pub parent : ℕ
    pub childless : IsChildless parent
    pub only : RefersOnlyTo at.tree parent
    pub past : (t : Table) (ref : Reference) (key : ParentKey) → Has schema.tables t → t.tree ≡ at.tree → Has t.references ref → parent_key schema.tables ref ≡ Some key → key.0 ≢ source

  -- The table refers only to one parent, which refers to no table, and does not follow updates of the parent's rows.
  pub record IsSteady (at : Table) : Type 0 where
    pub parent : ℕ
    pub childless : IsChildless parent
    pub only : RefersOnlyTo at.tree parent
    pub stays : (t : Table) (ref : Reference) → Has schema.tables t → t.tree ≡ at.tree → Has t.references ref → ref.on_update ≡ NoAction
