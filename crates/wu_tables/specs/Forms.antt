-- The table that a form describes, in any tree.
use Rattle.std.specs.Prelude.{◌≡◌, ℕ, false, Bool, if◌then◌else◌, List, [], ◌∷◌, map, pos, slice_index_or}
use Rattle.std.specs.Borrow.{Bor}
use Rattle.sqlite.specs.Collation.TheVariants.{Binary}
use Rattle.sqlite.specs.declared.types.Value.TheVariants.{Int, Null}
use Rattle.sqlite.specs.Table.{Table}
use Rattle.sqlite.specs.Term.{Term, lit, col, op2}
use Rattle.sqlite_schema.specs.declared.code.Op.{Op}
use Rattle.sqlite_schema.specs.declared.code.Op.TheVariants as op
use Rattle.sqlite_schema.specs.declared.schema.Column.{Column}
use Rattle.sqlite_schema.specs.declared.schema.Reference.{Reference}
use Rattle.sqlite_schema.specs.declared.schema.Action.TheVariants as action
use Rattle.sqlite_schema.specs.declared.schema.Stamps.{Stamps}
use Rattle.sqlite_sql.specs.declared.ops.BinaryOp.{BinaryOp}
use Rattle.sqlite_sql.specs.declared.ops.BinaryOp.TheVariants as by
use Rattle.sqlite_sql.specs.declared.ops.CompareOp.TheVariants as compare
use Rattle.sqlite_value.specs.Keys.{plain}
use Rattle.sqlite_value.specs.declared.keys.Order.{Order}
use Rattle.wu_schema.specs.Tables.{blank, may, needs}
use Rattle.wu_tables.specs.declared.forms.ColumnForm.{ColumnForm}
use Rattle.wu_tables.specs.declared.forms.ColumnForm.TheVariants.{May, Needs}
use Rattle.wu_tables.specs.declared.forms.ReferenceForm.{ReferenceForm}
use Rattle.wu_tables.specs.declared.forms.TableForm.{TableForm}

-- The column of this form.
abbrev pub column_of_form : ColumnForm → Column
column_of_form (May name kind) = may name.now kind
column_of_form (Needs name kind) = needs name.now kind

-- The reference of this form: a row is deleted with the one that it refers to, and is checked at once.
abbrev pub reference_of : ReferenceForm → Reference
reference_of form = record { columns = form.places.now; parent = form.parent.now; parent_columns = map (λ name. name.now) form.parent_columns.now; on_delete = action.Cascade; on_update = action.NoAction; is_deferred = false }

-- The expression at a place; NULL without one.
abbrev pub op_at : List Op → ℕ → Op
op_at ops at = slice_index_or ops at (op.Literal Null)

-- The rule that the rowid is 1.
abbrev pub is_one : Term
is_one = op2 (by.Compare compare.Eq Binary) (col 1 0) (lit (Int (pos 1)))

-- The expression of this operator and these parts says that the rowid is 1.
pub record SaysOne (ops : List Op) (by_op : BinaryOp) (left right : ℕ) : Type 0 where
  pub op_is : by_op ≡ by.Compare compare.Eq Binary
  pub left_is : op_at ops left ≡ op.Column 1 0
  pub right_is : op_at ops right ≡ op.Literal (Int (pos 1))

-- The rule of a table of one row, or no rule.
abbrev pub checks_of : Bool → List Term
checks_of is_single = if is_single then is_one ∷ [] else []

-- The columns of each key, by their places.
abbrev pub places_of : List (Bor (List ℕ)) → List (List ℕ)
places_of keys = map (λ places. places.now) keys

-- Each key ascends, compared by its bytes.
abbrev pub orders_of : List (Bor (List ℕ)) → List Order
orders_of keys = map (λ _. plain) keys

-- No default value reads the time.
abbrev pub no_stamps : Stamps
no_stamps = record { places = []; terms = []; formats = [] }

-- The table of this form, in this tree.
abbrev pub table_of_form : TableForm → ℕ → Table
table_of_form form tree = record (blank form.name.now tree (map column_of_form form.columns.now)) {
  key = form.key;
  primary = form.primary.now;
  uniques = places_of form.uniques.now;
  orders = orders_of form.uniques.now;
  checks = checks_of form.is_single;
  references = map reference_of form.references.now;
}

-- The table has the keys of the form.
pub record HasKeysOf (table : Table) (form : TableForm) : Type 0 where
  pub key : table.key ≡ form.key
  pub primary : table.primary ≡ form.primary.now
  pub uniques : table.uniques ≡ places_of form.uniques.now
  pub orders : table.orders ≡ orders_of form.uniques.now

-- The table has the rules of the form, and no others.
pub record HasRules (table : Table) (form : TableForm) : Type 0 where
  pub checks : table.checks ≡ checks_of form.is_single
  pub references : table.references ≡ map reference_of form.references.now
  pub computed : table.computed ≡ []
  pub stamps : table.stamps ≡ no_stamps
  pub counted : table.is_counted ≡ false
