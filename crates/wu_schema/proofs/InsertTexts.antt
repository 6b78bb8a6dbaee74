-- INSERTs of one row: what such a text compiles to, over any schema in which its name finds the table; and the text of
-- a fresh project's row.
use Rattle.wu_schema.proofs.Words.{Checked, Err, HasTable, Insert, Int, List, Name, None, Null, Ok, Parsed, Row, Rows, Schema, Statement, Table, Term, Values, [], append-nil, codes, col, everything, false, first, length, lit, new_rows, planned, pos, project_at, refl, small, stamped, subst, ℕ, ◌+◌, ◌∷◌, ◌≡◌}
use Rattle.sqlite_ast.specs.declared.Rows.TheVariants as rows
use Rattle.sqlite_ast.specs.declared.Statement.TheVariants as written
use Rattle.wu_schema.proofs.CompileLemmas.{insert_planned, insert_parsed}
use Rattle.wu_schema.proofs.SelectLemmas.{CompilesTo, compiles_to}
use Rattle.wu_schema.specs.declared.texts.TheConstants.{INSERT_PROJECT}

abbrev rows_by : Statement → Rows
rows_by (written.Insert how name columns rs clauses shown) = rs
rows_by _ = rows.Defaults

abbrev columns_by : Statement → List Name
columns_by (written.Insert how name columns rs clauses shown) = columns
columns_by _ = []

abbrev rows_in : Checked Parsed → Rows
rows_in (Ok p) = rows_by p.statement
rows_in (Err e) = rows.Defaults

abbrev columns_in : Checked Parsed → List Name
columns_in (Ok p) = columns_by p.statement
columns_in (Err e) = []

abbrev names_in : Checked Parsed → List Name
names_in (Ok p) = p.names
names_in (Err e) = []

-- an INSERT of one row: its text, and the terms of the row, the rowid first
pub record Put : Type 0 where
  pub text : List ℕ
  pub terms : List Term

abbrev pub put_parsed : Name → Put → Parsed
put_parsed title q = insert_parsed title (columns_in (first q.text)) (rows_in (first q.text)) (names_in (first q.text)) 0 (length q.text) (length q.text)

-- what is to be seen of a table and an INSERT, each by `refl`
pub record PutFits (title : Name) (table : ℕ → Table) (q : Put) : Type 0 where
  pub read : first q.text ≡ Ok (put_parsed title q)
  pub made : (schema : Schema) (tree : ℕ) → new_rows schema (table tree) (small (names_in (first q.text)) + small (table tree).stamps.formats) (columns_in (first q.text)) (rows_in (first q.text)) ≡ Ok (Values q.terms (length q.terms))
  pub formats : (tree : ℕ) → (table tree).stamps.formats ≡ []
  pub bare : (tree : ℕ) → (table tree).is_counted ≡ false
  pub plain : (tree : ℕ) (params : Row) → stamped (table tree) params ≡ params

module _ (schema : Schema) (title : Name) (at : ℕ) (table : ℕ → Table) (tree : ℕ) (has : HasTable schema title at (table tree)) (q : Put) (fits : PutFits title table q) where
  put_planned : planned schema (put_parsed title q) ≡ Ok ([], (Insert at (Values q.terms (length q.terms)), None))
  put_planned = subst (λ formats. planned schema (put_parsed title q) ≡ Ok (formats, (Insert at (Values q.terms (length q.terms)), None))) (fits.formats tree)
      (insert_planned schema (names_in (first q.text)) title (columns_in (first q.text)) (rows_in (first q.text)) at (table tree) (Values q.terms (length q.terms)) 0 (length q.text) (length q.text) has (fits.made schema tree))

  pub put_compiles : CompilesTo schema q.text (put_parsed title q) (Insert at (Values q.terms (length q.terms)))
  put_compiles = compiles_to schema q.text (put_parsed title q) _ fits.read put_planned

-- ---- the row of a fresh project

abbrev pub project_put : Put
project_put = record { text = INSERT_PROJECT.now; terms = lit (Int (pos 1)) ∷ lit Null ∷ col 0 0 ∷ lit (Int (pos 1)) ∷ [] }

pub project_fits : PutFits (codes "project") project_at project_put
unfolding everything
project_fits = record { read = refl; made = λ schema tree. refl; formats = λ tree. refl; bare = λ tree. refl; plain = λ tree params. append-nil params }
