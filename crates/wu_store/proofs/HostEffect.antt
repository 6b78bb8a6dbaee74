-- INSERT INTO host .. ON CONFLICT (name) DO UPDATE, over any schema.
use Rattle.wu_schema.proofs.Words.{Abort, AllByRecursion, AreConflicts, Binary, Chosen, Database, Enforced, Executes, Given, Has, HasTable, InsertOr, Int, Integer, IsCalm, IsDatabase, IsPermutation, IsShaped, IsTrue, List, Meets, Mode, Null, Ok, Option, OwnsTree, Row, Some, State, Table, Term, Text, Upsert, Upserts, Value, Values, Written, [], all_has, ap, binary, cast, cast_row, codes, col, column, drop, edit_of, equal, false, false_from_ne_true, filter, given, host_at, id_in, ids_of, inl, inr, is_eq, is_int, map, mode_of, nat_le, next_rowid, no_works, one_permutation, one_step, put_all, refl, runs_as, statement_of, subst, sym, true, understood, value_cmp, with_rowid, without_all, ℕ, ℤ, ◌^◌, ◌∙◌, ◌∷◌, ◌≡◌, ◌≢◌, ◌⊎◌}
use Rattle.sqlite_trees.specs.Tree.{Trees, rowid, has_rowid, put_row, without_rowid}
use Rattle.sqlite_trees.specs.declared.store.Shape.TheVariants as shape
use Rattle.sqlite_sql.specs.declared.ops.BinaryOp.TheVariants as by
use Rattle.sqlite_sql.specs.declared.ops.ArithOp.TheVariants as arith
use Rattle.sqlite_rules.specs.Action.{Writes as Edits}
use Rattle.sqlite.specs.Rows.{Clears, Puts, Updates}
use Rattle.wu_schema.proofs.EffectLemmas.{went, same_value}
use Rattle.wu_schema.proofs.AnswerLemmas.{answers_are, meeting, showing}
use Rattle.wu_schema.proofs.RowLemmas.{filter_same, int_value, one_test}
use Rattle.wu_schema.proofs.ExprLemmas.{same}
use Rattle.wu_schema.proofs.QueryLemmas.{plain_query, alone}
use Rattle.wu_store.proofs.EqualLemmas.{int_equal}
use Rattle.wu_schema.proofs.CalmLemmas.{calm_bare, stepped}
use Rattle.wu_store.proofs.UpdateEffect.{resets}
use Rattle.wu_store.proofs.UpsertTexts.{upsert_text, upsert_terms, upsert_row, upsert_compiles}
use Rattle.wu_store.proofs.UpsertEffect.{task_of, HasMet, upsert_does}
use Rattle.wu_store.proofs.NameKey.{HasNameKey, names_key, conflict_named, named_conflict}
use Rattle.wu_store.proofs.InPlaceLemmas.{in_place, replaced}
use Rattle.wu_store.proofs.FallLemmas.{has_own}
use Rattle.wu_store.proofs.DeleteEffect.{only_row}
use Rattle.wu_schema.proofs.InsertEffect.{cast_null, cast_int}

abbrev pub keyed_host : ℤ → List ℕ → ℤ → ℤ → Row
keyed_host id name total grants = Int id ∷ Text name ∷ Int total ∷ Int grants ∷ []

-- what is given
abbrev pub sum_row : List ℕ → ℤ → ℤ → Row
sum_row name total grants = Text name ∷ Int total ∷ Int grants ∷ []

abbrev source : List ℕ → ℤ → ℤ → Row
source name total grants = Null ∷ sum_row name total grants

source_kept : (tree : ℕ) (name : List ℕ) (total grants : ℤ) → cast_row (host_at tree) (source name total grants) ≡ source name total grants
source_kept tree name total grants = simp (cast_null, cast_int)

row_kept : (tree : ℕ) (id : ℤ) (name : List ℕ) (total grants : ℤ) → cast_row (host_at tree) (keyed_host id name total grants) ≡ keyed_host id name total grants
row_kept tree id name total grants = simp (cast_null, cast_int)

-- the row with its new sums
abbrev pub summed : ℕ → Row → ℤ → ℤ → Row
summed tree x total grants = cast_row (host_at tree) (rowid x ∷ column x 1 ∷ binary (by.Arith arith.Add) (column x 2) (Int total) ∷ binary (by.Arith arith.Add) (column x 3) (Int grants) ∷ [])

-- the rows of the table after an upsert: a new host, or a host whose sums grow
abbrev pub Grown : Trees → Trees → ℕ → List ℕ → ℤ → ℤ → Type 0
Grown old new tree name total grants =
    (((r : Row) → Has (old tree) r → equal Binary (column r 1) (Text name) ≡ false) × (new tree ≡ put_row (keyed_host (next_rowid (old tree)) name total grants) (old tree)))
    ⊎ ((x : Row) × (id : ℤ) × Has (old tree) x × (equal Binary (column x 1) (Text name) ≡ true) × (rowid x ≡ Int id) × (new tree ≡ replaced id (summed tree x total grants) (old tree)))

module _ (limit : Option ℕ) (mode : Mode) (db : Database) (tree : ℕ) where
  put_by : (params new : Row) (found : List Row) (w : Written) → Clears (task_of limit mode params db (host_at tree)) Abort new db.trees found (Ok w) → Puts (task_of limit mode params db (host_at tree)) new db.trees (Ok w)
  put_by params new [] w h = h
  put_by params new (x ∷ more) w h = h

  puts_one : (params new : Row) (w : Written) → cast_row (host_at tree) new ≡ new → Puts (task_of limit mode params db (host_at tree)) new db.trees (Ok w)
      → (w.trees tree ≡ put_row new (db.trees tree)) × ((t : Table) → Has db.schema.tables t → t.tree ≢ tree → w.trees t.tree ≡ db.trees t.tree)
  puts_one params new w kept h =
      let done = went h in
      let edit = edit_of db.trees (host_at tree) [] Given 0 (new ∷ []) in
      let applied = one_step db.schema mode.keys db.trees done.0 edit (no_works db.schema mode.keys 0 tree edit.news) done.1 in (
        ap (λ (it : Written). it.trees tree) (same_value done.2) ∙ applied.rows ∙ ap (λ r. put_row r (db.trees tree)) kept,
        λ t there other. ap (λ (it : Written). it.trees t.tree) (same_value done.2) ∙ all_has (λ (u : Table). u.tree ≢ tree → done.0 u.tree ≡ db.trees u.tree) db.schema.tables t applied.tables there other,
      )

abbrev at_id : List Term
at_id = same (col 1 0) (col 0 3) ∷ []

abbrev clause : ℕ → Upsert
clause tree = record { target = Some (1 ∷ []); update = Some (alone (plain_query tree at_id upsert_row)) }

module _ (limit : Option ℕ) (mode : Mode) (keys : mode.keys ≡ Enforced) (db : Database) (tree : ℕ) (low : nat_le (2 ^ 31) tree ≡ false) (owns : OwnsTree db.schema (host_at tree))
    (stands : Has db.schema.tables (host_at tree)) (rising : IsShaped shape.Table (db.trees tree)) (name : List ℕ) (total grants : ℤ) where
  abbrev after_all : ℤ → Value → Row
  after_all id k = Text name ∷ Int total ∷ Int grants ∷ Int id ∷ k ∷ sum_row name total grants

  found_by : (id : ℤ) (k : Value) (rows : List Row) → AllByRecursion (λ r. IsTrue (is_int (rowid r))) rows → meeting at_id (after_all id k) rows ≡ filter (has_rowid id) rows
  found_by id k rows keyed = filter_same _ _ rows (λ r there.
      let n = int_value (rowid r) (all_has (λ s. IsTrue (is_int (rowid s))) rows r keyed there) in
      one_test _ ∙ ap (λ v. equal Binary v (Int id)) n.1 ∙ int_equal n.0 id ∙ ap (λ v. is_eq (value_cmp v (Int id))) (sym n.1))

  updates_one : (params x : Row) (id : ℤ) (k : Value) (w : Written) → Has (db.trees tree) x → rowid x ≡ Int id → Updates (task_of limit mode params db (host_at tree)) (alone (plain_query tree at_id upsert_row)) (after_all id k) db.trees (Ok w)
      → (w.trees tree ≡ replaced id (summed tree x total grants) (db.trees tree)) × ((t : Table) → Has db.schema.tables t → t.tree ≢ tree → IsCalm db.schema Enforced t tree → w.trees t.tree ≡ db.trees t.tree)
  updates_one params x id k w has is h =
      let rows = db.trees tree in
      let given' = after_all id k in
      let found = went h in
      let wrote = went found.2 in
      let edit = edit_of db.trees (host_at tree) (ids_of found.0) Given 1 found.0 in
      let step = stepped db.schema Enforced db.trees wrote.0 edit (subst (λ k. Edits db.schema k db.trees edit (Ok wrote.0)) keys wrote.1) in
      let answer = answers_are tree at_id upsert_row given' db found.0 low found.1 in
      let one : meeting at_id given' rows ≡ x ∷ [] = found_by id k rows rising.1 ∙ only_row id rows x rising.0 has (has_own x id is) in
      let all : found.0 ≡ showing upsert_row given' (x ∷ []) = one_permutation _ found.0 (subst (λ rs. IsPermutation (showing upsert_row given' rs) found.0) one answer) in
      let made = ap (λ (it : Written). it.trees) (same_value wrote.2) in
      let new_is : rowid (summed tree x total grants) ≡ Int id = ap (cast Integer) is ∙ cast_int id in (
        ap (λ (t : Trees). t tree) made ∙ step.calm (host_at tree) stands (calm_bare db.schema (host_at tree) tree owns refl) ∙ step.applied.rows
            ∙ ap (put_all (without_all rows (ids_of found.0))) (given (without_all rows (ids_of found.0)) (map (λ s. cast_row (host_at tree) (drop 1 s)) found.0))
            ∙ ap (resets (host_at tree) rows) all ∙ ap (λ i. put_row (summed tree x total grants) (without_rowid i rows)) (ap id_in is) ∙ in_place id (summed tree x total grants) x is new_is rows rising.0 has,
        λ t there other calm. ap (λ (ts : Trees). ts t.tree) made ∙ step.calm t there calm ∙ all_has (λ (u : Table). u.tree ≢ tree → step.mid u.tree ≡ db.trees u.tree) db.schema.tables t step.applied.tables there other,
      )

  abbrev new_host : Row
  new_host = keyed_host (next_rowid (db.trees tree)) name total grants

  abbrev Kept : Trees → Type 0
  Kept after = (t : Table) → Has db.schema.tables t → t.tree ≢ tree → IsCalm db.schema Enforced t tree → after t.tree ≡ db.trees t.tree

  decide : (key : HasNameKey db.schema tree) (found : List Row) (w : Written) → AreConflicts (Some (1 ∷ [])) db.schema.indexes (host_at tree) (db.trees tree) new_host found
      → Meets (task_of limit mode (sum_row name total grants) db (host_at tree)) (Upserts (task_of limit mode (sum_row name total grants) db (host_at tree)) Abort new_host db.trees []) new_host db.trees (clause tree) found (Ok w)
      → Grown db.trees w.trees tree name total grants × Kept w.trees
  decide key [] w conf h =
      let params : Row = sum_row name total grants in
      let put = puts_one limit mode db tree params new_host w (row_kept tree (next_rowid (db.trees tree)) name total grants) (put_by limit mode db tree params new_host h.0 w h.2) in
      (inl (λ r has. false_from_ne_true _ (λ e. conf.complete r has (named_conflict db.schema tree key new_host r e)), put.0), λ t there other calm. put.1 t there other)
  decide key (there ∷ more) w conf h =
      let params : Row = sum_row name total grants in
      let it = conf.sound there (inl refl) in
      let n = int_value (rowid it.0) (all_has (λ s. IsTrue (is_int (rowid s))) (db.trees tree) it.0 rising.1 it.1) in
      let is : rowid there ≡ Int n.0 = ap rowid it.3 ∙ n.1 in
      let q = alone (plain_query tree at_id upsert_row) in
      let done = updates_one params it.0 n.0 (Int (next_rowid (db.trees tree))) w it.1 n.1
      (subst (λ v. Updates (task_of limit mode params db (host_at tree)) q (Text name ∷ Int total ∷ Int grants ∷ v ∷ Int (next_rowid (db.trees tree)) ∷ sum_row name total grants) db.trees (Ok w)) is h) in
      (inr (it.0, n.0, it.1, conflict_named db.schema tree key new_host it.0 it.2, n.1, done.0), done.1)

-- after Ok there is one host more, or the sums of the one with this name have grown, and the other tables are as they
-- were
module _ (old new : State) (at tree : ℕ) (has : HasTable old.now.schema (codes "host") at (host_at tree)) (key : HasNameKey old.now.schema tree) (owns : OwnsTree old.now.schema (host_at tree))
    (stands : Has old.now.schema.tables (host_at tree)) (rising : IsShaped shape.Table (old.now.trees tree)) (name : List ℕ) (total grants : ℤ) where
  pub grows : (count : ℕ) → Executes upsert_text (sum_row name total grants) old new (Ok count)
      → (new.now.schema ≡ old.now.schema) × Grown old.now.trees new.now.trees tree name total grants
      × ((t : Table) → Has old.now.schema.tables t → t.tree ≢ tree → IsCalm old.now.schema Enforced t tree → new.now.trees t.tree ≡ old.now.trees t.tree) × IsDatabase new.now
  grows count h =
      let schema = old.now.schema in
      let db = old.now.trees in
      let params : Row = sum_row name total grants in
      let keyed = names_key schema tree key in
      let ran = runs_as upsert_text params old new schema refl (InsertOr at Abort (Values upsert_terms 4) (clause tree ∷ [])) (upsert_compiles schema at tree has keyed).is (upsert_compiles schema at tree has keyed).plain count h in
      let did = upsert_does old.step_limit (mode_of old) params old.now (statement_of upsert_text (understood schema upsert_text)) at (host_at tree) has.there ran.tally new.now (clause tree) upsert_terms 4 (source name total grants) refl refl refl ran.changed in
      let met : HasMet old.step_limit (mode_of old) params old.now (host_at tree) (clause tree) (keyed_host (next_rowid (db tree)) name total grants) new.now.trees =
      subst (λ s. HasMet old.step_limit (mode_of old) params old.now (host_at tree) (clause tree) (with_rowid Chosen (db tree) s) new.now.trees) (source_kept tree name total grants) did.1 in
      let done = decide old.step_limit (mode_of old) refl old.now tree has.low owns stands rising name total grants key met.found met.written met.conflicts met.met in (
        did.0,
        subst (λ t. Grown db t tree name total grants) (sym met.trees) done.0,
        subst (λ (ts : Trees). (t : Table) → Has schema.tables t → t.tree ≢ tree → IsCalm schema Enforced t tree → ts t.tree ≡ db t.tree) (sym met.trees) done.1,
        ran.sound,
      )
