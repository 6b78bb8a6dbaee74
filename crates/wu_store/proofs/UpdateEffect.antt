-- What UPDATE does to the rows, over any schema.
use Rattle.wu_schema.proofs.Words.{Answers, Database, Does, Enforced, Given, Has, HasTable, IsCalm, IsDatabase, IsPermutation, List, Mode, None, Ok, Option, Program, Row, Some, Table, Tally, Term, Update, Written, all_has, ap, cast_row, edit_of, false, given, ids_of, length, length-map, map, put_all, slice_get, subst, sym, without_all, ℕ, ◌==◌, ◌∙◌, ◌≡◌, ◌≢◌}
use Rattle.wu_schema.specs.Calm.{IsSteady}
use Rattle.sqlite_rules.specs.Action.{Writes as Edits}
use Rattle.wu_schema.proofs.EffectLemmas.{went, same_value}
use Rattle.wu_schema.proofs.QueryLemmas.{plain_query, alone}
use Rattle.wu_schema.proofs.AnswerLemmas.{answers_are, meeting, showing}
use Rattle.wu_schema.proofs.CalmLemmas.{stepped}

-- the rows that an UPDATE finds, each its old rowid and then the new row, and the write that it makes of them
pub record HasSet (db : Database) (mode : Mode) (params : Row) (q : Program) (table : Table) (after : Database) (tally : Tally) : Type 0 where
  pub rows : List Row
  pub found : Answers db q params rows
  pub wrote : Edits db.schema mode.keys db.trees (edit_of db.trees table (ids_of rows) Given 1 rows) (Ok after.trees)
  pub counted : tally.rows ≡ Some (length (edit_of db.trees table (ids_of rows) Given 1 rows).news)
  pub schema : after.schema ≡ db.schema

module _ (limit : Option ℕ) (mode : Mode) (params : Row) (db : Database) (text : List ℕ) (at : ℕ) (table : Table) (there : slice_get db.schema.tables at ≡ Some table) (tally : Tally) (after : Database) where
  pub update_does : (q : Program) → Does limit mode params db text None (Update at q) (Ok (tally, after)) → HasSet db mode params q table after tally
  update_does q h =
      let done = went (rw there at h) in
      let ends = same_value (went (went done.2).2).2 in
      let found = went done.1 in
      let wrote = went found.2 in
      let made = same_value wrote.2 in
      let trees : after.trees ≡ wrote.0 = ap (λ (p : Tally × Database). p.1.trees) ends ∙ ap (λ (it : Written). it.trees) made in
      record {
        rows = found.0;
        found = found.1;
        wrote = subst (λ t. Edits db.schema mode.keys db.trees (edit_of db.trees table (ids_of found.0) Given 1 found.0) (Ok t)) (sym trees) wrote.1;
        counted = ap (λ (p : Tally × Database). p.0.rows) ends ∙ ap (λ (it : Written). Some (length it.rows)) made;
        schema = ap (λ (p : Tally × Database). p.1.schema) ends;
      }

-- the new rows in place of those with the old rowids, in any order
abbrev pub resets : Table → List Row → List Row → List Row
resets table rows found = put_all (without_all rows (ids_of found)) (map (λ s. cast_row table (Rattle.std.specs.Prelude.drop 1 s)) found)

-- a plain query sets its rows: `project` is the old rowid, and then the row
pub record Sets (old new : Database) (table : Table) (test project : List Term) (params : Row) : Type 0 where
  pub schema : new.schema ≡ old.schema
  pub found : List Row
  pub shown : IsPermutation (showing project params (meeting test params (old.trees table.tree))) found
  pub rows : IsCalm old.schema Enforced table table.tree → new.trees table.tree ≡ resets table (old.trees table.tree) found
  pub others : (t : Table) → Has old.schema.tables t → t.tree ≢ table.tree → IsCalm old.schema Enforced t table.tree → new.trees t.tree ≡ old.trees t.tree
  pub steady : (t : Table) → Has old.schema.tables t → t.tree ≢ table.tree → IsSteady old.schema Enforced t → (length found == 0) ≡ false → new.trees t.tree ≡ old.trees t.tree
  pub sound : IsDatabase new

module _ (old new : Database) (limit : Option ℕ) (mode : Mode) (keys : mode.keys ≡ Enforced) (sound : IsDatabase new) (params : Row) (text name : List ℕ) (at : ℕ) (table : Table) (has : HasTable old.schema name at table) (stands : Has old.schema.tables table) where
  pub update_sets : (test project : List Term) (tally : Tally) → Does limit mode params old text None (Update at (alone (plain_query table.tree test project))) (Ok (tally, new)) → Sets old new table test project params
  update_sets test project tally h =
      let set = update_does limit mode params old text at table has.there tally new (alone (plain_query table.tree test project)) h in
      let edit = edit_of old.trees table (ids_of set.rows) Given 1 set.rows in
      let step = stepped old.schema Enforced old.trees new.trees edit (subst (λ k. Edits old.schema k old.trees edit (Ok new.trees)) keys set.wrote) in
      let beside = λ (t : Table) (there : Has old.schema.tables t) (other : t.tree ≢ table.tree). all_has (λ (u : Table). u.tree ≢ table.tree → step.mid u.tree ≡ old.trees u.tree) old.schema.tables t step.applied.tables there other in
      let made = map (λ s. cast_row table (Rattle.std.specs.Prelude.drop 1 s)) set.rows in
      let news : length edit.news ≡ length set.rows = ap length (given (without_all (old.trees table.tree) (ids_of set.rows)) made) ∙ length-map set.rows (λ s. cast_row table (Rattle.std.specs.Prelude.drop 1 s)) in
      record {
        schema = set.schema;
        found = set.rows;
        shown = answers_are table.tree test project params old set.rows has.low set.found;
        rows = λ calm. step.calm table stands calm ∙ step.applied.rows ∙ ap (put_all (without_all (old.trees table.tree) (ids_of set.rows))) (given (without_all (old.trees table.tree) (ids_of set.rows)) (map (λ s. cast_row table (Rattle.std.specs.Prelude.drop 1 s)) set.rows));
        others = λ t there other calm. step.calm t there calm ∙ beside t there other;
        steady = λ t there other s some. step.steady t there s (ap (λ n. n == 0) news ∙ some) ∙ beside t there other;
        sound = sound;
      }
