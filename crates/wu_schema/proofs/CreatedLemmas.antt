-- A project that is made in one transaction.
use Rattle.wu_schema.proofs.Words.{Executes, Ghosts, HasMade, HasRun, HasTable, Int, List, Null, Ok, OnOk, PutsOne, Result, Row, State, Table, Transaction, [], cast_row, codes, map, pos, project_at, refl, state, value_rows, ℕ, ℤ, ◌∷◌, ◌≡◌}
use Rattle.wu_schema.proofs.InsertTexts.{project_put, project_fits}
use Rattle.wu_schema.proofs.InsertEffect.{cast_null, cast_int, puts_one}
use Rattle.wu_schema.proofs.CallLemmas.{ok_on}
use Rattle.wu_schema.proofs.CreateEffect.{Defines, creates}

abbrev pub project_row : ℤ → Row
project_row version = Int (pos 1) ∷ Null ∷ Int version ∷ Int (pos 1) ∷ []

pub project_kept : (tree : ℕ) (version : ℤ) → map (λ s. cast_row (project_at tree) s) (value_rows (Int version ∷ []) 4 1 project_put.terms) ≡ project_row version ∷ []
project_kept tree version = simp (cast_null, cast_int)

pub puts_project : (old new : State) (version : ℤ) (count at tree : ℕ) → HasTable old.now.schema (codes "project") at (project_at tree) → Executes project_put.text (Int version ∷ []) old new (Ok count) → PutsOne old.now new.now tree (project_row version)
puts_project old new version count at tree has h = puts_one (codes "project") project_at project_put project_fits (Int version ∷ []) old new at tree has (project_row version) (project_row version) (project_kept tree version) refl count h

-- a CREATE TABLE inside a transaction
pub makes_table : {S T E : Type 0} (g : Ghosts S) (old new : Transaction S) {text name : List ℕ} {table : ℕ → Table} → Defines text name table → (r : Result T E) → OnOk r (HasRun text [] (state g old.conn.now) (state g new.conn.now))
    → OnOk r (HasMade (state g old.conn.now).now (state g new.conn.now).now (name, table))
makes_table g old new {text} {name} {table} d r ran = ok_on r _ _ (λ it. creates (state g old.conn.now) (state g new.conn.now) text name table d it.0 it.1) ran
