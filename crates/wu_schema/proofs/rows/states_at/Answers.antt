use Rattle.wu_schema.proofs.Words.{arith, refl, ⊤}
use Rattle.wu_schema.specs.Reading.{columns, file_delete_cell, outcome_cell, server_state_cell, state_cells, validate_state_cell}
use Rattle.wu_schema.specs.declared.rows.States.{States}
use Rattle.wu_schema.proofs.ReadingLemmas.{column_unread, read_of, states_read}
use Rattle.wu_schema.proofs.rows.states_at.Goals as goal

pub returns-in_err-server_state_at : goal.returns-in_err-server_state_at
returns-in_err-server_state_at c =
    column_unread (λ (v : States). v.server_state) state_cells server_state_cell (λ _. ⊤) (λ _. ⊤) (columns c.args.row.now c.args.at 4) 0 (λ v is. tt) (λ v. refl) _ c.in_err-server_state_at.ensures c.from_residual.result c.from_residual.ensures.1

pub returns-in_err-outcome_at : goal.returns-in_err-outcome_at
returns-in_err-outcome_at c =
    column_unread (λ (v : States). v.outcome) state_cells outcome_cell (λ _. ⊤) (λ _. ⊤) (columns c.args.row.now c.args.at 4) 1 (λ v is. tt) (λ v. refl) _ (read_of c.args.row.now c.args.at 4 1 (omega arith) c.in_err-outcome_at.ensures) c.from_residual-in_err-outcome_at.result c.from_residual-in_err-outcome_at.ensures.1

pub returns-in_err-validate_state_at : goal.returns-in_err-validate_state_at
returns-in_err-validate_state_at c =
    column_unread (λ (v : States). v.validate_state) state_cells validate_state_cell (λ _. ⊤) (λ _. ⊤) (columns c.args.row.now c.args.at 4) 2 (λ v is. tt) (λ v. refl) _ (read_of c.args.row.now c.args.at 4 2 (omega arith) c.in_err-validate_state_at.ensures) c.from_residual-in_err-validate_state_at.result c.from_residual-in_err-validate_state_at.ensures.1

pub returns-in_err-file_delete_at : goal.returns-in_err-file_delete_at
returns-in_err-file_delete_at c =
    column_unread (λ (v : States). v.file_delete) state_cells file_delete_cell (λ _. ⊤) (λ _. ⊤) (columns c.args.row.now c.args.at 4) 3 (λ v is. tt) (λ v. refl) _ (read_of c.args.row.now c.args.at 4 3 (omega arith) c.in_err-file_delete_at.ensures) c.from_residual-in_err-file_delete_at.result c.from_residual-in_err-file_delete_at.ensures.1

pub returns : goal.returns
returns c =
    states_read (columns c.args.row.now c.args.at 4) _ _ _ _ c.in_ok-server_state_at.ensures (read_of c.args.row.now c.args.at 4 1 (omega arith) c.in_ok-outcome_at.ensures)
    (read_of c.args.row.now c.args.at 4 2 (omega arith) c.in_ok-validate_state_at.ensures) (read_of c.args.row.now c.args.at 4 3 (omega arith) c.in_ok-file_delete_at.ensures)
