use Rattle.wu_schema.proofs.Words.{Blob, Instance, arith, err_from_is_err_and, instance_row, refl}
use Rattle.wu_core.specs.Storable.{IsOutput, IsStoredInstance}
use Rattle.wu_schema.specs.Reading.{columns}
use Rattle.wu_schema.proofs.ReadingLemmas.{column_unread, instance_read, instance_unread, read_of}
use Rattle.wu_schema.proofs.rows.instance_at.Goals as goal

pub returns-in_err-output : goal.returns-in_err-output
returns-in_err-output c =
    column_unread (λ (v : Instance). v.output) instance_row Blob IsStoredInstance IsOutput (columns c.args.row.now c.args.at 9) 8 (λ v is. is.values.output) (λ v. refl) _ (read_of c.args.row.now c.args.at 9 8 (omega arith) c.in_err-output.ensures) c.from_residual.result c.from_residual.ensures.1

pub returns-in_err-instance : goal.returns-in_err-instance
returns-in_err-instance c =
    let p = err_from_is_err_and c.from_residual-in_err-instance.result c.from_residual-in_err-instance.ensures.1 in rw (p.1, p.2) (instance_unread (columns c.args.row.now c.args.at 9) _ c.in_err-instance.ensures)

pub returns : goal.returns
returns c = instance_read (columns c.args.row.now c.args.at 9) c.in_ok-instance.instance c.in_ok-output.output refl c.in_ok-instance.ensures (read_of c.args.row.now c.args.at 9 8 (omega arith) c.in_ok-output.ensures)
