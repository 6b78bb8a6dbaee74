use Rattle.wu_schema.proofs.Words.{arith, number_or_null, refl}
use Rattle.wu_core.specs.Storable.{IsDeadline, IsMoment}
use Rattle.wu_schema.specs.Reading.{HasMoments, columns, moment_cells}
use Rattle.wu_schema.specs.declared.rows.Moments.{Moments}
use Rattle.wu_schema.proofs.ReadingLemmas.{column_unread, moments_read, read_of}
use Rattle.wu_schema.proofs.rows.moments_at.Goals as goal

pub returns-in_err-moment_at : goal.returns-in_err-moment_at
returns-in_err-moment_at c =
    column_unread (λ (v : Moments). v.sent_at) moment_cells number_or_null HasMoments IsMoment (columns c.args.row.now c.args.at 3) 0 (λ v is. is.sent_at) (λ v. refl) _ c.in_err-moment_at.ensures c.from_residual.result c.from_residual.ensures.1

pub returns-in_err-deadline_at : goal.returns-in_err-deadline_at
returns-in_err-deadline_at c =
    column_unread (λ (v : Moments). v.deadline) moment_cells number_or_null HasMoments IsDeadline (columns c.args.row.now c.args.at 3) 1 (λ v is. is.deadline) (λ v. refl) _ (read_of c.args.row.now c.args.at 3 1 (omega arith) c.in_err-deadline_at.ensures) c.from_residual-in_err-deadline_at.result c.from_residual-in_err-deadline_at.ensures.1

pub returns-in_err-moment_at-2 : goal.returns-in_err-moment_at-2
returns-in_err-moment_at-2 c =
    column_unread (λ (v : Moments). v.received_at) moment_cells number_or_null HasMoments IsMoment (columns c.args.row.now c.args.at 3) 2 (λ v is. is.received_at) (λ v. refl) _ (read_of c.args.row.now c.args.at 3 2 (omega arith) c.in_err-moment_at-2.ensures) c.from_residual-in_err-moment_at-2.result c.from_residual-in_err-moment_at-2.ensures.1

pub returns : goal.returns
returns c = moments_read (columns c.args.row.now c.args.at 3) _ _ _ c.in_ok-moment_at.ensures (read_of c.args.row.now c.args.at 3 1 (omega arith) c.in_ok-deadline_at.ensures) (read_of c.args.row.now c.args.at 3 2 (omega arith) c.in_ok-moment_at-2.ensures)
