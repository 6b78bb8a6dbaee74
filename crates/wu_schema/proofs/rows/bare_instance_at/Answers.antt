use Rattle.wu_schema.proofs.Words.{Instance, arith, err_from_is_err_and, false, refl, sym, text_or_null, true, ◌∙◌, ◌≡◌}
use Rattle.wu_core.specs.Storable.{IsHost}
use Rattle.wu_schema.specs.Reading.{IsBareInstance, bare_instance_row, columns}
use Rattle.wu_schema.proofs.ReadingLemmas.{column_unread, formed_read, moments_unread, read_of, read_part, states_unread, unformed_read}
use Rattle.wu_schema.proofs.rows.bare_instance_at.Goals as goal

pub returns-in_err-states : goal.returns-in_err-states
returns-in_err-states c =
    let p = err_from_is_err_and c.from_residual.result c.from_residual.ensures.1 in rw (p.1, p.2) (states_unread (columns c.args.row.now c.args.at 8) _ c.in_err-states.ensures)

pub returns-in_err-moments : goal.returns-in_err-moments
returns-in_err-moments c =
    let p = err_from_is_err_and c.from_residual-in_err-moments.result c.from_residual-in_err-moments.ensures.1 in
    rw (p.1, p.2) (moments_unread (columns c.args.row.now c.args.at 8) _ (read_part c.args.row.now c.args.at 8 5 3 (omega arith) c.in_err-moments.ensures))

pub returns-in_err-host : goal.returns-in_err-host
returns-in_err-host c =
    column_unread (λ (v : Instance). v.host) bare_instance_row text_or_null IsBareInstance IsHost (columns c.args.row.now c.args.at 8) 4 (λ v is. is.stored.values.host) (λ v. refl) _ (read_of c.args.row.now c.args.at 8 4 (omega arith) c.in_err-host.ensures) c.from_residual-in_err-host.result c.from_residual-in_err-host.ensures.1

pub returns-then-is_formed : goal.returns-then-is_formed
returns-then-is_formed c =
    formed_read (columns c.args.row.now c.args.at 8) _ _ _ _ c.new.ensures c.in_ok-states.ensures (read_of c.args.row.now c.args.at 8 4 (omega arith) c.in_ok-host.ensures)
    (read_part c.args.row.now c.args.at 8 5 3 (omega arith) c.in_ok-moments.ensures) (c.is_formed.ensures.0 c.if-is_formed.true)

pub returns-else-is_formed : goal.returns-else-is_formed
returns-else-is_formed c =
    unformed_read (columns c.args.row.now c.args.at 8) _ _ _ _ c.new.ensures c.in_ok-states.ensures (read_of c.args.row.now c.args.at 8 4 (omega arith) c.in_ok-host.ensures)
    (read_part c.args.row.now c.args.at 8 5 3 (omega arith) c.in_ok-moments.ensures) (λ formed. let no : true ≡ false = sym (c.is_formed.ensures.1 formed) ∙ c.if-is_formed.false in cc)
