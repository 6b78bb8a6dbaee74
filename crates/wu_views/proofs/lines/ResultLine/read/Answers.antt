use Rattle.wu_schema.proofs.Words.{refl, rules}
use Rattle.wu_schema.specs.Reading.{IsBareInstance, bare_instance_row}
use Rattle.wu_views.specs.Lines.{IsStoredResult, bare_instance_of, result_line_row}
use Rattle.wu_views.proofs.LineLemmas.{bare_is, part_unread, result_line_read}
use Rattle.wu_views.proofs.lines.ResultLine.read.Goals as goal

pub returns-in_err-server_state : goal.returns-in_err-server_state
returns-in_err-server_state c =
    part_unread bare_instance_of result_line_row bare_instance_row IsStoredResult IsBareInstance c.args.row.now 0 8 bare_is (λ r. refl) c.in_err-server_state.field-0.0 c.in_err-server_state.ensures c.from_residual-in_err-server_state.result c.from_residual-in_err-server_state.ensures.1

pub returns : goal.returns
returns c = result_line_read c.args.row.now _ _ _ _ (search rules) c.in_ok-n.ensures c.in_ok-workunit.ensures c.in_ok-server_state.ensures c.in_ok-output.ensures
