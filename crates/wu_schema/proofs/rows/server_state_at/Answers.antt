use Rattle.sqlite.specs.Order.{column}
use Rattle.wu_core.specs.Codes.{server_state_code}
use Rattle.wu_schema.proofs.ReadingLemmas.{code_restored}
use Rattle.wu_schema.proofs.rows.server_state_at.Goals as goal

pub returns : goal.returns
returns c = code_restored server_state_code (column c.args.row.now c.args.at) c.in_ok-code.code c.in_ok-code.ensures.value c.from_code.result c.from_code.ensures c.ok_or.result c.ok_or.ensures.value
