use Rattle.wu_machine_laws.proofs.RowLaws.{rows_see_rows}
use Rattle.wu_machine_laws.proofs.files.rows_see_rows.Goals as goal

pub returns : goal.returns
returns c = rows_see_rows
