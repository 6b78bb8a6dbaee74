use Rattle.wu_schema.proofs.Words.{instance_row, rules, subst}
use Rattle.wu_core.specs.Storable.{IsStoredInstance}
use Rattle.wu_schema.specs.Restoring.{Restores}
use Rattle.wu_schema.proofs.ReadingLemmas.{whole_row}
use Rattle.wu_schema.proofs.rows.instance_from.Goals as goal

pub returns : goal.returns
returns c = subst (λ row. Restores instance_row IsStoredInstance row c.instance_at.result) (whole_row 9 c.args.row.now (search rules)) c.instance_at.ensures
