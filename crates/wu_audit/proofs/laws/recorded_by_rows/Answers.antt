use Rattle.wu_audit.proofs.RecordLemmas.{backed_from_recorded, recorded_from_backed}
use Rattle.wu_audit.proofs.laws.recorded_by_rows.Goals as goal

pub returns : goal.returns
returns c = λ world keys. (recorded_from_backed world keys, backed_from_recorded world keys)
