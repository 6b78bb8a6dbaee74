use Rattle.std.proofs.Common.{refl}
use Rattle.wu_plans.proofs.ImportPlans.{asked_reported}
use Rattle.wu_plans.proofs.touched.ReportRowFileRow.kind.Goals as goal

pub returns : goal.returns
returns g = λ world name content. record { asked = λ is. asked_reported world is name content; read = refl; before = λ came. came }
