use Rattle.std.proofs.Common.{refl}
use Rattle.std.specs.Fmt.{digits}
use Rattle.wu_report.proofs.examples.prints_summaries.Goals as goal

pub returns-clause-empty : goal.returns-clause-empty
unfolding digits
returns-clause-empty c = refl

pub returns-clause-batch : goal.returns-clause-batch
unfolding digits
returns-clause-batch c = refl
