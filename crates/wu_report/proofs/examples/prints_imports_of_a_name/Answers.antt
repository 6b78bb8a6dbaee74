use Rattle.std.proofs.Common.{refl}
use Rattle.std.specs.Fmt.{digits}
use Rattle.wu_report.proofs.examples.prints_imports_of_a_name.Goals as goal

pub returns-clause-of_sends : goal.returns-clause-of_sends
unfolding digits
returns-clause-of_sends c = refl

pub returns-clause-of_a_batch : goal.returns-clause-of_a_batch
unfolding digits
returns-clause-of_a_batch c = refl

pub returns-clause-of_none : goal.returns-clause-of_none
unfolding digits
returns-clause-of_none c = refl
