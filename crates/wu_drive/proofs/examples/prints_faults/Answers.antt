use Rattle.std.proofs.Common.{refl}
use Rattle.std.specs.Fmt.{digits}
use Rattle.wu_drive.proofs.examples.prints_faults.Goals as goal

pub returns-clause-rows : goal.returns-clause-rows
unfolding digits
returns-clause-rows c = refl

pub returns-clause-class : goal.returns-clause-class
unfolding digits
returns-clause-class c = refl
