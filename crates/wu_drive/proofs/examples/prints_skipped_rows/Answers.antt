use Rattle.std.proofs.Common.{refl}
use Rattle.std.specs.Fmt.{digits}
use Rattle.wu_drive.proofs.examples.prints_skipped_rows.Goals as goal

pub returns-clause-sends : goal.returns-clause-sends
unfolding digits
returns-clause-sends c = refl

pub returns-clause-classes : goal.returns-clause-classes
unfolding digits
returns-clause-classes c = refl

pub returns-clause-reports : goal.returns-clause-reports
unfolding digits
returns-clause-reports c = refl
