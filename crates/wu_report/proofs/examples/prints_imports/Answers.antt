use Rattle.std.proofs.Common.{refl}
use Rattle.std.specs.Fmt.{digits}
use Rattle.wu_report.proofs.examples.prints_imports.Goals as goal

pub returns : goal.returns
unfolding digits
returns c = refl
