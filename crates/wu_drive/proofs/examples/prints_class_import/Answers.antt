use Rattle.std.proofs.Common.{refl}
use Rattle.std.specs.Fmt.{digits}
use Rattle.wu_drive.proofs.examples.prints_class_import.Goals as goal

pub returns : goal.returns
unfolding digits
returns c = refl
