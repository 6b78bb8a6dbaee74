use Rattle.std.proofs.Common.{refl}
use Rattle.std.specs.Fmt.{digits}
use Rattle.hex.specs.Hex.{encode_with}
use Rattle.wu_report.proofs.MomentLemmas.{midnight-text}
use Rattle.wu_report.proofs.examples.prints_the_archive.Goals as goal

pub returns-clause-without : goal.returns-clause-without
unfolding digits
returns-clause-without c = rw midnight-text refl

pub returns-clause-output : goal.returns-clause-output
unfolding digits encode_with
returns-clause-output c = rw midnight-text refl
