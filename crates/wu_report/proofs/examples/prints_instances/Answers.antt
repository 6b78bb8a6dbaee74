use Rattle.std.proofs.Common.{refl}
use Rattle.std.specs.Fmt.{digits}
use Rattle.wu_report.proofs.MomentLemmas.{due-text, reporting-text, sending-text}
use Rattle.wu_report.proofs.examples.prints_instances.Goals as goal

pub returns-clause-unsent : goal.returns-clause-unsent
unfolding digits
returns-clause-unsent c = refl

pub returns-clause-sent : goal.returns-clause-sent
unfolding digits
returns-clause-sent c = rw (sending-text, due-text) refl

pub returns-clause-invalid : goal.returns-clause-invalid
unfolding digits
returns-clause-invalid c = rw (sending-text, due-text, reporting-text) refl
