use Rattle.std.proofs.Common.{rules}
use Rattle.wu_audit.specs.Sets.{AreValidHeld}
use Rattle.wu_audit.proofs.PlaceLemmas.{against_from_test}
use Rattle.wu_audit.proofs.lacks.first_with_valid_unheld.Goals as goal

pub returns : goal.returns
returns c = against_from_test (AreValidHeld c.args.granted.now) c.args.workunits.now _ c.first_against.ensures (λ x b told. search rules)
