use Rattle.std.proofs.Common.{◌≡◌, refl, arith}
use Rattle.wu_rules.specs.Examples.{late_success}
use Rattle.wu_rules_laws.proofs.examples.takes_a_late_report_of_another_class.Goals as goal

pub returns-clause-mixed : goal.returns-clause-mixed
returns-clause-mixed c = λ one. let first : 1 ≡ 2 = one 0 late_success (omega arith) refl in absurd (omega (arith, first))
