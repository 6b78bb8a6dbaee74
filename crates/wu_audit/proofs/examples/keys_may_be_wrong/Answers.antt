use Rattle.std.proofs.Common.{arith, refl}
use Rattle.wu_rules.specs.Examples.{credit, h1, h2}
use Rattle.wu_audit.specs.Examples.{agreed, kept_row, named_again, sent_with}
use Rattle.wu_audit.specs.Keys.{AreApart, AreOtherImports}
use Rattle.wu_audit.proofs.ExampleLemmas.{second_against}
use Rattle.wu_audit.proofs.examples.keys_may_be_wrong.Goals as goal

pub returns : goal.returns
returns c = record {
  order = second_against _ agreed agreed (λ less. absurd (omega (arith, less)));
  name = second_against _ agreed named_again (λ apart. apart refl);
  archived = second_against _ kept_row kept_row (λ apart. apart refl);
  grant = second_against AreApart (credit 0 h1) (credit 0 h2) (λ apart. apart refl refl);
  import = second_against AreOtherImports (sent_with 0) (sent_with 1) (λ apart. apart refl refl);
}
