use Rattle.wu_schema.proofs.ClassLemmas.{classes_are_made}
use Rattle.wu_schema.proofs.StepLemmas.{made_as}
use Rattle.wu_schema.proofs.classes.make_classes.Goals as goal

pub returns : goal.returns
returns g c = made_as (λ old new it. classes_are_made old new it) c.create_classes.ensures
