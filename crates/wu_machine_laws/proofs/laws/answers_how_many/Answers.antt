use Rattle.std.proofs.Common.{◌∙◌}
use Rattle.wu_rules.specs.Due.{changes}
use Rattle.wu_machine_laws.proofs.PassLaws.{how_many, pass_answered}
use Rattle.wu_machine_laws.proofs.laws.answers_how_many.Goals as goal

pub returns : goal.returns
returns c pass now limit min_age n world is =
    (pass_answered pass now limit min_age n world is).0 ∙ how_many (changes pass now min_age) limit world.workunits
