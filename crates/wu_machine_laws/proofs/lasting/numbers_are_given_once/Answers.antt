use Rattle.wu_machine_laws.proofs.LastingLaws.{numbers_are_given_once}
use Rattle.wu_machine_laws.proofs.lasting.numbers_are_given_once.Goals as goal

pub returns : goal.returns
returns c = numbers_are_given_once
