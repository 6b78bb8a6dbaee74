use Rattle.wu_machine_laws.proofs.laws.sound_worlds_are_in_order.Goals as goal

pub returns : goal.returns
returns c = λ world sound. sound.ascending
