use Rattle.std.proofs.Common.{rules, sym, subst}
use Rattle.wu_machine.specs.Machine.{HasValues}
use Rattle.wu_machine.specs.Commands.{request_of}
use Rattle.wu_machine.proofs.laws.has_values.Goals as goal

pub returns-in-Batch : goal.returns-in-Batch
returns-in-Batch c = subst (λ command. HasValues (request_of command)) (sym c.in-Batch.is) c.as_bytes.ensures.name

pub returns-in-Sent : goal.returns-in-Sent
returns-in-Sent c = subst (λ command. HasValues (request_of command)) (sym c.in-Sent.is) c.as_bytes-in-Sent.ensures.name

pub returns-in-Reported : goal.returns-in-Reported
returns-in-Reported c = subst (λ command. HasValues (request_of command)) (sym c.in-Reported.is) c.as_bytes-in-Reported.ensures.name

pub returns-in-Classes : goal.returns-in-Classes
returns-in-Classes c = subst (λ command. HasValues (request_of command)) (sym c.in-Classes.is) c.as_bytes-in-Classes.ensures.name

pub returns-in-Transition : goal.returns-in-Transition
returns-in-Transition c = subst (λ command. HasValues (request_of command)) (sym c.in-Transition.is) c.seconds.ensures.within

pub returns-in-Assimilate : goal.returns-in-Assimilate
returns-in-Assimilate c = subst (λ command. HasValues (request_of command)) (sym c.in-Assimilate.is) c.seconds-in-Assimilate.ensures.within

pub returns-in-Purge : goal.returns-in-Purge
returns-in-Purge c = subst (λ command. HasValues (request_of command)) (sym c.in-Purge.is) c.seconds-in-Purge.ensures.within

pub returns-in_default : goal.returns-in_default
returns-in_default c = search rules
