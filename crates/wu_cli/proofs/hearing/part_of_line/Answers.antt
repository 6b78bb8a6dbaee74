use Rattle.std.proofs.Common.{rules}
use Rattle.wu_cli.proofs.HearingLemmas.{part_ended, part_goes_on}
use Rattle.wu_cli.proofs.hearing.part_of_line.Goals as goal

pub returns-in-Some : goal.returns-in-Some
returns-in-Some c = part_ended c.args.ready.now c.in-Some.place (rw c.in-Some.is at c.memchr.ensures)

pub returns-in-None : goal.returns-in-None
returns-in-None c = part_goes_on c.args.ready.now c.is_empty.result (rw c.in-None.is at c.memchr.ensures) (search rules)
