use Rattle.std.proofs.Common.{◌≤◌, arith}
use Rattle.std.proofs.Math.Logic.{∥∥₁_map}
use Rattle.wu_drive.specs.Driving.{world_after}
use Rattle.wu_lives.proofs.reopening.live.Goals as goal

pub returns-in-Some-begin-clause-clean : goal.returns-in-Some-begin-clause-clean
returns-in-Some-begin-clause-clean g c clean = c.in-Some.ensures.clean (omega (arith, clean, c.in-Some-begin.ensures.adopts.clean))

pub returns-in-Some-begin-clause-begins : goal.returns-in-Some-begin-clause-begins
returns-in-Some-begin-clause-begins g c = (c.in-Some-begin.ensures.going, c.in-Some-begin.ensures.knows)

pub returns-in-Some-begin-clause-found : goal.returns-in-Some-begin-clause-found
returns-in-Some-begin-clause-found g c clean world over =
    ∥∥₁_map (c.in-Some.ensures.found (omega (arith, clean, c.in-Some-begin.ensures.adopts.clean)) world over) (λ holds.
    let first : 1 ≤ (world_after world c.args.commands.now holds.count).version = holds.project.first in
    record {
      count = holds.count;
      kept = holds.kept;
      goes = (c.in-Some-begin.ensures.adopts.goes clean (world_after world c.args.commands.now holds.count) first holds.goes).0;
      project = holds.project;
    })

pub returns-in-Some-begin-clause-answers : goal.returns-in-Some-begin-clause-answers
returns-in-Some-begin-clause-answers g c =
    let (answers, written, told) = c.in-Some.ensures.answers in
    (answers, written, λ clean world over. told (omega (arith, clean, c.in-Some-begin.ensures.adopts.clean)) world over)

pub returns-in-Some-begin-clause-ends : goal.returns-in-Some-begin-clause-ends
returns-in-Some-begin-clause-ends g c going clean = c.in-Some.ensures.ends going (omega (arith, clean, c.in-Some-begin.ensures.adopts.clean))

pub returns-in-Some-begin-clause-reopened : goal.returns-in-Some-begin-clause-reopened
returns-in-Some-begin-clause-reopened g c = record {
  again = c.in-Some.conn;
  found = c.in-Some.ensures.reopened;
  adopted = c.in-Some-begin.ensures.adopts;
}
