use Rattle.std.proofs.Common.{ap}
use Rattle.wu_machine.specs.Imports.{kept_import}
use Rattle.wu_plans.specs.Planning.{given_of}
use Rattle.wu_plans.proofs.imports.kept.Goals as goal
use Rattle.wu_schema.proofs.ReadingLemmas.{ok_is}

pub returns : goal.returns
returns c = record {
  ok = ap (kept_import (given_of c.args.source.now) c.args.first_number) (ok_is _ _ c.in_ok-from_slice.ensures);
  fault = tt;
}
