use Rattle.std.proofs.Common.{ap}
use Rattle.wu_cli.specs.declared.trouble.Trouble.TheVariants as trouble
use Rattle.wu_process.proofs.opening.open_copy.Goals as goal

pub returns-in-Ok : goal.returns-in-Ok
returns-in-Ok g c = record {
  opens = c.in-Ok.ensures.opened;
  finds = c.in-Ok.ensures.found;
  fresh = c.in-Ok.ensures.fresh;
}

pub returns-in-Err : goal.returns-in-Err
returns-in-Err g c = record {
  error = c.in-Err.error;
  rest = c.in-Err._left;
  named = c.in-Err.ensures.named;
  cause = c.in-Err.ensures.cause;
  is = ap (λ reason. trouble.Unchecked reason) c.of_copy.ensures;
}
