use Rattle.wu_loader.proofs.RunLemmas.{granted_by, counted_by, credit_by}
use Rattle.wu_loader.proofs.hosts.is_granted.Goals as goal

pub returns-then-is_counted : goal.returns-then-is_counted
returns-then-is_counted c =
    let counted = c.is_counted.ensures.0 c.if-is_counted.true in (
      λ is. granted_by c.args.grants.now c.run_of-run.result.now c.args.host.now c.run_of-run.ensures (c.is_credit.ensures.0 is) counted.1 counted.0,
      λ granted. c.is_credit.ensures.1 (credit_by c.args.grants.now c.run_of-run.result.now c.args.host.now c.run_of-run.ensures granted),
    )

pub returns-else-is_counted : goal.returns-else-is_counted
returns-else-is_counted c = (
  λ is. absurd cc,
  λ granted.
      let on = c.is_counted.ensures.1 (granted.some, counted_by c.args.grants.now c.run_of-run.result.now c.args.host.now c.run_of-run.ensures granted) in
      let off = c.if-is_counted.false in
      cc,
)
