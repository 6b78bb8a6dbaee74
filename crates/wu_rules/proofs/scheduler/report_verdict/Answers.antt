use Rattle.wu_rules.proofs.Placing.{found_at, missing_at}
use Rattle.wu_rules.specs.Reporting.{report_verdict_of}
use Rattle.wu_rules.specs.declared.verdicts.ReportVerdict.TheVariants.{Unknown}
use Rattle.wu_rules.proofs.scheduler.report_verdict.Goals as goal

pub returns-in-None : goal.returns-in-None
returns-in-None c = missing_at (report_verdict_of c.args.host.now c.args.moment) Unknown c.args.workunit.now.instances c.args.n (rw c.as_slice.ensures.items at c.in-None.ensures.lookup.3)

pub returns-in-Some : goal.returns-in-Some
returns-in-Some c =
    let it = rw c.as_slice.ensures.items at c.in-Some.ensures.lookup in
    found_at (report_verdict_of c.args.host.now c.args.moment) Unknown c.args.workunit.now.instances c.args.n c.in-Some.instance.now it.3.0 it.1 c.report_verdict_of.result c.report_verdict_of.ensures
