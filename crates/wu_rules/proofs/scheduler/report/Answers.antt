use Rattle.std.proofs.Common.{◌∙◌, sym}
use Rattle.wu_rules.proofs.Placing.{is_within, placed}
use Rattle.wu_rules.specs.Reporting.{report_verdict_of, reported_as}
use Rattle.wu_rules.specs.declared.verdicts.ReportVerdict.TheVariants as verdict
use Rattle.wu_rules.proofs.scheduler.report.Goals as goal
use Rattle.wu_rules.proofs.scheduler.report.Goals.{then-eq, else-eq}

pub returns-clause-applied : goal.returns-clause-applied
returns-clause-applied c = λ applied. elim c.if-eq.branch [
  | then-eq w ↦
      let old = c.args.workunit.now in
      let within = is_within (report_verdict_of c.args.host.now c.args.moment) verdict.Unknown verdict.Applied old.instances c.args.n (sym c.report_verdict-verdict.ensures ∙ applied) (λ e. cc e) in
      rw w.workunit-is (placed old w.as_mut_slice.result.now c.args.n (reported_as c.args.moment c.args.status c.args.output) w.index-as_mut_slice-n.result w.end_as.new.instance within w.as_mut_slice.ensures.value w.end_as.ensures)
  | else-eq w ↦ absurd (cc (rw (c.eq.ensures, applied) at w.if-eq.false))
]
