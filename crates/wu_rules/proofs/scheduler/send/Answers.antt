use Rattle.std.proofs.Common.{◌∙◌, sym}
use Rattle.wu_rules.proofs.Placing.{is_within, placed_in}
use Rattle.wu_rules.specs.Sending.{sent_to, send_verdict_of}
use Rattle.wu_rules.specs.declared.verdicts.SendVerdict.TheVariants as verdict
use Rattle.wu_rules.proofs.scheduler.send.Goals as goal
use Rattle.wu_rules.proofs.scheduler.send.Goals.{then-eq, else-eq}

pub returns-clause-applied : goal.returns-clause-applied
returns-clause-applied c = λ applied. elim c.if-eq.branch [
  | then-eq w ↦
      let old = c.args.workunit.now in
      let within = is_within (send_verdict_of old c.args.host c.args.class) verdict.Unknown verdict.Applied old.instances c.args.n (sym c.send_verdict-verdict.ensures ∙ applied) (λ e. cc e) in
      rw w.workunit-is (placed_in (λ items. record old { class = c.args.class; instances = items }) old w.as_mut_slice.result.now c.args.n (sent_to old c.args.host c.args.moment) w.index-as_mut_slice-n.result w.put_in_progress.new.instance within w.as_mut_slice.ensures.value
      (rw w.deadline_of-deadline.ensures at w.put_in_progress.ensures))
  | else-eq w ↦ absurd (cc (rw (c.eq.ensures, applied) at w.if-eq.false))
]
