use Rattle.wu_store.proofs.QueuedLemmas.{no_purge, now_due, purge_due, purge_never}
use Rattle.wu_store.proofs.due.moment_due.Goals as goal

pub returns-in-Purge : goal.returns-in-Purge
returns-in-Purge c = record {
  by = purge_due c.args.pass c.args.now c.args.min_age c.moment_before.result c.in-Purge.is c.moment_before.ensures.since;
  none = λ none. purge_never c.args.pass c.args.now c.args.min_age c.in-Purge.is (c.moment_before.ensures.none none);
}

pub returns-in-Transition : goal.returns-in-Transition
returns-in-Transition c = record {
  by = now_due c.args.pass c.args.now c.args.min_age (no_purge c.args.pass c.in-Transition.is);
  none = λ none. absurd cc;
}
