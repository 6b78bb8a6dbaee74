use Rattle.std.proofs.Common.{refl}
use Rattle.wu_passes.proofs.PlanningLemmas.{asked_at, at_version, of_world}
use Rattle.wu_store.proofs.AskLemmas.{reads_if}
use Rattle.wu_passes.proofs.project.session.plan_at.Goals as goal

pub returns-in-Batch : goal.returns-in-Batch
returns-in-Batch g c = record { reads = rw c.in-Batch.is (reads_if (λ was_open. tt) (at_version g.S.Store _ _ _ c.args.version refl (of_world g.S.Store _ _ _ (λ world is. is.1) c.plan_batch.ensures.reads))) }

pub returns-in-Sent : goal.returns-in-Sent
returns-in-Sent g c = record { reads = rw c.in-Sent.is (reads_if (λ was_open. tt) (at_version g.S.Store _ _ _ c.args.version refl (of_world g.S.Store _ _ _ (λ world is. is) c.plan_sent.ensures.reads))) }

pub returns-in-Reported : goal.returns-in-Reported
returns-in-Reported g c = record { reads = rw c.in-Reported.is (reads_if (λ was_open. tt) (at_version g.S.Store _ _ _ c.args.version refl (of_world g.S.Store _ _ _ (λ world is. is) c.plan_reported.ensures.reads))) }

pub returns-in-Classes : goal.returns-in-Classes
returns-in-Classes g c = record { reads = rw c.in-Classes.is (reads_if (λ was_open. tt) (at_version g.S.Store _ _ _ c.args.version refl (of_world g.S.Store _ _ _ (λ world is. is) c.plan_classes.ensures.reads))) }

pub returns-in-Cancel : goal.returns-in-Cancel
returns-in-Cancel g c = record { reads = rw c.in-Cancel.is (reads_if (λ was_open. tt) (at_version g.S.Store _ _ _ c.args.version refl (of_world g.S.Store _ _ _ (λ world is. is) c.plan_cancel.ensures.reads))) }

pub returns-in-Transition : goal.returns-in-Transition
returns-in-Transition g c = record { reads = rw c.in-Transition.is (reads_if (λ was_open. tt) (at_version g.S.Store _ _ _ c.args.version refl (asked_at g.S.Store _ _ _ c.transition.ensures c.plan_pass.ensures.reads))) }

pub returns-in-Validate : goal.returns-in-Validate
returns-in-Validate g c = record { reads = rw c.in-Validate.is (reads_if (λ was_open. tt) (at_version g.S.Store _ _ _ c.args.version refl (asked_at g.S.Store _ _ _ c.validate.ensures c.plan_pass-in-Validate.ensures.reads))) }

pub returns-in-Assimilate : goal.returns-in-Assimilate
returns-in-Assimilate g c = record { reads = rw c.in-Assimilate.is (reads_if (λ was_open. tt) (at_version g.S.Store _ _ _ c.args.version refl (asked_at g.S.Store _ _ _ c.assimilate.ensures c.plan_pass-in-Assimilate.ensures.reads))) }

pub returns-in-Delete : goal.returns-in-Delete
returns-in-Delete g c = record { reads = rw c.in-Delete.is (reads_if (λ was_open. tt) (at_version g.S.Store _ _ _ c.args.version refl (asked_at g.S.Store _ _ _ c.delete.ensures c.plan_pass-in-Delete.ensures.reads))) }

pub returns-in-Purge : goal.returns-in-Purge
returns-in-Purge g c = record { reads = rw c.in-Purge.is (reads_if (λ was_open. tt) (at_version g.S.Store _ _ _ c.args.version refl (asked_at g.S.Store _ _ _ c.purge.ensures c.plan_pass-in-Purge.ensures.reads))) }

pub returns-in-Upgrade : goal.returns-in-Upgrade
returns-in-Upgrade g c = record {
  reads = record {
    asks = c.plan_upgrade.ensures.reads.asks;
    opens = c.plan_upgrade.ensures.reads.opens;
    fault = c.plan_upgrade.ensures.reads.fault;
    found = λ clean world stands version ready. rw c.in-Upgrade.is (c.plan_upgrade.ensures.reads.found clean world stands.refines version ready.1);
    unrefused = λ clean world stands (of, ready). c.plan_upgrade.ensures.reads.unrefused clean world stands.refines (of, ready.1);
  };
}
