use Rattle.wu_schema.proofs.Words.{HasCleanDisk, Survives, arith, false, rules, state, subst, sym, ◌≡◌}
use Rattle.sqlite.specs.State.{IsRolledBack}
use Rattle.wu_core.specs.declared.fault.Fault.TheVariants.{Broken}
use Rattle.wu_schema.specs.Calls.{HasBroken}
use Rattle.wu_schema.specs.Faults.{commit_fault_of}
use Rattle.wu_schema.proofs.BreakLemmas.{commit_broke, statement_broke}
use Rattle.wu_schema.proofs.CommitLemmas.{EndsDone, EndsUndone, committed, not_committed, rolled_back}
use Rattle.wu_schema.proofs.transaction.run_and_commit.Goals as goal

pub returns-in-Err : goal.returns-in-Err
returns-in-Err g c =
    let laws = g.met.S.Store in
    let s = g.S.Store in
    let old = c.args.conn.now in
    let start = c.transaction-tx.result.conn.now in
    let mid = c.run.new.tx.conn.now in
    let end = c.conn-1.given.0 in
    let begun = c.transaction-tx.ensures.begun in
    let part = c.run.ensures.works.part in
    let ended : end.in_transaction ≡ false = search rules in
    let undone : HasCleanDisk (state s end) → IsRolledBack (state s mid) (state s end) = search rules in
    let survives : Survives (state s mid) (state s end) (λ _. ⊥) = search rules in
    let it = rolled_back s laws.settled laws.stays (g.W.TransactionWork.makes c.args.work.now) old start mid end begun part ended undone survives in
    record {
      mode = it.mode;
      done = it.done;
      undone = it.undone;
      crash = it.crash;
      breaks = λ over clean told.
          let here = subst (λ h. g.W.TransactionWork.breaks_over c.args.work.now (state s h).now) (sym begun) over in
          statement_broke s old start mid end begun part (λ _. ⊥) survives (c.in-Err.ensures.breaks here (omega (arith, survives.clean, clean)) told);
    }

pub returns-in-Ok : goal.returns-in-Ok
returns-in-Ok g c =
    let laws = g.met.S.Store in
    let end = c.commit.new.self.0 in
    let same : end ≡ c.conn-2-1.given.0 = search rules in
    let it =
    subst (λ h. EndsDone g.S.Store (g.W.TransactionWork.makes c.args.work.now) c.args.conn.now h) same
    (committed g.S.Store laws.settled laws.stays (g.W.TransactionWork.makes c.args.work.now) c.args.conn.now c.transaction-tx.result.conn.now c.run.new.tx.conn.now end c.transaction-tx.ensures.begun c.run.ensures.works.part c.in_default.ensures.makes c.commit.ensures.ended c.commit.ensures.survives (λ clean. (c.in-Ok.ensures.ok clean).1)) in
    record { mode = it.mode; done = it.done; undone = it.undone; crash = it.crash; breaks = λ over clean. tt }

pub returns-in-Err-commit : goal.returns-in-Err-commit
returns-in-Err-commit g c =
    let laws = g.met.S.Store in
    let s = g.S.Store in
    let old = c.args.conn.now in
    let start = c.transaction-tx.result.conn.now in
    let mid = c.run.new.tx.conn.now in
    let end = c.commit.new.self.0 in
    let same : end ≡ c.conn-2-1.given.0 = search rules in
    let begun = c.transaction-tx.ensures.begun in
    let part = c.run.ensures.works.part in
    let survives = c.commit.ensures.survives in
    let it =
    subst (λ h. EndsUndone s (g.W.TransactionWork.makes c.args.work.now) old h) same
    (not_committed s laws.settled laws.stays (g.W.TransactionWork.makes c.args.work.now) old start mid end begun part c.in_default.ensures.makes c.commit.ensures.ended survives c.in-Err-commit.error c.in_default.ensures.works.stays c.in-Err-commit.ensures.err) in
    record {
      mode = it.mode;
      done = it.done;
      undone = it.undone;
      crash = it.crash;
      breaks = λ over. subst (λ h. HasCleanDisk (state s h) → commit_fault_of c.in-Err-commit.error ≡ Broken → HasBroken s old h) same
          (λ clean. commit_broke s old start mid end begun part (λ db. db ≡ (state s mid).now.trees) survives clean c.in_default.ensures.works.stays c.in-Err-commit.error (c.in-Err-commit.ensures.err clean));
    }
