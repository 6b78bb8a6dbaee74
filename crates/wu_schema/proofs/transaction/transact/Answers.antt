use Rattle.wu_schema.proofs.Words.{ap, state, sym, ◌∙◌}
use Rattle.wu_schema.specs.Calls.{IsMade, stop_fault}
use Rattle.wu_schema.proofs.BreakLemmas.{told_broke}
use Rattle.wu_schema.proofs.CommitLemmas.{commit_told, probed}
use Rattle.wu_schema.proofs.transaction.transact.Goals as goal

pub returns-in-Ok : goal.returns-in-Ok
returns-in-Ok g c =
    let run = c.in-Ok.ensures in
    record {
      transacts = record { mode = run.mode; done = run.done; refused = λ clean. tt; undone = λ clean. tt; told = tt; crash = run.crash };
      breaks = λ over. tt;
    }

pub returns-in-Err-Statement : goal.returns-in-Err-Statement
returns-in-Err-Statement g c =
    let laws = g.met.S.Store in
    let s = g.S.Store in
    let makes = g.W.TransactionWork.makes c.args.work.now in
    let old = c.args.conn.now in
    let mid = c.run_and_commit.new.conn in
    let new = c.fault_after.new.conn in
    let run = c.in-Err-Statement.ensures in
    let told = c.fault_after.ensures in
    let it = probed s laws.settled laws.stays makes old mid new run.mode run.undone run.crash told.crash c.fault_after.result told.mode told.told told.serves told.back in
    record {
      transacts = it;
      breaks = λ over. told_broke s old mid new (IsMade makes (state s old).now) run.crash told.crash c.in-Err-Statement.error c.fault_after.result (λ clean is. run.breaks over clean (ap stop_fault c.in-Err-Statement.field-0-is ∙ is)) told.failed told.refused;
    }

pub returns-in-Err-Commit : goal.returns-in-Err-Commit
returns-in-Err-Commit g c =
    let run = c.in-Err-Commit.ensures in
    let fault = commit_told c.commit_fault_of.result c.in-Err-Commit.error c.commit_fault_of.ensures in
    record {
      transacts = record { mode = run.mode; done = λ clean. tt; refused = λ clean is. absurd (fault.1 is); undone = run.undone; told = fault.0; crash = run.crash };
      breaks = λ over clean is. run.breaks over clean (ap stop_fault c.in-Err-Commit.field-0-is ∙ sym c.commit_fault_of.ensures ∙ is);
    }
