use Rattle.wu_schema.proofs.Words.{HasCleanDisk, IsUnchanged, [], inr, refl, state, sym, ◌∙◌}
use Rattle.wu_schema.proofs.CallLemmas.{back_not_run, back_unchanged}
use Rattle.wu_schema.proofs.CommitLemmas.{commit_told}
use Rattle.wu_schema.proofs.OneLemmas.{one_breaks}
use Rattle.wu_schema.proofs.fault.probe.Goals as goal

pub returns-in-Err : goal.returns-in-Err
returns-in-Err g c =
    let old = state g.S.Store c.args.conn.now in
    let new = state g.S.Store c.prepare.new.self in
    let fault = commit_told c.commit_fault_of.result c.in-Err.error c.commit_fault_of.ensures in
    record {
      mode = c.prepare.ensures.mode;
      kind = fault.0;
      serves = λ clean is. absurd (fault.1 is);
      breaks = λ clean told. one_breaks old new c.in-Err.error (c.in-Err.ensures.err clean []) (sym c.commit_fault_of.ensures ∙ told);
      back = λ clean. back_not_run old new _ [] c.in-Err.error (c.in-Err.ensures.err clean []);
      crash = c.prepare.ensures.survives;
    }

pub returns : goal.returns
returns g c =
    let old = state g.S.Store c.args.conn.now in
    let new = state g.S.Store c.prepare.new.self in
    let same : HasCleanDisk new → IsUnchanged old new = λ clean. (c.in_default.ensures.ok clean).1 in
    record {
      mode = c.prepare.ensures.mode;
      kind = inr (inr refl);
      serves = λ clean is. same clean;
      breaks = λ clean told. absurd cc;
      back = λ clean. back_unchanged old new (same clean);
      crash = c.prepare.ensures.survives;
    }
