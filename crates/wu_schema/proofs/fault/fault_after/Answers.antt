use Rattle.wu_schema.proofs.Words.{fault_of, state, subst, sym, ◌∙◌}
use Rattle.wu_schema.specs.Faults.{IsStoreFault}
use Rattle.wu_schema.proofs.AskingLemmas.{fault_told, never_failed, survives_none}
use Rattle.wu_schema.proofs.CallLemmas.{back_none}
use Rattle.wu_schema.proofs.fault.fault_after.Goals as goal

pub returns-in-NotAProject : goal.returns-in-NotAProject
returns-in-NotAProject g c =
    let it = c.probe.ensures in
    record {
      mode = it.mode;
      kind = λ _. sym c.in-NotAProject.ensures;
      failed = λ failed. absurd (never_failed (fault_of c.args.error.now) (sym c.in-NotAProject.ensures) failed);
      refused = λ _. it.breaks;
      told = it.kind;
      serves = it.serves;
      back = it.back;
      crash = it.crash;
    }

pub returns-in_default : goal.returns-in_default
returns-in_default g c =
    record {
      mode = λ idle. idle;
      kind = λ is. absurd (c.in_default.not-NotAProject is);
      failed = λ _. c.fault_of.ensures;
      refused = λ is. absurd (c.in_default.not-NotAProject (c.fault_of.ensures ∙ is));
      told = subst IsStoreFault (sym c.fault_of.ensures) (fault_told c.args.error.now);
      serves = λ clean is. absurd (c.in_default.not-NotAProject is);
      back = λ clean. back_none (state g.S.Store c.args.conn.now);
      crash = survives_none (state g.S.Store c.args.conn.now);
    }
