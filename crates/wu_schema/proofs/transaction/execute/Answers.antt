use Rattle.wu_schema.proofs.Words.{refl, rules}
use Rattle.wu_schema.proofs.CallLemmas.{has_run, refuses, refuses_text, wrote}
use Rattle.wu_schema.proofs.transaction.execute.Goals as goal

pub returns-in_err-execute : goal.returns-in_err-execute
returns-in_err-execute g c =
    let e = c.in_err-execute.ensures in
    record {
      writes = refuses g.S.Store c.args.tx.now c.execute.new.self e.same_reference _ _ _ c.in_err-execute.field-0.0 e.ended e.runs e.survives c.from_residual.result c.from_residual.ensures.1;
      ran = λ clean. search rules;
      refused = refuses_text g.S.Store c.args.tx.now c.execute.new.self e.same_reference _ _ _ c.in_err-execute.field-0.0 refl e.ended e.runs c.from_residual.result c.from_residual.ensures.1;
    }

pub returns : goal.returns
returns g c =
    let e = c.in_ok-execute.ensures in
    record {
      writes = wrote g.S.Store c.args.tx.now c.execute.new.self e.same_reference _ _ _ c.in_ok-execute.field-0 e.ended e.runs tt e.survives;
      ran = has_run g.S.Store c.args.tx.now c.execute.new.self e.same_reference _ _ _ c.in_ok-execute.field-0 e.ended e.runs;
      refused = λ clean. tt;
    }
