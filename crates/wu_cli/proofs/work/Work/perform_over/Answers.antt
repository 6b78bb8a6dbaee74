use Rattle.std.proofs.Common.{inl, inr, refl, Err}
use Rattle.wu_cli.proofs.WorkLemmas.{drives_over, prints_over, same_refusal}
use Rattle.wu_cli.specs.declared.trouble.Trouble.TheVariants.{Fault}
use Rattle.wu_cli.proofs.work.Work.perform_over.Goals as goal

pub returns-in-Ok-clause-does : goal.returns-in-Ok-clause-does
returns-in-Ok-clause-does g c = inl (record {
  old = c.in-Ok.project;
  new = c.perform-done.new.project;
  begins = c.in-Ok.ensures.session;
  does = c.perform-done.ensures;
  released = c.release.ensures.same;
})

pub returns-in-Ok-clause-drives : goal.returns-in-Ok-clause-drives
returns-in-Ok-clause-drives g c =
    drives_over g.S.Store g.W.Write.contents c.args.conn c.release.result c.args.out.now c.perform-done.new.out c.args.self.now c.perform-done.result
    (returns-in-Ok-clause-does g c)

pub returns-in-Ok-clause-prints : goal.returns-in-Ok-clause-prints
returns-in-Ok-clause-prints g c =
    prints_over g.S.Store g.W.Write.contents c.args.conn c.release.result c.args.out.now c.perform-done.new.out c.args.self.now c.perform-done.result
    (returns-in-Ok-clause-does g c)

pub returns-in-Err-clause-does : goal.returns-in-Err-clause-does
returns-in-Err-clause-does g c = inr (record {
  fault = c.in-Err.fault;
  refused = c.in-Err.ensures.refused;
  busy = λ busy. same_refusal _ _ _ _ (c.in-Err.ensures.busy busy);
  told = refl;
  unwritten = refl;
})

pub returns-in-Err-clause-drives : goal.returns-in-Err-clause-drives
returns-in-Err-clause-drives g c =
    drives_over g.S.Store g.W.Write.contents c.args.conn c.in-Err.conn c.args.out.now c.args.out.now c.args.self.now (Err (Fault c.in-Err.fault))
    (returns-in-Err-clause-does g c)

pub returns-in-Err-clause-prints : goal.returns-in-Err-clause-prints
returns-in-Err-clause-prints g c =
    prints_over g.S.Store g.W.Write.contents c.args.conn c.in-Err.conn c.args.out.now c.args.out.now c.args.self.now (Err (Fault c.in-Err.fault))
    (returns-in-Err-clause-does g c)
