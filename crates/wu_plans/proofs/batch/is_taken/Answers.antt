use Rattle.std.proofs.Common.{◌≡◌, true, false, sym, ap, ◌∙◌}
use Rattle.std.specs.Prelude.{◌||◌}
use Rattle.wu_store.specs.Answers.{has_name, was_archived}
use Rattle.wu_schema.proofs.ReadLemmas.{if_ok}
use Rattle.wu_store.proofs.AskLemmas.{reads_handed, reads_made, reads_then}
use Rattle.wu_plans.proofs.AskLemmas.{taken_is, told_or}
use Rattle.wu_plans.proofs.batch.is_taken.Goals as goal

pub returns-then-branch : goal.returns-then-branch
returns-then-branch g c = record {
  reads = reads_made g.S.Store _ _ c.in_ok-has_workunit.field-0 true c.in_ok-has_workunit.ensures.reads (λ world stands found.
      let present : has_name c.args.name.now world ≡ true = sym found ∙ c.if-branch.true in
      sym (taken_is world c.args.name.now ∙ ap (λ b. b || was_archived c.args.name.now world) present));
}

pub returns : goal.returns
returns g c = record {
  reads = let r = c.has_archived.result in
      let next = c.has_archived.ensures.reads in
      reads_then g.S.Store _ _ _ c.in_ok-has_workunit.field-0 c.in_ok-has_workunit.ensures.reads r next (λ world stands one two.
      let absent : has_name c.args.name.now world ≡ false = sym one ∙ c.if-branch.false in
      told_or r _ (if_ok r _ _ (λ found h. h ∙ sym (taken_is world c.args.name.now ∙ ap (λ b. b || was_archived c.args.name.now world) absent)) two) next.fault) (λ world stands one can. tt);
}

pub returns-in_err-has_workunit : goal.returns-in_err-has_workunit
returns-in_err-has_workunit g c = record { reads = reads_handed g.S.Store _ _ c.from_residual.result c.in_err-has_workunit.field-0.0 c.from_residual.ensures.1 c.in_err-has_workunit.ensures.reads (λ other told world. told) (λ world stands can. tt) }
