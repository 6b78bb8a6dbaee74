use Rattle.std.proofs.Common.{rules, ◌≡◌, length, take, arith}
use Rattle.std.proofs.Math.Seq.{take-length}
use Rattle.wu_store.proofs.ChangeLemmas.{works_none, works_then}
use Rattle.wu_store.proofs.ChangingLemmas.{makes_none, makes_more}
use Rattle.wu_store.proofs.changes.apply.Goals as goal

pub loop-change-init : goal.loop-change-init
loop-change-init g c = (works_none _ _, λ _. makes_none _)

pub loop-change-preserved : goal.loop-change-preserved
loop-change-preserved g c =
    let (works, makes) = c.loop-change.invariant in
    let one = c.in_ok-make.ensures in (
      works_then works one.works,
      λ clean.
          makes_more c.args.changes.now c.loop-change.change-index c.change-item.result c.change-item.result _ _ _ (search rules) (omega (arith, c.loop-change-test.true)) (makes (omega (arith, one.works.part.survives.clean))) (one.makes clean),
    )

pub returns : goal.returns
returns g c = record {
  works = search rules;
  makes = λ clean.
      let at_end : c.loop-change.change-index ≡ length c.args.changes.now = omega (arith, c.loop-change-test.false, c.loop-change.auto.change-index-end) in
      let whole : take c.loop-change.change-index c.args.changes.now ≡ c.args.changes.now = rw at_end (take-length c.args.changes.now) in
      rw whole at (c.loop-change.invariant.1 clean);
}
