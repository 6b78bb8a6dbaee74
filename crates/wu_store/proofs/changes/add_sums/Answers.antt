use Rattle.wu_schema.proofs.Words.{arith, get_or, length, rules, state, subst, sym, take, [], ◌<◌, ◌∷◌, ◌++◌, ◌≡◌, ◌+◌}
use Rattle.std.proofs.lemmas.List.{take_more}
use Rattle.std.proofs.Math.Seq.{take-length}
use Rattle.wu_store.proofs.ChangeLemmas.{works_none, works_once, works_then}
use Rattle.wu_store.specs.Changes.{Credits}
use Rattle.wu_store.proofs.CreditEffect.{credits_more, credits_none}
use Rattle.wu_store.proofs.changes.add_sums.Goals as goal

pub loop-sum-init : goal.loop-sum-init
loop-sum-init g c = (works_none _ _, λ _. credits_none _)

pub loop-sum-preserved : goal.loop-sum-preserved
loop-sum-preserved g c =
    let (works, credits) = c.loop-sum.invariant in
    let wrote = c.in_ok-add_sum.ensures.writes in
    let sums = c.args.sums.now in
    let i = c.loop-sum.sum-index in
    let one = c.sum-item.result in
    let old = (state g.S.Store c.args.tx.now.conn.now).now in
    let mid = (state g.S.Store c.loop-sum.tx.conn.now).now in
    let new = (state g.S.Store c.add_sum.new.tx.conn.now).now in
    let low : i < length sums = omega (arith, c.loop-sum-test.true) in
    let at : get_or sums i one ≡ one = search rules in
    let more : take i sums ++ one ∷ [] ≡ take (i + 1) sums = subst (λ x. take i sums ++ x ∷ [] ≡ take (i + 1) sums) at (sym (take_more sums i one low)) in (
      works_then works (works_once wrote),
      λ clean. subst (λ ss. Credits ss old new) more (credits_more old mid new (take i sums) one (credits (omega (arith, clean, wrote.part.survives.clean))) (c.in_ok-add_sum.ensures.credits clean)),
    )

pub returns : goal.returns
returns g c = record {
  works = search rules;
  makes = λ clean.
      let at_end : c.loop-sum.sum-index ≡ length c.args.sums.now = omega (arith, c.loop-sum-test.false, c.loop-sum.auto.sum-index-end) in
      let whole : take c.loop-sum.sum-index c.args.sums.now ≡ c.args.sums.now = rw at_end (take-length c.args.sums.now) in
      subst (λ ss. Credits ss (state g.S.Store c.args.tx.now.conn.now).now (state g.S.Store c.loop-sum.tx.conn.now).now) whole (c.loop-sum.invariant.1 clean);
}
