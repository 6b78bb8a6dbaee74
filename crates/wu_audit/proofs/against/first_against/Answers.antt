use Rattle.std.proofs.Common.{arith, below_more, get_or, true, false}
use Rattle.std.specs.Fn.{FnReturnsAt}
use Rattle.std.proofs.lemmas.Fn.{says_at}
use Rattle.std.proofs.lemmas.List.Elements.{at_read}
use Rattle.wu_audit.proofs.against.first_against.Goals as goal

pub loop-place-preserved : goal.loop-place-preserved
loop-place-preserved g c = λ k d low lt.
    below_more (λ k. (d : g.row.T.Denot) → FnReturnsAt g.F.Fn c.args.is_right (get_or c.args.elements.now k d) true) c.loop-place.place
    (λ k lt d. c.loop-place.invariant k d (omega arith) lt)
    (at_read c.args.elements.now (λ x. FnReturnsAt g.F.Fn c.args.is_right x true) c.loop-place.place c.index-elements-place.result
    c.loop-place-test.true c.index-elements-place.is (says_at g.F.Fn c.is_right.ensures c.if-not-is_right.false)) k lt d

pub returns-then-not-is_right : goal.returns-then-not-is_right
returns-then-not-is_right g c = (
  c.loop-place-test.true,
  at_read c.args.elements.now (λ x. FnReturnsAt g.F.Fn c.args.is_right x false) c.loop-place.place c.index-elements-place.result
      c.loop-place-test.true c.index-elements-place.is (says_at g.F.Fn c.is_right.ensures c.if-not-is_right.true),
  c.loop-place.invariant,
)

pub returns : goal.returns
returns g c = λ k d low lt. c.loop-place.invariant k d low (omega (arith, lt, c.loop-place-test.false))
