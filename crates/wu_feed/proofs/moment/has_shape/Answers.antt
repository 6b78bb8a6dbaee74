use Rattle.std.proofs.Common.{refl, sym}
use Rattle.wu_feed.proofs.MomentLemmas.{all_fit, misfit, one_more}
use Rattle.wu_feed.proofs.moment.has_shape.Goals as goal

pub loop-place-init : goal.loop-place-init
loop-place-init c = refl

pub returns-then-not-fits : goal.returns-then-not-fits
returns-then-not-fits c = sym (misfit c.args.text.now c.loop-place.place c.if-text-ne20.false c.loop-place-test.true c.loop-place.invariant (sym c.if-not-fits.ensures))

pub loop-place-preserved : goal.loop-place-preserved
loop-place-preserved c = one_more c.args.text.now c.loop-place.place c.if-text-ne20.false c.loop-place-test.true c.loop-place.invariant (sym c.if-not-fits.ensures)

pub returns : goal.returns
returns c = sym (all_fit c.args.text.now c.loop-place.place c.if-text-ne20.false c.loop-place-test.false c.loop-place.invariant)
