use Rattle.std.proofs.Common.{◌-◌, arith}
use Rattle.std.proofs.lemmas.Bool.{iff_false}
use Rattle.std.proofs.lemmas.Cmp.{nat_list_cmp_total}
use Rattle.wu_core.specs.declared.workunit.HostClass.{HostClass}
use Rattle.wu_audit.specs.Keys.{IsBefore}
use Rattle.wu_audit.proofs.OrderLemmas.{at_places, runs_here, runs_more, runs_one, runs_to}
use Rattle.wu_audit.proofs.once.first_class_out_of_order.Goals as goal

later : (x y z : HostClass) → IsBefore x y → IsBefore y z → IsBefore x z
later x y z one other = nat_list_cmp_total.trans x.host y.host z.host one other

pub loop-place-init : goal.loop-place-init
loop-place-init c = runs_one IsBefore c.args.classes.now

pub loop-place-preserved : goal.loop-place-preserved
loop-place-preserved c =
    let place = c.loop-place.place in
    let here = at_places IsBefore c.args.classes.now (place - 1) place c.index-classes-place.result c.index-classes-place-in-loop-place.result
    c.index-classes-place.is c.index-classes-place-in-loop-place.is (c.is_before.ensures.0 c.if-not-is_before.false) in
    runs_more IsBefore c.args.classes.now later place (omega arith) c.loop-place.invariant
    (λ d. runs_here IsBefore c.args.classes.now (place - 1) place c.index-classes-place.result c.index-classes-place-in-loop-place.result d d
    (omega arith) c.loop-place-test.true here)

pub returns-then-not-is_before : goal.returns-then-not-is_before
returns-then-not-is_before c =
    let place = c.loop-place.place in
    runs_to IsBefore c.args.classes.now place c.index-classes-place.result c.index-classes-place-in-loop-place.result (omega arith)
    c.loop-place-test.true c.loop-place.invariant
    (at_places (λ one other. ¬ IsBefore one other) c.args.classes.now (place - 1) place c.index-classes-place.result c.index-classes-place-in-loop-place.result
    c.index-classes-place.is c.index-classes-place-in-loop-place.is (iff_false c.is_before.ensures c.if-not-is_before.true))
