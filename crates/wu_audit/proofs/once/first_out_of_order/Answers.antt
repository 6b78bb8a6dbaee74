use Rattle.std.proofs.Common.{◌<◌, arith}
use Rattle.wu_core.specs.declared.workunit.Workunit.{Workunit}
use Rattle.wu_audit.proofs.OrderLemmas.{runs_here, runs_more, runs_one, runs_to}
use Rattle.wu_audit.proofs.once.first_out_of_order.Goals as goal

abbrev IsBelow : Workunit → Workunit → Type 0
IsBelow one other = one.number < other.number

pub loop-place-init : goal.loop-place-init
loop-place-init c = runs_one IsBelow c.args.workunits.now

pub loop-place-preserved : goal.loop-place-preserved
loop-place-preserved c = runs_more IsBelow c.args.workunits.now (λ x y z less more. omega (arith, less, more)) c.loop-place.place (omega arith) c.loop-place.invariant
    (λ d. runs_here IsBelow c.args.workunits.now _ _ _ _ d d (omega arith) c.loop-place-test.true c.if-workunits-place.false)

pub returns-then-workunits-place : goal.returns-then-workunits-place
returns-then-workunits-place c =
    runs_to IsBelow c.args.workunits.now c.loop-place.place c.index-workunits-place-in-loop-place.result c.index-workunits-place.result (omega arith)
    c.loop-place-test.true c.loop-place.invariant (λ less. let over = c.if-workunits-place.true in absurd (omega (arith, less, over)))
