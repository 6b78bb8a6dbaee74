use Rattle.std.proofs.Common.{◌<◌, ◌≤◌, arith, subst}
use Rattle.wu_cli.specs.Performing.{Performs}
use Rattle.wu_cli.specs.Scripting.{TellsFull}
use Rattle.wu_cli.specs.declared.repeating.TheConstants.{MOST_ROUNDS}
use Rattle.wu_cli.proofs.RepeatLemmas.{rounds_all, rounds_cut, rounds_end, rounds_more, rounds_none}
use Rattle.wu_cli.proofs.repeating.repeat.Goals as goal

pub each-init : goal.each-init
each-init g c number = rounds_none g.W.Write.contents _ _ number c.args.action.now

pub returns-in-Some : goal.returns-in-Some
returns-in-Some g c number =
    let within : c.each.counter < MOST_ROUNDS = omega (arith, c.each-test.true) in
    rounds_cut g.W.Write.contents _ _ _ _ _ _ number c.args.action.now c.each.counter within (c.each.invariant number) c.in-Some.fault
    (subst (λ end. Performs g.W.Write.contents c.each.project c.act-end.new.project c.each.out c.act-end.new.out c.args.action.now end) c.in-Some.is c.act-end.ensures.does)

pub returns-then-not-is_full : goal.returns-then-not-is_full
returns-then-not-is_full g c number =
    let within : c.each.counter < MOST_ROUNDS = omega (arith, c.each-test.true) in
    rounds_end g.W.Write.contents _ _ _ _ _ _ number c.args.action.now c.each.counter within (c.each.invariant number)
    (subst (λ end. Performs g.W.Write.contents c.each.project c.act-end.new.project c.each.out c.act-end.new.out c.args.action.now end) c.in-None.is c.act-end.ensures.does)
    c.act-end.result.1
    (subst (λ end. TellsFull c.each.project c.act-end.new.project c.args.action.now end c.act-end.result.1) c.in-None.is c.act-end.ensures.full)
    c.if-not-is_full.true

pub each-preserved : goal.each-preserved
each-preserved g c number =
    let within : c.each.counter < MOST_ROUNDS = omega (arith, c.each-test.true) in
    rounds_more g.W.Write.contents _ _ _ _ _ _ number c.args.action.now c.each.counter within (c.each.invariant number)
    (subst (λ end. Performs g.W.Write.contents c.each.project c.act-end.new.project c.each.out c.act-end.new.out c.args.action.now end) c.in-None.is c.act-end.ensures.does)
    c.act-end.result.1
    (subst (λ end. TellsFull c.each.project c.act-end.new.project c.args.action.now end c.act-end.result.1) c.in-None.is c.act-end.ensures.full)
    c.if-not-is_full.false

pub returns : goal.returns
returns g c number =
    let all : MOST_ROUNDS ≤ c.each.counter = omega (arith, c.each-test.false) in
    let within : c.each.counter ≤ MOST_ROUNDS = omega (arith, c.each.auto.counter-end) in
    rounds_all g.W.Write.contents _ _ _ _ number c.args.action.now c.each.counter all within (c.each.invariant number)
