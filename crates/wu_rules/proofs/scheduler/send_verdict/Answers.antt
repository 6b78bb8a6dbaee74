use Rattle.std.proofs.Common.{refl}
use Rattle.wu_rules.proofs.Placing.{found_at, missing_at}
use Rattle.wu_rules.specs.Sending.{send_verdict_of}
use Rattle.wu_rules.specs.declared.verdicts.SendVerdict.TheVariants.{Applied, Class, NotUnsent, SameHost, Unknown}
use Rattle.wu_rules.proofs.scheduler.send_verdict.Goals as goal

pub returns-in-None : goal.returns-in-None
returns-in-None c = missing_at (send_verdict_of c.args.workunit.now c.args.host.now c.args.class) Unknown c.args.workunit.now.instances c.args.n (rw c.as_slice.ensures.items at c.in-None.ensures.lookup.3)

pub returns-in-Some : goal.returns-in-Some
returns-in-Some c =
    let it = rw c.as_slice.ensures.items at c.in-Some.ensures.lookup in
    found_at (send_verdict_of c.args.workunit.now c.args.host.now c.args.class) Unknown c.args.workunit.now.instances c.args.n c.in-Some.instance.now it.3.0 it.1 NotUnsent (rw (← c.if-not-is_unsent.ensures) refl)

pub returns-in-Some-2 : goal.returns-in-Some-2
returns-in-Some-2 c =
    let it = rw c.as_slice.ensures.items at c.in-Some.ensures.lookup in
    found_at (send_verdict_of c.args.workunit.now c.args.host.now c.args.class) Unknown c.args.workunit.now.instances c.args.n c.in-Some.instance.now it.3.0 it.1 SameHost (rw (← c.if-not-is_unsent.ensures, ← c.if-has_one_of.ensures) refl)

pub returns-in-Some-3 : goal.returns-in-Some-3
returns-in-Some-3 c =
    let it = rw c.as_slice.ensures.items at c.in-Some.ensures.lookup in
    found_at (send_verdict_of c.args.workunit.now c.args.host.now c.args.class) Unknown c.args.workunit.now.instances c.args.n c.in-Some.instance.now it.3.0 it.1 Class (rw (← c.if-not-is_unsent.ensures, ← c.if-has_one_of.ensures, ← c.if-is_bound_elsewhere.ensures) refl)

pub returns-in-Some-4 : goal.returns-in-Some-4
returns-in-Some-4 c =
    let it = rw c.as_slice.ensures.items at c.in-Some.ensures.lookup in
    found_at (send_verdict_of c.args.workunit.now c.args.host.now c.args.class) Unknown c.args.workunit.now.instances c.args.n c.in-Some.instance.now it.3.0 it.1 Applied (rw (← c.if-not-is_unsent.ensures, ← c.if-has_one_of.ensures, ← c.if-is_bound_elsewhere.ensures) refl)
