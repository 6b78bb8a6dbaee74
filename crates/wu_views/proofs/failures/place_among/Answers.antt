use Rattle.std.proofs.Common.{arith, is_gt, length, rules, subst, false, ◌≡◌, ◌≤◌}
use Rattle.std.proofs.lemmas.List.{get_or_read}
use Rattle.wu_views.specs.Failures.{by_failures}
use Rattle.wu_views.specs.declared.failures.HostFailures.{HostFailures}
use Rattle.wu_views.proofs.FailureLemmas.{placed_at}
use Rattle.wu_views.proofs.failures.place_among.Goals as goal

pub returns-then-not-is_gt-clause-place : goal.returns-then-not-is_gt-clause-place
returns-then-not-is_gt-clause-place c =
    let hosts = c.args.hosts.now in
    let it = c.args.host.now in
    let place = c.loop-place.place in
    let one = c.index-hosts-place.result in
    let within : place ≤ length hosts = omega (arith, c.loop-place-test.true) in
    let behind : is_gt (by_failures it one) ≡ false = search rules in
    placed_at hosts place it within c.loop-place.invariant (λ d low. subst (λ (h : HostFailures). is_gt (by_failures it h) ≡ false) (get_or_read hosts place one low c.index-hosts-place.is d) behind)

pub returns-clause-place : goal.returns-clause-place
returns-clause-place c =
    let hosts = c.args.hosts.now in
    let place = c.loop-place.place in
    placed_at hosts (length hosts) c.args.host.now (omega arith) (λ n d low. c.loop-place.invariant n d (omega (arith, low, c.loop-place-test.false))) (λ d low. absurd (omega (arith, low)))
