use Rattle.std.proofs.Common.{Bor, arith, below_more, get_or, rules, subst, sym}
use Rattle.std.proofs.lemmas.List.{get_or_read}
use Rattle.wu_core.specs.declared.workunit.Grant.{Grant}
use Rattle.wu_loader.specs.Granting.{IsListed}
use Rattle.wu_loader.proofs.ListedLemmas.{each_listed, listed_each}
use Rattle.wu_loader.proofs.hosts.are_listed.Goals as goal

pub returns-then-not-is_listed : goal.returns-then-not-is_listed
returns-then-not-is_listed c = (
  λ is. absurd cc,
  λ all.
      let there = listed_each c.args.hosts.now c.args.grants.now all c.loop-grant.grant-index c.grant-item.result c.loop-grant-test.true in
      let on = c.is_listed.ensures.1 (subst (λ (g : Bor Grant). IsListed c.args.hosts.now g.now.host) (sym c.grant-item.is) there) in
      let off = c.if-not-is_listed.true in
      absurd cc,
)

pub loop-grant-preserved : goal.loop-grant-preserved
loop-grant-preserved c =
    let on : IsListed c.args.hosts.now c.grant-item.result.now.host = c.is_listed.ensures.0 c.if-not-is_listed.false in
    let here = λ (d : Bor Grant). subst (λ (g : Bor Grant). IsListed c.args.hosts.now g.now.host) (get_or_read c.args.grants.now c.loop-grant.grant-index c.grant-item.result c.loop-grant-test.true c.grant-item.is d) on in
    λ k d low. below_more (λ j. (e : Bor Grant) → IsListed c.args.hosts.now (get_or c.args.grants.now j e).now.host) c.loop-grant.grant-index (λ j less e. c.loop-grant.invariant j e less) here k low d

pub returns : goal.returns
returns c = (
  λ is. each_listed c.args.hosts.now c.args.grants.now (λ k d low. c.loop-grant.invariant k d (omega (arith, low))),
  λ all. search rules,
)
