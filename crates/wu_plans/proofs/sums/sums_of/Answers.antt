use Rattle.std.proofs.Common.{rules, arith, map, take, get_or, length, sym, subst, ap, IsSorted, Less, take_all, ◌++◌, [], ◌∷◌, ◌≡◌, ◌≢◌, ◌∙◌, ◌+◌, ◌<◌}
use Rattle.std.proofs.lemmas.List.{get_or_default, map-append, take_more}
use Rattle.std.specs.Borrow.{Bor}
use Rattle.wu_core.specs.declared.workunit.Grant.{Grant}
use Rattle.wu_core.proofs.HostLemmas.{order}
use Rattle.wu_store.specs.Sums.{AreSums}
use Rattle.wu_store.proofs.GrantSums.{no_sums}
use Rattle.wu_plans.specs.Summing.{AreFew, AreUpTo}
use Rattle.wu_plans.proofs.SumLemmas.{no_earlier, sums_moved}
use Rattle.wu_plans.proofs.sums.sums_of.Goals as goal

pub loop-grant-init : goal.loop-grant-init
loop-grant-init c =
    let none = sym c.new-sums.ensures.items in
    (subst (λ sums. AreSums sums []) none no_sums, subst AreFew none tt, λ j d le low. subst (AreUpTo (get_or c.as_slice-ordered.result.now j d).now.host) none tt)

pub loop-grant-preserved : goal.loop-grant-preserved
loop-grant-preserved c =
    let (sums, few, up_to) = c.loop-grant.invariant in
    let ordered = c.as_slice-ordered.result.now in
    let i = c.loop-grant.grant-index in
    let one = c.grant-item.result in
    let low : i < length ordered = omega (arith, c.loop-grant-test.true) in
    let first : get_or ordered i one ≡ one = search rules in
    let at : (d : Bor Grant) → get_or ordered i d ≡ one = λ d. get_or_default ordered i d one low ∙ first in
    let more : take i ordered ++ one ∷ [] ≡ take (i + 1) ordered = ap (λ x. take i ordered ++ x ∷ []) (sym (at one)) ∙ sym (take_more ordered i one low) in
    let in_order = subst (IsSorted (λ (a b : Bor Grant). order a.now.host b.now.host)) (sym c.as_slice-ordered.ensures.value) c.in_ok-sorted.ensures.sorted in
    let added = c.in_ok-add.ensures.ok in (
      subst (AreSums c.add.new.sums.items) (sym (map-append (λ (g : Bor Grant). g.now) (take i ordered) (one ∷ [])) ∙ ap (map (λ (g : Bor Grant). g.now)) more) (added.sums (map (λ (g : Bor Grant). g.now) (take i ordered)) sums),
      added.few few (subst (λ (g : Bor Grant). AreUpTo g.now.host c.loop-grant.sums.items) (at one) (up_to i one (omega arith) low)),
      λ j d le high. added.up_to (get_or ordered j d).now.host (subst (λ (g : Bor Grant). order (get_or ordered j d).now.host g.now.host ≢ Less) (at d) (no_earlier ordered in_order i j d (omega (arith, le)) high)),
    )

pub returns-clause-sums : goal.returns-clause-sums
returns-clause-sums c =
    let (sums, few, up_to) = c.loop-grant.invariant in
    let ordered = c.as_slice-ordered.result.now in
    let whole : take c.loop-grant.grant-index ordered ≡ c.in_ok-sorted.sorted.items = take_all _ _ c.loop-grant-test.false ∙ c.as_slice-ordered.ensures.value in
    sums_moved c.loop-grant.sums.items c.args.grants.now (map (λ (g : Bor Grant). g.now) c.in_ok-sorted.sorted.items) c.in_ok-sorted.ensures.same
    (subst (λ gs. AreSums c.loop-grant.sums.items (map (λ (g : Bor Grant). g.now) gs)) whole sums)

pub returns-clause-few : goal.returns-clause-few
returns-clause-few c = let (sums, few, up_to) = c.loop-grant.invariant in few
