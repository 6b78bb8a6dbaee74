use Rattle.std.proofs.Common.{ap, ◌∙◌, sym}
use Rattle.std.specs.List.{list_any}
use Rattle.std.proofs.lemmas.Bool.{not-false, not-true}
use Rattle.wu_audit.proofs.SeenLemmas.{seen_again, seen_more, seen_none}
use Rattle.wu_audit.proofs.once.first_repeat.Goals as goal

pub loop-place-init : goal.loop-place-init
loop-place-init g c = seen_none _ _ _ (λ q. ap (list_any (g.K.PartialEq.eq q)) c.in_ok-seen.ensures.empty)

pub loop-place-preserved : goal.loop-place-preserved
loop-place-preserved g c =
    seen_more g.met.K.Eq.laws _ _ _ c.index-keys-place.result c.loop-place-test.true c.index-keys-place.is c.loop-place.invariant
    _ c.in_ok-insert.ensures.updates.0
    (not-true _ (sym c.in_ok-insert.ensures.added ∙ c.if-not-branch.false))

pub returns-then-not-branch : goal.returns-then-not-branch
returns-then-not-branch g c =
    seen_again g.met.K.Eq.laws _ _ _ c.index-keys-place.result c.loop-place-test.true c.index-keys-place.is c.loop-place.invariant
    (not-false _ (sym c.in_ok-insert.ensures.added ∙ c.if-not-branch.true))
