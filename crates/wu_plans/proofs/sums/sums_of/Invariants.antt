use Rattle.std.proofs.Common.{map, take, get_or, length, ℕ, ◌<◌, ◌≤◌}
use Rattle.std.specs.Borrow.{Bor}
use Rattle.wu_core.specs.declared.workunit.Grant.{Grant}
use Rattle.wu_store.specs.Sums.{AreSums}
use Rattle.wu_plans.specs.Summing.{AreFew, AreUpTo}
use Rattle.wu_plans.proofs.sums.sums_of.Given as goal

abbrev pub invariant-loop-grant : goal.invariant-loop-grant
invariant-loop-grant l =
    AreSums l.sums.items (map (λ (g : Bor Grant). g.now) (take l.grant-index l.ordered))
    × AreFew l.sums.items
    × ((j : ℕ) (d : Bor Grant) → l.grant-index ≤ j → j < length l.ordered → AreUpTo (get_or l.ordered j d).now.host l.sums.items)
