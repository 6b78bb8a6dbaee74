use Rattle.std.proofs.Common.{ap, subst, sym, ◌≡◌, ◌∙◌}
use Rattle.sqlite.specs.Held.{state}
use Rattle.wu_audit.specs.LoadedWorlds.{world_of_parts}
use Rattle.wu_core.specs.World.{World}
use Rattle.wu_refill.specs.Refilling.{MakesTheWorld, MayBeRefilled}
use Rattle.wu_refill.proofs.FilledLemmas.{crash_of_empty, done_of_empty}
use Rattle.wu_refill.proofs.making.refill.Given
use Rattle.wu_refill.proofs.making.refill.Goals as goal
use Rattle.wu_refill.proofs.making.refill.Goals.{After-as_slice, After-transact}

-- the parts and the imports are those of the world
same_world : (g : Given.Over) (c : After-as_slice g) → world_of_parts c.into_parts-parts.result.0 c.as_slice.result.now ≡ c.args.world
same_world g c = ap (world_of_parts c.into_parts-parts.result.0) c.as_slice.ensures.value ∙ c.into_parts-parts.ensures

pub changes_of-requires : goal.changes_of-requires
changes_of-requires g c = subst MayBeRefilled (sym (same_world g c)) c.requires.may

pub returns-clause-done : goal.returns-clause-done
returns-clause-done g c clean =
    let same : world_of_parts c.into_parts-parts.result.0 c.as_slice.result.now ≡ c.args.world = ap (world_of_parts c.into_parts-parts.result.0) c.as_slice.ensures.value ∙ c.into_parts-parts.ensures in
    done_of_empty c.args.world c.in_ok-changes.changes.items c.as_slice-2.result.now c.as_slice-2.ensures.value (subst (λ (w : World). MakesTheWorld w c.in_ok-changes.changes.items) same c.in_ok-changes.ensures.makes)
    c.transact.result (state g.S.Store c.args.conn.now) (state g.S.Store c.transact.new.conn) (c.transact.ensures.transacts.done clean)

pub returns-clause-crash : goal.returns-clause-crash
returns-clause-crash g c =
    let same : world_of_parts c.into_parts-parts.result.0 c.as_slice.result.now ≡ c.args.world = ap (world_of_parts c.into_parts-parts.result.0) c.as_slice.ensures.value ∙ c.into_parts-parts.ensures in
    crash_of_empty c.args.world c.in_ok-changes.changes.items c.as_slice-2.result.now c.as_slice-2.ensures.value (subst (λ (w : World). MakesTheWorld w c.in_ok-changes.changes.items) same c.in_ok-changes.ensures.makes)
    (state g.S.Store c.args.conn.now) (state g.S.Store c.transact.new.conn) c.transact.ensures.transacts.crash
