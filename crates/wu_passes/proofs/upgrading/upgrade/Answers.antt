use Rattle.std.proofs.Common.{rules, ◌≢◌, arith, false, subst, sym, ◌∙◌}
use Rattle.sqlite.specs.Held.{state}
use Rattle.sqlite.specs.State.{HasCleanDisk}
use Rattle.wu_core.specs.declared.fault.Fault.TheVariants.{NotAProject}
use Rattle.wu_schema.specs.Calls.{CommitsNothing}
use Rattle.wu_machine.specs.Requests.{AskUpgrade}
use Rattle.wu_views.proofs.WaitingLemmas.{asks_over}
use Rattle.wu_passes.specs.Adopting.{KeepsAll}
use Rattle.wu_passes.specs.Standing.{ShowsWorld}
use Rattle.wu_store.specs.StandsFor.{StandsFor}
use Rattle.wu_passes.proofs.StandingLemmas.{from_unplanned, keeps_as_before, plan_refused, shows_back}
use Rattle.wu_passes.proofs.UpgradeLemmas.{back_after, never_unbegun, ok_any, shows_settled, upgrades_then}
use Rattle.wu_passes.proofs.upgrading.upgrade.Goals as goal

pub returns-in-Ok-clause-upgrades : goal.returns-in-Ok-clause-upgrades
returns-in-Ok-clause-upgrades g c clean world project stands =
    let was = state g.S.Store c.args.conn.now in
    let mid = state g.S.Store c.plan_present.new.conn in
    let new = state g.S.Store c.make_changes.new.conn in
    let before : HasCleanDisk mid = omega (arith, clean, c.make_changes.ensures.crash.clean) in
    let shows : ShowsWorld was world = shows_settled was world (c.is_autocommit-is_idle.ensures.settled (search rules)) stands in
    let kept = keeps_as_before g.S.Store c.args.conn.now c.plan_present.new.conn before c.plan_present.ensures.reads.asks.crash (c.in-Ok.ensures.reads.asks.answered before) in
    let still : StandsFor mid.now world = asks_over g.S.Store c.args.conn.now c.plan_present.new.conn c.in-Ok.field-0 c.in-Ok.ensures.reads.asks before world stands in
    upgrades_then was mid new world c.make_changes.result kept
    (c.make_changes.ensures.made clean world c.in-Ok.field-0.answer still (shows_back was mid world (c.plan_present.ensures.reads.asks.back before) shows) (rw c.as_slice.ensures.value (c.in-Ok.ensures.reads.found before world stands project)))

pub returns-in-Err-clause-upgrades : goal.returns-in-Err-clause-upgrades
returns-in-Err-clause-upgrades g c clean world project stands =
    let was = state g.S.Store c.args.conn.now in
    let now = state g.S.Store c.plan_present.new.conn in
    let shows : ShowsWorld was world = shows_settled was world (c.is_autocommit-is_idle.ensures.settled (search rules)) stands in
    let told = plan_refused was now world AskUpgrade c.in-Err.fault shows (c.plan_present.ensures.reads.asks.back clean) (c.in-Err.ensures.reads.opens tt clean) (λ still. c.in-Err.ensures.reads.found clean world still project) in
    from_unplanned was now world AskUpgrade false c.in-Err.fault clean shows (c.plan_present.ensures.reads.asks.back clean) c.plan_present.ensures.reads.asks.crash told

pub returns-in-Ok-clause-present : goal.returns-in-Ok-clause-present
returns-in-Ok-clause-present g c clean world project stands present =
    let was = state g.S.Store c.args.conn.now in
    let mid = state g.S.Store c.plan_present.new.conn in
    let before : HasCleanDisk mid = omega (arith, clean, c.make_changes.ensures.crash.clean) in
    let kept = keeps_as_before g.S.Store c.args.conn.now c.plan_present.new.conn before c.plan_present.ensures.reads.asks.crash (c.in-Ok.ensures.reads.asks.answered before) in
    let none = (c.in-Ok.ensures.reads.found before world stands project).idle present in
    let same = c.make_changes.ensures.none (c.as_slice.ensures.value ∙ none) in
    ok_any c.make_changes.result _ (subst (λ h. KeepsAll was (state g.S.Store h)) (sym same) kept)

pub returns-in-Ok-clause-back : goal.returns-in-Ok-clause-back
returns-in-Ok-clause-back g c =
    back_after (state g.S.Store c.args.conn.now) (state g.S.Store c.plan_present.new.conn) (state g.S.Store c.make_changes.new.conn) c.make_changes.result (λ clean. omega (arith, clean, c.make_changes.ensures.crash.clean)) c.plan_present.ensures.reads.asks.back c.make_changes.ensures.back

pub returns-in-Ok-clause-unbegun : goal.returns-in-Ok-clause-unbegun
returns-in-Ok-clause-unbegun g c = never_unbegun c.make_changes.result (λ _. CommitsNothing g.S.Store c.args.conn.now c.make_changes.new.conn) c.make_changes.ensures.begun

pub returns-in-Ok-clause-unrefused : goal.returns-in-Ok-clause-unrefused
returns-in-Ok-clause-unrefused g c clean world stands project limit = never_unbegun c.make_changes.result (λ fault. fault ≢ NotAProject) c.make_changes.ensures.begun

pub returns-in-Err-clause-unrefused : goal.returns-in-Err-clause-unrefused
returns-in-Err-clause-unrefused g c clean world stands project limit = λ none. c.in-Err.ensures.reads.unrefused clean world stands project limit
