use Rattle.std.proofs.Common.{rules, is_some, None, Err, ap, sym, arith, inl, inr, IsTrue, ◌∙◌, ◌≡◌, ◌⊎◌}
use Rattle.sqlite.specs.State.{HasCleanDisk}
use Rattle.sqlite.specs.Held.{state}
use Rattle.wu_schema.proofs.ReadLemmas.{if_err}
use Rattle.wu_store.proofs.LoadLemmas.{asks_read}
use Rattle.wu_store.specs.StandsFor.{StandsFor}
use Rattle.wu_core.specs.World.{World}
use Rattle.wu_machine.specs.Commands.{request_of}
use Rattle.wu_machine.specs.Machine.{reply}
use Rattle.wu_machine.specs.Sound.{IsProject}
use Rattle.wu_passes.specs.Projects.{older_version, RunsFromAny}
use Rattle.wu_passes.specs.Standing.{GoesOn, Runs, ShowsWorld}
use Rattle.wu_store.specs.Loading.{IsStoreFault}
use Rattle.wu_views.proofs.WaitingLemmas.{asks_over}
use Rattle.wu_passes.proofs.SessionLemmas.{answers_older, limits_run, limits_why, older_runs, older_why, reaches_then, refused_other, stays_over}
use Rattle.wu_passes.proofs.StandingLemmas.{cut_why, error_is, from_then, from_unplanned, goes_read, shows_back, idle_keeps, keeps_as_before, keeps_self, keeps_then, plan_keeps, plan_refused, refused_open, stands_read, unplanned_why}
use Rattle.wu_passes.proofs.project.Project.run.Goals as goal

pub returns-in-Some-clause-runs : goal.returns-in-Some-clause-runs
returns-in-Some-clause-runs g c going = older_runs c.args.self.now c.args.command.now c.in-Some.version (sym c.older_for.ensures ∙ c.in-Some.is)

pub returns-in-Some-clause-why : goal.returns-in-Some-clause-why
returns-in-Some-clause-why g c going clean unlimited world shows = older_why c.args.self.now c.args.command.now c.in-Some.version (sym c.older_for.ensures ∙ c.in-Some.is) _ _ world going shows.version

pub returns-in-Some-clause-refused : goal.returns-in-Some-clause-refused
returns-in-Some-clause-refused g c going =
    let is = (refused_other (request_of c.args.command.now) (older_version c.args.self.now) c.in-Some.version (sym c.older_for.ensures ∙ c.in-Some.is)).1 in
    record { older = λ other. answers_older _ c.args.self.now c.in-Some.version is; limits = λ present wrong. absurd (let no = sym present ∙ is in cc) }

pub returns-in-Some-clause-opens : goal.returns-in-Some-clause-opens
returns-in-Some-clause-opens g c going planned =
    let it = refused_other (request_of c.args.command.now) (older_version c.args.self.now) c.in-Some.version (sym c.older_for.ensures ∙ c.in-Some.is) in
    absurd (let no = sym (planned.present (ap is_some it.1)) ∙ it.0 in cc)

pub returns-then-not-has_right_limits-clause-runs : goal.returns-then-not-has_right_limits-clause-runs
returns-then-not-has_right_limits-clause-runs g c going =
    let none : c.older_for.result ≡ None = search rules in
    limits_run c.args.self.now c.args.command.now (sym c.older_for.ensures ∙ none) (search rules)

pub returns-then-not-has_right_limits-clause-why : goal.returns-then-not-has_right_limits-clause-why
returns-then-not-has_right_limits-clause-why g c going clean unlimited world shows =
    let none : c.older_for.result ≡ None = search rules in
    limits_why c.args.self.now c.args.command.now (sym c.older_for.ensures ∙ none) (search rules) _ _ world going shows.is_project shows.version

pub returns-in-Ok-clause-runs : goal.returns-in-Ok-clause-runs
returns-in-Ok-clause-runs g c goes_on =
    let was = state g.S.Store c.args.self.now.conn in
    let mid = state g.S.Store c.prepare.new.self.conn in
    let before : HasCleanDisk (state g.S.Store c.carry_out.new.self.conn) → HasCleanDisk mid = λ clean. omega (arith, c.carry_out.ensures.session.clean) in
    let is_open : HasCleanDisk mid → IsTrue was.is_open = λ clean. (c.prepare.ensures.reads.asks.back clean).was_open (c.in-Ok.ensures.reads.opens tt clean) in
    let still : HasCleanDisk mid → (world : World) → StandsFor was.now world → StandsFor mid.now world = λ clean world stands. asks_over g.S.Store c.args.self.now.conn c.prepare.new.self.conn c.in-Ok.field-0 c.in-Ok.ensures.reads.asks clean world stands in
    let any : HasCleanDisk (state g.S.Store c.carry_out.new.self.conn) → (world : World) → IsProject world → GoesOn was world → Runs world (request_of c.args.command.now) c.carry_out.new.self.has_ended (state g.S.Store c.carry_out.new.self.conn) c.carry_out.result =
    λ clean world project goes.
    let stands = (goes.stands (is_open (before clean))).0 in
    let goes_still = goes_read _ _ world (before clean) (asks_read g.S.Store _ _ _ c.prepare.ensures.reads.asks) goes in
    c.carry_out.ensures.done clean world _ (still (before clean) world stands) goes_still (rw c.as_slice.ensures.value (c.in-Ok.ensures.reads.found (before clean) world stands project)) in
    let from : RunsFromAny c.args.self.now c.carry_out.new.self c.args.command.now c.carry_out.result = λ clean world shows.
    let stands = (shows.shows (is_open (before clean))).0 in
    let kept = keeps_as_before g.S.Store c.args.self.now.conn c.prepare.new.self.conn (before clean) c.prepare.ensures.reads.asks.crash (c.in-Ok.ensures.reads.asks.answered (before clean)) in
    let shows_still = shows_back was mid world (c.prepare.ensures.reads.asks.back (before clean)) shows.shows in
    from_then was mid _ world _ _ c.carry_out.result kept (c.carry_out.ensures.from clean world _ (still (before clean) world stands) shows_still (rw c.as_slice.ensures.value (c.in-Ok.ensures.reads.found (before clean) world stands shows.is_project))) in
    record {
      goes = λ clean world over. any clean world over.is_project over.goes;
      from = from;
      stays = stays_over c.args.self.now c.carry_out.new.self c.args.command.now c.commands_keep_projects.ensures c.carry_out.result from
          (λ clean still. (c.prepare.ensures.reads.asks.back (before clean)).was_open (c.carry_out.ensures.session.shut clean still))
          (reaches_then c.args.self.now c.prepare.new.self c.carry_out.new.self c.carry_out.result c.prepare.ensures.session.version c.carry_out.ensures.session.version);
    }

pub returns-in-Err-clause-runs : goal.returns-in-Err-clause-runs
returns-in-Err-clause-runs g c goes_on =
    let was = state g.S.Store c.args.self.now.conn in
    let now = state g.S.Store c.prepare.new.self.conn in
    let told : HasCleanDisk now → (world : World) → IsProject world → ShowsWorld was world → (reply world (request_of c.args.command.now) ≡ Err c.in-Err.refusal) ⊎ IsStoreFault c.in-Err.refusal =
    λ clean world project shows. plan_refused was now world _ c.in-Err.refusal shows (c.prepare.ensures.reads.asks.back clean) (c.in-Err.ensures.reads.opens tt clean) (λ stands. c.in-Err.ensures.reads.found clean world stands project) in
    let any : HasCleanDisk now → (world : World) → IsProject world → GoesOn was world → Runs world (request_of c.args.command.now) c.prepare.new.self.has_ended now (Err c.in-Err.refusal) =
    λ clean world project goes. (
      told clean world project goes.stands,
      stands_read c.prepare.new.self.has_ended _ world _ (goes_read _ _ world clean (asks_read g.S.Store _ _ _ c.prepare.ensures.reads.asks) goes),
    ) in
    let from : RunsFromAny c.args.self.now c.prepare.new.self c.args.command.now (Err c.in-Err.refusal) = λ clean world shows.
    from_unplanned was now world _ c.prepare.new.self.has_ended c.in-Err.refusal clean shows.shows (c.prepare.ensures.reads.asks.back clean) c.prepare.ensures.reads.asks.crash (told clean world shows.is_project shows.shows) in
    record {
      goes = λ clean world over. any clean world over.is_project over.goes;
      from = from;
      stays = stays_over c.args.self.now c.prepare.new.self c.args.command.now c.commands_keep_projects.ensures (Err c.in-Err.refusal) from
          (λ clean still. (c.prepare.ensures.reads.asks.back clean).was_open still) c.prepare.ensures.session.version;
    }

pub returns-in-Ok-clause-why : goal.returns-in-Ok-clause-why
returns-in-Ok-clause-why g c goes_on clean unlimited world shows =
    let before : HasCleanDisk (state g.S.Store c.prepare.new.self.conn) = omega (arith, c.carry_out.ensures.session.clean) in
    let is_open : IsTrue (state g.S.Store c.args.self.now.conn).is_open = (c.prepare.ensures.reads.asks.back before).was_open (c.in-Ok.ensures.reads.opens tt before) in
    let planned = c.in-Ok.ensures.reads.found before world (shows.shows is_open).0 shows.is_project in
    cut_why _ _ world _ c.in-Ok.field-0.answer c.in-Ok.field-0.changes.items c.carry_out.result planned (λ empty. (c.carry_out.ensures.none (c.as_slice.ensures.value ∙ empty)).0) c.carry_out.ensures.cause

pub returns-in-Err-clause-why : goal.returns-in-Err-clause-why
returns-in-Err-clause-why g c goes_on clean unlimited world shows =
    let told = plan_refused (state g.S.Store c.args.self.now.conn) (state g.S.Store c.prepare.new.self.conn) world _ c.in-Err.refusal shows.shows (c.prepare.ensures.reads.asks.back clean) (c.in-Err.ensures.reads.opens tt clean) (λ stands. c.in-Err.ensures.reads.found clean world stands shows.is_project) in
    unplanned_why _ c.prepare.new.self.has_ended world _ c.in-Err.refusal (λ over. error_is _ _ (sym c.in-Err.is ∙ c.prepare.ensures.session.ends goes_on over)) (λ broken. c.prepare.ensures.session.broken (c.in-Err.is ∙ ap Err broken))
    (λ broken. c.in-Err.ensures.reads.asks.broken clean (ap Err broken))
    (λ refused.
    let still = refused_open (state g.S.Store c.prepare.new.self.conn) c.in-Err.refusal refused (c.in-Err.ensures.reads.opens tt clean) in
    let stands = (shows.shows ((c.prepare.ensures.reads.asks.back clean).was_open still)).0 in
    c.in-Err.ensures.reads.unrefused clean world stands shows.is_project unlimited refused)
    told

pub returns-in-Err-clause-untouched : goal.returns-in-Err-clause-untouched
returns-in-Err-clause-untouched g c clean =
    plan_keeps g.S.Store c.args.self.now.conn c.prepare.new.self.conn c.in-Err.refusal clean c.prepare.ensures.reads.asks.crash (c.in-Err.ensures.reads.asks.refused clean)

pub returns-in-Ok-clause-untouched : goal.returns-in-Ok-clause-untouched
returns-in-Ok-clause-untouched g c clean =
    let before : HasCleanDisk (state g.S.Store c.prepare.new.self.conn) = omega (arith, c.carry_out.ensures.session.clean) in
    let kept = keeps_as_before g.S.Store c.args.self.now.conn c.prepare.new.self.conn before c.prepare.ensures.reads.asks.crash (c.in-Ok.ensures.reads.asks.answered before) in
    if_err c.carry_out.result _ _ (λ fault h. elim h [ inl failed ↦ inl failed | inr same ↦ inr (keeps_then _ _ _ kept same) ]) (c.carry_out.ensures.untouched clean)

pub returns-then-self-clause-untouched : goal.returns-then-self-clause-untouched
returns-then-self-clause-untouched g c clean = inr (keeps_self _)

pub returns-then-not-has_right_limits-clause-untouched : goal.returns-then-not-has_right_limits-clause-untouched
returns-then-not-has_right_limits-clause-untouched g c clean = inr (keeps_self _)

pub returns-in-Ok-clause-idle : goal.returns-in-Ok-clause-idle
returns-in-Ok-clause-idle g c goes_on clean world shows nothing =
    let before : HasCleanDisk (state g.S.Store c.prepare.new.self.conn) = omega (arith, c.carry_out.ensures.session.clean) in
    let is_open : IsTrue (state g.S.Store c.args.self.now.conn).is_open = (c.prepare.ensures.reads.asks.back before).was_open (c.in-Ok.ensures.reads.opens tt before) in
    let planned = c.in-Ok.ensures.reads.found before world (shows.shows is_open).0 shows.is_project in
    let kept = keeps_as_before g.S.Store c.args.self.now.conn c.prepare.new.self.conn before c.prepare.ensures.reads.asks.crash (c.in-Ok.ensures.reads.asks.answered before) in
    idle_keeps g.S.Store c.args.self.now.conn c.prepare.new.self.conn c.carry_out.new.self.conn c.in-Ok.field-0.answer c.in-Ok.field-0.changes.items c.carry_out.result (planned.idle nothing)
    (λ empty. ap (λ h. state g.S.Store h) (c.carry_out.ensures.none (c.as_slice.ensures.value ∙ empty)).1) kept
