use Rattle.std.proofs.Common.{rules, ◌≡◌, ◌==◌, ◌∙◌, IsTrue, ap, arith, inr, length, refl, subst, sym, true}
use Rattle.std.proofs.lemmas.Bool.Decides.{nat_tests}
use Rattle.sqlite.specs.Held.{state}
use Rattle.wu_schema.proofs.CallLemmas.{leaves_only}
use Rattle.wu_passes.proofs.StandingLemmas.{changes_keep, ended_undone, from_cut, from_done, from_nothing, from_refused, goes_done, reply_is, step_is}
use Rattle.std.proofs.lemmas.List.{nil_from_length}
use Rattle.wu_passes.specs.Standing.{GoesOn}
use Rattle.wu_store.specs.Changing.{made_all}
use Rattle.wu_passes.proofs.project.Project.carry_out.Goals as goal

pub returns-in-Err-NotAProject-clause-untouched : goal.returns-in-Err-NotAProject-clause-untouched
returns-in-Err-NotAProject-clause-untouched g c clean =
    let refused = c.in-Err-NotAProject.ensures.refused clean c.in-Err-NotAProject.field-0-is in
    let was_open : IsTrue (state g.S.Store c.args.self.now.conn).is_open = (c.in-Err-NotAProject.ensures.undone clean).was_open refused.is_open in
    let settled = c.is_autocommit-is_idle.ensures.settled (search rules) was_open in
    inr (changes_keep (state g.S.Store c.args.self.now.conn) (state g.S.Store c.change_all.new.conn) (sym settled) (leaves_only g.S.Store g.met.S.Store.settled g.met.S.Store.stays c.args.self.now.conn was_open) refused)

pub returns-in-Err-clause-done : goal.returns-in-Err-clause-done
returns-in-Err-clause-done g c clean world request stands goes plans = (
  inr c.in-Err.ensures.told,
  ended_undone (state g.S.Store c.args.self.now.conn) (state g.S.Store c.change_all.new.conn) world request c.args.changes.now clean stands goes plans.right (step_is world request _ c.args.changes.now plans) (c.in-Err.ensures.undone clean) c.change_all.ensures.crash,
)

pub returns-in-Err-clause-from : goal.returns-in-Err-clause-from
returns-in-Err-clause-from g c clean world request stands shows plans =
    from_cut (state g.S.Store c.args.self.now.conn) (state g.S.Store c.change_all.new.conn) world request _ c.args.changes.now c.in-Err.fault clean stands shows plans c.in-Err.ensures.told (c.in-Err.ensures.undone clean) c.change_all.ensures.crash

-- nothing is to be made

pub returns-then-is_empty-clause-done : goal.returns-then-is_empty-clause-done
returns-then-is_empty-clause-done g c clean world request stands goes plans =
    let is : (length c.args.changes.now == 0) ≡ true = sym c.is_empty.ensures ∙ c.if-is_empty.true in
    let none = nil_from_length c.args.changes.now (grind (arith, nat_tests)) in (
      reply_is world request _ c.args.changes.now plans,
      c.requires,
      subst (λ w. GoesOn (state g.S.Store c.args.self.now.conn) w) (sym (step_is world request _ c.args.changes.now plans ∙ ap (λ cs. made_all cs world) none)) goes,
    )

pub returns-then-is_empty-clause-from : goal.returns-then-is_empty-clause-from
returns-then-is_empty-clause-from g c clean world request stands shows plans =
    let is : (length c.args.changes.now == 0) ≡ true = sym c.is_empty.ensures ∙ c.if-is_empty.true in
    from_nothing (state g.S.Store c.args.self.now.conn) (state g.S.Store c.args.self.now.conn) world request _ c.args.changes.now c.args.self.now.has_ended (nil_from_length c.args.changes.now (grind (arith, nat_tests))) refl plans

-- it is made

pub returns-in-Ok-clause-done : goal.returns-in-Ok-clause-done
returns-in-Ok-clause-done g c clean world request stands goes plans = (
  reply_is world request _ c.args.changes.now plans,
  c.requires,
  subst (λ w. GoesOn (state g.S.Store c.change_all.new.conn) w) (sym (step_is world request _ c.args.changes.now plans))
      (goes_done (state g.S.Store c.args.self.now.conn) (state g.S.Store c.change_all.new.conn) world c.args.changes.now stands plans.right (c.in-Ok.ensures.done clean)),
)

pub returns-in-Ok-clause-from : goal.returns-in-Ok-clause-from
returns-in-Ok-clause-from g c clean world request stands shows plans =
    from_done (state g.S.Store c.args.self.now.conn) (state g.S.Store c.change_all.new.conn) world request _ c.args.changes.now c.args.self.now.has_ended stands plans (c.in-Ok.ensures.done clean)

-- it is refused

pub returns-in-Err-NotAProject-clause-from : goal.returns-in-Err-NotAProject-clause-from
returns-in-Err-NotAProject-clause-from g c clean world request stands shows plans =
    let old = state g.S.Store c.args.self.now.conn in
    let new = state g.S.Store c.change_all.new.conn in
    let refused = c.in-Err-NotAProject.ensures.refused clean c.in-Err-NotAProject.field-0-is in
    let undone = c.in-Err-NotAProject.ensures.undone clean in
    let was_open : IsTrue old.is_open = undone.was_open refused.is_open in
    let settled = c.is_autocommit-is_idle.ensures.settled (search rules) was_open in
    rw c.requires (from_refused old new world request _ shows (inr (inr refl)) undone refused (changes_keep old new (sym settled) (leaves_only g.S.Store g.met.S.Store.settled g.met.S.Store.stays c.args.self.now.conn was_open) refused))
