use Rattle.wu_schema.proofs.Words.{[], Err, Ok, ap, arith, inl, refl, sym, ◌∙◌, ⊤}
use Rattle.std.proofs.Common.{rules}
use Rattle.std.specs.Prelude.{option_copied}
use Rattle.wu_core.specs.declared.fault.Fault.TheVariants.{Memory}
use Rattle.wu_views.specs.Summaries.{CountsStates, results_of}
use Rattle.wu_views.proofs.CountedAnswers.{states_asked, states_question}
use Rattle.wu_views.proofs.CountWalks.{none_counted, one_counted, room, state_unread, states_at, states_whole, walked_failed, walked_handed, walked_left, walked_refused}
use Rattle.wu_store.proofs.GivenLemmas.{refused_so}
use Rattle.wu_views.proofs.counts.count_results.Goals as goal

pub returns-in-Err : goal.returns-in-Err
returns-in-Err g c =
    let old = c.args.conn.now in
    let new = c.query.follows.lender-at-none in
    let none = refused_so g.S.Store states_asked.text states_question.select [] old new c.query.result c.in-Err.error c.in-Err.is c.query.follows.holds-at-none in
    states_at g.S.Store old new new (Err c.fault_of.result) refl (walked_refused g.S.Store results_of (λ _. ⊤) CountsStates states_question old new c.in-Err.error c.fault_of.result c.fault_of.ensures none)

pub loop-init : goal.loop-init
loop-init g c =
    let made = c.in-Ok.ensures in
    record { same_reference = refl; counted = none_counted g.S.Store c.args.conn.now c.in-Ok.rows.conn.now made.mode made.survives made.begun }

pub returns-in-Err-advance : goal.returns-in-Err-advance
returns-in-Err-advance g c =
    let old = c.args.conn.now in
    let new = c.advance.new.self.conn.now in
    let moved = c.in-Err-advance.ensures in
    let has = c.loop.invariant.counted in
    states_at g.S.Store old new _ (Err c.fault_of-in-Err-advance.result) (search rules)
    (walked_failed g.S.Store results_of (λ _. ⊤) CountsStates states_question old c.loop.rows.conn.now has.given has.walk new moved.mode moved.survives c.in-Err-advance.error c.fault_of-in-Err-advance.result c.fault_of-in-Err-advance.ensures moved.err)

pub returns-in_default-get : goal.returns-in_default-get
returns-in_default-get g c =
    let old = c.args.conn.now in
    let new = c.advance.new.self.conn.now in
    let moved = c.in_default.ensures in
    states_at g.S.Store old new _ (Ok c.loop.found) (search rules)
    (states_whole g.S.Store old c.loop.rows.conn.now c.loop.counter c.loop.found c.loop.invariant.counted new moved.mode moved.survives _ moved.ok moved.same (sym c.get.ensures ∙ ap option_copied c.in_default-get.is))

pub returns-in_err-state : goal.returns-in_err-state
returns-in_err-state g c =
    let old = c.args.conn.now in
    let new = c.advance.new.self.conn.now in
    let moved = c.in_default.ensures in
    let fault = c.in_err-state.field-0.0 in
    let r = c.from_residual.result in
    let left =
    state_unread g.S.Store old c.loop.rows.conn.now c.loop.counter c.loop.found c.loop.invariant.counted new moved.mode moved.survives _ moved.ok moved.same c.in-Some.row.now (sym c.get.ensures ∙ ap option_copied c.in-Some.is) fault c.in_err-state.ensures in
    states_at g.S.Store old new _ r (search rules) (walked_handed g.S.Store results_of (λ _. ⊤) CountsStates old new fault r c.from_residual.ensures.1 left)

pub with_state-found-requires : goal.with_state-found-requires
with_state-found-requires g c = room g.S.Store c.args.conn.now c.loop.rows.conn.now c.loop.counter c.loop.found c.loop.invariant.counted (omega (arith, c.loop-test.true))

pub loop-preserved : goal.loop-preserved
loop-preserved g c =
    let moved = c.in_default.ensures in
    record {
      same_reference = moved.same_reference ∙ c.loop.invariant.same_reference;
      counted = one_counted g.S.Store c.args.conn.now c.loop.rows.conn.now c.loop.counter c.loop.found c.loop.invariant.counted c.advance.new.self.conn.now moved.mode moved.survives _ moved.ok moved.same c.in-Some.row.now (sym c.get.ensures ∙ ap option_copied c.in-Some.is)
          c.in_ok-state.state c.with_state-found.result c.in_ok-state.ensures.value.0 c.with_state-found.ensures;
    }

pub returns : goal.returns
returns g c =
    let old = c.args.conn.now in
    let new = c.loop.rows.conn.now in
    let has = c.loop.invariant.counted in
    states_at g.S.Store old new _ (Err Memory) (search rules) (walked_left g.S.Store results_of (λ _. ⊤) CountsStates states_question old new has.given has.walk Memory (inl refl) (λ clean world stands can is. absurd cc))
