use Rattle.wu_schema.proofs.Words.{[], Err, NotAProject, Ok, ap, arith, inl, refl, sym, ◌+◌, ◌^◌, ◌∙◌, ◌≡◌, ◌≤◌}
use Rattle.std.proofs.Common.{rules}
use Rattle.std.specs.Prelude.{option_copied}
use Rattle.wu_core.specs.declared.fault.Fault.TheVariants.{Memory}
use Rattle.wu_views.specs.Summaries.{CountsCredit, IsCreditCountable, granted_of}
use Rattle.wu_views.proofs.CountedAnswers.{credit_asked, credit_question}
use Rattle.wu_views.proofs.CountWalks.{credit_past, credit_unread, grants_at, grants_whole, none_summed, one_summed, walked_failed, walked_handed, walked_left, walked_refused}
use Rattle.wu_store.proofs.GivenLemmas.{refused_so}
use Rattle.wu_views.proofs.counts.count_grants.Goals as goal

pub returns-in-Err : goal.returns-in-Err
returns-in-Err g c =
    let old = c.args.conn.now in
    let new = c.query.follows.lender-at-none in
    let none = refused_so g.S.Store credit_asked.text credit_question.select [] old new c.query.result c.in-Err.error c.in-Err.is c.query.follows.holds-at-none in
    grants_at g.S.Store old new new (Err c.fault_of.result) refl (walked_refused g.S.Store granted_of IsCreditCountable CountsCredit credit_question old new c.in-Err.error c.fault_of.result c.fault_of.ensures none)

pub loop-init : goal.loop-init
loop-init g c =
    let made = c.in-Ok.ensures in
    record { same_reference = refl; summed = none_summed g.S.Store c.args.conn.now c.in-Ok.rows.conn.now made.mode made.survives made.begun }

pub returns-in-Err-advance : goal.returns-in-Err-advance
returns-in-Err-advance g c =
    let old = c.args.conn.now in
    let new = c.advance.new.self.conn.now in
    let moved = c.in-Err-advance.ensures in
    let has = c.loop.invariant.summed in
    grants_at g.S.Store old new _ (Err c.fault_of-in-Err-advance.result) (search rules)
    (walked_failed g.S.Store granted_of IsCreditCountable CountsCredit credit_question old c.loop.rows.conn.now has.given has.walk new moved.mode moved.survives c.in-Err-advance.error c.fault_of-in-Err-advance.result c.fault_of-in-Err-advance.ensures moved.err)

pub returns-in_default-get : goal.returns-in_default-get
returns-in_default-get g c =
    let old = c.args.conn.now in
    let new = c.advance.new.self.conn.now in
    let moved = c.in_default.ensures in
    grants_at g.S.Store old new _ (Ok (record { grants = c.loop.grants; credit = c.loop.credit })) (search rules)
    (grants_whole g.S.Store old c.loop.rows.conn.now c.loop.counter c.loop.grants c.loop.credit c.loop.invariant.summed new moved.mode moved.survives _ moved.ok moved.same (sym c.get.ensures ∙ ap option_copied c.in_default-get.is))

pub returns-in_err-granted : goal.returns-in_err-granted
returns-in_err-granted g c =
    let old = c.args.conn.now in
    let new = c.advance.new.self.conn.now in
    let moved = c.in_default.ensures in
    let fault = c.in_err-granted.field-0.0 in
    let r = c.from_residual.result in
    let left =
    credit_unread g.S.Store old c.loop.rows.conn.now c.loop.counter c.loop.grants c.loop.credit c.loop.invariant.summed new moved.mode moved.survives _ moved.ok moved.same c.in-Some.row.now (sym c.get.ensures ∙ ap option_copied c.in-Some.is) fault c.in_err-granted.ensures in
    grants_at g.S.Store old new _ r (search rules) (walked_handed g.S.Store granted_of IsCreditCountable CountsCredit old new fault r c.from_residual.ensures.1 left)

pub returns-in_default-checked_add : goal.returns-in_default-checked_add
returns-in_default-checked_add g c =
    let old = c.args.conn.now in
    let new = c.advance.new.self.conn.now in
    let moved = c.in_default.ensures in
    let past : 2 ^ 64 ≤ c.loop.credit + c.in_ok-granted.granted = omega (arith, c.in_default-checked_add.ensures) in
    grants_at g.S.Store old new _ (Err NotAProject) (search rules)
    (credit_past g.S.Store old c.loop.rows.conn.now c.loop.counter c.loop.grants c.loop.credit c.loop.invariant.summed new moved.mode moved.survives _ moved.ok moved.same c.in-Some.row.now (sym c.get.ensures ∙ ap option_copied c.in-Some.is) c.in_ok-granted.granted
    c.in_ok-granted.ensures.value.0 past)

pub loop-preserved : goal.loop-preserved
loop-preserved g c =
    let moved = c.in_default.ensures in
    let adds : c.in-Some-checked_add.sum ≡ c.loop.credit + c.in_ok-granted.granted = search rules in
    record {
      same_reference = moved.same_reference ∙ c.loop.invariant.same_reference;
      summed = one_summed g.S.Store c.args.conn.now c.loop.rows.conn.now c.loop.counter c.loop.grants c.loop.credit c.loop.invariant.summed c.advance.new.self.conn.now moved.mode moved.survives _ moved.ok moved.same c.in-Some.row.now (sym c.get.ensures ∙ ap option_copied c.in-Some.is)
          c.in_ok-granted.granted c.in_ok-granted.ensures.value.0 (c.loop.grants + 1) c.in-Some-checked_add.sum refl adds;
    }

pub returns : goal.returns
returns g c =
    let old = c.args.conn.now in
    let new = c.loop.rows.conn.now in
    let has = c.loop.invariant.summed in
    grants_at g.S.Store old new _ (Err Memory) (search rules) (walked_left g.S.Store granted_of IsCreditCountable CountsCredit credit_question old new has.given has.walk Memory (inl refl) (λ clean world stands can is. absurd cc))
