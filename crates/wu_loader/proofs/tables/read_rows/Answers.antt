use Rattle.wu_schema.proofs.Words.{[], refl, subst, sym, ap, ◌∙◌, ◌++◌, ◌∷◌}
use Rattle.std.proofs.Common.{Err, Ok, rules}
use Rattle.std.specs.Prelude.{OnErr, option_copied}
use Rattle.sqlite.specs.Given.{IsRefused}
use Rattle.wu_core.specs.declared.fault.Fault.TheVariants.{Memory}
use Rattle.wu_store.proofs.GivenLemmas.{IsWalked, refused_so, walk_on}
use Rattle.wu_loader.specs.Questions.{question}
use Rattle.wu_loader.proofs.LookLemmas.{looks_fault}
use Rattle.wu_loader.proofs.QuestionLemmas.{looks_ended, looks_failed, looks_here, looks_left, looks_refused, selects_table, walk_begun}
use Rattle.wu_loader.proofs.tables.read_rows.Goals as goal

pub returns-in-Err : goal.returns-in-Err
returns-in-Err g c version there =
    let old = c.args.conn.now in
    let new = c.query.follows.lender-at-none in
    let asked = subst (λ text. OnErr c.query.result (IsRefused g.S.Store text [] old c.query.result new)) c.question.ensures c.query.follows.holds-at-none in
    looks_refused g.S.Store c.args.table old new c.in-Err.error c.fault_of.result c.fault_of.ensures
    (refused_so g.S.Store (question c.args.table) (selects_table c.args.table) [] old new c.query.result c.in-Err.error c.in-Err.is asked) version there

pub rows-init : goal.rows-init
rows-init g c =
    let made = c.in-Ok.ensures in
    record { same_reference = refl; walked = walk_begun g.S.Store c.args.table c.args.conn.now c.question.result.now c.question.ensures c.in-Ok.rows.conn.now _ c.new-read.ensures made.mode made.survives made.begun }

pub returns-in-Err-advance : goal.returns-in-Err-advance
returns-in-Err-advance g c version there =
    let moved = c.in-Err-advance.ensures in
    looks_here g.S.Store c.args.table c.args.conn.now version c.advance.new.self.conn.now _ (Err c.fault_of-in-Err-advance.result) (search rules)
    (looks_failed g.S.Store c.args.table c.args.conn.now c.rows.rows.conn.now c.rows.read c.rows.invariant.walked c.advance.new.self.conn.now moved.mode moved.survives c.in-Err-advance.error c.fault_of-in-Err-advance.result c.fault_of-in-Err-advance.ensures moved.err version there)

pub returns-in_default-get : goal.returns-in_default-get
returns-in_default-get g c version there =
    let moved = c.in_default.ensures in
    looks_here g.S.Store c.args.table c.args.conn.now version c.advance.new.self.conn.now _ (Ok c.rows.read) (search rules)
    (looks_ended g.S.Store c.args.table c.args.conn.now c.rows.rows.conn.now c.rows.read c.rows.invariant.walked c.advance.new.self.conn.now moved.mode moved.survives _ moved.ok moved.same (sym c.get.ensures ∙ ap option_copied c.in_default-get.is) version there)

pub returns-in_err-push : goal.returns-in_err-push
returns-in_err-push g c version there =
    let moved = c.in_default.ensures in
    let walk = walk_on g.S.Store (question c.args.table) (selects_table c.args.table) [] c.args.conn.now c.rows.rows.conn.now c.rows.read c.rows.invariant.walked c.advance.new.self.conn.now moved.mode moved.survives _ moved.ok moved.same c.in-Some.row.now (sym c.get.ensures ∙ ap option_copied c.in-Some.is) in
    looks_here g.S.Store c.args.table c.args.conn.now version c.advance.new.self.conn.now _ c.from_residual.result (search rules)
    (looks_fault version g.S.Store c.args.conn.now c.advance.new.self.conn.now Memory _ _ (looks_left g.S.Store c.args.table c.args.conn.now c.advance.new.self.conn.now (c.rows.read ++ c.in-Some.row.now ∷ []) walk version) c.from_residual.result c.from_residual.ensures.1)

pub rows-preserved : goal.rows-preserved
rows-preserved g c =
    let moved = c.in_default.ensures in
    record {
      same_reference = moved.same_reference ∙ c.rows.invariant.same_reference;
      walked = subst (IsWalked g.S.Store (question c.args.table) [] c.args.conn.now c.advance.new.self.conn.now) (sym c.in_ok-push.ensures)
          (walk_on g.S.Store (question c.args.table) (selects_table c.args.table) [] c.args.conn.now c.rows.rows.conn.now c.rows.read c.rows.invariant.walked c.advance.new.self.conn.now moved.mode moved.survives _ moved.ok moved.same c.in-Some.row.now (sym c.get.ensures ∙ ap option_copied c.in-Some.is));
    }

pub returns : goal.returns
returns g c version there =
    looks_here g.S.Store c.args.table c.args.conn.now version c.rows.rows.conn.now _ (Err Memory) (search rules)
    (looks_left g.S.Store c.args.table c.args.conn.now c.rows.rows.conn.now c.rows.read c.rows.invariant.walked version)
