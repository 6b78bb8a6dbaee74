use Rattle.wu_schema.proofs.Words.{Err, List, None, Ok, Option, Row, Some, [], ap, arith, length, map, refl, subst, sym, take, ◌++◌, ◌+◌, ◌<◌, ◌≤◌, ◌∙◌, ◌∷◌, ◌≡◌, ◌≢◌, ℕ}
use Rattle.std.proofs.Common.{get_or, rules}
use Rattle.std.proofs.lemmas.List.{take_all}
use Rattle.std.specs.Prelude.{OnErr, option_copied}
use Rattle.sqlite.specs.Given.{IsRefused}
use Rattle.wu_core.specs.declared.workunit.Workunit.{Workunit}
use Rattle.wu_store.proofs.GivenLemmas.{IsWalked, refused_so, walk_begins, walk_on}
use Rattle.wu_check.specs.Queues.{ComparesTo, marked_row}
use Rattle.wu_check.proofs.QueueLemmas.{looks_ended, looks_failed, looks_here, looks_left, looks_refused, marks_more, missing_at, more_at, other_at, queue_asked, selects_queue}
use Rattle.wu_check.proofs.marks.wrong_marks.Goals as goal

pub returns-in-Err : goal.returns-in-Err
returns-in-Err g c =
    let old = c.args.conn.now in
    let new = c.query.follows.lender-at-none in
    looks_refused g.S.Store old c.args.loaded.now new c.in-Err.error c.fault_of.result c.fault_of.ensures
    (refused_so g.S.Store queue_asked.text selects_queue [] old new c.query.result c.in-Err.error c.in-Err.is c.query.follows.holds-at-none)

pub rows-init : goal.rows-init
rows-init g c =
    let made = c.in-Ok.ensures in
    record { same_reference = refl; walked = walk_begins g.S.Store queue_asked.text selects_queue [] c.args.conn.now c.in-Ok.rows.conn.now made.mode made.survives made.begun }

-- a row is not read
pub returns-in-Err-advance : goal.returns-in-Err-advance
returns-in-Err-advance g c =
    let moved = c.in-Err-advance.ensures in
    looks_here g.S.Store c.args.conn.now c.args.loaded.now c.advance.new.self.conn.now _ (Err c.fault_of-in-Err-advance.result) (search rules)
    (looks_failed g.S.Store c.args.conn.now c.args.loaded.now c.rows.rows.conn.now _ c.rows.invariant.walked c.advance.new.self.conn.now moved.mode moved.survives c.in-Err-advance.error c.fault_of-in-Err-advance.result c.fault_of-in-Err-advance.ensures moved.err)

-- the row of a workunit is missing
pub returns-in_default-get : goal.returns-in_default-get
returns-in_default-get g c =
    let moved = c.in_default.ensures in
    let ws = c.workunits-workunits.result.now in
    let i = c.rows.place in
    let w = c.index-workunits-place.result in
    let compared = subst (λ (vs : List Workunit). ComparesTo (map marked_row vs) (map marked_row (take i ws)) (Some (i + 1))) c.workunits-workunits.ensures (missing_at ws i w c.rows-test.true c.index-workunits-place.is) in
    looks_here g.S.Store c.args.conn.now c.args.loaded.now c.advance.new.self.conn.now _ (Ok (Some (i + 1))) (search rules)
    (looks_ended g.S.Store c.args.conn.now c.args.loaded.now c.rows.rows.conn.now _ c.rows.invariant.walked c.advance.new.self.conn.now moved.mode moved.survives _ moved.ok moved.same (sym c.get.ensures ∙ ap option_copied c.in_default-get.is) (Some (i + 1)) compared)

-- another row is in its place
pub returns-then-not-has_marks : goal.returns-then-not-has_marks
returns-then-not-has_marks g c =
    let moved = c.in_default.ensures in
    let ws = c.workunits-workunits.result.now in
    let i = c.rows.place in
    let w = c.index-workunits-place.result in
    let row = c.in-Some.row.now in
    let other : row ≢ marked_row w = λ is. let yes = c.has_marks.ensures.1 is in let no = c.if-not-has_marks.true in absurd cc in
    let walk = walk_on g.S.Store queue_asked.text selects_queue [] c.args.conn.now c.rows.rows.conn.now _ c.rows.invariant.walked c.advance.new.self.conn.now moved.mode moved.survives _ moved.ok moved.same row (sym c.get.ensures ∙ ap option_copied c.in-Some.is) in
    looks_here g.S.Store c.args.conn.now c.args.loaded.now c.advance.new.self.conn.now _ (Ok (Some (i + 1))) (search rules)
    (looks_left g.S.Store c.args.conn.now c.args.loaded.now c.advance.new.self.conn.now (map marked_row (take i ws) ++ row ∷ []) walk (Some (i + 1)) (λ tail.
    subst (λ (vs : List Workunit). ComparesTo (map marked_row vs) ((map marked_row (take i ws) ++ row ∷ []) ++ tail) (Some (i + 1))) c.workunits-workunits.ensures (other_at ws i w c.rows-test.true c.index-workunits-place.is row other tail)))

pub rows-preserved : goal.rows-preserved
rows-preserved g c =
    let moved = c.in_default.ensures in
    let ws = c.workunits-workunits.result.now in
    let i = c.rows.place in
    let w = c.index-workunits-place.result in
    let row = c.in-Some.row.now in
    let is : row ≡ marked_row w = c.has_marks.ensures.0 (search rules) in
    record {
      same_reference = moved.same_reference ∙ c.rows.invariant.same_reference;
      walked = subst (IsWalked g.S.Store queue_asked.text [] c.args.conn.now c.advance.new.self.conn.now) (marks_more ws i w c.rows-test.true c.index-workunits-place.is row is)
          (walk_on g.S.Store queue_asked.text selects_queue [] c.args.conn.now c.rows.rows.conn.now _ c.rows.invariant.walked c.advance.new.self.conn.now moved.mode moved.survives _ moved.ok moved.same row (sym c.get.ensures ∙ ap option_copied c.in-Some.is));
    }

pub returns-in-Err-advance-2 : goal.returns-in-Err-advance-2
returns-in-Err-advance-2 g c =
    let moved = c.in-Err-advance-2.ensures in
    looks_here g.S.Store c.args.conn.now c.args.loaded.now c.advance-2.new.self.conn.now _ (Err c.fault_of-in-Err-advance-2.result) (search rules)
    (looks_failed g.S.Store c.args.conn.now c.args.loaded.now c.rows.rows.conn.now _ c.rows.invariant.walked c.advance-2.new.self.conn.now moved.mode moved.survives c.in-Err-advance-2.error c.fault_of-in-Err-advance-2.result c.fault_of-in-Err-advance-2.ensures moved.err)

-- a row comes after the last workunit
pub returns-in-Some-get : goal.returns-in-Some-get
returns-in-Some-get g c =
    let moved = c.in_default-advance.ensures in
    let ws = c.workunits-workunits.result.now in
    let i = c.rows.place in
    let row = c.in-Some-get.field-0.now in
    let at_end : i ≡ length ws = omega (arith, c.rows-test.false, c.rows.auto.place-end) in
    let walk = walk_on g.S.Store queue_asked.text selects_queue [] c.args.conn.now c.rows.rows.conn.now _ c.rows.invariant.walked c.advance-2.new.self.conn.now moved.mode moved.survives _ moved.ok moved.same row (sym c.get-2.ensures ∙ ap option_copied c.in-Some-get.is) in
    looks_here g.S.Store c.args.conn.now c.args.loaded.now c.advance-2.new.self.conn.now _ (Ok (Some (length ws + 1))) (search rules)
    (looks_left g.S.Store c.args.conn.now c.args.loaded.now c.advance-2.new.self.conn.now (map marked_row (take i ws) ++ row ∷ []) walk (Some (length ws + 1)) (λ tail.
    subst (λ (vs : List Workunit). ComparesTo (map marked_row vs) ((map marked_row (take i ws) ++ row ∷ []) ++ tail) (Some (length ws + 1))) c.workunits-workunits.ensures (more_at ws i at_end row tail)))

-- the rows are the marks of all workunits
pub returns : goal.returns
returns g c =
    let moved = c.in_default-advance.ensures in
    let ws = c.workunits-workunits.result.now in
    let i = c.rows.place in
    let whole : map marked_row (take i ws) ≡ map marked_row ws = ap (map marked_row) (take_all i ws (omega (arith, c.rows-test.false))) in
    looks_here g.S.Store c.args.conn.now c.args.loaded.now c.advance-2.new.self.conn.now _ (Ok None) (search rules)
    (looks_ended g.S.Store c.args.conn.now c.args.loaded.now c.rows.rows.conn.now _ c.rows.invariant.walked c.advance-2.new.self.conn.now moved.mode moved.survives _ moved.ok moved.same (sym c.get-2.ensures ∙ ap option_copied c.in-None.is) None (whole ∙ ap (map marked_row) c.workunits-workunits.ensures))
