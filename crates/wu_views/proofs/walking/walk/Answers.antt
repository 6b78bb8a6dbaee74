use Rattle.std.proofs.Common.{[], refl, rules, sym, ◌∙◌}
use Rattle.wu_schema.proofs.Words.{err_from_is_err_and}
use Rattle.sqlite.specs.Given.{row_if}
use Rattle.wu_store.proofs.GivenLemmas.{walk_begins}
use Rattle.wu_views.proofs.WalkLemmas.{begun, broken_off, done, endless, handed, never_begun, stopped, taken, unread}
use Rattle.wu_views.proofs.walking.walk.Goals as goal

pub returns-in-Err : goal.returns-in-Err
returns-in-Err g c =
    let old = c.args.conn.now in
    never_begun g.S.Store c.question.result.now g.L.Listing.is_row_of g.L.Listing.lines g.K.Takes.takes g.K.Takes.refuses old c.args.taker.now c.question.ensures g.L.Listing.is_readable c.query.follows.lender-at-none c.in-Err.error c.fault_of.result c.fault_of.ensures (rw c.in-Err.is at c.query.follows.holds-at-none)

pub rows-init : goal.rows-init
rows-init g c =
    let old = c.args.conn.now in
    let it = c.in-Ok.ensures in
    let text = c.question.result.now in
    let walk = walk_begins g.S.Store text c.question.ensures.select [] old c.in-Ok.rows.conn.now it.mode it.survives it.begun in
    (refl, text, c.question.ensures, begun g.S.Store text g.L.Listing.is_row_of g.L.Listing.lines g.K.Takes.takes g.K.Takes.refuses old c.args.taker.now c.question.ensures g.L.Listing.is_readable c.in-Ok.rows.conn.now walk)

pub returns-in-Err-advance : goal.returns-in-Err-advance
returns-in-Err-advance g c =
    let inv = c.rows.invariant in
    let moved = c.in-Err-advance.ensures in
    let it = broken_off g.S.Store inv.1 g.L.Listing.is_row_of g.L.Listing.lines g.K.Takes.takes g.K.Takes.refuses c.args.conn.now c.args.taker.now inv.2 g.L.Listing.is_readable c.rows.rows.conn.now c.rows.taker inv.3 c.advance.new.self.conn.now moved.mode moved.survives c.in-Err-advance.error c.fault_of-in-Err-advance.result c.fault_of-in-Err-advance.ensures moved.err in
    search (rules, it)

pub returns-in_default-get : goal.returns-in_default-get
returns-in_default-get g c =
    let inv = c.rows.invariant in
    let moved = c.in_default.ensures in
    let now = c.advance.new.self in
    let it = done g.S.Store inv.1 g.L.Listing.is_row_of g.L.Listing.lines g.K.Takes.takes g.K.Takes.refuses c.args.conn.now c.args.taker.now inv.2 g.L.Listing.is_readable c.rows.rows.conn.now c.rows.taker inv.3 now.conn.now moved.mode moved.survives (row_if now.has_row now.conn.now) moved.ok moved.same (sym c.in_default-get.ensures) in
    search (rules, it)

pub returns-in_err-line : goal.returns-in_err-line
returns-in_err-line g c =
    let inv = c.rows.invariant in
    let moved = c.in_default.ensures in
    let now = c.advance.new.self in
    let w = handed g.S.Store inv.1 g.L.Listing.is_row_of g.L.Listing.lines g.K.Takes.takes g.K.Takes.refuses c.args.conn.now c.args.taker.now inv.2 g.L.Listing.is_readable c.rows.rows.conn.now c.rows.taker inv.3 now.conn.now moved.mode moved.survives (row_if now.has_row now.conn.now) moved.ok moved.same c.in-Some.row.now (sym c.in-Some.ensures) in
    let it = unread g.S.Store inv.1 g.L.Listing.is_row_of g.L.Listing.lines g.K.Takes.takes g.K.Takes.refuses c.args.conn.now c.args.taker.now inv.2 g.L.Listing.is_readable now.conn.now c.rows.taker c.in-Some.row.now w c.in_err-line.field-0.0 c.in_err-line.ensures.fault c.in_err-line.ensures.unrefused in
    let p = err_from_is_err_and c.from_residual.result c.from_residual.ensures.1 in rw (p.1, p.2) (search (rules, it))

pub returns-in_err-take : goal.returns-in_err-take
returns-in_err-take g c =
    let inv = c.rows.invariant in
    let moved = c.in_default.ensures in
    let now = c.advance.new.self in
    let w = handed g.S.Store inv.1 g.L.Listing.is_row_of g.L.Listing.lines g.K.Takes.takes g.K.Takes.refuses c.args.conn.now c.args.taker.now inv.2 g.L.Listing.is_readable c.rows.rows.conn.now c.rows.taker inv.3 now.conn.now moved.mode moved.survives (row_if now.has_row now.conn.now) moved.ok moved.same c.in-Some.row.now (sym c.in-Some.ensures) in
    let it = stopped g.S.Store inv.1 g.L.Listing.is_row_of g.L.Listing.lines g.K.Takes.takes g.K.Takes.refuses c.args.conn.now c.args.taker.now inv.2 g.L.Listing.is_readable now.conn.now c.rows.taker c.in-Some.row.now w c.in_ok-line.line c.in_ok-line.ensures.line c.take.new.self c.in_err-take.ensures.taken in
    let p = err_from_is_err_and c.from_residual-in_err-take.result c.from_residual-in_err-take.ensures.1 in rw (p.1, p.2, c.in_err-take.ensures.fault) (search (rules, it))

pub rows-preserved : goal.rows-preserved
rows-preserved g c =
    let inv = c.rows.invariant in
    let moved = c.in_default.ensures in
    let now = c.advance.new.self in
    let w = handed g.S.Store inv.1 g.L.Listing.is_row_of g.L.Listing.lines g.K.Takes.takes g.K.Takes.refuses c.args.conn.now c.args.taker.now inv.2 g.L.Listing.is_readable c.rows.rows.conn.now c.rows.taker inv.3 now.conn.now moved.mode moved.survives (row_if now.has_row now.conn.now) moved.ok moved.same c.in-Some.row.now (sym c.in-Some.ensures) in
    let next = taken g.S.Store inv.1 g.L.Listing.is_row_of g.L.Listing.lines g.K.Takes.takes g.K.Takes.refuses c.args.conn.now c.args.taker.now inv.2 g.L.Listing.is_readable now.conn.now c.rows.taker c.in-Some.row.now w c.in_ok-line.line c.in_ok-line.ensures.line c.take.new.self c.in_ok-take.ensures.taken in
    (moved.same_reference ∙ inv.0, inv.1, inv.2, next)

pub returns : goal.returns
returns g c =
    let inv = c.rows.invariant in
    let it = endless g.S.Store inv.1 g.L.Listing.is_row_of g.L.Listing.lines g.K.Takes.takes g.K.Takes.refuses c.args.conn.now c.args.taker.now inv.2 g.L.Listing.is_readable c.rows.rows.conn.now c.rows.taker inv.3 in
    search (rules, it)
