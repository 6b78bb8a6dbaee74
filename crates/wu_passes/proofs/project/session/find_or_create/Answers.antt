use Rattle.sqlite.specs.Held.{state}
use Rattle.std.proofs.Common.{Err, ap, refl}
use Rattle.wu_schema.proofs.AskingLemmas.{asks_refused, asks_unchanged}
use Rattle.wu_schema.proofs.CallLemmas.{leaves_only}
use Rattle.wu_passes.proofs.AdoptingLemmas.{bare_adopts, bare_knows, bare_limit, bare_new, bare_refused, bare_settled, found_knows, found_tells, fresh_adopts, fresh_knows, fresh_tells, known_adopts, later_refuses, unasked_refuses, unmade_refuses}
use Rattle.wu_passes.proofs.project.session.find_or_create.Goals as goal
use Rattle.wu_store.proofs.AskLemmas.{handed_is}

pub returns-clause-adopted : goal.returns-clause-adopted
returns-clause-adopted g c =
    let asked = state g.S.Store c.version_of.new.conn in
    let unlimited = bare_limit g.S.Store c.args.conn.now c.set_step_limit.new.self c.set_step_limit.ensures asked in
    let same = asks_unchanged g.S.Store c.set_step_limit.new.self c.version_of.new.conn c.in_ok-version.field-0 c.in_ok-version.ensures.asks c.in_ok-version.ensures.opens in
    bare_adopts g.S.Store c.args.conn.now c.set_step_limit.new.self c.set_step_limit.ensures asked
    (known_adopts (state g.S.Store c.set_step_limit.new.self) asked c.version_of.ensures.asks.crash unlimited c.in_ok-version.field-0 c.in-Some.version c.in-Some.is same c.in_ok-version.ensures.answers c.in_ok-check_version.ensures.known)

pub returns-clause-version : goal.returns-clause-version
returns-clause-version g c =
    let asked = state g.S.Store c.version_of.new.conn in
    let unlimited = bare_limit g.S.Store c.args.conn.now c.set_step_limit.new.self c.set_step_limit.ensures asked in
    let same = asks_unchanged g.S.Store c.set_step_limit.new.self c.version_of.new.conn c.in_ok-version.field-0 c.in_ok-version.ensures.asks c.in_ok-version.ensures.opens in
    bare_knows g.S.Store c.args.conn.now c.set_step_limit.new.self c.set_step_limit.ensures asked c.in-Some.version
    (found_knows (state g.S.Store c.set_step_limit.new.self) asked c.version_of.ensures.asks.crash unlimited c.in_ok-version.field-0 c.in-Some.version c.in-Some.is same c.in_ok-version.ensures.answers c.in_ok-check_version.ensures.known)

pub returns-clause-new : goal.returns-clause-new
returns-clause-new g c =
    let asked = state g.S.Store c.version_of.new.conn in
    let unlimited = bare_limit g.S.Store c.args.conn.now c.set_step_limit.new.self c.set_step_limit.ensures asked in
    let same = asks_unchanged g.S.Store c.set_step_limit.new.self c.version_of.new.conn c.in_ok-version.field-0 c.in_ok-version.ensures.asks c.in_ok-version.ensures.opens in
    bare_new g.S.Store c.args.conn.now c.set_step_limit.new.self c.set_step_limit.ensures asked _
    (found_tells (state g.S.Store c.set_step_limit.new.self) asked c.version_of.ensures.asks.crash unlimited c.in_ok-version.field-0 c.in-Some.version c.in-Some.is same c.in_ok-version.ensures.answers)

pub returns-in_err-check_version-clause-refused : goal.returns-in_err-check_version-clause-refused
returns-in_err-check_version-clause-refused g c =
    let asked = state g.S.Store c.version_of.new.conn in
    let unlimited = bare_limit g.S.Store c.args.conn.now c.set_step_limit.new.self c.set_step_limit.ensures asked in
    let same = asks_unchanged g.S.Store c.set_step_limit.new.self c.version_of.new.conn c.in_ok-version.field-0 c.in_ok-version.ensures.asks c.in_ok-version.ensures.opens in
    rw (handed_is c.from_residual-in_err-check_version.result c.in_err-check_version.field-0.0 c.from_residual-in_err-check_version.ensures.1)
    (bare_refused g.S.Store c.args.conn.now c.set_step_limit.new.self c.set_step_limit.ensures asked c.in_err-check_version.field-0.0
    (later_refuses (state g.S.Store c.set_step_limit.new.self) asked c.version_of.ensures.asks.crash unlimited c.in_ok-version.field-0 c.in-Some.version c.in-Some.is same c.in_ok-version.ensures.answers c.in_err-check_version.field-0.0 c.in_err-check_version.ensures.later))

pub returns-in_default-clause-adopted : goal.returns-in_default-clause-adopted
returns-in_default-clause-adopted g c =
    let asked = state g.S.Store c.version_of.new.conn in
    let unlimited = bare_limit g.S.Store c.args.conn.now c.set_step_limit.new.self c.set_step_limit.ensures asked in
    let same = asks_unchanged g.S.Store c.set_step_limit.new.self c.version_of.new.conn c.in_ok-version.field-0 c.in_ok-version.ensures.asks c.in_ok-version.ensures.opens in
    bare_adopts g.S.Store c.args.conn.now c.set_step_limit.new.self c.set_step_limit.ensures (state g.S.Store c.create.new.conn)
    (fresh_adopts (state g.S.Store c.set_step_limit.new.self) asked c.version_of.ensures.asks.crash unlimited (state g.S.Store c.create.new.conn) c.create.ensures.transacts.crash same (λ clean. (c.in_ok-version.ensures.answers clean).none c.in_default.is) c.in_ok-create.ensures.transacts.done)

pub returns-in_default-clause-version : goal.returns-in_default-clause-version
returns-in_default-clause-version g c =
    let asked = state g.S.Store c.version_of.new.conn in
    let unlimited = bare_limit g.S.Store c.args.conn.now c.set_step_limit.new.self c.set_step_limit.ensures asked in
    let same = asks_unchanged g.S.Store c.set_step_limit.new.self c.version_of.new.conn c.in_ok-version.field-0 c.in_ok-version.ensures.asks c.in_ok-version.ensures.opens in
    bare_knows g.S.Store c.args.conn.now c.set_step_limit.new.self c.set_step_limit.ensures (state g.S.Store c.create.new.conn) _
    (fresh_knows (state g.S.Store c.set_step_limit.new.self) asked c.version_of.ensures.asks.crash unlimited (state g.S.Store c.create.new.conn) c.create.ensures.transacts.crash same (λ clean. (c.in_ok-version.ensures.answers clean).none c.in_default.is))

pub returns-in_default-clause-new : goal.returns-in_default-clause-new
returns-in_default-clause-new g c =
    let asked = state g.S.Store c.version_of.new.conn in
    let unlimited = bare_limit g.S.Store c.args.conn.now c.set_step_limit.new.self c.set_step_limit.ensures asked in
    let same = asks_unchanged g.S.Store c.set_step_limit.new.self c.version_of.new.conn c.in_ok-version.field-0 c.in_ok-version.ensures.asks c.in_ok-version.ensures.opens in
    bare_new g.S.Store c.args.conn.now c.set_step_limit.new.self c.set_step_limit.ensures (state g.S.Store c.create.new.conn) _
    (fresh_tells (state g.S.Store c.set_step_limit.new.self) asked c.version_of.ensures.asks.crash unlimited (state g.S.Store c.create.new.conn) c.create.ensures.transacts.crash same (λ clean. (c.in_ok-version.ensures.answers clean).none c.in_default.is))

pub returns-in_err-create-clause-refused : goal.returns-in_err-create-clause-refused
returns-in_err-create-clause-refused g c =
    let asked = state g.S.Store c.version_of.new.conn in
    let unlimited = bare_limit g.S.Store c.args.conn.now c.set_step_limit.new.self c.set_step_limit.ensures asked in
    let same = asks_unchanged g.S.Store c.set_step_limit.new.self c.version_of.new.conn c.in_ok-version.field-0 c.in_ok-version.ensures.asks c.in_ok-version.ensures.opens in
    rw (handed_is c.from_residual-in_err-create.result c.in_err-create.field-0.0 c.from_residual-in_err-create.ensures.1)
    (bare_refused g.S.Store c.args.conn.now c.set_step_limit.new.self c.set_step_limit.ensures (state g.S.Store c.create.new.conn) c.in_err-create.field-0.0
    (unmade_refuses (state g.S.Store c.set_step_limit.new.self) asked c.version_of.ensures.asks.crash unlimited (state g.S.Store c.create.new.conn) c.create.ensures.transacts.crash same (λ clean. (c.in_ok-version.ensures.answers clean).none c.in_default.is)
    (bare_settled g.S.Store c.args.conn.now c.set_step_limit.new.self c.set_step_limit.ensures asked (c.if-not-is_autocommit.ensures.settled refl))
    (leaves_only g.S.Store g.met.S.Store.settled g.met.S.Store.stays c.version_of.new.conn)
    c.in_err-create.field-0.0 c.in_err-create.ensures.transacts.told c.in_err-create.ensures.transacts.undone c.in_err-create.ensures.transacts.refused c.in_err-create.ensures.breaks))

pub returns-in_err-version-clause-refused : goal.returns-in_err-version-clause-refused
returns-in_err-version-clause-refused g c =
    let unlimited = bare_limit g.S.Store c.args.conn.now c.set_step_limit.new.self c.set_step_limit.ensures (state g.S.Store c.version_of.new.conn) in
    rw (handed_is c.from_residual.result c.in_err-version.field-0.0 c.from_residual.ensures.1)
    (bare_refused g.S.Store c.args.conn.now c.set_step_limit.new.self c.set_step_limit.ensures _ c.in_err-version.field-0.0
    (unasked_refuses (state g.S.Store c.set_step_limit.new.self) (state g.S.Store c.version_of.new.conn) c.version_of.ensures.asks.crash unlimited
    c.in_err-version.field-0.0 c.in_err-version.ensures.told c.in_err-version.ensures.asks.back (asks_refused g.S.Store c.set_step_limit.new.self c.version_of.new.conn c.in_err-version.field-0.0 c.in_err-version.ensures.asks c.in_err-version.ensures.opens) (λ clean has version of. (c.in_err-version.ensures.refuses clean).of_row has version of unlimited)
    (λ clean is. c.in_err-version.ensures.asks.broken clean (ap Err is))))
