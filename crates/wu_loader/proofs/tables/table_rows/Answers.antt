use Rattle.wu_schema.proofs.Words.{arith}
use Rattle.wu_schema.specs.Tables.{IsClassedVersion}
use Rattle.wu_loader.proofs.LookLemmas.{looked, looks_ended, looks_fault, looks_made, looks_next}
use Rattle.wu_loader.proofs.tables.table_rows.Goals as goal

pub returns-in_err-plain : goal.returns-in_err-plain
returns-in_err-plain g c =
    looks_fault c.args.version g.S.Store c.args.conn.now c.plain_rows.new.conn c.in_err-plain.field-0.0 _ _ (c.in_err-plain.ensures c.args.version) c.from_residual.result c.from_residual.ensures.1

pub returns-then-version-lt-CLASS_VERSION : goal.returns-then-version-lt-CLASS_VERSION
returns-then-version-lt-CLASS_VERSION g c =
    let older : ¬ IsClassedVersion c.args.version = λ known. absurd (omega (arith, known, c.if-version-lt-CLASS_VERSION.true)) in
    looks_made c.args.version g.S.Store c.args.conn.now c.plain_rows.new.conn _ _ _ (λ db trees all. record { plain = all; classes = older }) (looked c.args.version g.S.Store c.args.conn.now c.plain_rows.new.conn c.in_ok-plain.plain _ (c.in_ok-plain.ensures c.args.version))

pub returns-in_err-classes : goal.returns-in_err-classes
returns-in_err-classes g c =
    let known : IsClassedVersion c.args.version = omega (arith, c.if-version-lt-CLASS_VERSION.false) in
    looks_ended c.args.version g.S.Store c.args.conn.now c.plain_rows.new.conn c.class_rows.new.conn _ (looked c.args.version g.S.Store c.args.conn.now c.plain_rows.new.conn c.in_ok-plain.plain _ (c.in_ok-plain.ensures c.args.version)) c.in_err-classes.field-0.0 _ _ (c.in_err-classes.ensures c.args.version known) c.from_residual-in_err-classes.result c.from_residual-in_err-classes.ensures.1

pub returns : goal.returns
returns g c =
    let known : IsClassedVersion c.args.version = omega (arith, c.if-version-lt-CLASS_VERSION.false) in
    looks_made c.args.version g.S.Store c.args.conn.now c.class_rows.new.conn _ _ _ (λ db trees all. record { plain = all.0; classes = (known, all.1) }) (looks_next c.args.version g.S.Store c.args.conn.now c.plain_rows.new.conn c.class_rows.new.conn _ (looked c.args.version g.S.Store c.args.conn.now c.plain_rows.new.conn c.in_ok-plain.plain _ (c.in_ok-plain.ensures c.args.version)) c.in_ok-classes.classes _ (c.in_ok-classes.ensures c.args.version known))
