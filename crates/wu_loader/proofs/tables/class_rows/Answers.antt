use Rattle.wu_loader.proofs.LookLemmas.{looked, looks_ended, looks_fault, looks_made, looks_next}
use Rattle.wu_loader.proofs.tables.class_rows.Goals as goal

pub returns-in_err-read_rows : goal.returns-in_err-read_rows
returns-in_err-read_rows g c version known =
    looks_fault version g.S.Store c.args.conn.now c.read_rows.new.conn c.in_err-read_rows.field-0.0 _ _ (c.in_err-read_rows.ensures version known) c.from_residual.result c.from_residual.ensures.1

pub returns-in_err-read_rows-2 : goal.returns-in_err-read_rows-2
returns-in_err-read_rows-2 g c version known =
    looks_ended version g.S.Store c.args.conn.now c.read_rows.new.conn c.read_rows-2.new.conn _ (looked version g.S.Store c.args.conn.now c.read_rows.new.conn c.in_ok-read_rows.field-0 _ (c.in_ok-read_rows.ensures version known)) c.in_err-read_rows-2.field-0.0 _ _ (c.in_err-read_rows-2.ensures version known) c.from_residual-in_err-read_rows-2.result c.from_residual-in_err-read_rows-2.ensures.1

pub returns : goal.returns
returns g c version known =
    looks_made version g.S.Store c.args.conn.now c.read_rows-2.new.conn _ _ _ (λ db trees all. record { hosts = all.0; workunits = all.1 }) (looks_next version g.S.Store c.args.conn.now c.read_rows.new.conn c.read_rows-2.new.conn _ (looked version g.S.Store c.args.conn.now c.read_rows.new.conn c.in_ok-read_rows.field-0 _ (c.in_ok-read_rows.ensures version known)) c.in_ok-read_rows-2.field-0 _ (c.in_ok-read_rows-2.ensures version known))
