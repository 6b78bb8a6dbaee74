use Rattle.wu_loader.proofs.LookLemmas.{looked, looks_ended, looks_fault, looks_made, looks_next}
use Rattle.wu_loader.proofs.tables.plain_rows.Goals as goal

pub returns-in_err-rows_of : goal.returns-in_err-rows_of
returns-in_err-rows_of g c version =
    looks_fault version g.S.Store c.args.conn.now c.rows_of.new.conn c.in_err-rows_of.field-0.0 _ _ (c.in_err-rows_of.ensures version tt) c.from_residual.result c.from_residual.ensures.1

pub returns-in_err-read_rows : goal.returns-in_err-read_rows
returns-in_err-read_rows g c version =
    looks_ended version g.S.Store c.args.conn.now c.rows_of.new.conn c.read_rows.new.conn _ (looked version g.S.Store c.args.conn.now c.rows_of.new.conn c.in_ok-rows_of.field-0 _ (c.in_ok-rows_of.ensures version tt)) c.in_err-read_rows.field-0.0 _ _ (c.in_err-read_rows.ensures version tt) c.from_residual-in_err-read_rows.result c.from_residual-in_err-read_rows.ensures.1

pub returns-in_err-read_rows-2 : goal.returns-in_err-read_rows-2
returns-in_err-read_rows-2 g c version =
    looks_ended version g.S.Store c.args.conn.now c.read_rows.new.conn c.read_rows-2.new.conn _ (looks_next version g.S.Store c.args.conn.now c.rows_of.new.conn c.read_rows.new.conn _ (looked version g.S.Store c.args.conn.now c.rows_of.new.conn c.in_ok-rows_of.field-0 _ (c.in_ok-rows_of.ensures version tt)) c.in_ok-read_rows.field-0 _ (c.in_ok-read_rows.ensures version tt)) c.in_err-read_rows-2.field-0.0 _ _ (c.in_err-read_rows-2.ensures version tt) c.from_residual-in_err-read_rows-2.result c.from_residual-in_err-read_rows-2.ensures.1

pub returns-in_err-read_rows-3 : goal.returns-in_err-read_rows-3
returns-in_err-read_rows-3 g c version =
    looks_ended version g.S.Store c.args.conn.now c.read_rows-2.new.conn c.read_rows-3.new.conn _ (looks_next version g.S.Store c.args.conn.now c.read_rows.new.conn c.read_rows-2.new.conn _ (looks_next version g.S.Store c.args.conn.now c.rows_of.new.conn c.read_rows.new.conn _ (looked version g.S.Store c.args.conn.now c.rows_of.new.conn c.in_ok-rows_of.field-0 _ (c.in_ok-rows_of.ensures version tt)) c.in_ok-read_rows.field-0 _ (c.in_ok-read_rows.ensures version tt)) c.in_ok-read_rows-2.field-0 _ (c.in_ok-read_rows-2.ensures version tt)) c.in_err-read_rows-3.field-0.0 _ _ (c.in_err-read_rows-3.ensures version tt) c.from_residual-in_err-read_rows-3.result c.from_residual-in_err-read_rows-3.ensures.1

pub returns-in_err-read_rows-4 : goal.returns-in_err-read_rows-4
returns-in_err-read_rows-4 g c version =
    looks_ended version g.S.Store c.args.conn.now c.read_rows-3.new.conn c.read_rows-4.new.conn _ (looks_next version g.S.Store c.args.conn.now c.read_rows-2.new.conn c.read_rows-3.new.conn _ (looks_next version g.S.Store c.args.conn.now c.read_rows.new.conn c.read_rows-2.new.conn _ (looks_next version g.S.Store c.args.conn.now c.rows_of.new.conn c.read_rows.new.conn _ (looked version g.S.Store c.args.conn.now c.rows_of.new.conn c.in_ok-rows_of.field-0 _ (c.in_ok-rows_of.ensures version tt)) c.in_ok-read_rows.field-0 _ (c.in_ok-read_rows.ensures version tt)) c.in_ok-read_rows-2.field-0 _ (c.in_ok-read_rows-2.ensures version tt)) c.in_ok-read_rows-3.field-0 _ (c.in_ok-read_rows-3.ensures version tt)) c.in_err-read_rows-4.field-0.0 _ _ (c.in_err-read_rows-4.ensures version tt) c.from_residual-in_err-read_rows-4.result c.from_residual-in_err-read_rows-4.ensures.1

pub returns-in_err-read_rows-5 : goal.returns-in_err-read_rows-5
returns-in_err-read_rows-5 g c version =
    looks_ended version g.S.Store c.args.conn.now c.read_rows-4.new.conn c.read_rows-5.new.conn _ (looks_next version g.S.Store c.args.conn.now c.read_rows-3.new.conn c.read_rows-4.new.conn _ (looks_next version g.S.Store c.args.conn.now c.read_rows-2.new.conn c.read_rows-3.new.conn _ (looks_next version g.S.Store c.args.conn.now c.read_rows.new.conn c.read_rows-2.new.conn _ (looks_next version g.S.Store c.args.conn.now c.rows_of.new.conn c.read_rows.new.conn _ (looked version g.S.Store c.args.conn.now c.rows_of.new.conn c.in_ok-rows_of.field-0 _ (c.in_ok-rows_of.ensures version tt)) c.in_ok-read_rows.field-0 _ (c.in_ok-read_rows.ensures version tt)) c.in_ok-read_rows-2.field-0 _ (c.in_ok-read_rows-2.ensures version tt)) c.in_ok-read_rows-3.field-0 _ (c.in_ok-read_rows-3.ensures version tt)) c.in_ok-read_rows-4.field-0 _ (c.in_ok-read_rows-4.ensures version tt)) c.in_err-read_rows-5.field-0.0 _ _ (c.in_err-read_rows-5.ensures version tt) c.from_residual-in_err-read_rows-5.result c.from_residual-in_err-read_rows-5.ensures.1

pub returns-in_err-read_rows-6 : goal.returns-in_err-read_rows-6
returns-in_err-read_rows-6 g c version =
    looks_ended version g.S.Store c.args.conn.now c.read_rows-5.new.conn c.read_rows-6.new.conn _ (looks_next version g.S.Store c.args.conn.now c.read_rows-4.new.conn c.read_rows-5.new.conn _ (looks_next version g.S.Store c.args.conn.now c.read_rows-3.new.conn c.read_rows-4.new.conn _ (looks_next version g.S.Store c.args.conn.now c.read_rows-2.new.conn c.read_rows-3.new.conn _ (looks_next version g.S.Store c.args.conn.now c.read_rows.new.conn c.read_rows-2.new.conn _ (looks_next version g.S.Store c.args.conn.now c.rows_of.new.conn c.read_rows.new.conn _ (looked version g.S.Store c.args.conn.now c.rows_of.new.conn c.in_ok-rows_of.field-0 _ (c.in_ok-rows_of.ensures version tt)) c.in_ok-read_rows.field-0 _ (c.in_ok-read_rows.ensures version tt)) c.in_ok-read_rows-2.field-0 _ (c.in_ok-read_rows-2.ensures version tt)) c.in_ok-read_rows-3.field-0 _ (c.in_ok-read_rows-3.ensures version tt)) c.in_ok-read_rows-4.field-0 _ (c.in_ok-read_rows-4.ensures version tt)) c.in_ok-read_rows-5.field-0 _ (c.in_ok-read_rows-5.ensures version tt)) c.in_err-read_rows-6.field-0.0 _ _ (c.in_err-read_rows-6.ensures version tt) c.from_residual-in_err-read_rows-6.result c.from_residual-in_err-read_rows-6.ensures.1

pub returns : goal.returns
returns g c version =
    looks_made version g.S.Store c.args.conn.now c.read_rows-6.new.conn _ _ _ (λ db trees all. record { project = all.0.0.0.0.0.0; workunits = all.0.0.0.0.0.1; instances = all.0.0.0.0.1; grants = all.0.0.0.1; hosts = all.0.0.1; archived = all.0.1; imports = all.1 }) (looks_next version g.S.Store c.args.conn.now c.read_rows-5.new.conn c.read_rows-6.new.conn _ (looks_next version g.S.Store c.args.conn.now c.read_rows-4.new.conn c.read_rows-5.new.conn _ (looks_next version g.S.Store c.args.conn.now c.read_rows-3.new.conn c.read_rows-4.new.conn _ (looks_next version g.S.Store c.args.conn.now c.read_rows-2.new.conn c.read_rows-3.new.conn _ (looks_next version g.S.Store c.args.conn.now c.read_rows.new.conn c.read_rows-2.new.conn _ (looks_next version g.S.Store c.args.conn.now c.rows_of.new.conn c.read_rows.new.conn _ (looked version g.S.Store c.args.conn.now c.rows_of.new.conn c.in_ok-rows_of.field-0 _ (c.in_ok-rows_of.ensures version tt)) c.in_ok-read_rows.field-0 _ (c.in_ok-read_rows.ensures version tt)) c.in_ok-read_rows-2.field-0 _ (c.in_ok-read_rows-2.ensures version tt)) c.in_ok-read_rows-3.field-0 _ (c.in_ok-read_rows-3.ensures version tt)) c.in_ok-read_rows-4.field-0 _ (c.in_ok-read_rows-4.ensures version tt)) c.in_ok-read_rows-5.field-0 _ (c.in_ok-read_rows-5.ensures version tt)) c.in_ok-read_rows-6.field-0 _ (c.in_ok-read_rows-6.ensures version tt))
