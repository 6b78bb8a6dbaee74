use Rattle.wu_schema.proofs.Words.{ℕ}
use Rattle.wu_loader.specs.Questions.{ShowsTable}
use Rattle.wu_schema.specs.declared.table.ProjectTable.TheVariants as the_table
use Rattle.wu_loader.proofs.LookLemmas.{looked, looks_ended, looks_fault, looks_made, looks_memory, looks_next, HasLooked}
use Rattle.wu_loader.proofs.TotalLemmas.{shows_found}
use Rattle.wu_loader.proofs.totals.other_sums.Given
use Rattle.wu_loader.proofs.totals.other_sums.Goals as goal
use Rattle.wu_loader.proofs.totals.other_sums.Goals.{After-sums_from}

pub returns-in_err-hosts : goal.returns-in_err-hosts
returns-in_err-hosts g c version =
    looks_fault version g.S.Store c.args.conn.now c.read_rows.new.conn c.in_err-hosts.field-0.0 _ _ (c.in_err-hosts.ensures version tt) c.from_residual.result c.from_residual.ensures.1

pub returns-in_err-grants : goal.returns-in_err-grants
returns-in_err-grants g c version =
    looks_ended version g.S.Store c.args.conn.now c.read_rows.new.conn c.read_rows-2.new.conn _ (looked version g.S.Store c.args.conn.now c.read_rows.new.conn c.in_ok-hosts.hosts _ (c.in_ok-hosts.ensures version tt)) c.in_err-grants.field-0.0 _ _ (c.in_err-grants.ensures version tt) c.from_residual-in_err-grants.result c.from_residual-in_err-grants.ensures.1

-- both tables were read
read : (g : Given.Over) (c : After-sums_from g) (version : ℕ) → HasLooked version g.S.Store c.args.conn.now c.read_rows-2.new.conn (λ db trees. ShowsTable the_table.Host db.trees trees c.in_ok-hosts.hosts × ShowsTable the_table.Grant db.trees trees c.in_ok-grants.grants)
read g c version =
    looks_next version g.S.Store c.args.conn.now c.read_rows.new.conn c.read_rows-2.new.conn _ (looked version g.S.Store c.args.conn.now c.read_rows.new.conn c.in_ok-hosts.hosts _ (c.in_ok-hosts.ensures version tt)) c.in_ok-grants.grants _ (c.in_ok-grants.ensures version tt)

pub returns-in-Ok : goal.returns-in-Ok
returns-in-Ok g c version =
    looks_made version g.S.Store c.args.conn.now c.read_rows-2.new.conn _ c.in-Ok.found _ (λ db trees both. shows_found db trees c.in_ok-hosts.hosts c.in_ok-grants.grants both.0 both.1 c.in-Ok.found c.in-Ok.ensures) (read g (goal.at.returns-in-Ok g c).After-sums_from version)

pub returns-in-Err-Wrong : goal.returns-in-Err-Wrong
returns-in-Err-Wrong g c version = looks_made version g.S.Store c.args.conn.now c.read_rows-2.new.conn _ _ _ (λ db trees both. tt) (read g (goal.at.returns-in-Err-Wrong g c).After-sums_from version)

pub returns-in-Err-Memory : goal.returns-in-Err-Memory
returns-in-Err-Memory g c version = looks_memory version g.S.Store c.args.conn.now c.read_rows-2.new.conn _ _ (read g (goal.at.returns-in-Err-Memory g c).After-sums_from version)
