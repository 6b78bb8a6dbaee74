use Rattle.wu_schema.proofs.Words.{map, refl, state, ◌≡◌}
use Rattle.wu_schema.specs.declared.table.ProjectTable.TheVariants as the_table
use Rattle.wu_loader.specs.Shown.{keyed}
use Rattle.wu_loader.proofs.SelectLemmas.{table_asked, table_fits, looks_whole, shows_in_order}
use Rattle.wu_check.proofs.version.rows_of_project.Goals as goal

pub returns : goal.returns
returns g c =
    let q = c.query.ensures in
    looks_whole 1 the_table.Project tt (table_asked the_table.Project) (table_fits the_table.Project) refl g.S.Store c.args.conn.now c.query.new.conn _ refl (λ db trees rows. rows ≡ map (keyed 3) (db.trees (trees the_table.Project)))
    (λ trees has rows h. shows_in_order _ _ _ (table_fits the_table.Project (trees the_table.Project)) (state g.S.Store c.args.conn.now) (state g.S.Store c.query.new.conn) _ (has.tables.each the_table.Project tt).1 (keyed 3) (λ r. refl) rows h refl (has.arranged the_table.Project tt).0)
    c.query.result q.asks q.opens q.shows q.fails q.told
