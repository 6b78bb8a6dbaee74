use Rattle.toml.specs.View.{table_view}
use Rattle.wu_feed.proofs.FaultLemmas.{document_told}
use Rattle.wu_feed.proofs.template.read_template.Goals as goal

pub returns-clause-told : goal.returns-clause-told
returns-clause-told c = rw c.read_table.ensures (document_told (table_view c.in_ok-table.table))
