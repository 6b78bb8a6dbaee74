use Rattle.wu_schema.proofs.Words.{rules}
use Rattle.wu_schema.proofs.ReadingLemmas.{place_restores}
use Rattle.wu_schema.proofs.rows.place_at.Goals as goal

pub returns : goal.returns
returns c = place_restores _ c.requires _ c.read_column.result c.read_column.ensures.value c.read_column.ensures.refused (search rules)
