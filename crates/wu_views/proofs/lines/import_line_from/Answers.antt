use Rattle.wu_schema.proofs.Words.{rules}
use Rattle.wu_views.proofs.LineLemmas.{import_line_read}
use Rattle.wu_views.proofs.lines.import_line_from.Goals as goal

pub returns : goal.returns
returns c = import_line_read c.args.row.now _ _ _ _ (search rules) c.in_ok-kind.ensures c.in_ok-name.ensures c.in_ok-first_number.ensures c.in_ok-verdicts.ensures
