use Rattle.wu_report.specs.Texts.{view_text}
use Rattle.wu_report.proofs.MarkLemmas.{unmarked_whole}
use Rattle.wu_report.proofs.MarkedLines.{names_valid, view_whole}
use Rattle.wu_report.proofs.laws.no_view_line_is_marked.Goals as goal

pub returns-clause-text : goal.returns-clause-text
returns-clause-text c world view named = unmarked_whole (view_text world view) (view_whole world view named)

pub returns-clause-names : goal.returns-clause-names
returns-clause-names c = names_valid
