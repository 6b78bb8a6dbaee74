use Rattle.wu_drive.specs.Texts.{reply_text}
use Rattle.wu_drive.proofs.MarkedAnswers.{reply_whole}
use Rattle.wu_drive.proofs.NamedAnswers.{reply_named}
use Rattle.wu_drive.proofs.laws.no_answer_line_is_marked.Goals as goal
use Rattle.wu_report.proofs.MarkLemmas.{unmarked_whole}

pub returns-clause-text : goal.returns-clause-text
returns-clause-text c answer named = unmarked_whole (reply_text answer) (reply_whole answer named)

pub returns-clause-names : goal.returns-clause-names
returns-clause-names c world request values project = reply_named world project request values
