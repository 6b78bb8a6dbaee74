use Rattle.wu_report.proofs.StatusLemmas.{passes_answer}
use Rattle.wu_report.proofs.laws.status_is_what_passes_answer.Goals as goal

pub returns : goal.returns
returns c = passes_answer
