use Rattle.std.proofs.Common.{◌++◌}
use Rattle.wu_report.proofs.MarkLemmas.{unmarked_whole}
use Rattle.wu_report.specs.Texts.{line_end}
use Rattle.wu_drive.specs.Texts.{fault_text}
use Rattle.wu_drive.proofs.MarkedFaults.{fault_whole}
use Rattle.wu_drive.proofs.laws.no_fault_line_is_marked.Goals as goal

pub returns : goal.returns
returns c fault = unmarked_whole (fault_text fault ++ line_end) (fault_whole fault)
