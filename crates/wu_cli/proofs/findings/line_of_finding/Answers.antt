use Rattle.wu_cli.proofs.TextLemmas.{finding_told_as}
use Rattle.wu_cli.proofs.findings.line_of_finding.Goals as goal

pub returns-in-Row : goal.returns-in-Row
returns-in-Row g c = finding_told_as _ _ c.line_of_wrong.result _ _ c.in-Row.is c.line_of_wrong.ensures

pub returns-in-Version : goal.returns-in-Version
returns-in-Version g c = finding_told_as _ _ c.placed.result _ _ c.in-Version.is c.placed.ensures

pub returns-in-Queue : goal.returns-in-Queue
returns-in-Queue g c = finding_told_as _ _ c.write_line.result _ _ c.in-Queue.is c.write_line.ensures

pub returns-in-Marks : goal.returns-in-Marks
returns-in-Marks g c = finding_told_as _ _ c.placed-in-Marks.result _ _ c.in-Marks.is c.placed-in-Marks.ensures
