use Rattle.wu_cli.proofs.TextLemmas.{misfit_told_as}
use Rattle.wu_cli.proofs.findings.line_of_misfit.Goals as goal

pub returns-in-HostNames : goal.returns-in-HostNames
returns-in-HostNames g c = misfit_told_as _ _ c.write_line.result _ _ c.in-HostNames.is c.write_line.ensures
