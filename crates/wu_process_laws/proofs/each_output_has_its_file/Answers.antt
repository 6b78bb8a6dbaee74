use Rattle.wu_process_laws.proofs.KeptOutputs.{each_before, each_output}
use Rattle.wu_process_laws.proofs.OutputNames.{each_name}
use Rattle.wu_process_laws.proofs.each_output_has_its_file.Goals as goal

pub returns-clause-files : goal.returns-clause-files
returns-clause-files g c = each_output g.F.KeepFile.keeps

pub returns-clause-before : goal.returns-clause-before
returns-clause-before g c = each_before g.F.KeepFile.keeps

pub returns-clause-apart : goal.returns-clause-apart
returns-clause-apart g c = each_name
