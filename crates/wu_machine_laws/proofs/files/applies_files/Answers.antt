use Rattle.wu_machine_laws.proofs.FileLaws.{applies_files}
use Rattle.wu_machine_laws.proofs.files.applies_files.Goals as goal

pub returns : goal.returns
returns c = applies_files
