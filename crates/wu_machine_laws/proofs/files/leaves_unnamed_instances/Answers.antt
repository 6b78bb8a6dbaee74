use Rattle.wu_machine_laws.proofs.RowLaws.{leaves_unnamed_instances}
use Rattle.wu_machine_laws.proofs.files.leaves_unnamed_instances.Goals as goal

pub returns : goal.returns
returns c = leaves_unnamed_instances
