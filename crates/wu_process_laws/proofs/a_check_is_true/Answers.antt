use Rattle.wu_process_laws.proofs.Checked.{each_check}
use Rattle.wu_process_laws.proofs.a_check_is_true.Goals as goal

pub returns : goal.returns
returns g c = each_check g.O.Write.contents
