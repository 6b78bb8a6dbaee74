use Rattle.wu_machine_laws.proofs.LastingLaws.{continues_on}
use Rattle.wu_machine_laws.proofs.lasting.canonical_results_last.Goals as goal

pub returns : goal.returns
returns c world requests values sound k d low j e here same = (continues_on world requests values sound k d low j e here same).canonical
