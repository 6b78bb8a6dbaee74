use Rattle.wu_schema.proofs.VersionLemmas.{has_understood}
use Rattle.wu_schema.proofs.laws.columns_of_a_project_are_found.Goals as goal

pub returns : goal.returns
returns c = has_understood
