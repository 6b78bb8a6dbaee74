use Rattle.wu_schema.proofs.VersionLemmas.{free_lacks}
use Rattle.wu_schema.proofs.laws.a_free_name_lacks_a_project.Goals as goal

pub returns : goal.returns
returns c = free_lacks
