use Rattle.wu_store.proofs.ChangingLemmas.{grants_made, grants_right}
use Rattle.wu_store.proofs.laws.grants_in_a_row_are_right.Goals as goal

pub returns : goal.returns
returns c = record { right = grants_right; made = grants_made }
