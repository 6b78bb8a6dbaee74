use Rattle.wu_store.proofs.ChangingLemmas.{archived_made, archived_right}
use Rattle.wu_store.proofs.laws.archived_rows_in_a_row_are_right.Goals as goal

pub returns : goal.returns
returns c = record { right = archived_right; made = archived_made }
