use Rattle.wu_store.proofs.AboveLemmas.{above_all, above_more, above_none}
use Rattle.wu_store.proofs.laws.the_first_above_the_last_is_the_next.Goals as goal

pub returns : goal.returns
returns c = record {
  more = λ db world number w s found. above_more db world s number w found;
  none = λ db world number s none. above_none db world s number none;
  all = λ world number low. above_all number world low;
}
