use Rattle.wu_store.proofs.PlacedLemmas.{others_kept, removed_gone}
use Rattle.wu_store.proofs.laws.a_removed_workunit_is_not_found.Goals as goal

pub returns : goal.returns
returns c = record {
  gone = λ number world. removed_gone number world.workunits;
  others = λ number other world apart. others_kept number other world.workunits apart;
}
