use Rattle.wu_sound_laws.proofs.Consequences.{placed}
use Rattle.wu_sound_laws.proofs.TotalLemmas.{bounded_credit, bounded_total, few_grants}
use Rattle.wu_sound_laws.proofs.laws.bounds_totals.Goals as goal

pub returns : goal.returns
returns c world sound = record {
  number = few_grants world.grants (placed world sound) sound.granted_once;
  all = bounded_credit world.grants (placed world sound) sound.granted_once;
  each = bounded_total world.grants (placed world sound) sound.granted_once;
}
