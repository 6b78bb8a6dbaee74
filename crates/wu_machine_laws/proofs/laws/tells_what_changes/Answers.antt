use Rattle.std.proofs.Common.{refl}
use Rattle.wu_machine_laws.proofs.PassLaws.{changed_image, image_changed}
use Rattle.wu_machine_laws.proofs.laws.tells_what_changes.Goals as goal

pub returns : goal.returns
returns c = record {
  another = λ pass now min_age w kept. (changed_image pass now min_age w, image_changed pass now min_age w kept);
  purged = λ now min_age w. refl;
  gone = λ now w. refl;
}
