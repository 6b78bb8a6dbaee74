-- What is done of a world of the present version, and of an older one.
use Rattle.std.proofs.Common.{◌≡◌, ◌<◌, nat_lt, true, false, Err, refl, inl, inr, arith}
use Rattle.std.proofs.lemmas.Bool.{cases_Bool}
use Rattle.std.proofs.lemmas.Bool.Decides.{nat_tests}
use Rattle.wu_core.specs.declared.fault.Fault.TheVariants.{OldSchema}
use Rattle.wu_core.specs.World.{World}
use Rattle.wu_machine.specs.Machine.{done, done_now, IsUpToDate, is_upgrade, present_version}
use Rattle.wu_machine.specs.Requests.{AskUpgrade, Request}
use Rattle.wu_machine.specs.Sound.{IsProject}

-- a project that is not older is of the present version
pub up_to_date : (world : World) → IsProject world → nat_lt world.version present_version ≡ false → IsUpToDate world
up_to_date world project younger = let known = project.known in grind (arith, nat_tests)

-- that does what is asked of it
pub done_up_to_date : (world : World) (request : Request) → IsUpToDate world → done world request ≡ done_now world request
done_up_to_date world request is = rw is refl

-- an older one refuses all but an upgrade
pub done_older : (world : World) (request : Request) → world.version < present_version → is_upgrade request ≡ false
    → done world request ≡ Err (OldSchema world.version)
done_older world request low other =
    let older : nat_lt world.version present_version ≡ true = grind (arith, nat_tests) in
    rw (older, other) refl

-- and an upgrade is done of any
pub done_upgrade : (world : World) → done world AskUpgrade ≡ done_now world AskUpgrade
done_upgrade world = elim (cases_Bool (nat_lt world.version present_version)) [
  | inl older ↦ rw older refl
  | inr younger ↦ rw younger refl
]
