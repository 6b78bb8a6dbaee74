-- What a world of an older version answers, and what an upgrade makes of any.
use Rattle.std.proofs.Common.{◌≡◌, ◌≢◌, ◌<◌, nat_lt, false, Err, refl, ap, arith}
use Rattle.std.proofs.lemmas.Bool.Decides.{nat_tests}
use Rattle.wu_core.specs.declared.fault.Fault.TheVariants.{OldSchema}
use Rattle.wu_core.specs.World.{World}
use Rattle.wu_machine.specs.Machine.{fold_steps, is_upgrade, present_version, reply, reply_of, world_of}
use Rattle.wu_machine.specs.Requests.{AskBatch, AskCancel, AskClasses, AskPass, AskReported, AskSent, AskUpgrade, Request}
use Rattle.wu_machine.proofs.ImportLemmas.{stays_fold}
use Rattle.wu_machine.proofs.Versions.{done_older, done_upgrade, up_to_date}
use Rattle.wu_machine_laws.specs.Leaving.{StaysPresent, UpgradesFirst}

no_upgrade : (request : Request) → request ≢ AskUpgrade → is_upgrade request ≡ false
no_upgrade (AskBatch name template file) other = refl
no_upgrade (AskSent name file) other = refl
no_upgrade (AskReported name file) other = refl
no_upgrade (AskClasses name file) other = refl
no_upgrade (AskPass pass now limit min_age) other = refl
no_upgrade (AskCancel name) other = refl
no_upgrade AskUpgrade other = absurd (other refl)

-- all but an upgrade is refused
refused : (world : World) (request : Request) → request ≢ AskUpgrade → world.version < present_version → reply world request ≡ Err (OldSchema world.version)
refused world request other low = ap reply_of (done_older world request low (no_upgrade request other))

pub upgrades_first : (world : World) → UpgradesFirst world
upgrades_first world = record {
  refused = refused world;
  answered = ap reply_of (done_upgrade world);
  alone = ap (λ result. record (world_of world result) { version = world.version }) (done_upgrade world);
}

pub stays_present : StaysPresent
stays_present world requests is project =
    let present : nat_lt world.version present_version ≡ false = grind (arith, nat_tests, is) in
    up_to_date (fold_steps world requests) project ((stays_fold world requests).version present)
