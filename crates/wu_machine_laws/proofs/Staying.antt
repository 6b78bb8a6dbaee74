-- Where the machine makes nothing of a world, that stays.
use Rattle.std.proofs.Common.{◌≡◌, refl, sym, ap}
use Rattle.wu_core.specs.World.{World}
use Rattle.wu_machine.specs.Imports.{batch_given, classes_given, Given, imported, reported_given, sent_given}
use Rattle.wu_machine.specs.Machine.{CameBefore, done_now, MakesNothing}
use Rattle.wu_machine.specs.Requests.{AskBatch, AskCancel, AskClasses, AskPass, AskReported, AskSent, AskUpgrade, Request}
use Rattle.wu_machine.proofs.ImageLemmas.{passed_none}
use Rattle.wu_machine_laws.proofs.Results.{asked, By, import_by, pass_by}
use Rattle.wu_machine_laws.specs.Leaving.{StaysByNothing}

-- the world after is the one before
abbrev Leaves : World → World → Type 0
Leaves world after = after ≡ world

import_stays : (world : World) (given : Given) → CameBefore world given → By (Leaves world) world (imported world given)
import_stays world given before = import_by (Leaves world) world refl given (λ new. absurd (let no = rw new at before in cc))

now_stays : (world : World) (request : Request) → MakesNothing world request → By (Leaves world) world (done_now world request)
now_stays world (AskBatch name template file) before = import_stays world (batch_given name template file) before
now_stays world (AskSent name file) before = import_stays world (sent_given name file) before
now_stays world (AskReported name file) before = import_stays world (reported_given name file) before
now_stays world (AskClasses name file) before = import_stays world (classes_given name file) before
now_stays world (AskPass pass now limit min_age) none =
    pass_by (Leaves world) world refl pass now limit min_age (λ right. passed_none pass now min_age limit world none)
now_stays world (AskCancel name) none = absurd none
now_stays world AskUpgrade is = ap (λ v. record world { version = v }) (sym is)

-- and an older one is left by all but an upgrade
pub stays_by_nothing : StaysByNothing
stays_by_nothing world request nothing = asked (Leaves world) world refl request (λ younger. now_stays world request nothing)
