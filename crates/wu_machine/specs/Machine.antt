-- The machine: what each request answers and makes of a world, without tables, transactions, and faults of the disk or
-- of memory.
use Rattle.std.specs.Prelude.{◌≡◌, ℕ, ⊤, ◌≤◌, nat_le, nat_lt, Bool, true, not, ◌&&◌, if◌then◌else◌, IsSome, List, [], ◌∷◌, Option, Some, None, Result, Ok, Err}
use Rattle.wu_core.specs.declared.fault.Fault.{Fault}
use Rattle.wu_core.specs.declared.fault.Fault.TheVariants.{BadLimit, UnknownWorkunit, NotOpenToCancel, OldSchema}
use Rattle.wu_core.specs.declared.workunit.Workunit.{Workunit}
use Rattle.wu_core.specs.Limits.{last_moment, longest_age}
pub use Rattle.wu_core.specs.Limits.{highest_limit, present_version}
use Rattle.wu_core.specs.World.{World}
use Rattle.wu_rules.specs.Counts.{is_undecided}
use Rattle.wu_rules.specs.Cancelling.{cancelled}
use Rattle.wu_machine.specs.Imports.{Done, Given, import_of, imported, batch_given, sent_given, reported_given, classes_given}
use Rattle.wu_machine.specs.Passes.{passed, handled}
use Rattle.wu_core.specs.Storable.{IsName}
use Rattle.wu_rules.specs.Due.{chosen}
use Rattle.wu_rules.specs.declared.due.Pass.{Pass}
use Rattle.wu_rules.specs.declared.due.Pass.TheVariants.{Purge}
use Rattle.wu_machine.specs.Requests.{Request, AskBatch, AskSent, AskReported, AskClasses, AskPass, AskCancel, AskUpgrade, Reply, Passed, Cancelled, Upgraded}
use Rattle.wu_machine.specs.Worlds.{workunit_named, with_named}

-- Whether the least age is right: that of a purge is at most a year, and other passes have none.
abbrev pub is_age_right : Pass → ℕ → Bool
is_age_right Purge min_age = nat_le min_age longest_age
is_age_right _ min_age = true

-- Whether the limits of a pass are right: its limit is from 1 to 1000, and the least age of a purge at most a year.
abbrev pub is_limit_right : Pass → ℕ → ℕ → Bool
is_limit_right pass limit min_age = nat_le 1 limit && nat_le limit highest_limit && is_age_right pass min_age

-- Whether the limits of a request are right; only a pass has limits.
abbrev pub has_right_limits : Request → Bool
has_right_limits (AskPass pass now limit min_age) = is_limit_right pass limit min_age
has_right_limits _ = true

-- The values of a request are in their ranges: an import has a valid name, and the moment of a pass is at most the last
-- one.
abbrev pub HasValues : Request → Type 0
HasValues (AskBatch name template file) = IsName name
HasValues (AskSent name file) = IsName name
HasValues (AskReported name file) = IsName name
HasValues (AskClasses name file) = IsName name
HasValues (AskPass pass now limit min_age) = now ≤ last_moment
HasValues (AskCancel name) = ⊤
HasValues AskUpgrade = ⊤

abbrev pub pass_done : World → Pass → ℕ → ℕ → ℕ → Result Done Fault
pass_done world pass now limit min_age =
    if is_limit_right pass limit min_age
    then Ok (Passed pass (handled pass now min_age limit world), passed pass now min_age limit world)
    else Err BadLimit

abbrev pub cancel_done : World → List ℕ → Option Workunit → Result Done Fault
cancel_done world name None = Err UnknownWorkunit
cancel_done world name (Some w) = if is_undecided w then Ok (Cancelled name, with_named world name cancelled) else Err NotOpenToCancel

-- What a request answers and makes of a project of the present version; for an upgrade, of any version.
abbrev pub done_now : World → Request → Result Done Fault
done_now world (AskBatch name template file) = imported world (batch_given name template file)
done_now world (AskSent name file) = imported world (sent_given name file)
done_now world (AskReported name file) = imported world (reported_given name file)
done_now world (AskClasses name file) = imported world (classes_given name file)
done_now world (AskPass pass now limit min_age) = pass_done world pass now limit min_age
done_now world (AskCancel name) = cancel_done world name (workunit_named world name)
done_now world AskUpgrade = Ok (Upgraded world.version present_version, record world { version = present_version })

abbrev pub is_upgrade : Request → Bool
is_upgrade AskUpgrade = true
is_upgrade _ = not true

-- What a request answers and makes of a world, or its first refusal. A project of an older version refuses all requests
-- except an upgrade.
abbrev pub done : World → Request → Result Done Fault
done world request =
    if nat_lt world.version present_version && not (is_upgrade request) then Err (OldSchema world.version) else done_now world request

abbrev pub reply_of : Result Done Fault → Result Reply Fault
reply_of (Ok it) = Ok it.0
reply_of (Err fault) = Err fault

abbrev pub world_of : World → Result Done Fault → World
world_of world (Ok it) = it.1
world_of world (Err fault) = world

-- What the machine answers.
abbrev pub reply : World → Request → Result Reply Fault
reply world request = reply_of (done world request)

-- What the machine makes of the world; a refusal leaves it as it is.
abbrev pub step : World → Request → World
step world request = world_of world (done world request)

-- The world after a list of requests.
abbrev pub fold_steps : World → List Request → World
fold_steps world [] = world
fold_steps world (request ∷ more) = fold_steps (step world request) more

-- There already is an import of this kind and name.
abbrev pub CameBefore : World → Given → Type 0
CameBefore world given = IsSome (import_of world given)

-- The world is of the present version.
abbrev pub IsUpToDate : World → Type 0
IsUpToDate world = world.version ≡ present_version

-- The request makes nothing of the world: a repeated import, a pass that changes no workunit, or an upgrade at the
-- present version. Of an older world only an upgrade makes something.
abbrev pub MakesNothing : World → Request → Type 0
MakesNothing world (AskBatch name template file) = CameBefore world (batch_given name template file)
MakesNothing world (AskSent name file) = CameBefore world (sent_given name file)
MakesNothing world (AskReported name file) = CameBefore world (reported_given name file)
MakesNothing world (AskClasses name file) = CameBefore world (classes_given name file)
MakesNothing world (AskPass pass now limit min_age) = chosen pass now min_age limit world ≡ []
MakesNothing world (AskCancel name) = ⊥
MakesNothing world AskUpgrade = IsUpToDate world
