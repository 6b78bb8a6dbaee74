-- What a check reports of the files whose bytes it read.
use Rattle.std.specs.Prelude.{◌≡◌, ◌⊎◌, ℕ, List, Option, Result, Ok, Err, IfErr}
use Rattle.std.specs.Io.KnownBytes.{Appends}
use Rattle.sqlite.specs.Effect.{Database, IsDatabase}
use Rattle.sqlite.specs.Files.{AreFoundIn}
use Rattle.sqlite_wal.specs.Recovery.{Image}
use Rattle.wu_check.specs.Checking.{HasWholeRows, IsKnownVersion}
use Rattle.wu_check.specs.Findings.{IsSoundAs, PutsLaterFirst, Tells, TellsOfSound}
use Rattle.wu_check.specs.declared.finding.Counts.{Counts}
use Rattle.wu_check.specs.declared.finding.Finding.{Finding}
use Rattle.wu_core.specs.World.{World}
use Rattle.wu_core.specs.declared.fault.Fault.TheVariants.{Output}
use Rattle.wu_machine.specs.Sound.{IsSound}
use Rattle.wu_schema.specs.Faults.{IsFailure}
use Rattle.wu_cli.specs.Checks.{sound_line}
use Rattle.wu_cli.specs.declared.reason.Reason.TheVariants.{Damaged, Memory}
use Rattle.wu_cli.specs.declared.trouble.Trouble.{Trouble}
use Rattle.wu_cli.specs.declared.trouble.Trouble.TheVariants as trouble
use Rattle.wu_stops.specs.Beginning.{HoldsWorld}
use Rattle.wu_process.specs.Checks.{ChecksCopy}
use Rattle.wu_process.specs.declared.copy.FileBytes.{FileBytes}

-- The two files with these bytes.
abbrev pub image_of_bytes : FileBytes → Image
image_of_bytes bytes = record { log = bytes.log.items; db = bytes.db.items }

-- Opening the files finds a database, and this holds of it if no row of a workunit or of the queue is short.
pub record FindsWith (image : Image) (Holds : Database → Type 0) : Type 0 where
  pub db : Database
  pub found : AreFoundIn image db.trees
  pub sound : IsDatabase db
  pub holds : HasWholeRows db → Holds db

-- The line of a sound project went out, and the files hold a sound project with these numbers.
pub record ReportsSound (image : Image) (before after : Option (List ℕ)) : Type 0 where
  pub counts : Counts
  pub told : Appends before after (sound_line counts)
  pub found : FindsWith image (λ db. IsSoundAs db counts)

-- The finding is true of the database, and a later version is reported before all else.
pub record IsToldTruly (db : Database) (finding : Finding) : Type 0 where
  pub tells : Tells db finding
  pub later : PutsLaterFirst db finding

-- Opening the files finds a database where something has a name that an upgrade of this sound world gives, and that is
-- what is found.
pub record FindsTakenName (image : Image) (world : World) (finding : Finding) : Type 0 where
  pub db : Database
  pub found : AreFoundIn image db.trees
  pub sound : IsDatabase db
  pub taken : TellsOfSound db.schema world finding

-- The trouble is such a name.
abbrev pub IsTakenName : Image → World → Trouble → Type 0
IsTakenName image world (trouble.Unsound finding) = FindsTakenName image world finding
IsTakenName image world _ = ⊥

-- The trouble is out of memory or a failed output. The store may report memory that runs out as a failed or a damaged
-- file of the copy.
abbrev pub IsWant : Trouble → Type 0
IsWant (trouble.Fault fault) = IsFailure fault ⊎ (fault ≡ Output)
IsWant (trouble.Unchecked reason) = (reason ≡ Memory) ⊎ (reason ≡ Damaged)
IsWant _ = ⊥

pub record TellsOfFiles (image : Image) (before after : Option (List ℕ)) (done : Result (Unit {0}) Trouble) : Type 0 where
  -- If `ok` is reported, the files hold a sound project of a known version with the printed numbers.
  pub sound : done ≡ Ok tt → ReportsSound image before after
  -- If the files hold a sound project of a known version, no trouble is reported, with four exceptions. These are out of
  -- memory, a failed copy, a failed output, and a name that something has and that its upgrade gives. An upgrade of the
  -- present version gives none.
  pub unsound : (world : World) → HoldsWorld image world → IsSound world → IsKnownVersion world.version
      → IfErr done (λ told. IsWant told ⊎ IsTakenName image world told)
  -- If something is reported to be wrong, it is wrong.
  pub why : (finding : Finding) → done ≡ Err (trouble.Unsound finding) → FindsWith image (λ db. IsToldTruly db finding)

-- Each check of copied files reports what is true of the files.
abbrev pub EachCheckIsTrue : {W : Type 0} → (W → Option (List ℕ)) → Type 0
EachCheckIsTrue {W} contents =
    (path : List ℕ) (old new : W) (done : Result (Unit {0}) Trouble) (check : ChecksCopy contents path old new done)
    → TellsOfFiles (image_of_bytes check.copy.bytes) (contents old) (contents new) done
