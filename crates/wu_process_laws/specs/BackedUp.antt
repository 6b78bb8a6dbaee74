-- What the new file of a backup holds.
use Rattle.std.specs.Prelude.{◌≡◌, ◌⊎◌, ℕ, List, [], Result, Ok}
use Rattle.wu_process.specs.MemoryFiles.{bytes_held}
use Rattle.wu_process.specs.declared.memory_file.MemoryFile.{MemoryFile}
use Rattle.sqlite_trees.specs.Tree.{Trees}
use Rattle.sqlite_wal.specs.Recovery.{Image}
use Rattle.sqlite.specs.Effect.{Database}
use Rattle.sqlite.specs.Files.{AreFoundIn, HoldsDatabase}
use Rattle.wu_check.specs.Findings.{IsSoundAs}
use Rattle.wu_check.specs.declared.finding.Counts.{Counts}
use Rattle.wu_cli.specs.declared.trouble.Trouble.{Trouble}
use Rattle.wu_core.specs.World.{World}
use Rattle.wu_stops.specs.Beginning.{HoldsWorld}
use Rattle.wu_process.specs.Backups.{BecomesFile, MakesOfCopy, may_become}
use Rattle.wu_process.specs.declared.backup.Folded.{Folded}
use Rattle.wu_tables.specs.Others.{HasOnlyAProject}
use Rattle.wu_process_laws.specs.Checked.{FindsWith, image_of_bytes}

-- A database file with these bytes, and no log.
abbrev pub without_log : List ℕ → Image
without_log bytes = record { log = []; db = bytes }

-- The new file alone holds all tables that the two files held, whoever made them.
abbrev pub HoldsTables : Image → List ℕ → Type 0
HoldsTables image bytes = (db : Trees) → HoldsDatabase image db → ∥ HoldsDatabase (without_log bytes) db ∥₁

-- All that the two files hold is a project's, by its name.
pub record HasNoOthers (image : Image) : Type 0 where
  pub db : Database
  pub found : AreFoundIn image db.trees
  pub only : HasOnlyAProject db.schema

-- The two files hold a sound project with these numbers, and the new file alone holds the same world.
pub record IsBackupOf (image : Image) (bytes : List ℕ) (counts : Counts) : Type 0 where
  -- The new file holds each world that the two files hold.
  pub world : (world : World) → HoldsWorld image world → ∥ HoldsWorld (without_log bytes) world ∥₁
  -- All tables of the two files are in it, or the two files hold nothing of another program.
  pub others : HoldsTables image bytes ⊎ HasNoOthers image
  pub sound : FindsWith image (λ db. IsSoundAs db counts)

-- Each file that becomes of a copy is a backup of the files that were read.
abbrev pub EachBackupHolds : Type 0
EachBackupHolds =
    (path to : List ℕ) (made : Result Counts Trouble) (it : MakesOfCopy may_become path to made)
    (folded : Folded MemoryFile) → it.folded ≡ Ok folded
    → (counts : Counts) (file : BecomesFile may_become to folded (Ok counts))
    → IsBackupOf (image_of_bytes it.copy.bytes) (bytes_held file.files.db) counts
