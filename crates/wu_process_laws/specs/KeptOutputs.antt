-- What the files of outputs are.
use Rattle.std.specs.Prelude.{◌≡◌, ℕ, true, List, length, Ok, Err}
use Rattle.sqlite_wal.specs.Recovery.{Image}
use Rattle.wu_check.specs.Findings.{IsSoundAs}
use Rattle.wu_core.specs.Names.{is_name}
use Rattle.wu_core.specs.World.{World}
use Rattle.wu_stops.specs.Beginning.{HoldsWorld}
use Rattle.wu_store.specs.StandsFor.{KnowsClasses}
use Rattle.wu_views.specs.Lines.{archived_lines}
use Rattle.wu_arguments.specs.declared.order.OutputFiles.{OutputFiles}
use Rattle.wu_cli.specs.Outputs.{HaveFiles, HaveFront, output_path, total, wanted_of}
use Rattle.wu_check.specs.declared.finding.Counts.{Counts}
use Rattle.wu_cli.specs.declared.outputs.KeptCounts.{KeptCounts}
use Rattle.wu_cli.specs.declared.outputs.LostOutput.{LostOutput}
use Rattle.wu_cli.specs.declared.trouble.Trouble.TheVariants as trouble
use Rattle.wu_process.specs.Outputs.{KeepsOfCopy}
use Rattle.wu_process_laws.specs.Checked.{FindsWith, image_of_bytes}

-- The two files hold a sound project, and each output that was asked for has its file.
pub record AreItsOutputs (keeps : List ℕ → List ℕ → Type 0) (image : Image) (asked : OutputFiles) (counts : KeptCounts) : Type 0 where
  pub numbers : Counts
  pub sound : FindsWith image (λ db. IsSoundAs db numbers)
  -- The archive is that of each world with classes that the files hold.
  pub files :
      (world : World) → KnowsClasses world → HoldsWorld image world
      → HaveFiles keeps asked (archived_lines world) × (total counts ≡ length (wanted_of asked (archived_lines world)))

-- Wherever outputs of copied files were counted, each has its file.
abbrev pub EachOutputHasItsFile : {F : Type 0} → (F → List ℕ → List ℕ → Type 0) → Type 0
EachOutputHasItsFile {F} keeps =
    (files : F) (path : List ℕ) (asked : OutputFiles) (counts : KeptCounts) (it : KeepsOfCopy (keeps files) asked path (Ok counts))
    → AreItsOutputs (keeps files) (image_of_bytes it.copy.bytes) asked counts

-- Wherever the output of a workunit has no file, which is reported, those before it have theirs: of each world with
-- classes that the files hold.
abbrev pub EachOutputBeforeHasItsFile : {F : Type 0} → (F → List ℕ → List ℕ → Type 0) → Type 0
EachOutputBeforeHasItsFile {F} keeps =
    (files : F) (path : List ℕ) (asked : OutputFiles) (lost : LostOutput) (it : KeepsOfCopy (keeps files) asked path (Err (trouble.Lost lost)))
    → (world : World) → KnowsClasses world → HoldsWorld (image_of_bytes it.copy.bytes) world
    → HaveFront (keeps files) asked (archived_lines world) (trouble.Lost lost)

-- Names of two workunits give two paths in a folder.
abbrev pub EachNameHasItsFile : Type 0
EachNameHasItsFile =
    (folder one other : List ℕ) → is_name one ≡ true → is_name other ≡ true → output_path folder one ≡ output_path folder other → one ≡ other
