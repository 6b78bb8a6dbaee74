-- What is made of a copy of the database at a path.
use Rattle.std.specs.Prelude.{ℕ, List, Result, Ok, Err}
use Rattle.wu_arguments.specs.declared.order.Export.{Export}
use Rattle.wu_arguments.specs.declared.order.Export.TheVariants as export
use Rattle.wu_arguments.specs.declared.order.OutputFiles.{OutputFiles}
use Rattle.wu_cli.specs.declared.export.Exported.{Exported}
use Rattle.wu_cli.specs.declared.export.Exported.TheVariants as exported
use Rattle.wu_cli.specs.declared.trouble.Trouble.{Trouble}
use Rattle.wu_process.specs.Backups.{MakesBackup}
use Rattle.wu_process.specs.Outputs.{KeepsOfPath}

module _ (makes keeps : List ℕ → List ℕ → Type 0) (path : List ℕ) where
  -- A backup of the database at the path is made at another, or the trouble is why not.
  abbrev pub IsBackup : List ℕ → Result Exported Trouble → Type 0
  IsBackup to (Ok (exported.Backup counts)) = MakesBackup makes path to (Ok counts)
  IsBackup to (Ok (exported.Outputs counts)) = ⊥
  IsBackup to (Err told) = MakesBackup makes path to (Err told)

  -- The outputs of the database at the path are kept, or the trouble is why not.
  abbrev pub AreOutputs : OutputFiles → Result Exported Trouble → Type 0
  AreOutputs asked (Ok (exported.Outputs counts)) = KeepsOfPath keeps path asked (Ok counts)
  AreOutputs asked (Ok (exported.Backup counts)) = ⊥
  AreOutputs asked (Err told) = KeepsOfPath keeps path asked (Err told)

  -- What is asked is made of a copy of the database at the path.
  abbrev pub MakesExport : Export → Result Exported Trouble → Type 0
  MakesExport (export.Backup to) made = IsBackup to made
  MakesExport (export.Outputs asked) made = AreOutputs asked made
