-- What is made of a copy of a project, and what is reported of it.
use Rattle.std.specs.Prelude.{◌≡◌, ◌⊎◌, ℕ, List, [], ◌∷◌, IsOkUnless, Option, Result, Ok, Err}
use Rattle.wu_core.specs.declared.fault.Fault.TheVariants.{Output}
use Rattle.wu_report.specs.Writing.{WritesTo}
use Rattle.wu_arguments.specs.Lines.{export_place}
use Rattle.wu_arguments.specs.declared.order.Export.{Export}
use Rattle.wu_cli.specs.Backups.{backup_line}
use Rattle.wu_cli.specs.Outputs.{outputs_line}
use Rattle.wu_cli.specs.declared.export.Exported.{Exported}
use Rattle.wu_cli.specs.declared.export.Exported.TheVariants as exported
use Rattle.wu_cli.specs.declared.trouble.Trouble.{Trouble}
use Rattle.wu_cli.specs.declared.trouble.Trouble.TheVariants as trouble

-- What is said of an export: of the database at a path, this was asked and this came.
abbrev pub SaysOfExport : Type 1
SaysOfExport = List ℕ → Export → Result Exported Trouble → Type 0

-- The line that reports what was made, and at which path.
abbrev pub exported_line : List ℕ → Exported → List ℕ
exported_line place (exported.Backup counts) = backup_line place counts
exported_line place (exported.Outputs counts) = outputs_line place counts

-- The line goes out, or a prefix of it with `Output`.
pub record ReportsExport {W : Type 0} (contents : W → Option (List ℕ)) (place : List ℕ) (made : Exported) (old new : W) (done : Result (Unit {0}) Trouble) : Type 0 where
  pub line : WritesTo contents old new (exported_line place made) done
  pub fault : IsOkUnless done (trouble.Fault Output)

module _ {W : Type 0} (contents : W → Option (List ℕ)) where
  -- The line of what was made goes out, or a prefix of it with `Output`. Of what was not the trouble is returned, and
  -- nothing goes out.
  abbrev pub TellsMade : List ℕ → Result Exported Trouble → W → W → Result (Unit {0}) Trouble → Type 0
  TellsMade place (Ok made) old new done = ReportsExport contents place made old new done
  TellsMade place (Err told) old new done = (done ≡ Err told) × (new ≡ old)

  module _ (exports : SaysOfExport) (path : List ℕ) where
    -- An export is made of the database at the path, and reported; or it is not made.
    abbrev pub Exports : Export → W → W → Result (Unit {0}) Trouble → Type 0
    Exports export old new done = (made : Result Exported Trouble) × exports path export made × TellsMade (export_place export) made old new done

    -- One after another is made and reported, up to the first trouble.
    unfoldable pub ExportsEach : List Export → W → W → Result (Unit {0}) Trouble → Type 0
    ExportsEach [] old new done = (new ≡ old) × (done ≡ Ok tt)
    ExportsEach (export ∷ more) old new done =
        ((told : Trouble) × Exports export old new (Err told) × (done ≡ Err told)) ⊎ ((mid : W) × Exports export old mid (Ok tt) × ExportsEach more mid new done)
