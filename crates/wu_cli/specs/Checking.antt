-- What a check of an open database finds, and how it is reported.
use Rattle.std.specs.Prelude.{◌≡◌, ℕ, List, IsOkUnless, Option, Result, Ok, Err}
use Rattle.sqlite.specs.Held.{Held}
use Rattle.sqlite.specs.Store.{Ghosts}
use Rattle.wu_core.specs.declared.fault.Fault.TheVariants.{Output}
use Rattle.wu_check.specs.declared.finding.Counts.{Counts}
use Rattle.wu_report.specs.Writing.{WritesTo}
use Rattle.wu_cli.specs.Backups.{CountsSound}
use Rattle.wu_cli.specs.Checks.{sound_line}
use Rattle.wu_cli.specs.declared.trouble.Trouble.{Trouble}
use Rattle.wu_cli.specs.declared.trouble.Trouble.TheVariants as trouble

-- A sound project is reported by a line on the writer, cut only if that fails; anything else by the trouble, with nothing
-- written.
abbrev pub TellsSound : {W : Type 0} → (W → Option (List ℕ)) → W → W → Result Counts Trouble → Result (Unit {0}) Trouble → Type 0
TellsSound contents old new (Ok counts) done = WritesTo contents old new (sound_line counts) done × IsOkUnless done (trouble.Fault Output)
TellsSound contents old new (Err told) done = (done ≡ Err told) × (new ≡ old)

-- The database is checked, which does not change it, and the outcome is reported.
pub record ChecksOver {S W : Type 0} (g : Ghosts S) (contents : W → Option (List ℕ)) (old new : Held S) (out_old out_new : W) (done : Result (Unit {0}) Trouble) : Type 0 where
  pub counts : Result Counts Trouble
  pub checks : CountsSound g old new counts
  pub tells : TellsSound contents out_old out_new counts done
