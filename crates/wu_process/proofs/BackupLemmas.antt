-- What becomes of the world of a project that was checked.
use Rattle.std.proofs.Common.{◌≡◌, Option, Some, None, Result, Ok, Err, refl, subst, sym}
use Rattle.std.specs.Prelude.{[], IfOk, IfSome, MatchResult}
use Rattle.std.specs.Result.{result_ok}
use Rattle.sqlite_disk.specs.declared.Disk.{Ghosts}
use Rattle.sqlite_disk.specs.declared.Files.{Files}
use Rattle.wu_process.specs.declared.memory_file.MemoryFile.{MemoryFile}
use Rattle.sqlite_store.specs.declared.store.FileStore.{FileStore}
use Rattle.sqlite.specs.Files.{over_files}
use Rattle.sqlite.specs.Held.{Held}
use Rattle.sqlite.specs.declared.error.Error.{Error}
use Rattle.wu_cli.specs.declared.trouble.Trouble.{Trouble}
use Rattle.wu_refill.specs.Refilling.{MayBeRefilled}
use Rattle.wu_core.specs.World.{World}
use Rattle.wu_process.specs.Backups.{ClosesFiles, ClosesFolded, GoesWith, IsFilled, IsFilledInto, IsFilledWith, IsRefillOf}
use Rattle.wu_process.specs.Checks.{IsOpenedIn}
use Rattle.wu_process.specs.MemoryFiles.{bytes_held, memory_disk}
use Rattle.wu_process.specs.declared.backup.Checked.{Checked}
use Rattle.wu_process.specs.declared.backup.Folded.{Folded}

-- what a check found goes with the files of a close after it
pub folded_closes : {D : Type 0} {g : Ghosts D} (conn : Held (FileStore D g)) (checked : Result Checked Trouble) (closed : Result (Files D) Error) → ClosesFiles conn closed
    → (done : Result (Folded D) Trouble) → MatchResult checked (λ it. GoesWith it closed done) (λ told. done ≡ Err told) → MatchResult checked (λ it. ClosesFolded conn it done) (λ told. done ≡ Err told)
folded_closes conn (Ok it) (Ok files) closes done goes = subst (ClosesFolded conn it) (sym goes) (refl, closes)
folded_closes conn (Ok it) (Err error) closes done goes = subst (ClosesFolded conn it) (sym goes) (error, closes.0, refl, closes.1)
folded_closes conn (Err told) closed closes done same = same

-- a world that may be refilled still may with them
pub folded_may : {D : Type 0} (checked : Result Checked Trouble) (closed : Result (Files D) Error) (done : Result (Folded D) Trouble) → MatchResult checked (λ it. GoesWith it closed done) (λ told. done ≡ Err told)
    → IfOk checked (λ it. IfSome it.world MayBeRefilled) → IfOk done (λ it. IfSome it.checked.world MayBeRefilled)
folded_may (Ok it) (Ok files) done goes may = subst (λ r. IfOk r (λ it. IfSome it.checked.world MayBeRefilled)) (sym goes) may
folded_may (Ok it) (Err error) done goes may = subst (λ r. IfOk r (λ it. IfSome it.checked.world MayBeRefilled)) (sym goes) tt
folded_may (Err told) closed done same may = subst (λ r. IfOk r (λ it. IfSome it.checked.world MayBeRefilled)) (sym same) tt

-- of new files that were filled
pub filled_with : (world : World) (empty : Files MemoryFile) (conn : Held (FileStore MemoryFile memory_disk)) → (blank : (bytes_held empty.log ≡ []) × (bytes_held empty.db ≡ [])) → IsOpenedIn empty conn
    → (files : Option (Files MemoryFile)) → IfSome files (IsFilledInto conn world) → IfSome files (IsFilledWith world)
filled_with world empty conn blank opened None fills = tt
filled_with world empty conn blank opened (Some files) fills = record { empty = empty; blank = blank; conn = conn; opened = opened; fills = fills }

pub refill_of : (world : World) (files : Option (Files MemoryFile)) → IfSome files (IsFilledWith world) → IfSome files (IsRefillOf (Some world))
refill_of world None filled = tt
refill_of world (Some files) filled = (world, refl, filled)

-- of a database that was filled
pub filled_into : {D : Type 0} {g : Ghosts D} (conn again : Held (FileStore D g)) (world : World) → IsFilled over_files conn world again → (closed : Result (Files D) Error) → ClosesFiles again closed → IfSome (result_ok closed) (IsFilledInto conn world)
filled_into conn again world fills (Ok files) closes = record { again = again; fills = fills; closed = closes }
filled_into conn again world fills (Err error) closes = tt
