-- A file in memory that was written once.
use Rattle.std.proofs.Common.{◌≡◌, ℕ, List, Result, Ok, Err}
use Rattle.std.specs.Prelude.{IfOk}
use Rattle.sqlite_disk.specs.declared.Files.{Files}
use Rattle.wu_process.specs.declared.memory_file.MemoryFile.{MemoryFile}
use Rattle.wu_cli.specs.declared.reason.Reason.{Reason}
use Rattle.wu_process.specs.Copies.{AreCopiedFrom, AreCopiesOf}
use Rattle.wu_process.specs.declared.copy.FileBytes.{FileBytes}

-- Copies of the bytes that were read at a path are copied from there.
pub copied_from : (path : List ℕ) (bytes : FileBytes) → bytes.path.now ≡ path → (done : Result (Files MemoryFile) Reason) → IfOk done (AreCopiesOf bytes) → IfOk done (AreCopiedFrom path)
copied_from path bytes read_at (Ok files) copies = record { bytes = bytes; read_at = read_at; copied = copies }
copied_from path bytes read_at (Err reason) copies = tt
