-- The two files of a database in memory, with the bytes that were read.
use Rattle.std.specs.Prelude.{◌≡◌, ℕ, IsTrue, List}
use Rattle.sqlite_disk.specs.declared.Files.{Files}
use Rattle.wu_process.specs.MemoryFiles.{bytes_held, serves}
use Rattle.wu_process.specs.declared.memory_file.MemoryFile.{MemoryFile}
use Rattle.wu_process.specs.declared.copy.FileBytes.{FileBytes}

-- The file in memory has these bytes, and can be used.
pub record IsCopyOf (bytes : List ℕ) (file : MemoryFile) : Type 0 where
  pub same : bytes_held file ≡ bytes
  pub usable : IsTrue (serves file)

-- The two files of a database in memory have these bytes, and can be used.
pub record AreCopiesOf (bytes : FileBytes) (files : Files MemoryFile) : Type 0 where
  pub log : IsCopyOf bytes.log.items files.log
  pub db : IsCopyOf bytes.db.items files.db

-- These bytes carry this path, and the files in memory have just these bytes.
pub record AreCopiedFrom (path : List ℕ) (files : Files MemoryFile) : Type 0 where
  pub bytes : FileBytes
  pub read_at : bytes.path.now ≡ path
  pub copied : AreCopiesOf bytes files
