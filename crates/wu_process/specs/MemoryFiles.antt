-- A file of a database that is held in memory.
use Rattle.std.specs.Prelude.{◌≡◌, ℕ, Bool, false, true, List}
use Rattle.sqlite_disk.specs.Memory.{memory_bytes, memory_is_usable}
use Rattle.sqlite_disk.specs.declared.Disk.{Ghosts}
use Rattle.wu_process.specs.declared.memory_file.MemoryFile.{MemoryFile}

-- The bytes of the file.
abbrev pub bytes_held : MemoryFile → List ℕ
bytes_held m = memory_bytes m.file

-- The file can be used.
abbrev pub serves : MemoryFile → Bool
serves m = memory_is_usable m.file

-- As the disk of a database it always returns what was written. It ends with the process, so its bytes now are all that
-- is said of a crash.
abbrev pub memory_disk : Ghosts MemoryFile
memory_disk = record {
  seen = bytes_held;
  may_leave = λ m bytes. bytes ≡ bytes_held m;
  is_usable = serves;
  faults = λ m. m.file.faults;
  tally_of = λ m. record { caught = m.file.caught; refused = 0 };
  is_clean = λ _. true;
  key_of = λ _. 0;
  is_fair = λ _ _. true;
  is_frozen = λ _. false;
  is_rotten = λ _ _ _. false;
  is_mixing = λ _. false;
}
