-- The names that SQLite gives to what it keeps beside a database.
use Rattle.std.specs.Prelude.{◌||◌, ℕ, Bool, List, bytes_eq, codes, eqb}
use Rattle.std.specs.List.{ends_with}

-- Whether a path names a log or a journal of a database, or what SQLite keeps in memory of a log, and no database.
abbrev pub names_log : List ℕ → Bool
names_log path = (ends_with eqb path (codes "-wal") || ends_with eqb path (codes "-journal")) || ends_with eqb path (codes "-shm")

-- Whether no file of an output has this name: it is that of a folder, or it names a log.
abbrev pub is_reserved : List ℕ → Bool
is_reserved name = bytes_eq name (codes ".") || (bytes_eq name (codes "..") || names_log name)
