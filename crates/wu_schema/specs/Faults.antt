-- The fault that reports an error of the store.
use Rattle.std.specs.Prelude.{◌≡◌, ◌⊎◌}
use Rattle.sqlite.specs.declared.error.Error.{Error}
use Rattle.sqlite.specs.declared.error.Error.TheVariants.{SqliteFailure, SqlInputError}
use Rattle.sqlite.specs.declared.error.ErrorCode.TheVariants as code
use Rattle.sqlite_resolve.specs.declared.error.CompileError.TheVariants as compile
use Rattle.sqlite_syntax.specs.declared.error.ParseError.TheVariants as parse
use Rattle.wu_core.specs.declared.fault.Fault.{Fault}
use Rattle.wu_core.specs.declared.fault.Fault.TheVariants.{NotAProject, Memory, Broken}

-- The fault of an error. `Memory`: the store, its compiler or its parser is out of memory. `Broken`: the disk failed or
-- is full, the database is damaged, the connection is closed, or a size is too big. `NotAProject`: any other error.
abbrev pub fault_of : Error → Fault
fault_of (SqliteFailure code.OutOfMemory) = Memory
fault_of (SqlInputError compile.OutOfMemory) = Memory
fault_of (SqlInputError (compile.Parse parse.OutOfMemory)) = Memory
fault_of (SqliteFailure code.SystemIoFailure) = Broken
fault_of (SqliteFailure code.DatabaseCorrupt) = Broken
fault_of (SqliteFailure code.DiskFull) = Broken
fault_of (SqliteFailure code.Closed) = Broken
fault_of (SqliteFailure code.TooBig) = Broken
fault_of _ = NotAProject

abbrev pub unless_known : Fault → Fault
unless_known NotAProject = Broken
unless_known fault = fault

-- The fault of an error of a commit or a rollback: `Memory`, or `Broken` for any other error.
abbrev pub commit_fault_of : Error → Fault
commit_fault_of error = unless_known (fault_of error)

-- The fault is one of the store: `Memory`, `Broken`, or `NotAProject` for a statement or a row.
abbrev pub IsStoreFault : Fault → Type 0
IsStoreFault fault = (fault ≡ Memory) ⊎ ((fault ≡ Broken) ⊎ (fault ≡ NotAProject))

-- The fault is `Memory` or `Broken`.
abbrev pub IsFailure : Fault → Type 0
IsFailure fault = (fault ≡ Memory) ⊎ (fault ≡ Broken)
