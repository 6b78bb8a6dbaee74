-- What is read of the files that words name.
use Rattle.std.specs.Prelude.{◌≡◌, ◌+◌, ◌-◌, ◌^◌, ℕ, min, Option, Some, None, Result, Ok, Err}
use Rattle.std.specs.IoError.{error_kind}
use Rattle.std.specs.declared.io.Error.{Error}
use Rattle.std.specs.declared.io.ErrorKind.{ErrorKind}
use Rattle.std.specs.declared.io.ErrorKind.TheVariants.{OutOfMemory}
use Rattle.wu_core.specs.declared.fault.Fault.{Fault}
use Rattle.wu_core.specs.declared.fault.Fault.TheVariants.{BadFile, Memory}
use Rattle.wu_core.specs.declared.fault.FileCause.TheVariants.{Unreadable}

-- The bytes that are read of a file: at most so many and one more, and no more than 64 bits can count.
abbrev pub read_at_most : ℕ → ℕ
read_at_most most = min (most + 1) (2 ^ 64 - 1)

-- Of a file that cannot be read nothing is known, and that is no fault; out of memory is one.
abbrev pub ReadsNothing : {T : Type 0} → ErrorKind → Result (Option T) Fault → Type 0
ReadsNothing OutOfMemory result = result ≡ Err Memory
ReadsNothing _ result = result ≡ Ok None

-- A file that was read to its end is known, whatever its length.
abbrev pub KeepsRead : {T : Type 0} → Result ℕ Error → T → Result (Option T) Fault → Type 0
KeepsRead (Ok count) bytes result = result ≡ Ok (Some bytes)
KeepsRead (Err error) bytes result = ReadsNothing (error_kind error) result

-- A script whose text cannot be read is refused.
abbrev pub IsTextOf : {T : Type 0} → Option T → Result T Fault → Type 0
IsTextOf (Some text) result = result ≡ Ok text
IsTextOf None result = result ≡ Err (BadFile 0 Unreadable)
