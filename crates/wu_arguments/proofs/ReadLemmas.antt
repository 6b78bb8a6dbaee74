-- What is known of a reading.
use Rattle.std.proofs.Common.{◌≡◌, ℕ, Option, Result, Ok, Err, IfOk, IfErr, IfSome, OnOk, refl}
use Rattle.std.specs.IoError.{error_kind}
use Rattle.std.specs.declared.io.Error.{Error}
use Rattle.std.specs.declared.io.ErrorKind.{ErrorKind}
use Rattle.std.specs.declared.io.ErrorKind.TheVariants.{OutOfMemory}
use Rattle.wu_core.specs.declared.fault.Fault.{Fault}
use Rattle.wu_core.specs.declared.fault.Fault.TheVariants.{Memory}
use Rattle.wu_arguments.specs.Reading.{KeepsRead, ReadsNothing}

module _ {T : Type 0} (P : T → Type 0) where
  -- this is so of what was read, and nothing but want of memory is told
  abbrev pub IsKnown : Result (Option T) Fault → Type 0
  IsKnown result = IfOk result (λ read. IfSome read P) × IfErr result (λ fault. fault ≡ Memory)

  nothing_known : (kind : ErrorKind) (result : Result (Option T) Fault) → ReadsNothing kind result → IsKnown result
  nothing_known OutOfMemory result is = rw is (tt, refl)
  nothing_known _ result is = rw is (tt, tt)

  pub read_known : (read : Result ℕ Error) (bytes : T) (result : Result (Option T) Fault) → KeepsRead read bytes result → OnOk read (P bytes) → IsKnown result
  read_known (Ok count) bytes result is so = rw is (so, tt)
  read_known (Err error) bytes result is so = nothing_known (error_kind error) result is
