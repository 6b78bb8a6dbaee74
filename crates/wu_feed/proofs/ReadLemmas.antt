-- What was read, and what is passed on of a refusal.
use Rattle.std.proofs.Common.{◌≡◌, inl, inr, Result, Ok, Err, ap, sym}
use Rattle.std.specs.Result.{IsErr, IsErrAnd}
use Rattle.wu_core.specs.Reads.{IsOrWantsMemory}
use Rattle.wu_core.specs.declared.fault.Fault.{Fault}
use Rattle.wu_core.specs.declared.fault.Fault.TheVariants.{Memory}

-- a refusal that is passed on is the same
pub passed_on : {T : Type 0} (fault : Fault) (result : Result T Fault) → IsErr result × IsErrAnd result (λ told. told ≡ fault) → result ≡ Err fault
passed_on fault (Err told) h = ap Err h.1
passed_on fault (Ok value) h = absurd h.1

pub for_memory : {T : Type 0} (result whole : Result T Fault) → IsErr result × IsErrAnd result (λ told. told ≡ Memory) → IsOrWantsMemory result whole
for_memory result whole h = inr (passed_on Memory result h)

pub is_read : {T : Type 0} (value : T) (read : Result T Fault) → IsOrWantsMemory (Ok value) read → read ≡ Ok value
is_read value read (inl e) = sym e
is_read value read (inr e) = cc e

pub value_read : {T : Type 0} (value expected : T) → IsOrWantsMemory (Ok value) (Ok expected) → expected ≡ value
value_read value expected (inl e) = cc e
value_read value expected (inr e) = cc e

-- a read that always gives something is refused only for want of memory
pub refused : {T U : Type 0} (fault : Fault) (expected : T) (whole : Result U Fault) → IsOrWantsMemory (Err fault) (Ok expected) → IsOrWantsMemory (Err fault) whole
refused fault expected whole (inl e) = cc e
refused fault expected whole (inr e) = inr (cc e)
