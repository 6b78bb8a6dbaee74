-- What a call may return that may be out of memory.
use Rattle.std.specs.Prelude.{◌≡◌, ◌⊎◌, Result, Err, IfErr, IfOk}
use Rattle.wu_core.specs.declared.fault.Fault.{Fault}
use Rattle.wu_core.specs.declared.fault.Fault.TheVariants.{Memory}

-- The call fails only with out of memory.
abbrev pub FailsForMemory : {T : Type 0} → Result T Fault → Type 0
FailsForMemory result = IfErr result (λ fault. fault ≡ Memory)

-- What a call returns that fails only with out of memory.
pub record OkOrWantsMemory {T : Type 0} (result : Result T Fault) (Holds : T → Type 0) : Type 0 where
  -- After `Ok` this holds of the value.
  pub ok : IfOk result Holds
  -- The only fault is out of memory.
  pub fault : FailsForMemory result

-- The result is exactly this one, or out of memory.
abbrev pub IsOrWantsMemory : {T : Type 0} → Result T Fault → Result T Fault → Type 0
IsOrWantsMemory result expected = (result ≡ expected) ⊎ (result ≡ Err Memory)

-- If this result is expected to be an error, the call returns exactly that error, and never out of memory.
abbrev pub TellsRefusal : {T : Type 0} → Result T Fault → Result T Fault → Type 0
TellsRefusal result expected = IfErr expected (λ fault. result ≡ Err fault)
