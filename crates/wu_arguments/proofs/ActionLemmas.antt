-- An action that is made of what a call reads.
use Rattle.std.proofs.Common.{◌≡◌, ◌∷◌, [], Result, Ok, Err, inl, inr, refl, subst}
use Rattle.wu_core.specs.Reads.{IsOrWantsMemory, TellsRefusal}
use Rattle.wu_core.specs.declared.fault.Fault.{Fault}
use Rattle.wu_core.specs.declared.fault.Fault.TheVariants.{Memory}
use Rattle.wu_machine.specs.declared.command.Command.{Command}
use Rattle.wu_arguments.specs.Actions.{and_then}
use Rattle.wu_arguments.specs.declared.action.Action.{Action}
use Rattle.wu_arguments.specs.declared.action.Action.TheVariants.{Commands}

-- what is exactly as expected is refused as expected
pub told_same : (result expected : Result Action Fault) → result ≡ expected → TellsRefusal result expected
told_same result (Ok action) is = tt
told_same result (Err fault) is = is

module _ {A : Type 0} (act : A → Action) where
  abbrev IsAction : Result Action Fault → Result A Fault → Type 0
  IsAction result read = record {
    action : IsOrWantsMemory result (and_then read (λ value. Ok (act value)));
    told : TellsRefusal result (and_then read (λ value. Ok (act value)));
  }

  -- it was read
  pub had : (value : A) (read : Result A Fault) (result : Result Action Fault) → IsOrWantsMemory (Ok value) read → IsOrWantsMemory result (Ok (act value))
      → IsAction result read
  had value read result (inl is) gave = subst (IsAction result) is (record { action = gave; told = tt })
  had value read result (inr wrong) gave = absurd (cc wrong)

  -- it was not, or memory was wanted for it
  pub not_had : (fault : Fault) (read : Result A Fault) (result : Result Action Fault) → result ≡ Err fault → IsOrWantsMemory (Err fault) read
      → TellsRefusal (Err fault) read → IsAction result read
  not_had fault (Ok value) result is (inl wrong) told = absurd (cc wrong)
  not_had fault (Ok value) result is (inr wants) told =
      let memory : fault ≡ Memory = cc wants in
      rw (is, memory) (record { action = inr refl; told = tt })
  not_had fault (Err other) result is gave told =
      let same : fault ≡ other = cc told in
      rw (is, same) (record { action = inl refl; told = refl })

-- likewise one of a single command
module _ {A : Type 0} (make : A → Command) where
  abbrev single : A → Action
  single value = Commands (make value ∷ [])

  pub made : (value : A) (read : Result A Fault) (result : Result Action Fault) → IsOrWantsMemory (Ok value) read → IsOrWantsMemory result (Ok (single value))
      → IsAction single result read
  made value read result was gave = had single value read result was gave

  pub not_made : (fault : Fault) (read : Result A Fault) (result : Result Action Fault) → result ≡ Err fault → IsOrWantsMemory (Err fault) read
      → TellsRefusal (Err fault) read → IsAction single result read
  not_made fault read result is gave told = not_had single fault read result is gave told
