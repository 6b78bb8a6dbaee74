-- What a function that asks says at an exit with a fault of its own.
use Rattle.std.proofs.Common.{◌≡◌, Result, Ok, Err, inl, inr, refl, subst, sym, ◌∙◌}
use Rattle.std.specs.Prelude.{◌≢◌, ◌⊎◌, IfErr, IsErrAnd, MatchResult}
use Rattle.wu_core.specs.declared.fault.Fault.{Fault}
use Rattle.wu_core.specs.declared.fault.Fault.TheVariants.{Broken, Ended, Memory, NameUsed, NotAProject}
use Rattle.wu_machine.specs.Imports.{Given}
use Rattle.wu_schema.specs.Faults.{IsFailure, IsStoreFault}
use Rattle.wu_schema.specs.declared.rows.StoredImport.{StoredImport}
use Rattle.wu_schema.proofs.ReadLemmas.{if_err}
use Rattle.wu_store.proofs.AskLemmas.{err_handed, never_broken}
use Rattle.wu_plans.specs.Planning.{RefusesRepeat}

-- what `?` hands on is another fault where the first one was
pub handed_other : {U : Type 0} (r : Result U Fault) (fault other : Fault) → IsErrAnd r (λ told. told ≡ fault) → fault ≢ other → r ≢ Err other
handed_other (Ok y) fault other same differs is = absurd same
handed_other (Err told) fault other same differs is = differs (sym same ∙ (let it = is in cc))

-- a fault of the store is not that the session has ended
pub store_going : (fault : Fault) → IsStoreFault fault → fault ≢ Ended
store_going fault (inl memory) is = let no = sym memory ∙ is in cc
store_going fault (inr (inl broken)) is = let no = sym broken ∙ is in cc
store_going fault (inr (inr refused)) is = let no = sym refused ∙ is in cc

-- so it is handed on
pub handed_told : {U : Type 0} (r : Result U Fault) (fault : Fault) → IsErrAnd r (λ told. told ≡ fault) → IsStoreFault fault → IfErr r IsStoreFault
handed_told r fault same = err_handed r fault same IsStoreFault

pub handed_going : {U : Type 0} (r : Result U Fault) (fault : Fault) → IsErrAnd r (λ told. told ≡ fault) → IsStoreFault fault → IfErr r (λ told. told ≢ Ended)
handed_going r fault same told = err_handed r fault same (λ other. other ≢ Ended) (store_going fault told)

-- ---- what wants memory alone

pub memory_unbroken : {U : Type 0} (r : Result U Fault) → IfErr r (λ fault. fault ≡ Memory) → r ≢ Err Broken
memory_unbroken r memory = never_broken r (if_err r _ _ (λ fault. inl) memory)

pub memory_told : {U : Type 0} (r : Result U Fault) → IfErr r (λ fault. fault ≡ Memory) → IfErr r IsStoreFault
memory_told r = if_err r _ _ (λ fault. inl)

pub memory_unrefused : {U : Type 0} (r : Result U Fault) → IfErr r (λ fault. fault ≡ Memory) → IfErr r (λ fault. fault ≢ NotAProject)
memory_unrefused r = if_err r _ _ (λ fault memory is. let no = sym memory ∙ is in cc)

-- ---- what is told as a fault of the store, and a repeat that is refused

pub told_going : {U : Type 0} (r : Result U Fault) → IfErr r IsStoreFault → IfErr r (λ told. told ≢ Ended)
told_going r = if_err r _ _ store_going

module _ {U : Type 0} (given : Given) (earlier : StoredImport) (r : Result U Fault) where
  -- it is none of these faults
  repeat_other : (other : Fault) → Memory ≢ other → NameUsed ≢ other → (fault : Fault) → RefusesRepeat given earlier fault → fault ≢ other
  repeat_other other memory used fault (inl is) = λ so. memory (sym is ∙ so)
  repeat_other other memory used fault (inr (is, differs)) = λ so. used (sym is ∙ so)

  repeat_not : (other : Fault) → Memory ≢ other → NameUsed ≢ other → IfErr r (RefusesRepeat given earlier) → IfErr r (λ told. told ≢ other)
  repeat_not other memory used = if_err r _ _ (repeat_other other memory used)

  pub repeat_unbroken : IfErr r (RefusesRepeat given earlier) → r ≢ Err Broken
  repeat_unbroken refuses is = subst (λ (told : Result U Fault). IfErr told (λ fault. fault ≢ Broken)) is (repeat_not Broken (λ no. cc) (λ no. cc) refuses) refl

  pub repeat_going : IfErr r (RefusesRepeat given earlier) → IfErr r (λ told. told ≢ Ended)
  repeat_going = repeat_not Ended (λ no. cc) (λ no. cc)

  pub repeat_unrefused : IfErr r (RefusesRepeat given earlier) → IfErr r (λ told. told ≢ NotAProject)
  repeat_unrefused = repeat_not NotAProject (λ no. cc) (λ no. cc)

-- ---- what serves

-- an open connection serves, whatever is answered
pub serves_open : {U Q : Type 0} (r : Result U Fault) → Q → MatchResult r (λ _. Q) (λ fault. IsFailure fault ⊎ Q)
serves_open (Ok y) still = still
serves_open (Err fault) still = inr still

-- what serves after a fault does so after what `?` hands on
pub serves_handed : {U Q : Type 0} (r : Result U Fault) (fault : Fault) → IsErrAnd r (λ other. other ≡ fault) → IsFailure fault ⊎ Q → MatchResult r (λ _. Q) (λ fault. IsFailure fault ⊎ Q)
serves_handed (Ok y) fault same serves = absurd same
serves_handed {U} {Q} (Err other) fault same serves = subst (λ f. IsFailure f ⊎ Q) (sym same) serves
