-- Questions: when a text is one, and what one does to a connection, whatever it answers.
use Rattle.std.specs.Prelude.{◌≡◌, ◌⊎◌, false, ℕ, List, Ok, Err, Result, IfErr, IfOk, IsTrue, MatchResult, OnOk, Vec}
use Rattle.sqlite_ast.specs.declared.Select.{Select}
use Rattle.sqlite_ast.specs.declared.Statement.TheVariants as written
use Rattle.sqlite_resolve.specs.Compile.{first}
use Rattle.sqlite_syntax.specs.declared.statement.Parsed.{Parsed}
use Rattle.sqlite.specs.Held.{Held, state}
use Rattle.sqlite.specs.Order.{Row}
use Rattle.sqlite.specs.State.{State, FailsToQuery, HasCleanDisk, IsUnchanged, Shown, Survives}
use Rattle.sqlite.specs.Store.{Ghosts}
use Rattle.sqlite.specs.declared.error.Error.{Error}
use Rattle.wu_core.specs.declared.fault.Fault.{Fault}
use Rattle.wu_core.specs.declared.fault.Fault.TheVariants.{Broken}
use Rattle.wu_schema.specs.Calls.{HasBroken, IsBack}
use Rattle.wu_schema.specs.Faults.{fault_of, IsFailure, IsStoreFault}

-- The text is a SELECT.
pub record IsSelect (text : List ℕ) : Type 0 where
  pub parsed : Parsed
  pub select : Select
  pub read : first text ≡ Ok parsed
  pub is : parsed.statement ≡ written.Select select

-- All is as it was: nothing was asked, or what was asked changed nothing.
abbrev pub IsAsBefore : {S : Type 0} → Ghosts S → Held S → Held S → Type 0
IsAsBefore g old new = (new ≡ old) ⊎ IsUnchanged (state g old) (state g new)

-- What any number of questions do to a connection, whatever they answer. They begin no transaction and commit nothing.
-- Except after `Memory` and `Broken`, all is as it was; after these an open connection shows what it showed, or the
-- last commit. `Broken` means that the disk failed, or that the connection was not open.
pub record Asks {S T : Type 0} (g : Ghosts S) (old new : Held S) (result : Result T Fault) : Type 0 where
  pub mode : old.in_transaction ≡ false → new.in_transaction ≡ false
  pub crash : Survives (state g old) (state g new) (λ _. ⊥)
  pub answered : HasCleanDisk (state g new) → OnOk result (IsAsBefore g old new)
  pub refused : HasCleanDisk (state g new) → IfErr result (λ fault. IsFailure fault ⊎ IsAsBefore g old new)
  pub back : HasCleanDisk (state g new) → IsBack (state g old) (state g new)
  pub broken : HasCleanDisk (state g new) → result ≡ Err Broken → HasBroken g old new

-- On a clean disk, after an answer and after each fault except `Memory` and `Broken`, the connection is open.
abbrev pub ServesUnlessFailed : {S T : Type 0} → Ghosts S → Held S → Result T Fault → Type 0
ServesUnlessFailed g new result =
    HasCleanDisk (state g new)
    → MatchResult result (λ _. IsTrue (state g new).is_open) (λ fault. IsFailure fault ⊎ IsTrue (state g new).is_open)

-- What one question does to a connection, what its answer shows and what its fault tells.
pub record Queries {S T : Type 0} (g : Ghosts S) (old new : Held S) (result : Result T Fault) (sql : List ℕ) (params : Row) (Shows Fails : Ghosts S → Held S → Held S → Result T Fault → List ℕ → Row → Type 0) : Type 0 where
  -- A SELECT begins no transaction and commits nothing. Except after `Memory` and `Broken` all is as before. `Broken`
  -- means a failed disk or a closed connection.
  pub asks : IsSelect sql → Asks g old new result
  -- After a SELECT the connection is open, except after `Memory` and `Broken`.
  pub opens : IsSelect sql → ServesUnlessFailed g new result
  -- After `Ok` this shows the answer of the store to the question.
  pub shows : Shows g old new result sql params
  -- A fault tells this of an error of the question.
  pub fails : Fails g old new result sql params
  -- A fault is `Memory`, `Broken` or `NotAProject`.
  pub told : IfErr result IsStoreFault

-- The fault reports an error of the question.
abbrev pub TellsQuery : List ℕ → Row → State → State → Fault → Type 0
TellsQuery sql params old new fault = (error : Error) × (fault ≡ fault_of error) × FailsToQuery sql params old new error

-- On a clean disk, the rows of the answer are those of the question.
abbrev pub ShowsAll : {S A : Type 0} → Ghosts S → Held S → Held S → Result (Vec Row A) Fault → List ℕ → Row → Type 0
ShowsAll g old new result sql params = HasCleanDisk (state g new) → IfOk result (λ rows. Shown sql params (state g old) (state g new) rows.items)

-- On a clean disk, a fault reports an error of the question.
abbrev pub FailsAll : {S T : Type 0} → Ghosts S → Held S → Held S → Result T Fault → List ℕ → Row → Type 0
FailsAll g old new result sql params = HasCleanDisk (state g new) → IfErr result (TellsQuery sql params (state g old) (state g new))
