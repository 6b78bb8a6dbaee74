-- What a call does to a connection, and what a crash may leave then.
use Rattle.std.specs.Prelude.{◌≡◌, ◌⊎◌, ℕ, false, List, Ok, Err, Result, OnOk, OnErr, IfOk, IfErr, IsTrue}
use Rattle.sqlite_disk.specs.Disk.{MoreFaults}
use Rattle.sqlite.specs.Order.{Row}
use Rattle.sqlite.specs.Tree.{Trees}
use Rattle.sqlite.specs.State.{State, HasCleanDisk, IsUnchanged, Survives, KeepsCommit, Executes}
use Rattle.sqlite.specs.Held.{Held, state}
use Rattle.sqlite.specs.Store.{Ghosts}
use Rattle.sqlite.specs.Effect.{Database}
use Rattle.sqlite.specs.declared.error.Error.{Error}
use Rattle.sqlite.specs.declared.error.Error.TheVariants.{SqliteFailure}
use Rattle.sqlite.specs.declared.error.ErrorCode.TheVariants.{TransactionState}
use Rattle.sqlite.specs.declared.transaction.Transaction.{Transaction}
use Rattle.wu_core.specs.declared.fault.Fault.{Fault}
use Rattle.wu_core.specs.declared.fault.Fault.TheVariants.{Broken, NotAProject}
use Rattle.wu_schema.specs.declared.transaction.Stopped.{Stopped}
use Rattle.wu_schema.specs.declared.transaction.Stopped.TheVariants.{Commit, Statement}
use Rattle.wu_schema.specs.Faults.{commit_fault_of, fault_of, IsStoreFault}

-- A crash leaves only these tables.
pub record LeavesOnly (s : State) (trees : Trees) : Type 0 where
  pub only : (db : Trees) → s.may_leave db → db ≡ trees
  pub stays : s.may_leave trees

-- While the connection is open, its tables are as before, and a crash leaves only them.
pub record IsUndone (old new : State) : Type 0 where
  pub was_open : IsTrue new.is_open → IsTrue old.is_open
  pub now : IsTrue new.is_open → (new.now ≡ old.committed) × (new.committed ≡ old.committed)
  pub left : IsTrue new.is_open → LeavesOnly new old.committed.trees

-- The connection is open, its tables are as before, and a crash leaves only them.
pub record IsRefused (old new : State) : Type 0 where
  pub is_open : IsTrue new.is_open
  pub now : new.now ≡ old.committed
  pub committed : new.committed ≡ old.committed
  pub left : LeavesOnly new old.committed.trees

-- In a transaction nothing is committed, and a crash leaves what it could leave before.
pub record IsPart (old new : State) : Type 0 where
  pub survives : Survives old new (λ _. ⊥)
  pub keeps : HasCleanDisk new → KeepsCommit old new

-- An open connection shows what it showed, or the last commit.
pub record IsBack (old new : State) : Type 0 where
  pub was_open : IsTrue new.is_open → IsTrue old.is_open
  pub now : IsTrue new.is_open → (new.now ≡ old.now) ⊎ (new.now ≡ old.committed)
  pub committed : IsTrue new.is_open → new.committed ≡ old.committed

-- What a question does to a connection, whatever it answers: it begins no transaction, changes nothing and commits
-- nothing.
pub record AsksOnly {S T E : Type 0} (g : Ghosts S) (old new : Held S) (result : Result T E) : Type 0 where
  pub mode : old.in_transaction ≡ false → new.in_transaction ≡ false
  pub unchanged : HasCleanDisk (state g new) → OnOk result (IsUnchanged (state g old) (state g new))
  pub back : HasCleanDisk (state g new) → OnErr result (IsBack (state g old) (state g new))
  pub crash : Survives (state g old) (state g new) (λ _. ⊥)

-- On a clean disk, this holds of the shown database and of an answer.
abbrev pub OnAnswer : {S T E : Type 0} → Ghosts S → Held S → Held S → Result T E → (Database → T → Type 0) → Type 0
OnAnswer g old new result Is = HasCleanDisk (state g new) → IfOk result (Is (state g old).now)

-- On a clean disk, this holds of the shown database and of a refusal.
abbrev pub OnFault : {S T E : Type 0} → Ghosts S → Held S → Held S → Result T E → (Database → E → Type 0) → Type 0
OnFault g old new result Is = HasCleanDisk (state g new) → IfErr result (Is (state g old).now)

-- After `NotAProject` the connection is open, and all is as it was.
abbrev pub Serves : {S : Type 0} → Ghosts S → Held S → Held S → Fault → Type 0
Serves g old new fault = HasCleanDisk (state g new) → fault ≡ NotAProject → IsUnchanged (state g old) (state g new)

-- The disk failed between the two states, or the connection was not open.
abbrev pub BreaksBetween : State → State → Type 0
BreaksBetween old new = MoreFaults old.faults new.faults ⊎ (old.is_open ≡ false)

-- The disk failed in this call, or the connection was not open.
abbrev pub HasBroken : {S : Type 0} → Ghosts S → Held S → Held S → Type 0
HasBroken g old new = BreaksBetween (state g old) (state g new)

-- On a clean disk, `Broken` means that the disk failed in this call, or that the connection was not open.
abbrev pub BreaksTruly : {S : Type 0} → Ghosts S → Held S → Held S → Fault → Type 0
BreaksTruly g old new fault = HasCleanDisk (state g new) → fault ≡ Broken → HasBroken g old new

-- Likewise an error that is reported as `Broken`.
abbrev pub BreaksAfter : {S T : Type 0} → Ghosts S → Held S → Held S → Result T Error → Type 0
BreaksAfter g old new result = HasCleanDisk (state g new) → IfErr result (λ e. fault_of e ≡ Broken → HasBroken g old new)

-- Likewise an error over a database of this kind that is reported as `Broken`.
abbrev pub BreaksOver : {S T : Type 0} → Ghosts S → Held S → Held S → Result T Error → (Database → Type 0) → Type 0
BreaksOver g old new result Over = Over (state g old).now → BreaksAfter g old new result

-- After an error that is reported as `NotAProject`, all is as it was.
abbrev pub ServesAfter : {S T : Type 0} → Ghosts S → Held S → Held S → Result T Error → Type 0
ServesAfter g old new result = HasCleanDisk (state g new) → IfErr result (λ e. fault_of e ≡ NotAProject → IsUnchanged (state g old) (state g new))

-- On a clean disk, an open connection shows what it showed, or the last commit.
abbrev pub GoesBack : {S : Type 0} → Ghosts S → Held S → Held S → Type 0
GoesBack g old new = HasCleanDisk (state g new) → IsBack (state g old) (state g new)

-- Nothing is committed: a crash leaves what it could leave before.
abbrev pub CommitsNothing : {S : Type 0} → Ghosts S → Held S → Held S → Type 0
CommitsNothing g old new = Survives (state g old) (state g new) (λ _. ⊥)

-- What a statement in a transaction does to it, whatever it answers.
pub record StatementFrame {S T E : Type 0} (g : Ghosts S) (old new : Transaction S) (result : Result T E) : Type 0 where
  pub same_reference : new.conn.ghost_name ≡ old.conn.ghost_name
  pub part : IsPart (state g old.conn.now) (state g new.conn.now)
  pub inside : HasCleanDisk (state g new.conn.now) → OnOk result (IsTrue (state g new.conn.now).in_transaction)

-- The text ran with these parameters.
abbrev pub HasRun : List ℕ → Row → State → State → Type 0
HasRun sql params old new = (count : ℕ) × Executes sql params old new (Ok count)

-- With success, the text ran in the transaction.
abbrev pub RunsText : {S T E : Type 0} → Ghosts S → Transaction S → Transaction S → Result T E → List ℕ → Row → Type 0
RunsText g old new result sql params = HasCleanDisk (state g new.conn.now) → OnOk result (HasRun sql params (state g old.conn.now) (state g new.conn.now))

-- An error is that of the text, or the transaction had ended before.
abbrev pub RefusesText : {S T : Type 0} → Ghosts S → Transaction S → Transaction S → Result T Error → List ℕ → Row → Type 0
RefusesText g old new result sql params = HasCleanDisk (state g new.conn.now) → IfErr result (λ e. (e ≡ SqliteFailure TransactionState) ⊎ Executes sql params (state g old.conn.now) (state g new.conn.now) (Err e))

-- What a call does that runs this one statement in a transaction.
pub record RunsStatement {S T : Type 0} (g : Ghosts S) (old new : Transaction S) (result : Result T Error) (sql : List ℕ) (params : Row) : Type 0 where
  -- It commits nothing, so a crash leaves what it left before. After `Ok` the transaction is still open.
  pub writes : StatementFrame g old new result
  -- After `Ok` the statement ran.
  pub ran : RunsText g old new result sql params
  -- An error is the one with which the statement was refused, or means that the transaction had ended before.
  pub refused : RefusesText g old new result sql params

-- What any number of statements in a transaction do to it. With success it is still there, if it was.
pub record TransactionFrame {S T E : Type 0} (g : Ghosts S) (old new : Transaction S) (result : Result T E) : Type 0 where
  pub same_reference : new.conn.ghost_name ≡ old.conn.ghost_name
  pub part : IsPart (state g old.conn.now) (state g new.conn.now)
  pub stays : HasCleanDisk (state g new.conn.now) → OnOk result (IsTrue old.conn.now.in_transaction → IsTrue new.conn.now.in_transaction)

-- With success, the database changed as this relation says.
abbrev pub Does : {S T E : Type 0} → (g : Ghosts S) → Transaction S → Transaction S → Result T E → (Database → Database → Type 0) → Type 0
Does g old new result Makes = HasCleanDisk (state g new.conn.now) → OnOk result (Makes (state g old.conn.now).now (state g new.conn.now).now)

-- What a call makes of a database inside a transaction. Its last step is a statement.
pub record Creates {S T : Type 0} (g : Ghosts S) (old new : Transaction S) (result : Result T Error) (Makes : Database → Database → Type 0) (Over : Database → Type 0) : Type 0 where
  -- It commits nothing, so a crash leaves what it left before. After `Ok` the transaction is still open.
  pub writes : StatementFrame g old new result
  -- After `Ok` this is made.
  pub makes : Does g old new result Makes
  -- Over a database of this kind, an error that counts as `Broken` means that the disk failed in this call, or that the
  -- connection was not open.
  pub breaks : BreaksOver g old.conn.now new.conn.now result Over

-- The transaction's changes of the database are made and committed, and a crash leaves only the tables with them.
pub record IsDone (Makes : Database → Database → Type 0) (old new : State) : Type 0 where
  pub was_open : IsTrue old.is_open
  pub is_open : IsTrue new.is_open
  pub makes : Makes old.now new.now
  pub committed : new.committed ≡ new.now
  pub left : LeavesOnly new new.now.trees

-- These trees are those of a database with the changes made.
abbrev pub IsMade : (Database → Database → Type 0) → Database → Trees → Type 0
IsMade Makes old trees = (after : Database) × (after.trees ≡ trees) × Makes old after

-- The fault that reports why a transaction failed.
abbrev pub stop_fault : Stopped → Fault
stop_fault (Statement error) = fault_of error
stop_fault (Commit error) = commit_fault_of error

-- Over a database of this kind, a transaction fails with `Broken` only if the disk failed in this call, or the
-- connection was not open.
abbrev pub BreaksStopped : {S T : Type 0} → Ghosts S → Held S → Held S → Result T Stopped → (Database → Type 0) → Type 0
BreaksStopped g old new result Over = Over (state g old).now → HasCleanDisk (state g new) → IfErr result (λ stop. stop_fault stop ≡ Broken → HasBroken g old new)

-- Over a database of this kind, the fault is `Broken` only if the disk failed in this call, or the connection was not
-- open.
abbrev pub BreaksFor : {S T : Type 0} → Ghosts S → Held S → Held S → Result T Fault → (Database → Type 0) → Type 0
BreaksFor g old new result Over = Over (state g old).now → IfErr result (BreaksTruly g old new)

-- With success, the transaction's changes are made and committed.
abbrev pub Commits : {S T E : Type 0} → Ghosts S → Held S → Held S → Result T E → (Database → Database → Type 0) → Type 0
Commits g old new result Makes = HasCleanDisk (state g new) → OnOk result (IsDone Makes (state g old) (state g new))

-- After a refused statement all is as before, and the connection is open.
abbrev pub Refuses : {S T : Type 0} → Ghosts S → Held S → Held S → Result T Fault → Type 0
Refuses g old new result = HasCleanDisk (state g new) → IfErr result (λ fault. fault ≡ NotAProject → IsRefused (state g old) (state g new))

-- After any fault the tables are as before, while the connection is open.
abbrev pub Undoes : {S T E : Type 0} → Ghosts S → Held S → Held S → Result T E → Type 0
Undoes g old new result = HasCleanDisk (state g new) → OnErr result (IsUndone (state g old) (state g new))

-- Whatever the answer, a crash leaves what it could leave before, or the changes made.
abbrev pub CrashAllows : {S : Type 0} → Ghosts S → Held S → Held S → (Database → Database → Type 0) → Type 0
CrashAllows g old new Makes = Survives (state g old) (state g new) (IsMade Makes (state g old).now)

-- What one transaction does that makes and commits such changes, at each exit.
pub record Transacts {S T : Type 0} (g : Ghosts S) (old new : Held S) (result : Result T Fault) (Makes : Database → Database → Type 0) : Type 0 where
  -- The connection is in no transaction afterwards.
  pub mode : new.in_transaction ≡ false
  -- After `Ok` the changes are made and committed, the connection is open, and a crash leaves exactly them.
  pub done : Commits g old new result Makes
  -- After `NotAProject` the connection is open, the tables are as before, and a crash leaves exactly them.
  pub refused : Refuses g old new result
  -- After any fault, while the connection is open, the tables are as before, and a crash leaves exactly them.
  pub undone : Undoes g old new result
  -- A fault is `Memory`, `Broken` or `NotAProject`.
  pub told : IfErr result IsStoreFault
  -- Whatever the answer, a crash leaves what it left before, or the tables with the changes.
  pub crash : CrashAllows g old new Makes
