-- What opening the two files of a connection again after a crash finds.
use Rattle.std.specs.Prelude.{◌≡◌, IsTrue}
use Rattle.sqlite.specs.Effect.{IsDatabase}
use Rattle.sqlite.specs.State.{State, HasCleanDisk}
use Rattle.wu_schema.specs.Calls.{LeavesOnly}

-- A disk that is clean by the new state was clean by the old one.
abbrev pub WasClean : State → State → Type 0
WasClean old new = HasCleanDisk new → HasCleanDisk old

-- The connection is open over a sound, committed database, and a further crash leaves nothing else.
pub record IsCommitted (s : State) : Type 0 where
  pub is_open : IsTrue s.is_open
  pub sound : IsDatabase s.now
  pub committed : s.committed ≡ s.now
  pub left : LeavesOnly s s.now.trees

-- What is found is what the crash could leave. If the connection was open, that is its last commit.
pub record IsReopened (old new : State) : Type 0 where
  pub found : ∥ old.may_leave new.now.trees ∥₁
  pub exactly : IsTrue old.is_open → new.now.trees ≡ old.committed.trees
  pub whole : IsCommitted new

-- On a clean disk, this is what is found.
abbrev pub FindsAgain : State → State → Type 0
FindsAgain old new = HasCleanDisk new → IsReopened old new
