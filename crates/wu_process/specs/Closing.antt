-- What is left of an open database after it is closed.
use Rattle.std.specs.Prelude.{◌≡◌, IsTrue}
use Rattle.sqlite_disk.specs.declared.Disk.{Ghosts}
use Rattle.sqlite_disk.specs.declared.Files.{Files}
use Rattle.sqlite_store.specs.FileStore.{log_frames, view}
use Rattle.sqlite_store.specs.FileStore as store
use Rattle.sqlite_store.specs.declared.store.FileStore.{FileStore}
use Rattle.sqlite_trees.specs.View.{IsClean}
use Rattle.sqlite_wal.specs.Reads.{AreClean}
use Rattle.sqlite.specs.Closing.{IsCopied}
use Rattle.sqlite.specs.Files.{FailsToClose, IsClosed}
use Rattle.sqlite.specs.Held.{Held}
use Rattle.sqlite.specs.declared.error.Error.{Error}
use Rattle.wu_process.specs.declared.database.LeftDatabase.{LeftDatabase}
use Rattle.wu_process.specs.declared.database.LeftDatabase.TheVariants as left

module _ {D : Type 0} {g : Ghosts D} where
  -- These are the two files of a closed connection: the log is empty, and the last commit is in the file of the
  -- database.
  pub record IsClosedInto (conn : Held (FileStore D g)) (files : Files D) : Type 0 where
    pub last : FileStore D g
    pub same : store.files last ≡ (files.log, files.db)
    pub quiet : IsClosed conn last
    pub usable : IsTrue (g.is_usable files.log) × IsTrue (g.is_usable files.db)
    pub emptied : IsClean (view last) → IsTrue (view last).is_open × (log_frames last ≡ 0)
    pub copied : AreClean g files.log files.db → IsCopied conn files

  -- The store of a connection whose close failed, and the cause. A crash leaves of it what it could leave before.
  pub record IsLeftUnclosed (conn : Held (FileStore D g)) (error : Error) (last : FileStore D g) : Type 0 where
    pub quiet : IsClosed conn last
    pub cause : IsClean (view last) → FailsToClose conn last error

  abbrev pub IsLeftByClose : Held (FileStore D g) → LeftDatabase D g → Type 0
  IsLeftByClose conn (left.Unopened error rest) = ⊥
  IsLeftByClose conn (left.Closed files) = IsClosedInto conn files
  IsLeftByClose conn (left.Unclosed error last) = IsLeftUnclosed conn error last
