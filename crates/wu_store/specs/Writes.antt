-- What the calls do that write in a transaction.
use Rattle.std.specs.Prelude.{Result}
use Rattle.sqlite.specs.Effect.{Database}
use Rattle.sqlite.specs.Store.{Ghosts}
use Rattle.sqlite.specs.declared.error.Error.{Error}
use Rattle.sqlite.specs.declared.transaction.Transaction.{Transaction}
use Rattle.wu_core.specs.World.{World}
use Rattle.wu_schema.specs.Calls.{Does, StatementFrame, TransactionFrame}
use Rattle.wu_schema.specs.Made.{Named}
use Rattle.wu_schema.specs.Others.{Spares, SparesWith, tables_of_workunits}
use Rattle.wu_schema.specs.Refines.{Refines}
use Rattle.wu_store.specs.Changes.{DoesNothing}

-- A represented world becomes what this makes of it.
abbrev pub ChangesWorld : (World → World) → Database → Database → Type 0
ChangesWorld change old new = (world : World) → Refines old world → Refines new (change world)

-- What a statement over one table of a project does.
pub record Writes {S T : Type 0} (g : Ghosts S) (old new : Transaction S) (result : Result T Error) (Makes Keeps : Database → Database → Type 0) (table : Named) : Type 0 where
  -- It commits nothing, so a crash leaves what it left before. After `Ok` the transaction is still open.
  pub writes : StatementFrame g old new result
  -- After `Ok` this is made of the tables.
  pub makes : Does g old new result Makes
  -- After `Ok` this stays beside it.
  pub keeps : Does g old new result Keeps
  -- After `Ok`, if its table is there, the tables of other programs stay.
  pub spares : Does g old new result (Spares table)

-- What a call does whose last step is a statement, and which tables of other programs stay.
pub record WritesSparing {S T : Type 0} (g : Ghosts S) (old new : Transaction S) (result : Result T Error) (Makes SparesIf : Database → Database → Type 0) : Type 0 where
  -- It commits nothing, so a crash leaves what it left before. After `Ok` the transaction is still open.
  pub writes : StatementFrame g old new result
  -- After `Ok` this is made of the tables.
  pub makes : Does g old new result Makes
  -- After `Ok` the tables of other programs stay, under these conditions.
  pub spares : Does g old new result SparesIf

-- What any number of statements do.
pub record Works {S T : Type 0} (g : Ghosts S) (old new : Transaction S) (result : Result T Error) (Makes : Database → Database → Type 0) : Type 0 where
  -- It commits nothing, so a crash leaves what it left before. After `Ok` the transaction is open if it was.
  pub works : TransactionFrame g old new result
  -- After `Ok` this is made of the tables.
  pub makes : Does g old new result Makes

-- What a call does that puts a part of a workunit in place of the present one, unless they are the same.
pub record PutsUnless {S T : Type 0} (g : Ghosts S) (old new : Transaction S) (result : Result T Error) (AreSame : Type 0) (Puts : Database → Database → Type 0) : Type 0 where
  -- It commits nothing, so a crash leaves what it left before. After `Ok` the transaction is open if it was.
  pub works : TransactionFrame g old new result
  -- After `Ok` the part is put in its place.
  pub puts : Does g old new result Puts
  -- If they are the same, nothing is written and the call succeeds.
  pub idle : AreSame → DoesNothing old new result
  -- After `Ok`, if the tables of workunits are there, those of other programs stay.
  pub spares : Does g old new result (SparesWith tables_of_workunits)
