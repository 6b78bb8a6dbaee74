-- What is reported of a world that is not sound, and in which order: single rows first, then keys, then whether rows
-- agree, and last the classes of hosts. Of one kind, the first row in the order of its table is reported.
use Rattle.std.specs.Prelude.{◌≢◌, ◌<◌, All, AllPairs, Option, Some, None}
use Rattle.wu_core.specs.Classes.{AreClassed, AreInOrder, IsClassed}
use Rattle.wu_core.specs.Formed.{IsWorkunit}
use Rattle.wu_core.specs.Storable.{AreStorable, IsArchiveStorable, IsStorable, IsStoredArchived, LoadsNext}
use Rattle.wu_core.specs.World.{World, IsInOrder}
use Rattle.wu_rules.specs.Consistent.{IsConsistent}
use Rattle.wu_machine.specs.Sound.{HasClassesInTime, HasPossibleMask, IsGiven}
use Rattle.wu_audit.specs.Against.{IsFirstAgainst, IsFirstPairAgainst}
use Rattle.wu_audit.specs.Keys.{AreApart, AreOtherImports, IsBefore}
use Rattle.wu_audit.specs.Records.{IsBackedGrant, IsBackedRow, IsGranted, IsArchivedIfDone, IsNameFree}
use Rattle.wu_audit.specs.Rows.{IsRightGrant, IsRightImport}
use Rattle.wu_audit.specs.declared.wrong.Wrong.{Wrong}
use Rattle.wu_audit.specs.declared.wrong.Wrong.TheVariants as wrong

-- ---- what holds before each check: all that the earlier checks ask

abbrev pub ToForm : World → Type 0
ToForm world = LoadsNext world

abbrev pub ToValues : World → Type 0
ToValues world = ToForm world × All IsWorkunit world.workunits

abbrev pub ToArchivedValues : World → Type 0
ToArchivedValues world = ToValues world × AreStorable world

abbrev pub ToVerdicts : World → Type 0
ToVerdicts world = ToArchivedValues world × IsArchiveStorable world

abbrev pub ToStates : World → Type 0
ToStates world = ToVerdicts world × All IsRightImport world.imports

abbrev pub ToArchivedMask : World → Type 0
ToArchivedMask world = ToStates world × All IsConsistent world.workunits

abbrev pub ToNumber : World → Type 0
ToNumber world = ToArchivedMask world × All HasPossibleMask world.archived

abbrev pub ToOrder : World → Type 0
ToOrder world = ToNumber world × All (λ w. IsGiven world w.number) world.workunits

abbrev pub ToTwice : World → Type 0
ToTwice world = ToOrder world × IsInOrder world

abbrev pub ToArchivedNumber : World → Type 0
ToArchivedNumber world = ToTwice world × AllPairs (λ one other. one.name ≢ other.name) world.workunits

abbrev pub ToArchivedTwice : World → Type 0
ToArchivedTwice world = ToArchivedNumber world × All (λ row. IsGiven world row.number) world.archived

abbrev pub ToArchivedNameTwice : World → Type 0
ToArchivedNameTwice world = ToArchivedTwice world × AllPairs (λ one other. one.number ≢ other.number) world.archived

abbrev pub ToGrantValues : World → Type 0
ToGrantValues world = ToArchivedNameTwice world × AllPairs (λ one other. one.name ≢ other.name) world.archived

abbrev pub ToGrantTwice : World → Type 0
ToGrantTwice world = ToGrantValues world × All (IsRightGrant world) world.grants

abbrev pub ToImportTwice : World → Type 0
ToImportTwice world = ToGrantTwice world × AllPairs AreApart world.grants

-- All rows and keys are right by themselves.
pub record ToGrantAstray (world : World) : Type 0 where
  pub earlier : ToImportTwice world
  pub imported_once : AllPairs AreOtherImports world.imports

abbrev pub ToGrantMissing : World → Type 0
ToGrantMissing world = ToGrantAstray world × All (IsBackedGrant world.workunits) world.grants

-- Workunits and grants agree as well.
pub record ToArchivedAstray (world : World) : Type 0 where
  pub earlier : ToGrantMissing world
  pub granted : All (IsGranted world.grants) world.workunits

abbrev pub ToArchivedMissing : World → Type 0
ToArchivedMissing world = ToArchivedAstray world × All (IsBackedRow world.workunits) world.archived

abbrev pub ToNameTaken : World → Type 0
ToNameTaken world = ToArchivedMissing world × All (IsArchivedIfDone world.archived) world.workunits

-- Workunits and archived rows agree as well.
pub record ToClassValues (world : World) : Type 0 where
  pub earlier : ToNameTaken world
  pub free : All (IsNameFree world.archived) world.workunits

abbrev pub ToClassOrder : World → Type 0
ToClassOrder world = ToClassValues world × AreClassed world.classes

abbrev pub ToEarlyClasses : World → Type 0
ToEarlyClasses world = ToClassOrder world × AreInOrder world.classes

-- All parts of soundness hold, except that hosts of grants have names.
abbrev pub ToEnd : World → Type 0
ToEnd world = ToEarlyClasses world × HasClassesInTime world

-- ---- what is reported

-- This is wrong with the world, at the first row where it is, and nothing that is checked earlier is wrong.
abbrev pub StandsAgainst : World → Wrong → Type 0
StandsAgainst world wrong.NextNumber = ¬ LoadsNext world
StandsAgainst world (wrong.WorkunitForm place) = ToForm world × IsFirstAgainst IsWorkunit world.workunits place
StandsAgainst world (wrong.WorkunitValues place) = ToValues world × IsFirstAgainst IsStorable world.workunits place
StandsAgainst world (wrong.ArchivedValues place) =
    ToArchivedValues world × IsFirstAgainst IsStoredArchived world.archived place
StandsAgainst world (wrong.ImportVerdicts place) = ToVerdicts world × IsFirstAgainst IsRightImport world.imports place
StandsAgainst world (wrong.WorkunitStates place) = ToStates world × IsFirstAgainst IsConsistent world.workunits place
StandsAgainst world (wrong.ArchivedMask place) =
    ToArchivedMask world × IsFirstAgainst HasPossibleMask world.archived place
StandsAgainst world (wrong.WorkunitNumber place) =
    ToNumber world × IsFirstAgainst (λ w. IsGiven world w.number) world.workunits place
StandsAgainst world (wrong.WorkunitOrder place) =
    ToOrder world × IsFirstPairAgainst (λ one other. one.number < other.number) world.workunits place
StandsAgainst world (wrong.WorkunitTwice place) =
    ToTwice world × IsFirstPairAgainst (λ one other. one.name ≢ other.name) world.workunits place
StandsAgainst world (wrong.ArchivedNumber place) =
    ToArchivedNumber world × IsFirstAgainst (λ row. IsGiven world row.number) world.archived place
StandsAgainst world (wrong.ArchivedTwice place) =
    ToArchivedTwice world × IsFirstPairAgainst (λ one other. one.number ≢ other.number) world.archived place
StandsAgainst world (wrong.ArchivedNameTwice place) =
    ToArchivedNameTwice world × IsFirstPairAgainst (λ one other. one.name ≢ other.name) world.archived place
StandsAgainst world (wrong.GrantValues place) = ToGrantValues world × IsFirstAgainst (IsRightGrant world) world.grants place
StandsAgainst world (wrong.GrantTwice place) = ToGrantTwice world × IsFirstPairAgainst AreApart world.grants place
StandsAgainst world (wrong.ImportTwice place) = ToImportTwice world × IsFirstPairAgainst AreOtherImports world.imports place
StandsAgainst world (wrong.GrantAstray place) =
    ToGrantAstray world × IsFirstAgainst (IsBackedGrant world.workunits) world.grants place
StandsAgainst world (wrong.GrantMissing place) =
    ToGrantMissing world × IsFirstAgainst (IsGranted world.grants) world.workunits place
StandsAgainst world (wrong.ArchivedAstray place) =
    ToArchivedAstray world × IsFirstAgainst (IsBackedRow world.workunits) world.archived place
StandsAgainst world (wrong.ArchivedMissing place) =
    ToArchivedMissing world × IsFirstAgainst (IsArchivedIfDone world.archived) world.workunits place
StandsAgainst world (wrong.NameTaken place) =
    ToNameTaken world × IsFirstAgainst (IsNameFree world.archived) world.workunits place
StandsAgainst world (wrong.ClassValues place) = ToClassValues world × IsFirstAgainst IsClassed world.classes place
StandsAgainst world (wrong.ClassOrder place) = ToClassOrder world × IsFirstPairAgainst IsBefore world.classes place
StandsAgainst world wrong.EarlyClasses = ToEarlyClasses world × ¬ HasClassesInTime world

-- `None` if this property holds; else the first thing that is wrong with the world.
abbrev pub FindsWrong : (World → Type 0) → World → Option Wrong → Type 0
FindsWrong Holds world None = Holds world
FindsWrong Holds world (Some wrong) = StandsAgainst world wrong
