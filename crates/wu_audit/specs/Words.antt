-- What is wrong with a world: the table, the place in it, and the words.
use Rattle.std.specs.Prelude.{ℕ, List, Option, Some, None, codes}
use Rattle.wu_audit.specs.declared.wrong.AuditTable.{AuditTable}
use Rattle.wu_audit.specs.declared.wrong.AuditTable.TheVariants as table
use Rattle.wu_audit.specs.declared.wrong.Wrong.{Wrong}
use Rattle.wu_audit.specs.declared.wrong.Wrong.TheVariants as wrong

abbrev pub table_word : AuditTable → List ℕ
table_word table.Project = codes "project"
table_word table.Workunit = codes "workunit"
table_word table.Grant = codes "credit_grant"
table_word table.Archived = codes "archived"
table_word table.Import = codes "import"
table_word table.HostClass = codes "host_class"

-- The table whose row is wrong.
abbrev pub table_of : Wrong → AuditTable
table_of wrong.NextNumber = table.Project
table_of (wrong.WorkunitForm place) = table.Workunit
table_of (wrong.WorkunitValues place) = table.Workunit
table_of (wrong.ArchivedValues place) = table.Archived
table_of (wrong.ImportVerdicts place) = table.Import
table_of (wrong.WorkunitStates place) = table.Workunit
table_of (wrong.ArchivedMask place) = table.Archived
table_of (wrong.WorkunitNumber place) = table.Workunit
table_of (wrong.WorkunitOrder place) = table.Workunit
table_of (wrong.WorkunitTwice place) = table.Workunit
table_of (wrong.ArchivedNumber place) = table.Archived
table_of (wrong.ArchivedTwice place) = table.Archived
table_of (wrong.ArchivedNameTwice place) = table.Archived
table_of (wrong.GrantValues place) = table.Grant
table_of (wrong.GrantTwice place) = table.Grant
table_of (wrong.ImportTwice place) = table.Import
table_of (wrong.GrantAstray place) = table.Grant
table_of (wrong.GrantMissing place) = table.Workunit
table_of (wrong.ArchivedAstray place) = table.Archived
table_of (wrong.ArchivedMissing place) = table.Workunit
table_of (wrong.NameTaken place) = table.Workunit
table_of (wrong.ClassValues place) = table.HostClass
table_of (wrong.ClassOrder place) = table.HostClass
table_of wrong.EarlyClasses = table.Project

-- The place of the row that is wrong.
abbrev pub place_of_wrong : Wrong → Option ℕ
place_of_wrong wrong.NextNumber = None
place_of_wrong (wrong.WorkunitForm place) = Some place
place_of_wrong (wrong.WorkunitValues place) = Some place
place_of_wrong (wrong.ArchivedValues place) = Some place
place_of_wrong (wrong.ImportVerdicts place) = Some place
place_of_wrong (wrong.WorkunitStates place) = Some place
place_of_wrong (wrong.ArchivedMask place) = Some place
place_of_wrong (wrong.WorkunitNumber place) = Some place
place_of_wrong (wrong.WorkunitOrder place) = Some place
place_of_wrong (wrong.WorkunitTwice place) = Some place
place_of_wrong (wrong.ArchivedNumber place) = Some place
place_of_wrong (wrong.ArchivedTwice place) = Some place
place_of_wrong (wrong.ArchivedNameTwice place) = Some place
place_of_wrong (wrong.GrantValues place) = Some place
place_of_wrong (wrong.GrantTwice place) = Some place
place_of_wrong (wrong.ImportTwice place) = Some place
place_of_wrong (wrong.GrantAstray place) = Some place
place_of_wrong (wrong.GrantMissing place) = Some place
place_of_wrong (wrong.ArchivedAstray place) = Some place
place_of_wrong (wrong.ArchivedMissing place) = Some place
place_of_wrong (wrong.NameTaken place) = Some place
place_of_wrong (wrong.ClassValues place) = Some place
place_of_wrong (wrong.ClassOrder place) = Some place
place_of_wrong wrong.EarlyClasses = None

-- The words for what is wrong with the row.
abbrev pub wrong_word : Wrong → List ℕ
wrong_word wrong.NextNumber = codes "has no next number in range"
wrong_word (wrong.WorkunitForm place) = codes "is not well formed"
wrong_word (wrong.WorkunitValues place) = codes "has a value out of its range"
wrong_word (wrong.ArchivedValues place) = codes "has a value out of its range"
wrong_word (wrong.ImportVerdicts place) = codes "has a verdict that such a file has not"
wrong_word (wrong.WorkunitStates place) = codes "has states or verdicts that do not agree"
wrong_word (wrong.ArchivedMask place) = codes "has an error that is never set"
wrong_word (wrong.WorkunitNumber place) = codes "has a number that was not given"
wrong_word (wrong.WorkunitOrder place) = codes "has a number that is not above the one before"
wrong_word (wrong.WorkunitTwice place) = codes "has the name of an earlier one"
wrong_word (wrong.ArchivedNumber place) = codes "has a number that was not given"
wrong_word (wrong.ArchivedTwice place) = codes "has the number of an earlier one"
wrong_word (wrong.ArchivedNameTwice place) = codes "has the name of an earlier one"
wrong_word (wrong.GrantValues place) = codes "has a value out of its range"
wrong_word (wrong.GrantTwice place) = codes "is for the instance of an earlier one"
wrong_word (wrong.ImportTwice place) = codes "has the kind and the name of an earlier one"
wrong_word (wrong.GrantAstray place) = codes "is not for a valid instance, its host and its credit"
wrong_word (wrong.GrantMissing place) = codes "has a valid instance without a grant"
wrong_word (wrong.ArchivedAstray place) = codes "is not what is kept of its workunit"
wrong_word (wrong.ArchivedMissing place) = codes "is assimilated without an archived row"
wrong_word (wrong.NameTaken place) = codes "has the name of an archived one"
wrong_word (wrong.ClassValues place) = codes "has a class out of its range"
wrong_word (wrong.ClassOrder place) = codes "has a name that is not above the one before"
wrong_word wrong.EarlyClasses = codes "has classes that its version has not"
