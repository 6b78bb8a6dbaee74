-- What a check reports: a line on a sound project, or what keeps the database from holding one.
use Rattle.std.specs.Prelude.{ℕ, List, ◌++◌, codes}
use Rattle.std.specs.Fmt.{decimal}
use Rattle.std.specs.declared.io.ErrorKind.{ErrorKind}
use Rattle.std.specs.declared.io.ErrorKind.TheVariants.{NotFound, OutOfMemory, PermissionDenied, WouldBlock}
use Rattle.sqlite.specs.declared.error.Error.{Error}
use Rattle.sqlite.specs.declared.error.Error.TheVariants.{SqliteFailure}
use Rattle.sqlite.specs.declared.error.ErrorCode.TheVariants as code
use Rattle.wu_core.specs.Words.{import_kind_word}
use Rattle.wu_audit.specs.Words.{wrong_word}
use Rattle.wu_check.specs.declared.finding.Finding.{Finding}
use Rattle.wu_check.specs.declared.finding.Finding.TheVariants as finding
use Rattle.wu_check.specs.declared.finding.Key.{Key}
use Rattle.wu_check.specs.declared.finding.Key.TheVariants as key
use Rattle.wu_schema.specs.declared.table.ProjectTable.{ProjectTable}
use Rattle.wu_loader.specs.declared.finding.WrongRow.{WrongRow}
use Rattle.wu_loader.specs.declared.totals.OtherSums.{OtherSums}
use Rattle.wu_report.specs.Texts.{line_end}
use Rattle.wu_schema.specs.ProjectTables.{table_name}
use Rattle.wu_schema.specs.declared.table.ProjectTable.TheVariants.{Project}
use Rattle.wu_tables.specs.declared.project.Misfit.{Misfit}
use Rattle.wu_tables.specs.declared.project.Misfit.TheVariants as misfit
use Rattle.wu_check.specs.declared.finding.Counts.{Counts}
use Rattle.wu_cli.specs.declared.reason.Reason.{Reason}
use Rattle.wu_cli.specs.declared.reason.Reason.TheVariants as reason

-- ---- a sound project

abbrev pub sound_line : Counts → List ℕ
sound_line counts =
    codes "ok version=" ++ (decimal counts.version ++ (codes " workunits=" ++ (decimal counts.workunits ++ (codes " results=" ++ (decimal counts.results ++ line_end)))))

-- ---- an unsound one

-- The line of a row that is that of no value, or is missing: its table, and its place there.
abbrev pub row_line : WrongRow → List ℕ
row_line wrong = table_name wrong.table ++ (codes " row " ++ (decimal wrong.place ++ (codes " is missing, or none of a project" ++ line_end)))

-- A table and the key of one of its rows, as printed.
abbrev pub key_text : Key → List ℕ
key_text key.Project = codes "project"
key_text (key.Workunit number) = codes "workunit " ++ decimal number
key_text (key.Grant place) = codes "credit_grant " ++ decimal place
key_text (key.Archived place) = codes "archived " ++ decimal place
key_text (key.Import kind name) = codes "import " ++ import_kind_word kind ++ codes " " ++ name
key_text (key.HostClass host) = codes "host_class " ++ host

-- What is printed behind the name of a table that is missing. Without its first table there is no project.
abbrev pub missing_text : ProjectTable → List ℕ
missing_text Project = codes " is missing: there is no project yet"
missing_text _ = codes " is missing"

abbrev pub misfit_line : Misfit → List ℕ
misfit_line (misfit.Missing table) = codes "table " ++ table_name table ++ missing_text table ++ line_end
misfit_line (misfit.Altered table) = codes "table " ++ table_name table ++ codes " is not that of a project" ++ line_end
misfit_line misfit.HostNames = codes "table host has an index that does not compare names by their bytes" ++ line_end

-- The line of a name that something has and that a new project gives, where there is no table `project`.
abbrev pub barred_line : List ℕ → List ℕ
barred_line name = codes "there is no table project to read, and something has the name " ++ (name ++ (codes ": no project can be made" ++ line_end))

-- The line of a host with the total and the number of grants that its row keeps, and those that its grants have.
abbrev pub sums_line : OtherSums → List ℕ
sums_line sums =
    codes "host " ++ (sums.kept.name ++ (codes ": total " ++ (decimal sums.kept.total ++ (codes " and " ++ (decimal sums.kept.grants ++ (codes " grants, its grants have " ++ (decimal sums.credit ++ (codes " and " ++ (decimal sums.grants ++ line_end)))))))))

-- The line of a name that something has, and that an upgrade from this version gives.
abbrev pub taken_line : ℕ → List ℕ → List ℕ
taken_line version name = codes "version " ++ (decimal version ++ (codes " has no " ++ (name ++ (codes ", and something has that name: an upgrade cannot make it" ++ line_end))))

-- The line of a finding.
abbrev pub finding_line : Finding → List ℕ
finding_line (finding.Tables misfit) = misfit_line misfit
finding_line (finding.Barred name) = barred_line name.now
finding_line (finding.Row wrong) = row_line wrong
finding_line (finding.Sums sums) = sums_line sums
finding_line (finding.Version version) = codes "version " ++ decimal version ++ codes " " ++ codes "is not known" ++ line_end
finding_line (finding.World wrong row) = key_text row ++ (codes " " ++ wrong_word wrong ++ line_end)
finding_line finding.Queue = codes "table queue or one of its indexes is missing, or is not that of a project" ++ line_end
finding_line (finding.Marks place) = codes "queue row " ++ decimal place ++ codes " " ++ codes "is missing, or not that of its workunit" ++ line_end
finding_line (finding.Taken version name) = taken_line version name.now

-- ---- why a database cannot be opened

-- The words for the reason.
abbrev pub reason_words : Reason → List ℕ
reason_words reason.NoFile = codes "there is no such file"
reason_words reason.LogName = codes "its name is that of a log"
reason_words reason.LogAlone = codes "its log or its journal is there, and its file is gone or empty"
reason_words reason.LinkedLog = codes "its log is a link"
reason_words reason.ForeignLog = codes "something else lies in the place of its log or its journal"
reason_words reason.InUse = codes "it is in use"
reason_words reason.NoDatabase = codes "it is no database that this program reads"
reason_words reason.OtherKind = codes "it has auto-vacuum or texts in UTF-16"
reason_words reason.TwoNames = codes "its file has a second name, and its log may lie beside that"
reason_words reason.Journal = codes "it has a rollback journal, which only sqlite3 rolls back"
reason_words reason.Damaged = codes "it is damaged, or the log beside it is of another database"
reason_words reason.FailingDisk = codes "the disk failed"
reason_words reason.FullDisk = codes "the disk is full"
reason_words reason.Refused = codes "the file cannot be opened"
reason_words reason.Memory = codes "out of memory"

-- The line that reports the reason.
abbrev pub reason_line : Reason → List ℕ
reason_line reason.Memory = codes "F14 Memory" ++ line_end
reason_line why = codes "cannot open the database: " ++ (reason_words why ++ line_end)

-- The status of a check that could not be made: 4 for out of memory, else 3.
abbrev pub reason_status : Reason → ℕ
reason_status reason.Memory = 4
reason_status _ = 3

-- The reason of an error of the store.
abbrev pub reason_of : Error → Reason
reason_of (SqliteFailure code.OutOfMemory) = reason.Memory
reason_of (SqliteFailure code.DatabaseBusy) = reason.InUse
reason_of (SqliteFailure code.NotADatabase) = reason.NoDatabase
reason_of (SqliteFailure code.DatabaseCorrupt) = reason.Damaged
reason_of (SqliteFailure code.SystemIoFailure) = reason.FailingDisk
reason_of (SqliteFailure code.DiskFull) = reason.FullDisk
reason_of _ = reason.Refused

-- The reason over a copy in memory, which has no disk: its files fail only if memory runs out.
abbrev pub over_copy : Reason → Reason
over_copy reason.FailingDisk = reason.Memory
over_copy reason.FullDisk = reason.Memory
over_copy other = other

-- The reason of an error of the store over a copy in memory.
abbrev pub reason_of_copy : Error → Reason
reason_of_copy error = over_copy (reason_of error)

-- The reason of an error of the system, on opening a file.
abbrev pub reason_of_file : ErrorKind → Reason
reason_of_file NotFound = reason.NoFile
reason_of_file WouldBlock = reason.InUse
reason_of_file OutOfMemory = reason.Memory
reason_of_file _ = reason.Refused

-- The reason of an error of the system, on reading a file.
abbrev pub reason_of_reading : ErrorKind → Reason
reason_of_reading OutOfMemory = reason.Memory
reason_of_reading PermissionDenied = reason.Refused
reason_of_reading _ = reason.FailingDisk
