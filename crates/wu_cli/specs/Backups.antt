-- What a backup asks of its copy, and what it reports; why a file is not made.
use Rattle.std.specs.Prelude.{◌≡◌, ℕ, List, ◌++◌, codes, Result, Ok, Err}
use Rattle.std.specs.Fmt.{decimal}
use Rattle.std.specs.declared.io.ErrorKind.{ErrorKind}
use Rattle.std.specs.declared.io.ErrorKind.TheVariants.{NotFound, OutOfMemory, StorageFull}
use Rattle.sqlite.specs.Held.{Held}
use Rattle.sqlite.specs.Store.{Ghosts}
use Rattle.wu_core.specs.declared.fault.Fault.{Fault}
use Rattle.wu_check.specs.Verdicts.{Checks}
use Rattle.wu_check.specs.declared.finding.Counts.{Counts}
use Rattle.wu_check.specs.declared.finding.Verdict.{Verdict}
use Rattle.wu_check.specs.declared.finding.Verdict.TheVariants as verdict
use Rattle.wu_report.specs.Texts.{line_end}
use Rattle.wu_cli.specs.declared.backup.Unmade.{Unmade}
use Rattle.wu_cli.specs.declared.backup.Unmade.TheVariants as unmade
use Rattle.wu_cli.specs.declared.trouble.Trouble.{Trouble}
use Rattle.wu_cli.specs.declared.trouble.Trouble.TheVariants as trouble

-- A sound verdict gives its numbers, and an unsound one or a fault gives that as the trouble.
abbrev pub AreOfVerdict : Result Verdict Fault → Result Counts Trouble → Type 0
AreOfVerdict (Ok (verdict.Sound counts)) done = done ≡ Ok counts
AreOfVerdict (Ok (verdict.Unsound finding)) done = done ≡ Err (trouble.Unsound finding)
AreOfVerdict (Err fault) done = done ≡ Err (trouble.Fault fault)

-- The database is checked, which does not change it, and the numbers of the verdict or its trouble are returned.
pub record CountsSound {S : Type 0} (g : Ghosts S) (old new : Held S) (done : Result Counts Trouble) : Type 0 where
  pub verdict : Result Verdict Fault
  pub checks : Checks g old new verdict
  pub gives : AreOfVerdict verdict done

-- The line that reports a backup.
abbrev pub backup_line : List ℕ → Counts → List ℕ
backup_line to counts =
    codes "backup " ++ (to ++ (codes ": version=" ++ (decimal counts.version ++ (codes " workunits=" ++ (decimal counts.workunits ++ (codes " results=" ++ (decimal counts.results ++ line_end)))))))

-- The words for why a file is not made.
abbrev pub unmade_words : Unmade → List ℕ
unmade_words unmade.Taken = codes "something is there already"
unmade_words unmade.OtherBytes = codes "something else is there already"
unmade_words unmade.LogName = codes "its name is that of a log"
unmade_words unmade.LogBeside = codes "a log or a journal lies beside it"
unmade_words unmade.PartBeside = codes "a part of an earlier one lies beside it"
unmade_words unmade.NoFolder = codes "its folder is not there"
unmade_words unmade.FullDisk = codes "the disk is full"
unmade_words unmade.Refused = codes "the file cannot be made"
unmade_words unmade.Memory = codes "out of memory"

-- The line that reports why the file of a backup is not made.
abbrev pub unmade_line : Unmade → List ℕ
unmade_line unmade.Memory = codes "F14 Memory" ++ line_end
unmade_line why = codes "cannot make the backup: " ++ (unmade_words why ++ line_end)

-- The status where a file is not made: 4 for out of memory, 3 where the disk does not take the file, else 1.
abbrev pub unmade_status : Unmade → ℕ
unmade_status unmade.Memory = 4
unmade_status unmade.FullDisk = 3
unmade_status unmade.Refused = 3
unmade_status _ = 1

-- The reason of an error of the system, on making a file.
abbrev pub unmade_of : ErrorKind → Unmade
unmade_of NotFound = unmade.NoFolder
unmade_of StorageFull = unmade.FullDisk
unmade_of OutOfMemory = unmade.Memory
unmade_of _ = unmade.Refused
