-- Troubles that are handed on, and the words of those of an opening and of a backup.
use Rattle.std.proofs.Common.{◌≡◌, ◌++◌, Result, Ok, Err, ap, arith}
use Rattle.std.specs.Prelude.{IsErrAnd, codes}
use Rattle.wu_report.specs.Texts.{line_end}
use Rattle.wu_cli.specs.Backups.{unmade_line, unmade_words}
use Rattle.wu_cli.specs.Checks.{reason_line, reason_words}
use Rattle.wu_cli.specs.declared.backup.Unmade.{Unmade}
use Rattle.wu_cli.specs.declared.backup.Unmade.TheVariants as unmade
use Rattle.wu_cli.specs.declared.reason.Reason.{Reason}
use Rattle.wu_cli.specs.declared.reason.Reason.TheVariants as reason
use Rattle.wu_cli.specs.declared.trouble.Trouble.{Trouble}

-- A trouble that is handed on is that trouble.
pub handed_on : {T : Type 0} (done : Result T Trouble) (told : Trouble) → IsErrAnd done (λ other. other ≡ told) → done ≡ Err told
handed_on (Ok it) told same = absurd same
handed_on (Err other) told same = ap Err same

-- Any reason but out of memory is reported in words.
pub reason_told : (why : Reason) → (why ≡ reason.Memory → ⊥) → reason_line why ≡ codes "cannot open the database: " ++ (reason_words why ++ line_end)
reason_told why other = grind arith

-- Any reason but the want of memory is told in the words of a backup.
pub unmade_told : (why : Unmade) → (why ≡ unmade.Memory → ⊥) → unmade_line why ≡ codes "cannot make the backup: " ++ (unmade_words why ++ line_end)
unmade_told why other = grind arith
