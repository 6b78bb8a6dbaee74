-- The texts of answers, and what a run leaves of them in a writer.
use Rattle.std.specs.Prelude.{◌≡◌, ◌≢◌, ℕ, ◌-◌, ◌≤◌, List, length, take, flat_map, Option, Some}
use Rattle.std.specs.Io.KnownBytes.{Appends}
use Rattle.wu_machine.specs.declared.command.Answer.{Answer}
use Rattle.wu_machine.specs.Commands.{reply_of_answer}
use Rattle.wu_core.specs.Words.{import_kind_word}
use Rattle.wu_core.specs.declared.fault.Fault.TheVariants.{Output}
use Rattle.wu_core.specs.declared.import.ImportKind.{ImportKind}
use Rattle.wu_report.specs.Texts.{skip_word}
use Rattle.wu_drive.specs.declared.runs.Run.{Run}
use Rattle.wu_drive.specs.Texts.{reply_text, rows_text}

-- The answer to a file of sends or of reports: how many rows were applied, how many were skipped, and a line for each
-- skipped one.
abbrev pub applied_text : ImportKind → List ℕ → List ℕ → List ℕ
applied_text kind name verdicts = rows_text (import_kind_word kind) name (skip_word kind) verdicts

-- The text of an answer.
abbrev pub answer_text : Answer → List ℕ
answer_text answer = reply_text (reply_of_answer answer)

-- The texts of answers, in order.
abbrev pub answers_text : List Answer → List ℕ
answers_text answers = flat_map answer_text answers

-- A run wrote the texts of as many answers as it acknowledged. The last text is cut only if the run ended with
-- `Output`.
pub record WritesAnswers (old new : Option (List ℕ)) (answers : List Answer) (run : Run) : Type 0 where
  pub counted : length answers ≡ run.acknowledged
  pub whole : run.end ≢ Some Output → Appends old new (answers_text answers)
  pub front : (count : ℕ) × (length (answers_text (take (run.acknowledged - 1) answers)) ≤ count) × Appends old new (take count (answers_text answers))
