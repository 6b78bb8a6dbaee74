-- How a session answers a line: with which status, and why it was not done.
use Rattle.std.specs.Prelude.{ℕ, Bool, true, false, List, [], ◌++◌, codes, if◌then◌else◌, ◌==◌, Result, Ok, Err}
use Rattle.std.specs.Fmt.{decimal}
use Rattle.std.specs.List.{before_first}
use Rattle.wu_core.specs.declared.fault.Fault.TheVariants.{Output}
use Rattle.wu_report.specs.Texts.{line_end}
use Rattle.wu_arguments.specs.Statuses.{refusal_status}
use Rattle.wu_arguments.specs.declared.refusal.Refusal.{Refusal}
use Rattle.wu_arguments.specs.declared.refusal.Refusal.TheVariants as refusal
use Rattle.wu_arguments.specs.declared.usage.Usage.TheVariants as usage
use Rattle.wu_cli.specs.Endings.{refusal_text}
use Rattle.wu_cli.specs.Troubles.{trouble_status, trouble_text}
use Rattle.wu_cli.specs.declared.line_trouble.LineTrouble.{LineTrouble}
use Rattle.wu_cli.specs.declared.line_trouble.LineTrouble.TheVariants as line

-- the first line of a text, without its end
abbrev pub first_line : List ℕ → List ℕ
first_line text = before_first (λ byte. byte == 10) text

-- why a line is refused: of what clap prints the first line alone
abbrev pub refused_text : Refusal → List ℕ
refused_text (refusal.Words (usage.Refused text)) = first_line text ++ line_end
refused_text why = refusal_text why

-- why a line was not done: its refusal, or why its export is not made
abbrev pub cause_line : LineTrouble → List ℕ
cause_line (line.Refused why) = refused_text why
cause_line (line.Export trouble) = trouble_text trouble

abbrev pub line_trouble_status : LineTrouble → ℕ
line_trouble_status (line.Refused why) = refusal_status why
line_trouble_status (line.Export trouble) = trouble_status trouble

-- The front of a line that reports why a line was not done, with its status.
abbrev pub status_front : ℕ → List ℕ
status_front status = codes "= " ++ decimal status ++ codes " "

-- The line that reports why a line was not done.
abbrev pub undone_line : LineTrouble → List ℕ
undone_line why = status_front (line_trouble_status why) ++ cause_line why

-- Whether a line was not done since the output failed.
abbrev pub cuts_text : LineTrouble → Bool
cuts_text (line.Refused (refusal.Fault Output)) = true
cuts_text _ = false

-- Whether the text of a line was cut.
abbrev pub is_cut : Result Bool LineTrouble → Bool
is_cut (Ok has) = false
is_cut (Err why) = cuts_text why

-- The line that ends the answer to a line; nothing if it has no command.
abbrev pub end_line : Result Bool LineTrouble → List ℕ
end_line (Ok false) = []
end_line (Ok true) = codes "= 0" ++ line_end
end_line (Err why) = undone_line why

-- What goes out after the text of a line: nothing if that was cut, and else the line that ends the answer.
abbrev pub end_text : Result Bool LineTrouble → List ℕ
end_text done = if is_cut done then [] else end_line done

-- The status of a line that was done, or of why one was not.
abbrev pub status_of_done : Result Bool LineTrouble → ℕ
status_of_done (Ok has) = 0
status_of_done (Err why) = line_trouble_status why
