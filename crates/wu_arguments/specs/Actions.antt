-- What a line asks of a project, with the contents of its files.
use Rattle.std.specs.declared.vec.Vec.{Vec}
use Rattle.std.specs.Prelude.{ℕ, zero, suc, List, [], ◌∷◌, map, option_map, Option, Some, None, Result, Ok, Err}
use Rattle.wu_core.specs.declared.fault.Fault.{Fault}
use Rattle.wu_core.specs.declared.fault.Fault.TheVariants.{BadFile, BadLimit, BadMoment}
use Rattle.wu_core.specs.declared.fault.FileCause.TheVariants.{Unreadable}
use Rattle.wu_core.specs.declared.import.ImportKind.{ImportKind}
use Rattle.wu_core.specs.declared.import.ImportKind.TheVariants.{Batch, Sent, Reported, Classes}
use Rattle.wu_core.specs.Names.{name_of}
use Rattle.wu_feed.specs.Moments.{moment_of}
use Rattle.wu_machine.specs.declared.command.RowsFile.{RowsFile}
use Rattle.wu_machine.specs.declared.command.Command.{Command}
use Rattle.wu_machine.specs.declared.command.Command.TheVariants as command
use Rattle.wu_machine.specs.Cycles.{cycle}
use Rattle.wu_machine.specs.declared.view.View.TheVariants.{Import, Imports, Status}
use Rattle.wu_rules.specs.declared.due.Pass.{Pass}
use Rattle.wu_rules.specs.declared.due.Pass.TheVariants.{Transition, Validate, Assimilate, Delete, Purge}
use Rattle.wu_arguments.specs.declared.action.Action.{Action}
use Rattle.wu_arguments.specs.declared.action.Action.TheVariants.{Commands, Look}
use Rattle.wu_arguments.specs.declared.line.Asking.{Asking}
use Rattle.wu_arguments.specs.declared.line.Asking.TheVariants as asking

-- Passes the value on to the next step, or keeps the fault.
abbrev pub and_then : {A B : Type 0} → Result A Fault → (A → Result B Fault) → Result B Fault
and_then (Ok value) next = next value
and_then (Err fault) next = Err fault

-- The bytes of a file that was read; for any other file `BadFile` with `Unreadable`.
abbrev pub read_bytes : Option (List ℕ) → Result (List ℕ) Fault
read_bytes (Some bytes) = Ok bytes
read_bytes None = Err (BadFile 0 Unreadable)

-- The bytes of the file at this place among the files of a line.
abbrev pub content_of : List (Option (List ℕ)) → ℕ → Result (List ℕ) Fault
content_of [] place = Err (BadFile 0 Unreadable)
content_of (content ∷ contents) zero = read_bytes content
content_of (content ∷ contents) (suc place) = content_of contents place

abbrev pub one : Command → Result Action Fault
one command = Ok (Commands (command ∷ []))

-- The batch of this name. Its jobs are the first file, and its template is the second.
abbrev pub batch : List ℕ → List (Option (List ℕ)) → Result Action Fault
batch text contents =
    and_then (name_of text) (λ name. and_then (content_of contents 0) (λ file. and_then (content_of contents 1) (λ template.
    one (command.Batch (record { name = name; template = template; file = file })))))

-- The file of rows of this name, with its content.
abbrev pub rows_file : List ℕ → List (Option (List ℕ)) → Result RowsFile Fault
rows_file text contents = and_then (name_of text) (λ name. and_then (content_of contents 0) (λ file. Ok (record { name = name; file = file })))

-- The import of this kind, as a command, or its first fault.
abbrev pub prepared_import : ImportKind → List ℕ → List (Option (List ℕ)) → Result Action Fault
prepared_import Batch name contents = batch name contents
prepared_import Sent name contents = and_then (rows_file name contents) (λ file. one (command.Sent file))
prepared_import Reported name contents = and_then (rows_file name contents) (λ file. one (command.Reported file))
prepared_import Classes name contents = and_then (rows_file name contents) (λ file. one (command.Classes file))

-- The moment of a pass that takes one; without it `BadMoment`.
abbrev pub moment_in : Option (List ℕ) → Result ℕ Fault
moment_in (Some text) = moment_of text
moment_in None = Err BadMoment

-- The least age of a purge; without it `BadLimit`.
abbrev pub age_in : Option ℕ → Result ℕ Fault
age_in (Some age) = Ok age
age_in None = Err BadLimit

-- The command of a pass, or its first fault.
abbrev pub pass_command : Pass → Option (List ℕ) → ℕ → Option ℕ → Result Command Fault
pass_command Transition now limit min_age = and_then (moment_in now) (λ now. Ok (command.Transition now limit))
pass_command Validate now limit min_age = Ok (command.Validate limit)
pass_command Assimilate now limit min_age = and_then (moment_in now) (λ now. Ok (command.Assimilate now limit))
pass_command Delete now limit min_age = Ok (command.Delete limit)
pass_command Purge now limit min_age =
    and_then (moment_in now) (λ now. and_then (age_in min_age) (λ age. Ok (command.Purge now limit age)))

abbrev pub all_of_cycle : List ℕ → ℕ → ℕ → Result Action Fault
all_of_cycle text limit min_age = and_then (moment_of text) (λ now. Ok (Commands (cycle now limit min_age)))

-- The view of all imports, or that of the imports of one name.
abbrev pub imports : Option (List ℕ) → Result Action Fault
imports None = Ok (Look Imports)
imports (Some text) = and_then (name_of text) (λ name. Ok (Look (Import name)))

abbrev pub status : List ℕ → Result Action Fault
status text = and_then (moment_of text) (λ now. Ok (Look (Status now)))

-- The command, the commands or the view that a line asks for, or the first fault among its options from left to right.
abbrev pub prepared : Asking → List (Option (List ℕ)) → Result Action Fault
prepared (asking.Import kind name file template) contents = prepared_import kind name contents
prepared (asking.Pass pass now limit min_age) contents = and_then (pass_command pass now limit min_age) one
prepared (asking.Cycle now limit min_age) contents = all_of_cycle now limit min_age
prepared (asking.Cancel workunit) contents = and_then (name_of workunit) (λ name. one (command.Cancel name))
prepared (asking.Show view) contents = Ok (Look view)
prepared (asking.Imports name) contents = imports name
prepared (asking.Status now) contents = status now
prepared asking.Upgrade contents = one command.Upgrade

-- The contents of files, as lists of bytes.
abbrev pub content_bytes : {A : Type 0} → Option (Vec ℕ A) → Option (List ℕ)
content_bytes = option_map (λ content. content.items)

abbrev pub bytes_of : {A : Type 0} → List (Option (Vec ℕ A)) → List (Option (List ℕ))
bytes_of = map content_bytes
