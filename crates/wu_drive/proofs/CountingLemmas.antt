-- How many workunits the last command handled, from command to command.
use Rattle.std.proofs.Common.{◌≡◌, ◌∙◌, ℕ, ◌+◌, ◌<◌, List, [], ◌∷◌, ◌++◌, length, get_or, map, take, Option, Ok, refl, sym, ap}
use Rattle.std.proofs.lemmas.List.{take_more}
use Rattle.wu_core.specs.World.{World}
use Rattle.wu_machine.specs.declared.command.Answer.{Answer}
use Rattle.wu_machine.specs.declared.command.Command.{Command}
use Rattle.wu_machine.specs.Commands.{reply_of_answer, request_of}
use Rattle.wu_machine.specs.Machine.{fold_steps, reply, step}
use Rattle.wu_drive.specs.Counting.{handled_by, last_handled}
use Rattle.wu_drive.specs.Driving.{world_after}

last_more : (world : World) (commands : List Command) (command : Command)
    → last_handled world (commands ++ command ∷ []) ≡ handled_by (reply (fold_steps world (map request_of commands)) (request_of command))
last_more world [] command = refl
last_more world (first ∷ []) command = refl
last_more world (first ∷ next ∷ commands) command = last_more (step world (request_of first)) (next ∷ commands) command

-- the command at this place was answered
pub counts_next : (world : World) (commands : List Command) (i : ℕ) (command d : Command) → i < length commands → get_or commands i d ≡ command
    → (answer : Answer) (handled : Option ℕ) → handled ≡ handled_by (Ok (reply_of_answer answer))
    → reply (world_after world commands i) (request_of command) ≡ Ok (reply_of_answer answer) → handled ≡ last_handled world (take (i + 1) commands)
counts_next world commands i command d low there answer handled is told =
    is ∙ ap handled_by (sym told) ∙ sym (last_more world (take i commands) command)
    ∙ ap (λ cs. last_handled world cs) (sym (take_more commands i d low ∙ ap (λ c. take i commands ++ c ∷ []) there))
