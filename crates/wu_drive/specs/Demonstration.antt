-- The demonstration: what it asks for, and what it prints.
use Rattle.std.specs.Prelude.{◌≡◌, ℕ, List, [], ◌++◌, codes, Option, Ok}
use Rattle.std.specs.Io.KnownBytes.{Appends}
use Rattle.wu_core.specs.World.{empty_world}
use Rattle.wu_machine.specs.Machine.{reply, step}
use Rattle.wu_machine.specs.Requests.{Reply, Request, AskBatch}
use Rattle.wu_machine.specs.declared.view.View.TheVariants.{Workunits}
use Rattle.wu_report.specs.Texts.{line_end, view_text}
use Rattle.wu_drive.specs.Texts.{reply_text}

-- The request of the demonstration: a batch of one job with an input of two bytes.
unfoldable pub demonstration : Request
demonstration = AskBatch (codes "b1") [] (codes "name,input" ++ line_end ++ codes "job_1,00ff" ++ line_end)

-- The machine's reply to that batch over a fresh project went out, and then the workunits of the world that it makes.
abbrev pub IsDemonstrated : Option (List ℕ) → Option (List ℕ) → Type 0
IsDemonstrated old new =
    (told : Reply) × (reply empty_world demonstration ≡ Ok told)
    × Appends old new (reply_text told ++ view_text (step empty_world demonstration) Workunits)
