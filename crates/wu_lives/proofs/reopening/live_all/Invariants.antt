use Rattle.std.proofs.Common.{◌≡◌, ◌⊎◌, ◌≤◌, length, take}
use Rattle.sqlite.specs.Files.{file_state}
use Rattle.wu_passes.specs.Projects.{IsSessionOpen}
use Rattle.wu_lives.specs.Lives.{EachDoesAll, TellsLives}
use Rattle.wu_stops.specs.Stopping.{WasClean}
use Rattle.wu_lives.proofs.reopening.live_all.Given as goal

abbrev pub invariant-loop-commands : goal.invariant-loop-commands
invariant-loop-commands g l =
    TellsLives (g.W.Write.contents l.initial.out) (g.W.Write.contents l.out) l.initial.project (take l.commands-index l.lives) l.runs.items l.project
    × WasClean (file_state l.initial.project.conn) (file_state l.project.conn)
    × (IsSessionOpen l.initial.project ⊎ (1 ≤ l.commands-index) → IsSessionOpen l.project)
    × (length l.runs.items ≡ l.commands-index)
    × EachDoesAll (take l.commands-index l.lives) l.runs.items
