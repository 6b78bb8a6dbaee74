-- Histories of sessions over one project: what each session reported, and the world that each left.
use Rattle.std.specs.Prelude.{◌≡◌, ◌⊎◌, ℕ, ◌≤◌, Bool, true, List, [], ◌∷◌, length, map, take, Option, Vec, ⊤}
use Rattle.std.specs.declared.alloc.Global.{Global}
use Rattle.sqlite_trees.specs.declared.store.Store as Store
use Rattle.wu_core.specs.World.{World}
use Rattle.wu_drive.specs.declared.runs.Run.{Run}
use Rattle.wu_drive.specs.Driving.{AnswerAll, EndsBy, EndsEarly, session_of}
use Rattle.wu_drive.specs.Writing.{WritesAnswers}
use Rattle.wu_machine.specs.declared.command.Answer.{Answer}
use Rattle.wu_machine.specs.declared.command.Command.{Command}
use Rattle.wu_passes.specs.declared.project.Project.{Project}
use Rattle.wu_passes.specs.Projects.{IsOver, IsSessionOpen, state_of}
use Rattle.wu_machine.specs.Sessions.{Lived, world_lived, world_of_life}
use Rattle.wu_passes.specs.Standing.{IsFailure}
use Rattle.wu_lives.specs.Reopening.{DoesAll, OfEachWorld}

-- What a session reported: the commands that it was given, its answers, and how far it went.
pub record Transcript : Type 0 where
  pub commands : List Command
  pub answers : List Answer
  pub run : Run

-- This is a session of the history. What it acknowledged has the machine's replies, and it has a cut command only if
-- `Memory` or `Broken` ended it.
pub record IsSessionOf (world : World) (told : Transcript) (lived : Lived) : Type 0 where
  pub within : told.run.acknowledged ≤ length told.commands
  pub answered : AnswerAll world (take told.run.acknowledged told.commands) told.answers
  pub has_ended : Bool
  pub session : lived.session ≡ session_of told.commands told.run has_ended
  pub ends : has_ended ≡ true → EndsBy told.run IsFailure

-- These are the sessions of the history, each from the world that the one before it left.
abbrev pub AreSessionsOf : World → List Transcript → List Lived → Type 0
AreSessionsOf world [] [] = ⊤
AreSessionsOf world [] (lived ∷ life) = ⊥
AreSessionsOf world (told ∷ more) [] = ⊥
AreSessionsOf world (told ∷ more) (lived ∷ life) = IsSessionOf world told lived × AreSessionsOf (world_lived world lived) more life

-- The session goes on over the world after a history of these sessions.
pub record HasLived {S : Type 0} {g : Store.Ghosts S} (world : World) (told : List Transcript) (found : Project S g) : Type 0 where
  pub life : List Lived
  pub sessions : AreSessionsOf world told life
  pub over : IsOver found (world_of_life world life)

-- Each session that ended early reports why. Of the first one this is said only if it had not ended before.
abbrev pub EndEach : Type 0 → World → List Transcript → List Lived → Type 0
EndEach begun world [] life = ⊤
EndEach begun world (told ∷ more) [] = ⊤
EndEach begun world (told ∷ more) (lived ∷ life) =
    (begun → EndsEarly world told.commands told.run) × EndEach ⊤ (world_lived world lived) more life

-- The session goes on over the world after a history of these sessions, each of which reports why it ended early.
pub record LivesOnFrom {S : Type 0} {g : Store.Ghosts S} (old : Project S g) (world : World) (told : List Transcript) (found : Project S g) : Type 0 where
  pub lived : HasLived world told found
  pub ends : EndEach (IsSessionOpen old) world told lived.life

-- The texts of the answers of all sessions are written, one after another.
abbrev pub WritesTold : Option (List ℕ) → Option (List ℕ) → List Transcript → Type 0
WritesTold old new [] = new ≡ old
WritesTold old new (told ∷ more) = (mid : Option (List ℕ)) × WritesAnswers old mid told.answers told.run × WritesTold mid new more

-- The lists of commands, one for each session.
abbrev pub commands_of : List (Vec Command Global) → List (List Command)
commands_of lives = map (λ life. life.items) lives

-- These sessions had these lists of commands, and ended so.
pub record AreOf (lives : List (List Command)) (runs : List Run) (told : List Transcript) : Type 0 where
  pub their_commands : map (λ t. t.commands) told ≡ lives
  pub their_runs : map (λ t. t.run) told ≡ runs

-- The texts of all sessions are written. What is found, from each world of the first session, is the world after a
-- history of them.
abbrev pub TellsLives : {S : Type 0} {g : Store.Ghosts S} → Option (List ℕ) → Option (List ℕ) → Project S g → List (Vec Command Global) → List Run → Project S g → Type 0
TellsLives before after old lives runs new =
    (told : List Transcript) × AreOf (commands_of lives) runs told × WritesTold before after told
    × OfEachWorld old (state_of new) (λ world. ∥ LivesOnFrom old world told new ∥₁)

-- There is a run for each list of commands.
abbrev pub RunsEach : List (Vec Command Global) → List Run → Type 0
RunsEach lives runs = length runs ≡ length lives

-- There is a run for each list. It acknowledged at most the commands of the list, and exactly those if nothing ended
-- it.
abbrev pub EachDoesAll : List (Vec Command Global) → List Run → Type 0
EachDoesAll [] [] = ⊤
EachDoesAll [] (run ∷ runs) = ⊥
EachDoesAll (life ∷ lives) [] = ⊥
EachDoesAll (life ∷ lives) (run ∷ runs) = DoesAll life.items run × EachDoesAll lives runs

-- After at least one list the session goes on; without a list it goes on if it did before.
abbrev pub GoesOnAfter : {S : Type 0} {g : Store.Ghosts S} → Project S g → List (Vec Command Global) → Project S g → Type 0
GoesOnAfter old lives new = IsSessionOpen old ⊎ (1 ≤ length lives) → IsSessionOpen new
