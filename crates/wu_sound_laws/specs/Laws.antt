-- What soundness means to those who run a project.
use Rattle.std.specs.Prelude.{◌≡◌, ℕ, ◌≤◌, ◌*◌, Bool, List, All, length}
use Rattle.wu_core.specs.Hosts.{credit_of}
use Rattle.wu_core.specs.Limits.{most_credit, most_instances, most_workunits}
use Rattle.wu_core.specs.World.{World}
use Rattle.wu_views.specs.Summaries.{credit_sum}
use Rattle.wu_machine.specs.declared.command.Command.{Command}
use Rattle.wu_machine.specs.Machine.{HasValues, present_version}
use Rattle.wu_machine.specs.Commands.{request_of}
use Rattle.wu_machine.specs.Sessions.{Lived, accepted, world_of_life}
use Rattle.wu_machine.specs.Sound.{IsSound}
use Rattle.wu_report.specs.Marks.{NoLineBeginsWith, equals_sign}
use Rattle.wu_report.specs.Texts.{view_text}
use Rattle.wu_report.specs.Views.{CanBeShown}
use Rattle.wu_drive.specs.Driving.{session_of, world_after}
use Rattle.wu_drive.specs.declared.runs.Run.{Run}
use Rattle.wu_machine.specs.declared.view.View.{View}

-- The most credit that can ever be granted: 10^17.
abbrev pub most_total : ℕ
most_total = most_workunits * most_instances * most_credit

-- There are at most 10^11 grants; all credit, and the total of each host, is at most 10^17.
pub record HasTotals (world : World) : Type 0 where
  pub number : length world.grants ≤ most_workunits * most_instances
  pub all : credit_sum world.grants ≤ most_total
  pub each : (host : List ℕ) → credit_of world.grants host ≤ most_total

abbrev pub BoundsTotals : Type 0
BoundsTotals = (world : World) → IsSound world → HasTotals world

-- Each view of a sound world of the present version can be read, so that none is refused for its rows.
abbrev pub CanAllBeShown : Type 0
CanAllBeShown = (world : World) (view : View) → IsSound world → world.version ≡ present_version → CanBeShown world view

-- No line of a view of a sound world begins with '='.
abbrev pub NoSoundViewIsMarked : Type 0
NoSoundViewIsMarked = (world : World) (view : View) → IsSound world → NoLineBeginsWith equals_sign (view_text world view)

-- The values of these commands are in their ranges.
abbrev pub HaveValues : List Command → Type 0
HaveValues commands = All (λ command. HasValues (request_of command)) commands

-- A prefix of a list of commands leaves a sound world sound. So what a run acknowledged is sound, and what a crash
-- left.
abbrev pub BeginningsStaySound : Type 0
BeginningsStaySound =
    (world : World) (commands : List Command) (count : ℕ) → HaveValues commands → IsSound world
    → IsSound (world_after world commands count)

-- A session of a run accepts only requests of its commands, so their values are in their ranges.
abbrev pub SessionsHaveValues : Type 0
SessionsHaveValues =
    (commands : List Command) (run : Run) (has_ended : Bool) → HaveValues commands
    → All HasValues (accepted (session_of commands run has_ended))

-- A history of sessions leaves a sound world sound, whichever of its cut commands were found done.
abbrev pub LivesStaySound : Type 0
LivesStaySound =
    (world : World) (life : List Lived) → All (λ lived. All HasValues (accepted lived.session)) life → IsSound world
    → IsSound (world_of_life world life)
