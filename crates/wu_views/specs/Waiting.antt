-- What waits for the passes of a project.
use Rattle.std.specs.Prelude.{◌≡◌, ℕ, List, [], ◌∷◌, ◌++◌, count_by, map, Result, IfOk, Vec}
use Rattle.wu_core.specs.declared.fault.Fault.{Fault}
use Rattle.wu_core.specs.declared.workunit.Workunit.{Workunit}
use Rattle.wu_core.specs.World.{World}
use Rattle.wu_rules.specs.Due.{changes}
use Rattle.wu_rules.specs.declared.due.Pass.{Pass}
use Rattle.wu_rules.specs.declared.due.Pass.TheVariants.{Transition, Validate, Assimilate, Delete, Purge}
use Rattle.wu_views.specs.Failures.{worst_hosts}
use Rattle.wu_views.specs.Tallies.{deadlines_of, decisions_of}
use Rattle.wu_views.specs.declared.tallies.Deadlines.{Deadlines}
use Rattle.wu_views.specs.declared.tallies.Decisions.{Decisions}
use Rattle.wu_views.specs.declared.waiting.StatusLine.{StatusLine}
use Rattle.wu_views.specs.declared.waiting.StatusLine.TheVariants.{Due, GivenUp, Host, NextDeadline, Overdue, Undecided}

-- How many workunits a pass changes at a moment, if it has no limit. A purge has the least age 0.
abbrev pub due_count : ℕ → World → Pass → ℕ
due_count now world pass = count_by (λ (w : Workunit). changes pass now 0 w) world.workunits

-- All passes, in the order in which a cycle first runs them.
abbrev pub all_passes : List Pass
all_passes = Transition ∷ Validate ∷ Assimilate ∷ Delete ∷ Purge ∷ []

-- The line of a pass: how many workunits wait for it.
abbrev pub due_line_of : ℕ → World → Pass → StatusLine
due_line_of now world pass = Due (record { pass = pass; count = due_count now world pass })

-- A line for each pass.
abbrev pub due_lines : ℕ → World → List StatusLine
due_lines now world = map (due_line_of now world) all_passes

-- A line for each of these numbers.
abbrev pub count_lines : Decisions → Deadlines → List StatusLine
count_lines decisions deadlines =
    Undecided decisions.undecided ∷ GivenUp decisions.given_up ∷ Overdue deadlines.overdue ∷ NextDeadline deadlines.next ∷ []

-- What is open in a world at a moment: what waits for each pass, then how the workunits and the instances stand, and the
-- hosts of which most instances failed.
abbrev pub status_lines : ℕ → World → List StatusLine
status_lines now world = due_lines now world ++ count_lines (decisions_of world) (deadlines_of now world) ++ map Host (worst_hosts world)

-- The lines of the passes are found.
abbrev pub FindsDueLines : {A : Type 0} → ℕ → Result (Vec StatusLine A) Fault → World → Type 0
FindsDueLines now result world = IfOk result (λ found. found.items ≡ due_lines now world)

-- All lines are found.
abbrev pub FindsStatusLines : {A : Type 0} → ℕ → Result (Vec StatusLine A) Fault → World → Type 0
FindsStatusLines now result world = IfOk result (λ found. found.items ≡ status_lines now world)
