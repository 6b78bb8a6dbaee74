-- How the workunits and the instances of a world stand, in numbers.
use Rattle.std.specs.Prelude.{ℕ, ◌+◌, Bool, not, ◌&&◌, if◌then◌else◌, count_by, filter_map, is_none, min, nat_lt, Option, Some, None}
use Rattle.std.specs.List.{reduce}
use Rattle.wu_core.specs.declared.fault.Fault.{Fault}
use Rattle.wu_core.specs.declared.fault.Fault.TheVariants.{Memory, Output}
use Rattle.wu_core.specs.declared.workunit.Instance.{Instance}
use Rattle.wu_core.specs.declared.workunit.Workunit.{Workunit}
use Rattle.wu_core.specs.World.{World}
use Rattle.wu_rules.specs.Counts.{is_clear, is_undecided}
use Rattle.wu_rules.specs.Instances.{is_in_progress, is_in_progress_state, is_overdue}
use Rattle.wu_views.specs.Counting.{all_instances}
use Rattle.wu_views.specs.declared.lines.ResultLine.{ResultLine}
use Rattle.wu_views.specs.declared.lines.WorkunitLine.{WorkunitLine}
use Rattle.wu_views.specs.declared.tallies.Deadlines.{Deadlines}
use Rattle.wu_views.specs.declared.tallies.Decisions.{Decisions}

-- ---- of a world

-- The workunit was given up: it has an error.
abbrev pub is_given_up : Workunit → Bool
is_given_up w = not (is_clear w.error_mask)

-- How many workunits are undecided, and how many were given up.
abbrev pub decisions_of : World → Decisions
decisions_of world = record { undecided = count_by is_undecided world.workunits; given_up = count_by is_given_up world.workunits }

-- The deadline of an instance in progress that is not overdue; else `None`.
abbrev pub awaited : ℕ → Instance → Option ℕ
awaited now i = if is_in_progress i && not (is_overdue now i) then i.deadline else None

-- How many instances are overdue at a moment, and the earliest deadline of the others in progress.
abbrev pub deadlines_of : ℕ → World → Deadlines
deadlines_of now world =
    record { now = now; overdue = count_by (is_overdue now) (all_instances world); next = reduce min (filter_map (awaited now) (all_instances world)) }

-- ---- line by line

abbrev pub one_more : ℕ → Bool → ℕ
one_more n counts = if counts then n + 1 else n

-- The fault of a count: lines that are too many to be counted are told as out of memory.
abbrev pub fault_of_count : Fault → Fault
fault_of_count Output = Memory
fault_of_count other = other

abbrev pub is_undecided_line : WorkunitLine → Bool
is_undecided_line line = is_none line.canonical && is_clear line.error_mask

-- The numbers with the workunit of this line.
abbrev pub with_line : Decisions → WorkunitLine → Decisions
with_line it line =
    record { undecided = one_more it.undecided (is_undecided_line line); given_up = one_more it.given_up (not (is_clear line.error_mask)) }

abbrev pub deadline_in_progress : ResultLine → Option ℕ
deadline_in_progress line = if is_in_progress_state line.server_state then line.deadline else None

-- The earlier of two deadlines, of which the first may be missing.
abbrev pub earlier : Option ℕ → ℕ → ℕ
earlier None other = other
earlier (Some first) other = min first other

-- The numbers with an instance in progress of this deadline: it is overdue, or awaited.
abbrev pub with_deadline : Deadlines → Option ℕ → Deadlines
with_deadline it None = it
with_deadline it (Some deadline) =
    if nat_lt deadline it.now then record it { overdue = it.overdue + 1 } else record it { next = Some (earlier it.next deadline) }

-- The numbers with the instance of this line.
abbrev pub with_result : Deadlines → ResultLine → Deadlines
with_result it line = with_deadline it (deadline_in_progress line)
