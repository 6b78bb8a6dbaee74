-- What the summary counts of a world, part by part, and when it can be read.
use Rattle.std.specs.Prelude.{◌≡◌, ℕ, ◌+◌, ◌≤◌, ◌<◌, ◌^◌, List, [], ◌∷◌, ◌++◌, count_by, length, map, sum, sum_by, Result, IfOk}
use Rattle.sqlite.specs.Held.{Held, state}
use Rattle.sqlite.specs.Order.{Row, column}
use Rattle.sqlite.specs.State.{HasCleanDisk, Shown, State}
use Rattle.sqlite.specs.Store.{Ghosts}
use Rattle.wu_core.specs.declared.fault.Fault.{Fault}
use Rattle.wu_core.specs.declared.states.ServerState.{ServerState}
use Rattle.wu_core.specs.declared.workunit.Grant.{Grant}
use Rattle.wu_core.specs.Storable.{LoadsNext}
use Rattle.wu_core.specs.World.{World}
use Rattle.wu_rules.specs.Instances.{is_in_progress_state, is_over_state, is_unsent_state}
use Rattle.wu_schema.specs.Stored.{number}
use Rattle.wu_schema.specs.Reading.{server_state_cell}
use Rattle.wu_views.specs.Counting.{all_states, class_count, import_count, workunit_count}
use Rattle.wu_views.specs.declared.counts.Granted.{Granted}
use Rattle.wu_views.specs.declared.counts.Numbers.{Numbers}
use Rattle.wu_views.specs.declared.counts.Others.{Others}
use Rattle.wu_views.specs.declared.counts.Results.{Results}
use Rattle.wu_views.specs.declared.lines.Summary.{Summary}
use Rattle.wu_views.specs.declared.texts.TheConstants.{SELECT_CREDIT, SELECT_STATES}

-- The numbers of the project's row.
abbrev pub project_numbers : World → Numbers
project_numbers world = record { version = world.version; next_number = world.next_number }

-- How many states there are, and how many of them are unsent, in progress and over.
abbrev pub counts_of : List ServerState → Results
counts_of states =
    record { all = length states; unsent = count_by is_unsent_state states; in_progress = count_by is_in_progress_state states; over = count_by is_over_state states }

-- How many instances there are, and how many in each state.
abbrev pub results_of : World → Results
results_of world = counts_of (all_states world)

-- One more can be counted in 64 bits.
pub record HasRoom (so_far : Results) : Type 0 where
  pub all : so_far.all + 1 < 2 ^ 64
  pub unsent : so_far.unsent ≤ so_far.all
  pub in_progress : so_far.in_progress ≤ so_far.all
  pub over : so_far.over ≤ so_far.all

-- These are the counts with one more instance, which is in this state.
abbrev pub AddsState : Results → ServerState → Results → Type 0
AddsState so_far state found = (states : List ServerState) → so_far ≡ counts_of states → found ≡ counts_of (states ++ state ∷ [])

-- The first column of each row of an answer is a state, and all are counted: how many rows there are, and how many of
-- each state. So no row is left out, whatever the tables hold.
pub record CountsStates (old new : State) (results : Results) : Type 0 where
  pub rows : List Row
  pub shown : Shown SELECT_STATES.now [] old new rows
  pub states : List ServerState
  pub read : map (λ row. column row 0) rows ≡ map server_state_cell states
  pub counted : results ≡ counts_of states

-- On a clean disk, the result counts the rows of such an answer.
abbrev pub CountsResults : {S : Type 0} → Ghosts S → Held S → Held S → Result Results Fault → Type 0
CountsResults g old new result = HasCleanDisk (state g new) → IfOk result (λ found. CountsStates (state g old) (state g new) found)

-- The numbers of a summary that count instances.
abbrev pub results_in : Summary → Results
results_in summary = record { all = summary.results; unsent = summary.unsent; in_progress = summary.in_progress; over = summary.over }

-- On a clean disk, the summary counts the instances of such an answer.
abbrev pub CountsSummary : {S : Type 0} → Ghosts S → Held S → Held S → Result Summary Fault → Type 0
CountsSummary g old new result = HasCleanDisk (state g new) → IfOk result (λ summary. CountsStates (state g old) (state g new) (results_in summary))

-- How many workunits, archived rows, imports and hosts with a class there are.
abbrev pub others_of : World → Others
others_of world =
    record { workunits = workunit_count world; archived = length world.archived; imports = import_count world; classes = class_count world }

-- The credit of all these grants.
abbrev pub credit_sum : List Grant → ℕ
credit_sum grants = sum_by (λ grant. grant.credit) grants

-- How many grants there are, and their credit.
abbrev pub granted_of : World → Granted
granted_of world = record { grants = length world.grants; credit = credit_sum world.grants }

-- The first column of each row of an answer is a number, and all are counted and summed. So no grant is left out,
-- whatever the tables hold.
pub record CountsCredit (old new : State) (granted : Granted) : Type 0 where
  pub rows : List Row
  pub shown : Shown SELECT_CREDIT.now [] old new rows
  pub credits : List ℕ
  pub read : map (λ row. column row 0) rows ≡ map number credits
  pub counted : granted ≡ record { grants = length credits; credit = sum credits }

-- On a clean disk, the result counts and sums the rows of such an answer.
abbrev pub CountsGrants : {S : Type 0} → Ghosts S → Held S → Held S → Result Granted Fault → Type 0
CountsGrants g old new result = HasCleanDisk (state g new) → IfOk result (λ found. CountsCredit (state g old) (state g new) found)

-- The numbers of a summary that count and sum grants.
abbrev pub granted_in : Summary → Granted
granted_in summary = record { grants = summary.grants; credit = summary.credit }

-- On a clean disk, the summary counts and sums the grants of such an answer.
abbrev pub SumsSummary : {S : Type 0} → Ghosts S → Held S → Held S → Result Summary Fault → Type 0
SumsSummary g old new result = HasCleanDisk (state g new) → IfOk result (λ summary. CountsCredit (state g old) (state g new) (granted_in summary))

-- The credit of all grants is below 2^64.
abbrev pub IsCreditCountable : World → Type 0
IsCreditCountable world = credit_sum world.grants < 2 ^ 64

-- The version and the next number are in the ranges of a project.
pub record HasNumbers (world : World) : Type 0 where
  pub version : 1 ≤ world.version
  pub next : LoadsNext world

-- The numbers of the summary can be read.
pub record IsCountable (world : World) : Type 0 where
  pub numbers : HasNumbers world
  pub credit : IsCreditCountable world
