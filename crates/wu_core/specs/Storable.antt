-- Values in the ranges that a project may hold: the values that stored rows are read as.
use Rattle.std.specs.Prelude.{◌≡◌, ℕ, ◌+◌, ◌<◌, ◌≤◌, ◌^◌, true, List, [], length, All, Option, Some, is_some, IfSome}
use Rattle.std.specs.List.{AllByRecursion}
use Rattle.wu_core.specs.declared.import.ImportKind.{ImportKind}
use Rattle.wu_core.specs.declared.states.Assimilate.{Assimilate}
use Rattle.wu_core.specs.declared.states.Assimilate.TheVariants as assimilate
use Rattle.wu_core.specs.declared.workunit.Archived.{Archived}
use Rattle.wu_core.specs.declared.workunit.Instance.{Instance}
use Rattle.wu_core.specs.declared.workunit.Workunit.{Workunit}
use Rattle.wu_core.specs.Formed.{IsInstance}
use Rattle.wu_core.specs.Limits.{highest_class, last_deadline, last_moment, longest_input, longest_output, most_instances, most_workunits}
use Rattle.wu_core.specs.Names.{is_name}
use Rattle.wu_core.specs.Parameters.{IsParameters}
use Rattle.wu_core.specs.World.{World, last_skip}

-- ---- values

abbrev pub IsName : List ℕ → Type 0
IsName name = is_name name ≡ true

abbrev pub IsInput : List ℕ → Type 0
IsInput input = length input ≤ longest_input

abbrev pub IsOutput : List ℕ → Type 0
IsOutput output = length output ≤ longest_output

-- The number of an instance, if it is given, fits into 32 bits.
abbrev pub IsPlace : Option ℕ → Type 0
IsPlace place = IfSome place (λ n. n < 2 ^ 32)

abbrev pub IsMoment : Option ℕ → Type 0
IsMoment moment = IfSome moment (λ seconds. seconds ≤ last_moment)

abbrev pub IsDeadline : Option ℕ → Type 0
IsDeadline deadline = IfSome deadline (λ seconds. seconds ≤ last_deadline)

abbrev pub IsHost : Option (List ℕ) → Type 0
IsHost host = IfSome host IsName

-- ---- instances

-- The moments of an instance are in range: when it was sent, by when it is due, and when it was received.
pub record AreMoments (sent due received : Option ℕ) : Type 0 where
  pub sent_at : IsMoment sent
  pub deadline : IsDeadline due
  pub received_at : IsMoment received

-- Each value of an instance is in range.
pub record MayBeInstance (i : Instance) : Type 0 where
  pub host : IsHost i.host
  pub moments : AreMoments i.sent_at i.deadline i.received_at
  pub output : IsOutput i.output

-- The instance may be that of a row; a row also has its workunit and its number.
pub record IsStoredInstance (i : Instance) : Type 0 where
  pub values : MayBeInstance i
  pub formed : IsInstance i

-- These may be the instances of one workunit.
pub record AreStoredInstances (instances : List Instance) : Type 0 where
  pub each : All IsStoredInstance instances
  pub few : length instances ≤ most_instances

-- ---- workunits

-- The workunit's moment is in range, and is there exactly if the workunit is assimilated.
pub record IsStamped (state : Assimilate) (done_at : Option ℕ) : Type 0 where
  pub moment : IsMoment done_at
  pub done : state ≡ assimilate.Done → is_some done_at ≡ true
  pub done_only : is_some done_at ≡ true → state ≡ assimilate.Done

-- The workunit without what other tables hold: its instances and its class.
abbrev pub bare : Workunit → Workunit
bare w = record w { instances = []; class = 0 }

-- The workunit, without its instances and its class, may be that of a row.
pub record IsStoredWorkunit (w : Workunit) : Type 0 where
  pub name : IsName w.name
  pub parameters : IsParameters w.params
  pub input : IsInput w.input
  pub canonical : IsPlace w.canonical
  pub stamped : IsStamped w.assimilate w.done_at
  pub bare : w.instances ≡ []
  pub classless : w.class ≡ 0

abbrev pub IsClass : ℕ → Type 0
IsClass class = class ≤ highest_class

-- The workunit has no more instances than it may have, and a canonical one is among them.
pub record HasItsInstances (w : Workunit) : Type 0 where
  pub within : length w.instances ≤ w.params.max_total_results
  pub canonical : (n : ℕ) → w.canonical ≡ Some n → n < length w.instances

-- The workunit can be stored and read: its number, its row, its class and its instances are in range.
pub record IsStorable (w : Workunit) : Type 0 where
  pub number : w.number < 2 ^ 63
  pub row : IsStoredWorkunit (bare w)
  pub class : IsClass w.class
  pub instances : AreStoredInstances w.instances
  pub whole : HasItsInstances w

-- Each workunit that is present can be stored and read.
abbrev pub AreStorable : World → Type 0
AreStorable world = All IsStorable world.workunits

-- The number is above those of all workunits.
abbrev pub IsAbove : ℕ → List Workunit → Type 0
IsAbove number = AllByRecursion (λ (w : Workunit). w.number < number)

-- ---- archived workunits, imports, and the next number

-- The archived workunit may be that of a row; a row also has its place.
pub record IsStoredArchived (a : Archived) : Type 0 where
  pub name : IsName a.name
  pub canonical : IsPlace a.canonical
  pub output : IsOutput a.output
  pub done_at : a.done_at ≤ last_moment

abbrev pub IsArchiveStorable : World → Type 0
IsArchiveStorable world = All IsStoredArchived world.archived

-- Each verdict is 0 or the number of a skip of a file of this kind.
abbrev pub AreVerdicts : ImportKind → List ℕ → Type 0
AreVerdicts kind verdicts = All (λ verdict. verdict ≤ last_skip kind) verdicts

-- The next number is at least 1, and at most one more than there may ever be workunits; that one is given to no
-- workunit.
abbrev pub IsNextNumber : ℕ → Type 0
IsNextNumber next = (1 ≤ next) × (next ≤ most_workunits + 1)

-- The next number of the world is in its range.
abbrev pub LoadsNext : World → Type 0
LoadsNext world = IsNextNumber world.next_number
