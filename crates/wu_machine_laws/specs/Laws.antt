-- What passes mean, in BOINC's words.
use Rattle.std.specs.Prelude.{Bool, ◌≡◌, ◌≢◌, ◌↔◌, ℕ, ◌+◌, ◌<◌, ◌≤◌, min, true, not, [], ◌∷◌, ◌++◌, List, filter, length, All, AllPairs, count_by, flat_map, Ok, ◌||◌, bytes_eq}
use Rattle.std.specs.Cmp.Lexicographic.{slice_cmp}
use Rattle.std.specs.List.{list_any}
use Rattle.std.specs.Ordering.{is_lt, nat_cmp}
use Rattle.wu_core.specs.declared.workunit.Grant.{Grant}
use Rattle.wu_core.specs.declared.workunit.Archived.{Archived}
use Rattle.wu_core.specs.declared.workunit.Workunit.{Workunit}
use Rattle.wu_core.specs.Hosts.{credit_of, grants_of, hosts_of}
use Rattle.wu_core.specs.World.{World, IsInOrder}
use Rattle.wu_rules.specs.Assimilation.{is_purgeable}
use Rattle.wu_rules.specs.declared.due.Pass.{Pass}
use Rattle.wu_rules.specs.declared.due.Pass.TheVariants.{Validate, Assimilate, Purge}
use Rattle.wu_rules.specs.Due.{changes, chosen}
use Rattle.wu_machine.specs.Machine.{reply, step}
use Rattle.wu_machine.specs.Passes.{granted, handled, images, is_among, passed}
use Rattle.wu_machine.specs.Requests.{AskPass, Passed}
use Rattle.wu_machine.specs.Sound.{IsSound}

-- A pass changes a workunit exactly if it makes another of it. A purge changes it exactly if it may be purged, and then
-- removes it.
pub record TellsWhatChanges : Type 0 where
  pub another : (pass : Pass) (now min_age : ℕ) (w : Workunit) → pass ≢ Purge → (changes pass now min_age w ≡ true) ↔ (images pass now w ≢ w ∷ [])
  pub purged : (now min_age : ℕ) (w : Workunit) → changes Purge now min_age w ≡ is_purgeable w now min_age
  pub gone : (now : ℕ) (w : Workunit) → images Purge now w ≡ []

-- How many workunits of a world a pass changes.
abbrev pub changed_in : Pass → ℕ → ℕ → World → ℕ
changed_in pass now min_age world = count_by (changes pass now min_age) world.workunits

-- A pass handles all workunits that it changes, up to its limit.
abbrev pub HandlesUpToTheLimit : Type 0
HandlesUpToTheLimit =
    (pass : Pass) (now min_age limit : ℕ) (world : World)
    → handled pass now min_age limit world ≡ min limit (changed_in pass now min_age world)

-- Sound worlds have their workunits in order of number.
abbrev pub SoundWorldsAreInOrder : Type 0
SoundWorldsAreInOrder = (world : World) → IsSound world → IsInOrder world

-- The workunits that a pass changes are, in order, the taken ones, at most the limit, and then the ones that are left.
-- None is left if the limit was not reached; each that is left has a greater number than each taken one.
pub record IsTaken (pass : Pass) (now min_age limit : ℕ) (world : World) (taken : List Workunit) : Type 0 where
  pub left : List Workunit
  pub all : filter (changes pass now min_age) world.workunits ≡ taken ++ left
  pub within : length taken ≤ limit
  pub none_left : length taken < limit → left ≡ []
  pub lower : All (λ one. All (λ other. one.number < other.number) left) taken

abbrev pub TakesTheFirst : Type 0
TakesTheFirst =
    (pass : Pass) (now min_age limit : ℕ) (world : World) → IsInOrder world
    → IsTaken pass now min_age limit world (chosen pass now min_age limit world)

-- The workunits of a world that have none of these workunits' numbers.
abbrev pub others : List Workunit → World → List Workunit
others taken world = filter (λ w. not (is_among taken w)) world.workunits

-- The workunits that a pass does not take stay as they were, in their order.
abbrev pub LeavesTheOthers : Type 0
LeavesTheOthers =
    (pass : Pass) (now min_age limit : ℕ) (world : World)
    → others (chosen pass now min_age limit world) (passed pass now min_age limit world) ≡ others (chosen pass now min_age limit world) world

-- A pass removes no grant, archived row or import. Only the validator grants, only the assimilator archives, and no
-- pass imports.
pub record KeepsRecords (pass : Pass) (old new : World) : Type 0 where
  pub grants : (more : List Grant) × (new.grants ≡ old.grants ++ more)
  pub archived : (more : List Archived) × (new.archived ≡ old.archived ++ more)
  pub no_grants : pass ≢ Validate → new.grants ≡ old.grants
  pub no_archived : pass ≢ Assimilate → new.archived ≡ old.archived
  pub imports : new.imports ≡ old.imports
  pub classes : new.classes ≡ old.classes
  pub next_number : new.next_number ≡ old.next_number
  pub version : new.version ≡ old.version

abbrev pub RecordsMore : Type 0
RecordsMore = (pass : Pass) (now min_age limit : ℕ) (world : World) → KeepsRecords pass world (passed pass now min_age limit world)

-- A pass answers the number of workunits that it changes, or its limit if that is less.
abbrev pub AnswersHowMany : Type 0
AnswersHowMany =
    (pass : Pass) (now limit min_age n : ℕ) (world : World) → reply world (AskPass pass now limit min_age) ≡ Ok (Passed pass n)
    → n ≡ min limit (changed_in pass now min_age world)

-- A pass answers 0 exactly if it leaves the world as it is.
abbrev pub AnswersZeroForNothing : Type 0
AnswersZeroForNothing =
    (pass : Pass) (now limit min_age n : ℕ) (world : World) → reply world (AskPass pass now limit min_age) ≡ Ok (Passed pass n)
    → (n ≡ 0) ↔ (step world (AskPass pass now limit min_age) ≡ world)

-- The new grants of a pass.
abbrev pub new_grants : Pass → ℕ → ℕ → ℕ → World → List Grant
new_grants pass now min_age limit world = flat_map (granted pass) (chosen pass now min_age limit world)

-- Whether a host is listed by these grants.
abbrev pub is_listed : List Grant → List ℕ → Bool
is_listed grants host = list_any (λ one. bytes_eq one host) (hosts_of grants)

-- A host's credit grows by that of its new grants, and the number of its grants likewise. It is listed if it was, or if
-- it has a new grant.
pub record AddsUp (host : List ℕ) (old more new : List Grant) : Type 0 where
  pub credit : credit_of new host ≡ credit_of old host + credit_of more host
  pub number : grants_of new host ≡ grants_of old host + grants_of more host
  pub listed : is_listed new host ≡ (is_listed old host || is_listed more host)

abbrev pub AddsUpGrants : Type 0
AddsUpGrants =
    (pass : Pass) (now min_age limit : ℕ) (world : World) (host : List ℕ)
    → AddsUp host world.grants (new_grants pass now min_age limit world) (passed pass now min_age limit world).grants

-- The hosts of grants are those with a grant, each once, in the order of their names' bytes.
pub record ListsHosts (grants : List Grant) : Type 0 where
  pub granted : (host : List ℕ) → (is_listed grants host ≡ true) ↔ (0 < grants_of grants host)
  pub ascending : AllPairs (λ one other. is_lt (slice_cmp nat_cmp one other) ≡ true) (hosts_of grants)

abbrev pub ListsEachHostOnce : Type 0
ListsEachHostOnce = (grants : List Grant) → ListsHosts grants
