-- A world is sound exactly where all that is asked of it holds.
use Rattle.std.proofs.Common.{ℕ, List, Option, Some, None, IsNone, IfSome, refl}
use Rattle.std.specs.List.{All, AllPairs}
use Rattle.std.proofs.lemmas.Bool.{true≢false}
use Rattle.wu_core.specs.Storable.{IsName}
use Rattle.wu_core.specs.World.{World, IsInOrder}
use Rattle.wu_machine.specs.Sound.{IsSound}
use Rattle.wu_audit.specs.Against.{IsFirstAgainst, IsFirstPairAgainst}
use Rattle.wu_audit.specs.Records.{AreBacked, HasKeys}
use Rattle.wu_audit.specs.Wrong.{FindsWrong, StandsAgainst, ToEnd, ToGrantAstray}
use Rattle.wu_audit.specs.declared.wrong.Wrong.{Wrong}
use Rattle.wu_audit.specs.declared.wrong.Wrong.TheVariants as wrong
use Rattle.wu_audit.proofs.RecordLemmas.{backed_from_recorded, recorded_from_backed}
use Rattle.wu_audit.proofs.PlaceLemmas.{element_of}

-- what holds of each has no first place against it
refuted : {X : Type 0} (P : X → Type 0) (xs : List X) (k : ℕ) → IsFirstAgainst P xs k → All P xs → ⊥
refuted P xs k first all =
    let d = element_of xs k first.within in first.against d (all k d first.within)

pair_refuted : {X : Type 0} (R : X → X → Type 0) (xs : List X) (k : ℕ) → IsFirstPairAgainst R xs k → AllPairs R xs → ⊥
pair_refuted R xs k first all =
    let d = element_of xs k first.within in first.against.2 d (all first.against.0 k d first.against.1 first.within)

-- the keys of a sound world are used once, so its rows agree
keys_of : (world : World) → IsSound world → HasKeys world
keys_of world sound = record { granted_once = sound.granted_once; archived_once = sound.archived_once; archived_names = sound.archived_names }

backed_of : (world : World) → IsSound world → AreBacked world
backed_of world sound = backed_from_recorded world (keys_of world sound) sound.recorded

-- what is told is not so of a sound world
pub stands_against : (world : World) (told : Wrong) → StandsAgainst world told → IsSound world → ⊥
stands_against world wrong.NextNumber stands sound = stands sound.next_number
stands_against world (wrong.WorkunitForm place) stands sound = refuted _ _ place stands.1 sound.formed
stands_against world (wrong.WorkunitValues place) stands sound = refuted _ _ place stands.1 sound.storable
stands_against world (wrong.ArchivedValues place) stands sound = refuted _ _ place stands.1 sound.archivable
stands_against world (wrong.ImportVerdicts place) stands sound = refuted _ _ place stands.1 sound.imports
stands_against world (wrong.WorkunitStates place) stands sound = refuted _ _ place stands.1 sound.consistent
stands_against world (wrong.ArchivedMask place) stands sound = refuted _ _ place stands.1 sound.archived_masks
stands_against world (wrong.WorkunitNumber place) stands sound = refuted _ _ place stands.1 sound.given
stands_against world (wrong.WorkunitOrder place) stands sound = pair_refuted _ _ place stands.1 sound.ascending
stands_against world (wrong.WorkunitTwice place) stands sound = pair_refuted _ _ place stands.1 sound.names
stands_against world (wrong.ArchivedNumber place) stands sound = refuted _ _ place stands.1 sound.archived
stands_against world (wrong.ArchivedTwice place) stands sound = pair_refuted _ _ place stands.1 sound.archived_once
stands_against world (wrong.ArchivedNameTwice place) stands sound = pair_refuted _ _ place stands.1 sound.archived_names
stands_against world (wrong.GrantValues place) stands sound = refuted _ _ place stands.1 sound.grants
stands_against world (wrong.GrantTwice place) stands sound = pair_refuted _ _ place stands.1 sound.granted_once
stands_against world (wrong.ImportTwice place) stands sound = pair_refuted _ _ place stands.1 sound.imported_once
stands_against world (wrong.GrantAstray place) stands sound = refuted _ _ place stands.1 (backed_of world sound).grants
stands_against world (wrong.GrantMissing place) stands sound = refuted _ _ place stands.1 (backed_of world sound).granted
stands_against world (wrong.ArchivedAstray place) stands sound = refuted _ _ place stands.1 (backed_of world sound).rows
stands_against world (wrong.ArchivedMissing place) stands sound = refuted _ _ place stands.1 (backed_of world sound).kept
stands_against world (wrong.NameTaken place) stands sound = refuted _ _ place stands.1 (backed_of world sound).free
stands_against world (wrong.ClassValues place) stands sound = refuted _ _ place stands.1 sound.classed
stands_against world (wrong.ClassOrder place) stands sound = pair_refuted _ _ place stands.1 sound.classes_in_order
stands_against world wrong.EarlyClasses stands sound = stands.1 sound.classes_in_time

-- where all that is asked holds the world is sound
pub sound_at_end : (world : World) → All (λ grant. IsName grant.host) world.grants → ToEnd world → IsSound world
sound_at_end world hosts end =
    let ordered = end.0 in
    let classed = ordered.0 in
    let all_rows = classed.0 in
    let kept = all_rows.earlier in
    let rows = kept.0 in
    let granted = rows.0 in
    let backed = granted.earlier in
    let imported = backed.0 in
    let once = imported.earlier in
    let grants = once.0 in
    let archived_names = grants.0 in
    let archived_once = archived_names.0 in
    let archived = archived_once.0 in
    let names = archived.0 in
    let ascending = names.0 in
    let given = ascending.0 in
    let masks = given.0 in
    let consistent = masks.0 in
    let imports = consistent.0 in
    let archivable = imports.0 in
    let storable = archivable.0 in
    let formed = storable.0 in
    let keys : HasKeys world = record { granted_once = once.1; archived_once = archived_once.1; archived_names = archived_names.1 } in
    let agree : AreBacked world = record { grants = backed.1; granted = granted.granted; rows = rows.1; kept = kept.1; free = all_rows.free } in
    record {
      next_number = formed.0;
      formed = formed.1;
      storable = storable.1;
      granted_to = hosts;
      archivable = archivable.1;
      imports = imports.1;
      consistent = consistent.1;
      recorded = recorded_from_backed world keys agree;
      given = given.1;
      ascending = ascending.1;
      names = names.1;
      archived = archived.1;
      archived_masks = masks.1;
      archived_once = archived_once.1;
      archived_names = archived_names.1;
      grants = grants.1;
      granted_once = once.1;
      imported_once = imported.imported_once;
      classed = classed.1;
      classes_in_order = ordered.1;
      classes_in_time = end.1;
    }

-- what is found tells whether it is
pub found_exact : (world : World) → All (λ grant. IsName grant.host) world.grants → (found : Option Wrong) → FindsWrong ToEnd world found
    → (IsNone found → IsSound world) × (IsSound world → IsNone found)
found_exact world hosts None end = (λ none. sound_at_end world hosts end, λ sound. refl)
found_exact world hosts (Some told) stands = (λ none. absurd (true≢false none), λ sound. absurd (stands_against world told stands sound))

pub found_stands : (world : World) (found : Option Wrong) → FindsWrong ToEnd world found → IfSome found (StandsAgainst world)
found_stands world None end = tt
found_stands world (Some told) stands = stands

-- where all rows and keys are right, workunits ascend
pub order_of_keyed : (world : World) → ToGrantAstray world → IsInOrder world
order_of_keyed world keyed = keyed.earlier.0.0.0.0.0.0.1
