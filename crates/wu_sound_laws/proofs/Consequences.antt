-- What follows from soundness: grants are placed, views can be read, and beginnings of lists and lives stay sound.
use Rattle.std.proofs.Common.{◌≡◌, ℕ, Bool, true, false, List, [], ◌∷◌, ◌++◌, map, take, slice_get, None, subst, inl, inr, arith, cond}
use Rattle.std.proofs.lemmas.List.Elements.{All-append, All-from_recursion, All-map, All-take, recursion_from_All}
use Rattle.std.proofs.lemmas.Option.{slice_get_cases}
use Rattle.std.specs.List.{All, AllByRecursion}
use Rattle.std.specs.Prelude.{option_map, option_to_list}
use Rattle.wu_core.specs.World.{World}
use Rattle.wu_core.specs.Storable.{IsName}
use Rattle.wu_machine.specs.declared.command.Command.{Command}
use Rattle.wu_machine.specs.Machine.{fold_steps, HasValues, present_version}
use Rattle.wu_machine.specs.Commands.{request_of}
use Rattle.wu_machine.specs.Requests.{Request}
use Rattle.wu_machine.specs.Sessions.{Lived, accepted, world_lived, world_of_life}
use Rattle.wu_machine.specs.Sound.{IsSound}
use Rattle.wu_machine_laws.proofs.SoundSteps.{sound_steps}
use Rattle.wu_report.specs.Marks.{HasValidNames, NoLineBeginsWith, equals_sign}
use Rattle.wu_report.specs.Texts.{view_text}
use Rattle.wu_report.specs.Views.{CanBeShown}
use Rattle.wu_report.proofs.MarkLemmas.{unmarked_whole}
use Rattle.wu_report.proofs.MarkedLines.{names_valid, view_whole}
use Rattle.wu_machine.specs.declared.view.View.{View}
use Rattle.wu_machine.specs.declared.view.View.TheVariants as view
use Rattle.wu_views.specs.Lines.{AreImportsStorable}
use Rattle.wu_views.specs.Summaries.{IsCountable}
use Rattle.wu_drive.specs.Driving.{session_of, world_after}
use Rattle.wu_drive.specs.declared.runs.Run.{Run}
use Rattle.wu_sound_laws.proofs.NamedHosts.{hosts_have}
use Rattle.wu_sound_laws.proofs.TotalLemmas.{bounded_credit, IsPlaced}

-- ---- grants

pub placed : (world : World) → IsSound world → All IsPlaced world.grants
placed world sound i d low =
    let it = sound.grants i d low in
    let few = sound.next_number.1 in
    record { workunit = (it.0.0, (let given = it.0.1 in omega (arith, given, few))); instance = it.1; credit = it.2 }

-- ---- views

imports_storable : (world : World) → IsSound world → AreImportsStorable world
imports_storable world sound i d low = let it = sound.imports i d low in record { name = it.0; verdicts = it.1 }

countable : (world : World) → IsSound world → world.version ≡ present_version → IsCountable world
countable world sound present = record {
  numbers = record { version = omega (arith, present); next = sound.next_number };
  credit = (let few = bounded_credit world.grants (placed world sound) sound.granted_once in omega (arith, few));
}

-- what has no rows of its own is counted
pub shown : (world : World) → IsSound world → world.version ≡ present_version → (v : View) → CanBeShown world v
shown world sound present view.Workunits = sound.storable
shown world sound present view.Results = sound.storable
shown world sound present view.Hosts = hosts_have IsName world.grants sound.granted_to
shown world sound present view.Archive = sound.archivable
shown world sound present view.Classes = sound.classed
shown world sound present view.Imports = imports_storable world sound
shown world sound present (view.Import name) = imports_storable world sound
shown world sound present (view.Status now) = sound.storable
shown world sound present _ = countable world sound present

-- no version is asked for: what is counted has no names
names_sound : (world : World) → IsSound world → (v : View) → HasValidNames world v
names_sound world sound view.Workunits = names_valid world view.Workunits sound.storable
names_sound world sound view.Results = names_valid world view.Results sound.storable
names_sound world sound view.Hosts = names_valid world view.Hosts (hosts_have IsName world.grants sound.granted_to)
names_sound world sound view.Archive = names_valid world view.Archive sound.archivable
names_sound world sound view.Classes = names_valid world view.Classes sound.classed
names_sound world sound view.Imports = names_valid world view.Imports (imports_storable world sound)
names_sound world sound (view.Import name) = names_valid world (view.Import name) (imports_storable world sound)
names_sound world sound (view.Status now) = names_valid world (view.Status now) sound.storable
names_sound world sound _ = tt

pub unmarked : (world : World) → IsSound world → (v : View) → NoLineBeginsWith equals_sign (view_text world v)
unmarked world sound v = unmarked_whole (view_text world v) (view_whole world v (names_sound world sound v))

-- ---- lists of commands

pub begins_sound : (world : World) (commands : List Command) (count : ℕ) → All (λ command. HasValues (request_of command)) commands → IsSound world
    → IsSound (world_after world commands count)
begins_sound world commands count moments sound =
    (sound_steps (map request_of (take count commands)) world
    (All-map HasValues request_of (take count commands) (All-take (λ command. HasValues (request_of command)) count commands moments)) sound).0

-- the next command, if there is one
next_value : (commands : List Command) (n : ℕ) → All (λ command. HasValues (request_of command)) commands
    → AllByRecursion HasValues (option_to_list (option_map request_of (slice_get commands n)))
next_value commands n moments = elim ((slice_get_cases commands n).1) [
  | inl there ↦ rw there.2 (subst (λ command. HasValues (request_of command)) there.3 (moments n there.0 there.1), tt)
  | inr past ↦ rw past.1 tt
]

cut_value : (has_ended : Bool) (commands : List Command) (n : ℕ) → All (λ command. HasValues (request_of command)) commands
    → AllByRecursion HasValues (option_to_list (cond has_ended (option_map request_of (slice_get commands n)) None))
cut_value true commands n moments = next_value commands n moments
cut_value false commands n moments = tt

pub session_values : (commands : List Command) (run : Run) (has_ended : Bool) → All (λ command. HasValues (request_of command)) commands
    → All HasValues (accepted (session_of commands run has_ended))
session_values commands run has_ended moments =
    let session = session_of commands run has_ended in
    All-append HasValues session.acknowledged (option_to_list session.cut)
    (All-map HasValues request_of (take run.acknowledged commands) (All-take (λ command. HasValues (request_of command)) run.acknowledged commands moments))
    (All-from_recursion HasValues (option_to_list session.cut) (cut_value has_ended commands run.acknowledged moments))

-- ---- lives

-- of the requests of a list those of a beginning
front : (P : Request → Type 0) (rs qs : List Request) → AllByRecursion P (rs ++ qs) → AllByRecursion P rs
front P [] qs all = tt
front P (r ∷ rs) qs all = (all.0, front P rs qs all.1)

one_sound : (world : World) (lived : Lived) → All HasValues (accepted lived.session) → IsSound world → IsSound (world_lived world lived)
one_sound world lived moments sound = by_case lived.is_cut_in
  where
    acknowledged : All HasValues lived.session.acknowledged
    acknowledged = All-from_recursion HasValues lived.session.acknowledged
        (front HasValues lived.session.acknowledged (option_to_list lived.session.cut) (recursion_from_All HasValues (accepted lived.session) moments))

    by_case : (b : Bool) → IsSound (cond b (fold_steps world (accepted lived.session)) (fold_steps world lived.session.acknowledged))
    by_case true = (sound_steps (accepted lived.session) world moments sound).0
    by_case false = (sound_steps lived.session.acknowledged world acknowledged sound).0

pub lives_sound : (world : World) (life : List Lived) → AllByRecursion (λ lived. All HasValues (accepted lived.session)) life → IsSound world
    → IsSound (world_of_life world life)
lives_sound world [] moments sound = sound
lives_sound world (lived ∷ life) moments sound = lives_sound (world_lived world lived) life moments.1 (one_sound world lived moments.0 sound)
