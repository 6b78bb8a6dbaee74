-- What follows from soundness.
use Rattle.std.proofs.Common.{ℕ, suc, ◌<◌, ◌≤◌, List, [], ◌∷◌, length, get_or, arith}
use Rattle.std.proofs.lemmas.List.Elements.{All-get_or, All-nil, All-weaker}
use Rattle.std.specs.List.{All, AllPairs}
use Rattle.wu_core.specs.Classes.{AreClassed, AreInOrder}
use Rattle.wu_core.specs.Limits.{class_version}
use Rattle.wu_core.specs.World.{World, Import, empty_world}
use Rattle.wu_core.specs.declared.workunit.HostClass.{HostClass}
use Rattle.wu_core.specs.declared.workunit.Workunit.{Workunit}
use Rattle.wu_core.specs.Storable.{AreVerdicts, IsName, IsAbove}
use Rattle.wu_machine.specs.Machine.{present_version}
use Rattle.wu_machine.specs.Sound.{HasClassesInTime, IsProject, IsGiven, IsRecorded, IsSound}
use Rattle.wu_machine_laws.proofs.SoundParts.{ImportsDiffer}

-- where all numbers are below this one, it is above them
above_from : (n : ℕ) (ws : List Workunit) → ((i : ℕ) (d : Workunit) → i < length ws → (get_or ws i d).number < n) → IsAbove n ws
above_from n [] below = tt
above_from n (w ∷ ws) below = (below 0 w (omega arith), above_from n ws (λ i d within. below (suc i) d (omega (arith, within))))

-- the numbers of a sound world are below its next number
sound_above : (world : World) → IsSound world → IsAbove world.next_number world.workunits
sound_above world sound = above_from world.next_number world.workunits
    (λ i d within. (All-get_or (λ w. IsGiven world w.number) world.workunits i d within sound.given).1)

-- a sound world of a version that is known is one that a command runs over
pub is_project : (world : World) → IsSound world → 1 ≤ world.version → world.version ≤ present_version → IsProject world
is_project world sound first known = record {
  first = first;
  known = known;
  above = sound_above world sound;
  next = sound.next_number;
  verdicts = λ k d low. (sound.imports k d low).1;
  storable = sound.storable;
  names = sound.names;
  classed = sound.classed;
  classes_in_time = sound.classes_in_time;
}

-- the world at the present version
abbrev pub now_of : World → World
now_of world = record world { version = present_version }

-- a version with classes is none without
pub too_old : {A : Type 0} (version : ℕ) → class_version ≤ version → version < class_version → A
too_old version young old = absurd (omega (arith, young, old))

-- other imports, classes of hosts and versions that are sound leave a world sound
pub sound_beside : (world : World) (imports : List Import) (classes : List HostClass) (version : ℕ) → IsSound world
    → All (λ (i : Import). IsName i.name × AreVerdicts i.kind i.verdicts) imports → AllPairs ImportsDiffer imports → AreClassed classes → AreInOrder classes
    → HasClassesInTime (record world { imports = imports; classes = classes; version = version })
    → IsSound (record world { imports = imports; classes = classes; version = version })
sound_beside world imports classes version sound named once classed ordered in_time = record {
  next_number = sound.next_number;
  formed = sound.formed;
  storable = sound.storable;
  granted_to = sound.granted_to;
  archivable = sound.archivable;
  imports = named;
  consistent = sound.consistent;
  recorded = All-weaker (IsRecorded world) (IsRecorded _)
      (λ w is. record { granted = is.granted; own = is.own; archived = is.archived; as_archived = is.as_archived; named = is.named }) world.workunits sound.recorded;
  given = sound.given;
  ascending = sound.ascending;
  names = sound.names;
  archived = sound.archived;
  archived_masks = sound.archived_masks;
  archived_once = sound.archived_once;
  archived_names = sound.archived_names;
  grants = sound.grants;
  granted_once = sound.granted_once;
  imported_once = once;
  classed = classed;
  classes_in_order = ordered;
  classes_in_time = in_time;
}

-- at the present version it is sound too
pub sound_now : (world : World) → IsSound world → IsSound (now_of world)
sound_now world sound =
    sound_beside world world.imports world.classes present_version sound sound.imports sound.imported_once sound.classed sound.classes_in_order
    (too_old present_version (omega arith))

-- a sound world at the present version is one that a command runs over
pub project_now : (world : World) → IsSound world → IsProject (now_of world)
project_now world sound = is_project (now_of world) (sound_now world sound) (omega arith) (omega arith)

-- a fresh project is sound
pub empty_sound : IsSound empty_world
empty_sound = record {
  next_number = (omega arith, omega arith);
  formed = All-nil _;
  storable = All-nil _;
  granted_to = All-nil _;
  archivable = All-nil _;
  imports = All-nil _;
  consistent = All-nil _;
  recorded = All-nil _;
  given = All-nil _;
  ascending = λ i j d order low. absurd (omega (arith, low));
  names = λ i j d order low. absurd (omega (arith, low));
  archived = All-nil _;
  archived_masks = All-nil _;
  archived_once = λ i j d order low. absurd (omega (arith, low));
  archived_names = λ i j d order low. absurd (omega (arith, low));
  grants = All-nil _;
  granted_once = λ i j d order low. absurd (omega (arith, low));
  imported_once = λ i j d order low. absurd (omega (arith, low));
  classed = All-nil _;
  classes_in_order = λ i j d order low. absurd (omega (arith, low));
  classes_in_time = too_old present_version (omega arith);
}
