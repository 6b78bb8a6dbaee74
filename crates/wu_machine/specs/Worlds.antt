-- What is looked up in a world, and what is put into one.
use Rattle.std.specs.Prelude.{ℕ, if◌then◌else◌, List, map, find, bytes_eq, Option}
use Rattle.wu_core.specs.declared.workunit.HostClass.{HostClass}
use Rattle.wu_core.specs.declared.workunit.Workunit.{Workunit}
use Rattle.wu_core.specs.Classes.{with_class}
use Rattle.wu_core.specs.World.{World}

-- The workunit of this name, if it is present.
abbrev pub workunit_named : World → List ℕ → Option Workunit
workunit_named world name = find (λ w. bytes_eq w.name name) world.workunits

-- The world with the workunit of this name changed.
abbrev pub with_named : World → List ℕ → (Workunit → Workunit) → World
with_named world name change = record world { workunits = map (λ w. if bytes_eq w.name name then change w else w) world.workunits }

-- The world with the class of this host set.
abbrev pub with_host_class : World → HostClass → World
with_host_class world it = record world { classes = with_class it.host it.class world.classes }
