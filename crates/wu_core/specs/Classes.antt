-- Classes of hosts. A host that no file named has class 0.
use Rattle.std.specs.Prelude.{◌≡◌, ℕ, ◌≤◌, List, [], ◌∷◌, All, AllPairs, bytes_eq, find}
use Rattle.std.specs.Cmp.Lexicographic.{slice_cmp}
use Rattle.std.specs.Option.{option_map_or}
use Rattle.std.specs.Ordering.{nat_cmp, match_ordering}
use Rattle.std.specs.declared.cmp.Ordering.TheVariants.{Less}
use Rattle.wu_core.specs.declared.workunit.HostClass.{HostClass}
use Rattle.wu_core.specs.Limits.{highest_class}
use Rattle.wu_core.specs.Storable.{IsName}

-- The class of a host.
abbrev pub class_of : List HostClass → List ℕ → ℕ
class_of classes host = option_map_or (λ it. it.class) (find (λ it. bytes_eq it.host host) classes) 0

-- The classes of hosts with this host's class set, at its place by the bytes of its name.
abbrev pub with_class : List ℕ → ℕ → List HostClass → List HostClass
with_class host class [] = record { host = host; class = class } ∷ []
with_class host class (one ∷ more) =
    match_ordering (slice_cmp nat_cmp host one.host)
    (record { host = host; class = class } ∷ one ∷ more)
    (record { host = host; class = class } ∷ more)
    (one ∷ with_class host class more)

-- The hosts are in order of the bytes of their names, and none is listed twice.
abbrev pub AreInOrder : List HostClass → Type 0
AreInOrder classes = AllPairs (λ one other. slice_cmp nat_cmp one.host other.host ≡ Less) classes

-- The host has a valid name, and a class from 1 to the highest.
pub record IsClassed (it : HostClass) : Type 0 where
  pub host : IsName it.host
  pub named : 1 ≤ it.class
  pub within : it.class ≤ highest_class

abbrev pub AreClassed : List HostClass → Type 0
AreClassed classes = All IsClassed classes
