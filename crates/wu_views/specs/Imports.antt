-- The imports of a world, in the order in which their view lists them.
use Rattle.std.specs.Prelude.{List, [], ◌∷◌}
use Rattle.std.specs.Cmp.Lexicographic.{slice_cmp}
use Rattle.std.specs.Ordering.{match_ordering, nat_cmp, ordering_then}
use Rattle.std.specs.declared.cmp.Ordering.{Ordering}
use Rattle.wu_core.specs.Codes.{import_kind_code}
use Rattle.wu_core.specs.World.{Import}

-- Imports stand by the number of their kind, and those of one kind by the bytes of their names.
abbrev pub import_order : Import → Import → Ordering
import_order a b = ordering_then (nat_cmp (import_kind_code a.kind) (import_kind_code b.kind)) (slice_cmp nat_cmp a.name b.name)

-- The imports with this one at its place.
abbrev pub with_import_placed : Import → List Import → List Import
with_import_placed import [] = import ∷ []
with_import_placed import (one ∷ more) =
    match_ordering (import_order import one) (import ∷ one ∷ more) (import ∷ one ∷ more) (one ∷ with_import_placed import more)

-- The imports, each at its place.
abbrev pub imports_in_order : List Import → List Import
imports_in_order [] = []
imports_in_order (import ∷ more) = with_import_placed import (imports_in_order more)
