-- When two worlds are the same.
use Rattle.std.specs.Prelude.{◌≡◌}
use Rattle.std.specs.List.Sorted.{IsPermutation}
use Rattle.wu_core.specs.World.{World}

-- The two worlds are the same, except for the order of their imports.
pub record SameWorld (a b : World) : Type 0 where
  pub workunits : a.workunits ≡ b.workunits
  pub grants : a.grants ≡ b.grants
  pub archived : a.archived ≡ b.archived
  pub imports : IsPermutation a.imports b.imports
  pub classes : a.classes ≡ b.classes
  pub next_number : a.next_number ≡ b.next_number
  pub version : a.version ≡ b.version
