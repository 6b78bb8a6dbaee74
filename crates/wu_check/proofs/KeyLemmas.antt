-- The key of the row of which a world's audit tells: the row is there.
use Rattle.std.proofs.Common.{◌≡◌, ℕ, ◌<◌, length, Option, None, Some, arith, refl, subst}
use Rattle.wu_core.specs.World.{World}
use Rattle.wu_audit.specs.Words.{place_of_wrong, table_of}
use Rattle.wu_audit.specs.Wrong.{StandsAgainst}
use Rattle.wu_audit.specs.declared.wrong.AuditTable.{AuditTable}
use Rattle.wu_audit.specs.declared.wrong.AuditTable.TheVariants as table
use Rattle.wu_audit.specs.declared.wrong.Wrong.{Wrong}
use Rattle.wu_audit.specs.declared.wrong.Wrong.TheVariants as wrong
use Rattle.wu_check.specs.Findings.{IsKeyAt, IsKeyOf}
use Rattle.wu_check.specs.declared.finding.Key.{Key}
use Rattle.wu_check.specs.declared.finding.Key.TheVariants as key

-- how many rows the world has in a table whose rows are told by their places
abbrev pub rows_in : World → AuditTable → ℕ
rows_in world table.Project = 0
rows_in world table.Workunit = length world.workunits
rows_in world table.Grant = length world.grants
rows_in world table.Archived = length world.archived
rows_in world table.Import = length world.imports
rows_in world table.HostClass = length world.classes

below : (place n count : ℕ) → ◌≡◌ {A = Option ℕ} (Some place) (Some n) → place < count → n < count
below place n count is low = let same : place ≡ n = cc in omega (arith, same, low)

stands_within : (world : World) (told : Wrong) → StandsAgainst world told → (n : ℕ) → place_of_wrong told ≡ Some n → n < rows_in world (table_of told)
stands_within world wrong.NextNumber stands n is = absurd cc
stands_within world (wrong.WorkunitForm place) stands n is = below place n _ is stands.1.within
stands_within world (wrong.WorkunitValues place) stands n is = below place n _ is stands.1.within
stands_within world (wrong.ArchivedValues place) stands n is = below place n _ is stands.1.within
stands_within world (wrong.ImportVerdicts place) stands n is = below place n _ is stands.1.within
stands_within world (wrong.WorkunitStates place) stands n is = below place n _ is stands.1.within
stands_within world (wrong.ArchivedMask place) stands n is = below place n _ is stands.1.within
stands_within world (wrong.WorkunitNumber place) stands n is = below place n _ is stands.1.within
stands_within world (wrong.WorkunitOrder place) stands n is = below place n _ is stands.1.within
stands_within world (wrong.WorkunitTwice place) stands n is = below place n _ is stands.1.within
stands_within world (wrong.ArchivedNumber place) stands n is = below place n _ is stands.1.within
stands_within world (wrong.ArchivedTwice place) stands n is = below place n _ is stands.1.within
stands_within world (wrong.ArchivedNameTwice place) stands n is = below place n _ is stands.1.within
stands_within world (wrong.GrantValues place) stands n is = below place n _ is stands.1.within
stands_within world (wrong.GrantTwice place) stands n is = below place n _ is stands.1.within
stands_within world (wrong.ImportTwice place) stands n is = below place n _ is stands.1.within
stands_within world (wrong.GrantAstray place) stands n is = below place n _ is stands.1.within
stands_within world (wrong.GrantMissing place) stands n is = below place n _ is stands.1.within
stands_within world (wrong.ArchivedAstray place) stands n is = below place n _ is stands.1.within
stands_within world (wrong.ArchivedMissing place) stands n is = below place n _ is stands.1.within
stands_within world (wrong.NameTaken place) stands n is = below place n _ is stands.1.within
stands_within world (wrong.ClassValues place) stands n is = below place n _ is stands.1.within
stands_within world (wrong.ClassOrder place) stands n is = below place n _ is stands.1.within
stands_within world wrong.EarlyClasses stands n is = absurd cc

-- the row that is told of, in the table that is told of
pub row_within : (world : World) (told : Wrong) (t : AuditTable) (n : ℕ) → StandsAgainst world told → table_of told ≡ t → place_of_wrong told ≡ Some n → n < rows_in world t
row_within world told t n stands at is = subst (λ s. n < rows_in world s) at (stands_within world told stands n is)

pub key_at : (world : World) (told : Wrong) (t : AuditTable) (n : ℕ) (k : Key) → table_of told ≡ t → place_of_wrong told ≡ Some n → IsKeyAt world t (Some n) k → IsKeyOf world told k
key_at world told t n k at is key = rw (at, is) key

-- what tells no row tells of the project
pub key_of_none : (world : World) (told : Wrong) → place_of_wrong told ≡ None → IsKeyOf world told key.Project
key_of_none world wrong.NextNumber is = refl
key_of_none world (wrong.WorkunitForm place) is = absurd cc
key_of_none world (wrong.WorkunitValues place) is = absurd cc
key_of_none world (wrong.ArchivedValues place) is = absurd cc
key_of_none world (wrong.ImportVerdicts place) is = absurd cc
key_of_none world (wrong.WorkunitStates place) is = absurd cc
key_of_none world (wrong.ArchivedMask place) is = absurd cc
key_of_none world (wrong.WorkunitNumber place) is = absurd cc
key_of_none world (wrong.WorkunitOrder place) is = absurd cc
key_of_none world (wrong.WorkunitTwice place) is = absurd cc
key_of_none world (wrong.ArchivedNumber place) is = absurd cc
key_of_none world (wrong.ArchivedTwice place) is = absurd cc
key_of_none world (wrong.ArchivedNameTwice place) is = absurd cc
key_of_none world (wrong.GrantValues place) is = absurd cc
key_of_none world (wrong.GrantTwice place) is = absurd cc
key_of_none world (wrong.ImportTwice place) is = absurd cc
key_of_none world (wrong.GrantAstray place) is = absurd cc
key_of_none world (wrong.GrantMissing place) is = absurd cc
key_of_none world (wrong.ArchivedAstray place) is = absurd cc
key_of_none world (wrong.ArchivedMissing place) is = absurd cc
key_of_none world (wrong.NameTaken place) is = absurd cc
key_of_none world (wrong.ClassValues place) is = absurd cc
key_of_none world (wrong.ClassOrder place) is = absurd cc
key_of_none world wrong.EarlyClasses is = refl
