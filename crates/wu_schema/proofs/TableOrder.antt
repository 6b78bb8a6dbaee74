-- The written order of the tables.
use Rattle.std.proofs.Common.{◌≡◌, ◌<◌, ◌∙◌, ℕ, zero, suc, ap, arith, get_or, refl, sym}
use Rattle.wu_schema.specs.ProjectTables.{in_order, rank, IsTableOf}
use Rattle.wu_schema.specs.Tables.{IsClassedVersion}
use Rattle.wu_schema.specs.declared.table.ProjectTable.{ProjectTable}
use Rattle.wu_schema.specs.declared.table.ProjectTable.TheVariants.{Archived, Grant, Host, HostClass, Import, Project, Result as Results, Workunit, WorkunitClass}

-- the table at its place is the table itself
pub at_rank : (which : ProjectTable) → get_or in_order (rank which) Project ≡ which
at_rank Project = refl
at_rank Workunit = refl
at_rank Results = refl
at_rank Grant = refl
at_rank Host = refl
at_rank Archived = refl
at_rank Import = refl
at_rank HostClass = refl
at_rank WorkunitClass = refl

-- and the place of the table at a place is that place
pub rank_at : (place : ℕ) → place < 9 → rank (get_or in_order place Project) ≡ place
rank_at zero low = refl
rank_at (suc zero) low = refl
rank_at (suc (suc zero)) low = refl
rank_at (suc (suc (suc zero))) low = refl
rank_at (suc (suc (suc (suc zero)))) low = refl
rank_at (suc (suc (suc (suc (suc zero))))) low = refl
rank_at (suc (suc (suc (suc (suc (suc zero)))))) low = refl
rank_at (suc (suc (suc (suc (suc (suc (suc zero))))))) low = refl
rank_at (suc (suc (suc (suc (suc (suc (suc (suc zero)))))))) low = refl
rank_at (suc (suc (suc (suc (suc (suc (suc (suc (suc place))))))))) low = absurd (omega (arith, low))

-- each place is below that of the names of hosts
pub rank_low : (which : ProjectTable) → rank which < 9
rank_low Project = omega arith
rank_low Workunit = omega arith
rank_low Results = omega arith
rank_low Grant = omega arith
rank_low Host = omega arith
rank_low Archived = omega arith
rank_low Import = omega arith
rank_low HostClass = omega arith
rank_low WorkunitClass = omega arith

-- no two tables have one place
pub one_rank : (which other : ProjectTable) → rank other ≡ rank which → which ≡ other
one_rank which other same = sym (at_rank which) ∙ sym (ap (λ k. get_or in_order k Project) same) ∙ at_rank other

-- a version that has classes where another has them has the tables of that one
pub table_of_more : (fewer more : ℕ) → (IsClassedVersion fewer → IsClassedVersion more) → (table : ProjectTable) → IsTableOf table fewer → IsTableOf table more
table_of_more fewer more within HostClass is_in = within is_in
table_of_more fewer more within WorkunitClass is_in = within is_in
table_of_more fewer more within Project is_in = tt
table_of_more fewer more within Workunit is_in = tt
table_of_more fewer more within Results is_in = tt
table_of_more fewer more within Grant is_in = tt
table_of_more fewer more within Host is_in = tt
table_of_more fewer more within Archived is_in = tt
table_of_more fewer more within Import is_in = tt
