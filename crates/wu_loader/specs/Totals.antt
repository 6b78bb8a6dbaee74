-- A host whose row has other sums than its grants.
use Rattle.std.specs.Prelude.{◌≡◌, ℕ, ◌-◌, ◌≤◌, List, Some, slice_get}
use Rattle.sqlite.specs.Order.{Row}
use Rattle.sqlite.specs.Tree.{Trees}
use Rattle.wu_core.specs.Hosts.{credit_of, grants_of}
use Rattle.wu_core.specs.declared.workunit.Grant.{Grant}
use Rattle.wu_schema.specs.ProjectTables.{ProjectTrees}
use Rattle.wu_loader.specs.Granting.{by_name, IsUngranted, Rise}
use Rattle.wu_loader.specs.Questions.{ShowsTable}
use Rattle.wu_loader.specs.Rows.{grant_row}
use Rattle.wu_schema.specs.Reading.{host_row, IsStoredHost}
use Rattle.wu_loader.specs.Whole.{rows_of, AreSorted}
use Rattle.wu_schema.specs.declared.table.ProjectTable.TheVariants as the_table
use Rattle.wu_schema.specs.declared.rows.HostSum.{HostSum}
use Rattle.wu_loader.specs.declared.totals.OtherSums as told

-- These are the sums of the host's grants, and its row has others.
pub record HasOtherSums (grants : List Grant) (sums : told.OtherSums) : Type 0 where
  pub credit : sums.credit ≡ credit_of grants sums.kept.name
  pub count : sums.grants ≡ grants_of grants sums.kept.name
  pub differ : sums.kept.total ≡ sums.credit → sums.kept.grants ≡ sums.grants → ⊥

-- In order of name, the host at this place, from 1, is the first that does not have the sums of its grants. These are its
-- row and the sums of its grants.
pub record IsFirstOfOtherSums (given rows : List Row) (place : ℕ) (sums : told.OtherSums) : Type 0 where
  pub grants : List Grant
  pub rows_are : given ≡ rows_of grant_row grants
  pub hosts : List HostSum
  pub read : AreSorted host_row IsStoredHost by_name rows hosts
  pub counted : 1 ≤ place
  pub rise : Rise hosts
  pub first : IsUngranted grants hosts (place - 1)
  pub there : slice_get hosts (place - 1) ≡ Some sums.kept
  pub other : HasOtherSums grants sums

-- In the rows of hosts and of grants that questions show, this host is the first that does not have the sums of its
-- grants.
pub record ShowsOtherSums (db : Trees) (trees : ProjectTrees) (sums : told.OtherSums) : Type 0 where
  pub hosts : List Row
  pub grants : List Row
  pub hosts_shown : ShowsTable the_table.Host db trees hosts
  pub grants_shown : ShowsTable the_table.Grant db trees grants
  pub place : ℕ
  pub is : IsFirstOfOtherSums grants hosts place sums
