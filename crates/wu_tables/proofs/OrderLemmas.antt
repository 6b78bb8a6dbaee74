-- The first that is wrong with the tables, in the written order.
use Rattle.std.proofs.Common.{◌≡◌, ◌+◌, ◌<◌, ◌∙◌, ℕ, zero, suc, IfErr, IsErrAnd, OnOk, Result, Ok, Err, ap, arith, below_more, get_or, refl, subst, sym}
use Rattle.sqlite.specs.Schema.{Schema}
use Rattle.wu_schema.specs.ProjectTables.{HasTables, IsTableOf, ProjectTrees, in_order, table_name, rank, table_at}
use Rattle.wu_schema.proofs.TableOrder.{one_rank, rank_at, rank_low}
use Rattle.wu_tables.specs.Found.{rank_of, AreThereBefore, HasBytewiseHosts, IsFirstMisfit, IsTableIn, IsThere, IsMisfitOf}
use Rattle.wu_schema.specs.declared.table.ProjectTable.{ProjectTable}
use Rattle.wu_schema.specs.declared.table.ProjectTable.TheVariants.{Archived, Grant, Host, HostClass, Import, Project, Result as Results, Workunit, WorkunitClass}
use Rattle.wu_tables.specs.declared.project.Misfit.{Misfit}

module _ (version : ℕ) (schema : Schema) where
  pub none_before : AreThereBefore version schema 0
  none_before which low = absurd (omega (arith, low))

  -- with one table more
  pub more_before : (which : ProjectTable) (tree : ℕ) → IsThere version schema which tree → AreThereBefore version schema (rank which) → AreThereBefore version schema (rank which + 1)
  more_before which tree there so_far other low =
      below_more (λ k. (t : ProjectTable) → rank t ≡ k → (tree : ℕ) × IsThere version schema t tree) (rank which) (λ k less t is. so_far t (subst (λ n. n < rank which) (sym is) less))
      (λ t is. (tree, subst (λ (u : ProjectTable). IsThere version schema u tree) (one_rank which t is) there)) (rank other) low other refl

  -- what is wrong with the next table is the first
  pub first_in : {T : Type 0} (r : Result T Misfit) (misfit : Misfit) (which : ProjectTable) → AreThereBefore version schema (rank which) → IsErrAnd r (λ other. other ≡ misfit) → IsMisfitOf version schema misfit → rank_of misfit ≡ rank which → IfErr r (IsFirstMisfit version schema)
  first_in (Ok x) misfit which so_far same wrong at = tt
  first_in (Err other) misfit which so_far same wrong at =
      subst (IsFirstMisfit version schema) (sym same) (record { wrong = wrong; before = subst (AreThereBefore version schema) (sym at) so_far })

  -- with the table at the next place
  pub next_there : (place : ℕ) → place < 9 → (tree : ℕ) → IsThere version schema (get_or in_order place Project) tree → AreThereBefore version schema place → AreThereBefore version schema (place + 1)
  next_there place low tree there so_far =
      let at = rank_at place low in
      subst (λ n. AreThereBefore version schema (n + 1)) at (more_before (get_or in_order place Project) tree there (subst (AreThereBefore version schema) (sym at) so_far))

  -- what is wrong with the table at the next place is the first
  pub first_at : {T : Type 0} (r : Result T Misfit) (misfit : Misfit) (place : ℕ) → place < 9 → AreThereBefore version schema place → IsErrAnd r (λ other. other ≡ misfit) → IsMisfitOf version schema misfit → rank_of misfit ≡ rank (get_or in_order place Project) → IfErr r (IsFirstMisfit version schema)
  first_at r misfit place low so_far = first_in r misfit (get_or in_order place Project) (subst (AreThereBefore version schema) (sym (rank_at place low)) so_far)

  -- what is there before the last place is there before each
  pub all_before : AreThereBefore version schema 9 → (which : ProjectTable) → AreThereBefore version schema (rank which)
  all_before all which other low = all other (rank_low other)

  -- the tree of each
  abbrev trees_from : AreThereBefore version schema 9 → HasBytewiseHosts version schema → ProjectTrees
  trees_from all hosts Host = hosts.0
  trees_from all hosts which = (all which (rank_low which)).0

  each_there : (all : AreThereBefore version schema 9) (hosts : HasBytewiseHosts version schema) (which : ProjectTable) → IsTableOf which version → IsTableIn schema (table_name which) (table_at which) (trees_from all hosts which)
  each_there all hosts Host is_in = hosts.1 is_in
  each_there all hosts which is_in = (all which (rank_low which)).1 is_in

  -- all tables, in their trees
  pub tables_from : AreThereBefore version schema 9 → HasBytewiseHosts version schema → (trees : ProjectTrees) × HasTables version schema trees
  tables_from all hosts = (trees_from all hosts, record { each = each_there all hosts; by_bytes = hosts.2 })

  -- what is known of the hosts completes the tables
  pub tables_found : {T : Type 0} (r : Result T Misfit) → AreThereBefore version schema 9 → OnOk r (HasBytewiseHosts version schema) → OnOk r ((trees : ProjectTrees) × HasTables version schema trees)
  tables_found (Ok x) all hosts = tables_from all hosts
  tables_found (Err misfit) all hosts = tt
