-- A table beside those of a project: what a change of one leaves of the other.
use Rattle.wu_schema.proofs.Words.{Database, Enforced, Has, IsCalm, IsDatabase, OwnsTree, PutsOne, Refines, Row, Table, World, ap, bytes_eq, bytes_eq-Decides, false, refl, sym, true, ℕ, ◌∙◌, ◌≡◌, ◌≢◌}
use Rattle.wu_schema.specs.Calm.{IsSteady}
use Rattle.wu_schema.proofs.StandsLemmas.{IsChild, but_one, child_calm, child_steady}
use Rattle.wu_schema.proofs.Parts.{apart, calm_from, frame, is_part, kept, parts_there, placed, stands_in, table_of}
use Rattle.wu_schema.specs.declared.table.ProjectTable.{ProjectTable}
use Rattle.wu_schema.specs.declared.table.ProjectTable.TheVariants as the_table
use Rattle.wu_schema.specs.ProjectTables.{IsTableOf}

-- the table stands in the schema in a tree of its own, and no table that the world's version has is called so
pub record IsBeside (old : Database) (world : World) (s : Refines old world) (table : Table) : Type 0 where
  pub listed : Has old.schema.tables table
  pub owns : OwnsTree old.schema table
  pub other : (p : ProjectTable) → IsTableOf p world.version → bytes_eq (table_of s.trees p).name table.name ≡ false

module _ (old : Database) (world : World) (s : Refines old world) (table : Table) (is : IsBeside old world s table) where
  -- its tree is apart from theirs
  pub beside_apart : (p : ProjectTable) → IsTableOf p world.version → s.trees p ≢ table.tree
  beside_apart p is_in same =
      let one : table_of s.trees p ≡ table = is.owns (table_of s.trees p) (stands_in world.version old s.trees (parts_there old world s) p is_in) (placed s.trees p ∙ same) in
      absurd (let e : true ≡ false = sym ((bytes_eq-Decides table.name table.name).1 refl) ∙ ap (λ (u : Table). bytes_eq u.name table.name) (sym one) ∙ is.other p is_in in cc)

  off_table : (p : ProjectTable) → IsTableOf p world.version → (table_of s.trees p).tree ≢ table.tree
  off_table p is_in one = beside_apart p is_in (sym (placed s.trees p) ∙ one)

  -- a row that is put into one of them leaves it
  pub leaves_rows : (new : Database) (p : ProjectTable) → IsTableOf p world.version → (row : Row) → PutsOne old new (s.trees p) row → new.trees table.tree ≡ old.trees table.tree
  leaves_rows new p is_in row put = but_one old new (s.trees p) row put table is.listed (λ same. beside_apart p is_in (sym same))

  -- a child of the workunits is left by a write of one of them but of the workunits, and by one that sets rows of those
  module _ (c : ℕ) (child : IsChild old.schema table c) where
    pub beside_calm : (p : ProjectTable) → IsTableOf p world.version → is_part p the_table.Workunit ≡ false → IsCalm old.schema Enforced table (s.trees p)
    beside_calm p is_in none =
        let there = parts_there old world s in
        child_calm old.schema (s.trees the_table.Workunit) (there the_table.Workunit tt) table c child (s.trees p) (apart world.version old s.trees there p the_table.Workunit is_in tt none)

    -- and a write of its own rows leads to no other
    pub beside_self : IsCalm old.schema Enforced table table.tree
    beside_self = child_calm old.schema (s.trees the_table.Workunit) (parts_there old world s the_table.Workunit tt) table c child table.tree (beside_apart the_table.Workunit tt)

    pub beside_steady : IsSteady old.schema Enforced table
    beside_steady = child_steady old.schema (s.trees the_table.Workunit) (parts_there old world s the_table.Workunit tt) table c child

  -- a change of its rows leaves the world
  module _ (new : Database) (same : new.schema ≡ old.schema) (sound : IsDatabase new) where
    beside_all : ((p : ProjectTable) → IsTableOf p world.version → new.trees (table_of s.trees p).tree ≡ old.trees (table_of s.trees p).tree) → Refines new world
    beside_all stays =
        frame old new world world s (λ p. false) (λ p on. absurd (cc)) same refl (λ p is_in off. kept world.version old s.trees (parts_there old world s) new p (stays p is_in)) (λ p off rows h. h) (λ p on. absurd (cc)) sound

    pub keeps_world : ((u : Table) → Has old.schema.tables u → u.tree ≢ table.tree → IsCalm old.schema Enforced u table.tree → new.trees u.tree ≡ old.trees u.tree) → Refines new world
    keeps_world others = beside_all (λ p is_in.
        let there = parts_there old world s in
        others (table_of s.trees p) (stands_in world.version old s.trees there p is_in) (off_table p is_in) (calm_from world.version old s.trees there table.tree (beside_apart the_table.Workunit tt) p is_in))

  -- so does a row that is put into it
  pub puts_beside : (new : Database) (row : Row) → PutsOne old new table.tree row → Refines new world
  puts_beside new row put = beside_all new put.schema put.sound (λ p is_in. but_one old new table.tree row put (table_of s.trees p) (stands_in world.version old s.trees (parts_there old world s) p is_in) (off_table p is_in))
