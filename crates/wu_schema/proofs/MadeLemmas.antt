-- The tables, one after another, and the row of a fresh project.
use Rattle.wu_schema.proofs.Words.{Database, Has, HasMade, HasNamed, HasTable, HasTables, HoldsAll, Index, IsDatabase, IsPermutation-refl, List, ListsAll, OwnsTree, ProjectTrees, PutsOne, Row, Schema, Table, [], all_has, and_parts, ap, archived_at, arith, cases_Bool, codes, eqb-true, false, first_key, host_at, import_at, inl, inr, length, next_tree, project_at, put_row, refl, stored_project, subst, sym, ℕ, ◌++◌, ◌+◌, ◌==◌, ◌∙◌, ◌∷◌, ◌≡◌, ◌⊎◌}
use Rattle.wu_core.specs.World.{empty_world}
use Rattle.wu_schema.specs.Made.{AreFree, MakesAll, Named, MakesEmpty, IsSequence, keys_of, work_tables, record_tables, class_tables, names_of, project_tables}
use Rattle.wu_schema.proofs.StandsLemmas.{but_one, is_there}
use Rattle.wu_schema.proofs.Parts.{none_in_order, HasParts, Holds, is_part, keeps_but, placed, rows_stand, same_part, table_of}
use Rattle.wu_schema.specs.declared.table.ProjectTable.{ProjectTable}
use Rattle.wu_schema.specs.declared.table.ProjectTable.TheVariants as the_table
use Rattle.wu_schema.specs.ProjectTables.{IsTableOf, table_name}
use Rattle.wu_schema.proofs.StandsOver.{Grows, ByBytes, grows_same, grows_both, still_named, still_compares, tables_are}
use Rattle.wu_schema.proofs.FreeLemmas.{all_before}
use Rattle.wu_schema.proofs.CreateEffect.{index_low, own_table, tree_apart, unguarded}

-- ---- a list of tables

pub made_grows : (old new : Database) (named : Named) → HasMade old new named → Grows old new
made_grows old new named made = record {
  named = made.keeps;
  owns = made.keeps_own;
  keeps = record {
    tables = λ t has. (made.listed t has, all_has (λ (u : Table). new.trees u.tree ≡ old.trees u.tree) old.schema.tables t made.others has);
    owns = made.keeps_own;
    indexes = made.indexes;
    views = made.views;
  };
  new_indexes = λ i has. elim (made.new_indexes i has) [
    | inl before ↦ inl before
    | inr own ↦
        let table = named.1 (next_tree old.schema) in
        inr (unguarded old.schema i (let on = own_table table 0 (next_tree old.schema + 1) table.uniques i own ∙ made.placed in omega (arith, on)))
  ];
}

pub all_grow : (old new : Database) (made : List Named) → MakesAll old new made → Grows old new
all_grow old new [] same = grows_same old new same
all_grow old new (named ∷ made) h = grows_both old h.0 new (made_grows old h.0 named h.1) (all_grow h.0 new made h.2)

pub all_then : (old mid new : Database) (one two : List Named) → MakesAll old mid one → MakesAll mid new two → MakesAll old new (one ++ two)
all_then old mid new [] two same h = subst (λ d. MakesAll d new two) same h
all_then old mid new (named ∷ one) two h k = (h.0, h.1, all_then h.0 mid new one two h.2 k)

-- no index but its own guards the hosts as they are made
host_compares : (old new : Database) → IsDatabase old → HasMade old new (codes "host", host_at) → ByBytes new.schema (next_tree old.schema)
unfolding first_key
host_compares old new sound made i has guard columns =
    let on = eqb-true i.table (next_tree old.schema) (and_parts i.is_unique (i.table == next_tree old.schema) guard).1 in
    elim (made.new_indexes i has) [
      | inl before ↦ absurd (let low = index_low old sound i before in omega (arith, low, on))
      | inr (inl own) ↦ ap (λ (j : Index). (first_key j.order).collation) own
      | inr (inr none) ↦ absurd none
    ]

-- a table of these
abbrev pub IsListed : List Named → Table → Type 0
IsListed made t = (named : Named) × (tree : ℕ) × Has made named × (t ≡ named.1 tree)

-- what is there behind them was there, or is one of them
pub record AddsListed (made : List Named) (old new : Database) : Type 0 where
  pub tables : (t : Table) → Has new.schema.tables t → Has old.schema.tables t ⊎ (IsListed made t ⊎ IsSequence t)
  pub indexes : (i : Index) → Has new.schema.indexes i → Has old.schema.indexes i ⊎ ((t : Table) × (tree : ℕ) × IsListed made t × Has (keys_of t tree) i)

listed_later : (first : Named) (made : List Named) (t : Table) → IsListed made t → IsListed (first ∷ made) t
listed_later first made t is = (is.0, is.1, inr is.2, is.3)

pub all_add : (old new : Database) (made : List Named) → MakesAll old new made → AddsListed made old new
all_add old new [] same = record { tables = λ t has. inl (subst (λ (d : Database). Has d.schema.tables t) same has); indexes = λ i has. inl (subst (λ (d : Database). Has d.schema.indexes i) same has) }
all_add old new (named ∷ made) h =
    let later = all_add h.0 new made h.2 in
    record {
      tables = λ t has. elim (later.tables t has) [
        | inl before ↦ elim (h.1.new_tables t before) [
          | inl first ↦ inl first
          | inr (inl same) ↦ inr (inl (named, next_tree old.schema, inl refl, same))
          | inr (inr counts) ↦ inr (inr counts)
        ]
        | inr (inl listed) ↦ inr (inl (listed_later named made t listed))
        | inr (inr counts) ↦ inr (inr counts)
      ];
      indexes = λ i has. elim (later.indexes i has) [
        | inl before ↦ elim (h.1.new_indexes i before) [
          | inl first ↦ inl first
          | inr own ↦ inr (named.1 (next_tree old.schema), next_tree old.schema + 1, (named, next_tree old.schema, inl refl, refl), own)
        ]
        | inr own ↦ inr (own.0, own.1, listed_later named made own.0 own.2, own.3)
      ];
    }

-- ---- what one of them is in the end

pub record IsMadeIn (end : Database) (name : List ℕ) (table : Table) : Type 0 where
  pub has : HasNamed end.schema name table
  pub empty : end.trees table.tree ≡ []

-- whatever was made behind it
pub still_made : (old mid end : Database) (named : Named) → HasMade old mid named → Grows mid end → IsMadeIn end named.0 (named.1 (next_tree old.schema))
still_made old mid end named made rest =
    let table = named.1 (next_tree old.schema) in
    let there : HasNamed mid.schema named.0 table = (length old.schema.tables, made.has, made.owns) in
    record { has = still_named mid end rest named.0 table there; empty = (rest.keeps.tables table (is_there mid.schema named.0 table there)).1 ∙ ap (λ n. mid.trees n) made.placed ∙ made.empty }

made_in : (old end : Database) (named : Named) (more : List Named) → MakesAll old end (named ∷ more) → IsMadeIn end named.0 (named.1 (next_tree old.schema))
made_in old end named more h = still_made old h.0 end named h.1 (all_grow h.0 end more h.2)

-- the names of tables that were made one after another
pub all_free : (old new : Database) (made : List Named) → MakesAll old new made → AreFree old.schema (names_of made)
all_free old new [] h = tt
all_free old new (named ∷ made) h = (h.1.free, all_before old h.0 (made_grows old h.0 named h.1).keeps (names_of made) (all_free h.0 new made h.2))

abbrev pub AreMadeIn : (old end : Database) (made : List Named) → MakesAll old end made → Type 0
AreMadeIn old end [] same = Unit
AreMadeIn old end (named ∷ more) h = IsMadeIn end named.0 (named.1 (next_tree old.schema)) × AreMadeIn h.0 end more h.2

pub all_in : (old end : Database) (made : List Named) (h : MakesAll old end made) → AreMadeIn old end made h
all_in old end [] same = tt
all_in old end (named ∷ more) h = (made_in old end named more h, all_in h.0 end more h.2)

pub no_list : (rows : List Row) → rows ≡ [] → ListsAll rows []
no_list rows none = subst (λ rs. ListsAll rs []) (sym none) (record { shaped = (tt, tt); same = refl })

no_cells : (rows : List Row) → rows ≡ [] → HoldsAll rows []
no_cells rows none = subst (λ rs. HoldsAll rs []) (sym none) (record { shaped = (tt, tt); same = IsPermutation-refl [] })

-- an empty world has no rows but that of the project
none_held : (p : ProjectTable) → is_part the_table.Project p ≡ false → (rows : List Row) → rows ≡ [] → Holds p rows empty_world
none_held the_table.Project off rows none = absurd (cc)
none_held the_table.Workunit off rows none = no_list rows none
none_held the_table.Result off rows none = no_cells rows none
none_held the_table.Grant off rows none = no_list rows none
none_held the_table.Host off rows none = no_cells rows none
none_held the_table.Archived off rows none = no_list rows none
none_held the_table.Import off rows none = (no_cells rows none, tt, tt)
none_held the_table.HostClass off rows none = (no_cells rows none, none_in_order [] refl)
none_held the_table.WorkunitClass off rows none = no_list rows none

-- ---- all of it

abbrev first_row : Row
first_row = stored_project empty_world

module _ (old end new : Database) (h : MakesAll old end project_tables) (put : PutsOne end new (next_tree old.schema) first_row) where
  abbrev trees : ProjectTrees
  trees the_table.Project = next_tree old.schema
  trees the_table.Workunit = next_tree h.0.schema
  trees the_table.Result = next_tree h.2.0.schema
  trees the_table.Grant = next_tree h.2.2.0.schema
  trees the_table.Host = next_tree h.2.2.2.0.schema
  trees the_table.Archived = next_tree h.2.2.2.2.0.schema
  trees the_table.Import = next_tree h.2.2.2.2.2.0.schema
  trees the_table.HostClass = next_tree h.2.2.2.2.2.2.0.schema
  trees the_table.WorkunitClass = next_tree h.2.2.2.2.2.2.2.0.schema

  made : (p : ProjectTable) → IsMadeIn end (table_name p) (table_of trees p)
  made p = by p (all_in old end project_tables h)
    where
      by : (p : ProjectTable) → AreMadeIn old end project_tables h → IsMadeIn end (table_name p) (table_of trees p)
      by the_table.Project all = all.0
      by the_table.Workunit all = all.1.0
      by the_table.Result all = all.1.1.0
      by the_table.Grant all = all.1.1.1.0
      by the_table.Host all = all.1.1.1.1.0
      by the_table.Archived all = all.1.1.1.1.1.0
      by the_table.Import all = all.1.1.1.1.1.1.0
      by the_table.HostClass all = all.1.1.1.1.1.1.1.0
      by the_table.WorkunitClass all = all.1.1.1.1.1.1.1.1.0

  there : HasParts empty_world.version end.schema trees
  there p is_in = (made p).has

  compares : ByBytes end.schema (trees the_table.Host)
  compares =
      let hosts = h.2.2.2.2 in
      still_compares hosts.0 end (all_grow hosts.0 end ((codes "archived", archived_at) ∷ (codes "import", import_at) ∷ class_tables) hosts.2) (trees the_table.Host) (is_there hosts.0.schema _ _ (length h.2.2.2.0.schema.tables, hosts.1.has, hosts.1.owns)) (host_compares h.2.2.2.0 hosts.0 h.2.2.2.1.sound hosts.1)

  held : (p : ProjectTable) → IsTableOf p empty_world.version → Holds p (new.trees (trees p)) empty_world
  held p is_in = elim (cases_Bool (is_part the_table.Project p)) [
    | inl same ↦ subst (λ q. Holds q (new.trees (trees q)) empty_world) (same_part the_table.Project p same) (put.rows ∙ ap (put_row first_row) (made the_table.Project).empty)
    | inr other ↦
        let empty : end.trees (trees p) ≡ [] = subst (λ n. end.trees n ≡ []) (placed trees p) (made p).empty in
        none_held p other _ (keeps_but empty_world.version end trees there new the_table.Project tt (but_one end new (trees the_table.Project) first_row put) p is_in other ∙ empty)
  ]

  makes_empty : MakesEmpty old new
  makes_empty =
      let grows = all_grow old end project_tables h in
      let adds = all_add old end project_tables h in
      record {
        free = all_free old end project_tables h;
        stands = record { trees = trees; tables = subst (λ (s : Schema). HasTables empty_world.version s trees) (sym put.schema) (tables_are empty_world.version end.schema trees there compares); rows = rows_stand new trees empty_world held (λ off. absurd (off (omega arith))); sound = put.sound };
        keeps = record {
          tables = λ t has.
              let still = grows.keeps.tables t has in
              (subst (λ (s : Schema). Has s.tables t) (sym put.schema) still.0, but_one end new (trees the_table.Project) first_row put t still.0 (tree_apart old.schema t has) ∙ still.1);
          owns = λ t has own. subst (λ (s : Schema). OwnsTree s t) (sym put.schema) (grows.owns t has own);
          indexes = λ i has. subst (λ (s : Schema). Has s.indexes i) (sym put.schema) (grows.keeps.indexes i has);
          views = ap (λ (s : Schema). s.views) put.schema ∙ grows.keeps.views;
        };
        adds = record {
          tables = λ t has. adds.tables t (subst (λ (s : Schema). Has s.tables t) put.schema has);
          indexes = λ i has. adds.indexes i (subst (λ (s : Schema). Has s.indexes i) put.schema has);
        };
        sound = put.sound;
      }

pub all_made : (old mid last end new : Database) → MakesAll old mid work_tables → MakesAll mid last record_tables → MakesAll last end class_tables → ((at tree : ℕ) → HasTable end.schema (codes "project") at (project_at tree) → PutsOne end new tree first_row) → MakesEmpty old new
all_made old mid last end new work records classes puts =
    let h = all_then old mid end work_tables (record_tables ++ class_tables) work (all_then mid last end record_tables class_tables records classes) in
    let project = (all_in old end project_tables h).0.has in
    makes_empty old end new h (puts project.0 (next_tree old.schema) project.1)
