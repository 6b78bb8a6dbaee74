-- The queue: made beside what was there, and what a change of something else leaves of it.
use Rattle.wu_schema.proofs.Words.{AllByRecursion, [], ◌∷◌, all_from, all_has, Database, Enforced, Has, HasMade, HasNamed, IsCalm, IsDatabase, List, ListsAll, ProjectTrees, PutsOne, Refines, Row, Schema, Table, World, bytes_eq, codes, false, inl, inr, length, map, next_tree, refl, subst, sym, ℕ, ◌∙◌, ◌≡◌, ◌≢◌}
use Rattle.wu_core.specs.declared.marks.Marks.{Marks}
use Rattle.wu_core.specs.World.{empty_world}
use Rattle.wu_schema.specs.Fresh.{MakesProject}
use Rattle.wu_schema.specs.Indexes.{IsIndexed, NamedIndex, queue_indexes}
use Rattle.wu_schema.specs.Made.{AreFree, MakesEmpty, names_of, project_tables}
use Rattle.wu_schema.specs.Queue.{AddsIndexes, HasQueue, MakesIndexes, MakesQueue, queue_names, queue_table}
use Rattle.wu_schema.specs.Stored.{stored_marks}
use Rattle.wu_schema.specs.Tables.{queue_at}
use Rattle.wu_schema.specs.Calm.{IsSteady}
use Rattle.wu_schema.proofs.StandsLemmas.{IsChild, is_there, lists_still}
use Rattle.wu_schema.proofs.Parts.{is_part, table_of}
use Rattle.wu_schema.specs.declared.table.ProjectTable.{ProjectTable}
use Rattle.wu_schema.specs.declared.table.ProjectTable.TheVariants as the_table
use Rattle.wu_schema.specs.ProjectTables.{IsTableOf}
use Rattle.wu_schema.proofs.BesideLemmas.{IsBeside, beside_apart, beside_calm, beside_self, beside_steady, keeps_world, leaves_rows, puts_beside}
use Rattle.wu_schema.proofs.MadeLemmas.{made_grows, no_list, still_made}
use Rattle.wu_schema.proofs.StandsOver.{Grows, grows_both, stands_over, still_named}
use Rattle.wu_schema.proofs.FreeLemmas.{all_before, all_both}
use Rattle.wu_schema.proofs.IndexEffect.{added_grows, all_added_grow, all_added_sound, all_indexed, only_indexed}

-- the names of indexes that were added one after another
added_free : (old new : Database) (table : Table) (named : List NamedIndex) → AddsIndexes old new table named → AreFree old.schema (map (λ one. one.0) named)
added_free old new table [] same = tt
added_free old new table (one ∷ more) h = (h.1.free, all_before old h.0 (added_grows old h.0 table one h.1).keeps (map (λ named. named.0) more) (added_free h.0 new table more h.2))

pub queue_is_made : (old first new : Database) → HasMade old first queue_table → MakesIndexes queue_table queue_indexes first new → MakesQueue old new
queue_is_made old first new made indexed =
    let tree = next_tree old.schema in
    let table = queue_at tree in
    let all = indexed (length old.schema.tables) tree made.has in
    let later : Grows first new = all_added_grow first new table queue_indexes all in
    let grows : Grows old new = grows_both old first new (made_grows old first queue_table made) later in
    let is = still_made old first new queue_table made later in
    let only = only_indexed first new table queue_indexes all in
    let sound = all_added_sound first new table queue_indexes made.sound all in
    record {
      free = (made.free, all_before old first (made_grows old first queue_table made).keeps (map (λ named. named.0) queue_indexes) (added_free first new table queue_indexes all));
      queue = record { tree = tree; table = is.has; indexes = all_indexed first new table queue_indexes all; rows = no_list _ is.empty };
      stands = λ world s. stands_over old new grows world s sound;
      keeps = grows.keeps;
      adds = record {
        tables = λ t has. elim (made.new_tables t (subst (λ ts. Has ts t) only.0 has)) [
          | inl before ↦ inl before
          | inr (inl same) ↦ inr (inl (tree, same))
          | inr (inr counts) ↦ inr (inr counts)
        ];
        indexes = λ i has. elim (only.1 i has) [
          | inl before ↦ elim (made.new_indexes i before) [ inl first ↦ inl first | inr none ↦ absurd none ]
          | inr own ↦ inr (own.0, tree, own.1, own.2, own.3)
        ];
      };
      sound = sound;
    }

-- made behind the tables of an empty world, it makes a fresh project
pub fresh_is_made : (old mid new : Database) → MakesEmpty old mid → MakesQueue mid new → MakesProject old new
fresh_is_made old mid new first second = record {
  free = all_both old.schema (names_of project_tables) queue_names first.free (all_before old mid first.keeps queue_names second.free);
  stands = second.stands empty_world first.stands;
  queue = second.queue;
  keeps = record {
    tables = λ t has. let one = first.keeps.tables t has in let two = second.keeps.tables t one.0 in (two.0, two.1 ∙ one.1);
    owns = λ t has own. second.keeps.owns t (first.keeps.tables t has).0 (first.keeps.owns t has own);
    indexes = λ i has. second.keeps.indexes i (first.keeps.indexes i has);
    views = second.keeps.views ∙ first.keeps.views;
  };
  adds = record {
    tables = λ t has. elim (second.adds.tables t has) [
      | inl before ↦ elim (first.adds.tables t before) [
        | inl was ↦ inl was
        | inr (inl ours) ↦ inr (inl ours)
        | inr (inr counts) ↦ inr (inr (inr counts))
      ]
      | inr more ↦ inr (inr more)
    ];
    indexes = λ i has. elim (second.adds.indexes i has) [
      | inl before ↦ elim (first.adds.indexes i before) [ inl was ↦ inl was | inr own ↦ inr (inl own) ]
      | inr own ↦ inr (inr own)
    ];
  };
  sound = second.sound;
}

-- ---- what stays of it

module _ (old new : Database) (marked after : List (ℕ × Marks)) (q : HasQueue old marked) where
  -- over the same schema it has the rows that its tree has
  pub queue_has : new.schema ≡ old.schema → ListsAll (new.trees q.tree) (map stored_marks after) → HasQueue new after
  queue_has same rows = record {
    tree = q.tree;
    table = subst (λ (s : Schema). HasNamed s (codes "queue") (queue_at q.tree)) (sym same) q.table;
    indexes = subst (λ (s : Schema). AllByRecursion (IsIndexed s q.tree) queue_indexes) (sym same) q.indexes;
    rows = rows;
  }

pub queue_still : (old new : Database) (marked : List (ℕ × Marks)) (q : HasQueue old marked) → new.schema ≡ old.schema → new.trees q.tree ≡ old.trees q.tree → HasQueue new marked
queue_still old new marked q same rows = queue_has old new marked marked q same (lists_still rows q.rows)

-- a queue that was there is there still, whatever else was made
pub queue_over : (old new : Database) (marked : List (ℕ × Marks)) → Grows old new → HasQueue old marked → HasQueue new marked
queue_over old new marked grows q = record {
  tree = q.tree;
  table = still_named old new grows (codes "queue") (queue_at q.tree) q.table;
  indexes = all_from (IsIndexed new.schema q.tree) queue_indexes (λ named has. let it = all_has (IsIndexed old.schema q.tree) queue_indexes named q.indexes has in (it.0, grows.keeps.indexes _ it.1));
  rows = lists_still (grows.keeps.tables (queue_at q.tree) (is_there old.schema _ _ q.table)).1 q.rows;
}

-- no table of a project is called so
called_otherwise : (t : ProjectTrees) (p : ProjectTable) → bytes_eq (table_of t p).name (codes "queue") ≡ false
called_otherwise t the_table.Project = refl
called_otherwise t _ = refl

module _ (old : Database) (world : World) (s : Refines old world) (marked : List (ℕ × Marks)) (q : HasQueue old marked) where
  pub queue_listed : Has old.schema.tables (queue_at q.tree)
  queue_listed = is_there old.schema _ _ q.table

  is_beside : IsBeside old world s (queue_at q.tree)
  is_beside = record { listed = queue_listed; owns = q.table.2; other = λ p is_in. called_otherwise s.trees p }

  -- its tree is apart from those of the project's tables
  pub queue_apart : (p : ProjectTable) → IsTableOf p world.version → s.trees p ≢ q.tree
  queue_apart = beside_apart old world s (queue_at q.tree) is_beside

  -- its rows go with their workunits
  pub queue_child : IsChild old.schema (queue_at q.tree) 0
  queue_child = record { listed = queue_listed; owns = q.table.2; refers = refl }

  -- a row that is put into one of them leaves it
  pub rows_beside : (new : Database) (p : ProjectTable) → IsTableOf p world.version → (row : Row) → PutsOne old new (s.trees p) row → new.trees q.tree ≡ old.trees q.tree
  rows_beside = leaves_rows old world s (queue_at q.tree) is_beside

  pub queue_beside : (new : Database) (p : ProjectTable) → IsTableOf p world.version → (row : Row) → PutsOne old new (s.trees p) row → HasQueue new marked
  queue_beside new p is_in row put = queue_still old new marked q put.schema (rows_beside new p is_in row put)

  -- so does a write of one of them but of the workunits
  pub queue_calm : (p : ProjectTable) → IsTableOf p world.version → is_part p the_table.Workunit ≡ false → IsCalm old.schema Enforced (queue_at q.tree) (s.trees p)
  queue_calm = beside_calm old world s (queue_at q.tree) is_beside 0 queue_child

  -- and one of its own rows leads to no other
  pub queue_self : IsCalm old.schema Enforced (queue_at q.tree) q.tree
  queue_self = beside_self old world s (queue_at q.tree) is_beside 0 queue_child

  -- where rows of the workunits are set, it stays
  pub queue_steady : IsSteady old.schema Enforced (queue_at q.tree)
  queue_steady = beside_steady old world s (queue_at q.tree) is_beside 0 queue_child

  -- and a change of its rows leaves the world
  pub world_kept : (new : Database) → new.schema ≡ old.schema → IsDatabase new → ((u : Table) → Has old.schema.tables u → u.tree ≢ q.tree → IsCalm old.schema Enforced u q.tree → new.trees u.tree ≡ old.trees u.tree) → Refines new world
  world_kept = keeps_world old world s (queue_at q.tree) is_beside

  -- so does a row that is put into it
  pub world_beside : (new : Database) (row : Row) → PutsOne old new q.tree row → Refines new world
  world_beside = puts_beside old world s (queue_at q.tree) is_beside
