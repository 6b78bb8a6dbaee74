-- The tables of a project as one family, and the one law of a change: what it leaves alone stands as it stood.
pub use Rattle.std.proofs.lemmas.Bool.{or_parts as either_false}
use Rattle.std.proofs.lemmas.Bool.{leb-true, le-leb}
use Rattle.wu_core.specs.Classes.{AreInOrder}
use Rattle.wu_core.specs.World.{MayBeKept}
use Rattle.wu_core.specs.declared.workunit.HostClass.{HostClass}
use Rattle.wu_schema.proofs.Words.{AllByRecursion, IsPermutation-refl, IsTable, Less, Workunit, arith, class_cells, column, drop, false_from_ne_true, host_class_at, length_permutation, nat_le, number, rowid, stored_class, value_cmp, workunit_class_at, ◌⊎◌, Bool, Database, Enforced, Has, HasNamed, HasTables, HoldsAll, Import, IsAscending, IsCalm, IsDatabase, IsShaped, List, ListsAll, None, Option, OwnsTree, ProjectTrees, Reference, Row, Schema, Some, Refines, Table, World, [], ap, archived_at, bytes_eq, bytes_eq-Decides, cases_Bool, codes, enumerate_from, false, find, flat_map, grant_at, host_at, hosts_of, if◌then◌else◌, import_at, import_cells, inl, inr, instances_of, is_import, is_some, map, project_at, refl, result_at, stored_archived, stored_grant, stored_project, stored_workunit, subst, sym, true, workunit_at, ℕ, ⊤, ◌==◌, ◌||◌, ◌∙◌, ◌∷◌, ◌≡◌, ◌≢◌}
use Rattle.sqlite_trees.specs.declared.store.Shape.TheVariants as shape
use Rattle.wu_schema.specs.Refines.{HasRows, LacksClasses, host_of}
use Rattle.wu_schema.specs.Tables.{IsClassedVersion}
use Rattle.wu_schema.specs.ProjectTables.{IsTableOf, table_name, table_at}
use Rattle.wu_schema.specs.declared.table.ProjectTable.{ProjectTable}
use Rattle.wu_schema.specs.declared.table.ProjectTable.TheVariants as the_table
use Rattle.wu_schema.proofs.QuietLemmas.{same_some}
use Rattle.wu_schema.specs.Calm.{IsSteady}
use Rattle.wu_schema.proofs.CalmLemmas.{calm_bare}
use Rattle.wu_schema.proofs.StandsLemmas.{is_there, IsChild, ChildrenAre, child_calm, child_steady, refers_by, KeepsBut}

-- ---- the tables

-- the table in the tree where the store put it
abbrev pub table_of : ProjectTrees → ProjectTable → Table
table_of t p = table_at p (t p)

-- the rows that a part may have for a world
abbrev pub Holds : ProjectTable → List Row → World → Type 0
Holds the_table.Project rows world = rows ≡ stored_project world ∷ []
Holds the_table.Workunit rows world = ListsAll rows (map stored_workunit world.workunits)
Holds the_table.Result rows world = HoldsAll rows (flat_map instances_of world.workunits)
Holds the_table.Grant rows world = ListsAll rows (map stored_grant (enumerate_from 1 world.grants))
Holds the_table.Host rows world = HoldsAll rows (map (host_of world.grants) (hosts_of world.grants))
Holds the_table.Archived rows world = ListsAll rows (map stored_archived (enumerate_from 1 world.archived))
Holds the_table.Import rows world = HoldsAll rows (map import_cells world.imports) × IsAscending (λ (a b : Import). is_import a.kind a.name b ≡ false) world.imports × AllByRecursion MayBeKept world.imports
Holds the_table.HostClass rows world = HoldsAll rows (map class_cells world.classes) × AreInOrder world.classes
Holds the_table.WorkunitClass rows world = ListsAll rows (map stored_class world.workunits)

-- ---- they are what stands for a world

-- the tables of the parts that the version has
abbrev pub HasParts : ℕ → Schema → ProjectTrees → Type 0
HasParts version schema t = (p : ProjectTable) → IsTableOf p version → HasNamed schema (table_name p) (table_of t p)

abbrev pub parts_there : (db : Database) (world : World) (s : Refines db world) → HasParts world.version db.schema s.trees
parts_there db world s = s.tables.each

pub parts_hold : (db : Database) (world : World) (s : Refines db world) (p : ProjectTable) → IsTableOf p world.version → Holds p (db.trees (s.trees p)) world
parts_hold db world s the_table.Project is_in = s.rows.project
parts_hold db world s the_table.Workunit is_in = s.rows.workunits
parts_hold db world s the_table.Result is_in = s.rows.instances
parts_hold db world s the_table.Grant is_in = s.rows.grants
parts_hold db world s the_table.Host is_in = s.rows.hosts
parts_hold db world s the_table.Archived is_in = s.rows.archived
parts_hold db world s the_table.Import is_in = (s.rows.imports, s.rows.imported_once, s.rows.imports_kept)
parts_hold db world s the_table.HostClass is_in = ((s.rows.classes is_in).hosts, s.rows.classes_in_order)
parts_hold db world s the_table.WorkunitClass is_in = (s.rows.classes is_in).workunits

-- a version has classes or has none
pub classed_or_not : (version : ℕ) → IsClassedVersion version ⊎ (¬ IsClassedVersion version)
classed_or_not version = elim (cases_Bool (nat_le 3 version)) [ inl on ↦ inl (leb-true 3 version on) | inr off ↦ inr (λ on. absurd (let e = sym off ∙ le-leb 3 version on in cc)) ]

pub none_in_order : (classes : List HostClass) → classes ≡ [] → AreInOrder classes
none_in_order classes none = subst AreInOrder (sym none) (λ i j d low high. absurd (omega (arith, high)))

-- and the other way round
pub rows_stand : (db : Database) (t : ProjectTrees) (world : World) → ((p : ProjectTable) → IsTableOf p world.version → Holds p (db.trees (t p)) world) → (¬ IsClassedVersion world.version → LacksClasses world) → HasRows db.trees t world
rows_stand db t world holds classless = record {
  project = holds the_table.Project tt;
  workunits = holds the_table.Workunit tt;
  instances = holds the_table.Result tt;
  grants = holds the_table.Grant tt;
  hosts = holds the_table.Host tt;
  archived = holds the_table.Archived tt;
  imports = (holds the_table.Import tt).0;
  imported_once = (holds the_table.Import tt).1;
  imports_kept = (holds the_table.Import tt).2;
  classes = λ on. record { hosts = (holds the_table.HostClass on).0; workunits = holds the_table.WorkunitClass on };
  classless = classless;
  classes_in_order = elim (classed_or_not world.version) [ inl on ↦ (holds the_table.HostClass on).1 | inr off ↦ none_in_order world.classes (classless off).hosts ];
}

-- over the same schema
pub all_stand : (old new : Database) (world after : World) (s : Refines old world) → new.schema ≡ old.schema → after.version ≡ world.version
    → ((p : ProjectTable) → IsTableOf p after.version → Holds p (new.trees (s.trees p)) after) → (¬ IsClassedVersion after.version → LacksClasses after) → IsDatabase new → Refines new after
all_stand old new world after s same version holds classless sound = record {
  trees = s.trees;
  tables = subst (λ v. HasTables v new.schema s.trees) (sym version) (subst (λ (x : Schema). HasTables world.version x s.trees) (sym same) s.tables);
  rows = rows_stand new s.trees after holds classless;
  sound = sound;
}

-- ---- no two parts have one name

abbrev by_name : List ℕ → ProjectTable
by_name name =
    if bytes_eq name (codes "project") then the_table.Project
    else if bytes_eq name (codes "workunit") then the_table.Workunit
    else if bytes_eq name (codes "result") then the_table.Result
    else if bytes_eq name (codes "credit_grant") then the_table.Grant
    else if bytes_eq name (codes "host") then the_table.Host
    else if bytes_eq name (codes "archived") then the_table.Archived
    else if bytes_eq name (codes "import") then the_table.Import
    else if bytes_eq name (codes "host_class") then the_table.HostClass
    else the_table.WorkunitClass

found_again : (p : ProjectTable) → by_name (table_name p) ≡ p
found_again the_table.Project = refl
found_again _ = refl

-- whether it is this part
abbrev pub is_part : ProjectTable → ProjectTable → Bool
is_part p q = bytes_eq (table_name p) (table_name q)

pub same_part : (p q : ProjectTable) → is_part p q ≡ true → p ≡ q
same_part p q same = sym (found_again p) ∙ ap by_name ((bytes_eq-Decides (table_name p) (table_name q)).0 same) ∙ found_again q

named : (t : ProjectTrees) (p : ProjectTable) → (table_of t p).name ≡ table_name p
named t the_table.Project = refl
named t _ = refl

pub placed : (t : ProjectTrees) (p : ProjectTable) → (table_of t p).tree ≡ t p
placed t the_table.Project = refl
placed t _ = refl

-- ---- the children of the workunits

-- the column by which the rows of a part refer to their workunits
abbrev pub child_column : ProjectTable → Option ℕ
child_column the_table.Result = Some 1
child_column the_table.WorkunitClass = Some 0
child_column _ = None

-- what goes with a workunit, and the workunits themselves
abbrev pub falls_with_work : ProjectTable → Bool
falls_with_work p = is_part the_table.Workunit p || is_some (child_column p)

abbrev references_by : Option ℕ → List Reference
references_by None = []
references_by (Some c) = refers_by c ∷ []

references_in : (t : ProjectTrees) (p : ProjectTable) → (table_of t p).references ≡ references_by (child_column p)
references_in t the_table.Project = refl
references_in t _ = refl

-- the store keeps each child as a table
pub child_shaped : (p : ProjectTable) (c : ℕ) (rows : List Row) (world : World) → child_column p ≡ Some c → Holds p rows world → IsShaped shape.Table rows
child_shaped the_table.Result c rows world is h = h.shaped
child_shaped the_table.WorkunitClass c rows world is h = h.shaped
child_shaped _ c rows world is h = absurd (cc)

-- ---- what a change leaves alone

-- the parts that a change does not touch have the rows that they had
abbrev pub Keeps : ℕ → ProjectTrees → Database → Database → (ProjectTable → Bool) → Type 0
Keeps version t old new touched = (q : ProjectTable) → IsTableOf q version → touched q ≡ false → new.trees (t q) ≡ old.trees (t q)

-- one change after another
pub keeps_both : (version : ℕ) (t : ProjectTrees) (old mid new : Database) (a b : ProjectTable → Bool) → Keeps version t old mid a → Keeps version t mid new b → Keeps version t old new (λ q. a q || b q)
keeps_both version t old mid new a b first second q is_in off = let parts = either_false (a q) (b q) off in second q is_in parts.1 ∙ first q is_in parts.0

module _ (version : ℕ) (old : Database) (t : ProjectTrees) (there : HasParts version old.schema t) where
  pub stands_in : (p : ProjectTable) → IsTableOf p version → Has old.schema.tables (table_of t p)
  stands_in p is_in = is_there old.schema (table_name p) (table_of t p) (there p is_in)

  child_there : (p : ProjectTable) (c : ℕ) → IsTableOf p version → child_column p ≡ Some c → IsChild old.schema (table_of t p) c
  child_there p c is_in is = record { listed = stands_in p is_in; owns = (there p is_in).2; refers = references_in t p ∙ ap references_by is }

  -- two parts have two trees
  pub apart : (p q : ProjectTable) → IsTableOf p version → IsTableOf q version → is_part p q ≡ false → t q ≢ t p
  apart p q in_p in_q other same =
      let e : table_of t p ≡ table_of t q = same_some (sym (there p in_p).1.stands ∙ ap (λ n. find (λ (u : Table). u.tree == n) old.schema.tables) (placed t p ∙ sym same ∙ sym (placed t q)) ∙ (there q in_q).1.stands) in
      let one : table_name p ≡ table_name q = sym (named t p) ∙ ap (λ (u : Table). u.name) e ∙ named t q in
      absurd (let f = sym ((bytes_eq-Decides (table_name p) (table_name q)).1 one) ∙ other in cc)

  table_apart : (p q : ProjectTable) → IsTableOf p version → IsTableOf q version → is_part p q ≡ false → (table_of t q).tree ≢ t p
  table_apart p q in_p in_q other same = apart p q in_p in_q other (sym (placed t q) ∙ same)

  pub kept : (new : Database) (q : ProjectTable) → new.trees (table_of t q).tree ≡ old.trees (table_of t q).tree → new.trees (t q) ≡ old.trees (t q)
  kept new q same = subst (λ n. new.trees n ≡ old.trees n) (placed t q) same

  -- where each other tree is kept
  pub keeps_but : (new : Database) (p : ProjectTable) → IsTableOf p version → KeepsBut old new (t p) → Keeps version t old new (is_part p)
  keeps_but new p in_p but q in_q other = kept new q (but (table_of t q) (stands_in q in_q) (table_apart p q in_p in_q other))

  -- nothing leads to a part from another tree than that of the workunits
  pub calm_from : (source : ℕ) → (t the_table.Workunit) ≢ source → (q : ProjectTable) → IsTableOf q version → IsCalm old.schema Enforced (table_of t q) source
  calm_from source other q in_q = by (child_column q) refl
    where
      by : (o : Option ℕ) → child_column q ≡ o → IsCalm old.schema Enforced (table_of t q) source
      by None bare = calm_bare old.schema (table_of t q) source (there q in_q).2 (references_in t q ∙ ap references_by bare)
      by (Some c) is = child_calm old.schema (t the_table.Workunit) (there the_table.Workunit tt) (table_of t q) c (child_there q c in_q is) source other

  calm : (p q : ProjectTable) → IsTableOf p version → IsTableOf q version → is_part p the_table.Workunit ≡ false → IsCalm old.schema Enforced (table_of t q) (t p)
  calm p q in_p in_q none = calm_from (t p) (apart p the_table.Workunit in_p tt none) q in_q

  -- where each other tree is kept to which no actions lead
  pub keeps_calm : (new : Database) (p : ProjectTable) → IsTableOf p version → is_part p the_table.Workunit ≡ false
      → ((u : Table) → Has old.schema.tables u → u.tree ≢ t p → IsCalm old.schema Enforced u (t p) → new.trees u.tree ≡ old.trees u.tree) → Keeps version t old new (is_part p)
  keeps_calm new p in_p none others q in_q other = kept new q (others (table_of t q) (stands_in q in_q) (table_apart p q in_p in_q other) (calm p q in_p in_q none))

  -- where rows of the workunits are set
  pub keeps_set : (new : Database) → ((u : Table) → Has old.schema.tables u → u.tree ≢ (t the_table.Workunit) → IsCalm old.schema Enforced u (t the_table.Workunit) → new.trees u.tree ≡ old.trees u.tree)
      → ((u : Table) → Has old.schema.tables u → u.tree ≢ (t the_table.Workunit) → IsSteady old.schema Enforced u → new.trees u.tree ≡ old.trees u.tree) → Keeps version t old new (is_part the_table.Workunit)
  keeps_set new others steady q in_q other = kept new q (by (child_column q) refl)
    where
      off : (table_of t q).tree ≢ (t the_table.Workunit)
      off = table_apart the_table.Workunit q tt in_q other

      by : (o : Option ℕ) → child_column q ≡ o → new.trees (table_of t q).tree ≡ old.trees (table_of t q).tree
      by None bare = others (table_of t q) (stands_in q in_q) off (calm_bare old.schema (table_of t q) (t the_table.Workunit) (there q in_q).2 (references_in t q ∙ ap references_by bare))
      by (Some c) is = steady (table_of t q) (stands_in q in_q) off (child_steady old.schema (t the_table.Workunit) (there the_table.Workunit tt) (table_of t q) c (child_there q c in_q is))

  -- where each tree is kept that has no references, as when a workunit goes
  pub keeps_bare : (new : Database) → ((u : Table) → Has old.schema.tables u → OwnsTree old.schema u → u.tree ≢ (t the_table.Workunit) → u.references ≡ [] → new.trees u.tree ≡ old.trees u.tree) → Keeps version t old new falls_with_work
  keeps_bare new bare q in_q off =
      let parts : (is_part the_table.Workunit q ≡ false) × (is_some (child_column q) ≡ false) = either_false _ _ off in
      let none = elim (child_column q) as (λ o. is_some o ≡ false → references_by o ≡ []) [ None ↦ λ no. refl | Some c ↦ λ no. absurd (cc) ] parts.1 in
      kept new q (bare (table_of t q) (stands_in q in_q) (there q in_q).2 (table_apart the_table.Workunit q tt in_q parts.0) (references_in t q ∙ none))

  -- and what is left of the children then
  pub child_left : (new : Database) (left : ℕ → List Row → List Row) → ChildrenAre old new left → (q : ProjectTable) (c : ℕ) → IsTableOf q version → child_column q ≡ Some c → IsShaped shape.Table (old.trees (t q))
      → new.trees (t q) ≡ left c (old.trees (t q))
  child_left new left are q c in_q is = subst (λ n. IsShaped shape.Table (old.trees n) → new.trees n ≡ left c (old.trees n)) (placed t q) (are (table_of t q) c (child_there q c in_q is))

-- ---- a world without classes

abbrev IsUnbound : Workunit → Type 0
IsUnbound w = w.class ≡ 0

-- rows of classes rise where those of the workunits do
below_classes : (n : ℕ) (ws : List Workunit) → AllByRecursion (λ r. value_cmp (number n) (rowid r) ≡ Less) (map stored_workunit ws) → AllByRecursion (λ r. value_cmp (number n) (rowid r) ≡ Less) (map stored_class ws)
below_classes n [] low = tt
below_classes n (w ∷ ws) low = (low.0, below_classes n ws low.1)

classes_rise : (ws : List Workunit) → IsTable (map stored_workunit ws) → IsShaped shape.Table (map stored_class ws)
classes_rise [] up = (tt, tt)
classes_rise (w ∷ ws) up = let more = classes_rise ws up.1 in ((below_classes w.number ws up.0, more.0), (refl, more.1))

-- what lists the same classes has none either
unbound_too : (ws vs : List Workunit) → map stored_class ws ≡ map stored_class vs → AllByRecursion IsUnbound ws → AllByRecursion IsUnbound vs
unbound_too ws [] same none = tt
unbound_too [] (v ∷ vs) same none = absurd (cc)
unbound_too (w ∷ ws) (v ∷ vs) same none = (class_too w v none.0 (cc), unbound_too ws vs (ap (drop 1) same) none.1)
  where
    class_too : (w v : Workunit) → w.class ≡ 0 → stored_class w ≡ stored_class v → v.class ≡ 0
    class_too w v none same = let e : number w.class ≡ number v.class = ap (λ (r : Row). column r 2) same in let k : w.class ≡ v.class = cc in sym k ∙ none

no_hosts : (classes : List HostClass) → HoldsAll [] (map class_cells classes) → classes ≡ []
no_hosts [] h = refl
no_hosts (it ∷ more) h = let few = length_permutation (map class_cells (it ∷ more)) [] h.same in absurd (cc)

module _ (old : Database) (world after : World) (s : Refines old world) (none : LacksClasses world) where
  -- so a world that has the same rows of classes has none
  classless_too : ((rows : List Row) → Holds the_table.HostClass rows world → Holds the_table.HostClass rows after) → ((rows : List Row) → Holds the_table.WorkunitClass rows world → Holds the_table.WorkunitClass rows after) → LacksClasses after
  classless_too hosts works =
      let empty : HoldsAll [] (map class_cells world.classes) = subst (λ (cs : List HostClass). HoldsAll [] (map class_cells cs)) (sym none.hosts) (record { shaped = (tt, tt); same = IsPermutation-refl [] }) in
      let up = classes_rise world.workunits (subst IsTable s.rows.workunits.same s.rows.workunits.shaped.0) in
      record {
        hosts = no_hosts after.classes (hosts [] (empty, none_in_order world.classes none.hosts)).0;
        workunits = unbound_too world.workunits after.workunits (works (map stored_class world.workunits) (record { shaped = up; same = refl })).same none.workunits;
      }

-- ---- the law of a change

module _ (old new : Database) (world after : World) (s : Refines old world) where
  -- what it does not touch it keeps, and the new world lists there what the old one listed; what it touches has the
  -- rows of the new world, which has no classes either before their version
  pub frame_in : (touched : ProjectTable → Bool) → new.schema ≡ old.schema → after.version ≡ world.version → Keeps world.version s.trees old new touched
      → ((q : ProjectTable) → touched q ≡ false → (rows : List Row) → Holds q rows world → Holds q rows after)
      → ((q : ProjectTable) → IsTableOf q world.version → touched q ≡ true → Holds q (new.trees (s.trees q)) after) → (¬ IsClassedVersion world.version → LacksClasses world → LacksClasses after) → IsDatabase new → Refines new after
  frame_in touched same version keeps carries fits classless sound =
      all_stand old new world after s same version (λ q is_in.
      let was = subst (IsTableOf q) version is_in in
      elim (cases_Bool (touched q)) [
        | inl on ↦ fits q was on
        | inr off ↦ carries q off (new.trees (s.trees q)) (subst (λ rows. Holds q rows world) (sym (keeps q was off)) (parts_hold old world s q was))
      ]) (λ off. let was : ¬ IsClassedVersion world.version = λ on. off (subst IsClassedVersion (sym version) on) in classless was (s.rows.classless was)) sound

  -- of parts that the version has, so that before the version of classes it touches none of theirs
  pub frame : (touched : ProjectTable → Bool) → ((q : ProjectTable) → touched q ≡ true → IsTableOf q world.version) → new.schema ≡ old.schema → after.version ≡ world.version → Keeps world.version s.trees old new touched
      → ((q : ProjectTable) → touched q ≡ false → (rows : List Row) → Holds q rows world → Holds q rows after) → ((q : ProjectTable) → touched q ≡ true → Holds q (new.trees (s.trees q)) after) → IsDatabase new → Refines new after
  frame touched is_in same version keeps carries fits = frame_in touched same version keeps carries (λ q was. fits q) (λ off none.
      let beside = λ (q : ProjectTable) (never : ¬ (touched q ≡ true)) (rows : List Row). carries q (false_from_ne_true (touched q) never) rows in
      classless_too old world after s none (beside the_table.HostClass (λ on. off (is_in the_table.HostClass on))) (beside the_table.WorkunitClass (λ on. off (is_in the_table.WorkunitClass on))))

  -- of one part
  pub frame_one : (p : ProjectTable) → IsTableOf p world.version → new.schema ≡ old.schema → after.version ≡ world.version → Keeps world.version s.trees old new (is_part p)
      → ((q : ProjectTable) → is_part p q ≡ false → (rows : List Row) → Holds q rows world → Holds q rows after) → Holds p (new.trees (s.trees p)) after → IsDatabase new → Refines new after
  frame_one p is_in same version keeps carries fits sound =
      frame (is_part p) (λ q on. subst (λ r. IsTableOf r world.version) (same_part p q on) is_in) same version keeps carries (λ q on. subst (λ r. Holds r (new.trees (s.trees r)) after) (same_part p q on) fits) sound
