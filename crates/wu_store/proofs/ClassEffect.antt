-- What the statements of a workunit's class do to the world and to a queue.
use Rattle.wu_schema.proofs.Words.{Bool, Database, Executes, HoldsAll, List, ListsAll, Null, Ok, Refines, Row, State, Workunit, World, [], ap, append-nil, arith, cast_row, class_row, codes, col, eqb-true, everything, if◌then◌else◌, instances_of, lit, map, map-map, number, pos, refl, stored_class, stored_workunit, subst, sym, true, false, value_rows, workunit_class_at, ℕ, ◌==◌, ◌∙◌, ◌∷◌, ◌≡◌, PutsOne, Schema}
use Rattle.sqlite_sql.specs.declared.ops.CompareOp.TheVariants as compare
use Rattle.wu_core.specs.declared.marks.Marks.{Marks}
use Rattle.wu_schema.specs.Queue.{HasQueue}
use Rattle.wu_schema.specs.Tables.{HasNamed, queue_at}
use Rattle.wu_schema.proofs.InsertEffect.{cast_null, puts_one}
use Rattle.wu_schema.proofs.InsertTexts.{Put, PutFits}
use Rattle.wu_schema.proofs.Parts.{Holds, apart, calm_from, frame_one, is_part, keeps_calm, parts_there}
use Rattle.wu_schema.specs.declared.table.ProjectTable.{ProjectTable}
use Rattle.wu_schema.specs.declared.table.ProjectTable.TheVariants as the_table
use Rattle.wu_schema.proofs.QueueLemmas.{queue_apart, queue_calm, queue_listed, queue_still}
use Rattle.wu_schema.proofs.SetTexts.{SetBy, SetFits}
use Rattle.wu_schema.proofs.StandsLemmas.{is_there, lists_still}
use Rattle.wu_schema.specs.Classes.{HasClassTables}
use Rattle.wu_schema.proofs.ClassLemmas.{class_is_put, class_leaves, class_row_leaves, class_stands}
use Rattle.wu_store.specs.Changes.{with_placed, without_instances}
use Rattle.wu_store.proofs.PlacedLemmas.{stands_with_placed}
use Rattle.wu_store.specs.Classes.{AddsClass, ChangesClasses, PutsClass, and_class, with_class_of, with_set_class}
use Rattle.wu_store.specs.StandsFor.{KnowsClasses}
use Rattle.wu_store.proofs.KeyedLemmas.{flat_map_stays, lists_at_place, map_stays}
use Rattle.wu_store.proofs.ChangeLemmas.{cast_number}
use Rattle.wu_store.proofs.DeleteTexts.{by_number}
use Rattle.wu_store.proofs.InPlaceLemmas.{replaced}
use Rattle.wu_store.proofs.SetEffect.{in_its_place, lists_in_its_place, resets_one, sets_by}
use Rattle.wu_store.proofs.UpdateEffect.{Sets}
use Rattle.wu_store.specs.declared.texts.TheConstants.{INSERT_CLASS, UPDATE_CLASS}

-- ---- a class that is put in

abbrev pub class_put : Put
class_put = record { text = INSERT_CLASS.now; terms = col 0 0 ∷ lit Null ∷ col 0 1 ∷ [] }

pub class_fits : PutFits (codes "workunit_class") workunit_class_at class_put
unfolding everything
class_fits = record { read = refl; made = λ schema tree. refl; formats = λ tree. refl; bare = λ tree. refl; plain = λ tree params. append-nil params }

put_kept : (tree n class : ℕ) → map (λ s. cast_row (workunit_class_at tree) s) (value_rows (number n ∷ number class ∷ []) 3 1 class_put.terms) ≡ class_row (n, class) ∷ []
put_kept tree n class = simp (cast_null, cast_number)

pub puts_class : (old new : State) (n class count : ℕ) → Executes class_put.text (number n ∷ number class ∷ []) old new (Ok count) → PutsClass n class old.now new.now
puts_class old new n class count ran tree has =
    puts_one (codes "workunit_class") workunit_class_at class_put class_fits (number n ∷ number class ∷ []) old new has.0 tree has.1 (class_row (n, class)) (class_row (n, class)) (put_kept tree n class) refl count ran

-- with the row of its workunit, which has no instances yet
module _ (old mid new : Database) (w : Workunit) (class : PutsClass w.number w.class mid new) (world : World) (known : KnowsClasses world) (s : Refines old world) (put : PutsOne old mid (s.trees the_table.Workunit) (stored_workunit w)) where
  named_then : HasNamed mid.schema (codes "workunit_class") (workunit_class_at (s.trees the_table.WorkunitClass))
  named_then = subst (λ (x : Schema). HasNamed x (codes "workunit_class") (workunit_class_at (s.trees the_table.WorkunitClass))) (sym put.schema) (s.tables.each the_table.WorkunitClass known)

  pub places_workunit : Refines new (with_placed (without_instances w) world)
  places_workunit = stands_with_placed old mid new world s known (without_instances w) put (class (s.trees the_table.WorkunitClass) named_then) refl

  pub placed_leaves : (marked : List (ℕ × Marks)) → HasQueue mid marked → HasQueue new marked
  placed_leaves marked q = class_row_leaves mid new (s.trees the_table.WorkunitClass) named_then (class_row (w.number, w.class)) (class (s.trees the_table.WorkunitClass) named_then) marked q

-- beside a world of an older version
pub adds_class : (old new : Database) (n class : ℕ) → PutsClass n class old new → AddsClass n class old new
adds_class old new n class puts =
    let put = λ (classed : List (ℕ × ℕ)) (c : HasClassTables old classed). puts c.workunit_class c.workunits in
    record {
      tables = λ classed c. class_is_put old new classed (with_class_of n class classed) c (n, class) (put classed c) (lists_at_place (λ (p : ℕ × ℕ). p.0) (λ p. Null ∷ number p.1 ∷ []) (n, class) classed (old.trees c.workunit_class) c.rows);
      stands = λ world classed older c s. class_stands old new classed [] c (n, class) (put classed c) world s older;
      queue = λ classed marked c q. class_leaves old new classed [] c (n, class) (put classed c) marked q;
    }

-- ---- a class that is set

abbrev pub class_set : SetBy
class_set = record {
  text = UPDATE_CLASS.now;
  parameters = codes "?1" ∷ codes "?2" ∷ [];
  columns = 1 ∷ [];
  tests = (0, compare.Eq, 0) ∷ [];
  made = col 1 0 ∷ col 1 0 ∷ lit Null ∷ col 0 1 ∷ [];
}

pub class_set_fits : (tree : ℕ) → SetFits (workunit_class_at tree) 1 class_set
unfolding everything
class_set_fits tree = record { read = refl; placed = (refl, tt); row_is = refl; tests = refl; strict = refl; height = (698, refl); few = omega arith; typed = refl }

set_kept : (tree n class : ℕ) → cast_row (workunit_class_at tree) (class_row (n, class)) ≡ class_row (n, class)
set_kept tree n class = simp (cast_null, cast_number)

-- the number and the class of each workunit
abbrev classed : Workunit → ℕ × ℕ
classed w = (w.number, w.class)

abbrev by_first : ℕ × ℕ → ℕ
by_first p = p.0

abbrev behind : ℕ × ℕ → Row
behind p = Null ∷ number p.1 ∷ []

module _ (n class : ℕ) where
  -- in place of the one of its number
  class_in_place : (ws : List Workunit) → map class_row (in_its_place by_first behind (n, class) (map classed ws)) ≡ map stored_class (map (and_class n class) ws)
  class_in_place [] = refl
  class_in_place (w ∷ ws) = ap (λ r. r ∷ map class_row (in_its_place by_first behind (n, class) (map classed ws))) (one (w.number == n) refl) ∙ ap (λ rs. stored_class (and_class n class w) ∷ rs) (class_in_place ws)
    where
      one : (b : Bool) → (w.number == n) ≡ b → class_row (if b then (n, class) else classed w) ≡ stored_class (if b then record w { class = class } else w)
      one true same = ap (λ m. class_row (m, class)) (sym (eqb-true w.number n same))
      one false other = refl

  module _ (old new : State) (world : World) (known : KnowsClasses world) (s : Refines old.now world) (count : ℕ) (ran : Executes class_set.text (number n ∷ number class ∷ []) old new (Ok count)) where
    abbrev tree : ℕ
    tree = (s.trees the_table.WorkunitClass)

    abbrev rows : List Row
    rows = old.now.trees tree

    there : HasNamed old.now.schema (codes "workunit_class") (workunit_class_at tree)
    there = s.tables.each the_table.WorkunitClass known

    held : ListsAll rows (map class_row (map classed world.workunits))
    held = subst (ListsAll rows) (sym (map-map class_row classed world.workunits)) (s.rows.classes known).workunits

    class_sets : Sets old.now new.now (workunit_class_at tree) by_number class_set.made (number n ∷ number class ∷ [])
    class_sets = sets_by old new (workunit_class_at tree) there.0 there.1 (is_there old.now.schema _ _ there) 1 class_set (class_set_fits tree) (number n ∷ number class ∷ []) count ran

    rows_are : new.now.trees tree ≡ replaced (pos n) (class_row (n, class)) rows
    rows_are =
        let all = parts_there old.now world s in
        class_sets.rows (calm_from world.version old.now s.trees all tree (apart world.version old.now s.trees all the_table.WorkunitClass the_table.Workunit known tt refl) the_table.WorkunitClass known)
        ∙ resets_one (pos n) (class_row (n, class)) rows held.shaped refl (workunit_class_at tree) class_set.made (number class ∷ []) (class_row (n, class)) (set_kept tree n class) (λ x key. ap (λ v. v ∷ v ∷ Null ∷ number class ∷ []) key) class_sets.found class_sets.shown

    pub sets_class : Refines new.now (with_set_class n class world)
    sets_class = frame_one old.now new.now world (with_set_class n class world) s the_table.WorkunitClass known class_sets.schema refl
        (keeps_calm world.version old.now s.trees (parts_there old.now world s) new.now the_table.WorkunitClass known refl class_sets.others) carry
        (lists_still rows_are (subst (ListsAll (replaced (pos n) (class_row (n, class)) rows)) (class_in_place world.workunits) (lists_in_its_place by_first behind (n, class) (map classed world.workunits) rows held)))
        class_sets.sound
      where
        carry : (p : ProjectTable) → is_part the_table.WorkunitClass p ≡ false → (rs : List Row) → Holds p rs world → Holds p rs (with_set_class n class world)
        carry the_table.WorkunitClass off rs h = absurd (cc)
        carry the_table.Workunit off rs h = subst (ListsAll rs) (sym (map_stays (λ (w : Workunit). w.number == n) (λ w. record w { class = class }) stored_workunit (λ w on. refl) world.workunits)) h
        carry the_table.Result off rs h = subst (HoldsAll rs) (sym (flat_map_stays (λ (w : Workunit). w.number == n) (λ w. record w { class = class }) instances_of (λ w on. refl) world.workunits)) h
        carry _ off rs h = h

    pub class_set_leaves : (marked : List (ℕ × Marks)) → HasQueue old.now marked → HasQueue new.now marked
    class_set_leaves marked q = queue_still old.now new.now marked q class_sets.schema
        (class_sets.others (queue_at q.tree) (queue_listed old.now world s marked q) (λ same. queue_apart old.now world s marked q the_table.WorkunitClass known (sym same)) (queue_calm old.now world s marked q the_table.WorkunitClass known refl))

-- whatever the world
pub changes_class : (n class : ℕ) (old new : State) (count : ℕ) → Executes class_set.text (number n ∷ number class ∷ []) old new (Ok count) → ChangesClasses (with_set_class n class) old.now new.now
changes_class n class old new count ran = record {
  stands = λ world known s. sets_class n class old new world known s count ran;
  queue = λ world marked known s q. class_set_leaves n class old new world known s count ran marked q;
}
