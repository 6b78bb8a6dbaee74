-- What the statements that set a row do to the world and to the queue.
use Rattle.wu_schema.proofs.Words.{Bool, Executes, HoldsAll, Instance, List, ListsAll, Null, Ok, Refines, Row, State, Workunit, World, [], ap, arith, cases_Bool, cast_row, codes, col, enumerate_from, eqb-true, eval_all, everything, false, has_rowid, if◌then◌else◌, inl, inr, instance_cells, instances_of, length, list_any, lit, map, number, pos, refl, rowid, class_row, stored_class, stored_workunit, subst, sym, true, workunit_at, workunit_row, ℕ, ◌==◌, ◌∙◌, ◌∷◌, ◌≡◌}
use Rattle.sqlite_sql.specs.declared.ops.CompareOp.TheVariants as compare
use Rattle.wu_core.specs.declared.marks.Marks.{Marks}
use Rattle.wu_schema.specs.Queue.{HasQueue}
use Rattle.wu_schema.specs.Stored.{marks_cells, stored_marks, workunit_cells}
use Rattle.wu_schema.specs.Tables.{queue_at}
use Rattle.wu_schema.proofs.InsertEffect.{cast_null}
use Rattle.wu_schema.proofs.CalmLemmas.{calm_bare}
use Rattle.wu_schema.proofs.Parts.{Holds, frame_one, is_part, keeps_set, parts_there}
use Rattle.wu_schema.specs.declared.table.ProjectTable.{ProjectTable}
use Rattle.wu_schema.specs.declared.table.ProjectTable.TheVariants as the_table
use Rattle.wu_schema.proofs.QueueLemmas.{queue_apart, queue_has, queue_listed, queue_self, queue_steady, queue_still, world_kept}
use Rattle.wu_schema.proofs.SetTexts.{SetBy, SetFits}
use Rattle.wu_schema.proofs.StandsLemmas.{is_there, lists_still}
use Rattle.wu_store.specs.Changes.{HasNumber, and_row, with_row, keeping_instances}
use Rattle.wu_store.specs.Queues.{with_set_marks}
use Rattle.wu_store.proofs.KeyedLemmas.{flat_map_stays, map_stays}
use Rattle.wu_store.proofs.ChangeLemmas.{cast_number, cast_number_or_null}
use Rattle.wu_store.proofs.DeleteTexts.{by_number}
use Rattle.wu_store.proofs.EqualLemmas.{number_tied}
use Rattle.wu_store.proofs.InPlaceLemmas.{replaced}
use Rattle.wu_store.proofs.SetEffect.{IsOne, found_is, found_one, in_its_place, lists_in_its_place, resets_one, sets_by}
use Rattle.wu_store.proofs.UpdateEffect.{Sets}
use Rattle.wu_store.specs.declared.texts.TheConstants.{UPDATE_MARKS, UPDATE_WORKUNIT}

-- ---- the marks of a workunit

abbrev pub marks_set : SetBy
marks_set = record {
  text = UPDATE_MARKS.now;
  parameters = codes "?1" ∷ codes "?2" ∷ codes "?3" ∷ codes "?4" ∷ codes "?5" ∷ codes "?6" ∷ [];
  columns = 1 ∷ 2 ∷ 3 ∷ 4 ∷ 5 ∷ [];
  tests = (0, compare.Eq, 0) ∷ [];
  made = col 1 0 ∷ col 1 0 ∷ lit Null ∷ col 0 1 ∷ col 0 2 ∷ col 0 3 ∷ col 0 4 ∷ col 0 5 ∷ [];
}

pub marks_set_fits : (tree : ℕ) → SetFits (queue_at tree) 1 marks_set
unfolding everything
marks_set_fits tree = record { read = refl; placed = (refl, (refl, (refl, (refl, (refl, tt))))); row_is = refl; tests = refl; strict = refl; height = (698, refl); few = omega arith; typed = refl }

marks_kept : (tree n : ℕ) (m : Marks) → cast_row (queue_at tree) (stored_marks (n, m)) ≡ stored_marks (n, m)
marks_kept tree n m = simp (cast_null, cast_number, cast_number_or_null)

module _ (old new : State) (world : World) (s : Refines old.now world) (marked : List (ℕ × Marks)) (q : HasQueue old.now marked) (n : ℕ) (m : Marks) (count : ℕ) (ran : Executes marks_set.text (number n ∷ marks_cells m) old new (Ok count)) where
  marks_sets : Sets old.now new.now (queue_at q.tree) by_number marks_set.made (number n ∷ marks_cells m)
  marks_sets = sets_by old new (queue_at q.tree) q.table.0 q.table.1 (queue_listed old.now world s marked q) 1 marks_set (marks_set_fits q.tree) (number n ∷ marks_cells m) count ran

  pub sets_marks : HasQueue new.now (with_set_marks n m marked)
  sets_marks =
      let rows = old.now.trees q.tree in
      let is = marks_sets.rows (queue_self old.now world s marked q)
      ∙ resets_one _ (stored_marks (n, m)) rows q.rows.shaped refl (queue_at q.tree) marks_set.made (marks_cells m) (stored_marks (n, m)) (marks_kept q.tree n m) (λ x key. ap (λ v. v ∷ v ∷ Null ∷ marks_cells m) key) marks_sets.found marks_sets.shown in
      queue_has old.now new.now marked (with_set_marks n m marked) q marks_sets.schema
      (lists_still is (lists_in_its_place (λ (p : ℕ × Marks). p.0) (λ p. Null ∷ marks_cells p.1) (n, m) marked rows q.rows))

  pub sets_beside : Refines new.now world
  sets_beside = world_kept old.now world s marked q new.now marks_sets.schema marks_sets.sound marks_sets.others

-- ---- the row of a workunit

abbrev pub workunit_set : SetBy
workunit_set = record {
  text = UPDATE_WORKUNIT.now;
  parameters = codes "?1" ∷ codes "?2" ∷ codes "?3" ∷ codes "?4" ∷ codes "?5" ∷ codes "?6" ∷ codes "?7" ∷ codes "?8" ∷ codes "?9" ∷ codes "?10" ∷ codes "?11" ∷ codes "?12" ∷ codes "?13" ∷ codes "?14" ∷ codes "?15" ∷ [];
  columns = 1 ∷ 2 ∷ 3 ∷ 4 ∷ 5 ∷ 6 ∷ 7 ∷ 8 ∷ 9 ∷ 10 ∷ 11 ∷ 12 ∷ 13 ∷ 14 ∷ [];
  tests = (0, compare.Eq, 0) ∷ [];
  made = col 1 0 ∷ col 1 0 ∷ lit Null ∷ col 0 1 ∷ col 0 2 ∷ col 0 3 ∷ col 0 4 ∷ col 0 5 ∷ col 0 6 ∷ col 0 7 ∷ col 0 8 ∷ col 0 9 ∷ col 0 10 ∷ col 0 11 ∷ col 0 12 ∷ col 0 13 ∷ col 0 14 ∷ [];
}

pub workunit_set_fits : (tree : ℕ) → SetFits (workunit_at tree) 1 workunit_set
unfolding everything
workunit_set_fits tree = record {
  read = refl;
  placed = (refl, (refl, (refl, (refl, (refl, (refl, (refl, (refl, (refl, (refl, (refl, (refl, (refl, (refl, tt))))))))))))));
  row_is = refl;
  tests = refl;
  strict = refl;
  height = (698, refl);
  few = omega arith;
  typed = refl;
}

workunit_kept : (tree : ℕ) (w : Workunit) → cast_row (workunit_at tree) (stored_workunit w) ≡ stored_workunit w
workunit_kept tree w = simp (cast_null, cast_number, cast_number_or_null)

-- a number that a workunit has is that of a row
stored_there : (n : ℕ) (ws : List Workunit) → HasNumber n ws → list_any (has_rowid (pos n)) (map stored_workunit ws) ≡ true
stored_there n [] there = absurd (cc)
stored_there n (v ∷ vs) there = elim (cases_Bool (v.number == n)) [ inl on ↦ rw (number_tied v.number n, on) refl | inr off ↦ rw (number_tied v.number n, off) (stored_there n vs (rw off at there)) ]

-- in place of the one of its number, whose instances stay
stored_set : (w : Workunit) (ws : List Workunit) → map stored_workunit (in_its_place (λ (v : Workunit). v.number) (λ v. Null ∷ workunit_cells v) w ws) ≡ map stored_workunit (map (and_row w) ws)
stored_set w [] = refl
stored_set w (v ∷ vs) = ap (λ r. r ∷ map stored_workunit (in_its_place (λ (v : Workunit). v.number) (λ v. Null ∷ workunit_cells v) w vs)) (one (v.number == w.number)) ∙ ap (λ rs. stored_workunit (and_row w v) ∷ rs) (stored_set w vs)
  where
    one : (b : Bool) → stored_workunit (if b then w else v) ≡ stored_workunit (if b then record w { instances = v.instances; class = v.class } else v)
    one true = refl
    one false = refl

module _ (old new : State) (world : World) (s : Refines old.now world) (w : Workunit) (there : HasNumber w.number world.workunits) (count : ℕ) (ran : Executes workunit_set.text (workunit_row w) old new (Ok count)) where
  abbrev tree : ℕ
  tree = (s.trees the_table.Workunit)

  abbrev rows : List Row
  rows = old.now.trees tree

  workunit_sets : Sets old.now new.now (workunit_at tree) by_number workunit_set.made (workunit_row w)
  workunit_sets = sets_by old new (workunit_at tree) (s.tables.each the_table.Workunit tt).0 (s.tables.each the_table.Workunit tt).1 (is_there old.now.schema _ _ (s.tables.each the_table.Workunit tt)) 1 workunit_set (workunit_set_fits tree) (workunit_row w) count ran

  shows_row : (x : Row) → rowid x ≡ number w.number → eval_all workunit_set.made (workunit_row w ∷ x ∷ []) ≡ number w.number ∷ stored_workunit w
  shows_row x key = ap (λ v. v ∷ v ∷ Null ∷ workunit_cells w) key

  rows_are : new.now.trees tree ≡ replaced (pos w.number) (stored_workunit w) rows
  rows_are = workunit_sets.rows (calm_bare old.now.schema (workunit_at tree) tree (s.tables.each the_table.Workunit tt).2 refl)
      ∙ resets_one (pos w.number) (stored_workunit w) rows s.rows.workunits.shaped refl (workunit_at tree) workunit_set.made (workunit_cells w) (stored_workunit w) (workunit_kept tree w) shows_row workunit_sets.found workunit_sets.shown

  -- it is there, so a row is found
  one_row : (x : Row) × IsOne (pos w.number) (stored_workunit w) rows s.rows.workunits.shaped refl x
  one_row = found_one (pos w.number) (stored_workunit w) rows s.rows.workunits.shaped refl (subst (λ rs. list_any (has_rowid (pos w.number)) rs ≡ true) (sym s.rows.workunits.same) (stored_there w.number world.workunits there))

  some_found : (length workunit_sets.found == 0) ≡ false
  some_found = ap (λ rs. length rs == 0) (found_is (pos w.number) (stored_workunit w) rows s.rows.workunits.shaped refl (workunit_at tree) workunit_set.made (workunit_cells w) (stored_workunit w) (workunit_kept tree w) shows_row workunit_sets.found workunit_sets.shown one_row.0 one_row.1)

  pub sets_row : Refines new.now (with_row w world)
  sets_row = frame_one old.now new.now world (with_row w world) s the_table.Workunit tt workunit_sets.schema refl
      (keeps_set world.version old.now s.trees (parts_there old.now world s) new.now workunit_sets.others (λ u listed other steady. workunit_sets.steady u listed other steady some_found))
      carry
      (lists_still rows_are (subst (ListsAll (replaced (pos w.number) (stored_workunit w) rows)) (stored_set w world.workunits) (lists_in_its_place (λ (v : Workunit). v.number) (λ v. Null ∷ workunit_cells v) w world.workunits rows s.rows.workunits)))
      workunit_sets.sound
    where
      carry : (p : ProjectTable) → is_part the_table.Workunit p ≡ false → (rs : List Row) → Holds p rs world → Holds p rs (with_row w world)
      carry the_table.Workunit off rs h = absurd (cc)
      carry the_table.Result off rs h = subst (HoldsAll rs) (sym (flat_map_stays (λ (v : Workunit). v.number == w.number) (λ v. keeping_instances v w) instances_of (λ v on. ap (λ n. map (λ (p : ℕ × Instance). instance_cells n p.0 p.1) (enumerate_from 0 v.instances)) (sym (eqb-true v.number w.number on))) world.workunits)) h
      carry the_table.WorkunitClass off rs h = subst (ListsAll rs) (sym (map_stays (λ (v : Workunit). v.number == w.number) (λ v. keeping_instances v w) stored_class (λ v on. ap (λ n. class_row (n, v.class)) (sym (eqb-true v.number w.number on))) world.workunits)) h
      carry _ off rs h = h

  pub row_leaves : (marked : List (ℕ × Marks)) → HasQueue old.now marked → HasQueue new.now marked
  row_leaves marked q = queue_still old.now new.now marked q workunit_sets.schema
      (workunit_sets.steady (queue_at q.tree) (queue_listed old.now world s marked q) (λ same. queue_apart old.now world s marked q the_table.Workunit tt (sym same)) (queue_steady old.now world s marked q) some_found)
