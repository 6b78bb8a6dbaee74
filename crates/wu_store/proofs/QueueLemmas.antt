-- What the statements that change a project do to the queue.
use Rattle.wu_schema.proofs.Words.{Binary, Bool, Executes, Int, List, Null, Ok, PutsOne, Refines, State, World, [], cast_row, codes, column, equal, false, if◌then◌else◌, map, number, pos, refl, sym, true, value_rows, ℕ, ◌==◌, ◌∷◌, ◌≡◌}
use Rattle.wu_core.specs.declared.marks.Marks.{Marks}
use Rattle.wu_schema.specs.Queue.{HasQueue}
use Rattle.wu_schema.specs.Stored.{flag, marks_cells, stored_marks}
use Rattle.wu_schema.specs.Tables.{queue_at}
use Rattle.wu_schema.proofs.InsertEffect.{cast_null, puts_one}
use Rattle.wu_schema.specs.declared.table.ProjectTable.TheVariants as the_table
use Rattle.wu_schema.proofs.QueueLemmas.{queue_apart, queue_calm, queue_child, queue_has, queue_listed, queue_still, world_beside}
use Rattle.wu_schema.proofs.StandsLemmas.{lists_left, lists_still}
use Rattle.wu_store.specs.Queues.{with_marks, without_marks}
use Rattle.wu_store.proofs.ChangeLemmas.{cast_number, cast_number_or_null}
use Rattle.wu_store.proofs.DeleteEffect.{children_go, cuts}
use Rattle.wu_store.proofs.DeleteTexts.{delete_text}
use Rattle.wu_store.proofs.EqualLemmas.{number_equal}
use Rattle.wu_store.proofs.InsertTexts.{queue_put, queue_fits}
use Rattle.wu_store.proofs.KeyedLemmas.{lists_at_place}
use Rattle.wu_schema.proofs.SetTexts.{SetBy}
use Rattle.wu_store.proofs.ProjectEffect.{SetsProject, updates_project}

-- ---- the marks of a workunit

pub bound_flag : (b : Bool) → Int (if b then pos 1 else pos 0) ≡ flag b
bound_flag true = refl
bound_flag false = refl

marks_kept : (tree n : ℕ) (m : Marks) → map (λ s. cast_row (queue_at tree) s) (value_rows (number n ∷ marks_cells m) 7 1 queue_put.terms) ≡ stored_marks (n, m) ∷ []
marks_kept tree n m = simp (cast_null, cast_number, cast_number_or_null)

module _ (old new : State) (world : World) (s : Refines old.now world) (marked : List (ℕ × Marks)) (q : HasQueue old.now marked) where
  module _ (n : ℕ) (m : Marks) (count : ℕ) (ran : Executes queue_put.text (number n ∷ marks_cells m) old new (Ok count)) where
    put_marks : PutsOne old.now new.now q.tree (stored_marks (n, m))
    put_marks = puts_one (codes "queue") queue_at queue_put queue_fits (number n ∷ marks_cells m) old new q.table.0 q.tree q.table.1 (stored_marks (n, m)) (stored_marks (n, m)) (marks_kept q.tree n m) refl count ran

    pub puts_marks : HasQueue new.now (with_marks n m marked)
    puts_marks = queue_has old.now new.now marked (with_marks n m marked) q put_marks.schema
        (lists_still put_marks.rows (lists_at_place (λ (p : ℕ × Marks). p.0) (λ p. Null ∷ marks_cells p.1) (n, m) marked (old.now.trees q.tree) q.rows))

    pub leaves_world : Refines new.now world
    leaves_world = world_beside old.now world s marked q new.now (stored_marks (n, m)) put_marks

  -- ---- what the other statements leave of the queue

  module _ (set : SetBy) (fits : SetsProject set) where
    pub project_leaves : (n count : ℕ) → Executes set.text (number n ∷ []) old new (Ok count) → HasQueue new.now marked
    project_leaves n count ran =
        let it = updates_project old new (s.trees the_table.Project) (s.tables.each the_table.Project tt) (pos n) count set fits ran in
        queue_still old.now new.now marked q it.schema (it.others (queue_at q.tree) (queue_listed old.now world s marked q) (λ same. queue_apart old.now world s marked q the_table.Project tt (sym same)) (queue_calm old.now world s marked q the_table.Project tt refl))

  -- the marks of a workunit go with it
  pub deletes_marks : (n count : ℕ) → Executes delete_text (number n ∷ []) old new (Ok count) → HasQueue new.now (without_marks n marked)
  deletes_marks n count ran =
      let cut = cuts old new (s.trees the_table.Workunit) (s.tables.each the_table.Workunit tt) (pos n) count ran in
      let gone = children_go old.now new.now (s.trees the_table.Workunit) (s.tables.each the_table.Workunit tt) (pos n) cut s.rows.workunits.shaped (queue_at q.tree) 0 (queue_child old.now world s marked q) q.rows.shaped in
      queue_has old.now new.now marked (without_marks n marked) q cut.schema
      (lists_still gone (lists_left stored_marks (λ r. equal Binary (column r 0) (number n)) (λ (p : ℕ × Marks). p.0 == n) (old.now.trees q.tree) marked (λ p. number_equal p.0 n) q.rows))
