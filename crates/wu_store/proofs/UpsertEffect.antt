-- What an upsert does to the rows, over any schema.
use Rattle.wu_schema.proofs.Words.{Abort, AreConflicts, Chosen, Database, Does, InsertOr, List, Meets, Mode, None, Ok, Option, Row, Some, Table, Tally, Term, Upsert, Upserts, Values, Written, [], ap, cast_row, count_of, false, inl, inr, length, refl, slice_get, stamped, subst, value_rows, with_rowid, ℕ, ℤ, ◌/◌, ◌∙◌, ◌∷◌, ◌≡◌}
use Rattle.sqlite_trees.specs.Tree.{Trees}
use Rattle.sqlite.specs.Rows.{Task, nothing, Judged, Tries, TriesEach}
use Rattle.wu_schema.proofs.EffectLemmas.{went, same_value, chosen, passed}

abbrev pub task_of : Option ℕ → Mode → Row → Database → Table → Task
task_of limit mode params db table = record { limit = limit; keys = mode.keys; schema = db.schema; table = table; params = params }

module _ (limit : Option ℕ) (mode : Mode) (params : Row) (db : Database) (table : Table) (clause : Upsert) (new : Row) where
  abbrev task : Task
  task = task_of limit mode params db table

  -- the rows that have the key of the new row, and what is made of the first
  pub record HasMet (after : Trees) : Type 0 where
    pub found : List Row
    pub conflicts : AreConflicts clause.target db.schema.indexes table (db.trees table.tree) new found
    pub written : Written
    pub met : Meets task (Upserts task Abort new db.trees []) new db.trees clause found (Ok written)
    pub trees : after ≡ written.trees

  pub tried_met : (w : Written) → Tries task Abort (clause ∷ []) new db.trees (Ok w) → HasMet w.trees
  tried_met w (inl none) = absurd (let e = none.1 in cc)
  tried_met w (inr judged) = elim judged.0 as (λ v. Judged task Abort (clause ∷ []) new db.trees v (Ok w) → HasMet w.trees) [
    | None ↦ λ h. record { found = h.0; conflicts = h.1; written = w; met = h.2; trees = refl }
    | Some why ↦ λ h. absurd (cc)
  ] judged.2

module _ (limit : Option ℕ) (mode : Mode) (params : Row) (db : Database) (text : List ℕ) (at : ℕ) (table : Table) (there : slice_get db.schema.tables at ≡ Some table) (tally : Tally) (after : Database) (clause : Upsert) where
  pub upsert_does : (terms : List Term) (width : ℕ) (source : Row) → table.is_counted ≡ false → stamped table params ≡ params → value_rows params width (length terms / width) terms ≡ source ∷ []
      → Does limit mode params db text None (InsertOr at Abort (Values terms width) (clause ∷ [])) (Ok (tally, after))
      → (after.schema ≡ db.schema) × HasMet limit mode params db table clause (with_rowid Chosen (db.trees table.tree) (cast_row table source)) after.trees
  upsert_does terms width source bare plain one h =
      let task = task_of limit mode params db table in
      let done = went (rw there at h) in
      let ends = same_value (went (went done.2).2).2 in
      let given = went done.1 in
      let counter = went given.2 in
      let tried = went counter.2 in
      let counts = went tried.2 in
      let same : given.0 ≡ source ∷ [] = given.1.1 ∙ ap (λ p. value_rows p width (length terms / width) terms) plain ∙ one in
      let each = went (subst (λ rows. TriesEach task Abort (clause ∷ []) rows (count_of counter.0) (nothing db.trees) (Ok tried.0)) same tried.1) in
      let still : counts.0 ≡ tried.0.0.trees = same_value (passed table.is_counted _ _ _ bare counts.1) in
      let last : tried.0.0.trees ≡ each.0.trees = ap (λ (p : Written × ℤ). p.0.trees) (same_value each.2) in
      let trees : after.trees ≡ each.0.trees = ap (λ (p : Tally × Database). p.1.trees) ends ∙ ap (λ (it : Written). it.trees) (same_value counts.2) ∙ still ∙ last in
      let row = subst (λ r. Tries task Abort (clause ∷ []) (with_rowid r (db.trees table.tree) (cast_row table source)) db.trees (Ok each.0)) (chosen table _ bare) each.1 in
      let met = tried_met limit mode params db table clause (with_rowid Chosen (db.trees table.tree) (cast_row table source)) each.0 row in
      (ap (λ (p : Tally × Database). p.1.schema) ends, record { found = met.found; conflicts = met.conflicts; written = met.written; met = met.met; trees = trees ∙ met.trees })
