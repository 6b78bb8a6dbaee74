-- What the DELETE of a workunit does to the rows, over any schema: its row goes, and with it the rows that refer to it.
use Rattle.wu_schema.proofs.Words.{Answers, Binary, Database, Does, Enforced, Executes, Given, Has, HasNamed, Int, IsDatabase, IsPermutation, IsShaped, IsSound, IsTable, IsTrue, Less, List, Mode, None, Ok, Option, OwnsTree, Program, Row, Some, State, Table, Tally, Written, [], all_from, all_has, ap, cases_Bool, codes, column, edit_of, equal, false, false_from_ne_true, filter, filter_all, filter_none, has_filtered, has_rowid, id_in, ids_of, inl, inr, is_eq, is_int, length_permutation, list_any, map, mode_of, not, one_permutation, refl, row_at_is, rowid, runs_as, slice_get, some_has, statement_of, subst, sym, taken_by, tied_itself, true, understood, value_cmp, value_cmp-Int, value_cmp_total, without_all, without_rowid, workunit_at, ℕ, ℤ, ◌∙◌, ◌∷◌, ◌≡◌, ◌≢◌, ◌⊎◌}
use Rattle.sqlite_trees.specs.declared.store.Shape.TheVariants as shape
use Rattle.sqlite.specs.Command.TheVariants.{Delete}
use Rattle.sqlite.specs.Edit.{row_at}
use Rattle.sqlite_rules.specs.Action.{Writes as Edits}
use Rattle.sqlite_rules.proofs.PlaceLemmas.{found_at}
use Rattle.sqlite_rules.proofs.TableLemmas.{none_to_drop}
use Rattle.std.proofs.lemmas.Bool.Decides.{Decides-int_eq}
use Rattle.wu_schema.proofs.EffectLemmas.{went, same_value}
use Rattle.wu_store.proofs.EqualLemmas.{int_equal}
use Rattle.wu_schema.proofs.QueryLemmas.{alone}
use Rattle.wu_schema.proofs.AnswerLemmas.{answers_are, meeting, showing}
use Rattle.wu_schema.proofs.RowLemmas.{childless, filter_same, int_value, no_test, no_rows, one_test}
use Rattle.wu_schema.proofs.CalmLemmas.{calm_bare, stepped}
use Rattle.wu_schema.proofs.StandsLemmas.{is_there, none_has, IsChild, ChildrenAre, only_work, child_apart}
use Rattle.wu_schema.proofs.QuietLemmas.{falls}
use Rattle.wu_store.proofs.FallLemmas.{bereft, strikes_out}
use Rattle.wu_store.proofs.CascadeEffect.{fall, which, none_refers, without_number, falls_by_number}
use Rattle.wu_store.proofs.DeleteTexts.{delete_text, delete_query, delete_compiles, by_number, shows_number}

-- the rows that a DELETE finds, and the write that it makes of them
pub record HasCut (db : Database) (mode : Mode) (params : Row) (q : Program) (table : Table) (after : Database) : Type 0 where
  pub rows : List Row
  pub found : Answers db q params rows
  pub wrote : Edits db.schema mode.keys db.trees (edit_of db.trees table (ids_of rows) Given 0 []) (Ok after.trees)
  pub schema : after.schema ≡ db.schema

module _ (limit : Option ℕ) (mode : Mode) (params : Row) (db : Database) (text : List ℕ) (at : ℕ) (table : Table) (there : slice_get db.schema.tables at ≡ Some table) (tally : Tally) (after : Database) where
  pub delete_does : (q : Program) → Does limit mode params db text None (Delete at q) (Ok (tally, after)) → HasCut db mode params q table after
  delete_does q h =
      let done = went (rw there at h) in
      let ends = same_value (went (went done.2).2).2 in
      let found = went done.1 in
      let wrote = went found.2 in
      let made = same_value wrote.2 in
      let trees : after.trees ≡ wrote.0 = ap (λ (p : Tally × Database). p.1.trees) ends ∙ ap (λ (it : Written). it.trees) made in
      record {
        rows = found.0;
        found = found.1;
        wrote = subst (λ t. Edits db.schema mode.keys db.trees (edit_of db.trees table (ids_of found.0) Given 0 []) (Ok t)) (sym trees) wrote.1;
        schema = ap (λ (p : Tally × Database). p.1.schema) ends;
      }

-- the rows of the workunits that were found go, and of each child either what refers to them, or nothing; a table that
-- refers to nothing stays
pub record Cuts (old new : Database) (work : ℕ) (n : ℤ) : Type 0 where
  pub schema : new.schema ≡ old.schema
  pub ids : List Row
  pub found : IsPermutation (showing shows_number (Int n ∷ []) (meeting by_number (Int n ∷ []) (old.trees work))) ids
  pub workunits : new.trees work ≡ without_all (old.trees work) (ids_of ids)
  pub children : (u : Table) (c : ℕ) → IsChild old.schema u c → IsShaped shape.Table (old.trees u.tree)
      → (new.trees u.tree ≡ old.trees u.tree) ⊎ (new.trees u.tree ≡ bereft (fall u c (map (row_at (old.trees work)) (ids_of ids))) (old.trees u.tree))
  pub others : (u : Table) → Has old.schema.tables u → OwnsTree old.schema u → u.tree ≢ work → u.references ≡ [] → new.trees u.tree ≡ old.trees u.tree
  pub sound : IsDatabase new

module _ (old new : State) (work : ℕ) (has : HasNamed old.now.schema (codes "workunit") (workunit_at work)) (n : ℤ) where
  pub cuts : (count : ℕ) → Executes delete_text (Int n ∷ []) old new (Ok count) → Cuts old.now new.now work n
  cuts count h =
      let schema = old.now.schema in
      let db = old.now.trees in
      let params : Row = Int n ∷ [] in
      let q = alone (delete_query work) in
      let it = delete_compiles schema has.0 work has.1 in
      let ran = runs_as delete_text params old new schema refl (Delete has.0 q) it.is it.plain count h in
      let cut = delete_does old.step_limit (mode_of old) params old.now (statement_of delete_text (understood schema delete_text)) has.0 (workunit_at work) has.1.there ran.tally new.now q ran.changed in
      let edit = edit_of db (workunit_at work) (ids_of cut.rows) Given 0 [] in
      let taken = taken_by db edit in
      let step = stepped schema Enforced db new.now.trees edit cut.wrote in
      let still = λ (u : Table) (there : Has schema.tables u) (own : OwnsTree schema u) (none : u.references ≡ []). step.calm u there (calm_bare schema u work own none) in
      let beside = λ (u : Table) (there : Has schema.tables u) (other : u.tree ≢ work). all_has (λ (x : Table). x.tree ≢ work → step.mid x.tree ≡ db x.tree) schema.tables u step.applied.tables there other in
      record {
        schema = cut.schema;
        ids = cut.rows;
        found = answers_are work by_number shows_number params old.now cut.rows has.1.low cut.found;
        workunits = still (workunit_at work) (is_there schema _ _ has) has.2 refl ∙ step.applied.rows;
        children = λ u c is good.
            let mid = beside u is.listed (child_apart schema work has u c is) in
            elim (falls schema Enforced u work is.listed (childless schema (workunit_at work) has.2 refl) (only_work schema work has u c is) (λ w. w ≡ fall u c taken) (IsShaped shape.Table) (bereft (fall u c taken)) (strikes_out schema Enforced (fall u c taken) refl)
            step.steps step.mid new.now.trees _ step.leads (which schema work has u c is taken) (subst (IsShaped shape.Table) (sym mid) good)) [
              | inl same ↦ inl (same ∙ mid)
              | inr fell ↦ inr (fell ∙ ap (bereft (fall u c taken)) mid)
            ];
        others = λ u there own other none. still u there own none ∙ beside u there other;
        sound = ran.sound;
      }

-- ---- in terms of the number

module _ (n : ℤ) (rows : List Row) (good : IsShaped shape.Table rows) where
  has_int : (r : Row) → Has rows r → (id : ℤ) × (rowid r ≡ Int id)
  has_int r has = int_value (rowid r) (all_has (λ s. IsTrue (is_int (rowid s))) rows r good.1 has)

  pub has_number : (r : Row) → Has rows r → equal Binary (rowid r) (Int n) ≡ has_rowid n r
  has_number r has = let id = has_int r has in ap (λ v. equal Binary v (Int n)) id.1 ∙ int_equal id.0 n ∙ ap (λ v. is_eq (value_cmp v (Int n))) (sym id.1)

  pub own_number : (r : Row) → Has rows r → has_rowid n r ≡ true → rowid r ≡ Int n
  own_number r has on = let id = has_int r has in id.1 ∙ ap Int ((Decides-int_eq id.0 n).0 (sym (ap is_eq (value_cmp-Int id.0 n)) ∙ sym (ap (λ v. is_eq (value_cmp v (Int n))) id.1) ∙ on))

  -- the rows that the condition finds are those with the rowid
  meets : meeting by_number (Int n ∷ []) rows ≡ filter (has_rowid n) rows
  meets = filter_same _ _ rows (λ r has. one_test _ ∙ has_number r has)

-- of two rows of a table with one rowid there is but one
same_row : (n : ℤ) (rows : List Row) (a b : Row) → IsTable rows → Has rows a → Has rows b → has_rowid n a ≡ true → has_rowid n b ≡ true → a ≡ b
same_row n rows a b up has_a has_b on_a on_b = sym (row_at_is rows n a up has_a on_a) ∙ row_at_is rows n b up has_b on_b

never_below : (a b : Row) → a ≡ b → ¬ (value_cmp (rowid a) (rowid b) ≡ Less)
never_below a b same low = let e = sym (tied_itself value_cmp_total (rowid a)) ∙ ap (λ r. value_cmp (rowid a) (rowid r)) same ∙ low in cc

pub only_row : (n : ℤ) (rows : List Row) (x : Row) → IsTable rows → Has rows x → has_rowid n x ≡ true → filter (has_rowid n) rows ≡ x ∷ []
only_row n [] x up has on = absurd has
only_row n (r ∷ rows) x up (inl same) on =
    let first : has_rowid n r ≡ true = subst (λ s. has_rowid n s ≡ true) same on in
    let none : filter (has_rowid n) rows ≡ [] = filter_none (has_rowid n) rows (all_from (λ s. has_rowid n s ≡ false) rows (λ s later.
    false_from_ne_true _ (λ h. never_below r s (same_row n (r ∷ rows) r s up (inl refl) (inr later) first h) (all_has (λ z. value_cmp (rowid r) (rowid z) ≡ Less) rows s up.0 later)))) in
    rw (first, none) (ap (λ z. z ∷ []) (sym same))
only_row n (r ∷ rows) x up (inr later) on =
    let off : has_rowid n r ≡ false = false_from_ne_true _ (λ h. never_below r x (same_row n (r ∷ rows) r x up (inl refl) (inr later) h on) (all_has (λ z. value_cmp (rowid r) (rowid z) ≡ Less) rows x up.0 later)) in
    rw off (only_row n rows x up.1 later on)

module _ (old new : Database) (work : ℕ) (has : HasNamed old.schema (codes "workunit") (workunit_at work)) (n : ℤ) (cut : Cuts old new work n) (good : IsShaped shape.Table (old.trees work)) where
  abbrev rows : List Row
  rows = old.trees work

  ids_are : (found : List Row) → filter (has_rowid n) rows ≡ found → IsPermutation (showing shows_number (Int n ∷ []) found) cut.ids
  ids_are found is = subst (λ rs. IsPermutation (showing shows_number (Int n ∷ []) rs) cut.ids) (meets n rows good ∙ is) cut.found

  -- no row has the number, or one
  taken : ((list_any (has_rowid n) rows ≡ false) × (ids_of cut.ids ≡ [])) ⊎ ((x : Row) × (rowid x ≡ Int n) × (x ≡ row_at rows n) × (ids_of cut.ids ≡ n ∷ []))
  taken = elim (cases_Bool (list_any (has_rowid n) rows)) [
    | inl some ↦
        let it = some_has (has_rowid n) rows some in
        let own = own_number n rows good it.0 it.1 it.2 in
        let one = only_row n rows it.0 good.0 it.1 it.2 in
        inr (it.0, own, found_at rows n it.0 one, ap ids_of (one_permutation (rowid it.0 ∷ []) cut.ids (ids_are (it.0 ∷ []) one)) ∙ ap (λ v. id_in v ∷ []) own)
    | inr none ↦ inl (none, ap ids_of (no_rows cut.ids (length_permutation [] cut.ids (ids_are [] (filter_none (has_rowid n) rows (all_from (λ r. has_rowid n r ≡ false) rows (λ r there. none_has (has_rowid n) rows r none there)))))))
  ]

  -- the workunit goes, if it is there
  pub row_goes : new.trees work ≡ without_rowid n rows
  row_goes = elim taken [ inl none ↦ cut.workunits ∙ ap (without_all rows) none.1 ∙ sym (none_to_drop n rows none.0) | inr one ↦ cut.workunits ∙ ap (without_all rows) one.3 ]

  -- and of each child the rows that refer to it
  pub children_go : ChildrenAre old new (without_number n)
  children_go u c is shaped =
      let was = old.trees u.tree in
      let off = λ (p : Row) (there : Has (new.trees work) p).
      let it = has_filtered (λ r. not (has_rowid n r)) rows p (subst (λ rs. Has rs p) row_goes there) in has_number n rows good p it.0 ∙ false_from_ne_true _ (λ on. let e = it.1 in cc) in
      let none = none_refers old.schema work has u c is new.trees (subst (λ s. IsSound s new.trees) cut.schema cut.sound) n off in
      let still : new.trees u.tree ≡ was → new.trees u.tree ≡ without_number n c was = λ same.
      same ∙ sym (filter_all (λ r. not (equal Binary (column r c) (Int n))) was (all_from (λ r. not (equal Binary (column r c) (Int n)) ≡ true) was (λ r there. ap not (none r (subst (λ rs. Has rs r) (sym same) there))))) in
      elim (cut.children u c is shaped) [
        | inl same ↦ still same
        | inr fell ↦ elim taken [
          | inl nothing ↦ still (fell ∙ ap (λ ids. bereft (fall u c (map (row_at rows) ids)) was) nothing.1 ∙ no_test was)
          | inr one ↦ fell ∙ ap (λ ids. bereft (fall u c (map (row_at rows) ids)) was) one.3 ∙ ap (λ x. bereft (fall u c (x ∷ [])) was) (sym one.2) ∙ falls_by_number u c n one.0 was one.1
        ]
      ]
