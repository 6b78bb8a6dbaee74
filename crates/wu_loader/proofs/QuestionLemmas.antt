-- What the answer to the question about a table says of the table, read whole or row by row.
use Rattle.wu_schema.proofs.Words.{Err, Error, Fault, Ghosts, HasCleanDisk, Held, IfErr, IsUnchanged, List, None, Ok, Option, Result, Row, Shown, State, Survives, Vec, Database, [], arith, fault_of, inl, refl, state, subst, sym, ℕ, ◌∙◌, ◌≡◌, false}
use Rattle.sqlite.specs.Given.{Advances, FailsToAdvance, HasBegun, IsRefused}
use Rattle.sqlite.specs.State.{CommitsShowing}
use Rattle.wu_core.specs.declared.fault.Fault.TheVariants.{Memory}
use Rattle.wu_schema.proofs.AskingLemmas.{fault_told}
use Rattle.wu_schema.specs.declared.table.ProjectTable.TheVariants as the_table
use Rattle.wu_schema.specs.Asking.{Asks, FailsAll, IsSelect, ServesUnlessFailed, ShowsAll}
use Rattle.wu_schema.specs.Faults.{IsStoreFault}
use Rattle.wu_store.proofs.AskLemmas.{never_err}
use Rattle.wu_store.proofs.GivenLemmas.{IsWalked, end_asks, end_opens, failed_asks, failed_opens, refused_asks, refused_opens, walk_asks, walk_begins, walk_ends, walk_opens}
use Rattle.wu_loader.specs.Asked.{HasArranged, LooksAtTables}
use Rattle.wu_loader.specs.Questions.{question, ShowsTable}
use Rattle.wu_schema.specs.ProjectTables.{HasTables, IsTableOf, ProjectTrees}
use Rattle.wu_loader.specs.Shown.{keyed, unkeyed}
use Rattle.wu_schema.specs.declared.table.ProjectTable.{ProjectTable}
use Rattle.wu_loader.proofs.LookLemmas.{memory_other}
use Rattle.wu_loader.proofs.SelectLemmas.{table_asked, table_fits, looks_whole, selects, shows_in_any_order, shows_in_order, told}

-- the rows of the answer are those of the table
module _ (version : ℕ) (old new : State) (trees : ProjectTrees) (has : HasArranged version old.now trees) (rows : List Row) where
  pub shows_table : (t : ProjectTable) → IsTableOf t version → Shown (question t) [] old new rows → ShowsTable t old.now.trees trees rows
  shows_table the_table.Project there h = shows_in_order _ _ _ (table_fits the_table.Project (trees the_table.Project)) old new _ (has.tables.each the_table.Project tt).1 (keyed 3) (λ r. refl) rows h refl (has.arranged the_table.Project tt).0
  shows_table the_table.Workunit there h = shows_in_order _ _ _ (table_fits the_table.Workunit (trees the_table.Workunit)) old new _ (has.tables.each the_table.Workunit tt).1 (keyed 15) (λ r. refl) rows h refl (has.arranged the_table.Workunit tt).0
  shows_table the_table.Result there h = shows_in_any_order _ _ _ (table_fits the_table.Result (trees the_table.Result)) old new _ (has.tables.each the_table.Result tt).1 (unkeyed 11) (λ r. refl) rows h refl
  shows_table the_table.Grant there h = shows_in_order _ _ _ (table_fits the_table.Grant (trees the_table.Grant)) old new _ (has.tables.each the_table.Grant tt).1 (keyed 5) (λ r. refl) rows h refl (has.arranged the_table.Grant tt).0
  shows_table the_table.Host there h = shows_in_any_order _ _ _ (table_fits the_table.Host (trees the_table.Host)) old new _ (has.tables.each the_table.Host tt).1 (unkeyed 3) (λ r. refl) rows h refl
  shows_table the_table.Archived there h = shows_in_order _ _ _ (table_fits the_table.Archived (trees the_table.Archived)) old new _ (has.tables.each the_table.Archived tt).1 (keyed 7) (λ r. refl) rows h refl (has.arranged the_table.Archived tt).0
  shows_table the_table.Import there h = shows_in_any_order _ _ _ (table_fits the_table.Import (trees the_table.Import)) old new _ (has.tables.each the_table.Import tt).1 (unkeyed 6) (λ r. refl) rows h refl
  shows_table the_table.HostClass there h = shows_in_any_order _ _ _ (table_fits the_table.HostClass (trees the_table.HostClass)) old new _ (has.tables.each the_table.HostClass there).1 (unkeyed 2) (λ r. refl) rows h refl
  shows_table the_table.WorkunitClass there h = shows_in_order _ _ _ (table_fits the_table.WorkunitClass (trees the_table.WorkunitClass)) old new _ (has.tables.each the_table.WorkunitClass there).1 (keyed 2) (λ r. refl) rows h refl (has.arranged the_table.WorkunitClass there).0

-- the answer, read whole, in the words in which it was asked
pub looks_at : {S A : Type 0} (version : ℕ) (g : Ghosts S) (old new : Held S) (r : Result (Vec Row A) Fault) (t : ProjectTable) → IsTableOf t version → (text : List ℕ) → text ≡ question t → (IsSelect text → Asks g old new r) → (IsSelect text → ServesUnlessFailed g new r) → ShowsAll g old new r text [] → FailsAll g old new r text [] → IfErr r IsStoreFault
    → LooksAtTables version g old new r (λ db trees rows. ShowsTable t db.trees trees rows.items)
looks_at version g old new r t there text is asks opens shows fails =
    looks_whole version t there (table_asked t) (table_fits t) refl g old new [] refl (λ db trees rows. ShowsTable t db.trees trees rows) (λ trees has rows h. shows_table version (state g old) (state g new) trees has rows t there h) r
    (subst (λ x. IsSelect x → Asks g old new r) is asks) (subst (λ x. IsSelect x → ServesUnlessFailed g new r) is opens)
    (subst (λ x. ShowsAll g old new r x []) is shows) (subst (λ x. FailsAll g old new r x []) is fails)

-- ---- the answer, read row by row

pub selects_table : (t : ProjectTable) → IsSelect (question t)
selects_table t = selects t (table_asked t) (table_fits t)

module _ {S : Type 0} (g : Ghosts S) (t : ProjectTable) (old : Held S) where
  -- what is said of the table's rows
  abbrev pub LooksAtRows : ℕ → Held S → Result (List Row) Fault → Type 0
  LooksAtRows version new r = LooksAtTables version g old new r (λ db trees rows. ShowsTable t db.trees trees rows)

  -- the question is refused
  pub looks_refused : {X : Type 0} (new : Held S) (e : Error) (fault : Fault) → fault ≡ fault_of e → IsRefused g {X = X} (question t) [] old (Err e) new → (version : ℕ) → IsTableOf t version → LooksAtRows version new (Err fault)
  looks_refused {X} new e fault is begun version there = record {
    asks = refused_asks g (question t) (selects_table t) [] old new {X = X} e fault is begun;
    opens = refused_opens g (question t) (selects_table t) [] old new {X = X} e fault is begun;
    says = λ clean trees has. tt;
    fault = subst IsStoreFault (sym is) (fault_told e);
    answered = λ clean trees has unlimited. told version t there (table_asked t) (table_fits t) refl g old new [] refl trees has unlimited fault e is (begun.err clean);
  }

  -- what is said of one connection is said of the same
  pub looks_here : (version : ℕ) (now new : Held S) (r : Result (List Row) Fault) → now ≡ new → LooksAtRows version now r → LooksAtRows version new r
  looks_here version now new r same it = subst (λ h. LooksAtRows version h r) same it

  -- the question is begun, and no row is read
  pub walk_begun : (text : List ℕ) → text ≡ question t → (new : Held S) (read : List Row) → read ≡ [] → (old.in_transaction ≡ false → new.in_transaction ≡ false) → Survives (state g old) (state g new) (CommitsShowing text [] (state g old)) → (HasCleanDisk (state g new) → HasBegun g text [] old new)
      → IsWalked g (question t) [] old new read
  walk_begun text is new read none mode survives begun = subst (IsWalked g (question t) [] old new) (sym none)
      (walk_begins g (question t) (selects_table t) [] old new mode (subst (λ x. Survives (state g old) (state g new) (CommitsShowing x [] (state g old))) is survives) (subst (λ x. HasCleanDisk (state g new) → HasBegun g x [] old new) is begun))

  module _ (now : Held S) (given : List Row) (walk : IsWalked g (question t) [] old now given) where
    -- out of memory between two rows
    pub looks_left : (version : ℕ) → LooksAtRows version now (Err Memory)
    looks_left version = record {
      asks = walk_asks g (question t) (selects_table t) [] old now given walk (Err Memory) memory_other;
      opens = walk_opens g (question t) (selects_table t) [] old now given walk {T = List Row} (Err Memory);
      says = λ clean trees has. tt;
      fault = inl refl;
      answered = λ clean trees has unlimited. inl refl;
    }

    module _ (new : Held S) (mode : now.in_transaction ≡ false → new.in_transaction ≡ false) (survives : Survives (state g now) (state g new) (λ _. ⊥)) where
      -- a row is not read
      pub looks_failed : (e : Error) (fault : Fault) → fault ≡ fault_of e → (HasCleanDisk (state g new) → FailsToAdvance g now new e) → (version : ℕ) → IsTableOf t version → LooksAtRows version new (Err fault)
      looks_failed e fault is fails version there = record {
        asks = failed_asks g (question t) (selects_table t) [] old now given walk new mode survives e fault is fails;
        opens = failed_opens g (question t) (selects_table t) [] old now given walk new mode survives e fault is fails;
        says = λ clean trees has. tt;
        fault = subst IsStoreFault (sym is) (fault_told e);
        answered = λ clean trees has unlimited.
            let was : HasCleanDisk (state g now) = omega (arith, survives.clean, clean) in
            told version t there (table_asked t) (table_fits t) refl g now new [] refl trees (subst (λ (db : Database). HasTables version db.schema trees) (sym (walk.same was).0.now_is) has) (walk.crash.limit ∙ unlimited) fault e is (fails clean (question t) [] given (walk.gave was));
      }

      -- all rows are read
      pub looks_ended : (next : Option Row) → (HasCleanDisk (state g new) → Advances g now new next) → (HasCleanDisk (state g new) → IsUnchanged (state g now) (state g new)) → next ≡ None → (version : ℕ) → IsTableOf t version → LooksAtRows version new (Ok given)
      looks_ended next gives same none version there = record {
        asks = end_asks g (question t) (selects_table t) [] old now given walk new mode survives next gives same (Ok given) (never_err given);
        opens = end_opens g (question t) (selects_table t) [] old now given walk new mode survives next gives same {T = List Row} (Ok given);
        says = λ clean trees has. shows_table version (state g old) (state g new) trees has given t there (walk_ends g (question t) (selects_table t) [] old now given walk new mode survives next gives same none clean);
        fault = tt;
        answered = λ clean trees has unlimited. tt;
      }
