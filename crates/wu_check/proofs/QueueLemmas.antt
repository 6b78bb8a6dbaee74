-- The question about the queue, and what its answer says of the queue's rows.
use Rattle.wu_schema.proofs.Words.{Database, HasCleanDisk, Error, FailsToQuery, Fault, Ghosts, HasNamed, Held, Int, IsFailure, List, None, Ok, Err, Option, Result, Row, Shown, Some, [], ap, arith, codes, everything, fault_of, lit, map, map-map, negsuc, refl, state, subst, sym, ℕ, ◌∙◌, ◌∷◌, ◌≡◌, all_has, length, IsUnchanged, Survives, false, ◌++◌, ◌≢◌}
use Rattle.wu_core.specs.World.{World}
use Rattle.wu_core.specs.declared.workunit.Workunit.{Workunit}
use Rattle.wu_rules.specs.Marks.{marks}
use Rattle.wu_schema.proofs.AskingLemmas.{fault_told}
use Rattle.wu_schema.proofs.SelectLemmas.{Asked, Fits, compiles, parsed_of, select_of}
use Rattle.wu_schema.proofs.StandsLemmas.{is_there}
use Rattle.wu_schema.proofs.ToldLemmas.{asked_told}
use Rattle.wu_schema.specs.Asking.{IsSelect}
use Rattle.wu_schema.specs.Faults.{IsStoreFault}
use Rattle.wu_schema.specs.Stored.{stored_marks}
use Rattle.wu_schema.specs.Tables.{queue_at}
use Rattle.wu_loader.proofs.SelectLemmas.{shows_in_order}
use Rattle.wu_loader.proofs.StandLemmas.{stored_keyed}
use Rattle.wu_loader.specs.Shown.{behind_key, keyed}
use Rattle.wu_loader.specs.Whole.{DiffersAt}
use Rattle.wu_check.specs.Queues.{ComparesTo, HasMarks, IsQueueIn, LooksInQueue, marked_row}
use Rattle.wu_check.proofs.RowLemmas.{differs_behind, shown_differs}
use Rattle.wu_check.specs.declared.marks.TheConstants.{SELECT_MARKS}
use Rattle.wu_store.proofs.AskLemmas.{never_err}
use Rattle.wu_store.proofs.GivenLemmas.{IsWalked, end_asks, end_opens, failed_asks, failed_opens, given_front, refused_asks, refused_opens, walk_asks, walk_ends, walk_opens}
use Rattle.sqlite.specs.Given.{Advances, FailsToAdvance, IsRefused}
use Rattle.std.proofs.Common.{append-nil, append_assoc, drop, get_or, take, take-append-drop, ◌+◌, ◌<◌, ◌≤◌}
use Rattle.std.proofs.lemmas.List.{drop_more, length-map, length-take-le, map-append, take_all, take_more}

abbrev pub queue_asked : Asked
queue_asked = record {
  text = SELECT_MARKS.now;
  parameters = [];
  shown = 0 ∷ 1 ∷ 2 ∷ 3 ∷ 4 ∷ 5 ∷ [];
  tests = [];
  order = 0 ∷ [];
  limit = None;
  upto = lit (Int (negsuc 0));
}

pub queue_fits : (tree : ℕ) → Fits (codes "queue") (queue_at tree) queue_asked
unfolding everything
queue_fits tree = record { shown = refl; tests = refl; strict = refl; order = refl; height = (0, tt); few = omega arith; limit = λ schema. refl; read = refl; typed = refl }

-- ---- the question

module _ {S : Type 0} (g : Ghosts S) (old new : Held S) where
  told : (tree : ℕ) → HasNamed (state g old).now.schema (codes "queue") (queue_at tree) → old.step_limit ≡ None → (fault : Fault) (error : Error) → fault ≡ fault_of error → FailsToQuery queue_asked.text [] (state g old) (state g new) error → IsFailure fault
  told tree has unlimited fault error is failed =
      subst IsFailure (sym is) (asked_told (codes "queue") has.0 (queue_at tree) queue_asked (queue_fits tree) (state g old) (state g new) has.1 [] error refl (queue_fits tree).typed unlimited failed)

  shown_rows : (tree : ℕ) → IsQueueIn (state g old).now tree → (rows : List Row) → Shown queue_asked.text [] (state g old) (state g new) rows → rows ≡ map (keyed 6) ((state g old).now.trees tree)
  shown_rows tree has rows h =
      shows_in_order (codes "queue") (queue_at tree) queue_asked (queue_fits tree) (state g old) (state g new) has.table.0 has.table.1 (keyed 6) (λ r. refl) rows
      h refl has.kept.ordered.0

-- ---- the rows that it shows

-- they tell all of its rows
stored_as : (db : Database) (tree : ℕ) → IsQueueIn db tree → (shown : List Row) → shown ≡ map (keyed 6) (db.trees tree) → db.trees tree ≡ map behind_key shown
stored_as db tree has shown is =
    stored_keyed db has.sound (queue_at tree) (is_there db.schema _ _ has.table) _ _ 5 refl refl (λ row in_tree. all_has (λ r. length r ≡ 7) (db.trees tree) row has.kept.whole in_tree) shown is

-- those of the marks are shown of the queue with exactly these marks, and others of one with others
pub compared_marks : (world : World) (db : Database) (tree : ℕ) → IsQueueIn db tree → (shown : List Row) → shown ≡ map (keyed 6) (db.trees tree) → (found : Option ℕ) → ComparesTo (map marked_row world.workunits) shown found → HasMarks world (db.trees tree) found
compared_marks world db tree has shown is None same =
    stored_as db tree has shown is ∙ ap (map behind_key) same ∙ map-map behind_key marked_row world.workunits ∙ sym (map-map stored_marks (λ (w : Workunit). (w.number, marks w)) world.workunits)
compared_marks world db tree has shown is (Some place) differs =
    subst (λ wanted. DiffersAt wanted (db.trees tree) place) (sym (map-map stored_marks (λ (w : Workunit). (w.number, marks w)) world.workunits))
    (shown_differs (keyed 6) behind_key (λ (w : Workunit). stored_marks (w.number, marks w)) marked_row (λ w. refl) (λ w. refl) world.workunits (db.trees tree) (stored_as db tree has shown is ∙ ap (map behind_key) is) place
    (subst (λ rows. DiffersAt (map marked_row world.workunits) rows place) is differs))

-- ---- the answer, read row by row

pub selects_queue : IsSelect queue_asked.text
selects_queue = record { parsed = parsed_of (codes "queue") (queue_at 0) queue_asked; select = select_of (codes "queue") (queue_at 0) queue_asked; read = (queue_fits 0).read; is = refl }

module _ {S : Type 0} (g : Ghosts S) (old : Held S) (world : World) where
  -- what is said of one connection is said of the same
  pub looks_here : (now new : Held S) (r : Result (Option ℕ) Fault) → now ≡ new → LooksInQueue g old now r (HasMarks world) → LooksInQueue g old new r (HasMarks world)
  looks_here now new r same it = subst (λ h. LooksInQueue g old h r (HasMarks world)) same it

  -- the question is refused
  pub looks_refused : {X : Type 0} (new : Held S) (e : Error) (fault : Fault) → fault ≡ fault_of e → IsRefused g {X = X} queue_asked.text [] old (Err e) new → LooksInQueue g old new (Err fault) (HasMarks world)
  looks_refused {X} new e fault is begun = record {
    asks = refused_asks g queue_asked.text selects_queue [] old new {X = X} e fault is begun;
    opens = refused_opens g queue_asked.text selects_queue [] old new {X = X} e fault is begun;
    says = λ clean tree has. tt;
    fault = subst IsStoreFault (sym is) (fault_told e);
    answered = λ clean tree has unlimited. told g old new tree has unlimited fault e is (begun.err clean);
  }

  module _ (now : Held S) (given : List Row) (walk : IsWalked g queue_asked.text [] old now given) where
    -- a row before the end tells that the marks are others
    pub looks_left : (found : Option ℕ) → ((tail : List Row) → ComparesTo (map marked_row world.workunits) (given ++ tail) found) → LooksInQueue g old now (Ok found) (HasMarks world)
    looks_left found compared = record {
      asks = walk_asks g queue_asked.text selects_queue [] old now given walk (Ok found) (never_err found);
      opens = walk_opens g queue_asked.text selects_queue [] old now given walk {T = Option ℕ} (Ok found);
      says = λ clean tree has.
          let (tail, shown) = given_front g queue_asked.text selects_queue [] old now given (walk.same clean) (walk.gave clean) _ _ _ (compiles (state g old).now.schema (codes "queue") has.table.0 (queue_at tree) has.table.1 queue_asked (queue_fits tree)) in
          compared_marks world (state g old).now tree has (given ++ tail) (shown_rows g old now tree has (given ++ tail) shown) found (compared tail);
      fault = tt;
      answered = λ clean tree has unlimited. tt;
    }

    module _ (new : Held S) (mode : now.in_transaction ≡ false → new.in_transaction ≡ false) (survives : Survives (state g now) (state g new) (λ _. ⊥)) where
      -- a row is not read
      pub looks_failed : (e : Error) (fault : Fault) → fault ≡ fault_of e → (HasCleanDisk (state g new) → FailsToAdvance g now new e) → LooksInQueue g old new (Err fault) (HasMarks world)
      looks_failed e fault is fails = record {
        asks = failed_asks g queue_asked.text selects_queue [] old now given walk new mode survives e fault is fails;
        opens = failed_opens g queue_asked.text selects_queue [] old now given walk new mode survives e fault is fails;
        says = λ clean tree has. tt;
        fault = subst IsStoreFault (sym is) (fault_told e);
        answered = λ clean tree has unlimited.
            let was : HasCleanDisk (state g now) = omega (arith, survives.clean, clean) in
            told g now new tree (subst (λ (db : Database). HasNamed db.schema (codes "queue") (queue_at tree)) (sym (walk.same was).0.now_is) has) (walk.crash.limit ∙ unlimited) fault e is (fails clean queue_asked.text [] given (walk.gave was));
      }

      -- all rows are read
      pub looks_ended : (next : Option Row) → (HasCleanDisk (state g new) → Advances g now new next) → (HasCleanDisk (state g new) → IsUnchanged (state g now) (state g new)) → next ≡ None → (found : Option ℕ) → ComparesTo (map marked_row world.workunits) given found → LooksInQueue g old new (Ok found) (HasMarks world)
      looks_ended next gives same none found compared = record {
        asks = end_asks g queue_asked.text selects_queue [] old now given walk new mode survives next gives same (Ok found) (never_err found);
        opens = end_opens g queue_asked.text selects_queue [] old now given walk new mode survives next gives same {T = Option ℕ} (Ok found);
        says = λ clean tree has.
            compared_marks world (state g old).now tree has given (shown_rows g old new tree has given (walk_ends g queue_asked.text selects_queue [] old now given walk new mode survives next gives same none clean)) found compared;
        fault = tt;
        answered = λ clean tree has unlimited. tt;
      }

-- ---- how the rows compare, after those of the first workunits

pub marks_split : (ws : List Workunit) (i : ℕ) (w : Workunit) → i < length ws → w ≡ get_or ws i w → map marked_row ws ≡ map marked_row (take i ws) ++ marked_row w ∷ map marked_row (drop (i + 1) ws)
marks_split ws i w low at =
    ap (map marked_row) (sym (take-append-drop i ws)) ∙ map-append marked_row (take i ws) (drop i ws)
    ∙ ap (λ l. map marked_row (take i ws) ++ map marked_row l) (drop_more ws i w low ∙ ap (λ v. v ∷ drop (i + 1) ws) (sym at))

pub marks_more : (ws : List Workunit) (i : ℕ) (w : Workunit) → i < length ws → w ≡ get_or ws i w → (row : Row) → row ≡ marked_row w → map marked_row (take i ws) ++ row ∷ [] ≡ map marked_row (take (i + 1) ws)
marks_more ws i w low at row is =
    ap (λ r. map marked_row (take i ws) ++ r ∷ []) is ∙ sym (map-append marked_row (take i ws) (w ∷ []))
    ∙ ap (map marked_row) (ap (λ v. take i ws ++ v ∷ []) at ∙ sym (take_more ws i w low))

long_front : (ws : List Workunit) (i : ℕ) → i ≤ length ws → length (map marked_row (take i ws)) ≡ i
long_front ws i low = length-map (take i ws) marked_row ∙ length-take-le i ws low

-- the row of a workunit is missing
pub missing_at : (ws : List Workunit) (i : ℕ) (w : Workunit) → i < length ws → w ≡ get_or ws i w → DiffersAt (map marked_row ws) (map marked_row (take i ws)) (i + 1)
missing_at ws i w low at =
    subst (λ wanted. DiffersAt wanted (map marked_row (take i ws)) (i + 1)) (sym (marks_split ws i w low at))
    (subst (λ found. DiffersAt (map marked_row (take i ws) ++ marked_row w ∷ map marked_row (drop (i + 1) ws)) found (i + 1)) (append-nil (map marked_row (take i ws)))
    (differs_behind (map marked_row (take i ws)) _ [] i (long_front ws i (omega (arith, low))) (λ is. absurd cc)))

-- another row is in its place
pub other_at : (ws : List Workunit) (i : ℕ) (w : Workunit) → i < length ws → w ≡ get_or ws i w → (row : Row) → row ≢ marked_row w → (tail : List Row) → DiffersAt (map marked_row ws) ((map marked_row (take i ws) ++ row ∷ []) ++ tail) (i + 1)
other_at ws i w low at row other tail =
    subst (λ wanted. DiffersAt wanted ((map marked_row (take i ws) ++ row ∷ []) ++ tail) (i + 1)) (sym (marks_split ws i w low at))
    (subst (λ found. DiffersAt (map marked_row (take i ws) ++ marked_row w ∷ map marked_row (drop (i + 1) ws)) found (i + 1)) (sym (append_assoc (map marked_row (take i ws)) (row ∷ []) tail))
    (differs_behind (map marked_row (take i ws)) _ (row ∷ tail) i (long_front ws i (omega (arith, low))) (λ is. other (let same = is in cc))))

-- a row comes after the last workunit
pub more_at : (ws : List Workunit) (i : ℕ) → i ≡ length ws → (row : Row) (tail : List Row) → DiffersAt (map marked_row ws) ((map marked_row (take i ws) ++ row ∷ []) ++ tail) (length ws + 1)
more_at ws i is row tail =
    let whole : map marked_row (take i ws) ≡ map marked_row ws = ap (map marked_row) (take_all i ws (omega (arith, is))) in
    subst (λ front. DiffersAt (map marked_row ws) ((front ++ row ∷ []) ++ tail) (length ws + 1)) (sym whole)
    (subst (λ found. DiffersAt (map marked_row ws) found (length ws + 1)) (sym (append_assoc (map marked_row ws) (row ∷ []) tail))
    (subst (λ wanted. DiffersAt wanted (map marked_row ws ++ row ∷ tail) (length ws + 1)) (append-nil (map marked_row ws))
    (differs_behind (map marked_row ws) [] (row ∷ tail) (length ws) (length-map ws marked_row) (λ same. absurd cc))))
