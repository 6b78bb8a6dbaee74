-- A question whose rows are read one at a time: what it does to the connection, and what its answer begins with.
use Rattle.wu_schema.proofs.Words.{CommitsShowing, Compiled, CompileError, Database, Err, Error, FailsToQuery, Fault, Ghosts, HasCleanDisk, Held, IsFailure, IsSome, IsTrue, IsUnchanged, List, Name, None, NotAProject, Ok, Option, Parsed, Query, Refines, Result, Row, Schema, Shown, Some, State, Survives, World, [], arith, false, fault_of, inl, inr, refl, state, subst, sym, understood, ℕ, ◌++◌, ◌∙◌, ◌∷◌, ◌≡◌, ◌≢◌, ◌⊎◌}
use Rattle.std.specs.Prelude.{OnErr}
use Rattle.sqlite.specs.Clock.{timed}
use Rattle.sqlite.specs.Command.TheVariants.{Select}
use Rattle.sqlite.specs.Given.{Advances, FailsToAdvance, HasBegun, HasGiven, IsRefused, Returns}
use Rattle.sqlite.specs.Listing.{IsSourceOf, reads_listing}
use Rattle.sqlite.specs.State.{ShowsRows}
use Rattle.sqlite.proofs.Callers.{EndsIn, begins_shown, given_begin}
use Rattle.sqlite.proofs.StateLemmas.{survives_then, survives_weaker}
use Rattle.wu_core.specs.declared.fault.Fault.TheVariants.{Broken}
use Rattle.wu_schema.specs.Asking.{Asks, IsSelect, ServesUnlessFailed}
use Rattle.wu_schema.proofs.AskingLemmas.{asks_failed, asks_read, asks_then, opens_failed, opens_read, unchanged_then}
use Rattle.wu_schema.proofs.Parts.{parts_there}
use Rattle.wu_schema.specs.declared.table.ProjectTable.{ProjectTable}
use Rattle.wu_schema.specs.ProjectTables.{IsTableOf, table_name, table_at}
use Rattle.wu_schema.proofs.QueryLemmas.{alone}
use Rattle.wu_schema.proofs.QuietLemmas.{same_ok}
use Rattle.wu_schema.proofs.ReadLemmas.{reads_survive, shows_none}
use Rattle.wu_schema.proofs.SelectLemmas.{Asked, CompilesTo, Fits, compiles}
use Rattle.wu_store.proofs.AskLemmas.{IsQuestion, never_err, never_refused}

-- ---- from state to state

pub unchanged_self : (old new : State) → IsUnchanged old new → IsUnchanged new new
unchanged_self old new same = (record { was_open = same.0.is_open; is_open = same.0.is_open; now_is = refl; committed_is = refl; mode = refl }, record { changes = refl; last_rowid = refl }, refl)

module _ (text : List ℕ) (select : IsSelect text) (params : Row) (rows : List Row) where
  -- the rows of an answer are those over what it was asked over, unchanged, before it
  pub shown_since : (first old new : State) → IsUnchanged first old → Shown text params old new rows → Shown text params first new rows
  unfolding Shown
  shown_since first old new same h =
      let none = shows_none old.now.schema text select h.0 h.1.is in
      let db : old.now ≡ first.now = same.0.now_is in
      let read = subst (λ r. ShowsRows old new text h.0 (timed params h.0.formats h.1.now) rows r) none h.2 in
      let shows : ShowsRows first new text h.0 (timed params h.0.formats h.1.now) rows None = (read.0, subst (λ (d : Database). IsSourceOf (reads_listing d.schema text) d read.0) db read.1, read.2, unchanged_then first old new same read.3) in (
        h.0,
        record { is = subst (λ (d : Database). understood d.schema text ≡ Ok h.0) db h.1.is; whole = h.1.whole; given = h.1.given; now = h.1.now },
        subst (λ r. ShowsRows first new text h.0 (timed params h.0.formats h.1.now) rows r) (sym none) shows,
      )

  -- and after it
  pub shown_until : (old new last : State) → Shown text params old new rows → IsUnchanged new last → Shown text params old last rows
  unfolding Shown
  shown_until old new last h same =
      let none = shows_none old.now.schema text select h.0 h.1.is in
      let read = subst (λ r. ShowsRows old new text h.0 (timed params h.0.formats h.1.now) rows r) none h.2 in
      let shows : ShowsRows old last text h.0 (timed params h.0.formats h.1.now) rows None = (read.0, read.1, read.2, unchanged_then old new last read.3 same) in
      (h.0, h.1, subst (λ r. ShowsRows old last text h.0 (timed params h.0.formats h.1.now) rows r) (sym none) shows)

returns_some : (r : Result Compiled CompileError) → Returns r → (c : Compiled) × (r ≡ Ok c) × IsSome c.returning
returns_some (Ok c) some = (c, refl, some)
returns_some (Err e) none = absurd none

-- ---- what is known at each row

-- these rows are given so far, no transaction is begun, nothing is committed, and all is as it was
pub record IsWalked {S : Type 0} (g : Ghosts S) (text : List ℕ) (params : Row) (old now : Held S) (given : List Row) : Type 0 where
  pub mode : old.in_transaction ≡ false → now.in_transaction ≡ false
  pub crash : Survives (state g old) (state g now) (λ _. ⊥)
  pub gave : HasCleanDisk (state g now) → HasGiven g text params now given
  pub same : HasCleanDisk (state g now) → IsUnchanged (state g old) (state g now)

module _ {S : Type 0} (g : Ghosts S) (text : List ℕ) (select : IsSelect text) (params : Row) where
  -- a SELECT is no write
  begun_select : (old new : Held S) → HasBegun g text params old new → HasGiven g text params new [] × IsUnchanged (state g old) (state g new)
  begun_select old new (inl h) = h
  begun_select old new (inr h) = let some = returns_some _ h.0 in absurd (let no = subst IsSome (shows_none old.schema text select some.0 some.1) some.2 in cc)

  never_kept : (old new : State) → Survives old new (λ _. ⊥) → Survives old new (CommitsShowing text params old)
  never_kept old new = survives_weaker old new _ _ (λ _ db none. absurd none)

  -- ---- one row after another

  -- a query that is begun
  pub walk_begins : (old new : Held S) → (old.in_transaction ≡ false → new.in_transaction ≡ false) → Survives (state g old) (state g new) (CommitsShowing text params (state g old)) → (HasCleanDisk (state g new) → HasBegun g text params old new) → IsWalked g text params old new []
  walk_begins old new mode survives begun = record {
    mode = mode;
    crash = reads_survive text select params (state g old) (state g new) survives;
    gave = λ clean. (begun_select old new (begun clean)).0;
    same = λ clean. (begun_select old new (begun clean)).1;
  }

  -- a query that is refused
  pub refused_so : (old new : Held S) {X : Type 0} (r : Result X Error) (e : Error) → r ≡ Err e → OnErr r (IsRefused g {X = X} text params old r new) → IsRefused g {X = X} text params old (Err e) new
  refused_so old new {X} (Ok x) e is none = absurd cc
  refused_so old new {X} (Err f) e is none = subst (λ x. IsRefused g {X = X} text params old (Err x) new) (let same = is in cc) none

  module _ (old new : Held S) {X : Type 0} (e : Error) (fault : Fault) (is : fault ≡ fault_of e) (no : IsRefused g {X = X} text params old (Err e) new) where
    pub refused_asks : {T : Type 0} → Asks {T = T} g old new (Err fault)
    refused_asks = asks_failed g text select params old new no.mode no.survives e fault is no.err

    pub refused_opens : HasCleanDisk (state g new) → IsFailure fault ⊎ IsTrue (state g new).is_open
    refused_opens = opens_failed g text select params old new no.mode no.survives e fault is no.err

  module _ (old now : Held S) (given : List Row) (walk : IsWalked g text params old now given) where
    -- what is made of the rows so far
    pub walk_asks : {T : Type 0} (r : Result T Fault) → r ≢ Err Broken → Asks g old now r
    walk_asks r other = asks_read g old now walk.mode walk.crash walk.same r other

    pub walk_opens : {T : Type 0} (r : Result T Fault) → ServesUnlessFailed g now r
    walk_opens r = opens_read g old now walk.mode walk.crash walk.same r

    pub walk_done : Asks {T = Unit {0}} g old now (Ok tt)
    walk_done = walk_asks {T = Unit {0}} (Ok tt) (never_err tt)

    -- the next row, or the end
    module _ (new : Held S) (mode : now.in_transaction ≡ false → new.in_transaction ≡ false) (survives : Survives (state g now) (state g new) (λ _. ⊥)) where
      before : HasCleanDisk (state g new) → HasCleanDisk (state g now)
      before clean = omega (arith, survives.clean, clean)

      both : Survives (state g old) (state g new) (λ _. ⊥)
      both = survives_then (state g old) (state g now) (state g new) _ _ (λ _. ⊥) (λ _ db none. none) (λ _ db none. none) walk.crash survives

      module _ (next : Option Row) (gives : HasCleanDisk (state g new) → Advances g now new next) (same : HasCleanDisk (state g new) → IsUnchanged (state g now) (state g new)) where
        pub walk_on : (row : Row) → next ≡ Some row → IsWalked g text params old new (given ++ row ∷ [])
        walk_on row is = record {
          mode = λ idle. mode (walk.mode idle);
          crash = both;
          gave = λ clean. (rw is at gives clean) text params given (walk.gave (before clean));
          same = λ clean. unchanged_then (state g old) (state g now) (state g new) (walk.same (before clean)) (same clean);
        }

        -- the rows that were given are the answer
        pub walk_ends : next ≡ None → HasCleanDisk (state g new) → Shown text params (state g old) (state g new) given
        walk_ends none clean = shown_since text select params given (state g old) (state g now) (state g new) (walk.same (before clean)) ((rw none at gives clean) text params given (walk.gave (before clean)))

        pub end_asks : {T : Type 0} (r : Result T Fault) → r ≢ Err Broken → Asks g old new r
        end_asks r other = asks_read g old new (λ idle. mode (walk.mode idle)) both (λ clean. unchanged_then (state g old) (state g now) (state g new) (walk.same (before clean)) (same clean)) r other

        pub end_opens : {T : Type 0} (r : Result T Fault) → ServesUnlessFailed g new r
        end_opens r = opens_read g old new (λ idle. mode (walk.mode idle)) both (λ clean. unchanged_then (state g old) (state g now) (state g new) (walk.same (before clean)) (same clean)) r

      -- a row that is not read
      module _ (e : Error) (fault : Fault) (is : fault ≡ fault_of e) (fails : HasCleanDisk (state g new) → FailsToAdvance g now new e) where
        failed : HasCleanDisk (state g new) → FailsToQuery text params (state g now) (state g new) e
        failed clean = fails clean text params given (walk.gave (before clean))

        pub failed_asks : {T : Type 0} → Asks {T = T} g old new (Err fault)
        failed_asks = asks_then g old now new tt walk_done (Err fault) (asks_failed g text select params now new mode (never_kept (state g now) (state g new) survives) e fault is failed)

        pub failed_opens : HasCleanDisk (state g new) → IsFailure fault ⊎ IsTrue (state g new).is_open
        failed_opens = opens_failed g text select params now new mode (never_kept (state g now) (state g new) survives) e fault is failed

-- ---- it is not refused

never : (e : Error) (fault : Fault) → fault ≡ fault_of e → IsFailure (fault_of e) → fault ≢ NotAProject
never e fault is failure refused = never_refused (fault_of e) failure (sym is ∙ refused)

module _ {S : Type 0} {text : List ℕ} {params : Row} (g : Ghosts S) (old : Held S) (world : World) (stands : Refines (state g old).now world) (unlimited : (state g old).step_limit ≡ None) (e : Error) (fault : Fault) (is : fault ≡ fault_of e) where
  -- where it does not begin
  module _ (new : Held S) {X : Type 0} (no : IsRefused g {X = X} text params old (Err e) new) (clean : HasCleanDisk (state g new)) where
    pub refused_told : IsQuestion text params Refines → fault ≢ NotAProject
    refused_told it = never e fault is (it.told (state g old) (state g new) e (no.err clean) world stands unlimited)

  -- and where a row is not read
  module _ (now : Held S) (given : List Row) (walk : IsWalked g text params old now given) (new : Held S) (survives : Survives (state g now) (state g new) (λ _. ⊥)) (fails : HasCleanDisk (state g new) → FailsToAdvance g now new e) (clean : HasCleanDisk (state g new)) where
    was : HasCleanDisk (state g now)
    was = omega (arith, survives.clean, clean)

    stands_now : Refines (state g now).now world
    stands_now = subst (λ (d : Database). Refines d world) (sym (walk.same was).0.now_is) stands

    pub failed_told : IsQuestion text params Refines → fault ≢ NotAProject
    failed_told it = never e fault is (it.told (state g now) (state g new) e (fails clean text params given (walk.gave was)) world stands_now (walk.crash.limit ∙ unlimited))

-- ---- what was given begins an answer

-- a query with no tables that are computed first comes to its end
ends_alone : (schema : Schema) (text : List ℕ) (p : Parsed) (q : Query) (names : List Name) → CompilesTo schema text p (Select (alone q) names) → (c : Compiled) → understood schema text ≡ Ok c → (db : Database) (params : Row) → EndsIn c.command db params
ends_alone schema text p q names it c is db params = subst (λ (d : Compiled). EndsIn d.command db params) (same_ok (sym it.known ∙ is)) tt

-- so an answer begins with what it gave
pub given_front : {S : Type 0} (g : Ghosts S) (text : List ℕ) (select : IsSelect text) (params : Row) (old now : Held S) (given : List Row) → IsUnchanged (state g old) (state g now) → HasGiven g text params now given → (p : Parsed) (q : Query) (names : List Name)
    → CompilesTo (state g old).now.schema text p (Select (alone q) names) → (tail : List Row) × Shown text params (state g old) (state g now) (given ++ tail)
given_front g text select params old now given same gave p q names it =
    let whole = begins_shown text params (state g now) (state g now) given (given_begin g text params now given gave) (unchanged_self (state g old) (state g now) same)
    (λ c db from is. ends_alone (state g old).now.schema text p q names it c (subst (λ (d : Database). understood d.schema text ≡ Ok c) same.0.now_is from.is) db (timed params c.formats from.now)) in
    (whole.0, shown_since text select params (given ++ whole.0) (state g old) (state g now) (state g now) same whole.1)

-- over tables that stand for a world
module _ (p : ProjectTable) (q : Asked) (fits : (tree : ℕ) → Fits (table_name p) (table_at p tree) q) {S : Type 0} (g : Ghosts S) (select : IsSelect q.text) (params : Row) (old now : Held S) (given : List Row) (walk : IsWalked g q.text params old now given) (world : World) (in_p : IsTableOf p world.version)
    (stands : Refines (state g old).now world) where
  pub walk_front : HasCleanDisk (state g now) → (tail : List Row) × Shown q.text params (state g old) (state g now) (given ++ tail)
  walk_front clean =
      let has = parts_there (state g old).now world stands p in_p in
      given_front g q.text select params old now given (walk.same clean) (walk.gave clean) _ _ _ (compiles (state g old).now.schema (table_name p) has.0 (table_at p (stands.trees p)) has.1 q (fits (stands.trees p)))
