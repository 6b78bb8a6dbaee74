-- Which errors of a text that makes a table, an index or a row are the store's own: those of a disk that failed, and of
-- a connection that was not open.
use Rattle.wu_schema.proofs.Words.{Chosen, Command, Compiled, Database, Does, Err, Error, Executes, ExecutesIn, Ghosts, Has, HasMade, HasTable, IsDatabase, Held, HasCleanDisk, Index, Insert, Int, IsErrAnd, IsTrue, Keys, List, Mode, Name, None, Ok, Option, Result, Row, Schema, Some, State, Survives, Table, Term, Transaction, Trees, Values, [], ap, append-nil, arith, cases_Bool, codes, count_of, edit_of, false, fault_of, inl, inr, length, mode_of, nat_lt, negsuc, next_tree, nat_tests, no_works, pos, project_at, refl, slice_get, stamped, state, subst, suc, sym, taken_by, true, understood, value_rows, result_at, workunit_at, works, zero, ℕ, ℤ, ◌*◌, ◌++◌, ◌+◌, ◌/◌, ◌^◌, ◌∙◌, ◌∷◌, ◌≡◌, ◌<◌, ◌≢◌, ◌≤◌, ◌⊎◌}
use Rattle.sqlite.specs.Clock.{timed}
use Rattle.sqlite.specs.declared.error.Error.TheVariants.{SqliteFailure}
use Rattle.sqlite.specs.declared.error.ErrorCode.TheVariants.{TransactionState}
use Rattle.sqlite.specs.Command.TheVariants.{CreateIndex as Add, CreateTable as Make}
use Rattle.sqlite.specs.Does.{Tested, WritesRows, MakesIndex, MakesTable, MakesSequence, lacks_sequence, sequence_text}
use Rattle.sqlite.specs.Edit.{numbered}
use Rattle.sqlite.specs.Effect.{edit_error, alter_error}
use Rattle.sqlite.specs.Rows.{Edited, Sourced, rowids_for}
use Rattle.sqlite_schema.specs.declared.schema.Among.{Among}
use Rattle.sqlite_schema.specs.Rules.{Refers, table_reals}
use Rattle.sqlite_trees.specs.View.{IsStorableRow}
use Rattle.wu_schema.proofs.InsertTexts.{Put, PutFits, project_fits, project_put, put_compiles}
use Rattle.sqlite.specs.State.{IsMisplaced, RunsCommand, shows_rows, text_of}
use Rattle.sqlite_catalog.specs.Calls.{IsLongIndex, IsLongTable}
use Rattle.sqlite_catalog.specs.declared.error.Refusal as alter
use Rattle.sqlite_catalog.specs.declared.error.Refusal.TheVariants as why
use Rattle.sqlite_rules.specs.Action.{Leads, Writes as Edits}
use Rattle.sqlite_rules.specs.Edit.{Edit, IsOversized}
use Rattle.sqlite_rules.specs.declared.error.Refusal.{Refusal}
use Rattle.sqlite_rules.specs.declared.error.Refusal.TheVariants as rule
use Rattle.wu_core.specs.declared.fault.Fault.TheVariants.{Broken, NotAProject}
use Rattle.wu_schema.proofs.AskingLemmas.{caused, fault_told, input_other, not_run_broke, told_other}
use Rattle.wu_schema.proofs.CreateEffect.{Defines, create_compiles, defined_by, index_low, own_table, sequence_is, understood_free}
use Rattle.wu_schema.proofs.EffectLemmas.{chosen, passed, same_value}
use Rattle.wu_schema.proofs.IndexEffect.{DefinesAs, all_added_grow, index_compiles}
use Rattle.wu_schema.specs.Indexes.{NamedIndex, index_at}
use Rattle.std.proofs.lemmas.Bool.{both_ways}
use Rattle.sqlite.specs.Steps.{FailsToCommit}
use Rattle.wu_core.specs.declared.fault.Fault.{Fault}
use Rattle.wu_schema.specs.Faults.{IsFailure, commit_fault_of}
use Rattle.wu_schema.proofs.CallLemmas.{begun_part, same_error}
use Rattle.wu_schema.proofs.OneLemmas.{broken_by}
use Rattle.wu_schema.specs.Calls.{BreaksAfter, BreaksBetween, BreaksTruly, HasBroken, IsPart, RefusesText, StatementFrame}
use Rattle.wu_schema.specs.Made.{HasBareProject, IsUnindexed, MakesAll, Named, class_tables, record_tables, work_tables}
use Rattle.sqlite_catalog.proofs.StepLemmas.{table_below}
use Rattle.wu_schema.proofs.CreatedLemmas.{project_kept, project_row}
use Rattle.wu_schema.proofs.MadeLemmas.{all_then}
use Rattle.wu_schema.specs.Queue.{HasEmpty, MakesIndexes}
use Rattle.wu_schema.proofs.QuietLemmas.{when_false}
use Rattle.std.proofs.lemmas.List.{length-append}
use Rattle.sqlite_rules.proofs.ListLemmas.{has_got}
use Rattle.std.proofs.lemmas.Nat.Bits.{bit_at-zero}
use Rattle.std.specs.Float.{NotNan}
use lib.Ieee.{is_nan}
use Rattle.sqlite_value.specs.Order.{number as value_number}
use Rattle.std.proofs.lemmas.List.Elements.{All-from_recursion}

-- such an error is none of them, and nothing is too big to be stored
abbrev pub IsOther : Option Error → Type 0
IsOther None = ⊥
IsOther (Some e) = fault_of e ≢ Broken

misplaced_other : (s : State) (command : Command) (e : Error) → IsMisplaced s command e → fault_of e ≢ Broken
misplaced_other s command e (inl began) = told_other e _ began.0 (λ is. absurd cc)
misplaced_other s command e (inr unnamed) = told_other e _ unnamed.0 (λ is. absurd cc)

module _ (text : List ℕ) (params : Row) (old new : State) (e : Error)
    (never : (c : Compiled) → understood old.now.schema text ≡ Ok c → (moment : ℕ) (stop : Option Error) → Does old.step_limit (mode_of old) (timed params c.formats moment) old.now (text_of text c) c.returning c.command (Err stop) → IsOther stop) where
  ran_broke : (c : Compiled) → understood old.now.schema text ≡ Ok c → (moment : ℕ) → RunsCommand old new text c (timed params c.formats moment) (Err e) → fault_of e ≡ Broken → BreaksBetween old new
  ran_broke c known moment (inl (inl misplaced, same)) is = absurd (misplaced_other old c.command e misplaced is)
  ran_broke c known moment (inl (inr (may, refused), same)) is = absurd (never c known moment (Some e) refused is)
  ran_broke c known moment (inr failed) is = caused old new e (λ big. never c known moment None big) failed.0 failed.2 (ap fault_of (sym failed.1) ∙ is)

  pub text_broke : Executes text params old new (Err e) → fault_of e ≡ Broken → BreaksBetween old new
  unfolding ExecutesIn
  text_broke (inl h) is = not_run_broke old new e text params h is
  text_broke (inr (c, it, runs)) is = elim (cases_Bool (shows_rows false c)) [
    | inl shows ↦ absurd (told_other e _ (same_error (rw shows at runs).0) (λ no. absurd cc) is)
    | inr ran ↦ ran_broke c it.is it.now (rw ran at runs) is
  ]

-- ---- what stops a part of a statement

stop_is : {A : Type 0} {s t : Option Error} → ◌≡◌ {A = Result A (Option Error)} (Err s) (Err t) → s ≡ t
stop_is e = cc

not_given : {A : Type 0} {a : A} {stop : Option Error} → ¬ ◌≡◌ {A = Result A (Option Error)} (Err stop) (Ok a)
not_given e = absurd cc

stops : {B R : Type 0} {Stops : Option Error → Type 0} {stop : Option Error} → ((s : Option Error) × Stops s × (◌≡◌ {A = Result B (Option Error)} (Err stop) (Err s))) ⊎ R → ((s : Option Error) → Stops s → IsOther s) → (R → IsOther stop) → IsOther stop
stops (inl (s, first, same)) one next = subst IsOther (sym (stop_is same)) (one s first)
stops (inr more) one next = next more

-- ---- CREATE TABLE

alter_other : (reason : alter.Refusal) → fault_of (alter_error reason) ≢ Broken
alter_other (why.Invalid e) is = absurd (input_other e is)
alter_other _ is = absurd cc

makes_other : (text : List ℕ) (db : Database) → ¬ IsLongTable text → (stop : Option Error) → MakesTable text db (Err stop) → IsOther stop
makes_other text db short None long = short long
makes_other text db short (Some e) (inl none) = told_other e _ none.1 (λ is. absurd cc)
makes_other text db short (Some e) (inr refused) = told_other e _ refused.2 (alter_other refused.0)

sequence_short : (t : Table) → t.name ≡ codes "sqlite_sequence" → nat_lt (2 * length t.name + length sequence_text + 200) (10 ^ 9) ≡ true
sequence_short t named = rw named refl

too_long : (n : ℕ) → nat_lt n (10 ^ 9) ≡ true → ¬ (10 ^ 9 ≤ n)
too_long n short long = absurd (grind (arith, nat_tests, short, long))

counts_other : (db : Database) (stop : Option Error) → MakesSequence db (Err stop) → IsOther stop
counts_other db stop h = elim (cases_Bool (lacks_sequence db.schema)) [
  | inl lacks ↦ makes_other sequence_text db (λ long. too_long _ (sequence_short long.0 (sequence_is long.0 long.1).0) long.2) stop (rw lacks at h)
  | inr has ↦ absurd (let no = rw has at h in cc)
]

module _ (text name : List ℕ) (table : ℕ → Table) (d : Defines text name table) where
  never_long : ¬ IsLongTable text
  never_long long = too_long _ (subst (λ (t : Table). nat_lt (2 * length t.name + length text + 200) (10 ^ 9) ≡ true) (same_value (sym (defined_by text name table d) ∙ long.1)) d.short) long.2

  create_other : (limit : Option ℕ) (mode : Mode) (params : Row) (db : Database) (stop : Option Error) → Does limit mode params db text None Make (Err stop) → IsOther stop
  create_other limit mode params db stop h =
      stops h (λ s first. stops first (makes_other text db never_long) (λ then. counts_other then.0 s then.2)) (λ then. absurd (not_given then.2))

  -- CREATE TABLE fails so where the disk failed, or the connection was not open
  pub create_broke : (old new : State) (e : Error) → Executes text [] old new (Err e) → fault_of e ≡ Broken → BreaksBetween old new
  create_broke old new e = text_broke text [] old new e (λ c known moment stop does.
      let given = timed [] c.formats moment in
      let free = understood_free text name table d old.now.schema c known in
      let it = create_compiles old.now.schema text name table d free in
      let same = same_value (sym known ∙ it.known) in
      let at : Does old.step_limit (mode_of old) given old.now (text_of text c) None Make (Err stop) = subst (λ (k : Compiled). Does old.step_limit (mode_of old) given old.now (text_of text c) k.returning k.command (Err stop)) same does in
      create_other old.step_limit (mode_of old) given old.now stop
      (subst (λ t. Does old.step_limit (mode_of old) given old.now t None Make (Err stop)) (ap (λ k. text_of text k) same ∙ d.text_is) at))

-- ---- CREATE INDEX

-- an index on a table with no row
module _ (text : List ℕ) (table : Named) (named : NamedIndex) (d : DefinesAs text table named) (tree : ℕ) where
  index_long : (db : Trees) → db (table.1 tree).tree ≡ [] → ¬ IsLongIndex db (table.1 tree) text
  index_long db none long =
      let same : long.0 ≡ index_at named (table.1 tree).tree 0 = same_value (sym long.1 ∙ d.made tree) in
      elim long.2 [
        | inl many ↦ too_long _ (d.short tree) (subst (λ (i : Index). 10 ^ 9 ≤ length i.name + length (table.1 tree).name + length text + 200) same many)
        | inr (row, has, big) ↦ absurd (subst (λ rows. Has rows row) none has)
      ]

  index_made_other : (db : Database) → db.trees (table.1 tree).tree ≡ [] → (stop : Option Error) → MakesIndex text db (table.1 tree) (Err stop) → IsOther stop
  index_made_other db none None long = index_long db.trees none long
  index_made_other db none (Some e) (inl no_text) = told_other e _ no_text.1 (λ is. absurd cc)
  index_made_other db none (Some e) (inr refused) = told_other e _ refused.2 (alter_other refused.0)

  add_other : (limit : Option ℕ) (mode : Mode) (params : Row) (db : Database) (at : ℕ) → slice_get db.schema.tables at ≡ Some (table.1 tree) → db.trees (table.1 tree).tree ≡ [] → (stop : Option Error) → Does limit mode params db text None (Add at) (Err stop) → IsOther stop
  add_other limit mode params db at there none stop h =
      stops (rw there at h) (λ s first. index_made_other db none s first) (λ then. absurd (not_given then.2))

  -- CREATE INDEX fails so where the disk failed, or the connection was not open
  pub index_broke : (old new : State) (at : ℕ) → HasTable old.now.schema table.0 at (table.1 tree) → old.now.trees (table.1 tree).tree ≡ [] → (e : Error) → Executes text [] old new (Err e) → fault_of e ≡ Broken → BreaksBetween old new
  index_broke old new at has none e = text_broke text [] old new e (λ c known moment stop does.
      let given = timed [] c.formats moment in
      let schema = old.now.schema in
      let it = index_compiles text table.0 d.defines schema at (table.1 tree) has c known in
      let does_at : Does old.step_limit (mode_of old) given old.now (text_of text c) None (Add at) (Err stop) = subst (λ (k : Compiled). Does old.step_limit (mode_of old) given old.now (text_of text c) k.returning k.command (Err stop)) it does in
      add_other old.step_limit (mode_of old) given old.now at has.there none stop
      (subst (λ t. Does old.step_limit (mode_of old) given old.now t None (Add at) (Err stop)) (ap (λ k. text_of text k) it ∙ d.defines.text_is) does_at))

-- ---- INSERT of one row

edit_other : (reason : Refusal) → fault_of (edit_error reason) ≢ Broken
edit_other (rule.Violates constraint) is = absurd cc
edit_other _ is = absurd cc

module _ (schema : Schema) (keys : Keys) (db : Trees) (edit : Edit) (none : works schema keys 0 edit.table.tree (taken_by db edit) edit.news ≡ []) (small : (row : Row) → Has edit.news row → ¬ IsOversized schema edit.table row) where
  never_stops : (next : Trees) (n : ℕ) → ¬ Leads schema keys n next [] (Err None)
  never_stops next zero h = absurd (let no = h.1 in cc)
  never_stops next (suc n) h = absurd (omega (arith, ap length h.2, length-append h.0 (h.1 ∷ [])))

  never_big : ¬ Edits schema keys db edit (Err None)
  never_big (inl refused) = absurd (let no = refused.2 in cc)
  never_big (inr (inl big)) = small big.0 big.1 big.2
  never_big (inr (inr went)) = never_stops went.0 went.2.0 (rw none at went.2.1)

  edited_other : (stop : Option Error) → Edited schema keys db edit (Err stop) → IsOther stop
  edited_other stop (None, wrote, same) = absurd (never_big wrote)
  edited_other stop (Some reason, wrote, same) = subst IsOther (sym same) (edit_other reason)

source_other : (limit : Option ℕ) (db : Database) (params : Row) (terms : List Term) (width : ℕ) (stop : Option Error) → Sourced limit db params (Values terms width) (Err stop) → IsOther stop
source_other limit db params terms width None none = none
source_other limit db params terms width (Some e) (inl typed) = told_other e _ typed.0 (λ is. absurd cc)
source_other limit db params terms width (Some e) (inr stopped) = told_other e _ stopped.0 (λ is. absurd cc)

tested_other : (mode : Mode) (Holds : Among → Type 0) (stop : Option Error) → Tested mode Holds (Err stop) → IsOther stop
tested_other mode Holds stop h = subst IsOther (sym h.1) (λ is. absurd cc)

module _ (title : Name) (table : ℕ → Table) (q : Put) (fits : PutFits title table q) (params : Row) (tree : ℕ) (row : Row) where
  abbrev sources : List Row
  sources = value_rows params (length q.terms) (length q.terms / length q.terms) q.terms

  module _ (limit : Option ℕ) (mode : Mode) (db : Database) (at : ℕ) (there : slice_get db.schema.tables at ≡ Some (table tree)) (news : (edit_of db.trees (table tree) [] Chosen 0 sources).news ≡ row ∷ [])
      (storable : IsStorableRow (table_reals (table tree)) row) (bare : IsUnindexed db.schema (table tree).tree) where
    small_row : (r : Row) → Has (edit_of db.trees (table tree) [] Chosen 0 sources).news r → ¬ IsOversized db.schema (table tree) r
    small_row r has (inl big) = big (subst (IsStorableRow (table_reals (table tree))) (sym (only_one r (subst (λ rows. Has rows r) news has))) storable)
      where
        only_one : (r : Row) → Has (row ∷ []) r → r ≡ row
        only_one r (inl same) = same
        only_one r (inr none) = absurd none
    small_row r has (inr (i, listed, on, big)) = bare i listed on

    written_other : (stop : Option Error) → WritesRows (record { limit = limit; keys = mode.keys; schema = db.schema; table = table tree; params = params }) db.trees (Insert at (Values q.terms (length q.terms))) (Err stop) → IsOther stop
    written_other stop h =
        stops h (λ s from. source_other limit db (stamped (table tree) params) q.terms (length q.terms) s from) (λ given.
        stops given.2 (λ s counter. absurd (not_given (when_false (table tree).is_counted _ _ (fits.bare tree) counter))) (λ counter.
        stops counter.2 (λ s edits. edited_other db.schema mode.keys db.trees (edit_of db.trees (table tree) [] Chosen 0 sources) (no_works db.schema mode.keys 0 (table tree).tree _) small_row s
        (subst (λ r. Edited db.schema mode.keys db.trees (edit_of db.trees (table tree) [] r 0 sources) (Err s)) (chosen (table tree) _ (fits.bare tree))
        (subst (λ all. Edited db.schema mode.keys db.trees (edit_of db.trees (table tree) [] (rowids_for (table tree) (count_of counter.0)) 0 all) (Err s)) (given.1.1 ∙ ap (λ p. value_rows p (length q.terms) (length q.terms / length q.terms) q.terms) (fits.plain tree params)) edits)))
        (λ wrote. stops wrote.2 (λ s counts. absurd (not_given (passed (table tree).is_counted _ _ _ (fits.bare tree) counts))) (λ kept. absurd (not_given kept.2)))))

    put_other : (stop : Option Error) → Does limit mode params db q.text None (Insert at (Values q.terms (length q.terms))) (Err stop) → IsOther stop
    put_other stop h =
        stops (rw there at h) (λ s wrote. written_other s wrote) (λ wrote. stops wrote.2 (λ s tested. tested_other mode (λ among. Refers among db.schema wrote.0.trees) s tested) (λ held. stops held.2 (λ s shows. absurd (not_given shows)) (λ shown. absurd (not_given shown.2))))

  -- INSERT of one row fails so where the disk failed, or the connection was not open
  pub put_broke : (old new : State) (at : ℕ) → HasTable old.now.schema title at (table tree) → (edit_of old.now.trees (table tree) [] Chosen 0 sources).news ≡ row ∷ [] → IsStorableRow (table_reals (table tree)) row → IsUnindexed old.now.schema (table tree).tree
      → (e : Error) → Executes q.text params old new (Err e) → fault_of e ≡ Broken → BreaksBetween old new
  put_broke old new at has news storable bare e = text_broke q.text params old new e (λ c known moment stop does.
      let values = Values q.terms (length q.terms) in
      let it = put_compiles old.now.schema title at table tree has q fits in
      let same = same_value (sym known ∙ it.known) in
      let does_at : Does old.step_limit (mode_of old) (timed params [] moment) old.now (text_of q.text c) None (Insert at values) (Err stop) =
      subst (λ (k : Compiled). Does old.step_limit (mode_of old) (timed params k.formats moment) old.now (text_of q.text c) k.returning k.command (Err stop)) same does in
      put_other old.step_limit (mode_of old) old.now at has.there news storable bare stop (rw (append-nil params) at does_at))

-- ---- from call to call inside a transaction

-- what broke later broke over what was before
pub broke_later : {S : Type 0} (g : Ghosts S) (a b c : Held S) (P : Trees → Type 0) → Survives (state g a) (state g b) P → HasCleanDisk (state g b) → (state g b).faults ≤ (state g c).faults → HasBroken g b c → HasBroken g a c
broke_later g a b c P one clean rises (inl more) = inl (omega (arith, one.counts, more))
broke_later g a b c P one clean rises (inr shut) = elim (cases_Bool (state g a).is_open) [
  | inl is_open ↦ elim (one.closes clean is_open) [
    | inl still ↦ absurd (let no = sym shut ∙ still in cc)
    | inr more ↦ inl (omega (arith, more, rises))
  ]
  | inr none ↦ inr none
]

-- what broke before is broken still
pub broke_still : {S : Type 0} (g : Ghosts S) (a b c : Held S) → (state g b).faults ≤ (state g c).faults → HasBroken g a b → HasBroken g a c
broke_still g a b c rises (inl more) = inl (omega (arith, rises, more))
broke_still g a b c rises (inr shut) = inr shut

module _ {S : Type 0} (g : Ghosts S) (a b : Transaction S) where
  -- the error fails so
  abbrev pub Fails : Error → Type 0
  Fails e = HasCleanDisk (state g b.conn.now) → fault_of e ≡ Broken → HasBroken g a.conn.now b.conn.now

  -- a refusal that is handed on
  pub breaks_on : {U : Type 0} (e : Error) → Fails e → (r : Result U Error) → IsErrAnd r (λ d. d ≡ e) → BreaksAfter g a.conn.now b.conn.now r
  breaks_on e fails (Ok x) is clean = tt
  breaks_on e fails (Err d) is clean = λ told. fails clean (ap fault_of (sym is) ∙ told)

  -- what was done, and what was refused then
  pub breaks_then : {T U : Type 0} (c : Transaction S) (x : T) → StatementFrame {E = Error} g a b (Ok x) → (r : Result U Error) → StatementFrame g b c r → BreaksAfter g b.conn.now c.conn.now r → BreaksAfter g a.conn.now c.conn.now r
  breaks_then c x one (Ok y) two breaks clean = tt
  breaks_then c x one (Err e) two breaks clean = λ told. broke_later g a.conn.now b.conn.now c.conn.now (λ _. ⊥) one.part.survives (omega (arith, two.part.survives.clean, clean)) two.part.survives.counts (breaks clean told)

  -- the text was refused with it, or the transaction had ended
  abbrev pub RefusedWith : List ℕ → Row → Error → Type 0
  RefusedWith text given e = HasCleanDisk (state g b.conn.now) → (e ≡ SqliteFailure TransactionState) ⊎ Executes text given (state g a.conn.now) (state g b.conn.now) (Err e)

  text_fails : (text : List ℕ) (given : Row) (e : Error) → (Executes text given (state g a.conn.now) (state g b.conn.now) (Err e) → fault_of e ≡ Broken → HasBroken g a.conn.now b.conn.now) → RefusedWith text given e → Fails e
  text_fails text given e broke refused clean told = elim (refused clean) [ inl ended ↦ absurd (told_other e _ ended (λ is. absurd cc) told) | inr ran ↦ broke ran told ]

  text_breaks : {T : Type 0} (text : List ℕ) (given : Row) → ((e : Error) → Executes text given (state g a.conn.now) (state g b.conn.now) (Err e) → fault_of e ≡ Broken → HasBroken g a.conn.now b.conn.now)
      → (r : Result T Error) → RefusesText g a b r text given → BreaksAfter g a.conn.now b.conn.now r
  text_breaks text given broke (Ok x) refused clean = tt
  text_breaks text given broke (Err e) refused clean = text_fails text given e (broke e) refused clean

  pub create_breaks : {T : Type 0} {text name : List ℕ} {table : ℕ → Table} → Defines text name table → (r : Result T Error) → RefusesText g a b r text [] → BreaksAfter g a.conn.now b.conn.now r
  create_breaks {text = text} {name = name} {table = table} d = text_breaks text [] (create_broke text name table d (state g a.conn.now) (state g b.conn.now))

  pub index_breaks : {T : Type 0} {text : List ℕ} {table : Named} {named : NamedIndex} → DefinesAs text table named → HasEmpty table (state g a.conn.now).now → (r : Result T Error) → RefusesText g a b r text [] → BreaksAfter g a.conn.now b.conn.now r
  index_breaks {text = text} {table = table} {named = named} d has = text_breaks text [] (λ e. index_broke text table named d has.1 (state g a.conn.now) (state g b.conn.now) has.0 has.2 has.3 e)

-- ---- the row of a fresh project

-- no column of the table holds reals, and each value of the row is short
project_storable : (tree : ℕ) (version : ℤ) → IsStorableRow (table_reals (project_at tree)) (project_row version)
unfolding is_nan
project_storable tree version = (
  record {
    typed = λ c real. absurd (let none = bit_at-zero c in omega (arith, none, real));
    columns = (omega arith, omega arith);
    numbers = All-from_recursion (λ v. NotNan (value_number v)) (project_row version) (whole (pos 1), (tt, (whole version, (whole (pos 1), tt))));
    short = omega arith;
  },
  omega arith,
)
  where
    whole : (n : ℤ) → NotNan (value_number (Int n))
    whole (pos n) = tt
    whole (negsuc n) = tt

-- the table `project` was made, and no index stands on it
made_bare : (old new : Database) → IsDatabase old → HasMade old new (codes "project", project_at) → IsUnindexed new.schema (next_tree old.schema)
made_bare old new sound made i has on = elim (made.new_indexes i has) [
  | inl before ↦ (let low = index_low old sound i before in omega (arith, low, on))
  | inr own ↦ absurd own
]

-- nor does one that is made with another table behind it
still_bare : (old new : Database) (named : Named) (tree : ℕ) → HasMade old new named → tree < next_tree old.schema → IsUnindexed old.schema tree → IsUnindexed new.schema tree
still_bare old new named tree made low bare i has on = elim (made.new_indexes i has) [
  | inl before ↦ bare i before on
  | inr own ↦ (let other = own_table (named.1 (next_tree old.schema)) 0 (next_tree old.schema + 1) (named.1 (next_tree old.schema)).uniques i own in omega (arith, other, made.placed, low, on))
]

all_bare : (old new : Database) (made : List Named) (at tree : ℕ) → HasTable old.schema (codes "project") at (project_at tree) → IsUnindexed old.schema tree → MakesAll old new made → HasBareProject new
all_bare old new [] at tree has bare same = subst HasBareProject (sym same) (at, tree, has, bare)
all_bare old new (named ∷ made) at tree has bare h =
    all_bare h.0 new made at tree (h.1.keeps (codes "project") at (project_at tree) has) (still_bare old h.0 named tree h.1 (table_below old.schema (project_at tree) (has_got old.schema.tables at (project_at tree) has.there)) bare) h.2

-- where the tables of a project were made, its table is there with no index
pub bare_made : (old mid last end : Database) → IsDatabase old → MakesAll old mid work_tables → MakesAll mid last record_tables → MakesAll last end class_tables → HasBareProject end
bare_made old mid last end sound work records classes =
    let tree = next_tree old.schema in
    let later = (codes "workunit", workunit_at) ∷ (codes "result", result_at) ∷ [] in
    let more = all_then work.0 mid end later (record_tables ++ class_tables) work.2 (all_then mid last end record_tables class_tables records classes) in
    all_bare work.0 end (later ++ (record_tables ++ class_tables)) (length old.schema.tables) tree work.1.has (made_bare old work.0 sound work.1) more

pub project_breaks : {S T : Type 0} (g : Ghosts S) (a b : Transaction S) (version : ℤ) → HasBareProject (state g a.conn.now).now → (r : Result T Error) → RefusesText g a b r project_put.text (Int version ∷ []) → BreaksAfter g a.conn.now b.conn.now r
project_breaks g a b version (at, tree, has, bare) = text_breaks g a b project_put.text (Int version ∷ []) (λ e.
    put_broke (codes "project") project_at project_put project_fits (Int version ∷ []) tree (project_row version) (state g a.conn.now) (state g b.conn.now) at has (ap (numbered Chosen ((state g a.conn.now).now.trees tree)) (project_kept tree version)) (project_storable tree version) bare e)

-- the queue that was just made is empty, and so it is behind its indexes
pub empty_made : (old new : Database) (table : Named) → HasMade old new table → HasEmpty table new
empty_made old new table made = (length old.schema.tables, next_tree old.schema, made.has, ap (λ n. new.trees n) made.placed ∙ made.empty)

pub empty_behind : (old new : Database) (table : Named) (named : List NamedIndex) → MakesIndexes table named old new → HasEmpty table old → HasEmpty table new
empty_behind old new table named makes (at, tree, has, none) =
    let grows = all_added_grow old new (table.1 tree) named (makes at tree has) in
    (at, tree, grows.named table.0 at (table.1 tree) has, (grows.keeps.tables (table.1 tree) (has_got old.schema.tables at (table.1 tree) has.there)).1 ∙ none)

-- ---- where the transaction is stopped

module _ {S : Type 0} (g : Ghosts S) (old start mid end : Held S) (begun : start ≡ record old { in_transaction = true }) (part : IsPart (state g start) (state g mid)) (P : Trees → Type 0) (survives : Survives (state g mid) (state g end) P) where
  -- a statement broke within it
  pub statement_broke : HasBroken g start mid → HasBroken g old end
  statement_broke broke = subst (λ h. HasBroken g h end) begun (broke_still g start mid end survives.counts broke)

  -- or its commit did
  pub commit_broke : HasCleanDisk (state g end) → (HasCleanDisk (state g mid) → IsTrue start.in_transaction → IsTrue mid.in_transaction) → (e : Error) → FailsToCommit (state g mid) (state g end) e → commit_fault_of e ≡ Broken → HasBroken g old end
  commit_broke clean inside e (inr ended) is = absurd (both_ways _ ended.1 (inside (omega (arith, survives.clean, clean)) (subst (λ (h : Held S). IsTrue h.in_transaction) (sym begun) refl)))
  commit_broke clean inside e (inl failed) is =
      let broke : HasBroken g mid end = broken_by (state g mid) (state g end) failed.0 (ap commit_fault_of (sym failed.1) ∙ is) failed.2 in
      let within : IsPart (state g old) (state g mid) = begun_part g old (state g mid) (subst (λ h. IsPart (state g h) (state g mid)) begun part) in
      broke_later g old mid end (λ _. ⊥) within.survives (omega (arith, survives.clean, clean)) survives.counts broke

-- a fault behind a statement that was refused
pub told_broke : {S : Type 0} (g : Ghosts S) (old mid new : Held S) (Makes : Trees → Type 0) → Survives (state g old) (state g mid) Makes → Survives (state g mid) (state g new) (λ _. ⊥) → (error : Error) (fault : Fault)
    → (HasCleanDisk (state g mid) → fault_of error ≡ Broken → HasBroken g old mid) → (IsFailure (fault_of error) → fault ≡ fault_of error) → (fault_of error ≡ NotAProject → BreaksTruly g mid new fault) → BreaksTruly g old new fault
told_broke g old mid new Makes one two error fault broke failed refused clean told =
    let before : HasCleanDisk (state g mid) = omega (arith, two.clean, clean) in
    elim (fault_told error) [
      | inl memory ↦ absurd (let no = sym (failed (inl memory) ∙ memory) ∙ told in cc)
      | inr (inl broken) ↦ broke_still g old mid new two.counts (broke before broken)
      | inr (inr other) ↦ broke_later g old mid new Makes one before two.counts (refused other clean told)
    ]
