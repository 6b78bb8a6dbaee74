-- What the question for the version answers.
use Rattle.wu_schema.proofs.Words.{Command, CompileError, Database, Err, Error, FailsToQuery, FailsToShow, Fault, IsOrWantsMemory, HasProject, HasVersion, IfErr, Integer, IsFailure, IsFree, IsNotRun, IsPermutation, IsPermutation-sym, IsUnchanged, List, NoSuchTable, None, NotAProject, Ok, Option, Program, RefusesQuery, Result, Row, Schema, Shown, Some, Refines, State, StoreError, World, [], ap, arith, codes, column_named, fault_of, inl, inr, map, may, needs, number, one_permutation, pipeline, project_at, refl, store_error, subst, sym, understood, version_text, ℕ, ◌∙◌, ◌∷◌, ◌≡◌, ◌≤◌, ◌⊎◌}
use Rattle.sqlite.specs.Command.TheVariants as command
use Rattle.sqlite.specs.Effect.{RefusesToRead}
use Rattle.sqlite_trees.specs.declared.error.StoreError.TheVariants as kind
use Rattle.sqlite.specs.declared.error.Error.TheVariants.{SqlInputError, InvalidQuery}
use Rattle.sqlite.specs.Clock.{timed}
use Rattle.sqlite.specs.State.{ShowsRows}
use Rattle.wu_core.specs.declared.fault.Fault.TheVariants.{Broken, Memory}
use Rattle.wu_schema.specs.Faults.{IsStoreFault}
use Rattle.std.specs.Prelude.{◌≢◌}
use Rattle.wu_schema.specs.Versions.{IsVersionAnswer, IsMissing, project_cells, rows_of_project, AreOfVersion, TellsMissing, LacksProject}
use Rattle.wu_schema.proofs.AnswerLemmas.{answers_are, meeting, showing}
use Rattle.wu_schema.proofs.CallLemmas.{serves_after}
use Rattle.wu_schema.proofs.AnswerLemmas.{shown_answers}
use Rattle.wu_schema.proofs.ReadLemmas.{IsSelect, shows_none}
use Rattle.wu_schema.proofs.ToldLemmas.{query_told, never_over, failed_told}
use Rattle.wu_schema.proofs.VersionTexts.{version_accepted, version_first, version_parsed, version_select, version_query, version_names, version_tests, version_shows, version_reads, free_understood}
use Rattle.wu_schema.specs.declared.table.ProjectTable.TheVariants as the_table

pub version_selects : IsSelect version_text
version_selects = record { parsed = version_parsed; select = version_select; read = version_first; is = refl }

-- ---- the three columns of a project that stands, and its row

pub columns_named : (tree : ℕ) → (column_named (project_at tree) (codes "one") ≡ Some 0) × (column_named (project_at tree) (codes "version") ≡ Some 1) × (column_named (project_at tree) (codes "next_number") ≡ Some 2)
unfolding pipeline
columns_named tree = (refl, refl, refl)

abbrev pub project_of : (db : Database) (world : World) → Refines db world → HasProject db.schema
project_of db world s = record {
  at = (s.tables.each the_table.Project tt).0;
  table = project_at (s.trees the_table.Project);
  found = (s.tables.each the_table.Project tt).1;
  one = (0, may (codes "one") Integer, (columns_named (s.trees the_table.Project)).0, refl);
  version = (1, needs (codes "version") Integer, (columns_named (s.trees the_table.Project)).1, refl);
  next_number = (2, needs (codes "next_number") Integer, (columns_named (s.trees the_table.Project)).2, refl);
}

pub project_row : (db : Database) (world : World) (s : Refines db world) → AreOfVersion (rows_of_project db (project_of db world s)) world.version
project_row db world s = (number world.next_number, rw s.rows.project refl)

-- ---- over any table of the name with the three columns

module _ (old new : State) (has : HasProject old.now.schema) where
  all_shown : (rows : List Row) → showing (version_shows old.now.schema has) [] (meeting [] [] rows) ≡ map (project_cells has.table has.one.0 has.version.0 has.next_number.0) rows
  all_shown [] = refl
  all_shown (row ∷ rows) = ap (λ more. project_cells has.table has.one.0 has.version.0 has.next_number.0 row ∷ more) (all_shown rows)

  pub version_found : (rows : List Row) → Shown version_text [] old new rows → IsPermutation (rows_of_project old.now has) rows
  version_found rows h =
      let answers = shown_answers version_text [] old new _ _ _ (version_reads old.now.schema has) rows h in
      subst (λ all. IsPermutation all rows) (all_shown (old.now.trees has.table.tree)) (answers_are has.table.tree [] (version_shows old.now.schema has) [] old.now rows has.found.low answers)

  pub version_told : old.step_limit ≡ None → (e : Error) → FailsToQuery version_text [] old new e → IsFailure (fault_of e)
  version_told unlimited e =
      query_told version_text [] old new version_parsed (version_query old.now.schema has) (version_names old.now.schema has) (version_reads old.now.schema has) (omega arith) refl
      (version_accepted old.now.schema has) (never_over has.table.tree (version_query old.now.schema has) version_tests (version_shows old.now.schema has) old.now.trees [] refl refl) unlimited e

-- so it is not refused for want of them
pub has_understood : (schema : Schema) → HasProject schema → ¬ LacksProject schema
has_understood schema has lacks = absurd (let no = sym lacks.1 ∙ (version_reads schema has).known in cc)

-- ---- whatever the schema

-- a refusal that is no failure of the store leaves the connection as it was
pub query_serves : (text : List ℕ) → IsSelect text → (params : Row) (old new : State) (e : Error) → FailsToQuery text params old new e → fault_of e ≡ NotAProject → IsUnchanged old new
unfolding FailsToQuery
query_serves text it params old new e (inl h) is = serves_after old new text params e h is
query_serves text it params old new e (inr h) is =
    let none = shows_none old.now.schema text it h.0 h.1.is in
    let failed = subst (λ r. FailsToShow old new text h.0 (timed params h.0.formats h.1.now) e r) none h.2 in
    failed.3

-- ---- which errors tell that something is missing

module _ (fault : CompileError) (e : Error) (is : e ≡ SqlInputError fault) where
  never_store : (cause : StoreError) → ¬ (e ≡ store_error cause)
  never_store kind.OutOfMemory h = absurd (let no = sym is ∙ h in cc)
  never_store _ h = absurd (let no = sym is ∙ h in cc)

  never_query : (limit : Option ℕ) (db : Database) (p : Program) (params : Row) → ¬ RefusesQuery limit db p params e
  never_query limit db p params (inl typed) = absurd (let no = sym is ∙ typed.0 in cc)
  never_query limit db p params (inr (inl over)) = absurd (let no = sym is ∙ over.0 in cc)
  never_query limit db p params (inr (inr limited)) = absurd (let no = sym is ∙ limited.0 in cc)

  never_other : ¬ (e ≡ InvalidQuery)
  never_other h = absurd (let no = sym is ∙ h in cc)

  never_read : (limit : Option ℕ) (c : Command) (db : Database) (params : Row) → ¬ RefusesToRead limit c db params e
  never_read limit (command.Select q names) db params h = never_query limit db q params h
  never_read limit (command.Rows values width names) db params h = absurd (let no = sym is ∙ h.0 in cc)
  never_read limit _ db params h = never_other h

same_text : (a b : CompileError) → ◌≡◌ {A = Error} (SqlInputError a) (SqlInputError b) → a ≡ b
same_text a b h = cc

module _ (text : List ℕ) (it : IsSelect text) (params : Row) (old new : State) (e : Error) (fault : CompileError) (is : e ≡ SqlInputError fault) where
  -- an error of the compiler is the compiler's
  pub query_text : FailsToQuery text params old new e → understood old.now.schema text ≡ Err fault
  unfolding FailsToQuery IsNotRun
  query_text (inl (inl none)) = elim none.0 [
    | inl h ↦ h.1 ∙ ap Err (same_text h.0 fault (sym h.2 ∙ is))
    | inr (c, known, inl longer) ↦ absurd (let no = sym is ∙ longer.1 in cc)
    | inr (c, known, inr (inl other)) ↦ absurd (let no = sym is ∙ other.1 in cc)
    | inr (c, known, inr (inr clock)) ↦ absurd (let no = sym is ∙ clock.1 in cc)
  ]
  query_text (inl (inr failed)) = absurd (never_store fault e is failed.0 failed.1)
  query_text (inr h) =
      let none = shows_none old.now.schema text it h.0 h.1.is in
      let failed = subst (λ r. FailsToShow old new text h.0 (timed params h.0.formats h.1.now) e r) none h.2 in
      absurd (never_read fault e is old.step_limit h.0.command failed.0 (timed params h.0.formats h.1.now) failed.2)

pub version_missing : (old new : State) (e : Error) → FailsToQuery version_text [] old new e → TellsMissing e → LacksProject old.now.schema
version_missing old new e h m = (m.0, query_text version_text version_selects [] old new e m.0 m.1 h, m.2)

-- ---- what the question is answered with

pub version_answered : (old new : State) (rows : List Row) → Shown version_text [] old new rows → IsVersionAnswer old.now rows
unfolding Shown
version_answered old new rows h =
    let none = shows_none old.now.schema version_text version_selects h.0 h.1.is in
    let read = subst (λ r. ShowsRows old new version_text h.0 (timed [] h.0.formats h.1.now) rows r) none h.2 in
    (h.0, h.1.is, read.0, read.1, timed [] h.0.formats h.1.now, read.2)

pub answered_there : (db : Database) (rows : List Row) → IsVersionAnswer db rows → ¬ LacksProject db.schema
answered_there db rows it lacks = absurd (let no = sym lacks.1 ∙ it.1 in cc)

-- ---- no table of the name

same_fault : {X E : Type 0} {a b : E} → ◌≡◌ {A = Result X E} (Err a) (Err b) → a ≡ b
same_fault e = cc

-- where nothing has the name, the question is refused for want of the table
pub free_lacks : (schema : Schema) → IsFree schema (codes "project") → LacksProject schema
free_lacks schema free = (NoSuchTable, free_understood schema free, inl refl)

module _ (old new : State) (lacks : LacksProject old.now.schema) where
  unknown : understood old.now.schema version_text ≡ Err lacks.0
  unknown = lacks.1

  pub version_absent : (e : Error) → FailsToQuery version_text [] old new e → TellsMissing e ⊎ IsFailure (fault_of e)
  unfolding FailsToQuery IsNotRun
  version_absent e (inl (inl none)) = elim none.0 [
    | inl h ↦ let same : lacks.0 ≡ h.0 = same_fault (sym unknown ∙ h.1) in inl (h.0, h.2, subst IsMissing same lacks.2)
    | inr h ↦ absurd (let no = sym unknown ∙ h.1 in cc)
  ]
  version_absent e (inl (inr failed)) = inr (failed_told old new ⊥ e failed)
  version_absent e (inr h) = absurd (let no = sym unknown ∙ h.1.is in cc)

-- ---- from the rows to the version

pub one_version : (rows : List Row) (a b : ℕ) → AreOfVersion rows a → AreOfVersion rows b → a ≡ b
one_version rows a b x y = let same = sym x.1 ∙ y.1 in cc

-- one row in another order is the same row
pub of_answer : (all rows : List Row) (version : ℕ) → IsPermutation all rows → AreOfVersion all version → AreOfVersion rows version
of_answer all rows version same of = (of.0, one_permutation _ rows (subst (λ rs. IsPermutation rs rows) of.1 same))

pub of_table : (all rows : List Row) (version : ℕ) → IsPermutation all rows → AreOfVersion rows version → AreOfVersion all version
of_table all rows version same of = of_answer rows all version (IsPermutation-sym all rows same) of

-- the version that was read is that of the rows
pub same_version : (rows slice : List Row) → slice ≡ rows → (found : Option ℕ) → (v : ℕ) × (found ≡ Some v) × (1 ≤ v) × AreOfVersion slice v → (version : ℕ) → found ≡ Some version → AreOfVersion rows version
same_version rows slice is found (v, at, positive, of) version told =
    let same : v ≡ version = let e = sym at ∙ told in cc in
    subst (λ n. AreOfVersion rows n) same (subst (λ rs. AreOfVersion rs v) is of)

module _ (all rows slice : List Row) (is : slice ≡ rows) (same : IsPermutation all rows) where
  -- what was read is of the table
  pub rows_stored : (found : Option ℕ) → (version : ℕ) × (found ≡ Some version) × (1 ≤ version) × AreOfVersion slice version → (version : ℕ) × (found ≡ Some version) × ((1 ≤ version) × AreOfVersion all version)
  rows_stored found (version, at, positive, read) = (version, at, (positive, of_table all rows version same (subst (λ rs. AreOfVersion rs version) is read)))

  -- and nothing else is refused
  pub rows_refused : (r : Result (Option ℕ) Fault) (version : ℕ) → (1 ≤ version) × AreOfVersion all version → ((version : ℕ) → 1 ≤ version → AreOfVersion slice version → IsOrWantsMemory r (Ok (Some version))) → (fault : Fault) → r ≡ Err fault → IsFailure fault
  rows_refused r version (positive, of) found fault told = elim (found version positive (subst (λ rs. AreOfVersion rs version) (sym is) (of_answer all rows version same of))) [
    | inl ok ↦ absurd (let no = sym told ∙ ok in cc)
    | inr memory ↦ inl (same_fault (sym told ∙ memory))
  ]

-- of a world
pub stored_is : (db : Database) (world : World) (s : Refines db world) (found : Option ℕ) → (version : ℕ) × (found ≡ Some version) × HasVersion db (project_of db world s) version → found ≡ Some world.version
stored_is db world s found (version, at, (positive, of)) = at ∙ ap Some (one_version _ version world.version of (project_row db world s))

-- what holds of each fault that the result may be holds of its fault
pub each_fault : {T E : Type 0} (r : Result T E) (P : E → Type 0) → ((fault : E) → r ≡ Err fault → P fault) → IfErr r P
each_fault (Ok found) P holds = tt
each_fault (Err fault) P holds = holds fault refl

-- ---- what the answer and the error are told as

pub fault_of_missing : (e : Error) → TellsMissing e → fault_of e ≡ NotAProject
fault_of_missing e (fault, is, inl table) = rw (is, table) refl
fault_of_missing e (fault, is, inr column) = rw (is, column) refl

pub row_fault : (fault : Fault) → (fault ≡ Memory) ⊎ (fault ≡ NotAProject) → IsStoreFault fault
row_fault fault (inl memory) = inl memory
row_fault fault (inr refused) = inr (inr refused)

pub row_never_broken : {T : Type 0} (r : Result T Fault) → IfErr r (λ fault. (fault ≡ Memory) ⊎ (fault ≡ NotAProject)) → r ≢ Err Broken
row_never_broken (Ok x) h is = absurd cc
row_never_broken (Err fault) (inl memory) is = absurd cc
row_never_broken (Err fault) (inr refused) is = absurd cc
