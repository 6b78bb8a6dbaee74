-- From question to question.
use Rattle.wu_schema.proofs.Words.{Database, Err, Fault, Ghosts, HasCleanDisk, HasTables, Held, IfErr, IfOk, IsErrAnd, None, Ok, Option, ProjectTrees, Refines, Result, Schema, Some, World, arith, inl, inr, refl, state, subst, sym, ℕ, ◌∙◌, ◌≡◌, ◌⊎◌}
use Rattle.sqlite.specs.State.{IsLive}
use Rattle.std.specs.Prelude.{IfSome}
use Rattle.std.proofs.lemmas.Result.{IfOk-weaker}
use Rattle.wu_core.specs.declared.fault.Fault.TheVariants.{Memory, NotAProject}
use Rattle.wu_loader.specs.Asked.{IsAnsweredUnlessFailed, LooksAtTables}
use Rattle.wu_loader.specs.Finding.{LoadsTables}
use Rattle.wu_schema.specs.Faults.{IsFailure, IsStoreFault}
use Rattle.wu_store.specs.StandsFor.{IsQueued}
use Rattle.wu_loader.specs.declared.finding.Found.{Found}
use Rattle.wu_loader.specs.declared.finding.Found.TheVariants as found
use Rattle.wu_loader.specs.declared.finding.WrongRow.{WrongRow}
use Rattle.wu_loader.specs.declared.totals.OtherSums.{OtherSums}
use Rattle.wu_loader.specs.Totals.{ShowsOtherSums}
use Rattle.wu_loader.proofs.LookLemmas.{memory_other}
use Rattle.wu_loader.proofs.TotalLemmas.{shown_sums}
use Rattle.wu_schema.specs.Asking.{Asks, ServesUnlessFailed}
use Rattle.wu_schema.proofs.AskingLemmas.{asks_fault, asks_made, asks_none, asks_now, asks_then, asks_unchanged}
use Rattle.wu_store.specs.Loading.{StaysUnlessFailed}
use Rattle.wu_store.proofs.AskLemmas.{never_err}
use Rattle.sqlite_trees.specs.View.{IsShaped}
use Rattle.sqlite_trees.specs.declared.store.Shape.TheVariants as shape
use Rattle.wu_schema.specs.Fresh.{project_names}
use Rattle.wu_schema.specs.Made.{AreFree}
use Rattle.wu_tables.specs.Found.{HasQueueIn, IsFirstMisfit, IsMisfitOf}
use Rattle.wu_tables.specs.Upgrades.{IsFirstTaken}
use Rattle.wu_tables.specs.declared.project.Misfit.{Misfit}
use Rattle.wu_schema.specs.Tables.{IsClassedVersion}
use Rattle.wu_check.specs.declared.finding.Finding.{Finding}
use Rattle.wu_check.specs.Queues.{HasMarks, LooksInQueue}
use Rattle.wu_check.specs.Examining.{unless_refused, Examines, IsLegible}
use Rattle.wu_check.specs.Findings.{FindsOfTables, HasFirstTables, HasHostOfOtherSums, HasWrongRow, HasWrongTables, LacksTables, Tells}
use Rattle.wu_check.specs.Versions.{IsReadVersion}
use Rattle.wu_check.specs.declared.finding.Finding.TheVariants as finding
use Rattle.wu_schema.specs.declared.table.ProjectTable.TheVariants as the_table

module _ {S : Type 0} (g : Ghosts S) (h : Held S) where
  -- what is known with no question
  pub examines_none : {T : Type 0} (x : T) (Is : Database → T → Type 0) → Is (state g h).now x → Examines g h h (Ok x) Is
  examines_none x Is it = record {
    asks = asks_none g h (Ok x) (never_err x);
    says = λ clean legible. it;
    fault = tt;
    answered = λ clean unlimited. tt;
  }

  -- want of memory, with no question
  pub examines_memory : {T : Type 0} (Is : Database → T → Type 0) (fault : Fault) → fault ≡ Memory → (r : Result T Fault) → IsErrAnd r (λ other. other ≡ fault) → Examines g h h r Is
  examines_memory Is fault is (Ok y) same = absurd same
  examines_memory {T} Is fault is (Err other) same = subst (λ (f : Fault). Examines {T = T} g h h (Err f) Is) (sym (same ∙ is)) (record {
    asks = asks_none g h (Err Memory) memory_other;
    says = λ clean legible. tt;
    fault = inl refl;
    answered = λ clean unlimited. inl refl;
  })

  -- a connection that nothing is asked of stays as it is
  pub stays_none : {T : Type 0} (r : Result T Fault) → StaysUnlessFailed g h h r
  stays_none (Ok x) was clean = was
  stays_none (Err fault) was clean = inr was

module _ {S T : Type 0} (g : Ghosts S) (a b : Held S) (Is : Database → T → Type 0) where
  -- what is made of an answer
  pub examines_made : {U : Type 0} (x : T) (y : U) (Then : Database → U → Type 0) → (Is (state g a).now x → Then (state g a).now y) → Examines g a b (Ok x) Is → Examines g a b (Ok y) Then
  examines_made x y Then made it = record {
    asks = asks_made g a b x (Ok y) (never_err y) it.asks;
    says = λ clean legible. made (it.says clean legible);
    fault = tt;
    answered = λ clean unlimited. tt;
  }

  -- the same, with what the schema is afterwards
  pub examines_seen : {U : Type 0} (x : T) (y : U) (Then : Database → U → Type 0) → ((state g b).now ≡ (state g a).now → Is (state g a).now x → Then (state g a).now y) → Examines g a b (Ok x) Is → Examines g a b (Ok y) Then
  examines_seen x y Then made it = record {
    asks = asks_made g a b x (Ok y) (never_err y) it.asks;
    says = λ clean legible. made (asks_now g a b x it.asks clean) (it.says clean legible);
    fault = tt;
    answered = λ clean unlimited. tt;
  }

  -- a fault that is handed on
  pub examines_fault : {U : Type 0} (fault : Fault) (Then : Database → U → Type 0) → Examines g a b (Err fault) Is → (r : Result U Fault) → IsErrAnd r (λ other. other ≡ fault) → Examines g a b r Then
  examines_fault fault Then it (Ok y) same = absurd same
  examines_fault fault Then it (Err other) same = subst (λ f. Examines g a b (Err f) Then) (sym same) (record {
    asks = asks_fault g a b fault it.asks;
    says = λ clean legible. tt;
    fault = it.fault;
    answered = it.answered;
  })

module _ {S T U : Type 0} (g : Ghosts S) (a b c : Held S) (x : T) (Is : Database → T → Type 0) (one : Examines g a b (Ok x) Is) (r : Result U Fault) (Then : Database → U → Type 0) (two : Examines g b c r Then) where
  before : HasCleanDisk (state g c) → HasCleanDisk (state g b)
  before clean = omega (arith, two.asks.crash.clean)

  same : HasCleanDisk (state g c) → (state g b).now ≡ (state g a).now
  same clean = asks_now g a b x one.asks (before clean)

  -- one question after another
  pub examines_then : (Last : Database → U → Type 0) → ((y : U) → Is (state g a).now x → Then (state g a).now y → Last (state g a).now y) → Examines g a c r Last
  examines_then Last join = record {
    asks = asks_then g a b c x one.asks r two.asks;
    says = λ clean legible.
        IfOk-weaker r _ _ (λ y then. join y (one.says (before clean) legible) then)
        (subst (λ (db : Database). IfOk r (Then db)) (same clean) (two.says clean (subst IsLegible (sym (same clean)) legible)));
    fault = two.fault;
    answered = λ clean unlimited. two.answered clean (one.asks.crash.limit ∙ unlimited);
  }

-- a connection that was open after an answer stays open
pub serves_then : {S T U : Type 0} (g : Ghosts S) (b c : Held S) (x : T) (r : Result U Fault) → (HasCleanDisk (state g c) → HasCleanDisk (state g b)) → ServesUnlessFailed g b (Ok x) → StaysUnlessFailed g b c r → ServesUnlessFailed g c r
serves_then g b c x r before opened stays clean = stays (opened (before clean)) clean

-- ---- the world that is loaded

abbrev pub Finds : Database → Found → Type 0
Finds db (found.World world) = Refines db world
Finds db (found.Wrong wrong) = Tells db (finding.Row wrong)

-- the same, where this is the version of the project
abbrev pub FindsOf : ℕ → Database → Found → Type 0
FindsOf version db found = IsReadVersion db version → Finds db found

-- so is what is told of it
abbrev pub TellsOfVersion : ℕ → Database → Finding → Type 0
TellsOfVersion version db finding = IsReadVersion db version → Tells db finding

module _ {S : Type 0} (version : ℕ) (g : Ghosts S) (a b : Held S) (trees : ProjectTrees) (tables : HasTables version (state g a).now.schema trees) where
  says_found : (r : Result Found Fault) → LoadsTables version g a b r → HasCleanDisk (state g b) → IsLegible (state g a).now → IfOk r (FindsOf version (state g a).now)
  says_found (Ok (found.World world)) it clean legible = λ told. it.looks.says clean trees (record { tables = tables; arranged = legible.project version told.stands trees tables }) (legible.workunits (trees the_table.Workunit) (tables.each the_table.Workunit tt))
  says_found (Ok (found.Wrong wrong)) it clean legible = λ told. record {
    version = version;
    read = told;
    trees = trees;
    there = tables;
    shown = it.looks.says clean trees (record { tables = tables; arranged = legible.project version told.stands trees tables });
    none = λ world readable stands. it.none clean world readable (told.stands world stands) stands;
  }
  says_found (Err fault) it clean legible = tt

  pub examines_world : (r : Result Found Fault) → LoadsTables version g a b r → Examines g a b r (FindsOf version)
  examines_world r it = record {
    asks = it.looks.asks;
    says = says_found r it;
    fault = it.looks.fault;
    answered = λ clean unlimited. it.looks.answered clean trees tables unlimited;
  }

-- ---- the row that is wrong

-- if this row is the first wrong one, the finding is true
abbrev pub TellsOfRow : WrongRow → Database → Finding → Type 0
TellsOfRow wrong db found = HasWrongRow db wrong → Tells db found

-- what is found in place of it, if it is that of a host
abbrev pub SumsIn : WrongRow → Database → Option OtherSums → Type 0
SumsIn wrong db found = HasWrongRow db wrong → IfSome found (HasHostOfOtherSums db)

never_failed : IsFailure NotAProject → ⊥
never_failed (inl is) = absurd cc
never_failed (inr is) = absurd cc

module _ {S : Type 0} (g : Ghosts S) (a b : Held S) where
  abbrev LooksForSums : Result (Option OtherSums) Fault → Type 0
  LooksForSums r = (version : ℕ) → LooksAtTables version g a b r (λ db trees found. IfSome found (ShowsOtherSums db.trees trees))

  says_sums : (wrong : WrongRow) → wrong.table ≡ the_table.Host → (found : Option OtherSums) → LooksForSums (Ok found) → HasCleanDisk (state g b) → IsLegible (state g a).now → SumsIn wrong (state g a).now found
  says_sums wrong of_host None it clean legible row = tt
  says_sums wrong of_host (Some sums) it clean legible row =
      let db = (state g a).now in
      let shows = (it row.version).says clean row.trees (record { tables = row.there; arranged = legible.project row.version row.read.stands row.trees row.there }) in
      let both = shown_sums row.version db row.trees wrong of_host row.shown sums shows in
      record {
        place = shows.place;
        row = record { version = row.version; read = row.read; trees = row.trees; there = row.there; shown = both.0; none = row.none };
        host = both.1;
      }

  asks_unless_refused : (r : Result (Option OtherSums) Fault) → Asks g a b r → Asks g a b (unless_refused r)
  asks_unless_refused (Err NotAProject) it = record { mode = it.mode; crash = it.crash; answered = λ clean. elim (it.refused clean) [ inl failed ↦ absurd (never_failed failed) | inr same ↦ same ]; refused = λ clean. tt; back = it.back; broken = λ clean is. absurd cc }
  asks_unless_refused r it = it

  failed_only : (r : Result (Option OtherSums) Fault) → IfErr r IsStoreFault → IfErr (unless_refused r) IsFailure
  failed_only (Ok found) told = tt
  failed_only (Err NotAProject) told = tt
  failed_only (Err fault) (inl is) = inl is
  failed_only (Err fault) (inr (inl is)) = inr is
  failed_only (Err fault) (inr (inr is)) = absurd cc

  pub examines_sums : (wrong : WrongRow) → wrong.table ≡ the_table.Host → (r : Result (Option OtherSums) Fault) → LooksForSums r → Examines g a b (unless_refused r) (SumsIn wrong)
  examines_sums wrong of_host r it = record {
    asks = asks_unless_refused r (it 1).asks;
    says = says r it;
    fault = failed r (it 1).fault;
    answered = λ clean unlimited. failed_only r (it 1).fault;
  }
    where
      says : (r : Result (Option OtherSums) Fault) → LooksForSums r → HasCleanDisk (state g b) → IsLegible (state g a).now → IfOk (unless_refused r) (SumsIn wrong (state g a).now)
      says (Ok found) it clean legible = says_sums wrong of_host found it clean legible
      says (Err NotAProject) it clean legible = λ row. tt
      says (Err fault) it clean legible = tt

      failed : (r : Result (Option OtherSums) Fault) → IfErr r IsStoreFault → IfErr (unless_refused r) IsStoreFault
      failed (Ok found) told = tt
      failed (Err NotAProject) told = tt
      failed (Err fault) told = told

  pub sums_open : (r : Result (Option OtherSums) Fault) → LooksForSums r → ServesUnlessFailed g b (unless_refused r)
  sums_open (Ok found) it = (it 1).opens
  sums_open (Err NotAProject) it = λ clean. elim ((it 1).opens clean) [ inl failed ↦ absurd (never_failed failed) | inr still ↦ still ]
  sums_open (Err fault) it = (it 1).opens

module _ {S : Type 0} (version : ℕ) (g : Ghosts S) (a b c : Held S) (loaded : Found) (wrong : WrongRow) (is : loaded ≡ found.Wrong wrong) (one : Examines g a b (Ok loaded) (FindsOf version)) where
  -- what is told of the row that was found
  pub examines_row : (r : Result Finding Fault) → Examines g b c r (TellsOfRow wrong) → Examines g a c r (TellsOfVersion version)
  examines_row r two = examines_then g a b c loaded (FindsOf version) one r (TellsOfRow wrong) two (TellsOfVersion version) (λ y found then told. then (subst (FindsOf version (state g a).now) is found told))

  -- or that the project is of a later version
  pub examines_later : (d : Held S) (told : Finding) → Examines g b c (Ok told) (TellsOfRow wrong) → (r : Result Finding Fault) → Examines g c d r (λ db found. Tells db told → Tells db found) → Examines g a d r (TellsOfVersion version)
  examines_later d told two r three = examines_then g a c d told (TellsOfVersion version) (examines_row (Ok told) two) r (λ db found. Tells db told → Tells db found) three (TellsOfVersion version) (λ y was then read. then (was read))

-- ---- the version that is told

module _ {S : Type 0} (g : Ghosts S) (a b : Held S) (trees : ProjectTrees) (tables : HasTables 1 (state g a).now.schema trees) where
  says_version : (r : Result ℕ Fault) → LooksAtTables 1 g a b r (λ db trees version. IsReadVersion db version) → HasCleanDisk (state g b) → IsLegible (state g a).now → IfOk r (IsReadVersion (state g a).now)
  says_version (Ok version) it clean legible = it.says clean trees (record { tables = tables; arranged = legible.plain trees tables })
  says_version (Err fault) it clean legible = tt

  pub examines_version : (r : Result ℕ Fault) → LooksAtTables 1 g a b r (λ db trees version. IsReadVersion db version) → Examines g a b r IsReadVersion
  examines_version r it = record {
    asks = it.asks;
    says = says_version r it;
    fault = it.fault;
    answered = λ clean unlimited. it.answered clean trees tables unlimited;
  }

-- ---- the rows of the queue

module _ {S : Type 0} (g : Ghosts S) (a b : Held S) (world : World) (queued : IsQueued world) (tree : ℕ) (has : HasQueueIn (state g a).now.schema tree) (live : IsLive (state g a)) where
  abbrev pub MarksIn : Database → Option ℕ → Type 0
  MarksIn db found = Refines db world → IsShaped shape.Table (db.trees tree) × HasMarks world (db.trees tree) found

  says_marks : (r : Result (Option ℕ) Fault) → LooksInQueue g a b r (HasMarks world) → HasCleanDisk (state g b) → IsLegible (state g a).now → IfOk r (MarksIn (state g a).now)
  says_marks (Ok found) it clean legible = λ stands.
      let kept = legible.queue world stands queued tree has.table in (
        kept.ordered,
        it.says clean tree (record {
          sound = (live (asks_unchanged g a b found it.asks it.opens clean).0.was_open).0;
          table = has.table;
          kept = kept;
        }),
      )
  says_marks (Err fault) it clean legible = tt

  pub examines_marks : (r : Result (Option ℕ) Fault) → LooksInQueue g a b r (HasMarks world) → Examines g a b r MarksIn
  examines_marks r it = record {
    asks = it.asks;
    says = says_marks r it;
    fault = it.fault;
    answered = λ clean unlimited. it.answered clean tree has.table unlimited;
  }

-- ---- the tables that are not there

pub lacks : (version : ℕ) (db : Database) (schema : Schema) → schema ≡ db.schema → (misfit : Misfit) → (version ≡ 1) ⊎ HasFirstTables db version → IsFirstMisfit version schema misfit → ((trees : ProjectTrees) → HasTables version schema trees → ⊥)
    → ((world : World) → Refines db world → IsClassedVersion version → IsClassedVersion world.version) → LacksTables db misfit
lacks version db schema same misfit which told none needed = record {
  version = version;
  which = which;
  told = subst (λ (s : Schema). IsFirstMisfit version s misfit) same told;
  none = subst (λ (s : Schema). (trees : ProjectTrees) → HasTables version s trees → ⊥) same none;
  needed = needed;
}

-- where the tables of version 1 are there, so is the table `project`
pub first_there : (version : ℕ) (db : Database) (misfit : Misfit) → HasFirstTables db version → LacksTables db misfit → HasWrongTables db misfit
first_there version db misfit first lacks = record {
  lacks = lacks;
  room = λ missing. absurd (
      let there = (first.there.each the_table.Project tt).1.named in
      let none = (subst (IsMisfitOf lacks.version db.schema) missing lacks.told.wrong).1 in
      cc);
}

-- what is found of the tables is true
pub told_of_tables : (db : Database) (schema : Schema) → schema ≡ db.schema → (misfit : Misfit) → LacksTables db misfit → (found : Finding) → FindsOfTables schema misfit found → Tells db found
told_of_tables db schema same misfit lacks (finding.Tables other) (is, room) = record {
  lacks = subst (LacksTables db) (sym is) lacks;
  room = λ missing. subst (λ (s : Schema). AreFree s project_names) same (room (sym is ∙ missing));
}
told_of_tables db schema same misfit lacks (finding.Barred name) (is, taken) =
    let none = subst (LacksTables db) is lacks in
    record { lacks = none; missing = none.told.wrong.1; taken = subst (λ (s : Schema). IsFirstTaken s project_names name.now) same taken }
told_of_tables db schema same misfit lacks (finding.Row wrong) is = absurd is
told_of_tables db schema same misfit lacks (finding.Sums sums) is = absurd is
told_of_tables db schema same misfit lacks (finding.Version version) is = absurd is
told_of_tables db schema same misfit lacks (finding.World wrong row) is = absurd is
told_of_tables db schema same misfit lacks finding.Queue is = absurd is
told_of_tables db schema same misfit lacks (finding.Marks place) is = absurd is
told_of_tables db schema same misfit lacks (finding.Taken version name) is = absurd is
