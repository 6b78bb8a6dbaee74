-- A later version is told before all else.
use Rattle.wu_schema.proofs.Words.{Database, Ghosts, HasProject, HasVersion, Fault, Held, IfOk, IsFailure, List, NotAProject, Ok, Option, Refines, Result, Some, Table, World, ap, arith, codes, column_named, inl, inr, map, refl, slice_get, state, subst, sym, ℕ, ◌<◌, ◌∙◌, ◌≡◌}
use Rattle.std.specs.Prelude.{IfSome}
use Rattle.wu_machine.specs.Machine.{present_version}
use Rattle.wu_schema.proofs.AskingLemmas.{asks_now}
use Rattle.wu_schema.proofs.VersionLemmas.{project_of, project_row, one_version}
use Rattle.wu_schema.specs.Asking.{Asks}
use Rattle.wu_schema.specs.Calls.{OnAnswer}
use Rattle.wu_schema.specs.Versions.{project_cells, rows_of_project, AnswersVersion, AreOfVersion, HasColumn, RefusesVersion}
use Rattle.wu_check.specs.Checking.{IsKnownVersion}
use Rattle.wu_check.specs.Findings.{HasOtherVersion, TellsLaterFirst, TellsUnknown}
use Rattle.wu_check.specs.Versions.{IsVersionOf}
use Rattle.wu_check.specs.declared.finding.Finding.{Finding}
use Rattle.wu_check.specs.declared.finding.Finding.TheVariants as finding

same_some : {X : Type 0} {x y : X} → Some x ≡ Some y → x ≡ y
same_some e = cc

-- ---- what the question about the version answers

pub told_is : (db : Database) (found : Option ℕ) → AnswersVersion db found → (has : HasProject db.schema) (version : ℕ) → HasVersion db has version → found ≡ Some version
told_is db found answers has version (positive, of) = go (answers.of_row has)
  where
    go : (v : ℕ) × (found ≡ Some v) × HasVersion db has v → found ≡ Some version
    go (v, at, (first, there)) = at ∙ ap Some (one_version (rows_of_project db has) v version there of)

pub told_later : (limit : Option ℕ) (db : Database) (v : ℕ) → AnswersVersion db (Some v) → TellsLaterFirst limit db (finding.Version v)
told_later limit db v answers unlimited has version told later = ap finding.Version (same_some (told_is db (Some v) answers has version told))

-- none is later where that is no version, or one that is known
pub known_later : (limit : Option ℕ) (db : Database) (found : Option ℕ) → AnswersVersion db found → IfSome found IsKnownVersion → (what : Finding) → TellsLaterFirst limit db what
known_later limit db found answers known what unlimited has version told later =
    absurd (let it : IsKnownVersion version = subst (λ (o : Option ℕ). IfSome o IsKnownVersion) (told_is db found answers has version told) known in let low = it.present in omega (arith, low, later))

-- nor where the question is refused
pub refused_later : (limit : Option ℕ) (db : Database) → RefusesVersion limit db NotAProject → (what : Finding) → TellsLaterFirst limit db what
refused_later limit db refuses what unlimited has version told later = absurd (never (refuses.of_row has version told unlimited))
  where
    never : IsFailure NotAProject → ⊥
    never (inl memory) = absurd cc
    never (inr broken) = absurd cc

-- ---- from question to question

pub later_then : {S T U : Type 0} (g : Ghosts S) (a b c : Held S) (x : T) → Asks g a b (Ok x) → (r : Result U Fault) → Asks g b c r → (Is : Option ℕ → Database → U → Type 0) → OnAnswer g b c r (Is b.step_limit) → OnAnswer g a c r (Is a.step_limit)
later_then g a b c x one r two Is says clean =
    subst (λ (limit : Option ℕ). IfOk r (Is limit (state g a).now)) one.crash.limit
    (subst (λ (db : Database). IfOk r (Is b.step_limit db)) (asks_now g a b x one (omega (arith, clean, two.crash.clean))) (says clean))

-- ---- over a world that the tables stand for

-- the table of a project is one, and so are its rows
same_rows : (db : Database) (one other : HasProject db.schema) → rows_of_project db one ≡ rows_of_project db other
same_rows db one other =
    let at : one.at ≡ other.at = same_some (sym one.found.named ∙ other.found.named) in
    let table : one.table ≡ other.table = same_some (sym one.found.there ∙ ap (slice_get db.schema.tables) at ∙ other.found.there) in
    let same = λ (name : List ℕ) (a : HasColumn one.table name) (b : HasColumn other.table name). column name one.table other.table table a b in
    λ i. map (project_cells (table i) (same (codes "one") one.one other.one i) (same (codes "version") one.version other.version i) (same (codes "next_number") one.next_number other.next_number i)) (db.trees (table i).tree)
  where
    column : (name : List ℕ) (s t : Table) → s ≡ t → (a : HasColumn s name) (b : HasColumn t name) → a.0 ≡ b.0
    column name s t is a b = same_some (sym a.2 ∙ ap (λ (u : Table). column_named u name) is ∙ b.2)

version_is : (db : Database) (world : World) → Refines db world → (has : HasProject db.schema) (version : ℕ) → HasVersion db has version → version ≡ world.version
version_is db world stands has version (positive, of) =
    one_version (rows_of_project db (project_of db world stands)) version world.version (subst (λ rows. AreOfVersion rows version) (same_rows db has (project_of db world stands)) of) (project_row db world stands)

unknown : (version : ℕ) → present_version < version → ¬ IsKnownVersion version
unknown version later known = let low = known.present in omega (arith, low, later)

-- what is told of a world of a later version is that version
pub judged_later : (limit : Option ℕ) (db : Database) (world : World) → Refines db world → (found : Option Finding) → TellsUnknown world found → (what : Finding) → found ≡ Some what → TellsLaterFirst limit db what
judged_later limit db world stands found tells what is unlimited has version told later =
    let same = version_is db world stands has version told in
    let it = tells (subst (λ v. ¬ IsKnownVersion v) same (unknown version later)) in
    same_some (sym is ∙ it) ∙ ap finding.Version (sym same)

-- a world of a known version is of no later one
pub known_world_later : (limit : Option ℕ) (db : Database) (world : World) → Refines db world → IsKnownVersion world.version → (what : Finding) → TellsLaterFirst limit db what
known_world_later limit db world stands known what unlimited has version told later =
    absurd (unknown version later (subst IsKnownVersion (sym (version_is db world stands has version told)) known))

-- ---- another version than this program knows

-- the row of a project that a world stands in has its version
world_row : (db : Database) (world : World) → Refines db world → (has : HasProject db.schema) → AreOfVersion (rows_of_project db has) world.version
world_row db world stands has = subst (λ rows. AreOfVersion rows world.version) (same_rows db (project_of db world stands) has) (project_row db world stands)

pub tells_version : (db : Database) (world : World) → Refines db world → ¬ IsKnownVersion world.version → HasOtherVersion db world.version
tells_version db world stands other = record { row = world_row db world stands; there = inl (project_of db world stands); other = other }

pub tells_row : (db : Database) (version : ℕ) → AnswersVersion db (Some version) → ¬ IsKnownVersion version → HasOtherVersion db version
tells_row db version answers other = record {
  row = λ has. let it = answers.of_row has in subst (λ n. AreOfVersion (rows_of_project db has) n) (sym (same_some it.1)) it.2.1;
  there = inr (answers.told version refl);
  other = other;
}

-- so each world has it
pub other_stands : (db : Database) (version : ℕ) → HasOtherVersion db version → IsVersionOf db version
other_stands db version told world stands =
    let has = project_of db world stands in one_version (rows_of_project db has) world.version version (project_row db world stands) (told.row has)
