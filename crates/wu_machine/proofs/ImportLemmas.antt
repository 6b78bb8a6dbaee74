-- What is imported stays imported, so an import that comes again acts once.
use Rattle.std.proofs.Common.{◌≡◌, ℕ, ◌+◌, length, ◌==◌, nat_lt, Bool, true, false, not, ◌&&◌, if◌then◌else◌, List, [], ◌∷◌, ◌++◌, find, bytes_eq, Option, Some, None, Result, Ok, Err, refl, sym, ap, ◌∙◌, subst, append_assoc, append-nil}
use Rattle.std.proofs.lemmas.Bool.{eq-eqb}
use Rattle.std.proofs.lemmas.List.Folds.{find-append}
use Rattle.std.proofs.lemmas.Cmp.{nat_list_eq_equiv}
use Rattle.std.specs.Option.{option_or}
use Rattle.wu_core.specs.declared.fault.Fault.{Fault}
use Rattle.wu_core.specs.declared.fault.Fault.TheVariants.{BadLimit, NameUsed, OldSchema, UnknownWorkunit, NotOpenToCancel, TooMany}
use Rattle.wu_core.specs.declared.import.ImportKind.{ImportKind}
use Rattle.wu_core.specs.declared.import.ImportKind.TheVariants as kind
use Rattle.wu_core.specs.declared.workunit.HostClass.{HostClass}
use Rattle.wu_core.specs.declared.workunit.Workunit.{Workunit}
use Rattle.wu_core.specs.Codes.{import_kind_code}
use Rattle.wu_core.specs.Limits.{most_workunits}
use Rattle.wu_core.specs.Parameters.{Parameters}
use Rattle.wu_core.specs.World.{World, Import, is_import}
use Rattle.wu_feed.specs.declared.jobs.Job.{Job}
use Rattle.wu_feed.specs.Classes.{classes_of_file}
use Rattle.wu_feed.specs.Jobs.{jobs_of_file}
use Rattle.wu_feed.specs.Templates.{template_of}
use Rattle.wu_feed.specs.Reports.{reports_of_file}
use Rattle.wu_feed.specs.Sends.{sends_of_file}
use Rattle.wu_rules.specs.Counts.{is_undecided}
use Rattle.wu_rules.specs.Cancelling.{cancelled}
use Rattle.wu_machine.specs.Batches.{jobs_added, unless_taken, first_taken, with_jobs, first_number, all_applied}
use Rattle.wu_machine.specs.Imports.{Done, Given, batch_given, sent_given, reported_given, classes_given, classes_read, import_of, has_content, first_answer, kept_import, keeping, jobs_kept, batch_read, rows_read, newly_imported, imported_after, imported}
use Rattle.wu_machine.specs.Laws.{AnswersAgain, ImportsActOnce}
use Rattle.wu_machine.specs.Machine.{present_version, is_limit_right, cancel_done, done_now, is_upgrade, done, reply_of, world_of, step, fold_steps}
use Rattle.wu_machine.specs.Passes.{passed, handled}
use Rattle.wu_machine.specs.Requests.{Request, AskBatch, AskSent, AskReported, AskClasses, AskPass, AskCancel, AskUpgrade, Reply, Passed, Cancelled}
use Rattle.wu_machine.specs.FileRows.{Rule, after_classes, after_row, after_rows, report_rule, row_verdict, row_verdicts, send_rule}
use Rattle.wu_machine.specs.Worlds.{workunit_named, with_host_class, with_named}

-- the schema is not an older one
abbrev pub IsPresent : World → Type 0
IsPresent world = nat_lt world.version present_version ≡ false

-- imports are only added, and the schema grows no older
pub record Stays (world after : World) : Type 0 where
  pub more : List Import
  pub imports : after.imports ≡ world.imports ++ more
  pub version : IsPresent world → IsPresent after

stays_same : (world after : World) → after.imports ≡ world.imports → after.version ≡ world.version → Stays world after
stays_same world after imports version = record {
  more = [];
  imports = imports ∙ sym (append-nil world.imports);
  version = λ here. subst (λ (v : ℕ). nat_lt v present_version ≡ false) (sym version) here;
}

stays_then : (world middle after : World) → Stays world middle → Stays middle after → Stays world after
stays_then world middle after first second = record {
  more = first.more ++ second.more;
  imports = second.imports ∙ ap (λ (l : List Import). l ++ second.more) first.imports ∙ append_assoc world.imports first.more second.more;
  version = λ here. second.version (first.version here);
}

stays_more : (world after : World) (one : Import) → Stays world after → Stays world (record after { imports = after.imports ++ one ∷ [] })
stays_more world after one stays = stays_then world after (record after { imports = after.imports ++ one ∷ [] }) stays (record {
  more = one ∷ [];
  imports = refl;
  version = λ here. here;
})

-- a result stays where the world that it makes does
abbrev pub StaysBy : World → Result Done Fault → Type 0
StaysBy world result = Stays world (world_of world result)

stays_refused : (world : World) (fault : Fault) → StaysBy world (Err fault)
stays_refused world fault = stays_same world world refl refl

stays_if : (world : World) (b : Bool) (one other : Result Done Fault) → StaysBy world one → StaysBy world other → StaysBy world (if b then one else other)
stays_if world true one other first second = first
stays_if world false one other first second = second

-- the imports and the version are as they were
pub record Same (world after : World) : Type 0 where
  pub imports : after.imports ≡ world.imports
  pub version : after.version ≡ world.version

same_then : (world middle after : World) → Same world middle → Same middle after → Same world after
same_then world middle after first second = record { imports = second.imports ∙ first.imports; version = second.version ∙ first.version }

same_if : (b : Bool) (world after : World) → Same world after → Same world (if b then after else world)
same_if true world after same = same
same_if false world after same = record { imports = refl; version = refl }

same_named : (world : World) (name : List ℕ) (change : Workunit → Workunit) → Same world (with_named world name change)
same_named world name change = record { imports = refl; version = refl }

-- rows of sends and of reports add no import
pub same_rows : {Row : Type 0} → (rule : Rule Row) (world : World) (rows : List Row) → Same world (after_rows rule world rows)
same_rows rule world [] = record { imports = refl; version = refl }
same_rows rule world (row ∷ rows) =
    same_then world (after_row rule world row) (after_rows rule (after_row rule world row) rows)
    (same_if (row_verdict rule world row == 0) world (with_named world (rule.workunit row) (rule.image row)) (same_named world (rule.workunit row) (rule.image row)))
    (same_rows rule (after_row rule world row) rows)

-- rows of classes add none either
pub same_classes : (world : World) (rows : List HostClass) → Same world (after_classes world rows)
same_classes world [] = record { imports = refl; version = refl }
same_classes world (row ∷ rows) =
    same_then world (with_host_class world row) (after_classes (with_host_class world row) rows) (record { imports = refl; version = refl })
    (same_classes (with_host_class world row) rows)

-- jobs add no import
abbrev SameIfOk : World → Result World Fault → Type 0
SameIfOk world (Ok after) = Same world after
SameIfOk world (Err fault) = Unit {0}

same_ok_if : (b : Bool) (world after : World) (fault : Fault) → Same world after → SameIfOk world (if b then Err fault else Ok after)
same_ok_if true world after fault same = tt
same_ok_if false world after fault same = same

same_jobs : (world : World) (params : Parameters) (jobs : List Job) (taken : Option (ℕ × List ℕ)) → SameIfOk world (unless_taken world params jobs taken)
same_jobs world params jobs (Some place) = tt
same_jobs world params jobs None =
    same_ok_if (nat_lt (most_workunits + 1) (world.next_number + length jobs)) world (with_jobs world params jobs) TooMany (record { imports = refl; version = refl })

-- A new import: what it is kept with, over a world with the imports of before, or its refusal.
abbrev New : World → Given → Result Done Fault → Type 0
New world given (Err fault) = Unit {0}
New world given (Ok it) =
    (after : World) × (first : ℕ) × (verdicts : List ℕ) × Same world after × (it ≡ keeping given first verdicts after)

new_jobs : (given : Given) (world : World) (jobs : List Job) (after : Result World Fault) → SameIfOk world after → New world given (jobs_kept given world jobs after)
new_jobs given world jobs (Ok after) same = (after, first_number world jobs, all_applied jobs, same, refl)
new_jobs given world jobs (Err fault) same = tt

new_batch : (given : Given) (world : World) (params : Result Parameters Fault) (jobs : Result (List Job) Fault) → New world given (batch_read given world params jobs)
new_batch given world (Err fault) jobs = tt
new_batch given world (Ok params) (Err fault) = tt
new_batch given world (Ok params) (Ok jobs) =
    new_jobs given world jobs (jobs_added world params jobs) (same_jobs world params jobs (first_taken world jobs))

new_rows : {Row : Type 0} → (rule : Rule Row) (given : Given) (world : World) (rows : Result (List Row) Fault) → New world given (rows_read rule given world rows)
new_rows rule given world (Err fault) = tt
new_rows rule given world (Ok rows) = (after_rows rule world rows, 0, row_verdicts rule world rows, same_rows rule world rows, refl)

new_classes : (given : Given) (world : World) (rows : Result (List HostClass) Fault) → New world given (classes_read given world rows)
new_classes given world (Err fault) = tt
new_classes given world (Ok rows) = (after_classes world rows, 0, all_applied rows, same_classes world rows, refl)

new_import : (world : World) (given : Given) (k : ImportKind) → New world given (newly_imported world given k)
new_import world given kind.Batch = new_batch given world (template_of given.template) (jobs_of_file given.content)
new_import world given kind.Sent = new_rows (send_rule world.classes) given world (sends_of_file given.content)
new_import world given kind.Reported = new_rows report_rule given world (reports_of_file given.content)
new_import world given kind.Classes = new_classes given world (classes_of_file given.content)

stays_by_new : (world : World) (given : Given) (result : Result Done Fault) → New world given result → StaysBy world result
stays_by_new world given (Err fault) new = stays_refused world fault
stays_by_new world given (Ok it) (after, first, verdicts, same, is) =
    subst (λ (d : Done). Stays world d.1) (sym is)
    (stays_more world after (kept_import given first verdicts) (stays_same world after same.imports same.version))

stays_after : (world : World) (given : Given) (found : Option Import) → StaysBy world (imported_after world given found)
stays_after world given (Some import) =
    stays_if world (has_content given import) (Ok (first_answer import, world)) (Err NameUsed) (stays_same world world refl refl) (stays_refused world NameUsed)
stays_after world given None = stays_by_new world given (newly_imported world given given.kind) (new_import world given given.kind)

stays_imported : (world : World) (given : Given) → StaysBy world (imported world given)
stays_imported world given = stays_after world given (import_of world given)

stays_cancel : (world : World) (name : List ℕ) (found : Option Workunit) → StaysBy world (cancel_done world name found)
stays_cancel world name None = stays_refused world UnknownWorkunit
stays_cancel world name (Some w) =
    stays_if world (is_undecided w) (Ok (Cancelled name, with_named world name cancelled)) (Err NotOpenToCancel)
    (stays_same world (with_named world name cancelled) refl refl) (stays_refused world NotOpenToCancel)

stays_now : (world : World) (request : Request) → StaysBy world (done_now world request)
stays_now world (AskBatch name template file) = stays_imported world (batch_given name template file)
stays_now world (AskSent name file) = stays_imported world (sent_given name file)
stays_now world (AskReported name file) = stays_imported world (reported_given name file)
stays_now world (AskClasses name file) = stays_imported world (classes_given name file)
stays_now world (AskPass pass now limit min_age) =
    stays_if world (is_limit_right pass limit min_age) (Ok (Passed pass (handled pass now min_age limit world), passed pass now min_age limit world)) (Err BadLimit)
    (stays_same world (passed pass now min_age limit world) refl refl) (stays_refused world BadLimit)
stays_now world (AskCancel name) = stays_cancel world name (workunit_named world name)
stays_now world AskUpgrade = record { more = []; imports = sym (append-nil world.imports); version = λ here. refl }

pub stays_step : (world : World) (request : Request) → Stays world (step world request)
stays_step world request =
    stays_if world (nat_lt world.version present_version && not (is_upgrade request)) (Err (OldSchema world.version)) (done_now world request)
    (stays_refused world (OldSchema world.version)) (stays_now world request)

pub stays_fold : (world : World) (requests : List Request) → Stays world (fold_steps world requests)
stays_fold world [] = stays_same world world refl refl
stays_fold world (request ∷ more) =
    stays_then world (step world request) (fold_steps (step world request) more) (stays_step world request) (stays_fold (step world request) more)

-- an import of this content and answer is there, and the schema is not an older one
pub record IsKept (world : World) (given : Given) (answer : Reply) : Type 0 where
  pub import : Import
  pub found : import_of world given ≡ Some import
  pub content : has_content given import ≡ true
  pub answered : first_answer import ≡ answer
  pub version : IsPresent world

kept_stays : (world after : World) (given : Given) (answer : Reply) → IsKept world given answer → Stays world after → IsKept after given answer
kept_stays world after given answer kept stays = record {
  import = kept.import;
  found =
      ap (λ (l : List Import). find (is_import given.kind given.name) l) stays.imports
      ∙ find-append (is_import given.kind given.name) world.imports stays.more
      ∙ ap (λ (o : Option Import). option_or o (find (is_import given.kind given.name) stays.more)) kept.found;
  content = kept.content;
  answered = kept.answered;
  version = stays.version kept.version;
}

both : (a b : Bool) → a ≡ true → b ≡ true → (a && b) ≡ true
both true b x y = y
both false b x y = x

-- what is kept is found by what it was given as, with its content
kept_is_of : (given : Given) (first : ℕ) (verdicts : List ℕ) → is_import given.kind given.name (kept_import given first verdicts) ≡ true
kept_is_of given first verdicts = both _ _ (eq-eqb (import_kind_code given.kind) (import_kind_code given.kind) refl) (nat_list_eq_equiv.refl given.name)

kept_has_content : (given : Given) (first : ℕ) (verdicts : List ℕ) → has_content given (kept_import given first verdicts) ≡ true
kept_has_content given first verdicts = both _ _ (nat_list_eq_equiv.refl given.template) (nat_list_eq_equiv.refl given.content)

-- it is found where none was before, and after the imports that are there
found_last : (given : Given) (imports : List Import) (one : Import) → find (is_import given.kind given.name) imports ≡ None → is_import given.kind given.name one ≡ true
    → find (is_import given.kind given.name) (imports ++ one ∷ []) ≡ Some one
found_last given imports one none is =
    find-append (is_import given.kind given.name) imports (one ∷ [])
    ∙ ap (λ (o : Option Import). option_or o (find (is_import given.kind given.name) (one ∷ []))) none
    ∙ ap (λ (b : Bool). if b then Some one else None) is

-- a result that is Ok keeps the import with its answer
abbrev KeepsBy : World → Given → Result Done Fault → Type 0
KeepsBy world given (Err fault) = Unit {0}
KeepsBy world given (Ok it) = IsKept it.1 given it.0

keeps_new : (world : World) (given : Given) (result : Result Done Fault) → IsPresent world → import_of world given ≡ None → New world given result → KeepsBy world given result
keeps_new world given (Err fault) present none new = tt
keeps_new world given (Ok it) present none (after, first, verdicts, same, is) =
    subst (λ (d : Done). IsKept d.1 given d.0) (sym is) (record {
      import = kept_import given first verdicts;
      found = found_last given after.imports (kept_import given first verdicts)
          (ap (λ (l : List Import). find (is_import given.kind given.name) l) same.imports ∙ none) (kept_is_of given first verdicts);
      content = kept_has_content given first verdicts;
      answered = refl;
      version = subst (λ (v : ℕ). nat_lt v present_version ≡ false) (sym same.version) present;
    })

keeps_same : (b : Bool) (world : World) (given : Given) (import : Import) → has_content given import ≡ b → IsPresent world → import_of world given ≡ Some import
    → KeepsBy world given (if b then Ok (first_answer import, world) else Err NameUsed)
keeps_same true world given import content present found = record { import = import; found = found; content = content; answered = refl; version = present }
keeps_same false world given import content present found = tt

keeps_after : (world : World) (given : Given) (found : Option Import) → import_of world given ≡ found → IsPresent world → KeepsBy world given (imported_after world given found)
keeps_after world given (Some import) is present = keeps_same (has_content given import) world given import refl present is
keeps_after world given None is present = keeps_new world given (newly_imported world given given.kind) present is (new_import world given given.kind)

-- A request that imports what is given.
pub record Asks (request : Request) (given : Given) : Type 0 where
  pub now : (world : World) → done_now world request ≡ imported world given
  pub no_upgrade : is_upgrade request ≡ false

-- on an older schema it is refused
present_if_ok : (b : Bool) (world : World) (result : Result Done Fault) (answer : Reply)
    → reply_of (if b && true then Err (OldSchema world.version) else result) ≡ Ok answer → b ≡ false
present_if_ok true world result answer h = cc
present_if_ok false world result answer h = refl

-- what was answered is kept
kept_by_ok : (world : World) (given : Given) (result : Result Done Fault) (answer : Reply) → KeepsBy world given result → reply_of result ≡ Ok answer
    → IsKept (world_of world result) given answer
kept_by_ok world given (Err fault) answer keeps h = cc
kept_by_ok world given (Ok it) answer keeps h =
    let is : it.0 ≡ answer = cc in
    subst (λ (a : Reply). IsKept it.1 given a) is keeps

-- what a present schema's project does
done_is_imported : (world : World) (request : Request) (given : Given) → Asks request given → IsPresent world → done world request ≡ imported world given
done_is_imported world request given asks present =
    ap (λ (b : Bool). if b && not (is_upgrade request) then Err (OldSchema world.version) else done_now world request) present
    ∙ asks.now world

-- a kept import answers again
again : (world : World) (given : Given) (answer : Reply) → IsKept world given answer → imported world given ≡ Ok (answer, world)
again world given answer kept =
    ap (imported_after world given) kept.found
    ∙ ap (λ (b : Bool). if b then Ok (first_answer kept.import, world) else Err NameUsed) kept.content
    ∙ ap (λ (a : Reply). Ok (a, world)) kept.answered

pub answers_again : (request : Request) (given : Given) → Asks request given → AnswersAgain request
answers_again request given asks world answer between first =
    let old : (if nat_lt world.version present_version && true then Err (OldSchema world.version) else done_now world request) ≡ done world request =
    ap (λ (b : Bool). if nat_lt world.version present_version && not b then Err (OldSchema world.version) else done_now world request) (sym asks.no_upgrade) in
    let present : IsPresent world = present_if_ok (nat_lt world.version present_version) world (done_now world request) answer (ap reply_of old ∙ first) in
    let is : done world request ≡ imported world given = done_is_imported world request given asks present in
    let kept : IsKept (world_of world (imported world given)) given answer =
    kept_by_ok world given (imported world given) answer (keeps_after world given (import_of world given) refl present) (sym (ap reply_of is) ∙ first) in
    let kept_here : IsKept (step world request) given answer = subst (λ (r : Result Done Fault). IsKept (world_of world r) given answer) (sym is) kept in
    let later : World = fold_steps (step world request) between in
    let kept_later : IsKept later given answer = kept_stays (step world request) later given answer kept_here (stays_fold (step world request) between) in
    let does : done later request ≡ Ok (answer, later) = done_is_imported later request given asks kept_later.version ∙ again later given answer kept_later in
    (ap reply_of does, ap (world_of later) does)

pub imports_act_once : ImportsActOnce
imports_act_once = record {
  batch = λ name template file. answers_again (AskBatch name template file) (batch_given name template file) (record { now = λ world. refl; no_upgrade = refl });
  sent = λ name file. answers_again (AskSent name file) (sent_given name file) (record { now = λ world. refl; no_upgrade = refl });
  reported = λ name file. answers_again (AskReported name file) (reported_given name file) (record { now = λ world. refl; no_upgrade = refl });
  classes = λ name file. answers_again (AskClasses name file) (classes_given name file) (record { now = λ world. refl; no_upgrade = refl });
}
