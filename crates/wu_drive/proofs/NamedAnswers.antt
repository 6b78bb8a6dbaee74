-- The name in an answer of the machine is valid: it is that of the import, or of a workunit that is present.
use Rattle.std.proofs.Common.{◌≡◌, ℕ, Bool, true, false, cond, ◌&&◌, ◌==◌, not, nat_lt, List, [], ◌∷◌, find, bytes_eq, Option, Some, None, IfSome, Result, Ok, Err, IfOk, subst, sym, refl}
use Rattle.std.proofs.lemmas.Slice.Eq.{bytes_eq-Decides}
use Rattle.std.specs.Prelude.{if◌then◌else◌}
use Rattle.wu_core.specs.declared.fault.Fault.{Fault}
use Rattle.wu_core.specs.declared.fault.Fault.TheVariants.{BadLimit, NameUsed, NotOpenToCancel, OldSchema}
use Rattle.wu_core.specs.declared.import.ImportKind.{ImportKind}
use Rattle.wu_core.specs.declared.import.ImportKind.TheVariants as kind
use Rattle.wu_core.specs.declared.workunit.HostClass.{HostClass}
use Rattle.wu_core.specs.declared.workunit.Workunit.{Workunit}
use Rattle.wu_core.specs.Codes.{import_kind_code}
use Rattle.wu_core.specs.Parameters.{Parameters}
use Rattle.wu_core.specs.Storable.{IsName, IsStorable}
use Rattle.wu_core.specs.World.{World, Import, is_import}
use Rattle.wu_core.proofs.NameLemmas.{second}
use Rattle.wu_feed.specs.declared.jobs.Job.{Job}
use Rattle.wu_feed.specs.Classes.{classes_of_file}
use Rattle.wu_feed.specs.Jobs.{jobs_of_file}
use Rattle.wu_feed.specs.Reports.{reports_of_file}
use Rattle.wu_feed.specs.Sends.{sends_of_file}
use Rattle.wu_feed.specs.Templates.{template_of}
use Rattle.wu_rules.specs.Cancelling.{cancelled}
use Rattle.wu_rules.specs.Counts.{is_undecided}
use Rattle.wu_machine.specs.Batches.{jobs_added}
use Rattle.wu_machine.specs.FileRows.{Rule, report_rule, send_rule}
use Rattle.wu_machine.specs.Imports.{Done, Given, batch_given, batch_read, classes_given, classes_read, first_answer, has_content, import_of, imported, imported_after, jobs_kept, newly_imported, reported_given, rows_read, sent_given}
use Rattle.wu_machine.specs.Machine.{HasValues, cancel_done, done, done_now, is_limit_right, is_upgrade, present_version, reply, reply_of}
use Rattle.wu_machine.specs.Passes.{handled, passed}
use Rattle.wu_machine.specs.Requests.{Request, AskBatch, AskCancel, AskClasses, AskPass, AskReported, AskSent, AskUpgrade, Cancelled, Passed}
use Rattle.wu_machine.specs.Sound.{IsProject}
use Rattle.wu_machine.specs.Worlds.{with_named, workunit_named}
use Rattle.wu_machine.proofs.StorableLemmas.{found_is}
use Rattle.wu_drive.specs.Marks.{HasValidName}

abbrev IsNamed : Result Done Fault → Type 0
IsNamed result = IfOk result (λ done. HasValidName done.0)

named_if : (b : Bool) (one other : Result Done Fault) → IsNamed one → IsNamed other → IsNamed (if b then one else other)
named_if true one other h k = h
named_if false one other h k = k

-- what is found passes the test
found_passes : {X : Type 0} (p : X → Bool) (xs : List X) → IfSome (find p xs) (λ x. p x ≡ true)
found_passes p [] = tt
found_passes {X} p (x ∷ xs) = by_test (p x) refl (found_passes p xs)
  where
    by_test : (b : Bool) → p x ≡ b → IfSome (find p xs) (λ y. p y ≡ true) → IfSome (cond b (Some x) (find p xs)) (λ y. p y ≡ true)
    by_test true is rest = is
    by_test false is rest = rest

-- ---- imports

module _ (given : Given) (named : IsName given.name) (world : World) where
  jobs_named : (jobs : List Job) (after : Result World Fault) → IsNamed (jobs_kept given world jobs after)
  jobs_named jobs (Ok after) = named
  jobs_named jobs (Err fault) = tt

  batch_named : (params : Result Parameters Fault) (jobs : Result (List Job) Fault) → IsNamed (batch_read given world params jobs)
  batch_named (Err fault) jobs = tt
  batch_named (Ok params) (Err fault) = tt
  batch_named (Ok params) (Ok jobs) = jobs_named jobs (jobs_added world params jobs)

  rows_named : {Row : Type 0} (rule : Rule Row) (rows : Result (List Row) Fault) → IsNamed (rows_read rule given world rows)
  rows_named rule (Ok rows) = named
  rows_named rule (Err fault) = tt

  classes_named : (rows : Result (List HostClass) Fault) → IsNamed (classes_read given world rows)
  classes_named (Ok rows) = named
  classes_named (Err fault) = tt

  new_named : (of : ImportKind) → IsNamed (newly_imported world given of)
  new_named kind.Batch = batch_named (template_of given.template) (jobs_of_file given.content)
  new_named kind.Sent = rows_named (send_rule world.classes) (sends_of_file given.content)
  new_named kind.Reported = rows_named report_rule (reports_of_file given.content)
  new_named kind.Classes = classes_named (classes_of_file given.content)

  after_named : (found : Option Import) → IfSome found (λ import. is_import given.kind given.name import ≡ true) → IsNamed (imported_after world given found)
  after_named None is = new_named given.kind
  after_named (Some import) is =
      let same = (bytes_eq-Decides import.name given.name).0 (second (import_kind_code import.kind == import_kind_code given.kind) (bytes_eq import.name given.name) is) in
      named_if (has_content given import) (Ok (first_answer import, world)) (Err NameUsed) (subst IsName (sym same) named) tt

  import_named : IsNamed (imported world given)
  import_named = after_named (import_of world given) (found_passes (is_import given.kind given.name) world.imports)

-- ---- the other requests

cancel_named : (world : World) (name : List ℕ) (found : Option Workunit) → IfSome found (λ w. bytes_eq w.name name ≡ true) → IfSome found IsStorable
    → IsNamed (cancel_done world name found)
cancel_named world name None is storable = tt
cancel_named world name (Some w) is storable =
    named_if (is_undecided w) (Ok (Cancelled name, with_named world name cancelled)) (Err NotOpenToCancel)
    (subst IsName ((bytes_eq-Decides w.name name).0 is) storable.row.name) tt

done_named : (world : World) → IsProject world → (request : Request) → HasValues request → IsNamed (done_now world request)
done_named world project (AskBatch name template file) named = import_named (batch_given name template file) named world
done_named world project (AskSent name file) named = import_named (sent_given name file) named world
done_named world project (AskReported name file) named = import_named (reported_given name file) named world
done_named world project (AskClasses name file) named = import_named (classes_given name file) named world
done_named world project (AskPass pass now limit min_age) values =
    named_if (is_limit_right pass limit min_age) (Ok (Passed pass (handled pass now min_age limit world), passed pass now min_age limit world)) (Err BadLimit) tt tt
done_named world project (AskCancel name) values =
    let test : Workunit → Bool = λ w. bytes_eq w.name name in
    cancel_named world name (workunit_named world name) (found_passes test world.workunits) (found_is IsStorable test world.workunits project.storable)
done_named world project AskUpgrade values = tt

answer_named : (result : Result Done Fault) → IsNamed result → IfOk (reply_of result) HasValidName
answer_named (Ok it) named = named
answer_named (Err fault) named = tt

pub reply_named : (world : World) → IsProject world → (request : Request) → HasValues request → IfOk (reply world request) HasValidName
reply_named world project request values =
    answer_named (done world request)
    (named_if (nat_lt world.version present_version && not (is_upgrade request)) (Err (OldSchema world.version)) (done_now world request) tt
    (done_named world project request values))
