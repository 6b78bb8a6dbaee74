-- No request takes a grant, an archived row or an import from a world, and the next number never falls.
use Rattle.std.proofs.Common.{◌≡◌, ◌≤◌, List, [], ◌∷◌, ◌++◌, append_assoc, append-nil, Result, refl, sym, ap, ◌∙◌, arith}
use Rattle.std.specs.Prelude.{⊤}
use Rattle.wu_core.specs.World.{World, Import}
use Rattle.wu_core.specs.declared.fault.Fault.{Fault}
use Rattle.wu_core.specs.declared.import.ImportKind.{ImportKind}
use Rattle.wu_core.specs.declared.import.ImportKind.TheVariants as kind
use Rattle.wu_core.specs.declared.workunit.HostClass.{HostClass}
use Rattle.wu_feed.specs.Classes.{classes_of_file}
use Rattle.wu_feed.specs.Jobs.{jobs_of_file}
use Rattle.wu_feed.specs.Reports.{reports_of_file}
use Rattle.wu_feed.specs.Sends.{sends_of_file}
use Rattle.wu_feed.specs.Templates.{template_of}
use Rattle.wu_rules.specs.Cancelling.{cancelled}
use Rattle.wu_machine.specs.FileRows.{Rule, after_classes, after_rows, report_rule, send_rule}
use Rattle.wu_machine.specs.Imports.{batch_given, classes_given, Given, imported, newly_imported, reported_given, rows_read, sent_given}
use Rattle.wu_machine.specs.Machine.{done_now, fold_steps, present_version, step}
use Rattle.wu_machine.specs.Requests.{Request, AskBatch, AskClasses, AskSent, AskReported, AskPass, AskCancel, AskUpgrade}
use Rattle.wu_machine.specs.Worlds.{with_host_class, with_named}
use Rattle.wu_machine.proofs.BatchKeeps.{with_kept}
use Rattle.wu_machine_laws.specs.Lasting.{Begins}
use Rattle.wu_machine_laws.proofs.PassLaws.{keeps_records}
use Rattle.wu_machine_laws.proofs.Results.{asked, batch_by, By, cancel_by, classes_by, file_by, import_by, pass_by, rows_by}

-- what is recorded in the old world is recorded in the new one
pub record Records (old new : World) : Type 0 where
  pub grants : Begins old.grants new.grants
  pub archived : Begins old.archived new.archived
  pub imports : Begins old.imports new.imports
  pub next : old.next_number ≤ new.next_number

-- one list begins another that begins a third
begins_then : {X : Type 0} (xs ys zs : List X) → Begins xs ys → Begins ys zs → Begins xs zs
begins_then xs ys zs first second = (first.0 ++ second.0, second.1 ∙ ap (λ l. l ++ second.0) first.1 ∙ append_assoc xs first.0 second.0)

-- where no more is granted or archived
same_records : (world after : World) → after.grants ≡ world.grants → after.archived ≡ world.archived → Begins world.imports after.imports
    → world.next_number ≤ after.next_number → Records world after
same_records world after grants archived imports next = record {
  grants = ([], grants ∙ sym (append-nil world.grants));
  archived = ([], archived ∙ sym (append-nil world.archived));
  imports = imports;
  next = next;
}

-- where nothing changes but workunits, classes and the version
same_world : (world after : World) → after.grants ≡ world.grants → after.archived ≡ world.archived → after.imports ≡ world.imports
    → after.next_number ≡ world.next_number → Records world after
same_world world after grants archived imports next =
    same_records world after grants archived ([], imports ∙ sym (append-nil world.imports)) (omega (arith, next))

-- what is recorded after two changes
records_then : (one two three : World) → Records one two → Records two three → Records one three
records_then one two three first second = record {
  grants = begins_then one.grants two.grants three.grants first.grants second.grants;
  archived = begins_then one.archived two.archived three.archived first.archived second.archived;
  imports = begins_then one.imports two.imports three.imports first.imports second.imports;
  next = (let a = first.next in let b = second.next in omega (arith, a, b));
}

-- an import more
import_recorded : (world after : World) (import : Import) → Records world after → Records world (with_kept import after)
import_recorded world after import records =
    records_then world after (with_kept import after) records (same_records after _ refl refl (import ∷ [], refl) (omega arith))

-- rows of classes
classes_record : (rows : List HostClass) (world : World) → Records world (after_classes world rows)
classes_record [] world = same_world world world refl refl refl refl
classes_record (row ∷ rows) world =
    records_then world (with_host_class world row) (after_classes (with_host_class world row) rows)
    (same_world world (with_host_class world row) refl refl refl refl) (classes_record rows (with_host_class world row))

module _ (world : World) where
  -- where nothing changes
  same : Records world world
  same = same_world world world refl refl refl refl

  -- a file of rows
  file_records : {Row : Type 0} (rule : Rule Row) (given : Given) (file : Result (List Row) Fault) → By (Records world) world (rows_read rule given world file)
  file_records rule given file =
      file_by (Records world) world same rule given file (λ rows is. import_recorded world (after_rows rule world rows) _
      (rows_by rule (Records world) (λ row. ⊤) (λ between row any applied records. records_then world between _ records
      (same_world between (with_named between (rule.workunit row) (rule.image row)) refl refl refl refl)) rows (λ k d low. tt) world same))

  -- an import that is new
  new_records : (given : Given) (k : ImportKind) → By (Records world) world (newly_imported world given k)
  new_records given kind.Batch =
      batch_by (Records world) world same given (template_of given.template) (jobs_of_file given.content)
      (λ params jobs template file free few. same_records world _ refl refl (_ ∷ [], refl) (omega arith))
  new_records given kind.Sent = file_records (send_rule world.classes) given (sends_of_file given.content)
  new_records given kind.Reported = file_records report_rule given (reports_of_file given.content)
  new_records given kind.Classes =
      classes_by (Records world) world same given (classes_of_file given.content)
      (λ rows is. import_recorded world (after_classes world rows) _ (classes_record rows world))

  -- any import
  import_records : (given : Given) → By (Records world) world (imported world given)
  import_records given = import_by (Records world) world same given (λ new. new_records given given.kind)

  -- any request
  done_records : (request : Request) → By (Records world) world (done_now world request)
  done_records (AskBatch name template file) = import_records (batch_given name template file)
  done_records (AskSent name file) = import_records (sent_given name file)
  done_records (AskReported name file) = import_records (reported_given name file)
  done_records (AskClasses name file) = import_records (classes_given name file)
  done_records (AskPass pass now limit min_age) =
      let kept = keeps_records pass now min_age limit world in
      pass_by (Records world) world same pass now limit min_age
      (λ right. record { grants = kept.grants; archived = kept.archived; imports = same.imports; next = omega arith })
  done_records (AskCancel name) =
      cancel_by (Records world) world same name (λ w is undecided. same_world world (with_named world name cancelled) refl refl refl refl)
  done_records AskUpgrade = same_world world (record world { version = present_version }) refl refl refl refl

-- any list of them
pub steps_record : (world : World) (requests : List Request) → Records world (fold_steps world requests)
steps_record world [] = same world
steps_record world (request ∷ requests) =
    records_then world (step world request) (fold_steps (step world request) requests)
    (asked (Records world) world (same world) request (λ younger. done_records world request)) (steps_record (step world request) requests)
