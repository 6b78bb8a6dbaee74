use Rattle.wu_plans.proofs.ExitLemmas.{store_going}
use Rattle.wu_store.proofs.AskLemmas.{reads_told, reads_handed, reads_also}
use Rattle.std.proofs.Common.{◌≡◌, None, Ok, ap, inr, refl}
use Rattle.wu_core.specs.declared.import.ImportKind.TheVariants as kind
use Rattle.wu_feed.specs.Classes.{classes_of_file}
use Rattle.wu_machine.specs.Commands.{file_of}
use Rattle.wu_machine.specs.Imports.{classes_read, import_of}
use Rattle.wu_machine.specs.Requests.{AskClasses}
use Rattle.wu_plans.proofs.AskLemmas.{found_in_range}
use Rattle.wu_plans.proofs.ImportPlans.{asked_classes, classes_planned, read_ok, repeated_planned}
use Rattle.wu_plans.proofs.ExitLemmas.{memory_told, memory_unbroken, memory_unrefused, repeat_going, repeat_unbroken, repeat_unrefused, told_going}
use Rattle.wu_plans.proofs.PlanLemmas.{classed}
use Rattle.wu_plans.specs.Planning.{given_of}
use Rattle.wu_plans.proofs.classes.plan_classes.Goals as goal

pub returns-in-Some : goal.returns-in-Some
returns-in-Some g c = record {
  reads = reads_also g.S.Store _ _ c.in_ok-earlier.field-0 c.repeated.result (repeat_unbroken (given_of c.file_source-source.result) c.in-Some.earlier c.repeated.result c.repeated.ensures.fault) (repeat_going (given_of c.file_source-source.result) c.in-Some.earlier c.repeated.result c.repeated.ensures.fault) c.in_ok-earlier.ensures.reads (λ world stands earlier is project. let given = file_of kind.Classes c.args.file.now in
      repeated_planned world (AskClasses c.args.file.now.name c.args.file.now.file) given (asked_classes world is c.args.file.now.name c.args.file.now.file) c.in-Some.earlier c.repeated.result
      (rw c.in-Some.is at earlier) (rw c.file_source-source.ensures at c.repeated.ensures.plan) (rw c.file_source-source.ensures at c.repeated.ensures.fault))
      (λ world stands earlier can. repeat_unrefused (given_of c.file_source-source.result) c.in-Some.earlier c.repeated.result c.repeated.ensures.fault);
}

pub returns-in_err-earlier : goal.returns-in_err-earlier
returns-in_err-earlier g c = record {
  reads = reads_told store_going (reads_handed g.S.Store _ _ c.from_residual.result c.in_err-earlier.field-0.0 c.from_residual.ensures.1 c.in_err-earlier.ensures.reads (λ other told world is project. inr told)
      (λ world stands p3. let (is, project) = p3 in (found_in_range kind.Classes c.args.file.now.name world project.verdicts)));
}

pub returns-in_ok-read_classes-in-None : goal.returns-in_ok-read_classes-in-None
returns-in_ok-read_classes-in-None g c = record {
  reads = reads_also g.S.Store _ _ c.in_ok-earlier.field-0 c.new_classes.result (memory_unbroken c.new_classes.result c.new_classes.ensures.fault) (told_going c.new_classes.result (memory_told c.new_classes.result c.new_classes.ensures.fault)) c.in_ok-earlier.ensures.reads (λ world stands earlier is project. let given = file_of kind.Classes c.args.file.now in
      let fresh : import_of world given ≡ None = rw c.in-None.is at earlier in
      let rows_are : classes_of_file c.args.file.now.file ≡ Ok c.in_ok-read_classes-in-None.field-0 = read_ok _ _ (rw c.as_slice.ensures at c.in_ok-read_classes-in-None.ensures.exact) in
      classes_planned world (AskClasses c.args.file.now.name c.args.file.now.file) given (asked_classes world is c.args.file.now.name c.args.file.now.file) refl c.in_ok-read_classes-in-None.field-0 (classed world is) fresh
      (ap (classes_read given world) rows_are) (λ came. came) c.new_classes.result (rw c.file_source-source.ensures at c.new_classes.ensures.ok) c.new_classes.ensures.fault)
      (λ world stands earlier can. memory_unrefused c.new_classes.result c.new_classes.ensures.fault);
}
