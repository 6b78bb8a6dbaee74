use Rattle.wu_plans.proofs.ExitLemmas.{store_going}
use Rattle.wu_store.proofs.AskLemmas.{reads_handed, reads_also, reads_then}
use Rattle.std.proofs.Common.{◌≡◌, ◌∙◌, None, ap, inr, refl}
use Rattle.wu_machine.specs.Commands.{file_of}
use Rattle.wu_machine.specs.Imports.{import_of, rows_read}
use Rattle.wu_plans.proofs.AskLemmas.{found_in_range}
use Rattle.wu_plans.proofs.ImportPlans.{read_ok, repeated_planned, rows_planned}
use Rattle.wu_store.proofs.AskLemmas.{reads_told}
use Rattle.wu_plans.proofs.ExitLemmas.{repeat_going, repeat_unbroken, repeat_unrefused}
use Rattle.wu_plans.proofs.PlanLemmas.{classed}
use Rattle.wu_plans.specs.Planning.{given_of}
use Rattle.wu_plans.proofs.files.plan_file.Goals as goal

pub returns-in-Some : goal.returns-in-Some
returns-in-Some g c = record {
  reads = reads_also g.S.Store _ _ c.in_ok-earlier.field-0 c.repeated.result (repeat_unbroken (given_of c.file_source-source.result) c.in-Some.earlier c.repeated.result c.repeated.ensures.fault) (repeat_going (given_of c.file_source-source.result) c.in-Some.earlier c.repeated.result c.repeated.ensures.fault) c.in_ok-earlier.ensures.reads
      (λ world stands earlier is project. let file = c.args.file.now in let of = c.kind-kind.ensures world file.name file.file in
      repeated_planned world _ (file_of c.kind-kind.result file) (of.asked is) c.in-Some.earlier c.repeated.result
      (rw c.in-Some.is at earlier) (rw c.file_source-source.ensures at c.repeated.ensures.plan) (rw c.file_source-source.ensures at c.repeated.ensures.fault))
      (λ world stands earlier can. repeat_unrefused (given_of c.file_source-source.result) c.in-Some.earlier c.repeated.result c.repeated.ensures.fault);
}

pub returns-in_ok-rows-in-None : goal.returns-in_ok-rows-in-None
returns-in_ok-rows-in-None g c = record {
  reads = reads_told store_going (reads_then g.S.Store _ _ _ c.in_ok-earlier.field-0 c.in_ok-earlier.ensures.reads c.plan_rows.result c.plan_rows.ensures (λ world stands earlier rows is project.
      let file = c.args.file.now in let of = c.kind-kind.ensures world file.name file.file in let given = file_of c.kind-kind.result file in
      let fresh : import_of world given ≡ None = rw c.in-None.is at earlier in
      let rows_are = read_ok _ _ (rw c.as_slice.ensures at c.in_ok-rows-in-None.ensures.rows) in
      rows_planned world _ given (of.asked is) refl _ c.in_ok-rows-in-None.rows fresh
      (of.read ∙ ap (rows_read _ given world) rows_are) of.before c.plan_rows.result (rw c.file_source-source.ensures at (rows (classed world is))))
      (λ world stands earlier can. record { known = classed world can.0; storable = can.1.storable; classed = can.1.classed }));
}

pub returns-in_err-earlier : goal.returns-in_err-earlier
returns-in_err-earlier g c = record {
  reads = reads_told store_going (reads_handed g.S.Store _ _ c.from_residual.result c.in_err-earlier.field-0.0 c.from_residual.ensures.1 c.in_err-earlier.ensures.reads (λ other told world is project. inr told)
      (λ world stands p3. let (is, project) = p3 in (found_in_range c.kind-kind.result c.args.file.now.name world project.verdicts)));
}
