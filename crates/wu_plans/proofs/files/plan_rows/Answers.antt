use Rattle.sqlite.specs.Held.{state}
use Rattle.wu_store.proofs.AskLemmas.{reads_also, reads_handed}
use Rattle.wu_plans.specs.Planning.{given_of}
use Rattle.wu_plans.specs.Touched.{rule_in}
use Rattle.wu_plans.proofs.ExitLemmas.{memory_told, memory_unbroken, memory_unrefused}
use Rattle.wu_plans.proofs.ImportPlans.{file_planned}
use Rattle.wu_plans.proofs.files.plan_rows.Goals as goal

pub returns : goal.returns
returns g c =
    let r = c.new_file.result in
    let memory = c.new_file.ensures.fault in
    reads_also g.S.Store _ _ c.in_ok-left.left r (memory_unbroken r memory) (memory_told r memory) c.in_ok-left.ensures.reads (λ world stands found known.
    file_planned (rule_in g.R.FileRow.rule g.R.FileRow.class_in world.classes) (given_of c.args.source.now) c.args.rows (state g.S.Store c.args.conn.now).now world stands known c.in_ok-left.left (found known) r c.new_file.ensures.ok memory) (λ world stands found can. memory_unrefused r memory)

pub returns-in_err-left : goal.returns-in_err-left
returns-in_err-left g c =
    reads_handed g.S.Store _ _ c.from_residual.result c.in_err-left.field-0.0 c.from_residual.ensures.1 c.in_err-left.ensures.reads (λ other told world known. told) (λ world stands takes. takes)
