use Rattle.wu_store.proofs.AskLemmas.{fault_read, never_broken, reads_also, reads_both, reads_made, reads_none, reads_then_handed}
use Rattle.wu_schema.specs.Reading.{IsReadFault}
use Rattle.std.specs.Prelude.{IfErr}
use Rattle.std.proofs.Common.{rules, ◌≡◌, ◌≤◌, ◌∙◌, [], ◌∷◌, ◌++◌, sym}
use Rattle.std.proofs.lemmas.List.{map-id}
use Rattle.std.proofs.lemmas.List.Elements.{All-append, All-cons, All-nil}
use Rattle.std.proofs.lemmas.Iterator.Adapters.{YieldsList-from_vec}
use Rattle.std.proofs.lemmas.Iterator.Consumers.{YieldsList-end}
use Rattle.wu_plans.specs.Touched.{rule_in}
use Rattle.wu_plans.proofs.TouchedLemmas.{no_rows_left}
use Rattle.wu_plans.proofs.files.apply_rows.Goals as goal

pub loop-row-init : goal.loop-row-init
loop-row-init g c = (
  rw c.new-verdicts.ensures.items (All-nil (λ verdict. verdict ≤ 9)),
  reads_none g.S.Store _ tt (λ never. never) (λ world stood known. rw (c.new-touched.ensures, c.new-verdicts.ensures.items) (no_rows_left (rule_in g.R.FileRow.rule g.R.FileRow.class_in world.classes) world)),
)

pub loop-row-preserved : goal.loop-row-preserved
loop-row-preserved g c =
    let (digits, left) = c.loop-row.invariant in
    let verdict = c.in_ok-apply_row.field-0 in
    let grown : c.push.new.self.items ≡ c.loop-row.verdicts.items ++ verdict ∷ [] = search rules in (
      rw grown (All-append (λ verdict. verdict ≤ 9) c.loop-row.verdicts.items (verdict ∷ []) digits (All-cons (λ verdict. verdict ≤ 9) verdict [] c.in_ok-apply_row.ensures.digit (All-nil (λ verdict. verdict ≤ 9)))),
      reads_made g.S.Store _ _ verdict tt (reads_both g.S.Store _ _ _ tt left verdict c.in_ok-apply_row.ensures.reads) (λ world stood found known. rw grown (found.1 known c.loop-row.yielded c.loop-row.verdicts.items (found.0 known))),
    )

pub returns-in_err-apply_row-clause-reads : goal.returns-in_err-apply_row-clause-reads
returns-in_err-apply_row-clause-reads g c =
    let (_, left) = c.loop-row.invariant in
    reads_then_handed g.S.Store _ _ _ tt left c.from_residual.result c.in_err-apply_row.field-0.0 c.from_residual.ensures.1 c.in_err-apply_row.ensures.reads (λ other told world known. tt) (λ world stood one takes. takes)

pub returns-in_err-push-clause-reads : goal.returns-in_err-push-clause-reads
returns-in_err-push-clause-reads g c =
    let (_, left) = c.loop-row.invariant in
    let r = c.from_residual-in_err-push.result in
    let told : IfErr r IsReadFault = search rules in
    let verdict = c.in_ok-apply_row.field-0 in
    reads_also g.S.Store _ _ verdict r (never_broken r told) (fault_read r told) (reads_both g.S.Store _ _ _ tt left verdict c.in_ok-apply_row.ensures.reads) (λ world stood found known. search rules) (λ world stood found can. search rules)

pub returns-clause-reads : goal.returns-clause-reads
returns-clause-reads g c =
    let (_, left) = c.loop-row.invariant in
    let seen = YieldsList-end (YieldsList-from_vec {s = c.into_iter-row-iterator.result} c.into_vec-row-items.result.items (search rules) (search rules)) c.loop-row.yielded c.loop-row.row-iterator c.loop-row.yielded_by c.next.result c.next.new.self c.in-None.is c.next.ensures.steps in
    let whole : c.loop-row.yielded ≡ c.args.rows = sym (map-id c.loop-row.yielded) ∙ seen.0 ∙ c.into_vec-row-items.ensures in
    reads_made g.S.Store _ _ tt _ left (λ world stood found known. rw whole at (found known))
