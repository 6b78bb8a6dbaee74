use Rattle.wu_schema.proofs.Words.{[], err_from_is_err_and, instance_row, rules, sym, take_all, ◌++◌, ◌∙◌, ◌∷◌, ◌≡◌}
use Rattle.std.proofs.lemmas.List.Elements.{All-push}
use Rattle.wu_core.specs.Storable.{AreStoredInstances, IsStoredInstance}
use Rattle.wu_store.proofs.LoadLemmas.{instances_restored, rows_more, rows_unread}
use Rattle.wu_store.proofs.loading.instances_from.Goals as goal

pub returns-in_err-instance_from : goal.returns-in_err-instance_from
returns-in_err-instance_from c =
    let p = err_from_is_err_and c.from_residual.result c.from_residual.ensures.1 in
    rw (p.1, p.2) (rows_unread instance_row IsStoredInstance AreStoredInstances (λ is are. are.each) c.args.rows.now c.loop-row.row-index c.row-item.result c.row-item.result _ c.loop-row-test.true (sym c.row-item.is) c.in_err-instance_from.ensures)

pub loop-row-preserved : goal.loop-row-preserved
loop-row-preserved c =
    let one = c.in_ok-instance_from.field-0 in
    let reads = c.in_ok-instance_from.ensures.value in
    let grown : c.push.new.self.items ≡ c.loop-row.instances.items ++ one ∷ [] = search rules in
    rw grown (
      rows_more instance_row c.loop-row.instances.items c.args.rows.now c.loop-row.row-index one c.row-item.result c.loop-row.invariant.0 c.loop-row-test.true (sym c.row-item.is ∙ reads.0),
      All-push IsStoredInstance c.loop-row.instances.items one c.loop-row.invariant.1 reads.1,
    )

pub returns : goal.returns
returns c =
    rw c.from_vec.ensures (instances_restored c.args.rows.now c.loop-row.instances.items (c.loop-row.invariant.0 ∙ take_all _ _ c.loop-row-test.false) c.loop-row.invariant.1 c.if-rows.false)
