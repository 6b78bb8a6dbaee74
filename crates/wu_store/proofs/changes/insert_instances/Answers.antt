use Rattle.wu_schema.proofs.Words.{HasCleanDisk, Refines, ap, arith, get_or, length, refl, state, subst, sym, take, take_all, ◌<◌, ◌∙◌, ◌≡◌, ◌+◌}
use Rattle.wu_store.proofs.ChangeLemmas.{works_none, works_once, works_then}
use Rattle.wu_store.specs.Changes.{AddsInstance, with_placed}
use Rattle.wu_store.proofs.PlacedLemmas.{first_instances, next_instance}
use Rattle.wu_store.proofs.SpareLemmas.{of_result}
use Rattle.wu_schema.proofs.OthersLemmas.{spares_none, spares_then}
use Rattle.wu_schema.specs.Others.{tables_of_workunits}
use Rattle.wu_store.proofs.changes.insert_instances.Goals as goal

pub loop-instance-init : goal.loop-instance-init
loop-instance-init g c = (refl, works_none _ _, λ _. (spares_none tables_of_workunits _, (λ world none s. s, λ world marked none s q. q)))

pub loop-instance-preserved : goal.loop-instance-preserved
loop-instance-preserved g c =
    let (place, works, before) = c.loop-instance.invariant in
    let wrote = c.in_ok-insert_instance.ensures.writes in
    let w = c.args.workunit.now in
    let i = c.loop-instance.instance-index in
    let one = c.instance-item.result in
    let items = c.as_slice-instances.ensures.items in
    let low : i < length w.instances = omega (arith, c.loop-instance-test.true, ap (λ is. length is) items) in
    let at : get_or w.instances i one ≡ one = ap (λ is. get_or is i one) (sym items) ∙ sym c.instance-item.is in
    let old = (state g.S.Store c.loop-instance.tx.conn.now).now in
    let new = (state g.S.Store c.insert_instance.new.tx.conn.now).now in (
      ap (λ n. n + 1) place,
      works_then works (works_once wrote),
      λ clean.
          let still : HasCleanDisk (state g.S.Store c.loop-instance.tx.conn.now) = omega (arith, wrote.part.survives.clean) in
          let adds : AddsInstance w.number i one old new = subst (λ n. AddsInstance w.number n one old new) place (c.in_ok-insert_instance.ensures.makes clean) in (
            spares_then tables_of_workunits _ old new (before still).0 (of_result old new (c.in_ok-insert_instance.ensures.spares clean)),
            (
              λ world none s. next_instance old new w i one one world none low at adds ((before still).1.0 world none s),
              λ world marked none s q. c.in_ok-insert_instance.ensures.keeps clean (with_placed (first_instances i w) world) marked ((before still).1.0 world none s) ((before still).1.1 world marked none s q),
            ),
          ),
    )

pub returns-clause-adds : goal.returns-clause-adds
returns-clause-adds g c clean world none s =
    let w = c.args.workunit.now in
    let items = c.as_slice-instances.ensures.items in
    let whole : take c.loop-instance.instance-index w.instances ≡ w.instances = ap (take c.loop-instance.instance-index) (sym items) ∙ take_all _ _ c.loop-instance-test.false ∙ items in
    subst (λ is. Refines (state g.S.Store c.loop-instance.tx.conn.now).now (with_placed (record w { instances = is }) world)) whole ((c.loop-instance.invariant.2 clean).1.0 world none s)

pub returns-clause-queue : goal.returns-clause-queue
returns-clause-queue g c clean = (c.loop-instance.invariant.2 clean).1.1

pub returns-clause-spares : goal.returns-clause-spares
returns-clause-spares g c clean = (c.loop-instance.invariant.2 clean).0
