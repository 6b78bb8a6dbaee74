use Rattle.wu_schema.proofs.Words.{arith, get_or, length, rules, subst, sym, take, ap, ◌<◌, ◌∙◌, ◌≡◌, ◌+◌, [], ◌∷◌}
use Rattle.std.proofs.Math.Seq.{take-length}
use Rattle.wu_store.proofs.ChangeLemmas.{works_none, works_once, works_then}
use Rattle.wu_schema.specs.Queue.{HasQueue, queue_table}
use Rattle.wu_rules.specs.Marks.{marks}
use Rattle.wu_store.specs.Queues.{with_marks}
use Rattle.wu_store.proofs.MarkedLemmas.{filled_more}
use Rattle.wu_store.proofs.PlacedLemmas.{world_rises}
use Rattle.wu_schema.proofs.OthersLemmas.{spares_none, spares_then}
use Rattle.wu_store.proofs.changes.fill_queue.Goals as goal

pub loop-row-init : goal.loop-row-init
loop-row-init g c = (works_none _ _, λ _. (spares_none (queue_table ∷ []) _, λ world s same q. (s, q)))

pub loop-row-preserved : goal.loop-row-preserved
loop-row-preserved g c =
    let (works, before) = c.loop-row.invariant in
    let wrote = c.in_ok-insert_marks.ensures.writes in
    let rows = c.args.rows.now in
    let i = c.loop-row.row-index in
    let one = c.row-item.result in
    let low : i < length rows = omega (arith, c.loop-row-test.true) in
    let at : get_or rows i one ≡ one = search rules in (
      works_then works (works_once wrote),
      λ clean.
          let so_far = before (omega (arith, wrote.part.survives.clean)) in (
            spares_then (queue_table ∷ []) _ _ _ so_far.0 (c.in_ok-insert_marks.ensures.spares clean),
            λ world s same q.
                let (stands, filled) = so_far.1 world s same q in
                let more : with_marks one.0 one.1 (take i rows) ≡ take (i + 1) rows = subst (λ rs. with_marks one.0 one.1 (take i rs) ≡ take (i + 1) rs) (sym same) (filled_more marks world.workunits (world_rises _ world s) i one one (subst (λ rs. i < length rs) same low) (ap (λ rs. get_or rs i one) (sym same) ∙ at)) in (
                  c.in_ok-insert_marks.ensures.keeps clean world (take i rows) stands filled,
                  subst (HasQueue _) more (c.in_ok-insert_marks.ensures.makes clean world (take i rows) stands filled),
                ),
          ),
    )

pub returns : goal.returns
returns g c =
    let at_end : c.loop-row.row-index ≡ length c.args.rows.now = omega (arith, c.loop-row-test.false, c.loop-row.auto.row-index-end) in
    let whole : take c.loop-row.row-index c.args.rows.now ≡ c.args.rows.now = rw at_end (take-length c.args.rows.now) in
    let (works, before) = c.loop-row.invariant in
    record {
      works = works;
      spares = λ clean. (before clean).0;
      fills = λ clean world s same q. let (stands, filled) = (before clean).1 world s same q in (stands, subst (HasQueue _) whole filled);
    }
