use Rattle.std.proofs.lemmas.Option.{slice_get-get_or}
use Rattle.wu_schema.proofs.Words.{HasCleanDisk, Instance, Refines, Some, ap, arith, get_or, length, refl, slice_get, state, subst, suc, sym, ◌+◌, ◌<◌, ◌∙◌, ◌≡◌, rules}
use Rattle.wu_store.proofs.ChangeLemmas.{works_none, works_then}
use Rattle.wu_store.specs.Changes.{StandsBeside, with_put, with_replaced}
use Rattle.wu_store.proofs.ReplaceLemmas.{got_mixed, lent_at, listing, long_mixed, mixed, put_mixed, put_replaced, replaced_found, whole_mixed}
use Rattle.wu_schema.proofs.OthersLemmas.{spares_none, spares_then}
use Rattle.wu_schema.specs.Others.{tables_of_workunits}
use Rattle.wu_store.proofs.changes.put_instances.Goals as goal

pub loop-instance-init : goal.loop-instance-init
loop-instance-init g c = (refl, works_none _ _, λ all. refl, λ _. (spares_none tables_of_workunits _, λ world v found s. (s, λ marked q. q)))

pub loop-instance-preserved : goal.loop-instance-preserved
loop-instance-preserved g c =
    let (place, works, idle, before) = c.loop-instance.invariant in
    let wrote = c.in_ok-put_instance.ensures.works in
    let w = c.args.workunit.now in
    let was = c.args.was.now in
    let k = c.loop-instance.instance-index in
    let one = c.instance-item.result in
    let items = c.as_slice-instances.ensures.items in
    let low : k < length w.instances = omega (arith, c.loop-instance-test.true, ap (λ is. length is) items) in
    let at : get_or w.instances k one ≡ one = ap (λ is. get_or is k one) (sym items) ∙ sym c.instance-item.is in
    let next : suc k ≡ k + 1 = omega arith in (
      ap (λ n. n + 1) place,
      works_then works wrote,
      λ all.
          let got = sym (lent_at was c.loop-instance.n c.get.result c.get.ensures.lookup) ∙ (λ i. slice_get (all i) (place i)) ∙ slice_get-get_or w.instances k one low ∙ ap (λ (j : Instance). Some j) at in
          (c.put_instance.ensures.idle got).0 ∙ idle all,
      λ clean.
          let still : HasCleanDisk (state g.S.Store c.loop-instance.tx.conn.now) = omega (arith, wrote.part.survives.clean) in
          let puts = c.in_ok-put_instance.ensures.puts clean in (
            spares_then tables_of_workunits _ _ _ (before still).0 (c.in_ok-put_instance.ensures.spares clean),
            λ world v found s.
                let so_far = (before still).1 world v found s in
                let is = mixed k w.instances was in
                let long = long_mixed k w.instances was (omega (arith, low)) in
                let got = ap (slice_get is) place ∙ got_mixed k w.instances was (omega (arith, low)) ∙ ap (slice_get was) (sym place) ∙ lent_at was c.loop-instance.n c.get.result c.get.ensures.lookup in
                let done = puts (with_replaced (listing w is) world) (listing w is) so_far.0 (replaced_found w v world is found) (omega (arith, place, long)) got in
                let put = ap (λ n. with_put w.number n one (with_replaced (listing w is) world)) place ∙ put_replaced w world is k one ∙ ap (λ js. with_replaced (listing w js) world) (put_mixed k w.instances was one one low at ∙ ap (λ n. mixed n w.instances was) next) in (
                  subst (Refines (state g.S.Store c.put_instance.new.tx.conn.now).now) put done.0,
                  λ marked q. done.1 marked (so_far.1 marked q),
                ),
          ),
    )

pub returns : goal.returns
returns g c = record {
  works = search rules;
  puts = λ clean world v found few s.
      let w = c.args.workunit.now in
      let items = c.as_slice-instances.ensures.items in
      let at_end : c.loop-instance.instance-index ≡ length w.instances = omega (arith, c.loop-instance-test.false, c.loop-instance.auto.instance-index-end, ap (λ is. length is) items) in
      let whole = ap (λ n. mixed n w.instances c.args.was.now) at_end ∙ whole_mixed w.instances c.args.was.now few in
      subst (λ is. StandsBeside (with_replaced (listing w is) world) (state g.S.Store c.args.tx.now.conn.now).now (state g.S.Store c.loop-instance.tx.conn.now).now) whole ((c.loop-instance.invariant.3 clean).1 world v found s);
  idle = λ all. (c.loop-instance.invariant.2 all, refl);
  spares = λ clean. (c.loop-instance.invariant.3 clean).0;
}

pub returns-in_err-put_instance : goal.returns-in_err-put_instance
returns-in_err-put_instance g c = record {
  works = search rules;
  puts = search rules;
  idle = λ all.
      let place = c.loop-instance.invariant.0 in
      let w = c.args.workunit.now in
      let k = c.loop-instance.instance-index in
      let one = c.instance-item.result in
      let items = c.as_slice-instances.ensures.items in
      let low : k < length w.instances = omega (arith, c.loop-instance-test.true, ap (λ is. length is) items) in
      let at : get_or w.instances k one ≡ one = ap (λ is. get_or is k one) (sym items) ∙ sym c.instance-item.is in
      let got = sym (lent_at c.args.was.now c.loop-instance.n c.get.result c.get.ensures.lookup) ∙ (λ i. slice_get (all i) (place i)) ∙ slice_get-get_or w.instances k one low ∙ ap (λ (j : Instance). Some j) at in
      absurd (let no = (c.in_err-put_instance.ensures.idle got).1 in cc);
  spares = search rules;
}
