use Rattle.std.proofs.Common.{rules, ◌≡◌, ◌<◌, ◌++◌, ◌∷◌, [], ◌∙◌, get_or, length, take, sym, ap, arith}
use Rattle.std.proofs.lemmas.List.{take_more, take_all}
use Rattle.std.proofs.lemmas.List.Elements.{All-push}
use Rattle.std.specs.Prelude.{IfErr}
use Rattle.wu_core.specs.declared.workunit.Workunit.{Workunit}
use Rattle.wu_core.specs.Formed.{IsWorkunit}
use Rattle.wu_schema.specs.Reading.{IsReadFault}
use Rattle.wu_store.proofs.QueuedLemmas.{as_many, number_at, storable_at}
use Rattle.wu_store.proofs.AskLemmas.{nothing_handed, reads_made, reads_then_handed, reads_also, reads_both, never_broken, fault_read}
use Rattle.wu_store.proofs.due.load_all.Goals as goal

pub loop-row-preserved : goal.loop-row-preserved
loop-row-preserved g c =
    let w = c.in_ok-workunit.workunit in
    let pushed : c.push.new.self.items ≡ c.loop-row.found.items ++ w ∷ [] = search rules in
    record {
      long = search (arith, rules);
      formed = rw pushed (All-push IsWorkunit c.loop-row.found.items w c.loop-row.invariant.formed c.in_ok-workunit.ensures.formed);
      reads = reads_made g.S.Store _ _ w tt (reads_both g.S.Store _ _ _ tt c.loop-row.invariant.reads w c.in_ok-workunit.ensures.reads) (λ world stands found known ws are.
          let i = c.loop-row.row-index in
          let low : i < length c.args.rows.now = omega (arith, c.loop-row-test.true) in
          let same : w ≡ get_or ws i w = found.1 known (get_or ws i w) (number_at c.args.rows.now ws world are i c.row-item.result w low (sym c.row-item.is)) in
          pushed ∙ ap (λ xs. xs ++ w ∷ []) (found.0 known ws are) ∙ ap (λ (v : Workunit). take i ws ++ v ∷ []) same
          ∙ sym (take_more ws i w (omega (arith, low, as_many c.args.rows.now ws world are))));
    }

pub returns-in_err-workunit : goal.returns-in_err-workunit
returns-in_err-workunit g c =
    let same = c.from_residual.ensures.1 in
    let low : c.loop-row.row-index < length c.args.rows.now = omega (arith, c.loop-row-test.true) in
    record {
      formed = nothing_handed _ _ same _;
      long = nothing_handed _ _ same _;
      reads = reads_then_handed g.S.Store _ _ _ tt c.loop-row.invariant.reads _ _ same c.in_err-workunit.ensures.reads (λ other told world known ws are. told)
          (λ world stands found can. storable_at c.args.rows.now can.1 world can.2 can.0 can.3 c.loop-row.row-index c.row-item.result low (sym c.row-item.is));
    }

pub returns-in_err-push-clause-reads : goal.returns-in_err-push-clause-reads
returns-in_err-push-clause-reads g c =
    let r = c.from_residual-in_err-push.result in
    let told : IfErr r IsReadFault = search rules in
    let w = c.in_ok-workunit.workunit in
    reads_also g.S.Store _ _ _ _ (never_broken _ told) (fault_read _ told) (reads_both g.S.Store _ _ _ tt c.loop-row.invariant.reads w c.in_ok-workunit.ensures.reads) (λ world stands found known ws are. search rules) (λ world stands found can. search rules)

pub returns-clause-reads : goal.returns-clause-reads
returns-clause-reads g c =
    reads_made g.S.Store _ _ tt _ c.loop-row.invariant.reads (λ world stands found known ws are.
    let at_end : length c.args.rows.now ≡ c.loop-row.row-index = omega (arith, c.loop-row-test.false, c.loop-row.auto.row-index-end) in
    found known ws are ∙ take_all c.loop-row.row-index ws (omega (arith, at_end, as_many c.args.rows.now ws world are)))
