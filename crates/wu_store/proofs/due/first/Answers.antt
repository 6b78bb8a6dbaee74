use Rattle.std.proofs.Common.{◌≡◌, ◌∙◌, None, Option, Some, sym, subst, arith}
use Rattle.sqlite.specs.Held.{state}
use Rattle.wu_core.specs.declared.workunit.Workunit.{Workunit}
use Rattle.wu_store.specs.Answers.{numbered}
use Rattle.wu_store.specs.Loading.{Finds}
use Rattle.wu_store.proofs.AskLemmas.{reads_handed, reads_made, reads_then, reads_if}
use Rattle.wu_store.proofs.DueLemmas.{above_first, above_loads, numbered_loads, zero_first}
use Rattle.wu_store.proofs.due.first.Goals as goal

pub returns-in_err-workunit : goal.returns-in_err-workunit
returns-in_err-workunit g c =
    let same = c.from_residual.ensures.1 in
    record {
      reads = reads_handed g.S.Store _ _ _ _ same (reads_if (λ asked. omega arith) c.in_err-workunit.ensures.reads) (λ other told world early. told) (λ world stands storable. (numbered_loads 0 world (omega arith) storable));
    }

pub returns-in-Some : goal.returns-in-Some
returns-in-Some g c = record {
  reads = reads_made g.S.Store _ _ c.in_ok-workunit.field-0 _ (reads_if (λ asked. omega arith) c.in_ok-workunit.ensures.reads) (λ world stands found early.
      let same : Some c.in-Some.workunit ≡ numbered 0 world = sym c.in-Some.is ∙ found early in
      zero_first (state g.S.Store c.args.conn.now).now world stands c.in-Some.workunit same);
}

pub returns-in-None : goal.returns-in-None
returns-in-None g c = record {
  reads = reads_then g.S.Store _ _ _ c.in_ok-workunit.field-0 (reads_if (λ asked. omega arith) c.in_ok-workunit.ensures.reads) c.load_above.result c.load_above.ensures.reads (λ world stands one two early.
      let none : None ≡ numbered 0 world = sym c.in-None.is ∙ one early in
      subst (λ (found : Option Workunit). Finds found c.load_above.result) (above_first world none) (two early)) (λ world stands one storable. above_loads 0 world (omega arith) storable);
}
