use Rattle.wu_schema.proofs.Words.{HasCleanDisk, arith, state}
use Rattle.wu_store.proofs.AskLemmas.{reads_both, reads_handed, reads_made, reads_over, reads_then_handed}
use Rattle.wu_schema.proofs.AskingLemmas.{asks_unchanged, unchanged_then}
use Rattle.wu_views.proofs.CountLemmas.{whole_summary}
use Rattle.wu_views.proofs.CountWalks.{counted_between, summed_since}
use Rattle.wu_views.proofs.counts.summary.Goals as goal

pub returns-in_err-numbers-clause-reads : goal.returns-in_err-numbers-clause-reads
returns-in_err-numbers-clause-reads g c =
    reads_handed g.S.Store _ _ c.from_residual.result c.in_err-numbers.field-0.0 c.from_residual.ensures.1 (reads_over (λ db world stood. stood.1) c.in_err-numbers.ensures.reads) (λ other told world. tt) (λ world stood can. can.numbers)

pub returns-in_err-results-clause-reads : goal.returns-in_err-results-clause-reads
returns-in_err-results-clause-reads g c =
    let one = reads_over (λ db world stood. stood.1) c.in_ok-numbers.ensures.reads in
    reads_then_handed g.S.Store _ _ _ _ one c.from_residual-in_err-results.result c.in_err-results.field-0.0 c.from_residual-in_err-results.ensures.1 (reads_over (λ db world stood. stood.1) c.in_err-results.ensures.reads) (λ other told world. tt) (λ world stood one can. tt)

pub returns-in_err-others-clause-reads : goal.returns-in_err-others-clause-reads
returns-in_err-others-clause-reads g c =
    let two = reads_both g.S.Store _ _ _ _ (reads_over (λ db world stood. stood.1) c.in_ok-numbers.ensures.reads) _ (reads_over (λ db world stood. stood.1) c.in_ok-results.ensures.reads) in
    reads_then_handed g.S.Store _ _ _ _ two c.from_residual-in_err-others.result c.in_err-others.field-0.0 c.from_residual-in_err-others.ensures.1 c.in_err-others.ensures.reads (λ other told world. tt) (λ world stood one can. tt)

pub returns-in_err-granted-clause-reads : goal.returns-in_err-granted-clause-reads
returns-in_err-granted-clause-reads g c =
    let two = reads_both g.S.Store _ _ _ _ (reads_over (λ db world stood. stood.1) c.in_ok-numbers.ensures.reads) _ (reads_over (λ db world stood. stood.1) c.in_ok-results.ensures.reads) in
    let three = reads_both g.S.Store _ _ _ _ two _ c.in_ok-others.ensures.reads in
    reads_then_handed g.S.Store _ _ _ _ three c.from_residual-in_err-granted.result c.in_err-granted.field-0.0 c.from_residual-in_err-granted.ensures.1 (reads_over (λ db world stood. stood.1) c.in_err-granted.ensures.reads) (λ other told world. tt) (λ world stood one can. can.credit)

pub returns-clause-counted : goal.returns-clause-counted
returns-clause-counted g c clean =
    let third : HasCleanDisk (state g.S.Store c.count_others.new.conn) = omega (arith, c.count_grants.ensures.reads.asks.crash.clean, clean) in
    let second : HasCleanDisk (state g.S.Store c.count_results.new.conn) = omega (arith, c.count_others.ensures.reads.asks.crash.clean, third) in
    let first : HasCleanDisk (state g.S.Store c.read_numbers.new.conn) = omega (arith, c.count_results.ensures.reads.asks.crash.clean, second) in
    let before = asks_unchanged g.S.Store _ _ c.in_ok-numbers.numbers c.in_ok-numbers.ensures.reads.asks (c.in_ok-numbers.ensures.reads.opens tt) first in
    let after = unchanged_then _ _ _ (asks_unchanged g.S.Store _ _ c.in_ok-others.others c.in_ok-others.ensures.reads.asks (c.in_ok-others.ensures.reads.opens tt) third) (asks_unchanged g.S.Store _ _ c.in_ok-granted.granted c.in_ok-granted.ensures.reads.asks (c.in_ok-granted.ensures.reads.opens tt) clean) in
    counted_between (state g.S.Store c.args.conn.now) (state g.S.Store c.read_numbers.new.conn) (state g.S.Store c.count_results.new.conn) (state g.S.Store c.count_grants.new.conn) c.in_ok-results.results before (c.in_ok-results.ensures.counted second) after

pub returns-clause-summed : goal.returns-clause-summed
returns-clause-summed g c clean =
    let third : HasCleanDisk (state g.S.Store c.count_others.new.conn) = omega (arith, c.count_grants.ensures.reads.asks.crash.clean, clean) in
    let second : HasCleanDisk (state g.S.Store c.count_results.new.conn) = omega (arith, c.count_others.ensures.reads.asks.crash.clean, third) in
    let first : HasCleanDisk (state g.S.Store c.read_numbers.new.conn) = omega (arith, c.count_results.ensures.reads.asks.crash.clean, second) in
    let numbers = asks_unchanged g.S.Store _ _ c.in_ok-numbers.numbers c.in_ok-numbers.ensures.reads.asks (c.in_ok-numbers.ensures.reads.opens tt) first in
    let results = asks_unchanged g.S.Store _ _ c.in_ok-results.results c.in_ok-results.ensures.reads.asks (c.in_ok-results.ensures.reads.opens tt) second in
    let others = asks_unchanged g.S.Store _ _ c.in_ok-others.others c.in_ok-others.ensures.reads.asks (c.in_ok-others.ensures.reads.opens tt) third in
    summed_since (state g.S.Store c.args.conn.now) (state g.S.Store c.count_others.new.conn) (state g.S.Store c.count_grants.new.conn) c.in_ok-granted.granted (unchanged_then _ _ _ numbers (unchanged_then _ _ _ results others)) (c.in_ok-granted.ensures.counted clean)

pub returns-clause-reads : goal.returns-clause-reads
returns-clause-reads g c =
    let two = reads_both g.S.Store _ _ _ _ (reads_over (λ db world stood. stood.1) c.in_ok-numbers.ensures.reads) _ (reads_over (λ db world stood. stood.1) c.in_ok-results.ensures.reads) in
    let three = reads_both g.S.Store _ _ _ _ two _ c.in_ok-others.ensures.reads in
    reads_made g.S.Store _ _ _ _ (reads_both g.S.Store _ _ _ _ three _ (reads_over (λ db world stood. stood.1) c.in_ok-granted.ensures.reads))
    (λ world stood found. whole_summary world c.in_ok-numbers.numbers c.in_ok-results.results c.in_ok-others.others c.in_ok-granted.granted found.0.0.0 found.0.0.1 found.0.1 found.1)
