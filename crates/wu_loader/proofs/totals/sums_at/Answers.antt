use Rattle.wu_schema.proofs.Words.{arith, length, refl, ◌≡◌}
use Rattle.wu_loader.proofs.TotalLemmas.{sums_of_run}
use Rattle.wu_loader.proofs.totals.sums_at.Goals as goal
use Rattle.wu_loader.proofs.totals.sums_at.Goals.{else-kept-credit-via-then-kept-credit+else-kept-count, else-kept-credit-via-else-kept-credit}

pub returns-clause-other : goal.returns-clause-other
returns-clause-other c =
    let kept = c.swap_remove-kept.result in
    let credit = c.in_ok-credit.credit in
    let count = length c.run_of-run.result.now in
    let differ : kept.total ≡ credit → kept.grants ≡ count → ⊥ = λ total grants. elim c.else-kept-credit.branch [
      | else-kept-credit-via-then-kept-credit+else-kept-count w ↦ let no = w.if-kept-count.false in omega (arith, no, grants)
      | else-kept-credit-via-else-kept-credit w ↦ let no = w.if-kept-credit.false in omega (arith, no, total)
    ] in
    sums_of_run c.args.grants.now c.run_of-run.result.now kept credit count c.run_of-run.ensures c.in_ok-credit.ensures refl differ
