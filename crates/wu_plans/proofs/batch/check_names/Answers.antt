use Rattle.wu_store.proofs.AskLemmas.{reads_none, reads_told, reads_made, reads_also, reads_handed, reads_then, reads_both}
use Rattle.std.specs.Prelude.{⊤}
use Rattle.wu_plans.specs.Planning.{FindsFree}
use Rattle.std.proofs.Common.{[], refl, rules, ◌+◌, ◌∙◌, sym, ap, arith, inl, inr}
use Rattle.std.proofs.lemmas.List.Sorted.{IsPermutation-refl}
use Rattle.wu_core.specs.declared.fault.Fault.TheVariants.{WorkunitUsed}
use Rattle.wu_plans.proofs.AskLemmas.{all_free, among_same, free_more, names_more, taken_here}
use Rattle.wu_plans.proofs.batch.check_names.Goals as goal

pub loop-job-init : goal.loop-job-init
loop-job-init g c = (search rules, rw c.new-earlier.ensures.empty (IsPermutation-refl []), reads_none g.S.Store _ tt (λ never. never) (λ world stands. search rules))

pub returns-then-branch : goal.returns-then-branch
returns-then-branch g c =
    let (place, same, free) = c.loop-job.invariant in
    let used = c.in_ok-is_used.field-0 in
    reads_also g.S.Store _ _ used _ (λ is. absurd cc) (inl (_, refl)) (reads_both g.S.Store _ _ _ tt free used (reads_told (λ fault told. inr told) c.in_ok-is_used.ensures.reads)) (λ world stands found.
    let here = taken_here world c.args.jobs.now c.loop-job.job-index c.job-item.result c.job-item.result c.loop-job-test.true (sym c.job-item.is) (sym c.if-branch.true ∙ found.1 ∙ sym (among_same _ _ same world c.job-item.result.name)) found.0 in
    inl ((c.loop-job.job-index, c.job-item.result.name), here, ap (λ n. WorkunitUsed (n + 2)) place)) (λ world stands found any is. absurd cc)

pub loop-job-preserved : goal.loop-job-preserved
loop-job-preserved g c =
    let (place, same, free) = c.loop-job.invariant in
    let used = c.in_ok-is_used.field-0 in (
      ap (λ n. n + 1) place,
      names_more c.args.jobs.now c.loop-job.job-index c.job-item.result c.job-item.result c.loop-job-test.true (sym c.job-item.is) _ _ same (rw c.if-branch.false at c.in_ok-is_used.ensures.adds),
      reads_made g.S.Store _ _ used tt (reads_both g.S.Store _ _ _ tt free used (reads_told (λ fault told. inr told) c.in_ok-is_used.ensures.reads)) (λ world stands found.
          free_more world c.args.jobs.now c.loop-job.job-index c.job-item.result c.job-item.result c.loop-job-test.true (sym c.job-item.is) (sym c.if-branch.false ∙ found.1 ∙ sym (among_same _ _ same world c.job-item.result.name)) found.0),
    )

pub returns-in_err-is_used : goal.returns-in_err-is_used
returns-in_err-is_used g c =
    let (place, same, free) = c.loop-job.invariant in
    let r = c.from_residual.result in
    let handed = reads_handed g.S.Store _ _ {Then = FindsFree c.args.jobs.now} {May = λ _. ⊤} r c.in_err-is_used.field-0.0 c.from_residual.ensures.1 c.in_err-is_used.ensures.reads (λ other told world. inr told) (λ world stands any. tt) in
    reads_then g.S.Store _ _ _ tt free r (reads_told (λ fault told. inr told) handed) (λ world stands found free. free) (λ world stands found any. tt)

pub returns : goal.returns
returns g c =
    let (place, same, free) = c.loop-job.invariant in
    reads_made g.S.Store _ _ tt tt free (λ world stands found. all_free world c.args.jobs.now c.loop-job.job-index (omega (arith, c.loop-job-test.false)) found)
