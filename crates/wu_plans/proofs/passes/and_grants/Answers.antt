use Rattle.wu_store.proofs.AskLemmas.{reads_handed, reads_also, reads_none, reads_if}
use Rattle.wu_plans.proofs.ExitLemmas.{memory_told, memory_unbroken, memory_unrefused}
use Rattle.std.proofs.Common.{arith, length, rules, true, ◌<◌, ◌==◌, ◌≡◌}
use Rattle.std.proofs.lemmas.Bool.Decides.{nat_tests}
use Rattle.wu_schema.proofs.CallLemmas.{ok_on}
use Rattle.wu_plans.proofs.PassPlanLemmas.{has_grants}
use Rattle.wu_plans.proofs.passes.and_grants.Goals as goal

pub returns-then-is_empty : goal.returns-then-is_empty
returns-then-is_empty g c =
    let none : (length c.args.grants.items == 0) ≡ true = search rules in
    reads_none g.S.Store _ tt (λ some. absurd (grind (arith, nat_tests, none, some))) (λ world stands. search rules)

pub returns-in_err-place : goal.returns-in_err-place
returns-in_err-place g c = reads_handed g.S.Store _ _ c.from_residual.result c.in_err-place.field-0.0 c.from_residual.ensures.1 (reads_if (λ some. tt) c.in_err-place.ensures.reads) (λ other told world. tt) (λ world stands any. tt)

pub returns : goal.returns
returns g c =
    reads_also g.S.Store _ _ c.in_ok-place.place c.with_grants.result (memory_unbroken c.with_grants.result c.with_grants.ensures.fault) (memory_told c.with_grants.result c.with_grants.ensures.fault) (reads_if (λ some. tt) c.in_ok-place.ensures.reads) (λ world stands earlier. let grants = c.args.grants.items in
    let some : 0 < length grants = search rules in
    ok_on c.with_grants.result _ _ (has_grants world c.in_ok-place.place grants c.args.changes.now.items c.with_grants.new.changes.items earlier some) c.with_grants.ensures.ok)
    (λ world stands earlier can. memory_unrefused c.with_grants.result c.with_grants.ensures.fault)
