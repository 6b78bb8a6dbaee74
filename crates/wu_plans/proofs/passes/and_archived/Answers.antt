use Rattle.wu_store.proofs.AskLemmas.{reads_handed, reads_also, reads_none, reads_if}
use Rattle.std.proofs.Common.{[], List, append-nil, arith, length, refl, rules, subst, sym, true, ◌+◌, ◌++◌, ◌==◌, ◌≡◌}
use Rattle.std.proofs.lemmas.List.{nil_from_length}
use Rattle.std.proofs.lemmas.Bool.Decides.{nat_tests}
use Rattle.wu_core.specs.declared.workunit.Archived.{Archived}
use Rattle.wu_store.specs.Changing.{archived_from}
use Rattle.wu_plans.proofs.ExitLemmas.{memory_told, memory_unbroken, memory_unrefused}
use Rattle.wu_plans.proofs.passes.and_archived.Goals as goal

pub returns-then-is_empty : goal.returns-then-is_empty
returns-then-is_empty g c =
    let none : (length c.args.archived.items == 0) ≡ true = search rules in
    let empty : c.args.archived.items ≡ [] = nil_from_length c.args.archived.items (grind (arith, nat_tests, none)) in
    let was = c.args.changes.now.items in
    reads_none g.S.Store _ tt (λ some. absurd (grind (arith, nat_tests, none, some))) (λ world stands. record {
      place = length world.archived + 1;
      next = refl;
      changes = subst (λ (rows : List Archived). was ≡ was ++ archived_from (length world.archived + 1) rows) (sym empty) (sym (append-nil was));
    })

pub returns-in_err-place : goal.returns-in_err-place
returns-in_err-place g c = reads_handed g.S.Store _ _ c.from_residual.result c.in_err-place.field-0.0 c.from_residual.ensures.1 (reads_if (λ some. tt) c.in_err-place.ensures.reads) (λ other told world. tt) (λ world stands any. tt)

pub returns : goal.returns
returns g c =
    reads_also g.S.Store _ _ c.in_ok-place.place c.with_archived.result (memory_unbroken c.with_archived.result c.with_archived.ensures.fault) (memory_told c.with_archived.result c.with_archived.ensures.fault) (reads_if (λ some. tt) c.in_ok-place.ensures.reads) (λ world stands earlier. search rules)
    (λ world stands earlier can. memory_unrefused c.with_archived.result c.with_archived.ensures.fault)
