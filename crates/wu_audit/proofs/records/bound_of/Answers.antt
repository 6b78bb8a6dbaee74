use Rattle.std.proofs.Common.{arith, ltb, rules}
use borrow.Author.Tests.{tests}
use Rattle.std.proofs.lemmas.Bool.{ltb-false, ltb-true}
use Rattle.std.proofs.lemmas.List.Sorted.{IsPartitionPoint-from_clause, IsPartitionedBy-ltb}
use Rattle.wu_core.specs.declared.workunit.Workunit.{Workunit}
use Rattle.wu_audit.proofs.PlacingLemmas.{never_falls}
use Rattle.wu_audit.proofs.records.bound_of.Goals as goal

pub returns : goal.returns
returns c =
    let split = IsPartitionPoint-from_clause (λ (w : Workunit). ltb w.number c.args.number) c.args.workunits.now c.partition_point.result
    c.partition_point.ensures.partitioned (IsPartitionedBy-ltb (λ (w : Workunit). w.number) c.args.workunits.now c.args.number (never_falls c.args.workunits.now c.requires))
    (λ a r q k. search (rules, tests)) in
    record {
      within = c.partition_point.ensures.bound;
      below = λ k d lt. ltb-true _ _ (split.0 k d (omega arith) lt);
      above = λ k d le lt. ltb-false _ _ (split.1 k d le lt);
    }
