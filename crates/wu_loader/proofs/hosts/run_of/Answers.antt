use Rattle.std.proofs.Common.{rules, of_calls, is_le, is_lt, ◌≡◌, ◌≤◌, true, false}
use Rattle.std.specs.List.Sorted.{IsPartitionPoint}
use Rattle.std.proofs.lemmas.List.Sorted.{IsPartitionPoint-from_clause}
use Rattle.wu_loader.proofs.RunLemmas.{parted_below, parted_upto, run_begins, run_is, stands}
use Rattle.wu_loader.proofs.hosts.run_of.Goals as goal
use Rattle.wu_loader.proofs.hosts.run_of.Goals.{After-partition_point-end}

below : (c : After-partition_point-end) → IsPartitionPoint (λ g. is_lt (stands c.args.name.now g) ≡ true) (λ g. is_lt (stands c.args.name.now g) ≡ false) c.args.grants.now c.partition_point-start.result
below c = IsPartitionPoint-from_clause (λ g. is_lt (stands c.args.name.now g)) c.args.grants.now c.partition_point-start.result c.partition_point-start.ensures.partitioned (parted_below c.args.name.now c.args.grants.now c.requires) (λ a r q k. search (rules, of_calls))

upto : (c : After-partition_point-end) → IsPartitionPoint (λ g. is_le (stands c.args.name.now g) ≡ true) (λ g. is_le (stands c.args.name.now g) ≡ false) c.args.grants.now c.partition_point-end.result
upto c = IsPartitionPoint-from_clause (λ g. is_le (stands c.args.name.now g)) c.args.grants.now c.partition_point-end.result c.partition_point-end.ensures.partitioned (parted_upto c.args.name.now c.args.grants.now c.requires) (λ a r q k. search (rules, of_calls))

begins : (c : After-partition_point-end) → c.partition_point-start.result ≤ c.partition_point-end.result
begins c = run_begins c.args.name.now c.args.grants.now c.partition_point-start.result c.partition_point-end.result (below c) (upto c) c.partition_point-start.ensures.bound

pub slice_bounds-result-count : goal.slice_bounds-result-count
slice_bounds-result-count c = begins (goal.at.slice_bounds-result-count c).After-partition_point-end

pub slice_bounds-result-start : goal.slice_bounds-result-start
slice_bounds-result-start c = begins (goal.at.slice_bounds-result-start c).After-partition_point-end

pub returns : goal.returns
returns c =
    let at = (goal.at.returns c).After-partition_point-end in
    run_is c.args.name.now c.args.grants.now c.partition_point-start.result c.partition_point-end.result (below at) (upto at) (begins at) c.partition_point-end.ensures.bound
