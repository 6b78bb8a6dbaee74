use Rattle.wu_schema.proofs.Words.{IsPermutation-sym}
use Rattle.wu_loader.specs.Granting.{by_name, referred, IsUngranted, Rise}
use Rattle.wu_schema.specs.Reading.{host_row, IsStoredHost}
use Rattle.wu_loader.proofs.TotalLemmas.{other_found}
use Rattle.wu_loader.proofs.WholeLemmas.{sorted_rows}
use Rattle.wu_loader.proofs.totals.sums_from.Goals as goal

pub returns-in-Some : goal.returns-in-Some
returns-in-Some c =
    let grants = c.in_ok-grants.grants.items in
    let sorted = referred c.in_ok-sorted.sorted.items in
    let hosts = c.sort.new.hosts.items in
    let place = c.in-Some.place in
    let rise : Rise hosts = rw c.deref-2.ensures.value at c.in-None.ensures.order in
    let un : IsUngranted sorted hosts place = rw (c.deref-3.ensures.value, c.deref-4.ensures.value) at c.in-Some.ensures.told in
    other_found c.args.grants c.args.hosts grants sorted hosts place c.in_ok-grants.ensures.same
    (IsPermutation-sym _ _ (rw c.deref.ensures.value at c.in_ok-sorted.ensures.same))
    (sorted_rows host_row IsStoredHost by_name c.args.hosts c.in_ok-hosts.hosts.items hosts c.in_ok-hosts.ensures.same c.in_ok-hosts.ensures.each c.in_ok-sort.ensures.same c.in_ok-sort.ensures.sorted)
    rise un c.sums_at.result c.sums_at.ensures.there (rw c.deref-in-Some.ensures.value at c.sums_at.ensures.other)
