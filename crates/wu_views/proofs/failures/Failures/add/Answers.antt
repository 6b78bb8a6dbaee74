use Rattle.std.proofs.Common.{Equal, List, Err, ap, length, subst, slice_set, ◌∙◌, ◌<◌, ◌≡◌, ◌≤◌}
use Rattle.std.specs.List.{HoldsAt}
use Rattle.std.specs.List.Sorted.{IsBinarySearchResult}
use Rattle.wu_views.specs.Failures.{with_more_failures}
use Rattle.wu_views.specs.declared.failures.HostFailures.{HostFailures}
use Rattle.wu_schema.proofs.CallLemmas.{ok_on}
use Rattle.wu_views.proofs.FailureLemmas.{found_more, missing_put, stands}
use Rattle.wu_views.proofs.failures.Failures.add.Goals as goal

pub returns-in-Ok-clause-added : goal.returns-in-Ok-clause-added
returns-in-Ok-clause-added c =
    let hosts = c.args.self.now.hosts.items in
    let host = c.args.name.now in
    let place = c.in-Ok.place in
    let one = c.index_mut.result.now in
    let within : place < length hosts = subst (λ (hs : List HostFailures). place < length hs) c.deref.ensures.value c.in-Ok.ensures.within in
    let found : HoldsAt (λ (h : HostFailures). stands host h ≡ Equal) hosts place = subst (λ (hs : List HostFailures). HoldsAt (λ (h : HostFailures). stands host h ≡ Equal) hs place) c.deref.ensures.value c.in-Ok.ensures.found in
    ok_on c.add.result _ _ (λ added rise. ap (slice_set hosts place) (added ∙ ap (with_more_failures c.args.errors c.args.no_replies) c.index_mut.ensures.value) ∙ found_more host c.args.errors c.args.no_replies hosts place one rise within found) c.add.ensures.added

pub returns-in-Err-clause-added : goal.returns-in-Err-clause-added
returns-in-Err-clause-added c =
    let hosts = c.args.self.now.hosts.items in
    let host = c.args.name.now in
    let place = c.in-Err.place in
    let within : place ≤ length hosts = subst (λ (hs : List HostFailures). place ≤ length hs) c.deref.ensures.value c.in-Err.ensures.within in
    let found : IsBinarySearchResult (stands host) hosts (Err place) = subst (λ (hs : List HostFailures). IsBinarySearchResult (stands host) hs (Err place)) c.deref.ensures.value c.in-Err.ensures.found in
    ok_on c.insert.result _ _ (λ inserted rise. inserted ∙ missing_put host c.args.errors c.args.no_replies hosts place rise within found) c.insert.ensures.inserted
