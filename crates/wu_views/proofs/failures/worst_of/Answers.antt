use Rattle.std.proofs.Common.{List, [], ap, append_assoc, rules, subst, take, ◌++◌, ◌∙◌, ◌∷◌, ◌≡◌}
use Rattle.std.specs.List.{insert}
use Rattle.wu_views.specs.Failures.{with_host_failures}
use Rattle.wu_views.specs.declared.failures.TheConstants.{MOST_HOSTS}
use Rattle.wu_views.specs.declared.failures.HostFailures.{HostFailures}
use Rattle.wu_views.proofs.FailureLemmas.{worst_more}
use Rattle.wu_views.proofs.failures.worst_of.Goals as goal

pub loop-host-preserved : goal.loop-host-preserved
loop-host-preserved c =
    let yielded = c.loop-host.yielded in
    let host = c.in-Some.host in
    let rest = c.next.new.self.rest.items in
    let so_far = c.loop-host.invariant in
    let stands : yielded ++ host ∷ rest ≡ c.args.hosts.items = subst (λ (left : List HostFailures). yielded ++ left ≡ c.args.hosts.items) c.in-Some.ensures.steps.0 so_far.0 in
    let place = c.place_among-place.result in
    let put : c.insert.new.self.items ≡ insert c.loop-host.worst.items place host = search rules in
    let at : insert c.loop-host.worst.items place host ≡ with_host_failures c.loop-host.worst.items host = subst (λ (hs : List HostFailures). insert hs place host ≡ with_host_failures hs host) c.deref.ensures.value c.place_among-place.ensures.place in
    (append_assoc yielded (host ∷ []) rest ∙ stands, c.truncate.ensures.items ∙ ap (take MOST_HOSTS) (put ∙ at ∙ ap (λ hs. with_host_failures hs host) so_far.1) ∙ worst_more yielded host)
