use Rattle.std.proofs.Common.{List, [], ap, append_assoc, map, rules, subst, sym, ◌++◌, ◌∙◌, ◌∷◌, ◌≡◌}
use Rattle.std.proofs.lemmas.List.{map-append}
use Rattle.wu_views.specs.declared.failures.HostFailures.{HostFailures}
use Rattle.wu_views.specs.declared.waiting.StatusLine.{StatusLine}
use Rattle.wu_views.specs.declared.waiting.StatusLine.TheVariants.{Host}
use Rattle.wu_views.proofs.waiting.with_hosts.Goals as goal

pub loop-host-preserved : goal.loop-host-preserved
loop-host-preserved c =
    let yielded = c.loop-host.yielded in
    let host = c.in-Some.host in
    let rest = c.next.new.self.rest.items in
    let so_far = c.loop-host.invariant in
    let lines = c.args.lines.items in
    let stands : yielded ++ host ∷ rest ≡ c.args.hosts.items = subst (λ (left : List HostFailures). yielded ++ left ≡ c.args.hosts.items) c.in-Some.ensures.steps.0 so_far.0 in
    let pushed : c.push.new.self.items ≡ c.loop-host.lines.items ++ Host host ∷ [] = search rules in (
      append_assoc yielded (host ∷ []) rest ∙ stands,
      pushed ∙ ap (λ (ls : List StatusLine). ls ++ Host host ∷ []) so_far.1 ∙ append_assoc lines (map Host yielded) (Host host ∷ []) ∙ ap (λ (ls : List StatusLine). lines ++ ls) (sym (map-append Host yielded (host ∷ []))),
    )
