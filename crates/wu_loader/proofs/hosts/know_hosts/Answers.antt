use Rattle.wu_schema.proofs.Words.{IsPermutation, IsPermutation-map, IsPermutation-sym, IsPermutation-trans, arith, inl, inr, map, refl, subst, sym, ◌+◌, ◌-◌, ◌∙◌, ◌≡◌}
use Rattle.wu_core.specs.Hosts.{hosts_of}
use Rattle.wu_schema.specs.Refines.{host_of}
use Rattle.wu_loader.specs.Granting.{by_name, referred, AreHosts, IsWrongHost}
use Rattle.wu_schema.specs.Reading.{host_row, IsStoredHost}
use Rattle.wu_loader.proofs.GrantLemmas.{hosts_are, hosts_must, never_hosts}
use Rattle.wu_loader.proofs.RunLemmas.{hosts_moved, wrong_moved}
use Rattle.wu_loader.proofs.WholeLemmas.{handed, rows_plain, sorted_rows}
use Rattle.wu_loader.proofs.hosts.know_hosts.Goals as goal

pub returns-in_err-hosts-clause-none : goal.returns-in_err-hosts-clause-none
returns-in_err-hosts-clause-none c =
    handed c.from_residual.result c.in_err-hosts.field-0.0 _ _ (λ wrong none. never_hosts c.args.rows c.args.grants.now wrong.place none.1) c.from_residual.ensures.1 c.in_err-hosts.ensures.none

pub returns-in-Some-clause-none : goal.returns-in-Some-clause-none
returns-in-Some-clause-none c stored same =
    let rows = c.in_ok-hosts.ensures.same ∙ rows_plain host_row c.in_ok-hosts.hosts.items in
    let moved = IsPermutation-map host_row c.in_ok-hosts.hosts.items c.sort.new.hosts.items c.in_ok-sort.ensures.same in
    let all = IsPermutation-trans _ _ _ (subst (IsPermutation (map (host_of c.args.grants.now) (hosts_of c.args.grants.now))) rows same) moved in
    let grants = c.in_ok-sorted.sorted.items in
    let never : ¬ AreHosts (referred grants) c.sort.new.hosts.items = rw (c.deref.ensures.value, c.deref-2.ensures.value) at c.in-Some.ensures.hosts in
    let turned = IsPermutation-sym _ _ c.in_ok-sorted.ensures.same in
    never (hosts_moved (referred grants) c.args.grants.now turned c.sort.new.hosts.items (hosts_must c.args.grants.now c.sort.new.hosts.items c.in_ok-sort.ensures.sorted all))

pub returns-clause-hosts : goal.returns-clause-hosts
returns-clause-hosts c =
    let rows = c.in_ok-hosts.ensures.same ∙ rows_plain host_row c.in_ok-hosts.hosts.items in
    let moved = IsPermutation-map host_row c.in_ok-hosts.hosts.items c.sort.new.hosts.items c.in_ok-sort.ensures.same in
    let grants = c.in_ok-sorted.sorted.items in
    let these : AreHosts (referred grants) c.sort.new.hosts.items = rw (c.deref.ensures.value, c.deref-2.ensures.value) at c.in-None.ensures.hosts in
    let are = hosts_are c.args.grants.now c.sort.new.hosts.items (hosts_moved c.args.grants.now (referred grants) c.in_ok-sorted.ensures.same c.sort.new.hosts.items these) in
    subst (λ rs. IsPermutation rs c.args.rows) are (subst (IsPermutation (map host_row c.sort.new.hosts.items)) (sym rows) (IsPermutation-sym _ _ moved))

pub returns-in_err-hosts-clause-told : goal.returns-in_err-hosts-clause-told
returns-in_err-hosts-clause-told c = handed c.from_residual.result c.in_err-hosts.field-0.0 _ _ (λ wrong none. (none.0, inl none.1)) c.from_residual.ensures.1 c.in_err-hosts.ensures.none

pub returns-in-Some-clause-told : goal.returns-in-Some-clause-told
returns-in-Some-clause-told c =
    let grants = c.in_ok-sorted.sorted.items in
    let hosts = c.sort.new.hosts.items in
    let wrong : IsWrongHost (referred grants) hosts c.in-Some.wrong = rw (c.deref.ensures.value, c.deref-2.ensures.value) at c.in-Some.ensures.told in
    let moved = wrong_moved (referred grants) c.args.grants.now (IsPermutation-sym _ _ c.in_ok-sorted.ensures.same) hosts c.in-Some.wrong wrong in
    let e : c.in-Some.wrong ≡ c.in-Some.wrong + 1 - 1 = omega arith in (
      refl,
      inr (record {
        hosts = hosts;
        read = sorted_rows host_row IsStoredHost by_name c.args.rows c.in_ok-hosts.hosts.items hosts c.in_ok-hosts.ensures.same c.in_ok-hosts.ensures.each c.in_ok-sort.ensures.same c.in_ok-sort.ensures.sorted;
        counted = omega arith;
        wrong = subst (IsWrongHost c.args.grants.now hosts) e moved;
      }),
    )
