use Rattle.std.proofs.Common.{◌≡◌, ℕ, Option, List, take, arith, ap, sym, is_none, ◌∙◌}
use Rattle.std.proofs.lemmas.List.{take_all}
use Rattle.std.specs.List.{enumerate_from, filter_map}
use Rattle.wu_core.specs.declared.workunit.Grant.{Grant}
use Rattle.wu_core.specs.declared.workunit.Instance.{Instance}
use Rattle.wu_rules.specs.Validation.{granted_to, refused_where}
use Rattle.wu_rules.proofs.Lists.{kept_more}
use Rattle.wu_rules.proofs.Refusing.{grants_by-refused}
use Rattle.wu_rules.proofs.validator.grants_by.Goals as goal

pub each-preserved : goal.each-preserved
each-preserved c =
    let gives : ℕ → Instance → Option Grant = λ n i. granted_to c.args.workunit.now c.args.output.now n (refused_where (is_none c.args.workunit.now.canonical) i) in
    c.in_ok-push_some.ensures
    ∙ kept_more gives c.as_slice-instance-items.result.now c.each.n c.instance-item.result _ _ (omega arith) c.each.invariant
    (c.in_ok-grant.ensures ∙ ap (gives c.each.n) c.instance-item.is)

pub returns : goal.returns
returns c =
    let w = c.args.workunit.now in
    let items = c.as_slice-instance-items.result.now in
    let all : take c.each.n items ≡ w.instances = take_all c.each.n items (omega arith) ∙ c.as_slice-instance-items.ensures.items in
    c.each.invariant
    ∙ (ap (λ (xs : List Instance). filter_map (λ p. granted_to w c.args.output.now p.0 (refused_where (is_none w.canonical) p.1)) (enumerate_from 0 xs)) all
    ∙ sym (grants_by-refused (is_none w.canonical) w c.args.output.now))
