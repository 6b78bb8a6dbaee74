use Rattle.std.proofs.Common.{rules, ◌≡◌, List, Some, subst, string_bytes}
use Rattle.std.specs.BTreeMap.{UpdatesBy}
use Rattle.std.specs.List.{AllByRecursion}
use Rattle.std.specs.Map.{values_of}
use Rattle.std.specs.String.{string_cmp}
use Rattle.wu_core.specs.declared.workunit.Workunit.{Workunit}
use Rattle.wu_plans.specs.declared.touched.Touch.{Touch}
use Rattle.wu_plans.specs.Touched.{HasAlso, IsUnderItsName}
use Rattle.wu_plans.proofs.NamedLemmas.{also_inserted, under_inserted}
use Rattle.wu_plans.proofs.touched.Touched.insert.Goals as goal

pub invariant_of-self-2 : goal.invariant_of-self-2
invariant_of-self-2 c =
    let is : string_bytes c.in_ok-name.name ≡ c.args.workunit.name = search rules in
    rw c.in_ok-insert.ensures.entries (under_inserted c.self.inside.by_name.entries c.in_ok-name.name (record { was = c.in_ok-was.was'; now = c.args.workunit }) is c.self.invariant)

pub returns-clause-also : goal.returns-clause-also
returns-clause-also c =
    let touch : Touch = record { was = c.in_ok-was.was'; now = c.args.workunit } in
    let is : string_bytes c.in_ok-name.name ≡ c.args.workunit.name = search rules in
    let new : AllByRecursion IsUnderItsName c.insert.new.self.entries = rw c.in_ok-insert.ensures.entries (under_inserted c.self.inside.by_name.entries c.in_ok-name.name touch is c.self.invariant) in
    subst (λ (ts : List Touch). HasAlso c.args.workunit ts (values_of c.insert.new.self.entries)) c.self.view_is
    (also_inserted c.self.inside.by_name c.insert.new.self c.in_ok-name.name c.args.workunit is c.self.invariant new
    (subst (λ (was : Workunit). UpdatesBy string_cmp (string_cmp c.in_ok-name.name) c.self.inside.by_name c.insert.new.self (Some (record { was = was; now = c.args.workunit }))) c.in_ok-was.ensures.ok c.in_ok-insert.ensures.updates))
