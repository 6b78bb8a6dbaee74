use Rattle.std.proofs.Common.{rules, ◌≡◌, ◌∙◌, ℕ, List, Some, None, sym, ap, subst, string_bytes}
use Rattle.std.specs.BTreeMap.{get_by_text, UpdatesBy}
use Rattle.std.specs.Cmp.Lexicographic.{slice_cmp}
use Rattle.std.specs.List.{AllByRecursion}
use Rattle.std.specs.Map.{values_of}
use Rattle.std.specs.Ordering.{nat_cmp}
use Rattle.std.specs.String.{string_cmp}
use Rattle.wu_core.specs.declared.workunit.Workunit.{Workunit}
use Rattle.wu_plans.specs.declared.touched.Touch.{Touch}
use Rattle.wu_machine.specs.FileRows.{KeepsIdentity}
use Rattle.wu_plans.specs.Touched.{IsUnderItsName, LeavesBy, touched_named}
use Rattle.wu_plans.proofs.NamedLemmas.{left_is, left_named, named_is, under_set}
use Rattle.wu_plans.proofs.touched.Touched.apply.Goals as goal

pub returns-in_default-clause-verdict : goal.returns-in_default-clause-verdict
returns-in_default-clause-verdict g c =
    let none : get_by_text c.self.inside.by_name ((g.R.FileRow.rule c.args.class).workunit c.args.row) ≡ None = search rules in
    let found : touched_named c.args.self.now ((g.R.FileRow.rule c.args.class).workunit c.args.row) ≡ None =
    ap (λ (ts : List Touch). touched_named ts ((g.R.FileRow.rule c.args.class).workunit c.args.row)) (sym c.self.view_is) ∙ named_is c.self.inside.by_name.entries c.self.invariant ((g.R.FileRow.rule c.args.class).workunit c.args.row) ∙ none in
    rw found c.unknown.ensures

pub invariant_of-self-2 : goal.invariant_of-self-2
invariant_of-self-2 g c =
    let left : Touch = record c.in-Some.touch.now { now = c.apply.new.workunit } in
    rw (c.get_mut.follows.holds left).0
    (under_set _ c.self.inside.by_name.entries c.in-Some.touch.now left (search rules) c.apply.ensures.keeps.name c.self.invariant)

pub returns-clause-verdict : goal.returns-clause-verdict
returns-clause-verdict g c =
    let n = (g.R.FileRow.rule c.args.class).workunit c.args.row in
    let there : get_by_text c.self.inside.by_name n ≡ Some c.in-Some.touch.now = search rules in
    let found = ap (λ (ts : List Touch). touched_named ts n) (sym c.self.view_is) ∙ named_is c.self.inside.by_name.entries c.self.invariant n ∙ there in
    rw found c.apply.ensures.verdict

pub returns-clause-left : goal.returns-clause-left
returns-clause-left g c =
    let n = (g.R.FileRow.rule c.args.class).workunit c.args.row in
    let there : get_by_text c.self.inside.by_name n ≡ Some c.in-Some.touch.now = search rules in
    let after : Touch = record c.in-Some.touch.now { now = c.apply.new.workunit } in
    let lent = c.get_mut.follows.lender after in
    let written = c.get_mut.follows.holds after in
    let named : c.as_str.result.now ≡ n = c.as_str.ensures ∙ c.workunit.ensures c.args.class in
    let under : AllByRecursion IsUnderItsName lent.entries = rw written.0 (under_set _ c.self.inside.by_name.entries c.in-Some.touch.now after (search rules) c.apply.ensures.keeps.name c.self.invariant) in
    subst (λ (ts : List Touch). LeavesBy (g.R.FileRow.rule c.args.class) c.args.row c.apply.result ts (values_of lent.entries)) c.self.view_is
    (left_named (g.R.FileRow.rule c.args.class) c.args.row c.apply.result c.self.inside.by_name lent c.in-Some.touch.now c.apply.new.workunit c.self.invariant under
    (named_is c.self.inside.by_name.entries c.self.invariant n ∙ there)
    (left_is (g.R.FileRow.rule c.args.class) c.args.row c.apply.result c.in-Some.touch.now.now c.apply.new.workunit c.apply.ensures.applied c.apply.ensures.skipped)
    (subst (λ (bytes : List ℕ). UpdatesBy string_cmp (λ k. slice_cmp nat_cmp bytes (string_bytes k)) c.self.inside.by_name lent (Some after)) named (written.3 (search rules))))

pub returns-clause-keeps : goal.returns-clause-keeps
returns-clause-keeps g c =
    let n = (g.R.FileRow.rule c.args.class).workunit c.args.row in
    let there : get_by_text c.self.inside.by_name n ≡ Some c.in-Some.touch.now = search rules in
    let found = ap (λ (ts : List Touch). touched_named ts n) (sym c.self.view_is) ∙ named_is c.self.inside.by_name.entries c.self.invariant n ∙ there in
    rw found
    (subst (λ (w : Workunit). KeepsIdentity c.in-Some.touch.now.now w)
    (left_is (g.R.FileRow.rule c.args.class) c.args.row c.apply.result c.in-Some.touch.now.now c.apply.new.workunit c.apply.ensures.applied c.apply.ensures.skipped) c.apply.ensures.keeps)
