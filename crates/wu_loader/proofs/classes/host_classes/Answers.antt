use Rattle.wu_schema.proofs.Words.{IsPermutation, IsPermutation-map, IsPermutation-sym, IsPermutation-trans, arith, class_cells, inl, inr, map, refl, subst, sym, ◌+◌, ◌-◌, ◌∙◌, ◌≡◌}
use Rattle.std.proofs.lemmas.List.Sorted.{All-permutation}
use Rattle.wu_loader.specs.Classing.{by_classed_host, AreRising}
use Rattle.wu_schema.specs.Reading.{IsStoredHostClass}
use Rattle.wu_loader.specs.Whole.{IsNotAbove}
use Rattle.wu_loader.proofs.ClassLemmas.{rising_in_order, rising_must}
use Rattle.wu_loader.proofs.WholeLemmas.{handed, none_permuted, rows_plain, sorted_rows}
use Rattle.wu_loader.proofs.classes.host_classes.Goals as goal

pub returns-in_err-classes-clause-none : goal.returns-in_err-classes-clause-none
returns-in_err-classes-clause-none c =
    handed c.from_residual.result c.in_err-classes.field-0.0 _ _ (λ wrong none classes stored in_order. none_permuted class_cells IsStoredHostClass c.args.rows wrong.place none.1 classes stored) c.from_residual.ensures.1 c.in_err-classes.ensures.none

pub returns-in-Some-clause-none : goal.returns-in-Some-clause-none
returns-in-Some-clause-none c classes stored in_order same =
    let rows = c.in_ok-classes.ensures.same ∙ rows_plain class_cells c.in_ok-classes.classes.items in
    let moved = IsPermutation-map class_cells c.in_ok-classes.classes.items c.sort.new.classes.items c.in_ok-sort.ensures.same in
    let all = IsPermutation-trans _ _ _ (subst (IsPermutation (map class_cells classes)) rows same) moved in
    let never : ¬ AreRising c.sort.new.classes.items = rw c.deref.ensures.value at c.in-Some.ensures.order in
    never (rising_must classes c.sort.new.classes.items in_order c.in_ok-sort.ensures.sorted all)

pub returns-in-None-clause-same : goal.returns-in-None-clause-same
returns-in-None-clause-same c =
    let rows = c.in_ok-classes.ensures.same ∙ rows_plain class_cells c.in_ok-classes.classes.items in
    let moved = IsPermutation-map class_cells c.in_ok-classes.classes.items c.sort.new.classes.items c.in_ok-sort.ensures.same in
    subst (IsPermutation (map class_cells c.sort.new.classes.items)) (sym rows) (IsPermutation-sym _ _ moved)

pub returns-in-None-clause-order : goal.returns-in-None-clause-order
returns-in-None-clause-order c =
    let up : AreRising c.sort.new.classes.items = rw c.deref.ensures.value at c.in-None.ensures.order in
    rising_in_order c.sort.new.classes.items up

pub returns-in-None-clause-stored : goal.returns-in-None-clause-stored
returns-in-None-clause-stored c = All-permutation IsStoredHostClass c.in_ok-classes.classes.items c.sort.new.classes.items c.in_ok-sort.ensures.same c.in_ok-classes.ensures.each

pub returns-in_err-classes-clause-told : goal.returns-in_err-classes-clause-told
returns-in_err-classes-clause-told c = handed c.from_residual.result c.in_err-classes.field-0.0 _ _ (λ wrong none. (none.0, inl none.1)) c.from_residual.ensures.1 c.in_err-classes.ensures.none

pub returns-in-Some-clause-told : goal.returns-in-Some-clause-told
returns-in-Some-clause-told c =
    let classes = c.sort.new.classes.items in
    let twice : IsNotAbove by_classed_host classes c.in-Some.wrong = rw c.deref.ensures.value at c.in-Some.ensures.told in
    let e : c.in-Some.wrong ≡ c.in-Some.wrong + 1 - 1 = omega arith in (
      refl,
      inr (record {
        classes = classes;
        read = sorted_rows class_cells IsStoredHostClass by_classed_host c.args.rows c.in_ok-classes.classes.items classes c.in_ok-classes.ensures.same c.in_ok-classes.ensures.each c.in_ok-sort.ensures.same c.in_ok-sort.ensures.sorted;
        counted = omega arith;
        twice = subst (IsNotAbove by_classed_host classes) e twice;
      }),
    )
