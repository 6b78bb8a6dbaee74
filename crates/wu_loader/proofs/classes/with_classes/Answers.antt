use Rattle.wu_schema.proofs.Words.{List, None, Option, Some, Workunit, ap, arith, length, length-map, refl, rules, slice_get, subst, sym, ◌+◌, ◌<◌, ◌∙◌, ◌≡◌, ◌≢◌, ◌≤◌}
use Rattle.std.proofs.Common.{get_or}
use Rattle.std.proofs.lemmas.Option.{slice_get-get_or, slice_get_past}
use Rattle.wu_loader.specs.Classing.{numbers, numbers_classed}
use Rattle.wu_loader.specs.Whole.{DiffersAt}
use Rattle.wu_loader.specs.declared.rows.Classed.{Classed}
use Rattle.wu_loader.proofs.ClassLemmas.{classes_next, differs_next, never_past, none_left, not_classed}
use Rattle.wu_loader.proofs.InPlaceLemmas.{next_is}
use Rattle.wu_loader.proofs.WholeLemmas.{lists_differ}
use Rattle.wu_loader.proofs.classes.with_classes.Goals.{in_default-via-in-Some+else-one-workunit, in_default-via-in-None-1}
use Rattle.wu_loader.proofs.classes.with_classes.Goals as goal

one_value : (a b : Classed) → ◌≡◌ {A = Option Classed} (Some a) (Some b) → a ≡ b
one_value a b same = cc

never_some : (a : Classed) → ◌≡◌ {A = Option Classed} None (Some a) → ⊥
never_some a same = absurd cc

pub loop-n-preserved : goal.loop-n-preserved
loop-n-preserved c =
    let it = c.in-Some.ensures.lookup in
    let low : c.loop-n.n < length c.loop-n.workunit-items = search rules in
    classes_next _ _ _ _ c.loop-n.invariant c.workunit-item.result c.in-Some.one.now low it.3.0 (sym it.1) c.if-one-workunit.true

pub returns-in_default-clause-told : goal.returns-in_default-clause-told
returns-in_default-clause-told c =
    let so_far = c.loop-n.invariant in
    let n = c.loop-n.n in
    let now = c.loop-n.workunit-items in
    let classes = c.args.classes.now in
    let low : n < length now = search rules in
    let next = next_is c.args.workunits.items now n c.workunit-item.result low so_far.stays in
    let other = not_classed classes n (get_or now n c.workunit-item.result).number (λ one there same. elim c.in_default.branch [
      | in_default-via-in-Some+else-one-workunit w ↦
          let it = w.in-Some.ensures.lookup in
          let got = slice_get-get_or classes n w.in-Some.one.now it.3.0 ∙ ap Some (sym it.1) in
          w.if-one-workunit.false (ap (λ (k : Classed). k.workunit) (one_value w.in-Some.one.now one (sym got ∙ there)) ∙ same)
      | in_default-via-in-None-1 w ↦
          let past : length classes ≤ n = search rules in
          never_some one (sym (slice_get_past classes n past) ∙ there)
    ]) in
    (refl, differs_next _ _ _ _ so_far (omega (arith, low)) (subst (λ (ws : List Workunit). slice_get (numbers_classed classes) n ≢ slice_get (numbers ws) 0) (sym next) other))

pub returns-in_default-clause-none : goal.returns-in_default-clause-none
returns-in_default-clause-none c = lists_differ _ _ _ (returns-in_default-clause-told c).1

pub returns-then-n-classes-clause-told : goal.returns-then-n-classes-clause-told
returns-then-n-classes-clause-told c =
    let so_far = c.loop-n.invariant in
    let classes = c.args.classes.now in
    let end : length c.loop-n.workunit-items ≤ c.loop-n.n = search rules in
    let n : c.len-n.result ≡ c.loop-n.n = search rules in
    let more : c.len-n.result < length classes = search rules in
    let all = length-map classes (λ (it : Classed). it.workunit) in
    let other = never_past (numbers_classed classes) c.loop-n.n (omega (arith, n, more, all)) in
    let differs = differs_next _ _ _ _ so_far (search rules) (subst (λ (ws : List Workunit). slice_get (numbers_classed classes) c.loop-n.n ≢ slice_get (numbers ws) 0) (sym (none_left _ _ _ _ so_far end)) other) in
    (refl, subst (λ k. DiffersAt (numbers c.args.workunits.items) (numbers_classed classes) (k + 1)) (sym n) differs)
