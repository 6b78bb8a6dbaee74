-- When a transition gives a workunit up.
use Rattle.std.proofs.Common.{◌≡◌, ℕ, nat_lt, Bool, true, false, ◌&&◌, ◌||◌, is_none, refl, sym, ap, ◌∙◌, arith}
use Rattle.std.proofs.lemmas.Bool.Decides.{nat_tests}
use Rattle.std.proofs.lemmas.Bool.{lt-ltb, ltb-true}
use Rattle.wu_core.specs.declared.mask.ErrorMask.{ErrorMask}
use Rattle.wu_core.specs.declared.workunit.Workunit.{Workunit}
use Rattle.wu_rules.specs.Instances.{is_done_assimilate}
use Rattle.wu_rules.specs.Counts.{errors, is_clear, is_undecided}
use Rattle.wu_rules.specs.Transition.{ended, extended, has_too_many_errors, has_too_many_total, settled, timed, transitioned, with_files_readied}
use Rattle.wu_rules_laws.specs.Transitions.{GetsNoFurther, GivesUp}
use Rattle.wu_rules_laws.proofs.Changed.{cond_keeps, or_false}
use Rattle.wu_rules_laws.proofs.Planned.{clear_of, no_errors_planned, no_total_planned}
use Rattle.wu_rules_laws.proofs.Spent.{and_right}

-- the mask after a transition is that of its plan
pub mask-transitioned : (w : Workunit) (now : ℕ) → (transitioned w now).error_mask ≡ (extended (timed w now)).error_mask
unfolding transitioned
mask-transitioned w now =
    let e = extended (timed w now) in
    cond_keeps (λ v. v.error_mask) (is_done_assimilate (settled e).assimilate) (with_files_readied (settled e)) (settled e) refl
    ∙ cond_keeps (λ v. v.error_mask) (is_clear e.error_mask) e (ended e) refl

-- the test for a workunit that gets no further
pub further_of : (t : Workunit) → has_too_many_total t ≡ true → GetsNoFurther t
further_of t e = record {
  borne = grind (arith, nat_tests);
  wanting = grind (arith, nat_tests);
  full = grind (arith, nat_tests);
  nothing_unsent = grind (arith, nat_tests);
  nothing_out = grind (arith, nat_tests);
  nothing_to_validate = grind arith;
}

pub from_further : (t : Workunit) → is_undecided t ≡ true → GetsNoFurther t → has_too_many_total t ≡ true
from_further t undecided it = grind (arith, nat_tests)

-- a bit that was not set is set by its test alone
set_by : (old test : Bool) → old ≡ false → (old || test) ≡ test
set_by old test e = ap (λ b. b || test) e

-- a bit stays where its test fails
stays : (old test : Bool) → test ≡ false → (old || test) ≡ old
stays old test e = ap (λ b. old || b) e ∙ or_false old

pub gives_up : (w : Workunit) (now : ℕ) → GivesUp w now
gives_up w now = record {
  too_many_errors = λ undecided. (
    λ set. ltb-true t.params.max_error_results (errors t) (sym (by_errors undecided) ∙ set),
    λ many. by_errors undecided ∙ lt-ltb t.params.max_error_results (errors t) many,
  );
  too_many_total = λ undecided. (
    λ set. further_of t (sym (by_total undecided) ∙ set),
    λ it. by_total undecided ∙ from_further t undecided it,
  );
  others = same ∙ ap (λ m. with_bits m.too_many_error_results m.too_many_total_results) (sym same);
  no_other = λ decided. same ∙ ap (λ a. with_bits a (extended t).error_mask.too_many_total_results) (stays w.error_mask.too_many_error_results (has_too_many_errors t) (no_errors_planned t decided))
      ∙ ap (λ b. with_bits w.error_mask.too_many_error_results b) (stays w.error_mask.too_many_total_results (has_too_many_total t) (no_total_planned t decided));
}
  where
    t : Workunit
    t = timed w now

    with_bits : Bool → Bool → ErrorMask
    with_bits a b = record w.error_mask { too_many_error_results = a; too_many_total_results = b }

    same : (transitioned w now).error_mask ≡ (extended (timed w now)).error_mask
    same = mask-transitioned w now

    clear : is_undecided w ≡ true → (w.error_mask.too_many_error_results ≡ false) × (w.error_mask.too_many_total_results ≡ false)
    clear undecided = clear_of w.error_mask (and_right (is_none w.canonical) (is_clear w.error_mask) undecided)

    by_errors : is_undecided w ≡ true → (transitioned w now).error_mask.too_many_error_results ≡ nat_lt (timed w now).params.max_error_results (errors (timed w now))
    by_errors undecided =
        ap (λ m. m.too_many_error_results) same
        ∙ (set_by w.error_mask.too_many_error_results (has_too_many_errors (timed w now)) (clear undecided).0
        ∙ ap (λ b. b && nat_lt (timed w now).params.max_error_results (errors (timed w now))) undecided)

    by_total : is_undecided w ≡ true → (transitioned w now).error_mask.too_many_total_results ≡ has_too_many_total (timed w now)
    by_total undecided =
        ap (λ m. m.too_many_total_results) same ∙ set_by w.error_mask.too_many_total_results (has_too_many_total (timed w now)) (clear undecided).1
