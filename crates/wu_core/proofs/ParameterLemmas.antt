-- Values that pass the tests of their ranges, and the parameters that they are.
use Rattle.std.proofs.Common.{◌≡◌, ◌≤◌, ◌∙◌, ℕ, Bool, true, false, not, List, [], ◌∷◌, length, get_or, find, ℤ, pos, negsuc, unsigned_abs, Option, Some, None, Ok, ap, sym, arith, refl}
use Rattle.std.proofs.lemmas.Bool.Decides.{nat_tests}
use Rattle.std.specs.List.{AllByRecursion}
use Rattle.wu_core.specs.Limits.{highest_quorum, highest_target, longest_delay, most_credit, most_instances}
use Rattle.wu_core.specs.Parameters.{IsParameters, Parameters, is_between, values_of}
use Rattle.wu_core.specs.Templates.{listed, parameters_of, parameters_to, range_tests_to, unless_failed}
use Rattle.wu_core.specs.declared.fault.TemplateKey.{TemplateKey}
use Rattle.wu_core.specs.declared.fault.TemplateKey.TheVariants as key

-- a list of seven is the list of its elements
pub seven : (xs : List ℤ) (d : ℤ) → length xs ≡ 7
    → (get_or xs 0 d ∷ get_or xs 1 d ∷ get_or xs 2 d ∷ get_or xs 3 d ∷ get_or xs 4 d ∷ get_or xs 5 d ∷ get_or xs 6 d ∷ []) ≡ xs
seven [] d h = absurd (omega arith)
seven (a ∷ []) d h = absurd (omega arith)
seven (a ∷ b ∷ []) d h = absurd (omega arith)
seven (a ∷ b ∷ c ∷ []) d h = absurd (omega arith)
seven (a ∷ b ∷ c ∷ e ∷ []) d h = absurd (omega arith)
seven (a ∷ b ∷ c ∷ e ∷ f ∷ []) d h = absurd (omega arith)
seven (a ∷ b ∷ c ∷ e ∷ f ∷ g ∷ []) d h = absurd (omega arith)
seven (a ∷ b ∷ c ∷ e ∷ f ∷ g ∷ k ∷ []) d h = refl
seven (a ∷ b ∷ c ∷ e ∷ f ∷ g ∷ k ∷ l ∷ more) d h = absurd (omega arith)

-- where no test fails, each one passed
pub all_passed : (tests : List (TemplateKey × Bool)) → find (λ test. not test.1) tests ≡ None → AllByRecursion (λ test. test.1 ≡ true) tests
all_passed [] none = tt
all_passed ((key, true) ∷ more) none = (refl, all_passed more none)
all_passed ((key, false) ∷ more) none = cc none

-- a number in the range passes its test
passes : (low high n : ℕ) → low ≤ n → n ≤ high → is_between low high (pos n) ≡ true
passes low high n above below = grind (arith, nat_tests, above, below)

-- parameters in their ranges pass all tests
pub all_pass : (p : Parameters) → IsParameters p → parameters_to highest_target (listed (values_of p)) ≡ Ok p
all_pass p is =
    by p _ _ _ _ _ _ _ (passes 1 highest_quorum p.min_quorum is.min_quorum.0 is.min_quorum.1)
    (passes p.min_quorum highest_target p.target_nresults is.target_nresults.0 is.target_nresults.1)
    (passes 0 most_instances p.max_error_results (omega arith) is.max_error_results)
    (passes 1 most_instances p.max_total_results is.max_total_results.0 is.max_total_results.1)
    (passes 0 most_instances p.max_success_results (omega arith) is.max_success_results)
    (passes 1 longest_delay p.delay_bound is.delay_bound.0 is.delay_bound.1)
    (passes 0 most_credit p.credit (omega arith) is.credit)
  where
    by : (p : Parameters) (a b c d e f g : Bool) → a ≡ true → b ≡ true → c ≡ true → d ≡ true → e ≡ true → f ≡ true → g ≡ true
        → unless_failed (find (λ test. not test.1) ((key.MinQuorum, a) ∷ (key.TargetNresults, b) ∷ (key.MaxErrorResults, c) ∷ (key.MaxTotalResults, d) ∷ (key.MaxSuccessResults, e) ∷ (key.DelayBound, f) ∷ (key.Credit, g) ∷ [])) p ≡ Ok p
    by p a b c d e f g ia ib ic id ie ig ih = rw (ia, ib, ic, id, ie, ig, ih) refl

-- a whole number that passes is its own amount
whole : (low high : ℕ) (value : ℤ) → is_between low high value ≡ true → pos (unsigned_abs value) ≡ value
whole low high (pos n) is = refl
whole low high (negsuc n) is = cc is

-- the parameters of values that pass have these values
same_values : (values : List ℤ) → length values ≡ 7 → find (λ test. not test.1) (range_tests_to highest_target (listed values)) ≡ None → values_of (parameters_of (listed values)) ≡ values
same_values values long none =
    let passed = all_passed (range_tests_to highest_target (listed values)) none in
    let at : ℕ → ℤ = λ i. get_or values i (pos 0) in
    let a = whole 1 highest_quorum (at 0) passed.0 in
    let b = whole (unsigned_abs (at 0)) highest_target (at 1) passed.1.0 in
    let c = whole 0 most_instances (at 2) passed.1.1.0 in
    let d = whole 1 most_instances (at 3) passed.1.1.1.0 in
    let e = whole 0 most_instances (at 4) passed.1.1.1.1.0 in
    let f = whole 1 longest_delay (at 5) passed.1.1.1.1.1.0 in
    let g = whole 0 most_credit (at 6) passed.1.1.1.1.1.1.0 in
    (λ i. a i ∷ b i ∷ c i ∷ d i ∷ e i ∷ f i ∷ g i ∷ []) ∙ seven values (pos 0) long

pub valued : (values : List ℤ) (p : Parameters) → length values ≡ 7 → parameters_to highest_target (listed values) ≡ Ok p → values_of p ≡ values
valued values p long is = by (find (λ test. not test.1) (range_tests_to highest_target (listed values))) refl is
  where
    by : (failed : Option (TemplateKey × Bool)) → find (λ test. not test.1) (range_tests_to highest_target (listed values)) ≡ failed → unless_failed failed (parameters_of (listed values)) ≡ Ok p → values_of p ≡ values
    by (Some failed) none is = cc is
    by None none is = let same : parameters_of (listed values) ≡ p = cc is in ap values_of (sym same) ∙ same_values values long none
