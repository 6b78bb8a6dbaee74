-- What the transitioner has made, it has no cause to make again.
use Rattle.std.proofs.Common.{◌≡◌, ℕ, zero, suc, ◌+◌, ◌-◌, ◌==◌, nat_lt, min, Bool, true, false, not, cond, ◌&&◌, ◌++◌, length, filter, replicate, refl, sym, ap, subst, ◌∙◌, arith}
use Rattle.std.proofs.lemmas.List.{append-nil, length-append, length-replicate}
use Rattle.std.proofs.lemmas.List.Elements.{filter-append}
use Rattle.std.proofs.lemmas.Bool.Decides.{nat_tests}
use Rattle.std.specs.List.{list_all}
use Rattle.wu_core.specs.declared.mask.ErrorMask.{ErrorMask}
use Rattle.wu_core.specs.declared.states.FileDelete.{FileDelete}
use Rattle.wu_core.specs.declared.workunit.Instance.{Instance}
use Rattle.wu_core.specs.declared.workunit.Workunit.{Workunit}
use Rattle.wu_core.specs.Workunit.{fresh}
use Rattle.wu_rules.specs.Instances.{is_unsent, is_in_progress, is_error, is_kept, is_viable, is_new, is_done_assimilate}
use Rattle.wu_rules.specs.Counts.{unsent, in_progress, errors, kept, viable, has_new_success, is_clear, is_undecided}
use Rattle.wu_rules.specs.Validation.{is_to_validate}
use Rattle.wu_rules.specs.Transition.{has_too_many_errors, is_open, needed, allowed, added, is_idle, has_too_many_total, is_finished, with_output_readied, with_files_readied, readied, ended, settled, extended}
use Rattle.wu_rules_laws.proofs.Changed.{or_right, or_false, and_false, any-placed, count-placed, length-placed, count-replicate-all, count-replicate-none}

-- ---- nothing is planned for a workunit that is not undecided

pub no_errors_planned : (w : Workunit) → is_undecided w ≡ false → has_too_many_errors w ≡ false
no_errors_planned w e = ap (λ b. b && nat_lt w.params.max_error_results (errors w)) e

pub none_added : (w : Workunit) → is_undecided w ≡ false → added w ≡ 0
none_added w e = ap (λ b. cond (b && not (nat_lt w.params.max_error_results (errors w))) (min (needed w) (allowed w)) 0) e

pub no_total_planned : (w : Workunit) → is_undecided w ≡ false → has_too_many_total w ≡ false
no_total_planned w e = ap (λ b. (b && not (nat_lt w.params.max_error_results (errors w))) && nat_lt 0 (needed w) && (allowed w == 0) && is_idle w) e

-- a plan of numbers
abbrev plan_added : Bool → (max_errors errors target unsent in_progress kept max_total length : ℕ) → ℕ
plan_added b m e t u p k x l = cond (b && not (nat_lt m e)) (min (t - (u + p + k)) (x - l)) 0

-- ---- naming files for deletion changes no count

pub count-readied : (p : Instance → Bool) → ((x : Instance) (f : FileDelete) → p (record x { file_delete = f }) ≡ p x) → (w : Workunit)
    → length (filter p (with_files_readied w).instances) ≡ length (filter p w.instances)
count-readied p same w = count-placed p p (with_output_readied w.canonical (list_all is_finished w.instances)) (λ n x. same x _) 0 w.instances

-- ---- the new instances

abbrev pub grown : Workunit → ℕ → Workunit
grown w n = record w { instances = w.instances ++ replicate n fresh }

pub count-grown-none : (p : Instance → Bool) → p fresh ≡ false → (w : Workunit) (n : ℕ) → length (filter p (w.instances ++ replicate n fresh)) ≡ length (filter p w.instances)
count-grown-none p e w n =
    let r = count-replicate-none p fresh e n in
    ap length (filter-append p w.instances (replicate n fresh)) ∙ (length-append (filter p w.instances) (filter p (replicate n fresh)) ∙ omega arith)

pub count-grown-all : (p : Instance → Bool) → p fresh ≡ true → (w : Workunit) (n : ℕ) → length (filter p (w.instances ++ replicate n fresh)) ≡ length (filter p w.instances) + n
count-grown-all p e w n =
    let r = count-replicate-all p fresh e n in
    ap length (filter-append p w.instances (replicate n fresh)) ∙ (length-append (filter p w.instances) (filter p (replicate n fresh)) ∙ omega arith)

pub length-grown : (w : Workunit) (n : ℕ) → length (w.instances ++ replicate n fresh) ≡ length w.instances + n
length-grown w n = length-append w.instances (replicate n fresh) ∙ ap (λ k. length w.instances + k) (length-replicate n fresh)

pub errors_planned-grown : (w : Workunit) (n : ℕ) → has_too_many_errors (grown w n) ≡ has_too_many_errors w
errors_planned-grown w n = ap (λ k. is_undecided w && nat_lt w.params.max_error_results k) (count-grown-none is_error refl w n)

-- what is added is wanted or allowed no more
added-more : (b : Bool) (m e t u p k x l n : ℕ) → n ≡ plan_added b m e t u p k x l → plan_added b m e t (u + n) p k x (l + n) ≡ 0
added-more b m e t u p k x l n made = grind (arith, nat_tests)

pub added-grown : (w : Workunit) (n : ℕ) → n ≡ added w → added (grown w n) ≡ 0
added-grown w n made =
    let e = count-grown-none is_error refl w n in
    let u = count-grown-all is_unsent refl w n in
    let p = count-grown-none is_in_progress refl w n in
    let k = count-grown-none is_kept refl w n in
    let l = length-grown w n in
    rw (e, u, p, k, l) (added-more (is_undecided w) w.params.max_error_results (errors w) w.params.target_nresults (unsent w) (in_progress w) (kept w) w.params.max_total_results (length w.instances) n made)

total-waits : (b a c v w : Bool) (u n : ℕ) → (b && a && c && ((u + suc n == 0) && v && w)) ≡ false
total-waits b a c v w u n = grind (arith, nat_tests)

pub total_planned-grown : (w : Workunit) (n : ℕ) → has_too_many_total w ≡ false → has_too_many_total (grown w n) ≡ false
total_planned-grown w zero h = ap (λ zs. has_too_many_total (record w { instances = zs })) (append-nil w.instances) ∙ h
total_planned-grown w (suc n) h =
    let v = grown w (suc n) in
    ap (λ k. is_open v && nat_lt 0 (needed v) && (allowed v == 0) && ((k == 0) && (in_progress v == 0) && not (is_to_validate v))) (count-grown-all is_unsent refl w (suc n))
    ∙ total-waits (is_open v) (nat_lt 0 (needed v)) (allowed v == 0) (in_progress v == 0) (not (is_to_validate v)) (unsent w) n

-- ---- the new bits

-- a mask that is clear after new bits has none of them
pub clear_of : (m : ErrorMask) → is_clear m ≡ true → (m.too_many_error_results ≡ false) × (m.too_many_total_results ≡ false)
clear_of m e = grind (arith, nat_tests)

pub extended-unflagged : (w : Workunit) → has_too_many_errors w ≡ false → has_too_many_total w ≡ false → extended w ≡ grown w (added w)
extended-unflagged w e t = rw (e, t, or_false w.error_mask.too_many_error_results, or_false w.error_mask.too_many_total_results) refl

-- with no new bit and no new instance nothing changes
pub extended-untouched : (w : Workunit) → has_too_many_errors w ≡ false → added w ≡ 0 → has_too_many_total w ≡ false → extended w ≡ w
extended-untouched w e n t = extended-unflagged w e t ∙ (ap (λ k. grown w k) n ∙ ap (λ zs. record w { instances = zs }) (append-nil w.instances))

-- ---- after a transition nothing is planned

pub record Quiet (w : Workunit) : Type 0 where
  pub errors : has_too_many_errors w ≡ false
  pub added : added w ≡ 0
  pub total : has_too_many_total w ≡ false

quiet_decided : (w : Workunit) → is_undecided w ≡ false → Quiet w
quiet_decided w e = record { errors = no_errors_planned w e; added = none_added w e; total = no_total_planned w e }

quiet-readied : (w : Workunit) → Quiet w → Quiet (readied w)
quiet-readied w q = by (is_done_assimilate w.assimilate)
  where
    by : (b : Bool) → Quiet (cond b (with_files_readied w) w)
    by false = q
    by true =
        let f = with_output_readied w.canonical (list_all is_finished w.instances) in
        let e : errors (with_files_readied w) ≡ errors w = count-readied is_error (λ x f. refl) w in
        let u : unsent (with_files_readied w) ≡ unsent w = count-readied is_unsent (λ x f. refl) w in
        let p : in_progress (with_files_readied w) ≡ in_progress w = count-readied is_in_progress (λ x f. refl) w in
        let k : kept (with_files_readied w) ≡ kept w = count-readied is_kept (λ x f. refl) w in
        let s : length (viable (with_files_readied w)) ≡ length (viable w) = count-readied is_viable (λ x f. refl) w in
        let a : has_new_success (with_files_readied w) ≡ has_new_success w = any-placed is_new is_new f (λ n x. refl) 0 w.instances in
        let l = length-placed f 0 w.instances in
        record { errors = rw e q.errors; added = rw (e, u, p, k, l) q.added; total = rw (e, u, p, k, s, a, l) q.total }

pub quiet-transitioned : (w : Workunit) → Quiet (readied (settled (extended w)))
quiet-transitioned w = quiet-readied (settled (extended w)) (by_case (is_clear (extended w).error_mask) refl)
  where
    by_case : (b : Bool) → b ≡ is_clear (extended w).error_mask → Quiet (cond b (extended w) (ended (extended w)))
    by_case true e =
        let clear = clear_of (extended w).error_mask (sym e) in
        let no_errors = or_right w.error_mask.too_many_error_results (has_too_many_errors w) clear.0 in
        let no_total = or_right w.error_mask.too_many_total_results (has_too_many_total w) clear.1 in
        subst Quiet (sym (extended-unflagged w no_errors no_total)) (record {
          errors = errors_planned-grown w (added w) ∙ no_errors;
          added = added-grown w (added w) refl;
          total = total_planned-grown w (added w) no_total;
        })
    by_case false e = quiet_decided (ended (extended w)) (and_false _ (is_clear (extended w).error_mask) (sym e))
