-- How many instances a transition makes.
use Rattle.std.proofs.Common.{◌≡◌, ℕ, zero, suc, ◌+◌, ◌<◌, ◌≤◌, nat_lt, min, Bool, true, false, cond, ◌&&◌, List, [], ◌∷◌, ◌++◌, length, replicate, slice_get, Option, Some, None, is_none, option_map, refl, sym, ap, ◌∙◌, arith}
use Rattle.std.proofs.lemmas.Bool.Decides.{nat_tests}
use Rattle.std.proofs.lemmas.List.{length-map}
use Rattle.std.proofs.lemmas.Option.{slice_get_within}
use Rattle.std.specs.List.{list_all}
use Rattle.wu_core.specs.Workunit.{fresh}
use Rattle.wu_core.specs.declared.workunit.Instance.{Instance}
use Rattle.wu_core.specs.declared.workunit.Workunit.{Workunit}
use Rattle.wu_rules.specs.Instances.{given_up, is_done_assimilate, is_in_progress, is_kept, is_unsent, timed_out}
use Rattle.wu_rules.specs.Counts.{errors, in_progress, is_clear, is_undecided, kept, unsent}
use Rattle.wu_rules.specs.Transition.{added, allowed, ended, extended, has_too_many_errors, has_too_many_total, is_finished, needed, readied, settled, timed, transitioned, with_files_readied, with_output_readied}
use Rattle.wu_rules_laws.specs.Transitions.{BringsUp, hoped_for}
use Rattle.wu_rules_laws.proofs.Changed.{cond_keeps, length-placed, placed}
use Rattle.wu_rules_laws.proofs.Planned.{count-grown-all, count-grown-none, count-readied, extended-unflagged, grown, length-grown, quiet-transitioned}
use Rattle.wu_rules_laws.proofs.Spent.{and_left, and_right}

-- ---- places of lists

-- what stands at a place of a list that was changed by its places
pub at_placed : {A B : Type 0} (f : ℕ → A → B) (s : ℕ) (xs : List A) (n : ℕ) → slice_get (placed f s xs) n ≡ option_map (f (s + n)) (slice_get xs n)
at_placed f s [] n = refl
at_placed f s (x ∷ xs) zero = let here : s + 0 ≡ s = omega arith in rw here refl
at_placed f s (x ∷ xs) (suc n) = let there : s + suc n ≡ s + 1 + n = omega arith in rw there (at_placed f (s + 1) xs n)

-- what stands in the first of two lists
pub at_front : {A : Type 0} (xs ys : List A) (n : ℕ) (x : A) → slice_get xs n ≡ Some x → slice_get (xs ++ ys) n ≡ Some x
at_front [] ys n x e = cc
at_front (y ∷ xs) ys zero x e = e
at_front (y ∷ xs) ys (suc n) x e = at_front xs ys n x e

at_copy : (k n : ℕ) (i : Instance) → slice_get (replicate k fresh) n ≡ Some i → i ≡ fresh
at_copy zero n i e = cc
at_copy (suc k) zero i e = cc
at_copy (suc k) (suc n) i e = at_copy k n i e

-- what stands behind the old instances is new
at_grown : (xs : List Instance) (k n : ℕ) (i : Instance) → length xs ≤ n → slice_get (xs ++ replicate k fresh) n ≡ Some i → i ≡ fresh
at_grown [] k n i le e = at_copy k n i e
at_grown (x ∷ xs) k zero i le e = absurd (omega (arith, le))
at_grown (x ∷ xs) k (suc n) i le e = at_grown xs k n i (omega (arith, le)) e

-- ---- counts that naming files leaves

hoped-readied : (w : Workunit) → hoped_for (readied w) ≡ hoped_for w
hoped-readied w =
    let u : unsent (with_files_readied w) ≡ unsent w = count-readied is_unsent (λ x f. refl) w in
    let p : in_progress (with_files_readied w) ≡ in_progress w = count-readied is_in_progress (λ x f. refl) w in
    let k : kept (with_files_readied w) ≡ kept w = count-readied is_kept (λ x f. refl) w in
    let same : hoped_for (with_files_readied w) ≡ hoped_for w = rw (u, p, k) refl in
    cond_keeps hoped_for (is_done_assimilate w.assimilate) (with_files_readied w) w same

length-readied : (w : Workunit) → length (readied w).instances ≡ length w.instances
length-readied w =
    cond_keeps (λ v. length v.instances) (is_done_assimilate w.assimilate) (with_files_readied w) w
    (length-placed (with_output_readied w.canonical (list_all is_finished w.instances)) 0 w.instances)

length-settled : (w : Workunit) → length (settled w).instances ≡ length w.instances
length-settled w =
    cond_keeps (λ v. length v.instances) (is_clear w.error_mask) w (ended w) (sym (length-map w.instances given_up)) ∙ length-map w.instances given_up

-- as many more as are added
length-transitioned : (w : Workunit) (now : ℕ) → length (transitioned w now).instances ≡ length w.instances + added (timed w now)
unfolding transitioned
length-transitioned w now =
    let t = timed w now in
    length-readied (settled (extended t))
    ∙ (length-settled (extended t) ∙ (length-grown t (added t) ∙ ap (λ k. k + added t) (length-map w.instances (timed_out now))))

pub params-transitioned : (w : Workunit) (now : ℕ) → (transitioned w now).params ≡ w.params
unfolding transitioned
params-transitioned w now =
    let e = extended (timed w now) in
    cond_keeps (λ v. v.params) (is_done_assimilate (settled e).assimilate) (with_files_readied (settled e)) (settled e) refl
    ∙ cond_keeps (λ v. v.params) (is_clear e.error_mask) e (ended e) refl

-- ---- where instances are made, nothing else comes

record Makes (t : Workunit) : Type 0 where
  undecided : is_undecided t ≡ true
  many : added t ≡ min (needed t) (allowed t)
  image : settled (extended t) ≡ grown t (added t)

makes : (t : Workunit) → 0 < added t → Makes t
makes t some =
    let no_errors : has_too_many_errors t ≡ false = grind (arith, nat_tests) in
    let no_total : has_too_many_total t ≡ false = grind (arith, nat_tests) in
    let undecided : is_undecided t ≡ true = grind (arith, nat_tests) in
    let clear = and_right (is_none t.canonical) (is_clear t.error_mask) undecided in
    record {
      undecided = undecided;
      many = grind (arith, nat_tests);
      image = ap settled (extended-unflagged t no_errors no_total) ∙ ap (λ b. cond b (grown t (added t)) (ended (grown t (added t)))) clear;
    }

hoped-grown : (t : Workunit) (n : ℕ) → hoped_for (grown t n) ≡ hoped_for t + n
hoped-grown t n =
    let u = count-grown-all is_unsent refl t n in
    let p = count-grown-none is_in_progress refl t n in
    let k = count-grown-none is_kept refl t n in
    rw (u, p, k) (omega arith)

hoped-made : (t : Workunit) → Makes t → hoped_for (readied (settled (extended t))) ≡ hoped_for t + added t
hoped-made t it = ap (λ v. hoped_for (readied v)) it.image ∙ (hoped-readied (grown t (added t)) ∙ hoped-grown t (added t))

undecided-made : (t : Workunit) → Makes t → is_undecided (readied (settled (extended t))) ≡ true
undecided-made t it =
    ap (λ v. is_undecided (readied v)) it.image
    ∙ (cond_keeps is_undecided (is_done_assimilate t.assimilate) (with_files_readied (grown t (added t))) (grown t (added t)) refl ∙ it.undecided)

-- of an undecided workunit no new instance has its output named
new_stays : (c : Option ℕ) (b : Bool) (n : ℕ) → is_none c ≡ true → with_output_readied c b n fresh ≡ fresh
new_stays c b n e = grind arith

new-made : (t : Workunit) → Makes t → (n : ℕ) (i : Instance) → length t.instances ≤ n
    → slice_get (readied (settled (extended t))).instances n ≡ Some i → i ≡ fresh
new-made t it n i behind here = by (is_done_assimilate t.assimilate) (sym (ap (λ v. slice_get (readied v).instances n) it.image) ∙ here)
  where
    g : Workunit
    g = grown t (added t)

    f : ℕ → Instance → Instance
    f = with_output_readied t.canonical (list_all is_finished (grown t (added t)).instances)

    found : (o : Option Instance) → slice_get (t.instances ++ replicate (added t) fresh) n ≡ o
        → option_map (with_output_readied t.canonical (list_all is_finished (t.instances ++ replicate (added t) fresh)) (0 + n)) o ≡ Some i → i ≡ fresh
    found None there is = cc
    found (Some j) there is =
        let new : j ≡ fresh = at_grown t.instances (added t) n j behind there in
        let none = and_left (is_none t.canonical) (is_clear t.error_mask) it.undecided in
        let all = list_all is_finished (t.instances ++ replicate (added t) fresh) in
        let same : with_output_readied t.canonical all (0 + n) j ≡ i = cc in
        sym same ∙ (ap (with_output_readied t.canonical all (0 + n)) new ∙ new_stays t.canonical all (0 + n) none)

    by : (b : Bool) → slice_get (cond b (with_files_readied (grown t (added t))) (grown t (added t))).instances n ≡ Some i → i ≡ fresh
    by true is =
        found (slice_get (t.instances ++ replicate (added t) fresh) n) refl
        (sym (at_placed (with_output_readied t.canonical (list_all is_finished (t.instances ++ replicate (added t) fresh))) 0 (t.instances ++ replicate (added t) fresh) n) ∙ is)
    by false is = at_grown t.instances (added t) n i behind is

-- ---- the law

module _ (w : Workunit) (now : ℕ) where
  enough : is_undecided (transitioned w now) ≡ true → length (transitioned w now).instances < (transitioned w now).params.max_total_results
      → (transitioned w now).params.target_nresults ≤ hoped_for (transitioned w now)
  unfolding transitioned
  enough undecided less =
      let v = transitioned w now in
      let quiet = quiet-transitioned (timed w now) in
      let borne : nat_lt v.params.max_error_results (errors v) ≡ false = sym (ap (λ b. b && nat_lt v.params.max_error_results (errors v)) undecided) ∙ quiet.errors in
      let none : min (needed v) (allowed v) ≡ 0 = sym (rw (undecided, borne) refl) ∙ quiet.added in
      omega (arith, none, less)

  wanted : length w.instances < length (transitioned w now).instances → hoped_for (transitioned w now) ≤ (transitioned w now).params.target_nresults
  unfolding transitioned
  wanted more =
      let t = timed w now in
      let long = length-transitioned w now in
      let it = makes t (omega (arith, more, long)) in
      let hoped : hoped_for (transitioned w now) ≡ hoped_for t + added t = hoped-made t it in
      let many = it.many in
      let same = ap (λ p. p.target_nresults) (params-transitioned w now) in
      omega (arith, more, long, hoped, many, same)

  allowed_more : length w.instances < length (transitioned w now).instances
      → length (transitioned w now).instances ≤ (transitioned w now).params.max_total_results
  allowed_more more =
      let t = timed w now in
      let long = length-transitioned w now in
      let it = makes t (omega (arith, more, long)) in
      let many = it.many in
      let old = length-map w.instances (timed_out now) in
      let same = ap (λ p. p.max_total_results) (params-transitioned w now) in
      omega (arith, more, long, many, old, same)

  none_made : is_undecided (transitioned w now) ≡ false → length (transitioned w now).instances ≡ length w.instances
  unfolding transitioned
  none_made decided = by (added (timed w now)) refl
    where
      by : (n : ℕ) → added (timed w now) ≡ n → length (transitioned w now).instances ≡ length w.instances
      by zero e = let long = length-transitioned w now in omega (arith, long, e)
      by (suc n) e = absurd (let both : true ≡ false = sym (undecided-made (timed w now) (makes (timed w now) (omega (arith, e)))) ∙ decided in cc)

  made : (n : ℕ) (i : Instance) → length w.instances ≤ n → slice_get (transitioned w now).instances n ≡ Some i → i ≡ fresh
  unfolding transitioned
  made n i behind here = by (added (timed w now)) refl
    where
      by : (k : ℕ) → added (timed w now) ≡ k → i ≡ fresh
      by zero e = let long = length-transitioned w now in let inside = slice_get_within (transitioned w now).instances n i here in absurd (omega (arith, long, e, inside, behind))
      by (suc k) e =
          let old = length-map w.instances (timed_out now) in
          new-made (timed w now) (makes (timed w now) (omega (arith, e))) n i (omega (arith, old, behind)) here

  pub brings_up : BringsUp w (transitioned w now)
  brings_up = record {
    none_gone = (let long = length-transitioned w now in omega (arith, long));
    enough = enough;
    wanted = wanted;
    allowed = allowed_more;
    none_made = none_made;
    made = made;
    params = params-transitioned w now;
  }
