-- Rules that make nothing VALID, and what they leave of a workunit.
use Rattle.std.proofs.Common.{◌≡◌, ◌≢◌, ℕ, zero, suc, ◌<◌, Bool, true, false, cond, ◌&&◌, ◌||◌, List, [], ◌∷◌, map, length, replicate, slice_get, slice_set, Option, Some, None, is_none, option_map, refl, sym, ap, subst, ◌∙◌, inl, inr, nat_lt, arith, is_some}
use Rattle.std.proofs.lemmas.Bool.{cases_eq, ne_eqb}
use Rattle.std.proofs.lemmas.List.Folds.{list_any-append}
use Rattle.std.specs.List.{AllByRecursion, list_all, list_any}
use Rattle.std.specs.Option.{option_map_or}
use Rattle.wu_core.specs.Mask.{error_mask_code}
use Rattle.wu_core.specs.Workunit.{fresh}
use Rattle.wu_core.specs.declared.mask.ErrorMask.{ErrorMask}
use Rattle.wu_core.specs.declared.workunit.Instance.{Instance}
use Rattle.wu_core.specs.declared.workunit.Workunit.{Workunit}
use Rattle.wu_core.specs.declared.states.Assimilate.{Assimilate}
use Rattle.wu_core.specs.declared.states.Assimilate.TheVariants as assimilate
use Rattle.wu_core.specs.declared.states.FileDelete.{FileDelete}
use Rattle.wu_core.specs.declared.states.FileDelete.TheVariants as file_delete
use Rattle.wu_core.specs.declared.states.ValidateState.{ValidateState}
use Rattle.wu_core.specs.declared.states.ValidateState.TheVariants as validate
use Rattle.wu_rules.specs.Assimilation.{emptied, without_output}
use Rattle.wu_rules.specs.Cancelling.{cancelled}
use Rattle.wu_rules.specs.Counts.{is_clear, is_undecided, viable}
use Rattle.wu_rules.specs.Instances.{closed, given_up, is_done_assimilate, is_open_verdict, is_ready_file, is_unsent, is_viable, readied_assimilate, timed_out}
use Rattle.wu_rules.specs.Sending.{is_of}
use Rattle.wu_rules.specs.Transition.{added, ended, extended, is_all_over, is_finished, may_output_go, outputs_readied, readied, settled, timed, transitioned, unbound, with_files_readied, with_output_readied}
use Rattle.wu_rules.specs.Validation.{checked, doubted, doubted_or_closed, is_no_result, is_to_validate, left_open, raised_target, refused, refused_where, with_refused}
use Rattle.wu_rules.proofs.Lists.{any-map}
use Rattle.wu_rules.proofs.Timing.{not_unsent, same_timed}
use Rattle.wu_rules.specs.Consistent.{IsPossible, KeepsVerdicts, instance_host, is_done, is_valid_at, is_valid_verdict}
use Rattle.wu_rules_laws.proofs.Becoming.{AllBecome, all_become, all_become-more, all_become-placed, all_possible, all_stay, becomes_closed, becomes_doubted, becomes_doubted_or_closed, becomes_given_up, becomes_readied, becomes_refused_where, becomes_timed_out, becomes_without_output, final_at, none_made, readied_right, same_host, valid_at, verdict_at}
use Rattle.wu_rules_laws.proofs.Changed.{and_false, any-placed, any_false-map, cond_has, cond_keeps, or_from, or_left, or_right}
use Rattle.wu_rules_laws.proofs.Hosted.{Apart, StayHosted, all_set, apart_same, at_other, at_set, none_hosted, stay_apart, stay_hosted}
use Rattle.wu_rules_laws.proofs.Planned.{clear_of, extended-unflagged, no_errors_planned, no_total_planned, none_added}
use Rattle.wu_rules_laws.proofs.Settled.{unsent_closed, unsent_judged}
use Rattle.wu_rules_laws.proofs.Spent.{and_from, and_right}

-- ---- instances

-- they stay possible, the same ones are VALID, each final verdict stays and each host, and hosts that were apart stay
-- so
pub record Follows (old new : List Instance) : Type 0 where
  pub possible : AllByRecursion IsPossible old → AllByRecursion IsPossible new
  pub valid : (n : ℕ) → is_valid_at new n ≡ is_valid_at old n
  pub host : (n : ℕ) → is_valid_at new n ≡ true → instance_host new n ≡ instance_host old n
  pub hosts : StayHosted old new
  pub apart : Apart old → Apart new
  pub final : (n : ℕ) (v : ValidateState) → verdict_at old n ≡ Some v → is_open_verdict v ≡ false → verdict_at new n ≡ Some v

-- what becomes of instances of which none is made VALID
pub follows : (xs ys : List Instance) → AllBecome none_made xs ys → Follows xs ys
follows xs ys h = record {
  possible = all_possible none_made xs ys h;
  valid = λ n. valid_at none_made xs ys h n ∙ ap (λ b. b || is_valid_at xs n) (never (slice_get xs n));
  host = λ n e. same n;
  hosts = λ n host e. same n ∙ e;
  apart = apart_same xs ys same;
  final = final_at none_made xs ys h;
}
  where
    never : (o : Option Instance) → option_map_or none_made o false ≡ false
    never o = grind arith

    same : (n : ℕ) → instance_host ys n ≡ instance_host xs n
    same = same_host none_made xs ys h

-- one that is sent without a verdict, to a host that has none of them
pub follows_sent : (xs : List Instance) (n : ℕ) (i j : Instance) (host : List ℕ) → slice_get xs n ≡ Some i → IsPossible j
    → i.validate_state ≡ validate.Init → j.validate_state ≡ i.validate_state → i.host ≡ None → j.host ≡ Some host → list_any (is_of host) xs ≡ false
    → Follows xs (slice_set xs n j)
follows_sent xs n i j host here possible init same unsent sent none = record {
  possible = all_set IsPossible xs n j possible;
  valid = valid;
  host = λ k e. elim (cases_eq k n) [
    | inl own ↦
        let before : is_valid_at xs n ≡ false = ap (λ o. option_map_or (λ (x : Instance). is_valid_verdict x.validate_state) o false) here
        ∙ ap is_valid_verdict init in
        absurd (let both : true ≡ false = sym e ∙ valid k ∙ ap (is_valid_at xs) own ∙ before in cc)
    | inr other ↦ at_other xs n j k other
  ];
  hosts = stay_hosted xs n i j here host unsent sent;
  apart = stay_apart xs n i j here host unsent sent none;
  final = λ k v e f. at_set (λ o. option_map (λ (x : Instance). x.validate_state) o) xs n i j here (ap Some same) k ∙ e;
}
  where
    valid : (k : ℕ) → is_valid_at (slice_set xs n j) k ≡ is_valid_at xs k
    valid = at_set (λ o. option_map_or (λ (x : Instance). is_valid_verdict x.validate_state) o false) xs n i j here (ap is_valid_verdict same)

-- one change after another
follows_then : (xs ys zs : List Instance) → Follows xs ys → Follows ys zs → Follows xs zs
follows_then xs ys zs h k = record {
  possible = λ all. k.possible (h.possible all);
  valid = λ n. k.valid n ∙ h.valid n;
  host = λ n e. k.host n e ∙ h.host n (sym (k.valid n) ∙ e);
  hosts = λ n host e. k.hosts n host (h.hosts n host e);
  apart = λ e. k.apart (h.apart e);
  final = λ n v e f. k.final n v (h.final n v e f) f;
}

-- ---- workunits

-- final verdicts are kept by those at their places
pub verdicts_kept : (w v : Workunit)
    → ((n : ℕ) (u : ValidateState) → verdict_at w.instances n ≡ Some u → is_open_verdict u ≡ false → verdict_at v.instances n ≡ Some u) → KeepsVerdicts w v
verdicts_kept w v kept n i here final = kept n i.validate_state (ap (λ o. option_map (λ (j : Instance). j.validate_state) o) here) final

-- one change after another
pub kept_then : (w v u : Workunit) → KeepsVerdicts w v → KeepsVerdicts v u → KeepsVerdicts w u
kept_then w v u first second n i here final = by_case (slice_get v.instances n) refl (first n i here final)
  where
    by_case : (o : Option Instance) → slice_get v.instances n ≡ o → option_map (λ j. j.validate_state) o ≡ Some i.validate_state
        → verdict_at u.instances n ≡ Some i.validate_state
    by_case None e f = cc
    by_case (Some j) e f =
        let same : j.validate_state ≡ i.validate_state = cc in
        second n j e (subst (λ s. is_open_verdict s ≡ false) (sym same) final) ∙ ap Some same

-- number, name, credit, canonical result, the two bits that are never set, and the moment of the assimilation
abbrev pub Fixed : Type 0
Fixed = ℕ × List ℕ × ℕ × Option ℕ × Bool × Bool × Option ℕ

abbrev pub fixed : Workunit → Fixed
fixed w = (w.number, w.name, w.params.credit, w.canonical, w.error_mask.couldnt_send_result, w.error_mask.no_canonical_result, w.done_at)

-- nothing is made VALID, decided or DONE; a new bit of the mask comes only where the workunit is undecided
pub record Quietly (old new : Workunit) : Type 0 where
  pub rest : fixed new ≡ fixed old
  pub done : is_done new ≡ is_done old
  pub deletable : old.file_delete ≢ file_delete.Error → new.file_delete ≢ file_delete.Error
  pub mask : is_undecided old ≡ false → new.error_mask ≡ old.error_mask
  pub class : list_any (λ i. is_some i.host) new.instances ≡ false → old.class ≡ 0 → new.class ≡ 0
  pub instances : Follows old.instances new.instances

-- with this mask, target and class, and with these instances
abbrev changed_to : Workunit → ErrorMask → (target class : ℕ) → List Instance → Workunit
changed_to w mask target class ys =
    record w { error_mask = mask; params = record w.params { target_nresults = target }; class = class; instances = ys }

-- only these change
pub quietly_to : (w : Workunit) (mask : ErrorMask) (target class : ℕ) (ys : List Instance) → fixed (changed_to w mask target class ys) ≡ fixed w
    → (is_undecided w ≡ false → mask ≡ w.error_mask) → (list_any (λ i. is_some i.host) ys ≡ false → w.class ≡ 0 → class ≡ 0)
    → Follows w.instances ys → Quietly w (changed_to w mask target class ys)
quietly_to w mask target class ys rest same classless follow =
    record { rest = rest; done = refl; deletable = λ right. right; mask = same; class = classless; instances = follow }

-- only the instances change
pub quietly_with : (w : Workunit) (ys : List Instance) → Follows w.instances ys → Quietly w (record w { instances = ys })
quietly_with w ys follow = quietly_to w w.error_mask w.params.target_nresults w.class ys refl (λ e. refl) (λ none e. e) follow

-- where none of them is made VALID
pub quietly_same : (w : Workunit) (ys : List Instance) → AllBecome none_made w.instances ys → Quietly w (record w { instances = ys })
quietly_same w ys h = quietly_with w ys (follows w.instances ys h)

-- nothing changes
pub quietly_unchanged : (w : Workunit) → Quietly w w
quietly_unchanged w = quietly_same w w.instances (all_stay w.instances)

-- one rule after another
quietly_then : (w v u : Workunit) → Quietly w v → Quietly v u → Quietly w u
quietly_then w v u h k = record {
  rest = k.rest ∙ h.rest;
  done = k.done ∙ h.done;
  deletable = λ right. k.deletable (h.deletable right);
  mask = λ e. k.mask (still e) ∙ h.mask e;
  class = λ none e. k.class none (h.class (none_hosted v.instances u.instances k.instances.hosts none) e);
  instances = follows_then w.instances v.instances u.instances h.instances k.instances;
}
  where
    still : is_undecided w ≡ false → is_undecided v ≡ false
    still e =
        ap (λ f. is_none f.3 && is_clear v.error_mask) h.rest ∙ ap (λ m. is_none w.canonical && is_clear m) (h.mask e) ∙ e

-- who was given up or decided, and not both, is not both now
pub given_up_alone : (w v : Workunit) → Quietly w v → (is_clear w.error_mask ≡ false → is_none w.canonical ≡ true) → is_clear v.error_mask ≡ false
    → is_none w.canonical ≡ true
given_up_alone w v q before set = grind arith

-- an undecided workunit may get any mask
any_mask : (w : Workunit) (m : ErrorMask) → is_undecided w ≡ true → is_undecided w ≡ false → m ≡ w.error_mask
any_mask w m undecided e = absurd (let both : true ≡ false = sym undecided ∙ e in cc)

-- Who is waited for: no unsent instance once a workunit is given up or decided, and no assimilation before.
pub record Awaits (w : Workunit) : Type 0 where
  pub nothing_unsent : (is_clear w.error_mask && is_none w.canonical) ≡ false → list_any is_unsent w.instances ≡ false
  pub undecided : (is_clear w.error_mask && is_none w.canonical) ≡ true → w.assimilate ≡ assimilate.Init

-- a mask that was set is not clear
not_clear : (m : ErrorMask) → 0 < error_mask_code m → is_clear m ≡ false
not_clear m lt = ne_eqb (error_mask_code m) 0 (λ e. omega (arith, e, lt))

-- where every instance is sent or closed under a mask that is set
awaits_given_up : (w : Workunit) → is_clear w.error_mask ≡ false → list_any is_unsent w.instances ≡ false → Awaits w
awaits_given_up w set none = grind arith

-- a change that leaves each unsent leaves the test for any
pub unsent_same : (test : Instance → Bool) (f : Instance → Instance) → ((i : Instance) → is_unsent (f i) ≡ is_unsent i) → (xs : List Instance)
    → list_any is_unsent (map (λ i. cond (test i) (f i) i) xs) ≡ list_any is_unsent xs
unsent_same test f same xs = any-map is_unsent is_unsent (λ i. cond (test i) (f i) i) (λ i. cond_keeps is_unsent (test i) (f i) i (same i)) xs

-- where one waits to be sent as before
pub awaits_same : (w : Workunit) (ys : List Instance) → list_any is_unsent ys ≡ list_any is_unsent w.instances → Awaits w
    → Awaits (record w { instances = ys })
awaits_same w ys same h = record { nothing_unsent = λ e. same ∙ h.nothing_unsent e; undecided = h.undecided }

-- ---- the transitioner

-- timing out
follows_timed : (w : Workunit) (now : ℕ) → AllBecome none_made w.instances (timed w now).instances
follows_timed w now = all_become none_made (timed_out now) (becomes_timed_out now) w.instances

-- a mask that is clear after new bits was clear before
clear_before : (w : Workunit) → is_clear (extended w).error_mask ≡ true → is_clear w.error_mask ≡ true
clear_before w e =
    let clear = clear_of (extended w).error_mask e in
    let no_errors = or_right w.error_mask.too_many_error_results _ clear.0 in
    let no_total = or_right w.error_mask.too_many_total_results _ clear.1 in
    sym (ap (λ v. is_clear v.error_mask) (extended-unflagged w no_errors no_total)) ∙ e

-- new bits and new instances
quietly_extended : (w : Workunit) → Quietly w (extended w)
quietly_extended w =
    quietly_to w (extended w).error_mask w.params.target_nresults w.class (extended w).instances refl
    (λ e. ap (λ v. v.error_mask) (extended-unflagged w (no_errors_planned w e) (no_total_planned w e)))
    (λ none e. e) (follows w.instances (extended w).instances (all_become-more w.instances (added w)))

-- what is readied is DONE where it was
pub ready_done : (a : Assimilate) → is_done_assimilate (readied_assimilate a) ≡ is_done_assimilate a
ready_done a = grind arith

-- what is closed under a mask
quietly_settled : (w : Workunit) → Quietly w (settled w)
quietly_settled w = cond_has (Quietly w) (is_clear w.error_mask) w (ended w) (quietly_unchanged w) (record {
  rest = refl;
  done = ready_done w.assimilate;
  deletable = λ right. right;
  mask = λ e. refl;
  class = λ none e. e;
  instances = follows w.instances (map given_up w.instances) (all_become none_made given_up becomes_given_up w.instances);
})

-- what is named for deletion
quietly_readied : (w : Workunit) → Quietly w (readied w)
quietly_readied w = cond_has (Quietly w) (is_done_assimilate w.assimilate) (with_files_readied w) w (record {
  rest = refl;
  done = refl;
  deletable = readied_right (is_all_over w) w.file_delete;
  mask = λ e. refl;
  class = λ none e. e;
  instances = follows w.instances (outputs_readied w.canonical w.instances)
      (all_become-placed (with_output_readied w.canonical (list_all is_finished w.instances))
      (λ n i. becomes_readied (may_output_go w.canonical (list_all is_finished w.instances) n i) i) 0 w.instances);
}) (quietly_unchanged w)

-- what is freed from its class
quietly_unbound : (w : Workunit) → Quietly w (unbound w)
quietly_unbound w =
    quietly_to w w.error_mask w.params.target_nresults (unbound w).class w.instances refl (λ e. refl)
    (λ none e. grind arith) (follows w.instances w.instances (all_stay w.instances))

-- the transitioner makes nothing VALID, decided or DONE
pub quietly_transitioned : (w : Workunit) (now : ℕ) → Quietly w (transitioned w now)
unfolding transitioned
quietly_transitioned w now =
    let v = timed w now in
    let u = extended v in
    let t = settled u in
    let r = readied t in
    quietly_then w r (unbound r)
    (quietly_then w t r
    (quietly_then w u t (quietly_then w v u (quietly_same w v.instances (follows_timed w now)) (quietly_extended v)) (quietly_settled u))
    (quietly_readied t))
    (quietly_unbound r)

-- timing out leaves who is waited for
awaits_timed : (w : Workunit) (now : ℕ) → Awaits w → Awaits (timed w now)
awaits_timed w now h =
    awaits_same w (timed w now).instances
    (any-map is_unsent is_unsent (timed_out now) (same_timed is_unsent (λ i. refl) (λ i e. not_unsent i.server_state e) now) w.instances) h

-- under a mask nobody is waited for; else new instances come to an undecided workunit alone
awaits_settled : (w : Workunit) → Awaits w → Awaits (settled (extended w))
awaits_settled w h = by_case (is_clear (extended w).error_mask) refl
  where
    still : (is_clear (extended w).error_mask && is_none w.canonical) ≡ false → is_clear (extended w).error_mask ≡ true
        → list_any is_unsent (extended w).instances ≡ false
    still e clear =
        let decided : is_none w.canonical ≡ false = ap (λ b. b && is_none w.canonical) (sym clear) ∙ e in
        let none : added w ≡ 0 = none_added w (ap (λ b. b && is_clear w.error_mask) decided) in
        let before = h.nothing_unsent (and_false (is_clear w.error_mask) (is_none w.canonical) decided) in
        let more = ap (λ k. list_any is_unsent (replicate k fresh)) none in
        list_any-append is_unsent w.instances (replicate (added w) fresh)
        ∙ or_from (list_any is_unsent w.instances) (list_any is_unsent (replicate (added w) fresh)) before more

    by_case : (b : Bool) → b ≡ is_clear (extended w).error_mask → Awaits (cond b (extended w) (ended (extended w)))
    by_case true e = record {
      nothing_unsent = λ f. still f (sym e);
      undecided = λ f. h.undecided (and_from (is_clear w.error_mask) (is_none w.canonical) (clear_before w (sym e))
          (and_right (is_clear (extended w).error_mask) (is_none w.canonical) f));
    }
    by_case false e = awaits_given_up (ended (extended w)) (sym e) (any_false-map is_unsent given_up (unsent_judged validate.NoCheck) (extended w).instances)

-- naming files for deletion leaves who is waited for
awaits_readied : (w : Workunit) → Awaits w → Awaits (readied w)
awaits_readied w h =
    cond_has Awaits (is_done_assimilate w.assimilate) (with_files_readied w) w
    (record { nothing_unsent = λ e. same ∙ h.nothing_unsent e; undecided = h.undecided }) h
  where
    same : list_any is_unsent (outputs_readied w.canonical w.instances) ≡ list_any is_unsent w.instances
    same = any-placed is_unsent is_unsent (with_output_readied w.canonical (list_all is_finished w.instances)) (λ n i. refl) 0 w.instances

-- the transitioner leaves who is waited for
pub awaits_transitioned : (w : Workunit) (now : ℕ) → Awaits w → Awaits (transitioned w now)
unfolding transitioned
awaits_transitioned w now h =
    let r = awaits_readied (settled (extended (timed w now))) (awaits_settled (timed w now) (awaits_timed w now h)) in
    record { nothing_unsent = r.nothing_unsent; undecided = r.undecided }

-- ---- what is no result

-- what is no result is refused, and nothing is made VALID, decided or DONE
pub quietly_checked : (w : Workunit) → Quietly w (checked w)
quietly_checked w =
    let undecided = is_none w.canonical in
    cond_has (Quietly w) (is_to_validate w) (with_refused undecided w) w
    (quietly_same w (map (refused_where undecided) w.instances) (all_become none_made (refused_where undecided) (becomes_refused_where undecided) w.instances))
    (quietly_unchanged w)

-- that leaves who is waited for
pub awaits_checked : (w : Workunit) → Awaits w → Awaits (checked w)
awaits_checked w h =
    cond_has Awaits (is_to_validate w) (with_refused (is_none w.canonical) w) w
    (awaits_same w (map (refused_where (is_none w.canonical)) w.instances)
    (unsent_same (is_no_result (is_none w.canonical)) refused (λ i. refl) w.instances) h) h

-- ---- without a consensus

-- without a consensus nothing is made VALID
pub quietly_left_open : (w : Workunit) → is_undecided w ≡ true → Quietly w (left_open w)
quietly_left_open w undecided =
    cond_has (Quietly w) (nat_lt w.params.max_success_results (length (viable w))) _ _
    (quietly_to w (record w.error_mask { too_many_success_results = true }) w.params.target_nresults w.class (map doubted_or_closed w.instances)
    refl (any_mask w _ undecided) (λ none e. e)
    (follows w.instances _ (all_become none_made doubted_or_closed becomes_doubted_or_closed w.instances)))
    (quietly_to w w.error_mask (raised_target w.params (length (viable w))) w.class (map doubted w.instances)
    refl (λ e. refl) (λ none e. e) (follows w.instances _ (all_become none_made doubted becomes_doubted w.instances)))

-- without a consensus a workunit waits on, or is given up and closed
pub awaits_left_open : (w : Workunit) → Awaits w → Awaits (left_open w)
awaits_left_open w h =
    cond_has Awaits (nat_lt w.params.max_success_results (length (viable w))) _ _
    (awaits_given_up ended_by_successes (not_clear ended_by_successes.error_mask (omega arith))
    (any_false-map is_unsent doubted_or_closed (unsent_judged validate.Inconclusive) w.instances))
    (record { nothing_unsent = λ e. same ∙ h.nothing_unsent e; undecided = h.undecided })
  where
    ended_by_successes : Workunit
    ended_by_successes = record w { error_mask = record w.error_mask { too_many_success_results = true }; instances = map doubted_or_closed w.instances }

    same : list_any is_unsent (map doubted w.instances) ≡ list_any is_unsent w.instances
    same = unsent_same is_viable (λ i. record i { validate_state = validate.Inconclusive }) (λ i. refl) w.instances

-- ---- cancels

-- a cancel closes what is unsent
pub follows_cancelled : (w : Workunit) → Follows w.instances (cancelled w).instances
unfolding cancelled
follows_cancelled w = follows w.instances (map closed w.instances) (all_become none_made closed becomes_closed w.instances)

-- a cancel gives up what is undecided
pub quietly_cancelled : (w : Workunit) → is_undecided w ≡ true → Quietly w (cancelled w)
unfolding cancelled
quietly_cancelled w e =
    quietly_to w (record w.error_mask { cancelled = true }) w.params.target_nresults w.class (map closed w.instances) refl
    (any_mask w (record w.error_mask { cancelled = true }) e) (λ none e. e) (follows_cancelled w)

-- after a cancel nobody is waited for
pub awaits_cancelled : (w : Workunit) → Awaits (cancelled w)
unfolding cancelled
awaits_cancelled w = awaits_given_up (cancelled w) (not_clear (cancelled w).error_mask (omega arith)) (any_false-map is_unsent closed unsent_closed w.instances)

-- ---- the file deleter

-- a file that is deleted is not in error
emptied_right : (f : FileDelete) → f ≢ file_delete.Error → cond (is_ready_file f) file_delete.Done f ≢ file_delete.Error
emptied_right f right e = grind arith

-- the file deleter changes files alone
pub quietly_emptied : (w : Workunit) → Quietly w (emptied w)
unfolding emptied
quietly_emptied w = record {
  rest = refl;
  done = refl;
  deletable = emptied_right w.file_delete;
  mask = λ e. refl;
  class = λ none e. e;
  instances = follows w.instances (map without_output w.instances) (all_become none_made without_output becomes_without_output w.instances);
}

-- the file deleter leaves who is waited for
pub awaits_emptied : (w : Workunit) → Awaits w → Awaits (emptied w)
unfolding emptied
awaits_emptied w h = record { nothing_unsent = λ e. same ∙ h.nothing_unsent e; undecided = h.undecided }
  where
    same : list_any is_unsent (map without_output w.instances) ≡ list_any is_unsent w.instances
    same = unsent_same (λ i. is_ready_file i.file_delete) (λ i. record i { file_delete = file_delete.Done; output = [] }) (λ i. refl) w.instances

-- ---- one instance

-- where one instance is written that is not unsent, no other is
none_set : {A : Type 0} (p : A → Bool) (xs : List A) (n : ℕ) (x : A) → list_any p xs ≡ false → p x ≡ false → list_any p (slice_set xs n x) ≡ false
none_set p [] n x none e = refl
none_set p (y ∷ ys) zero x none e = or_from (p x) (list_any p ys) e (or_right (p y) (list_any p ys) none)
none_set p (y ∷ ys) (suc n) x none e =
    or_from (p y) (list_any p (slice_set ys n x)) (or_left (p y) (list_any p ys) none) (none_set p ys n x (or_right (p y) (list_any p ys) none) e)

-- one instance that is not unsent leaves who is waited for, in whatever class
pub awaits_set : (w : Workunit) (class n : ℕ) (i : Instance) → is_unsent i ≡ false → Awaits w
    → Awaits (record w { class = class; instances = slice_set w.instances n i })
awaits_set w class n i e h = record { nothing_unsent = λ f. none_set is_unsent w.instances n i (h.nothing_unsent f) e; undecided = h.undecided }
