-- What each rule keeps of a workunit, whatever is asked of its instances one by one.
use Rattle.std.proofs.Common.{◌≡◌, ◌⊎◌, ℕ, suc, ◌+◌, ◌-◌, ◌<◌, ◌≤◌, nat_lt, nat_le, min, Bool, true, false, cond, ◌&&◌, List, [], ◌∷◌, map, length, filter, replicate, Option, Some, None, is_none, refl, sym, subst, ◌∙◌, inl, inr, bytes_eq, leb-true, arith}
use Rattle.std.proofs.lemmas.List.{length-map, length-append, length-replicate}
use Rattle.std.proofs.lemmas.List.Elements.{All-append, All-from_recursion, All-map, All-replicate, All-weaker, recursion_from_All}
use Rattle.std.specs.List.{All, AllByRecursion, enumerate_from, list_all, position_from}
use Rattle.wu_core.specs.Formed.{IsInstance}
use Rattle.wu_core.specs.Limits.{most_instances}
use Rattle.wu_core.specs.Parameters.{IsParameters, Parameters}
use Rattle.wu_core.specs.Workunit.{fresh}
use Rattle.wu_core.specs.declared.mask.ErrorMask.{ErrorMask}
use Rattle.wu_core.specs.declared.states.Assimilate.{Assimilate}
use Rattle.wu_core.specs.declared.states.Assimilate.TheVariants as assimilate
use Rattle.wu_core.specs.declared.states.FileDelete.{FileDelete}
use Rattle.wu_core.specs.declared.states.FileDelete.TheVariants as file_delete
use Rattle.wu_core.specs.declared.states.Outcome.{Outcome}
use Rattle.wu_core.specs.declared.states.Outcome.TheVariants as outcome
use Rattle.wu_core.specs.declared.states.ServerState.TheVariants as server
use Rattle.wu_core.specs.declared.states.ValidateState.{ValidateState}
use Rattle.wu_core.specs.declared.states.ValidateState.TheVariants as validate
use Rattle.wu_core.specs.declared.workunit.Instance.{Instance}
use Rattle.wu_core.specs.declared.workunit.Workunit.{Workunit}
use Rattle.wu_rules.specs.Assimilation.{emptied, without_output}
use Rattle.wu_rules.specs.Cancelling.{cancelled}
use Rattle.wu_rules.specs.Counts.{consensus, has_active, is_agreed, is_clear, viable}
use Rattle.wu_rules.specs.Instances.{closed, given_up, is_done_assimilate, is_init_verdict, is_new, is_open_verdict, is_overdue, is_ready_file, is_success, is_unsent, is_viable, readied_assimilate, readied_file, timed_out}
use Rattle.wu_rules.specs.Transition.{added, allowed, ended, extended, is_finished, is_open, may_output_go, needed, readied, settled, timed, transitioned, unbound, with_files_readied, with_output_readied}
use Rattle.wu_rules.specs.Validation.{agreed_on, checked, concluded, decided, doubted, doubted_or_closed, is_deleted_at, is_no_result, is_to_validate, judged_by, judged_late_by, late_verdict, left_open, output_at, raised_target, refused, refused_where, validated, validated_by, verdict, with_refused}
use Rattle.wu_rules.proofs.Lists.{length-map_placed, map_placed}

-- What may be asked of each instance: new ones have it, and it stays with another verdict on a viable success, with
-- another state of the output, with an output that is deleted, with an end that is no success, and with a refusal of
-- what is no result.
pub record StaysWithInstances (P : Instance → Type 0) : Type 0 where
  pub new : P fresh
  pub judged : (i : Instance) (v : ValidateState) → is_viable i ≡ true → P i → P (record i { validate_state = v })
  pub filed : (i : Instance) (f : FileDelete) → P i → P (record i { file_delete = f })
  pub deleted : (i : Instance) → P i → P (record i { file_delete = file_delete.Done; output = [] })
  pub ended : (i : Instance) (o : Outcome) → (o ≡ outcome.Success → ⊥) → P i → P (record i { server_state = server.Over; outcome = o })
  pub refused : (i : Instance) → P i → P (refused i)

-- that it is well formed is such
pub formed_stays : StaysWithInstances IsInstance
formed_stays = record {
  new = record { sent_with_host = refl; due_with_host = refl; unsent = λ e. refl; in_progress = λ e. cc; success = λ e f. cc };
  judged = λ i v viable h. record { sent_with_host = h.sent_with_host; due_with_host = h.due_with_host; unsent = h.unsent; in_progress = h.in_progress; success = h.success };
  filed = λ i f h. record { sent_with_host = h.sent_with_host; due_with_host = h.due_with_host; unsent = h.unsent; in_progress = h.in_progress; success = h.success };
  deleted = λ i h. record { sent_with_host = h.sent_with_host; due_with_host = h.due_with_host; unsent = h.unsent; in_progress = h.in_progress; success = h.success };
  ended = λ i o other h. record { sent_with_host = h.sent_with_host; due_with_host = h.due_with_host; unsent = λ e. cc; in_progress = λ e. cc; success = λ e f. absurd (other f) };
  refused = λ i h. record { sent_with_host = h.sent_with_host; due_with_host = h.due_with_host; unsent = h.unsent; in_progress = h.in_progress; success = λ e f. cc };
}

-- What a rule keeps, the assimilator's aside: identity, parameters in range, the most instances, what is asked of each
-- instance, a canonical one among them, no class but 0 and its own, and whether and when the workunit was assimilated.
pub record Keeps (P : Instance → Type 0) (old new : Workunit) : Type 0 where
  pub number : new.number ≡ old.number
  pub name : new.name ≡ old.name
  pub input : length new.input ≤ length old.input
  pub parameters : length old.instances ≤ most_instances → IsParameters old.params → IsParameters new.params
  pub total : new.params.max_total_results ≡ old.params.max_total_results
  pub each : All P old.instances → All P new.instances
  pub grows : length old.instances ≤ length new.instances
  pub room : (most : ℕ) → old.params.max_total_results ≤ most → length old.instances ≤ most → length new.instances ≤ most
  pub canonical : (n : ℕ) → new.canonical ≡ Some n → (old.canonical ≡ Some n) ⊎ (n < length new.instances)
  pub class : new.class ≤ old.class
  pub done_at : new.done_at ≡ old.done_at
  pub done : new.assimilate ≡ assimilate.Done → old.assimilate ≡ assimilate.Done
  pub stays_done : old.assimilate ≡ assimilate.Done → new.assimilate ≡ assimilate.Done

-- ---- states, counts and parameters

ready_to : (a : Assimilate) → readied_assimilate a ≡ assimilate.Done → a ≡ assimilate.Done
ready_to assimilate.Init e = cc
ready_to assimilate.Ready e = e
ready_to assimilate.Done e = e

ready_from : (a : Assimilate) → a ≡ assimilate.Done → readied_assimilate a ≡ assimilate.Done
ready_from assimilate.Init e = cc
ready_from assimilate.Ready e = e
ready_from assimilate.Done e = e

-- a new success is a viable one
pub new_is_viable : (i : Instance) → is_new i ≡ true → is_viable i ≡ true
new_is_viable i = by (is_success i) i.validate_state
  where
    by : (b : Bool) (v : ValidateState) → (b && is_init_verdict v) ≡ true → (b && is_open_verdict v) ≡ true
    by true validate.Init e = refl
    by true validate.Inconclusive e = refl
    by true validate.Valid e = e
    by true validate.Invalid e = e
    by true validate.NoCheck e = e
    by true validate.TooLate e = e
    by false v e = e

filter_short : {A : Type 0} (p : A → Bool) (xs : List A) → length (filter p xs) ≤ length xs
filter_short p [] = omega arith
filter_short {A} p (x ∷ xs) = by_case (p x) (filter_short p xs)
  where
    by_case : (b : Bool) → length (filter p xs) ≤ length xs → length (cond b (x ∷ filter p xs) (filter p xs)) ≤ suc (length xs)
    by_case true h = omega arith
    by_case false h = omega arith

position_within : {A : Type 0} (p : A → Bool) (s : ℕ) (xs : List A) (n : ℕ) → position_from p s xs ≡ Some n → n < s + length xs
position_within p s [] n e = cc
position_within {A} p s (x ∷ xs) n e = by_case (p x) e (position_within p (s + 1) xs n)
  where
    by_case : (b : Bool) → cond b (Some s) (position_from p (s + 1) xs) ≡ Some n → (position_from p (s + 1) xs ≡ Some n → n < s + 1 + length xs) → n < s + suc (length xs)
    by_case true h r = let here : s ≡ n = cc in omega arith
    by_case false h r = let later = r h in omega arith

consensus_within : (w : Workunit) (n : ℕ) → consensus w ≡ Some n → n < length w.instances
consensus_within w n e = let within = position_within (is_agreed w) 0 w.instances n e in omega arith

raised_within : (p : Parameters) (n : ℕ) → n ≤ most_instances → IsParameters p → IsParameters (record p { target_nresults = raised_target p n })
raised_within p n le h = by_case (nat_le p.target_nresults n) refl
  where
    by_case : (b : Bool) → b ≡ nat_le p.target_nresults n → IsParameters (record p { target_nresults = cond b (n + 1) p.target_nresults })
    by_case true e =
        let reached : p.target_nresults ≤ n = leb-true p.target_nresults n (sym e) in
        let least = h.target_nresults.0 in
        record {
          min_quorum = h.min_quorum;
          target_nresults = (omega arith, omega arith);
          max_error_results = h.max_error_results;
          max_total_results = h.max_total_results;
          max_success_results = h.max_success_results;
          delay_bound = h.delay_bound;
          credit = h.credit;
        }
    by_case false e = record {
      min_quorum = h.min_quorum;
      target_nresults = h.target_nresults;
      max_error_results = h.max_error_results;
      max_total_results = h.max_total_results;
      max_success_results = h.max_success_results;
      delay_bound = h.delay_bound;
      credit = h.credit;
    }

module _ (P : Instance → Type 0) where
  unchanged : (w : Workunit) → Keeps P w w
  unchanged w = record {
    number = refl;
    name = refl;
    input = omega arith;
    parameters = λ few h. h;
    total = refl;
    each = λ h. h;
    grows = omega arith;
    room = λ most total few. few;
    canonical = λ n e. inl e;
    class = omega arith;
    done_at = refl;
    done = λ e. e;
    stays_done = λ e. e;
  }

  keeps_either : (b : Bool) (w v u : Workunit) → Keeps P w v → Keeps P w u → Keeps P w (cond b v u)
  keeps_either true w v u h k = h
  keeps_either false w v u h k = k

  -- one rule after another, where a canonical result is the old one or among the new instances
  keeps_both : (w v u : Workunit) → Keeps P w v → Keeps P v u → ((n : ℕ) → u.canonical ≡ Some n → (w.canonical ≡ Some n) ⊎ (n < length u.instances)) → Keeps P w u
  keeps_both w v u h k chosen = record {
    number = k.number ∙ h.number;
    name = k.name ∙ h.name;
    input = (let a = h.input in let b = k.input in omega arith);
    parameters = λ few p. grown few p;
    total = k.total ∙ h.total;
    each = λ all. k.each (h.each all);
    grows = (let a = h.grows in let b = k.grows in omega arith);
    room = λ most total few. k.room most (subst (λ t. t ≤ most) (sym h.total) total) (h.room most total few);
    canonical = chosen;
    class = (let a = h.class in let b = k.class in omega arith);
    done_at = k.done_at ∙ h.done_at;
    done = λ e. h.done (k.done e);
    stays_done = λ e. k.stays_done (h.stays_done e);
  }
    where
      grown : length w.instances ≤ most_instances → IsParameters w.params → IsParameters u.params
      grown few p = k.parameters (h.room most_instances p.max_total_results.1 few) (h.parameters few p)

  -- where the second one leaves the canonical result
  keeps_then : (w v u : Workunit) → Keeps P w v → Keeps P v u → u.canonical ≡ v.canonical → Keeps P w u
  keeps_then w v u h k same = keeps_both w v u h k (λ n e. by_before n (h.canonical n (sym same ∙ e)))
    where
      by_before : (n : ℕ) → (w.canonical ≡ Some n) ⊎ (n < length v.instances) → (w.canonical ≡ Some n) ⊎ (n < length u.instances)
      by_before n (inl e) = inl e
      by_before n (inr lt) = inr (let a = k.grows in omega arith)

  -- where the first one leaves the canonical result
  keeps_after : (w v u : Workunit) → Keeps P w v → Keeps P v u → v.canonical ≡ w.canonical → Keeps P w u
  keeps_after w v u h k same = keeps_both w v u h k (λ n e. by_before n (k.canonical n e))
    where
      by_before : (n : ℕ) → (v.canonical ≡ Some n) ⊎ (n < length u.instances) → (w.canonical ≡ Some n) ⊎ (n < length u.instances)
      by_before n (inl e) = inl (sym same ∙ e)
      by_before n (inr lt) = inr lt

  module _ (stays : StaysWithInstances P) where
    -- ---- instances

    either : (b : Bool) (x y : Instance) → (b ≡ true → P x) → P y → P (cond b x y)
    either true x y h k = h refl
    either false x y h k = k

    each_closed : (i : Instance) → P i → P (closed i)
    each_closed i h = either (is_unsent i) _ i (λ is. stays.ended i outcome.DidntNeed (λ e. cc) h) h

    each_timed_out : (now : ℕ) (i : Instance) → P i → P (timed_out now i)
    each_timed_out now i h = either (is_overdue now i) _ i (λ is. stays.ended i outcome.NoReply (λ e. cc) h) h

    each_given_up : (i : Instance) → P i → P (given_up i)
    each_given_up i h = either (is_viable i) _ (closed i) (λ is. stays.judged i validate.NoCheck is h) (each_closed i h)

    each_judged_by : (output : List ℕ) (i : Instance) → P i → P (judged_by output i)
    each_judged_by output i h = either (is_viable i) _ (closed i) (λ is. stays.judged i (verdict (bytes_eq i.output output)) is h) (each_closed i h)

    each_judged_late_by : (is_gone : Bool) (output : List ℕ) (i : Instance) → P i → P (judged_late_by is_gone output i)
    each_judged_late_by is_gone output i h = either (is_new i) _ i (λ is. stays.judged i (late_verdict is_gone (bytes_eq i.output output)) (new_is_viable i is) h) h

    each_refused_where : (undecided : Bool) (i : Instance) → P i → P (refused_where undecided i)
    each_refused_where undecided i h = either (is_no_result undecided i) (refused i) i (λ is. stays.refused i h) h

    each_doubted : (i : Instance) → P i → P (doubted i)
    each_doubted i h = either (is_viable i) _ i (λ is. stays.judged i validate.Inconclusive is h) h

    each_doubted_or_closed : (i : Instance) → P i → P (doubted_or_closed i)
    each_doubted_or_closed i h = either (is_viable i) _ (closed i) (λ is. stays.judged i validate.Inconclusive is h) (each_closed i h)

    each_without_output : (i : Instance) → P i → P (without_output i)
    each_without_output i h = either (is_ready_file i.file_delete) _ i (λ is. stays.deleted i h) h

    -- ---- workunits whose instances are changed one by one

    changed : (f : Instance → Instance) → ((i : Instance) → P i → P (f i)) → (w : Workunit) (mask : ErrorMask) → Keeps P w (record w { error_mask = mask; instances = map f w.instances })
    changed f keeps w mask =
        let long = length-map w.instances f in
        record {
          number = refl;
          name = refl;
          input = omega arith;
          parameters = λ few h. h;
          total = refl;
          each = λ all. All-map P f w.instances (All-weaker P (λ i. P (f i)) keeps w.instances all);
          grows = omega arith;
          room = λ most total few. omega arith;
          canonical = λ n e. inl e;
          class = omega arith;
          done_at = refl;
          done = λ e. e;
          stays_done = λ e. e;
        }

    pub keeps_cancelled : (w : Workunit) → Keeps P w (cancelled w)
    unfolding cancelled
    keeps_cancelled w = changed closed each_closed w (record w.error_mask { cancelled = true })

    -- ---- the transitioner

    keeps_timed : (w : Workunit) (now : ℕ) → Keeps P w (timed w now)
    keeps_timed w now = changed (timed_out now) (each_timed_out now) w w.error_mask

    keeps_extended : (w : Workunit) → Keeps P w (extended w)
    keeps_extended w =
        let long = length-append w.instances (replicate (added w) fresh) in
        let more = length-replicate (added w) fresh in
        record {
          number = refl;
          name = refl;
          input = omega arith;
          parameters = λ few h. h;
          total = refl;
          each = λ all. All-append P w.instances (replicate (added w) fresh) all (All-replicate P (added w) fresh stays.new);
          grows = omega arith;
          room = λ most total few. (let room = at_most (is_open w) in omega arith);
          canonical = λ n e. inl e;
          class = omega arith;
          done_at = refl;
          done = λ e. e;
          stays_done = λ e. e;
        }
      where
        at_most : (b : Bool) → cond b (min (needed w) (allowed w)) 0 ≤ w.params.max_total_results - length w.instances
        at_most true = omega arith
        at_most false = omega arith

    keeps_settled : (w : Workunit) → Keeps P w (settled w)
    keeps_settled w =
        let all = changed given_up each_given_up w w.error_mask in
        keeps_either (is_clear w.error_mask) w w (ended w) (unchanged w) (record {
          number = refl;
          name = refl;
          input = all.input;
          parameters = all.parameters;
          total = refl;
          each = all.each;
          grows = all.grows;
          room = all.room;
          canonical = all.canonical;
          class = all.class;
          done_at = refl;
          done = ready_to w.assimilate;
          stays_done = ready_from w.assimilate;
        })

    each_placed : (f : ℕ → Instance → Instance) → ((n : ℕ) (i : Instance) → P i → P (f n i)) → (s : ℕ) (xs : List Instance) → AllByRecursion P xs
        → AllByRecursion P (map (λ p. f p.0 p.1) (enumerate_from s xs))
    each_placed f keeps s [] all = tt
    each_placed f keeps s (x ∷ xs) all = (keeps s x all.0, each_placed f keeps (s + 1) xs all.1)

    keeps_readied : (w : Workunit) → Keeps P w (readied w)
    keeps_readied w =
        let f = with_output_readied w.canonical (list_all is_finished w.instances) in
        let long = length-map_placed f w.instances in
        keeps_either (is_done_assimilate w.assimilate) w (with_files_readied w) w
        (record {
          number = refl;
          name = refl;
          input = omega arith;
          parameters = λ few h. h;
          total = refl;
          each = λ all. All-from_recursion P (map_placed f w.instances) (each_placed f
              (λ n i h. stays.filed i (readied_file (may_output_go w.canonical (list_all is_finished w.instances) n i) i.file_delete) h)
              0 w.instances (recursion_from_All P w.instances all));
          grows = omega arith;
          room = λ most total few. omega arith;
          canonical = λ n e. inl e;
          class = omega arith;
          done_at = refl;
          done = λ e. e;
          stays_done = λ e. e;
        }) (unchanged w)

    keeps_unbound : (w : Workunit) → Keeps P w (unbound w)
    keeps_unbound w =
        let all = unchanged w in
        record {
          number = refl;
          name = refl;
          input = all.input;
          parameters = all.parameters;
          total = refl;
          each = all.each;
          grows = all.grows;
          room = all.room;
          canonical = all.canonical;
          class = at_most (has_active w);
          done_at = refl;
          done = λ e. e;
          stays_done = λ e. e;
        }
      where
        at_most : (b : Bool) → cond b w.class 0 ≤ w.class
        at_most true = omega arith
        at_most false = omega arith

    settled_canonical : (w : Workunit) → (settled w).canonical ≡ w.canonical
    settled_canonical w = by (is_clear w.error_mask)
      where
        by : (b : Bool) → (cond b w (ended w)).canonical ≡ w.canonical
        by true = refl
        by false = refl

    readied_canonical : (w : Workunit) → (readied w).canonical ≡ w.canonical
    readied_canonical w = by (is_done_assimilate w.assimilate)
      where
        by : (b : Bool) → (cond b (with_files_readied w) w).canonical ≡ w.canonical
        by true = refl
        by false = refl

    pub keeps_transitioned : (w : Workunit) (now : ℕ) → Keeps P w (transitioned w now)
    unfolding transitioned
    keeps_transitioned w now =
        let v = timed w now in
        let u = extended v in
        let t = settled u in
        let r = readied t in
        keeps_then w r (unbound r)
        (keeps_then w t r
        (keeps_then w u t (keeps_then w v u (keeps_timed w now) (keeps_extended v) refl) (keeps_settled u) (settled_canonical u))
        (keeps_readied t) (readied_canonical t))
        (keeps_unbound r) refl

    -- ---- the validator

    keeps_left_open : (w : Workunit) → Keeps P w (left_open w)
    keeps_left_open w =
        let short = filter_short is_viable w.instances in
        let all = changed doubted each_doubted w w.error_mask in
        keeps_either (nat_lt w.params.max_success_results (length (viable w))) w _ _
        (changed doubted_or_closed each_doubted_or_closed w (record w.error_mask { too_many_success_results = true }))
        (record {
          number = refl;
          name = refl;
          input = all.input;
          parameters = λ few h. raised_within w.params (length (viable w)) (omega (arith, short, few)) h;
          total = refl;
          each = all.each;
          grows = all.grows;
          room = all.room;
          canonical = all.canonical;
          class = all.class;
          done_at = refl;
          done = λ e. e;
          stays_done = λ e. e;
        })

    keeps_agreed_on : (w : Workunit) (n : ℕ) → n < length w.instances → Keeps P w (agreed_on w n)
    keeps_agreed_on w n lt =
        let output = output_at w.instances n in
        let all = changed (judged_by output) (each_judged_by output) w w.error_mask in
        record {
          number = refl;
          name = refl;
          input = all.input;
          parameters = all.parameters;
          total = refl;
          each = all.each;
          grows = all.grows;
          room = all.room;
          canonical = λ m e. inr (let same : n ≡ m = cc in let long = length-map w.instances (judged_by output) in omega arith);
          class = all.class;
          done_at = refl;
          done = ready_to w.assimilate;
          stays_done = ready_from w.assimilate;
        }

    keeps_decided : (w : Workunit) (o : Option ℕ) → consensus w ≡ o → Keeps P w (decided w o)
    keeps_decided w None e = keeps_left_open w
    keeps_decided w (Some n) e = keeps_agreed_on w n (consensus_within w n e)

    keeps_by : (w : Workunit) (o : Option ℕ) → Keeps P w (validated_by w o)
    keeps_by w None = keeps_decided w (consensus w) refl
    keeps_by w (Some n) = changed (judged_late_by (is_deleted_at w.instances n) (output_at w.instances n)) (each_judged_late_by (is_deleted_at w.instances n) (output_at w.instances n)) w w.error_mask

    pub keeps_concluded : (w : Workunit) → Keeps P w (concluded w)
    unfolding concluded
    keeps_concluded w = keeps_either (is_to_validate w) w (validated_by w w.canonical) w (keeps_by w w.canonical) (unchanged w)

    pub keeps_checked : (w : Workunit) → Keeps P w (checked w)
    keeps_checked w =
        let undecided = is_none w.canonical in
        keeps_either (is_to_validate w) w (with_refused undecided w) w (changed (refused_where undecided) (each_refused_where undecided) w w.error_mask) (unchanged w)

    checked_canonical : (w : Workunit) → (checked w).canonical ≡ w.canonical
    checked_canonical w = by (is_to_validate w)
      where
        by : (b : Bool) → (cond b (with_refused (is_none w.canonical) w) w).canonical ≡ w.canonical
        by true = refl
        by false = refl

    pub keeps_validated : (w : Workunit) → Keeps P w (validated w)
    unfolding validated
    keeps_validated w = keeps_after w (checked w) (concluded (checked w)) (keeps_checked w) (keeps_concluded (checked w)) (checked_canonical w)

    -- ---- the file deleter

    input_emptied : (b : Bool) (input : List ℕ) → length (cond b [] input) ≤ length input
    input_emptied true input = omega arith
    input_emptied false input = omega arith

    pub keeps_emptied : (w : Workunit) → Keeps P w (emptied w)
    unfolding emptied
    keeps_emptied w =
        let all = changed without_output each_without_output w w.error_mask in
        record {
          number = refl;
          name = refl;
          input = input_emptied (is_ready_file w.file_delete) w.input;
          parameters = all.parameters;
          total = refl;
          each = all.each;
          grows = all.grows;
          room = all.room;
          canonical = all.canonical;
          class = all.class;
          done_at = refl;
          done = λ e. e;
          stays_done = λ e. e;
        }
