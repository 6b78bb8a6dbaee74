-- What timing out leaves alone.
use Rattle.std.proofs.Common.{◌≡◌, ℕ, zero, suc, ◌∷◌, ◌++◌, replicate, Bool, true, false, cond, ◌&&◌, List, length, map, refl, sym, ◌∙◌, ap, Option, Some, None, nat_lt, arith}
use Rattle.std.proofs.lemmas.List.{map-append}
use Rattle.std.proofs.lemmas.Bool.Decides.{nat_tests}
use Rattle.std.specs.Option.{option_map_or}
use Rattle.wu_core.specs.Workunit.{fresh}
use Rattle.wu_core.specs.declared.workunit.Instance.{Instance}
use Rattle.wu_core.specs.declared.workunit.Workunit.{Workunit}
use Rattle.wu_core.specs.declared.states.ServerState.{ServerState}
use Rattle.wu_core.specs.declared.states.ServerState.TheVariants as server
use Rattle.wu_rules.specs.Instances.{is_unsent_state, is_in_progress_state, is_over_state, is_unsent, is_in_progress, is_kept, is_viable, is_new, is_overdue, without_reply, timed_out}
use Rattle.wu_rules.specs.Counts.{unsent, kept, viable, has_new_success}
use Rattle.wu_rules.specs.Transition.{timed}
use Rattle.wu_rules.specs.Validation.{is_to_validate}
use Rattle.wu_rules.proofs.Lists.{count-map, any-map, map-same}

pub and_left : (a b : Bool) → true ≡ (a && b) → a ≡ true
and_left true b e = refl
and_left false b e = cc

pub not_unsent : (s : ServerState) → is_in_progress_state s ≡ true → is_unsent_state s ≡ false
not_unsent server.Inactive e = refl
not_unsent server.Unsent e = cc
not_unsent server.InProgress e = refl
not_unsent server.Over e = refl

pub not_over : (s : ServerState) → is_in_progress_state s ≡ true → is_over_state s ≡ false
not_over server.Inactive e = refl
not_over server.Unsent e = refl
not_over server.InProgress e = refl
not_over server.Over e = cc

-- a test that fails in progress and without a reply is left alone
pub same_timed : (p : Instance → Bool) → ((i : Instance) → p (without_reply i) ≡ false) → ((i : Instance) → is_in_progress i ≡ true → p i ≡ false) → (now : ℕ) (i : Instance) → p (timed_out now i) ≡ p i
same_timed p after before now i = by_case (is_overdue now i) refl
  where
    by_case : (b : Bool) → b ≡ is_overdue now i → p (cond b (without_reply i) i) ≡ p i
    by_case true e = after i ∙ sym (before i (and_left _ _ e))
    by_case false e = refl

unsent_same : (now : ℕ) (i : Instance) → is_unsent (timed_out now i) ≡ is_unsent i
unsent_same = same_timed is_unsent (λ i. refl) (λ i e. not_unsent i.server_state e)

kept_same : (now : ℕ) (i : Instance) → is_kept (timed_out now i) ≡ is_kept i
kept_same = same_timed is_kept (λ i. refl) (λ i e. rw (not_over i.server_state e) refl)

pub viable_same : (now : ℕ) (i : Instance) → is_viable (timed_out now i) ≡ is_viable i
viable_same = same_timed is_viable (λ i. refl) (λ i e. rw (not_over i.server_state e) refl)

new_same : (now : ℕ) (i : Instance) → is_new (timed_out now i) ≡ is_new i
new_same = same_timed is_new (λ i. refl) (λ i e. rw (not_over i.server_state e) refl)

pub unsent-timed : (w : Workunit) (now : ℕ) → unsent (timed w now) ≡ unsent w
unsent-timed w now = count-map is_unsent is_unsent (timed_out now) (unsent_same now) w.instances

pub kept-timed : (w : Workunit) (now : ℕ) → kept (timed w now) ≡ kept w
kept-timed w now = count-map is_kept is_kept (timed_out now) (kept_same now) w.instances

pub length-viable-timed : (w : Workunit) (now : ℕ) → length (viable (timed w now)) ≡ length (viable w)
length-viable-timed w now = count-map is_viable is_viable (timed_out now) (viable_same now) w.instances

pub has_new_success-timed : (w : Workunit) (now : ℕ) → has_new_success (timed w now) ≡ has_new_success w
has_new_success-timed w now = any-map is_new is_new (timed_out now) (new_same now) w.instances

-- the validator looks at the same workunits
pub is_to_validate-timed : (w : Workunit) (now : ℕ) → is_to_validate (timed w now) ≡ is_to_validate w
is_to_validate-timed w now = rw (has_new_success-timed w now, length-viable-timed w now) refl

pub ruleset timings = (unsent-timed, kept-timed, is_to_validate-timed)

-- a new instance has no deadline
map-fresh : (now n : ℕ) → map (timed_out now) (replicate n fresh) ≡ replicate n fresh
map-fresh now zero = refl
map-fresh now (suc n) = ap (λ zs. fresh ∷ zs) (map-fresh now n)

pub map-timed_out-extended : (now n : ℕ) (xs : List Instance) → map (timed_out now) (xs ++ replicate n fresh) ≡ map (timed_out now) xs ++ replicate n fresh
map-timed_out-extended now n xs = map-append (timed_out now) xs (replicate n fresh) ∙ ap (λ zs. map (timed_out now) xs ++ zs) (map-fresh now n)

-- no deadline lies before the first moment
timed_out_at_start : (i : Instance) → timed_out 0 i ≡ i
timed_out_at_start i = by_case (is_overdue 0 i) (never i.deadline (is_in_progress i))
  where
    never : (deadline : Option ℕ) (b : Bool) → (b && option_map_or (λ d. nat_lt d 0) deadline false) ≡ false
    never None true = refl
    never (Some d) true = grind (arith, nat_tests)
    never o false = refl

    by_case : (b : Bool) → b ≡ false → cond b (without_reply i) i ≡ i
    by_case true e = cc
    by_case false e = refl

pub timed-start : (w : Workunit) → timed w 0 ≡ w
timed-start w = ap (λ zs. record w { instances = zs }) (map-same (timed_out 0) timed_out_at_start w.instances)
