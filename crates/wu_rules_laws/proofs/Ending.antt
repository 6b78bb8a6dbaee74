-- What becomes of each instance by a transition, and what is left of it under a mask.
use Rattle.std.proofs.Common.{◌≡◌, ◌≢◌, ℕ, ◌+◌, zero-add, Bool, true, false, not, cond, ◌&&◌, ◌||◌, replicate, slice_get, Some, option_map, sym, ap, subst, ◌∙◌, arith}
use Rattle.std.proofs.lemmas.Option.{slice_get-map}
use Rattle.std.specs.List.{list_all, list_any}
use Rattle.std.specs.Option.{IsSomeAnd}
use Rattle.wu_core.specs.Workunit.{fresh}
use Rattle.wu_core.specs.declared.workunit.Instance.{Instance}
use Rattle.wu_core.specs.declared.workunit.Workunit.{Workunit}
use Rattle.wu_core.specs.declared.states.Assimilate.{Assimilate}
use Rattle.wu_core.specs.declared.states.Assimilate.TheVariants as assimilate
use Rattle.wu_core.specs.declared.states.FileDelete.{FileDelete}
use Rattle.wu_rules.specs.Instances.{given_up, is_done_assimilate, is_init_assimilate, is_unsent, is_viable, timed_out}
use Rattle.wu_rules.specs.Counts.{is_clear}
use Rattle.wu_rules.specs.Transition.{added, ended, extended, is_finished, readied, settled, timed, transitioned, with_files_readied, with_output_readied}
use Rattle.wu_rules_laws.specs.Transitions.{Becomes, IsThrough}
use Rattle.wu_rules_laws.proofs.Changed.{or_left, or_right}
use Rattle.wu_rules_laws.proofs.GivingUp.{mask-transitioned}
use Rattle.wu_rules_laws.proofs.Making.{at_front, at_placed}
use Rattle.wu_rules_laws.proofs.Progress.{fails_at}
use Rattle.wu_rules_laws.proofs.Settled.{settled-once, unsettled-readied}

-- ---- one instance

-- of a workunit that is not given up
becomes_timed : (now : ℕ) (i : Instance) → Becomes now false i (timed_out now i)
becomes_timed now i = grind arith

-- of one that is
becomes_ended : (now : ℕ) (i : Instance) → Becomes now true i (given_up (timed_out now i))
becomes_ended now i = grind arith

-- where its output is named
becomes_named : (now : ℕ) (g : Bool) (i j : Instance) (f : FileDelete) → Becomes now g i j → Becomes now g i (record j { file_delete = f })
becomes_named now g i j f it = grind arith

-- ---- at its place

-- what stands at a place after the settling
pub settled_at : (w : Workunit) (now n : ℕ) (i : Instance) → slice_get w.instances n ≡ Some i
    → slice_get (settled (extended (timed w now))).instances n ≡ Some (cond (is_clear (extended (timed w now)).error_mask) (timed_out now i) (given_up (timed_out now i)))
settled_at w now n i here = by (is_clear (extended (timed w now)).error_mask)
  where
    before : slice_get (extended (timed w now)).instances n ≡ Some (timed_out now i)
    before = at_front (timed w now).instances (replicate (added (timed w now)) fresh) n (timed_out now i)
        (slice_get-map (timed_out now) w.instances n ∙ ap (option_map (timed_out now)) here)

    by : (b : Bool) → slice_get (cond b (extended (timed w now)) (ended (extended (timed w now)))).instances n ≡ Some (cond b (timed_out now i) (given_up (timed_out now i)))
    by true = before
    by false = slice_get-map given_up (extended (timed w now)).instances n ∙ ap (option_map given_up) before

-- what stands at a place after files are named
pub readied_at : (s : Workunit) (n : ℕ) (j : Instance) → slice_get s.instances n ≡ Some j
    → slice_get (readied s).instances n ≡ Some (cond (is_done_assimilate s.assimilate) (with_output_readied s.canonical (list_all is_finished s.instances) n j) j)
readied_at s n j here = by (is_done_assimilate s.assimilate)
  where
    by : (b : Bool) → slice_get (cond b (with_files_readied s) s).instances n ≡ Some (cond b (with_output_readied s.canonical (list_all is_finished s.instances) n j) j)
    by true =
        at_placed (with_output_readied s.canonical (list_all is_finished s.instances)) 0 s.instances n
        ∙ (ap (option_map (with_output_readied s.canonical (list_all is_finished s.instances) (0 + n))) here
        ∙ ap (λ k. Some (with_output_readied s.canonical (list_all is_finished s.instances) k j)) (zero-add n))
    by false = here

pub becomes_at : (w : Workunit) (now n : ℕ) (i : Instance) → slice_get w.instances n ≡ Some i
    → IsSomeAnd (slice_get (transitioned w now).instances n) (Becomes now (not (is_clear (transitioned w now).error_mask)) i)
unfolding transitioned
becomes_at w now n i here =
    let s = settled (extended (timed w now)) in
    let j = cond (is_clear (extended (timed w now)).error_mask) (timed_out now i) (given_up (timed_out now i)) in
    subst (λ o. IsSomeAnd o (Becomes now (not (is_clear (transitioned w now).error_mask)) i)) (sym (readied_at s n j (settled_at w now n i here)))
    (either (is_done_assimilate s.assimilate) n j
    (subst (λ m. Becomes now (not (is_clear m)) i j) (sym (mask-transitioned w now)) (by (is_clear (extended (timed w now)).error_mask))))
  where
    by : (b : Bool) → Becomes now (not b) i (cond b (timed_out now i) (given_up (timed_out now i)))
    by true = becomes_timed now i
    by false = becomes_ended now i

    either : (b : Bool) (n : ℕ) (j : Instance) → Becomes now (not (is_clear (transitioned w now).error_mask)) i j
        → Becomes now (not (is_clear (transitioned w now).error_mask)) i
        (cond b (with_output_readied (settled (extended (timed w now))).canonical (list_all is_finished (settled (extended (timed w now))).instances) n j) j)
    either true n j it = becomes_named now (not (is_clear (transitioned w now).error_mask)) i j _ it
    either false n j it = it

-- ---- under a mask

not_init : (a : Assimilate) → is_init_assimilate a ≡ false → a ≢ assimilate.Init
not_init a e f = let both : true ≡ false = sym (ap is_init_assimilate f) ∙ e in cc

pub through : (w : Workunit) (now : ℕ) → is_clear (transitioned w now).error_mask ≡ false → IsThrough (transitioned w now)
unfolding transitioned
through w now set =
    let v = transitioned w now in
    let e = extended (timed w now) in
    let a = is_init_assimilate v.assimilate in
    let b = list_any is_unsent v.instances in
    let c = list_any is_viable v.instances in
    let none : (a || b || c) ≡ false = sym (ap (λ clear. not clear && (a || b || c)) set) ∙ (unsettled-readied (settled e) ∙ settled-once e) in
    record {
      nothing_unsent = λ n i. fails_at is_unsent v.instances n i (or_right a b (or_left (a || b) c none));
      nothing_viable = λ n i. fails_at is_viable v.instances n i (or_right (a || b) c none);
      to_assimilate = not_init v.assimilate (or_left a b (or_left (a || b) c none));
    }
