-- Each rule rewrites a consistent workunit.
use Rattle.std.proofs.Common.{◌≡◌, ◌≢◌, ℕ, zero, suc, ◌+◌, ◌<◌, Bool, true, false, not, cond, ◌&&◌, ◌||◌, List, [], ◌∷◌, map, length, slice_get, slice_set, Option, Some, None, IfSome, is_none, option_to_list, refl, sym, ap, subst, ◌∙◌, bytes_eq, arith}
use Rattle.std.proofs.lemmas.Bool.Decides.{nat_tests}
use Rattle.std.proofs.lemmas.List.Elements.{All-from_recursion, All-weaker, recursion_from_All}
use Rattle.std.proofs.lemmas.Option.{get_or_from_slice_get, slice_get_within}
use Rattle.std.proofs.lemmas.Cmp.{nat_list_eq_equiv}
use Rattle.std.specs.List.{All, AllByRecursion, list_any}
use Rattle.std.specs.Option.{option_map_or}
use Rattle.wu_core.specs.Formed.{IsInstance, IsWorkunit}
use Rattle.wu_core.specs.Workunit.{with_instance_set}
use Rattle.wu_core.specs.declared.workunit.Archived.{Archived}
use Rattle.wu_core.specs.declared.workunit.Grant.{Grant}
use Rattle.wu_core.specs.declared.workunit.Instance.{Instance}
use Rattle.wu_core.specs.declared.workunit.Workunit.{Workunit}
use Rattle.wu_core.specs.declared.states.Assimilate.{Assimilate}
use Rattle.wu_core.specs.declared.states.Assimilate.TheVariants as assimilate
use Rattle.wu_core.specs.declared.states.Outcome.TheVariants as outcome
use Rattle.wu_core.specs.declared.states.Status.{Status}
use Rattle.wu_core.specs.declared.states.ValidateState.TheVariants as validate
use Rattle.wu_rules.specs.Assimilation.{archived, archived_row, assimilated, emptied}
use Rattle.wu_rules.specs.Cancelling.{cancelled}
use Rattle.wu_rules.specs.Counts.{consensus, has_active, has_new_success, is_clear, is_undecided}
use Rattle.wu_rules.specs.Instances.{is_done_assimilate, is_new, is_ready_assimilate, is_success, is_unsent, readied_assimilate}
use Rattle.wu_rules.specs.Reporting.{report_verdict_in, report_verdict_of, reported_as, reported_in}
use Rattle.wu_rules.specs.Sending.{is_of, send_verdict_in, send_verdict_of, sent_as, sent_in, sent_to}
use Rattle.wu_rules.specs.Transition.{transitioned}
use Rattle.wu_rules.specs.Validation.{agreed_on, checked, concluded, credited, grants, grants_by, is_judged, is_judged_where, is_to_validate, judged_by, judged_late_by, left_open, output_at, validated, verdict}
use Rattle.wu_rules.specs.declared.verdicts.ReportVerdict.TheVariants as report
use Rattle.wu_rules.specs.declared.verdicts.SendVerdict.TheVariants as send
use Rattle.wu_rules_laws.specs.Consistent.{RulesRewrite}
use Rattle.wu_rules.specs.Consistent.{ArchivesTheNew, GrantsToTheNew, IsConsistent, IsPossible, IsRowOf, Rewrites, instance_host, is_done, is_valid_at, is_valid_verdict, one_if}
use Rattle.wu_rules_laws.specs.Laws.{IsChosen, IsRightGrantIn}
use Rattle.wu_rules_laws.proofs.Becoming.{AllBecome, Becomes, all_become, all_become-set, all_possible, becomes_judged_by, becomes_judged_late_by, becomes_reported, becomes_too_late, final_at, none_made, possible_sent, same_host, unsent_init, valid_at}
use Rattle.wu_rules_laws.proofs.Changed.{and_false, any_false-map}
use Rattle.wu_rules_laws.proofs.Checking.{concluded_has}
use Rattle.wu_rules_laws.proofs.Following.{Awaits, Quietly, awaits_cancelled, awaits_checked, awaits_emptied, awaits_left_open, awaits_same, awaits_set, awaits_transitioned, follows_sent, given_up_alone, quietly_cancelled, quietly_checked, quietly_emptied, quietly_left_open, quietly_same, quietly_to, quietly_transitioned, quietly_unchanged, ready_done, unsent_same, verdicts_kept, kept_then}
use Rattle.wu_rules_laws.proofs.Granted.{grants_new}
use Rattle.wu_rules_laws.proofs.Granting.{chosen, credits_right}
use Rattle.wu_rules_laws.proofs.Hosted.{apart_same, hosted_set, none_hosted}
use Rattle.wu_rules_laws.proofs.Kept.{formed_checked, formed_concluded, keeps_formed, reported_has}
use Rattle.wu_rules_laws.proofs.Settled.{unsent_judged}
use Rattle.wu_rules_laws.proofs.Spent.{and_from, and_left, and_right}

-- ---- the canonical result

-- a success that is VALID
abbrev IsRight : Instance → Type 0
IsRight i = (is_success i ≡ true) × (i.validate_state ≡ validate.Valid)

-- of what is possible, only a success is VALID
valid_right : (i : Instance) → IsPossible i → is_valid_verdict i.validate_state ≡ true → IsRight i
valid_right i possible e = grind arith

-- of possible instances the one that is VALID is right
right_at : (xs : List Instance) (n : ℕ) → AllByRecursion IsPossible xs → is_valid_at xs n ≡ true → IfSome (slice_get xs n) IsRight
right_at [] n all e = tt
right_at (x ∷ xs) zero all e = valid_right x all.0 e
right_at (x ∷ xs) (suc n) all e = right_at xs n all.1 e

-- the one that is there and right is VALID
valid_here : (xs : List Instance) (n : ℕ) → n < length xs → IfSome (slice_get xs n) IsRight → is_valid_at xs n ≡ true
valid_here [] n lt h = absurd (omega arith)
valid_here (x ∷ xs) zero lt h = ap is_valid_verdict h.1
valid_here (x ∷ xs) (suc n) lt h = valid_here xs n (omega arith) h

-- the canonical result is VALID
canonical_valid : (w : Workunit) → IsWorkunit w → IsConsistent w → (n : ℕ) → w.canonical ≡ Some n → is_valid_at w.instances n ≡ true
canonical_valid w formed h n e =
    valid_here w.instances n (formed.canonical n e) (subst (λ o. IfSome o (λ k. IfSome (slice_get w.instances k) IsRight)) e h.canonical)

-- a canonical result that is VALID is right
canonical_right : (v : Workunit) → AllByRecursion IsPossible v.instances → ((n : ℕ) → v.canonical ≡ Some n → is_valid_at v.instances n ≡ true)
    → IfSome v.canonical (λ n. IfSome (slice_get v.instances n) IsRight)
canonical_right v possible valid = by_case v.canonical refl
  where
    by_case : (o : Option ℕ) → v.canonical ≡ o → IfSome o (λ n. IfSome (slice_get v.instances n) IsRight)
    by_case None e = tt
    by_case (Some n) e = right_at v.instances n possible (valid n e)

-- ---- no grant, and no archived row

-- what is as it was is not new
none_new : (b c : Bool) → b ≡ c → 0 ≡ one_if (b && not c)
none_new b c e = grind arith

-- where nothing is made VALID there is no grant
grants_none : (w v : Workunit) → ((n : ℕ) → is_valid_at v.instances n ≡ is_valid_at w.instances n) → GrantsToTheNew w v []
grants_none w v same = record {
  workunit = λ k d lt. absurd (omega arith);
  each = λ n. none_new (is_valid_at v.instances n) (is_valid_at w.instances n) (same n);
  own = λ k d lt. absurd (omega arith);
}

-- where nothing is made DONE there is no archived row
archives_none : (w v : Workunit) → is_done v ≡ is_done w → ArchivesTheNew w v []
archives_none w v same = record { once = none_new (is_done v) (is_done w) same; own = λ k d lt. absurd (omega arith) }

-- ---- rules that make nothing VALID

-- a consistent workunit waits as it should
awaits_of : (w : Workunit) → IsConsistent w → Awaits w
awaits_of w h = record { nothing_unsent = h.nothing_unsent; undecided = h.undecided }

-- what is DONE is not undecided
done_not_undecided : (w : Workunit) → IsConsistent w → is_done w ≡ true → is_undecided w ≡ false
done_not_undecided w h done = grind arith

-- a rule that makes nothing VALID rewrites
rewrites_quietly : (w v : Workunit) → IsWorkunit w → IsConsistent w → IsWorkunit v → Quietly w v → Awaits v → Rewrites w v [] []
rewrites_quietly w v formed h made q a =
    let possible : AllByRecursion IsPossible v.instances = q.instances.possible (recursion_from_All IsPossible w.instances h.instances) in
    let canonical : v.canonical ≡ w.canonical = ap (λ f. f.3) q.rest in
    record {
      number = ap (λ f. f.0) q.rest;
      name = ap (λ f. f.1) q.rest;
      credit = ap (λ f. f.2) q.rest;
      formed = made;
      consistent = record {
        instances = All-from_recursion IsPossible v.instances possible;
        deletable = q.deletable h.deletable;
        sendable = ap (λ f. f.4) q.rest ∙ h.sendable;
        decidable = ap (λ f. f.5) q.rest ∙ h.decidable;
        given_up_or_decided = λ e. ap is_none canonical ∙ given_up_alone w v q h.given_up_or_decided e;
        nothing_unsent = a.nothing_unsent;
        undecided = a.undecided;
        canonical = canonical_right v possible (λ n e. q.instances.valid n ∙ canonical_valid w formed h n (sym canonical ∙ e));
        classless = λ none. q.class none (h.classless (none_hosted w.instances v.instances q.instances.hosts none));
      };
      valid = λ n e. (let now_valid : is_valid_at v.instances n ≡ true = q.instances.valid n ∙ e in (now_valid, q.instances.host n now_valid));
      canonical = λ n e. canonical ∙ e;
      verdicts = verdicts_kept w v q.instances.final;
      hosts = q.instances.hosts;
      apart = q.instances.apart;
      given_up = λ e. ap is_clear (q.mask (and_false (is_none w.canonical) (is_clear w.error_mask) e)) ∙ e;
      done = λ e. q.done ∙ e;
      stays = λ e. (q.mask (done_not_undecided w h e), ap (λ f. f.6) q.rest);
      granted = grants_none w v q.instances.valid;
      archives = archives_none w v q.done;
    }

-- no change rewrites
pub rewrites_unchanged : (w : Workunit) → IsWorkunit w → IsConsistent w → Rewrites w w [] []
rewrites_unchanged w formed h = rewrites_quietly w w formed h formed (quietly_unchanged w) (awaits_of w h)

-- what is DONE keeps its canonical result, or that it has none
pub canonical_stays : (w v : Workunit) (gs : List Grant) (rows : List Archived) → IsConsistent w → Rewrites w v gs rows → is_done w ≡ true
    → v.canonical ≡ w.canonical
canonical_stays w v gs rows h rewrites done = by_case w.canonical refl
  where
    none : (o : Option ℕ) → is_none o ≡ true → o ≡ None
    none o e = grind arith

    by_case : (o : Option ℕ) → w.canonical ≡ o → v.canonical ≡ o
    by_case (Some n) e = rewrites.canonical n e
    by_case None e =
        let set : is_clear w.error_mask ≡ false = ap (λ c. is_none c && is_clear w.error_mask) (sym e) ∙ done_not_undecided w h done in
        none v.canonical (rewrites.consistent.given_up_or_decided (rewrites.given_up set))

-- ---- the assimilator

-- what is ready is not DONE
ready_not_done : (a : Assimilate) → is_ready_assimilate a ≡ true → is_done_assimilate a ≡ false
ready_not_done a e = grind arith

-- what is ready stays consistent when it is DONE
done_consistent : (w : Workunit) (now : ℕ) → is_ready_assimilate w.assimilate ≡ true → IsConsistent w
    → IsConsistent (record w { assimilate = assimilate.Done; done_at = Some now })
done_consistent w now e h = grind arith

-- the assimilator rewrites, with an archived row where it makes the workunit DONE
rewrites_assimilated : (w : Workunit) (now : ℕ) → IsWorkunit w → IsConsistent w → Rewrites w (assimilated w now) [] (option_to_list (archived w now))
unfolding assimilated archived
rewrites_assimilated w now formed h = by_case (is_ready_assimilate w.assimilate) refl ((keeps_formed w formed).assimilated now)
  where
    v : Workunit
    v = record w { assimilate = assimilate.Done; done_at = Some now }

    by_case : (b : Bool) → b ≡ is_ready_assimilate w.assimilate → IsWorkunit (cond b v w)
        → Rewrites w (cond b v w) [] (option_to_list (cond b (Some (archived_row w now)) None))
    by_case true e made = record {
      number = refl;
      name = refl;
      credit = refl;
      formed = made;
      consistent = done_consistent w now (sym e) h;
      valid = λ n f. (f, refl);
      canonical = λ n f. f;
      verdicts = verdicts_kept w v (λ n u f final. f);
      hosts = λ n host f. f;
      apart = λ f. f;
      given_up = λ f. f;
      done = λ f. refl;
      stays = λ f. absurd (let both : true ≡ false = sym f ∙ ready_not_done w.assimilate (sym e) in cc);
      granted = grants_none w v (λ n. refl);
      archives = record {
        once = ap (λ b. one_if (true && not b)) (sym (ready_not_done w.assimilate (sym e)));
        own = All-from_recursion (λ (row : Archived). (row.number ≡ w.number) × (row.name ≡ w.name) × IsRowOf v row) (archived_row w now ∷ [])
            ((refl, refl, (refl, refl, refl)), tt);
      };
    }
    by_case false e made = rewrites_unchanged w formed h

-- ---- the scheduler

-- what holds of all holds of the one of this number
pub holds_at : (P : Instance → Type 0) (xs : List Instance) (n : ℕ) (i : Instance) → All P xs → slice_get xs n ≡ Some i → P i
holds_at P xs n i all e = subst P (get_or_from_slice_get xs n i i e) (all n i (slice_get_within xs n i e))

-- what is sent was unsent
pub was_unsent : (w : Workunit) (host : List ℕ) (class : ℕ) (i : Instance) → send_verdict_of w host class i ≡ send.Applied → is_unsent i ≡ true
was_unsent w host class i e = grind arith

-- and the host had none of the instances
pub had_none : (w : Workunit) (host : List ℕ) (class : ℕ) (i : Instance) → send_verdict_of w host class i ≡ send.Applied → list_any (is_of host) w.instances ≡ false
had_none w host class i e = grind arith

-- and its workunit was of the host's class, where it was active
pub was_alike : (w : Workunit) (host : List ℕ) (class : ℕ) (i : Instance) → send_verdict_of w host class i ≡ send.Applied → has_active w ≡ true → w.class ≡ class
was_alike w host class i e active = grind (arith, nat_tests)

-- what is unsent has no host
no_host : (i : Instance) → IsInstance i → is_unsent i ≡ true → i.host ≡ None
no_host i formed e = grind arith

-- a send that is applied rewrites
rewrites_sent : (w : Workunit) (n : ℕ) (host : List ℕ) (class : ℕ) (moment : ℕ) → IsWorkunit w → IsConsistent w → send_verdict_in w n host class ≡ send.Applied
    → Rewrites w (sent_in w n host class moment) [] []
rewrites_sent w n host class moment formed h applied = by_case (slice_get w.instances n) refl applied ((keeps_formed w formed).sent n host class moment)
  where
    by_case : (o : Option Instance) → slice_get w.instances n ≡ o → option_map_or (send_verdict_of w host class) o send.Unknown ≡ send.Applied
        → IsWorkunit (option_map_or (sent_as w n host class moment) o w)
        → Rewrites w (option_map_or (sent_as w n host class moment) o w) [] []
    by_case None e f made = rewrites_unchanged w formed h
    by_case (Some i) e f made =
        let j = sent_to w host moment i in
        let possible = holds_at IsPossible w.instances n i h.instances e in
        let unsent = was_unsent w host class i f in
        let follow = follows_sent w.instances n i j host e (possible_sent (moment + w.params.delay_bound) host moment i possible unsent)
        (unsent_init i possible unsent) refl
        (no_host i (holds_at IsInstance w.instances n i formed.instances e) unsent) refl (had_none w host class i f) in
        rewrites_quietly w (sent_as w n host class moment i) formed h made
        (quietly_to w w.error_mask w.params.target_nresults class (slice_set w.instances n j) refl (λ g. refl)
        (λ none g. let both : true ≡ false = sym (hosted_set w.instances n i j e refl) ∙ none in cc) follow)
        (awaits_set w class n j refl (awaits_of w h))

-- a report is taken of what is no success alone
pub was_no_success : (host : List ℕ) (moment : ℕ) (i : Instance) → report_verdict_of host moment i ≡ report.Applied → is_success i ≡ false
was_no_success host moment i e = grind arith

pub was_not_refused : (host : List ℕ) (moment : ℕ) (i : Instance) → IsPossible i → report_verdict_of host moment i ≡ report.Applied → i.outcome ≢ outcome.ValidateError
was_not_refused host moment i possible taken e = grind arith

-- a report that is applied rewrites
rewrites_reported : (w : Workunit) (n : ℕ) (host : List ℕ) (moment : ℕ) (status : Status) (output : List ℕ) → IsWorkunit w → IsConsistent w
    → report_verdict_in w n host moment ≡ report.Applied → Rewrites w (reported_in w n moment status output) [] []
rewrites_reported w n host moment status output formed h applied =
    reported_has (λ v. IsWorkunit v → Rewrites w v [] []) w n host moment status output applied (λ i e f made.
    let j = reported_as moment status output i in
    let possible = holds_at IsPossible w.instances n i h.instances e in
    let become = becomes_reported moment status output i possible (was_no_success host moment i f) (was_not_refused host moment i possible f) in
    rewrites_quietly w (with_instance_set w n j) formed h made
    (quietly_same w (slice_set w.instances n j) (all_become-set w.instances n i j e become)) (awaits_set w w.class n j refl (awaits_of w h)))
    ((keeps_formed w formed).reported n host moment status output applied)

-- ---- the validator

-- one of two is enough
or_true : (a b : Bool) → b ≡ true → (a || b) ≡ true
or_true a b e = grind arith

-- bytes are equal to themselves
-- what is made VALID by this output
abbrev is_made : Workunit → List ℕ → Instance → Bool
is_made w output i = is_judged w i && bytes_eq i.output output

-- with this canonical result, this state of assimilation and these instances
abbrev judged_to : Workunit → Option ℕ → Assimilate → List Instance → Workunit
judged_to w canonical a instances = record w { canonical = canonical; assimilate = a; instances = instances }

-- what was VALID is so where instances are judged
valid_still : (w : Workunit) (output : List ℕ) (ys : List Instance) → AllBecome (is_made w output) w.instances ys
    → (n : ℕ) → is_valid_at w.instances n ≡ true → is_valid_at ys n ≡ true
valid_still w output ys become n e =
    valid_at (is_made w output) w.instances ys become n
    ∙ or_true (option_map_or (is_made w output) (slice_get w.instances n) false) (is_valid_at w.instances n) e

-- what is judged by an output, and granted for it
rewrites_judged : (w : Workunit) (output : List ℕ) (c : Option ℕ) (a : Assimilate) (ys : List Instance) → IsWorkunit w → IsConsistent w
    → is_clear w.error_mask ≡ true
    → IsWorkunit (judged_to w c a ys) → AllBecome (is_made w output) w.instances ys
    → ((n : ℕ) → c ≡ Some n → is_valid_at ys n ≡ true) → ((n : ℕ) → w.canonical ≡ Some n → c ≡ Some n)
    → is_done_assimilate a ≡ is_done_assimilate w.assimilate → Awaits (judged_to w c a ys)
    → All (IsRightGrantIn w (judged_to w c a ys)) (grants_by w output) → Rewrites w (judged_to w c a ys) (grants_by w output) []
rewrites_judged w output c a ys formed h clear made become valid stays done awaits right = record {
  number = refl;
  name = refl;
  credit = refl;
  formed = made;
  consistent = record {
    instances = All-from_recursion IsPossible ys possible;
    deletable = h.deletable;
    sendable = h.sendable;
    decidable = h.decidable;
    given_up_or_decided = λ e. (let both : true ≡ false = sym clear ∙ e in cc);
    nothing_unsent = awaits.nothing_unsent;
    undecided = awaits.undecided;
    canonical = canonical_right v possible valid;
    classless = λ none. h.classless (none_hosted w.instances ys (λ n host e. same n ∙ e) none);
  };
  valid = λ n e. (let still = valid_still w output ys become n e in (still, same n));
  canonical = stays;
  verdicts = verdicts_kept w v (final_at (is_made w output) w.instances ys become);
  hosts = λ n host e. same n ∙ e;
  apart = apart_same w.instances ys same;
  given_up = λ e. e;
  done = λ e. done ∙ e;
  stays = λ e. (refl, refl);
  granted = grants_new w v output (recursion_from_All IsInstance w.instances formed.instances) become refl right;
  archives = archives_none w v done;
}
  where
    v : Workunit
    v = judged_to w c a ys

    possible : AllByRecursion IsPossible ys
    possible = all_possible (is_made w output) w.instances ys become (recursion_from_All IsPossible w.instances h.instances)

    same : (n : ℕ) → instance_host ys n ≡ instance_host w.instances n
    same = same_host (is_made w output) w.instances ys become

-- the chosen result is VALID by its own output
chosen_valid : (w : Workunit) (n : ℕ) (ys : List Instance) → w.canonical ≡ None
    → AllBecome (is_made w (output_at w.instances n)) w.instances ys
    → IsChosen w n → is_valid_at ys n ≡ true
chosen_valid w n ys none become choice =
    let output = output_at w.instances n in
    let own : output ≡ choice.chosen.output = ap (λ o. option_map_or (λ (i : Instance). i.output) o []) choice.stands in
    let equal : bytes_eq choice.chosen.output output ≡ true = ap (λ bytes. bytes_eq choice.chosen.output bytes) own ∙ nat_list_eq_equiv.refl choice.chosen.output in
    let one : is_made w output choice.chosen ≡ true = ap (λ o. is_judged_where (is_none o) choice.chosen && bytes_eq choice.chosen.output output) none
    ∙ (ap (λ b. b && bytes_eq choice.chosen.output output) choice.is_viable ∙ equal) in
    let found : option_map_or (is_made w output) (slice_get w.instances n) false ≡ true =
    ap (λ o. option_map_or (is_made w output) o false) choice.stands ∙ one in
    valid_at (is_made w output) w.instances ys become n ∙ ap (λ b. b || is_valid_at w.instances n) found

-- a workunit that is decided now is judged by the chosen output
rewrites_agreed : (w : Workunit) (n : ℕ) → IsWorkunit w → IsConsistent w → is_clear w.error_mask ≡ true → w.canonical ≡ None → consensus w ≡ Some n
    → IsWorkunit (agreed_on w n) → All (IsRightGrantIn w (agreed_on w n)) (grants_by w (output_at w.instances n))
    → Rewrites w (agreed_on w n) (grants_by w (output_at w.instances n)) []
rewrites_agreed w n formed h clear none agreed made right =
    rewrites_judged w output (Some n) (readied_assimilate w.assimilate) ys formed h clear made become
    (λ m e. (let same : n ≡ m = cc in subst (λ k. is_valid_at ys k ≡ true) same (chosen_valid w n ys none become (chosen w n agreed))))
    (λ m e. (let both : None ≡ Some m = sym none ∙ e in cc))
    (ready_done w.assimilate) awaits right
  where
    output : List ℕ
    output = output_at w.instances n

    ys : List Instance
    ys = map (judged_by output) w.instances

    become : AllBecome (is_made w output) w.instances ys
    become = all_become (is_made w output) (judged_by output)
        (λ i. subst (λ o. Becomes (is_judged_where (is_none o) i && bytes_eq i.output output) i (judged_by output i)) (sym none) (becomes_judged_by output i))
        w.instances

    awaits : Awaits (agreed_on w n)
    awaits = record {
      nothing_unsent = λ e. any_false-map is_unsent (judged_by output) (λ i. unsent_judged (verdict (bytes_eq i.output output)) i) w.instances;
      undecided = λ e. (let both : false ≡ true = and_right (is_clear w.error_mask) false e in cc);
    }

-- a new success after the decision is judged by the canonical output
rewrites_late : (w : Workunit) (c : ℕ) (output : List ℕ) → IsWorkunit w → IsConsistent w → is_clear w.error_mask ≡ true → w.canonical ≡ Some c
    → IsWorkunit (record w { instances = map (judged_late_by false output) w.instances })
    → All (IsRightGrantIn w (record w { instances = map (judged_late_by false output) w.instances })) (grants_by w output)
    → Rewrites w (record w { instances = map (judged_late_by false output) w.instances }) (grants_by w output) []
rewrites_late w c output formed h clear some made right =
    rewrites_judged w output w.canonical w.assimilate ys formed h clear made become
    (λ n e. valid_still w output ys become n (canonical_valid w formed h n e)) (λ n e. e) refl awaits right
  where
    ys : List Instance
    ys = map (judged_late_by false output) w.instances

    become : AllBecome (is_made w output) w.instances ys
    become = all_become (is_made w output) (judged_late_by false output)
        (λ i. subst (λ o. Becomes (is_judged_where (is_none o) i && bytes_eq i.output output) i (judged_late_by false output i)) (sym some)
        (becomes_judged_late_by output i))
        w.instances

    awaits : Awaits (record w { instances = ys })
    awaits =
        awaits_same w ys
        (unsent_same is_new (λ i. record i { validate_state = verdict (bytes_eq i.output output) }) (λ i. refl) w.instances) (awaits_of w h)

-- where the canonical output is gone, a new success is too late
rewrites_too_late : (w : Workunit) (output : List ℕ) → IsWorkunit w → IsConsistent w
    → IsWorkunit (record w { instances = map (judged_late_by true output) w.instances })
    → Rewrites w (record w { instances = map (judged_late_by true output) w.instances }) [] []
rewrites_too_late w output formed h made =
    rewrites_quietly w (record w { instances = map (judged_late_by true output) w.instances }) formed h made
    (quietly_same w (map (judged_late_by true output) w.instances) (all_become none_made (judged_late_by true output) (becomes_too_late output) w.instances))
    (awaits_same w (map (judged_late_by true output) w.instances)
    (unsent_same is_new (λ i. record i { validate_state = validate.TooLate }) (λ i. refl) w.instances) (awaits_of w h))

-- what is concluded rewrites, with what is credited
rewrites_concluded : (w : Workunit) → IsWorkunit w → IsConsistent w → Rewrites w (concluded w) (credited w) []
rewrites_concluded w formed h =
    concluded_has (λ v gs. IsWorkunit v → All (IsRightGrantIn w v) gs → Rewrites w v gs []) w (λ made right. rewrites_unchanged w formed h)
    (λ c looked some made right. rewrites_too_late w (output_at w.instances c) formed h made)
    (λ c looked some made right. rewrites_late w c (output_at w.instances c) formed h (clear looked) some made right)
    (λ n looked none agreed made right. rewrites_agreed w n formed h (clear looked) none agreed made right)
    (λ looked none made right. rewrites_quietly w (left_open w) formed h made
    (quietly_left_open w (and_from (is_none w.canonical) (is_clear w.error_mask) (ap is_none none) (clear looked)))
    (awaits_left_open w (awaits_of w h)))
    (formed_concluded w formed) (credits_right w)
  where
    clear : is_to_validate w ≡ true → is_clear w.error_mask ≡ true
    clear looked = and_left (is_clear w.error_mask) (has_new_success w) (and_left (is_clear w.error_mask && has_new_success w) _ looked)

-- what rewrites after a rule that makes nothing VALID rewrites
rewrites_after : (w v u : Workunit) (gs : List Grant) → Quietly w v → Rewrites w v [] [] → Rewrites v u gs [] → Rewrites w u gs []
rewrites_after w v u gs q h k = record {
  number = k.number ∙ h.number;
  name = k.name ∙ h.name;
  credit = k.credit ∙ h.credit;
  formed = k.formed;
  consistent = k.consistent;
  valid = λ n e. (let before = h.valid n e in let after = k.valid n before.0 in (after.0, after.1 ∙ before.1));
  canonical = λ n e. k.canonical n (h.canonical n e);
  verdicts = kept_then w v u h.verdicts k.verdicts;
  hosts = λ n host e. k.hosts n host (h.hosts n host e);
  apart = λ e. k.apart (h.apart e);
  given_up = λ e. k.given_up (h.given_up e);
  done = λ e. k.done (h.done e);
  stays = λ e. (let before = h.stays e in let after = k.stays (h.done e) in (after.0 ∙ before.0, after.1 ∙ before.1));
  granted = record {
    workunit = All-weaker (λ (g : Grant). g.workunit ≡ v.number) (λ (g : Grant). g.workunit ≡ w.number) (λ g e. e ∙ h.number) gs k.granted.workunit;
    each = λ n. k.granted.each n ∙ ap (λ b. one_if (is_valid_at u.instances n && not b)) (q.instances.valid n);
    own = k.granted.own;
  };
  archives = record {
    once = k.archives.once ∙ ap (λ b. one_if (is_done u && not b)) q.done;
    own = λ n d lt. absurd (omega arith);
  };
}

-- the validator rewrites, with its grants
rewrites_validated : (w : Workunit) → IsWorkunit w → IsConsistent w → Rewrites w (validated w) (grants w) []
unfolding validated grants
rewrites_validated w formed h =
    let made = formed_checked w formed in
    let refuses = rewrites_quietly w (checked w) formed h made (quietly_checked w) (awaits_checked w (awaits_of w h)) in
    rewrites_after w (checked w) (concluded (checked w)) (credited (checked w)) (quietly_checked w) refuses (rewrites_concluded (checked w) made refuses.consistent)

-- ---- all rules

-- each rule rewrites
pub rules_rewrite : (w : Workunit) → IsWorkunit w → IsConsistent w → RulesRewrite w
rules_rewrite w formed h =
    let rules = keeps_formed w formed in
    let awaits = awaits_of w h in
    record {
      transitioned = λ now. rewrites_quietly w (transitioned w now) formed h (rules.transitioned now)
          (quietly_transitioned w now) (awaits_transitioned w now awaits);
      validated = rewrites_validated w formed h;
      assimilated = λ now. rewrites_assimilated w now formed h;
      emptied = rewrites_quietly w (emptied w) formed h rules.emptied (quietly_emptied w) (awaits_emptied w awaits);
      cancelled = λ e. rewrites_quietly w (cancelled w) formed h rules.cancelled (quietly_cancelled w e) (awaits_cancelled w);
      sent = λ n host class moment applied. rewrites_sent w n host class moment formed h applied;
      reported = λ n host moment status output applied. rewrites_reported w n host moment status output formed h applied;
    }
