-- What is sent or reported as a row says.
use Rattle.std.proofs.Common.{◌≡◌, ◌≢◌, ℕ, suc, false, List, [], ◌∷◌, slice_get, Option, Some, None, bytes_eq, refl, sym, ap, subst, ◌∙◌, arith}
use Rattle.std.proofs.lemmas.Bool.Decides.{nat_tests}
use Rattle.std.proofs.lemmas.Slice.Eq.{bytes_eq-Decides}
use Rattle.std.specs.List.{list_any}
use Rattle.std.specs.Option.{IsSomeAnd, option_map_or}
use Rattle.wu_core.specs.Statuses.{outcome_of}
use Rattle.wu_core.specs.Workunit.{with_instance_set}
use Rattle.wu_core.specs.declared.workunit.Instance.{Instance}
use Rattle.wu_core.specs.declared.workunit.Workunit.{Workunit}
use Rattle.wu_core.specs.declared.states.Status.{Status}
use Rattle.wu_rules.specs.Reporting.{report_verdict_of, reported_as}
use Rattle.wu_rules.specs.Sending.{is_of, send_verdict_in, sent_as, sent_in, sent_to}
use Rattle.wu_rules.specs.declared.verdicts.ReportVerdict.TheVariants as report
use Rattle.wu_rules.specs.declared.verdicts.SendVerdict.TheVariants as send
use Rattle.wu_rules_laws.specs.Rows.{ChangesOnlyAt, IsReported, IsSent, MayBeReported, MayBeSent, Reports, Sends}
use Rattle.wu_rules_laws.proofs.Hosted.{set_elsewhere, set_here}
use Rattle.wu_rules_laws.proofs.Progress.{fails_at}

-- ---- one instance in the place of another

-- the instance of a number changed, if there is one
changed_at : Workunit → ℕ → (Instance → Instance) → Workunit
changed_at w n change = option_map_or (λ instance. with_instance_set w n (change instance)) (slice_get w.instances n) w

changes_only : (w : Workunit) (n : ℕ) (change : Instance → Instance) → ChangesOnlyAt w (changed_at w n change) n
unfolding changed_at
changes_only w n change = by (slice_get w.instances n)
  where
    by : (o : Option Instance) → ChangesOnlyAt w (option_map_or (λ instance. with_instance_set w n (change instance)) o w) n
    by None = record { others = λ k other. refl; rest = refl }
    by (Some i) = record { others = set_elsewhere w.instances n (change i); rest = refl }

changes_it : (w : Workunit) (n : ℕ) (change : Instance → Instance) (i : Instance) → slice_get w.instances n ≡ Some i
    → slice_get (changed_at w n change).instances n ≡ Some (change i)
unfolding changed_at
changes_it w n change i here =
    ap (λ o. slice_get (option_map_or (λ instance. with_instance_set w n (change instance)) o w).instances n) here ∙ set_here w.instances n i (change i) here

-- ---- sends

-- a host that none of the instances has
none_has : (host : List ℕ) (o : Option (List ℕ)) → option_map_or (λ its. bytes_eq its host) o false ≡ false → o ≢ Some host
none_has host o e is = grind (arith, bytes_eq-Decides)

has_none : (host : List ℕ) (o : Option (List ℕ)) → o ≢ Some host → option_map_or (λ its. bytes_eq its host) o false ≡ false
has_none host o other = grind (arith, bytes_eq-Decides)

none_of_all : (host : List ℕ) (xs : List Instance) → ((k : ℕ) (i : Instance) → slice_get xs k ≡ Some i → i.host ≢ Some host) → list_any (is_of host) xs ≡ false
none_of_all host [] other = refl
none_of_all host (x ∷ xs) other =
    let here : is_of host x ≡ false = has_none host x.host (other 0 x refl) in
    rw here (none_of_all host xs (λ k i at. other (suc k) i at))

may_be_sent : (w : Workunit) (n : ℕ) (host : List ℕ) (class : ℕ) → send_verdict_in w n host class ≡ send.Applied → MayBeSent w n host class
may_be_sent w n host class applied = record { waits = grind arith; another = another; alike = λ active. grind (arith, nat_tests) }
  where
    none : list_any (is_of host) w.instances ≡ false
    none = grind arith

    another : (k : ℕ) (i : Instance) → slice_get w.instances k ≡ Some i → i.host ≢ Some host
    another k i at = none_has host i.host (fails_at (is_of host) w.instances k i none at)

is_applied : (w : Workunit) (n : ℕ) (host : List ℕ) (class : ℕ) → MayBeSent w n host class → send_verdict_in w n host class ≡ send.Applied
is_applied w n host class it = let none = none_of_all host w.instances it.another in grind (arith, nat_tests)

pub sends : (w : Workunit) (n : ℕ) (host : List ℕ) (class : ℕ) (moment : ℕ) → Sends w n host class moment
sends w n host class moment = record {
  applied = (may_be_sent w n host class, is_applied w n host class);
  sent = λ i here. subst (λ o. IsSomeAnd o (IsSent w host moment i)) (sym (sent_here i here)) (record {
    out = refl;
    at = refl;
    since = refl;
    until = refl;
    end = (refl, refl);
    report = (refl, refl, refl);
  });
  bound = λ i here. ap (λ o. (option_map_or (sent_as w n host class moment) o w).class) here;
  only = only (slice_get w.instances n);
}
  where
    sent_here : (i : Instance) → slice_get w.instances n ≡ Some i → slice_get (sent_in w n host class moment).instances n ≡ Some (sent_to w host moment i)
    sent_here i here =
        ap (λ o. slice_get (option_map_or (sent_as w n host class moment) o w).instances n) here ∙ set_here w.instances n i (sent_to w host moment i) here

    only : (o : Option Instance) → ChangesOnlyAt w (record (option_map_or (sent_as w n host class moment) o w) { class = w.class }) n
    only None = record { others = λ k other. refl; rest = refl }
    only (Some i) = record { others = set_elsewhere w.instances n (sent_to w host moment i); rest = refl }

-- ---- reports

pub may_be_reported : (host : List ℕ) (moment : ℕ) (i : Instance) → report_verdict_of host moment i ≡ report.Applied → MayBeReported host moment i
may_be_reported host moment i e = grind (arith, nat_tests, bytes_eq-Decides)

is_taken : (host : List ℕ) (moment : ℕ) (i : Instance) → MayBeReported host moment i → report_verdict_of host moment i ≡ report.Applied
is_taken host moment i it = grind (arith, nat_tests, bytes_eq-Decides)

pub reports : (w : Workunit) (n : ℕ) (host : List ℕ) (moment : ℕ) (said : Status) (output : List ℕ) → Reports w n host moment said output
unfolding changed_at
reports w n host moment said output = record {
  applied = (taken (slice_get w.instances n), told (slice_get w.instances n));
  reported = λ i here. subst (λ o. IsSomeAnd o (IsReported moment said output i)) (sym (changes_it w n (reported_as moment said output) i here)) (record {
    over = (refl, refl);
    success = λ is. ap outcome_of is;
    client_error = λ is. ap outcome_of is;
    detached = λ is. ap outcome_of is;
    sends_back = refl;
    unjudged = (refl, refl);
    sending = (refl, refl, refl);
  });
  only = changes_only w n (reported_as moment said output);
}
  where
    taken : (o : Option Instance) → option_map_or (report_verdict_of host moment) o report.Unknown ≡ report.Applied → IsSomeAnd o (MayBeReported host moment)
    taken None e = absurd (cc)
    taken (Some i) e = may_be_reported host moment i e

    told : (o : Option Instance) → IsSomeAnd o (MayBeReported host moment) → option_map_or (report_verdict_of host moment) o report.Unknown ≡ report.Applied
    told None it = absurd it
    told (Some i) it = is_taken host moment i it
