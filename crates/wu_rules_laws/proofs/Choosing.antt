-- A canonical result comes by the validator alone, where enough agree.
use Rattle.std.proofs.Common.{◌≡◌, ℕ, nat_lt, length, slice_get, Option, Some, None, refl, ◌∙◌}
use Rattle.std.specs.Option.{option_map_or}
use Rattle.wu_core.specs.declared.workunit.Instance.{Instance}
use Rattle.wu_core.specs.declared.workunit.Workunit.{Workunit}
use Rattle.wu_core.specs.Workunit.{with_instance_set}
use Rattle.wu_rules.specs.Assimilation.{assimilated, emptied}
use Rattle.wu_rules.specs.Cancelling.{cancelled}
use Rattle.wu_rules.specs.Counts.{is_clear, viable}
use Rattle.wu_rules.specs.Instances.{is_done_assimilate, is_ready_assimilate}
use Rattle.wu_rules.specs.Reporting.{reported_as}
use Rattle.wu_rules.specs.Sending.{sent_as}
use Rattle.wu_rules.specs.Transition.{ended, extended, readied, settled, timed, transitioned, with_files_readied}
use Rattle.wu_rules.specs.Validation.{checked, concluded, is_to_validate, left_open, validated, validated_by}
use Rattle.wu_rules_laws.specs.Laws.{ChoosesByQuorum, IsChosen}
use Rattle.wu_rules_laws.proofs.Changed.{cond_has}
use Rattle.wu_rules_laws.proofs.Checking.{checked_canonical, concluded_has}
use Rattle.wu_rules_laws.proofs.Granting.{chosen_exactly}

-- ---- the validator

pub left_open_keeps : (w : Workunit) → (left_open w).canonical ≡ w.canonical
left_open_keeps w = cond_has (λ (v : Workunit). v.canonical ≡ w.canonical) (nat_lt w.params.max_success_results (length (viable w))) _ _ refl refl

concluded_chooses : (w : Workunit) (n : ℕ) → w.canonical ≡ None → (concluded w).canonical ≡ Some n → IsChosen w n
concluded_chooses w n undecided =
    concluded_has (λ v gs. v.canonical ≡ Some n → IsChosen w n) w (λ chosen. cc) (λ c looked some chosen. cc) (λ c looked some chosen. cc)
    (λ m looked none agreed chosen. (chosen_exactly w n).0 (agreed ∙ chosen)) (λ looked none chosen. let same = left_open_keeps w in cc)

concluded_keeps : (w : Workunit) (n : ℕ) → w.canonical ≡ Some n → (concluded w).canonical ≡ Some n
unfolding concluded
concluded_keeps w n chosen =
    cond_has (λ v. v.canonical ≡ Some n) (is_to_validate w) (validated_by w w.canonical) w (rw chosen refl) chosen

-- ---- the transitioner

pub settled_keeps : (w : Workunit) → (settled w).canonical ≡ w.canonical
settled_keeps w = cond_has (λ v. v.canonical ≡ w.canonical) (is_clear w.error_mask) w (ended w) refl refl

readied_keeps : (w : Workunit) → (readied w).canonical ≡ w.canonical
readied_keeps w = cond_has (λ v. v.canonical ≡ w.canonical) (is_done_assimilate w.assimilate) (with_files_readied w) w refl refl

-- ---- the others

-- what is made of one instance, where there is one of the number
placed_keeps : (w : Workunit) (make : Instance → Workunit) → ((i : Instance) → (make i).canonical ≡ w.canonical) → (found : Option Instance)
    → (option_map_or make found w).canonical ≡ w.canonical
placed_keeps w make same None = refl
placed_keeps w make same (Some i) = same i

pub chooses : (w : Workunit) → ChoosesByQuorum w
unfolding validated transitioned assimilated emptied cancelled
chooses w = record {
  chosen = λ n undecided. concluded_chooses (checked w) n (checked_canonical w ∙ undecided);
  kept = λ n chosen. concluded_keeps (checked w) n (checked_canonical w ∙ chosen);
  transitioned = λ now. readied_keeps (settled (extended (timed w now))) ∙ settled_keeps (extended (timed w now));
  assimilated = λ now. cond_has (λ v. v.canonical ≡ w.canonical) (is_ready_assimilate w.assimilate) _ w refl refl;
  emptied = refl;
  cancelled = refl;
  sent = λ n host class moment. placed_keeps w (sent_as w n host class moment) (λ i. refl) (slice_get w.instances n);
  reported = λ n moment status output. placed_keeps w (λ i. with_instance_set w n (reported_as moment status output i)) (λ i. refl) (slice_get w.instances n);
}
