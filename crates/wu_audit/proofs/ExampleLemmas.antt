-- The worked examples.
use Rattle.std.proofs.Common.{◌≡◌, ◌≢◌, ◌∙◌, ℕ, suc, zero, ◌<◌, List, [], ◌∷◌, length, get_or, arith, ap, refl, subst, Some, true}
use Rattle.std.proofs.lemmas.Bool.{false≢true, true≢false}
use Rattle.wu_core.specs.Names.{is_name}
use Rattle.std.specs.List.{All, AllPairs}
use Rattle.std.specs.Option.{option_map_or}
use Rattle.wu_core.specs.declared.workunit.Archived.{Archived}
use Rattle.wu_core.specs.declared.workunit.Grant.{Grant}
use Rattle.wu_core.specs.declared.workunit.Workunit.{Workunit}
use Rattle.wu_core.specs.declared.states.ValidateState.TheVariants as validate
use Rattle.wu_core.specs.Formed.{IsInstance, IsWorkunit}
use Rattle.wu_core.specs.Parameters.{IsParameters, default_parameters}
use Rattle.wu_core.specs.Storable.{IsName, IsStorable, IsStoredArchived, IsStoredInstance}
use Rattle.wu_rules.specs.Consistent.{IsConsistent, IsPossible}
use Rattle.wu_rules.specs.Examples.{aa, credit, h1, h2, success}
use Rattle.wu_machine.specs.Sound.{HasPossibleMask, IsGiven, IsSound}
use Rattle.wu_audit.specs.Records.{AreBacked, HasKeys, IsBackedGrant, IsArchivedOf, IsBackedRow, IsGrantOf, IsGranted, IsArchivedIfDone, IsNameFree}
use Rattle.wu_audit.specs.Rows.{IsRightGrant, IsRightImport}
use Rattle.wu_audit.specs.Keys.{AreApart}
use Rattle.wu_audit.specs.Against.{IsFirstPairAgainst}
use Rattle.wu_audit.specs.Examples.{agreed, decided_and_given_up, kept_row, kept_otherwise, kept_too_late, kept_unsendable, named_again, one_agreed, sent_with, unstamped, unstorable}
use Rattle.wu_audit.proofs.RecordLemmas.{recorded_from_backed}

all_one : {X : Type 0} (P : X → Type 0) (x : X) → P x → All P (x ∷ [])
all_one P x holds zero d lt = holds
all_one P x holds (suc k) d lt = absurd (omega (arith, lt))

all_two : {X : Type 0} (P : X → Type 0) (x y : X) → P x → P y → All P (x ∷ y ∷ [])
all_two P x y one other zero d lt = one
all_two P x y one other (suc zero) d lt = other
all_two P x y one other (suc (suc k)) d lt = absurd (omega (arith, lt))

pairs_one : {X : Type 0} (R : X → X → Type 0) (x : X) → AllPairs R (x ∷ [])
pairs_one R x i j d less lt = absurd (omega (arith, less, lt))

pairs_two : {X : Type 0} (R : X → X → Type 0) (x y : X) → R x y → AllPairs R (x ∷ y ∷ [])
pairs_two R x y holds zero zero d less lt = absurd (omega (arith, less))
pairs_two R x y holds zero (suc zero) d less lt = holds
pairs_two R x y holds zero (suc (suc j)) d less lt = absurd (omega (arith, lt))
pairs_two R x y holds (suc i) j d less lt = absurd (omega (arith, less, lt))

formed_success : (host : List ℕ) → IsInstance (success host aa validate.Valid)
formed_success host = record {
  sent_with_host = refl;
  due_with_host = refl;
  unsent = λ e. cc;
  in_progress = λ e. refl;
  success = λ e f. refl;
}

possible_success : (host : List ℕ) → IsPossible (success host aa validate.Valid)
possible_success host = record {
  active = λ e. cc;
  sendable = λ e. cc;
  refused = λ e. cc;
  deletable = λ e. cc;
  judged = λ e. cc;
}

default_in_range : IsParameters default_parameters
default_in_range = record {
  min_quorum = (omega arith, omega arith);
  target_nresults = (omega arith, omega arith);
  max_error_results = omega arith;
  max_total_results = (omega arith, omega arith);
  max_success_results = omega arith;
  delay_bound = (omega arith, omega arith);
  credit = omega arith;
}

formed_agreed : IsWorkunit agreed
formed_agreed = record {
  parameters = default_in_range;
  instances = all_two IsInstance _ _ (formed_success h1) (formed_success h2);
  within = omega arith;
  canonical = λ n e. let first : 0 ≡ n = cc in subst (λ m. m < length agreed.instances) first (omega arith);
  done = λ e. refl;
  done_only = λ e. refl;
}

stored_success : (host : List ℕ) → is_name host ≡ true → IsStoredInstance (success host aa validate.Valid)
stored_success host named = record {
  values = record {
    host = named;
    moments = record { sent_at = omega arith; deadline = omega arith; received_at = omega arith };
    output = omega arith;
  };
  formed = formed_success host;
}

storable_agreed : IsStorable agreed
storable_agreed = record {
  number = omega arith;
  row = record {
    name = refl;
    parameters = default_in_range;
    input = omega arith;
    canonical = omega arith;
    stamped = record { moment = omega arith; done = λ e. refl; done_only = λ e. refl };
    bare = refl;
    classless = refl;
  };
  class = omega arith;
  instances = record { each = all_two IsStoredInstance _ _ (stored_success h1 refl) (stored_success h2 refl); few = omega arith };
  whole = record { within = formed_agreed.within; canonical = formed_agreed.canonical };
}

consistent_agreed : IsConsistent agreed
consistent_agreed = record {
  instances = all_two IsPossible _ _ (possible_success h1) (possible_success h2);
  deletable = λ e. cc;
  sendable = refl;
  decidable = refl;
  given_up_or_decided = λ e. absurd (true≢false e);
  nothing_unsent = λ e. refl;
  undecided = λ e. absurd (false≢true e);
  canonical = (refl, refl);
  classless = λ e. refl;
}

keys_agreed : HasKeys one_agreed
keys_agreed = record {
  granted_once = pairs_two AreApart _ _ (λ same other. omega (arith, other));
  archived_once = pairs_one (λ (one other : Archived). one.number ≢ other.number) kept_row;
  archived_names = pairs_one (λ (one other : Archived). one.name ≢ other.name) kept_row;
}

granted_agreed : IsGranted one_agreed.grants agreed
granted_agreed zero valid = (0, credit 0 h1, omega arith, refl, (refl, refl))
granted_agreed (suc zero) valid = (1, credit 1 h2, omega arith, refl, (refl, refl))
granted_agreed (suc (suc n)) valid = absurd (false≢true valid)

backed_agreed : AreBacked one_agreed
backed_agreed = record {
  grants = all_two (IsBackedGrant one_agreed.workunits) _ _
      (all_one (λ (w : Workunit). 1 ≡ w.number → IsGrantOf w (credit 0 h1)) agreed (λ same. record { own = record { host = refl; credit = refl }; valid = refl }))
      (all_one (λ (w : Workunit). 1 ≡ w.number → IsGrantOf w (credit 1 h2)) agreed (λ same. record { own = record { host = refl; credit = refl }; valid = refl }));
  granted = all_one (IsGranted one_agreed.grants) agreed granted_agreed;
  rows = all_one (IsBackedRow one_agreed.workunits) kept_row (all_one (λ (w : Workunit). 1 ≡ w.number → IsArchivedOf w kept_row) agreed (λ same. record { done = refl; values = (refl, refl, refl); name = refl }));
  kept = all_one (IsArchivedIfDone one_agreed.archived) agreed (λ done. (0, kept_row, omega arith, refl, refl));
  free = all_one (IsNameFree one_agreed.archived) agreed (λ undone. absurd (true≢false undone));
}

pub sound_agreed : IsSound one_agreed
sound_agreed = record {
  next_number = (omega arith, omega arith);
  formed = all_one IsWorkunit agreed formed_agreed;
  storable = all_one IsStorable agreed storable_agreed;
  granted_to = all_two (λ (grant : Grant). IsName grant.host) _ _ refl refl;
  archivable = all_one IsStoredArchived kept_row (record { name = refl; canonical = omega arith; output = omega arith; done_at = omega arith });
  imports = λ k d lt. absurd (omega (arith, lt));
  consistent = all_one IsConsistent agreed consistent_agreed;
  recorded = recorded_from_backed one_agreed keys_agreed backed_agreed;
  given = all_one (λ (w : Workunit). IsGiven one_agreed w.number) agreed (omega arith, omega arith);
  ascending = pairs_one (λ (one other : Workunit). one.number < other.number) agreed;
  names = pairs_one (λ (one other : Workunit). one.name ≢ other.name) agreed;
  archived = all_one (λ (row : Archived). IsGiven one_agreed row.number) kept_row (omega arith, omega arith);
  archived_masks = all_one HasPossibleMask kept_row (record { sendable = refl; decidable = refl });
  archived_once = keys_agreed.archived_once;
  archived_names = keys_agreed.archived_names;
  grants = all_two (IsRightGrant one_agreed) _ _ ((omega arith, omega arith), omega arith, omega arith) ((omega arith, omega arith), omega arith, omega arith);
  granted_once = keys_agreed.granted_once;
  imported_once = λ i j d less lt. absurd (omega (arith, lt));
  classed = λ k d lt. absurd (omega (arith, lt));
  classes_in_order = λ i j d less lt. absurd (omega (arith, lt));
  classes_in_time = λ low. absurd (omega (arith, low));
}

-- the second of two rows that are at odds is the first against
pub second_against : {X : Type 0} (R : X → X → Type 0) (x y : X) → ¬ R x y → IsFirstPairAgainst R (x ∷ y ∷ []) 1
second_against R x y odds = record {
  within = omega arith;
  before = λ i j d less lt. absurd (omega (arith, less, lt));
  against = (0, omega arith, λ d holds. odds holds);
}

pub unstamped_wrong : ¬ IsWorkunit unstamped
unstamped_wrong formed = false≢true (formed.done refl)

pub unstorable_wrong : ¬ IsStorable unstorable
unstorable_wrong storable = absurd (omega (arith, storable.number))

pub kept_too_late_wrong : ¬ IsStoredArchived kept_too_late
kept_too_late_wrong stored = absurd (omega (arith, stored.done_at))

pub kept_unsendable_wrong : ¬ HasPossibleMask kept_unsendable
kept_unsendable_wrong possible = true≢false possible.sendable

pub verdict_wrong : ¬ IsRightImport (sent_with 5)
verdict_wrong right = absurd (omega (arith, right.1 0 0 (omega arith)))

pub decided_and_given_up_wrong : ¬ IsConsistent decided_and_given_up
decided_and_given_up_wrong consistent = false≢true (consistent.given_up_or_decided refl)

pub grant_of_100_wrong : ¬ IsRightGrant one_agreed (credit 100 h1)
grant_of_100_wrong right = absurd (omega (arith, right.1))

hosts_differ : Some h1 ≢ Some h2
hosts_differ e = let second : 49 ≡ 50 = ap (λ host. option_map_or (λ text. get_or text 1 0) host 0) e in absurd (omega (arith, second))

pub grant_astray_wrong : ¬ IsBackedGrant one_agreed.workunits (credit 0 h2)
grant_astray_wrong backed = let own = (backed 0 agreed (omega arith) refl).own in hosts_differ own.host

pub grant_missing_wrong : ¬ IsGranted (credit 0 h1 ∷ []) agreed
grant_missing_wrong granted = let has = granted 1 refl in
    all_one (λ (g : Grant). g.n ≢ 1) (credit 0 h1) (λ e. omega (arith, e)) has.0 has.1 has.2 (ap (λ (g : Grant). g.n) has.3 ∙ has.4.1)

pub kept_otherwise_wrong : ¬ IsBackedRow one_agreed.workunits kept_otherwise
kept_otherwise_wrong backed = let it = (backed 0 agreed (omega arith) refl).values in cc

pub unkept_wrong : ¬ IsArchivedIfDone [] agreed
unkept_wrong kept = let has = kept refl in absurd (omega (arith, has.2))

pub name_taken_wrong : ¬ IsNameFree one_agreed.archived named_again
name_taken_wrong free = free refl 0 kept_row (omega arith) refl
