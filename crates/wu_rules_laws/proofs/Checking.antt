-- What is left of a workunit once what is no result is refused.
use Rattle.std.proofs.Common.{◌≡◌, ℕ, Bool, true, false, cond, map, slice_get, Some, is_none, refl, sym, ap, ◌∙◌, List, [], Option, None}
use Rattle.std.specs.Option.{option_map}
use Rattle.std.proofs.lemmas.Option.{slice_get-map}
use Rattle.wu_core.specs.declared.workunit.Grant.{Grant}
use Rattle.wu_core.specs.declared.workunit.Instance.{Instance}
use Rattle.wu_core.specs.declared.workunit.Workunit.{Workunit}
use Rattle.wu_rules.specs.Counts.{consensus}
use Rattle.wu_rules.specs.Validation.{agreed_on, checked, concluded, credited, decided, granted_by, grants, grants_by, grants_decided, is_deleted_at}
use Rattle.wu_rules.specs.Validation.{is_no_result, is_to_validate, judged_late_by, left_open, output_at, refused, refused_where, validated, validated_by, with_refused}
use Rattle.wu_rules.proofs.Lists.{map-same}
use Rattle.wu_rules_laws.proofs.Becoming.{Becomes, becomes_refused_where, stays}
use Rattle.wu_rules_laws.proofs.Changed.{cond_has, cond_keeps}

-- a validation refuses, and then concludes
pub validated_is : (w : Workunit) → validated w ≡ concluded (checked w)
unfolding validated
validated_is w = refl

pub grants_are : (w : Workunit) → grants w ≡ credited (checked w)
unfolding grants
grants_are w = refl

-- ---- what stays

-- what the validator does not look at stays
pub checked_unlooked : (w : Workunit) → is_to_validate w ≡ false → checked w ≡ w
checked_unlooked w e = ap (λ b. cond b (with_refused (is_none w.canonical) w) w) e

-- and where nothing is to validate, nothing comes of it
pub concluded_unlooked : (w : Workunit) → is_to_validate w ≡ false → concluded w ≡ w
unfolding concluded
concluded_unlooked w e = ap (λ b. cond b (validated_by w w.canonical) w) e

pub validated_unlooked : (w : Workunit) → is_to_validate w ≡ false → validated w ≡ w
validated_unlooked w e = validated_is w ∙ (ap concluded (checked_unlooked w e) ∙ concluded_unlooked w e)

-- only instances change
pub checked_number : (w : Workunit) → (checked w).number ≡ w.number
checked_number w = cond_keeps (λ (v : Workunit). v.number) (is_to_validate w) (with_refused (is_none w.canonical) w) w refl

pub checked_params : (w : Workunit) → (checked w).params ≡ w.params
checked_params w = cond_keeps (λ (v : Workunit). v.params) (is_to_validate w) (with_refused (is_none w.canonical) w) w refl

pub checked_mask : (w : Workunit) → (checked w).error_mask ≡ w.error_mask
checked_mask w = cond_keeps (λ (v : Workunit). v.error_mask) (is_to_validate w) (with_refused (is_none w.canonical) w) w refl

pub checked_canonical : (w : Workunit) → (checked w).canonical ≡ w.canonical
checked_canonical w = cond_keeps (λ (v : Workunit). v.canonical) (is_to_validate w) (with_refused (is_none w.canonical) w) w refl

-- ---- each instance

-- what becomes of an instance of this workunit
abbrev pub checked_in : Workunit → Instance → Instance
checked_in w i = cond (is_to_validate w) (refused_where (is_none w.canonical) i) i

pub becomes_checked : (w : Workunit) (i : Instance) → Becomes false i (checked_in w i)
becomes_checked w i =
    cond_has (Becomes false i) (is_to_validate w) (refused_where (is_none w.canonical) i) i (becomes_refused_where (is_none w.canonical) i) (stays i)

pub instances_checked : (w : Workunit) → (checked w).instances ≡ map (checked_in w) w.instances
instances_checked w = by_case (is_to_validate w)
  where
    by_case : (b : Bool) → (cond b (with_refused (is_none w.canonical) w) w).instances
        ≡ map (λ i. cond b (refused_where (is_none w.canonical) i) i) w.instances
    by_case true = refl
    by_case false = sym (map-same (λ i. i) (λ i. refl) w.instances)

pub at_checked : (w : Workunit) (n : ℕ) → slice_get (checked w).instances n ≡ option_map (checked_in w) (slice_get w.instances n)
at_checked w n = ap (λ xs. slice_get xs n) (instances_checked w) ∙ slice_get-map (checked_in w) w.instances n

-- the instance that stood at a place
pub stands_checked : (w : Workunit) (n : ℕ) (i : Instance) → slice_get w.instances n ≡ Some i
    → slice_get (checked w).instances n ≡ Some (checked_in w i)
stands_checked w n i here = at_checked w n ∙ ap (option_map (checked_in w)) here

-- what is no result, of a workunit that is looked at, is refused; what has a result, or is not judged, stays
pub refused_in : (w : Workunit) (i : Instance) → is_to_validate w ≡ true → is_no_result (is_none w.canonical) i ≡ true → checked_in w i ≡ refused i
refused_in w i looked e = ap (λ b. cond b (refused_where (is_none w.canonical) i) i) looked ∙ ap (λ b. cond b (refused i) i) e

pub kept_in : (w : Workunit) (i : Instance) → is_no_result (is_none w.canonical) i ≡ false → checked_in w i ≡ i
kept_in w i e = cond_has (λ j. j ≡ i) (is_to_validate w) (refused_where (is_none w.canonical) i) i (ap (λ b. cond b (refused i) i) e) refl

-- ---- what is concluded

-- the workunit with new successes judged after the decision by this one's output, or by that it is gone
abbrev pub late : Workunit → Bool → ℕ → Workunit
late w gone c = record w { instances = map (judged_late_by gone (output_at w.instances c)) w.instances }

-- this holds of what is concluded and credited where it holds of each image with its grants
pub concluded_has : (P : Workunit → List Grant → Type 0) (w : Workunit) → P w []
    → ((c : ℕ) → is_to_validate w ≡ true → w.canonical ≡ Some c → P (late w true c) [])
    → ((c : ℕ) → is_to_validate w ≡ true → w.canonical ≡ Some c → P (late w false c) (grants_by w (output_at w.instances c)))
    → ((n : ℕ) → is_to_validate w ≡ true → w.canonical ≡ None → consensus w ≡ Some n
    → P (agreed_on w n) (grants_by w (output_at w.instances n)))
    → (is_to_validate w ≡ true → w.canonical ≡ None → P (left_open w) []) → P (concluded w) (credited w)
unfolding concluded credited
concluded_has P w same too_late judged chosen left = by (is_to_validate w) refl
  where
    by_output : (gone : Bool) (c : ℕ) → is_to_validate w ≡ true → w.canonical ≡ Some c
        → P (late w gone c) (cond gone [] (grants_by w (output_at w.instances c)))
    by_output true = too_late
    by_output false = judged

    by_consensus : (o : Option ℕ) → consensus w ≡ o → is_to_validate w ≡ true → w.canonical ≡ None → P (decided w o) (grants_decided w o)
    by_consensus None e looked none = left looked none
    by_consensus (Some n) e looked none = chosen n looked none e

    by_canonical : (o : Option ℕ) → is_to_validate w ≡ true → w.canonical ≡ o → P (validated_by w o) (granted_by w o)
    by_canonical None looked none = by_consensus (consensus w) refl looked none
    by_canonical (Some c) looked some = by_output (is_deleted_at w.instances c) c looked some

    by : (b : Bool) → is_to_validate w ≡ b → P (cond b (validated_by w w.canonical) w) (cond b (granted_by w w.canonical) [])
    by true looked = by_canonical w.canonical looked refl
    by false e = same
