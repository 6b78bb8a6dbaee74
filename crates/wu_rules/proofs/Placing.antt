-- One instance that is written at its place.
use Rattle.std.proofs.Common.{◌≡◌, ℕ, ◌<◌, ◌≤◌, List, length, get_or, set, slice_set, Some, None, ◌⊎◌, inl, inr, refl}
use Rattle.std.specs.List.{slice_get}
use Rattle.std.specs.Option.{option_map_or}
use Rattle.std.proofs.lemmas.Option.{slice_get_cases, slice_get-get_or, slice_get_past}
use Rattle.std.proofs.lemmas.List.{length-set}
use Rattle.wu_core.specs.declared.workunit.Instance.{Instance}
use Rattle.wu_core.specs.declared.workunit.Workunit.{Workunit}
use Rattle.wu_core.specs.Workunit.{overwritten, with_instance_set}
use Rattle.wu_rules.proofs.InPlace.{overwritten-all}

-- a verdict that is not that of a missing instance is one of an instance
pub is_within : {X V : Type 0} (verdict : X → V) (missing here : V) (xs : List X) (n : ℕ) → option_map_or verdict (slice_get xs n) missing ≡ here → (missing ≡ here → ⊥) → n < length xs
is_within {X} {V} verdict missing here xs n e other = by (slice_get_cases xs n).1
  where
    by : ((x : X) × (n < length xs) × (slice_get xs n ≡ Some x) × (get_or xs n x ≡ x)) ⊎ ((length xs ≤ n) × (slice_get xs n ≡ None)) → n < length xs
    by (inl found) = found.1
    by (inr past) = absurd (other (rw past.1 at e))

-- what is made of instances of which the one of this number is changed is made of them as they are written
pub placed_in : (make : List Instance → Workunit) (w : Workunit) (items : List Instance) (n : ℕ) (f : Instance → Instance) (d new : Instance) → n < length w.instances → items ≡ w.instances → new ≡ f (get_or items n d)
    → make (overwritten w.instances (set items n new)) ≡ option_map_or (λ instance. make (slice_set w.instances n (f instance))) (slice_get w.instances n) w
placed_in make w items n f d new lt same made =
    let here : slice_get w.instances n ≡ Some (get_or w.instances n d) = slice_get-get_or w.instances n d lt in
    let whole : overwritten w.instances (set w.instances n new) ≡ set w.instances n new = overwritten-all w.instances (set w.instances n new) (length-set w.instances n new) in
    rw (here, same, whole, made, same) refl

-- a workunit whose instance of this number is changed is as it is written
pub placed : (w : Workunit) (items : List Instance) (n : ℕ) (f : Instance → Instance) (d new : Instance) → n < length w.instances → items ≡ w.instances → new ≡ f (get_or items n d)
    → record w { instances = overwritten w.instances (set items n new) } ≡ option_map_or (λ instance. with_instance_set w n (f instance)) (slice_get w.instances n) w
placed w = placed_in (λ items. record w { instances = items }) w

-- ---- one instance that is looked up

pub missing_at : {X V : Type 0} (f : X → V) (d : V) (xs : List X) (n : ℕ) → length xs ≤ n → d ≡ option_map_or f (slice_get xs n) d
missing_at f d xs n past = rw (slice_get_past xs n past) refl

pub found_at : {X V : Type 0} (f : X → V) (d : V) (xs : List X) (n : ℕ) (x : X) → n < length xs → x ≡ get_or xs n x → (v : V) → v ≡ f x → v ≡ option_map_or f (slice_get xs n) d
found_at f d xs n x within is v value = rw (slice_get-get_or xs n x within, ← is) value
