-- Which host has which instance: most rules leave that, and a send adds a host that had none of the workunit.
use Rattle.std.proofs.Common.{◌≡◌, ◌≢◌, ℕ, zero, suc, ◌<◌, Bool, true, false, ◌||◌, List, [], ◌∷◌, drop, length, get_or, slice_get, slice_set, Option, Some, None, is_some, refl, sym, ap, ◌∙◌, bytes_eq, inl, inr, arith}
use Rattle.std.proofs.lemmas.Bool.{cases_eq, or_parts}
use Rattle.std.proofs.lemmas.List.Elements.{All-filter, filter_passes}
use Rattle.std.proofs.lemmas.List.Kept.{AllPairs-filter}
use Rattle.std.proofs.lemmas.Option.{slice_get-get_or}
use Rattle.std.proofs.lemmas.Slice.Eq.{bytes_eq-Decides}
use Rattle.std.specs.List.{All, AllByRecursion, AllPairs, list_any}
use Rattle.std.specs.Option.{option_map_or}
use Rattle.wu_core.specs.Formed.{IsInstance, IsWorkunit}
use Rattle.wu_core.specs.declared.workunit.Instance.{Instance}
use Rattle.wu_core.specs.declared.workunit.Workunit.{Workunit}
use Rattle.wu_rules.specs.Counts.{agreeing, viable}
use Rattle.wu_rules.specs.Instances.{is_open_verdict, is_success, is_viable}
use Rattle.wu_rules.specs.Sending.{is_of}
use Rattle.wu_rules.specs.Consistent.{HostsApart, instance_host}
use Rattle.wu_rules_laws.specs.Laws.{HaveDifferentHosts}
use Rattle.wu_rules_laws.proofs.Changed.{or_from}
use Rattle.wu_rules_laws.proofs.Granted.{success_host}
use Rattle.wu_rules_laws.proofs.Spent.{and_left}

-- ---- a list of instances

-- a host has at most one of them
abbrev pub Apart : List Instance → Type 0
Apart xs = (m n : ℕ) (host : List ℕ) → instance_host xs m ≡ Some host → instance_host xs n ≡ Some host → m ≡ n

-- each that has a host has it still
abbrev pub StayHosted : List Instance → List Instance → Type 0
StayHosted xs ys = (n : ℕ) (host : List ℕ) → instance_host xs n ≡ Some host → instance_host ys n ≡ Some host

-- with the same hosts a host has at most one still
pub apart_same : (xs ys : List Instance) → ((n : ℕ) → instance_host ys n ≡ instance_host xs n) → Apart xs → Apart ys
apart_same xs ys same apart m n host one other = apart m n host (sym (same m) ∙ one) (sym (same n) ∙ other)

-- ---- one instance in the place of another

-- what both have in common is at each place as before
pub at_set : {A : Type 0} (f : Option Instance → A) (xs : List Instance) (n : ℕ) (i j : Instance) → slice_get xs n ≡ Some i → f (Some j) ≡ f (Some i)
    → (k : ℕ) → f (slice_get (slice_set xs n j) k) ≡ f (slice_get xs k)
at_set f [] n i j here same k = refl
at_set f (x ∷ xs) zero i j here same zero = same ∙ ap f (sym here)
at_set f (x ∷ xs) zero i j here same (suc k) = refl
at_set f (x ∷ xs) (suc n) i j here same zero = refl
at_set f (x ∷ xs) (suc n) i j here same (suc k) = at_set f xs n i j here same k

-- each other is as before
pub set_elsewhere : (xs : List Instance) (n : ℕ) (j : Instance) (k : ℕ) → k ≢ n → slice_get (slice_set xs n j) k ≡ slice_get xs k
set_elsewhere [] n j k other = refl
set_elsewhere (x ∷ xs) zero j zero other = absurd (other refl)
set_elsewhere (x ∷ xs) zero j (suc k) other = refl
set_elsewhere (x ∷ xs) (suc n) j zero other = refl
set_elsewhere (x ∷ xs) (suc n) j (suc k) other = set_elsewhere xs n j k (λ same. other (ap suc same))

-- and its host
pub at_other : (xs : List Instance) (n : ℕ) (j : Instance) (k : ℕ) → k ≢ n → instance_host (slice_set xs n j) k ≡ instance_host xs k
at_other xs n j k other = ap (λ o. option_map_or (λ (x : Instance). x.host) o None) (set_elsewhere xs n j k other)

-- and it is there
pub set_here : (xs : List Instance) (n : ℕ) (i j : Instance) → slice_get xs n ≡ Some i → slice_get (slice_set xs n j) n ≡ Some j
set_here [] n i j here = cc
set_here (x ∷ xs) zero i j here = refl
set_here (x ∷ xs) (suc n) i j here = set_here xs n i j here

-- what holds of all holds with it, where it holds of it
pub all_set : (P : Instance → Type 0) (xs : List Instance) (n : ℕ) (j : Instance) → P j → AllByRecursion P xs → AllByRecursion P (slice_set xs n j)
all_set P [] n j it all = tt
all_set P (x ∷ xs) zero j it all = (it, all.1)
all_set P (x ∷ xs) (suc n) j it all = (all.0, all_set P xs n j it all.1)

-- where each that has a host has it still, and none has one, none had one
pub none_hosted : (xs ys : List Instance) → StayHosted xs ys → list_any (λ i. is_some i.host) ys ≡ false → list_any (λ i. is_some i.host) xs ≡ false
none_hosted [] ys stay none = refl
none_hosted (x ∷ xs) ys stay none = or_from (is_some x.host) (list_any (λ i. is_some i.host) xs) (by x.host refl) (none_hosted xs (drop 1 ys) (λ n host e. sym (behind ys n) ∙ stay (suc n) host e) (none_behind ys none))
  where
    behind : (zs : List Instance) (n : ℕ) → instance_host zs (suc n) ≡ instance_host (drop 1 zs) n
    behind [] n = refl
    behind (z ∷ zs) n = refl

    none_behind : (zs : List Instance) → list_any (λ i. is_some i.host) zs ≡ false → list_any (λ i. is_some i.host) (drop 1 zs) ≡ false
    none_behind [] e = refl
    none_behind (z ∷ zs) e = (or_parts (is_some z.host) (list_any (λ i. is_some i.host) zs) e).1

    none_first : (zs : List Instance) (host : List ℕ) → list_any (λ i. is_some i.host) zs ≡ false → instance_host zs 0 ≢ Some host
    none_first [] host e is = cc
    none_first (z ∷ zs) host e is = let own : is_some z.host ≡ true = ap is_some is in let both : true ≡ false = sym own ∙ (or_parts (is_some z.host) (list_any (λ i. is_some i.host) zs) e).0 in cc

    by : (o : Option (List ℕ)) → x.host ≡ o → is_some o ≡ false
    by None e = refl
    by (Some host) e = absurd (none_first ys host none (stay 0 host e))

-- ---- one that gets a host

-- it has one then
pub hosted_set : (xs : List Instance) (n : ℕ) (i j : Instance) → slice_get xs n ≡ Some i → is_some j.host ≡ true → list_any (λ k. is_some k.host) (slice_set xs n j) ≡ true
hosted_set [] n i j here sent = cc
hosted_set (x ∷ xs) zero i j here sent = ap (λ b. b || list_any (λ k. is_some k.host) xs) sent
hosted_set (x ∷ xs) (suc n) i j here sent = let rest = hosted_set xs n i j here sent in grind arith

-- a host that has none of the instances has not this one
has_none : (xs : List Instance) (host : List ℕ) (n : ℕ) → list_any (is_of host) xs ≡ false → instance_host xs n ≢ Some host
has_none [] host n none is = cc
has_none (x ∷ xs) host zero none is =
    let own : is_of host x ≡ true = ap (λ o. option_map_or (λ its. bytes_eq its host) o false) is ∙ (bytes_eq-Decides host host).1 refl in
    let both : true ≡ false = sym own ∙ (or_parts (is_of host x) (list_any (is_of host) xs) none).0 in
    cc
has_none (x ∷ xs) host (suc n) none is = has_none xs host n (or_parts (is_of host x) (list_any (is_of host) xs) none).1 is

module _ (xs : List Instance) (n : ℕ) (i j : Instance) (here : slice_get xs n ≡ Some i) (host : List ℕ) (unsent : i.host ≡ None) (sent : j.host ≡ Some host)
  where
    -- the place had no host
    no_host : instance_host xs n ≡ None
    no_host = ap (λ o. option_map_or (λ (x : Instance). x.host) o None) here ∙ unsent

    -- each that has a host has it still
    pub stay_hosted : StayHosted xs (slice_set xs n j)
    stay_hosted k its is = elim (cases_eq k n) [
      | inl same ↦ let none : instance_host xs k ≡ None = ap (instance_host xs) same ∙ no_host in cc
      | inr other ↦ at_other xs n j k other ∙ is
    ]

    -- the hosts stay apart, where this one had none
    pub stay_apart : list_any (is_of host) xs ≡ false → Apart xs → Apart (slice_set xs n j)
    stay_apart none apart m k its one two = elim (cases_eq m n) [
      | inl first ↦ elim (cases_eq k n) [
        | inl second ↦ first ∙ sym second
        | inr other ↦ absurd (elsewhere k other (sym (ap (instance_host (slice_set xs n j)) first) ∙ one) two)
      ]
      | inr first ↦ elim (cases_eq k n) [
        | inl second ↦ absurd (elsewhere m first (sym (ap (instance_host (slice_set xs n j)) second) ∙ two) one)
        | inr other ↦ apart m k its (sym (at_other xs n j m first) ∙ one) (sym (at_other xs n j k other) ∙ two)
      ]
    ]
      where
        elsewhere : (l : ℕ) → l ≢ n → instance_host (slice_set xs n j) n ≡ Some its → instance_host (slice_set xs n j) l ≡ Some its → ⊥
        elsewhere l other own there =
            let here_now : instance_host (slice_set xs n j) n ≡ j.host = ap (λ o. option_map_or (λ (x : Instance). x.host) o None) (set_here xs n i j here) in
            let same : Some host ≡ Some its = sym (here_now ∙ sent) ∙ own in
            has_none xs host l none (sym (at_other xs n j l other) ∙ there ∙ sym same)

-- ---- pairs of instances

-- one that has a host has another than this one
abbrev Differ : Instance → Instance → Type 0
Differ one other = is_some one.host ≡ true → one.host ≢ other.host

-- where a host has at most one, two that have hosts have different ones
differ : (xs : List Instance) → Apart xs → AllPairs Differ xs
differ xs apart m n d less low has same = by (get_or xs m d).host refl has
  where
    at : (k : ℕ) → k < length xs → instance_host xs k ≡ (get_or xs k d).host
    at k low = ap (λ o. option_map_or (λ (x : Instance). x.host) o None) (slice_get-get_or xs k d low)

    by : (o : Option (List ℕ)) → (get_or xs m d).host ≡ o → is_some o ≡ true → ⊥
    by None is has = cc
    by (Some host) is has =
        let one = at m (omega (arith, less, low)) ∙ is in
        let other = at n low ∙ sym same ∙ is in
        let equal = apart m n host one other in
        omega (arith, less, equal)

-- the viable successes of one output have hosts, each its own
pub agree_apart : (w : Workunit) (output : List ℕ) → IsWorkunit w → HostsApart w → HaveDifferentHosts (agreeing output (viable w))
agree_apart w output formed apart = record {
  hosted = hosted;
  apart = λ m n d less low.
      AllPairs-filter Differ is_equal (viable w) (AllPairs-filter Differ is_viable w.instances (differ w.instances apart)) m n d less low
      (hosted m d (omega (arith, less, low)));
}
  where
    is_equal : Instance → Bool
    is_equal i = bytes_eq i.output output

    hosted : All (λ (i : Instance). is_some i.host ≡ true) (agreeing output (viable w))
    hosted = All-filter is_equal (λ (i : Instance). is_some i.host ≡ true) (viable w) (λ k d low.
        let i = get_or (viable w) k d in
        success_host i (All-filter is_viable IsInstance w.instances formed.instances k d low)
        (and_left (is_success i) (is_open_verdict i.validate_state) (filter_passes is_viable w.instances k d low)))
