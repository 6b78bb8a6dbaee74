-- What becomes of the hosts' classes where one is set.
use Rattle.std.proofs.Common.{◌≡◌, ℕ, ◌≤◌, List, [], ◌∷◌, ◌++◌, bytes_eq, Bool, true, false, cond, Option, Some, Equal, Greater, IsPermutation, refl, sym, ap, subst, ◌∙◌, arith}
use Rattle.std.specs.List.{list_any, AllByRecursion}
use Rattle.std.specs.Option.{option_map_or}
use Rattle.std.proofs.lemmas.Cmp.{nat_list_cmp_total, nat_list_eq_equiv}
use Rattle.std.proofs.lemmas.List.Elements.{All-from_recursion, recursion_from_All}
use Rattle.std.proofs.lemmas.List.Sorted.{IsPermutation-cons, IsPermutation-refl, IsPermutation-to_front}
use Rattle.wu_core.specs.Classes.{AreClassed, AreInOrder, IsClassed, class_of, with_class}
use Rattle.wu_core.specs.Limits.{highest_class}
use Rattle.wu_core.specs.declared.workunit.HostClass.{HostClass}
use Rattle.wu_core.proofs.HostLemmas.{Ascends, ascend_pairs, below, by_order, each_so, matches, one_name, order, pairs_ascend, turned}

-- ---- the class of a host

-- the class of what is found, or 0
abbrev class_or : Option HostClass → ℕ
class_or found = option_map_or (λ it. it.class) found 0

found_first : (b : Bool) (one : HostClass) (o p : Option HostClass) → class_or o ≡ class_or p → class_or (cond b (Some one) o) ≡ class_or (cond b (Some one) p)
found_first true one o p e = refl
found_first false one o p e = e

-- a host has the class that was set
pub class_of-set : (host : List ℕ) (class : ℕ) (classes : List HostClass) → class_of (with_class host class classes) host ≡ class
class_of-set host class [] = rw (nat_list_eq_equiv.refl host) refl
class_of-set host class (one ∷ more) = by_order (order host one.host)
    (λ low. rw (low, nat_list_eq_equiv.refl host) refl)
    (λ tie. rw (tie, nat_list_eq_equiv.refl host) refl)
    (λ high. rw (high, matches host one.host Greater high) (class_of-set host class more))

-- another host has the class that it had
pub class_of-other : (host : List ℕ) (class : ℕ) (classes : List HostClass) (other : List ℕ) → bytes_eq host other ≡ false
    → class_of (with_class host class classes) other ≡ class_of classes other
class_of-other host class [] other apart = rw apart refl
class_of-other host class (one ∷ more) other apart = by_order (order host one.host)
    (λ low. rw (low, apart) refl)
    (λ tie. let alike : bytes_eq one.host other ≡ false = ap (λ name. bytes_eq name other) (sym (one_name host one.host tie)) ∙ apart in rw (tie, apart, alike) refl)
    (λ high. rw high (found_first (bytes_eq one.host other) one _ _ (class_of-other host class more other apart)))

-- ---- what holds of each

-- what holds of the new one and of each other holds of each
each_set : (P : HostClass → Type 0) (host : List ℕ) (class : ℕ) (classes : List HostClass) → P (record { host = host; class = class })
    → AllByRecursion P classes → AllByRecursion P (with_class host class classes)
each_set P host class [] new all = (new, tt)
each_set P host class (one ∷ more) new all = by_order (order host one.host)
    (λ low. rw low (new, all))
    (λ tie. rw tie (new, all.1))
    (λ high. rw high (all.0, each_set P host class more new all.1))

-- each has a class still
pub classed-set : (host : List ℕ) (class : ℕ) (classes : List HostClass) → IsClassed (record { host = host; class = class })
    → AreClassed classes → AreClassed (with_class host class classes)
classed-set host class classes new all =
    All-from_recursion IsClassed (with_class host class classes) (each_set IsClassed host class classes new (recursion_from_All IsClassed classes all))

-- no host has a greater class than the greatest
pub class_of-within : (host : List ℕ) (classes : List HostClass) → AreClassed classes → class_of classes host ≤ highest_class
class_of-within host classes all = by classes (recursion_from_All IsClassed classes all)
  where
    either : (b : Bool) (one : HostClass) (o : Option HostClass) → IsClassed one → class_or o ≤ highest_class → class_or (cond b (Some one) o) ≤ highest_class
    either true one o here le = here.within
    either false one o here le = le

    by : (classes : List HostClass) → AllByRecursion IsClassed classes → class_of classes host ≤ highest_class
    by [] all = omega arith
    by (one ∷ more) all = either (bytes_eq one.host host) one _ all.0 (by more all.1)

-- ---- their order

abbrev pub Before : HostClass → HostClass → Type 0
Before one other = below one.host other.host

rises-set : (host : List ℕ) (class : ℕ) (classes : List HostClass) → Ascends Before classes → Ascends Before (with_class host class classes)
rises-set host class [] up = (tt, tt)
rises-set host class (one ∷ more) up = by_order (order host one.host)
    (λ low. rw low ((low, each_so (Before one) (λ it. below host it.host) (λ it after. nat_list_cmp_total.trans host one.host it.host low after) more up.0), up))
    (λ tie. rw tie (subst (λ name. AllByRecursion (λ (it : HostClass). below name it.host) more) (sym (one_name host one.host tie)) up.0, up.1))
    (λ high. rw high (each_set (Before one) host class more (turned host one.host Greater high) up.0, rises-set host class more up.1))

-- they are in order still
pub in_order-set : (host : List ℕ) (class : ℕ) (classes : List HostClass) → AreInOrder classes → AreInOrder (with_class host class classes)
in_order-set host class classes up = ascend_pairs Before (with_class host class classes) (rises-set host class classes (pairs_ascend Before classes up))

-- ---- where the new one stands

abbrev pub has_class : List ℕ → List HostClass → Bool
has_class host classes = list_any (λ (it : HostClass). bytes_eq it.host host) classes

-- a host that had no class comes in once
pub class_comes : (host : List ℕ) (class : ℕ) (classes : List HostClass) → has_class host classes ≡ false
    → IsPermutation (classes ++ record { host = host; class = class } ∷ []) (with_class host class classes)
class_comes host class [] free = IsPermutation-refl (record { host = host; class = class } ∷ [])
class_comes host class (one ∷ more) free = by_order (order host one.host)
    (λ low. rw low (IsPermutation-to_front (one ∷ more) (record { host = host; class = class })))
    (λ tie. absurd (let e = rw (matches host one.host Equal tie) at free in cc))
    (λ high. rw high (IsPermutation-cons one _ _ (class_comes host class more (rw (matches host one.host Greater high) at free))))
