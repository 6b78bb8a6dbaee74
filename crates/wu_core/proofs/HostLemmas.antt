-- What one grant more makes of the hosts.
use Rattle.std.proofs.Common.{◌≡◌, ℕ, suc, ◌+◌, List, [], ◌∷◌, ◌++◌, length, map, filter, bytes_eq, Bool, true, false, cond, if◌then◌else◌, ◌||◌, Ordering, Less, Equal, Greater, nat_cmp, is_eq, IsPermutation, sum_by, refl, sym, ap, ◌∙◌, arith}
use Rattle.std.specs.Prelude.{⊤}
use Rattle.std.specs.List.{list_any, AllByRecursion, AllPairs}
use Rattle.std.specs.Cmp.Lexicographic.{slice_cmp, texts_ties}
use Rattle.std.specs.Ordering.{ordering_reverse}
use Rattle.std.proofs.lemmas.Bool.{or_parts}
use Rattle.std.proofs.lemmas.Cmp.{nat_list_cmp_total, alike_right}
use Rattle.std.proofs.lemmas.List.Elements.{All-from_recursion, recursion_from_All}
use Rattle.std.proofs.lemmas.List.Kept.{AllPairs-cons}
use Rattle.std.proofs.lemmas.List.Sums.{sum_by_push, length-filter}
use Rattle.std.proofs.lemmas.List.Sorted.{IsPermutation-cons, IsPermutation-refl, IsPermutation-to_front}
use Rattle.std.proofs.lemmas.Slice.Eq.{bytes_eq-Decides}
use Rattle.wu_core.specs.declared.workunit.Grant.{Grant}
use Rattle.wu_core.specs.Hosts.{is_to, credit_of, grants_of, with_host, hosts_of}

-- each element stands so to each later one
abbrev pub Ascends : {X : Type 0} → (X → X → Type 0) → List X → Type 0
Ascends R [] = ⊤
Ascends R (x ∷ xs) = AllByRecursion (R x) xs × Ascends R xs

-- by the places of two elements, or by recursion
pub pairs_ascend : {X : Type 0} (R : X → X → Type 0) (xs : List X) → AllPairs R xs → Ascends R xs
pairs_ascend R [] pairs = tt
pairs_ascend R (x ∷ xs) pairs = (
  recursion_from_All (R x) xs (λ i d low. pairs 0 (suc i) d (omega arith) (omega (arith, low))),
  pairs_ascend R xs (λ i j d less low. pairs (suc i) (suc j) d (omega (arith, less)) (omega (arith, low))),
)

pub ascend_pairs : {X : Type 0} (R : X → X → Type 0) (xs : List X) → Ascends R xs → AllPairs R xs
ascend_pairs R [] up = λ i j d less low. absurd (omega (arith, low))
ascend_pairs R (x ∷ xs) up = AllPairs-cons R x xs (All-from_recursion (R x) xs up.0) (ascend_pairs R xs up.1)

-- names by their bytes
abbrev pub order : List ℕ → List ℕ → Ordering
order = slice_cmp nat_cmp

abbrev pub below : List ℕ → List ℕ → Type 0
below a b = order a b ≡ Less

-- whether a name is among names
abbrev pub is_among : List ℕ → List (List ℕ) → Bool
is_among name hosts = list_any (λ h. bytes_eq h name) hosts

-- the three ways in which two names may stand
pub by_order : {G : Type 0} (o : Ordering) → (o ≡ Less → G) → (o ≡ Equal → G) → (o ≡ Greater → G) → G
by_order Less less equal greater = less refl
by_order Equal less equal greater = equal refl
by_order Greater less equal greater = greater refl

-- names that tie are one name
pub one_name : (a b : List ℕ) → order a b ≡ Equal → a ≡ b
one_name a b tie = (bytes_eq-Decides a b).0 (texts_ties a b ∙ ap is_eq tie)

pub turned : (a b : List ℕ) (o : Ordering) → order a b ≡ o → order b a ≡ ordering_reverse o
turned a b o is = nat_list_cmp_total.antisymm b a ∙ ap ordering_reverse is

pub matches : (a b : List ℕ) (o : Ordering) → order a b ≡ o → bytes_eq b a ≡ is_eq (ordering_reverse o)
matches a b o is = texts_ties b a ∙ ap is_eq (turned a b o is)

-- ---- names at their places

-- two names come to their places in either order
below_joins : (a b : List ℕ) → below a b → order b a ≡ Greater → (hosts : List (List ℕ)) → with_host a (with_host b hosts) ≡ with_host b (with_host a hosts)
below_joins a b low high [] = simp (low, high)
below_joins a b low high (h ∷ hosts) = by_order (order a h)
    (λ first. by_order (order b h) (λ second. simp (first, second, low, high)) (λ second. simp (first, second, high)) (λ second. simp (first, second, high)))
    (λ first. let second = sym (alike_right nat_list_cmp_total a h b first) ∙ high in simp (first, second))
    (λ first. let second = turned h b Less (nat_list_cmp_total.trans h a b (turned a h Greater first) low) in simp (first, second, below_joins a b low high hosts))

host_joins : (a b : List ℕ) (hosts : List (List ℕ)) → with_host a (with_host b hosts) ≡ with_host b (with_host a hosts)
host_joins a b hosts = by_order (order a b)
    (λ low. below_joins a b low (turned a b Less low) hosts)
    (λ tie. ap (λ c. with_host a (with_host c hosts)) (sym (one_name a b tie)) ∙ ap (λ c. with_host c (with_host a hosts)) (one_name a b tie))
    (λ high. sym (below_joins b a (turned a b Greater high) high hosts))

-- with a name at its place, some pass a test where the name or some of the others pass it
any_with : (test : List ℕ → Bool) (name : List ℕ) (hosts : List (List ℕ)) → list_any test (with_host name hosts) ≡ (test name || list_any test hosts)
any_with test name [] = refl
any_with test name (h ∷ hosts) = by_order (order name h)
    (λ low. rw low refl)
    (λ tie. rw (tie, one_name name h tie) (grind arith))
    (λ high. rw (high, any_with test name hosts) (grind arith))

-- what holds of the name and of each other holds of each
each_with : (P : List ℕ → Type 0) (name : List ℕ) (hosts : List (List ℕ)) → P name → AllByRecursion P hosts → AllByRecursion P (with_host name hosts)
each_with P name [] new all = (new, tt)
each_with P name (h ∷ hosts) new all = by_order (order name h)
    (λ low. rw low (new, all))
    (λ tie. rw tie all)
    (λ high. rw high (all.0, each_with P name hosts new all.1))

-- where each has P, and P gives Q, each has Q
pub each_so : {X : Type 0} (P Q : X → Type 0) → ((x : X) → P x → Q x) → (xs : List X) → AllByRecursion P xs → AllByRecursion Q xs
each_so P Q so [] all = tt
each_so P Q so (x ∷ xs) all = (so x all.0, each_so P Q so xs all.1)

above : (a b : List ℕ) → below a b → (hosts : List (List ℕ)) → AllByRecursion (below b) hosts → AllByRecursion (below a) hosts
above a b low = each_so (below b) (below a) (λ h. nat_list_cmp_total.trans a b h low)

-- the names go on ascending
rises : (name : List ℕ) (hosts : List (List ℕ)) → Ascends below hosts → Ascends below (with_host name hosts)
rises name [] up = (tt, tt)
rises name (h ∷ hosts) up = by_order (order name h)
    (λ low. rw low ((low, above name h low hosts up.0), up))
    (λ tie. rw tie up)
    (λ high. rw high (each_with (below h) name hosts (turned name h Greater high) up.0, rises name hosts up.1))

-- a name below all is not among them
none_below : (name : List ℕ) (hosts : List (List ℕ)) → AllByRecursion (below name) hosts → is_among name hosts ≡ false
none_below name [] up = refl
none_below name (h ∷ hosts) up = rw (matches name h Less up.0) (none_below name hosts up.1)

-- a name that is among them stays where it is
pub host_stays : (name : List ℕ) (hosts : List (List ℕ)) → Ascends below hosts → is_among name hosts ≡ true → with_host name hosts ≡ hosts
host_stays name [] up on = absurd (cc)
host_stays name (h ∷ hosts) up on = by_order (order name h)
    (λ low. absurd (let e = sym on ∙ none_below name (h ∷ hosts) (low, above name h low hosts up.0) in cc))
    (λ tie. rw tie refl)
    (λ high. rw high (ap (λ hs. h ∷ hs) (host_stays name hosts up.1 (rw (matches name h Greater high) at on))))

-- a name that is not among them comes in once
pub host_comes : (name : List ℕ) (hosts : List (List ℕ)) → is_among name hosts ≡ false → IsPermutation (hosts ++ name ∷ []) (with_host name hosts)
host_comes name [] free = IsPermutation-refl (name ∷ [])
host_comes name (h ∷ hosts) free = by_order (order name h)
    (λ low. rw low (IsPermutation-to_front (h ∷ hosts) name))
    (λ tie. absurd (let e = rw (matches name h Equal tie) at free in cc))
    (λ high. rw high (IsPermutation-cons h _ _ (host_comes name hosts (rw (matches name h Greater high) at free))))

-- ---- the hosts of grants

-- the names ascend, so no two hosts have one name
pub once : (grants : List Grant) → Ascends below (hosts_of grants)
once [] = tt
once (g ∷ grants) = rises g.host (hosts_of grants) (once grants)

-- the last grant's host comes to its place
pub hosts_more : (grants : List Grant) (g : Grant) → hosts_of (grants ++ g ∷ []) ≡ with_host g.host (hosts_of grants)
hosts_more [] g = refl
hosts_more (one ∷ grants) g = ap (with_host one.host) (hosts_more grants g) ∙ host_joins one.host g.host (hosts_of grants)

-- its host has one more, and no other
pub grants_more : (grants : List Grant) (g : Grant) (host : List ℕ) → grants_of (grants ++ g ∷ []) host ≡ (if bytes_eq g.host host then grants_of grants host + 1 else grants_of grants host)
grants_more grants g host = sum_by_push (λ grant. cond (is_to host grant) 1 0) grants g ∙ grind arith

-- no grant is to a name that is not among the hosts
none_to : (grants : List Grant) (name : List ℕ) → is_among name (hosts_of grants) ≡ false → filter (is_to name) grants ≡ []
none_to [] name free = refl
none_to (g ∷ grants) name free =
    let parts = or_parts (bytes_eq g.host name) (is_among name (hosts_of grants)) (sym (any_with (λ h. bytes_eq h name) g.host (hosts_of grants)) ∙ free) in
    rw parts.0 (none_to grants name parts.1)

-- so it has no credit
pub no_credit : (grants : List Grant) (name : List ℕ) → is_among name (hosts_of grants) ≡ false → credit_of grants name ≡ 0
no_credit grants name free = ap (sum_by (λ (grant : Grant). grant.credit)) (none_to grants name free)

pub no_grants : (grants : List Grant) (name : List ℕ) → is_among name (hosts_of grants) ≡ false → grants_of grants name ≡ 0
no_grants grants name free = sym (length-filter (is_to name) grants) ∙ ap length (none_to grants name free)

-- ---- what is shown of each host

-- each host with its credit and how many grants it has
abbrev pub host_list : {X : Type 0} → (List ℕ → ℕ → ℕ → X) → List Grant → List X
host_list cells grants = map (λ name. cells name (credit_of grants name) (grants_of grants name)) (hosts_of grants)
