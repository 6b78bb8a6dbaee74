-- The names of the hosts of grants: those with a grant, each once, in order.
use Rattle.wu_schema.proofs.Words.{AllByRecursion, Greater, Less, Has, all_from, all_has, cases_Bool, hosts_of, ordering_reverse, some_has, Grant, List, [], ap, arith, bytes_eq, bytes_eq-Decides, cond, refl, subst, sym, ℕ, ◌<◌, ◌∙◌, ◌∷◌, ◌≡◌, inl, inr}
use Rattle.std.proofs.lemmas.Cmp.{nat_list_cmp_total}
use Rattle.std.proofs.lemmas.List.Sums.{sum_by-cons}
use Rattle.wu_core.specs.Hosts.{grants_of, is_to, with_host}
use Rattle.wu_core.proofs.HostLemmas.{Ascends, below, by_order, is_among, no_grants, once, order}

-- what holds of a name and of each other holds of each with it
each_with : (P : List ℕ → Type 0) (name : List ℕ) (names : List (List ℕ)) → P name → AllByRecursion P names → AllByRecursion P (with_host name names)
each_with P name [] new all = (new, tt)
each_with P name (h ∷ names) new all = by_order (order name h) (λ low. rw low (new, all)) (λ tie. rw tie all) (λ high. rw high (all.0, each_with P name names new all.1))

-- what holds of the host of each grant holds of each host
pub each_host : (P : List ℕ → Type 0) (grants : List Grant) → AllByRecursion (λ (g : Grant). P g.host) grants → AllByRecursion P (hosts_of grants)
each_host P [] all = tt
each_host P (g ∷ grants) all = each_with P g.host (hosts_of grants) all.0 (each_host P grants all.1)

-- the host of a grant has one
counted : (grants : List Grant) (g : Grant) → Has grants g → 0 < grants_of grants g.host
counted [] g has = absurd has
counted (x ∷ grants) g (inl same) =
    let a = sum_by-cons (λ y. cond (is_to g.host y) 1 0) x grants in
    let on : ◌≡◌ {A = ℕ} (cond (is_to g.host x) 1 0) 1 = ap (λ b. cond b 1 0) ((bytes_eq-Decides x.host g.host).1 (ap (λ (y : Grant). y.host) (sym same))) in
    omega (arith, a, on)
counted (x ∷ grants) g (inr later) = let a = sum_by-cons (λ y. cond (is_to g.host y) 1 0) x grants in let b = counted grants g later in omega (arith, a, b)

-- so each host has a grant,
pub some_grant : (grants : List Grant) (name : List ℕ) → Has (hosts_of grants) name → 0 < grants_of grants name
some_grant grants name has = all_has (λ n. 0 < grants_of grants n) (hosts_of grants) name (each_host (λ n. 0 < grants_of grants n) grants (all_from (λ (g : Grant). 0 < grants_of grants g.host) grants (counted grants))) has

-- a name with grants is among the hosts,
pub granted_there : (grants : List Grant) (name : List ℕ) → 0 < grants_of grants name → Has (hosts_of grants) name
granted_there grants name some = elim (cases_Bool (is_among name (hosts_of grants))) [
  | inl on ↦ let it = some_has (λ h. bytes_eq h name) (hosts_of grants) on in subst (Has (hosts_of grants)) ((bytes_eq-Decides it.0 name).0 it.2) it.1
  | inr off ↦ absurd (let none = no_grants grants name off in omega (arith, some, none))
]

-- and so is the host of a grant
pub host_there : (grants : List Grant) (g : Grant) → Has grants g → Has (hosts_of grants) g.host
host_there grants g has = granted_there grants g.host (counted grants g has)

-- ---- names that rise

never_below : (a : List ℕ) → ¬ below a a
never_below a low = absurd (let tie = nat_list_cmp_total.antisymm a a in let both : Less ≡ Greater = sym low ∙ tie ∙ ap ordering_reverse low in cc)

-- what comes behind the first of names that rise, and is among others with the same first, comes behind that
behind : (x y n : List ℕ) (xs ys : List (List ℕ)) → x ≡ y → AllByRecursion (below x) xs → Has xs n → Has (y ∷ ys) n → Has ys n
behind x y n xs ys first up has (inl same) = absurd (never_below x (subst (below x) (same ∙ sym first) (all_has (below x) xs n up has)))
behind x y n xs ys first up has (inr later) = later

-- two lists of names that rise and have the same names are one
pub same_names : (xs ys : List (List ℕ)) → Ascends below xs → Ascends below ys → ((n : List ℕ) → Has xs n → Has ys n) → ((n : List ℕ) → Has ys n → Has xs n) → xs ≡ ys
same_names [] [] up_x up_y one two = refl
same_names [] (y ∷ ys) up_x up_y one two = absurd (two y (inl refl))
same_names (x ∷ xs) [] up_x up_y one two = absurd (one x (inl refl))
same_names (x ∷ xs) (y ∷ ys) up_x up_y one two =
    let first : x ≡ y = elim (one x (inl refl)) [
      | inl same ↦ same
      | inr later ↦
          let low : below y x = all_has (below y) ys x up_y.0 later in
          elim (two y (inl refl)) [
            | inl same ↦ sym same
            | inr there ↦ absurd (never_below y (nat_list_cmp_total.trans y x y low (all_has (below x) xs y up_x.0 there)))
          ]
    ] in
    (λ i. first i ∷ same_names xs ys up_x.1 up_y.1 (λ n has. behind x y n xs ys first up_x.0 has (one n (inr has))) (λ n has. behind y x n ys xs (sym first) up_y.0 has (two n (inr has))) i)

-- grants to the same hosts have the same hosts
pub same_hosts : (xs ys : List Grant) → ((name : List ℕ) → 0 < grants_of xs name → 0 < grants_of ys name) → ((name : List ℕ) → 0 < grants_of ys name → 0 < grants_of xs name) → hosts_of xs ≡ hosts_of ys
same_hosts xs ys one two = same_names (hosts_of xs) (hosts_of ys) (once xs) (once ys) (λ name has. granted_there ys name (one name (some_grant xs name has))) (λ name has. granted_there xs name (two name (some_grant ys name has)))
