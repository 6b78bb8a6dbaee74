-- Whether a name is among hosts that are in order, as a binary search finds it.
use Rattle.std.proofs.Common.{◌≡◌, ℕ, ◌+◌, true, List, [], ◌∷◌, length, get_or, Bor, Ordering, Less, Equal, Greater, nat_cmp, is_eq, is_lt, is_ok, Result, Ok, Err, All, IsSorted, inl, inr, refl, sym, ap, subst, ◌∙◌, arith}
use Rattle.std.specs.Cmp.Lexicographic.{slice_cmp, texts_ties}
use Rattle.std.specs.List.Sorted.{IsBinarySearchResult, IsSearchInRange}
use Rattle.std.specs.Ordering.{ordering_reverse}
use Rattle.std.proofs.lemmas.Bool.{cases_lt}
use Rattle.std.proofs.lemmas.Cmp.{nat_list_cmp_total, tied_itself}
use Rattle.std.proofs.lemmas.List.{get_or-map, length-map}
use Rattle.std.proofs.lemmas.List.Elements.{All-map}
use Rattle.std.proofs.lemmas.List.Sorted.{searchable_from_sorted}
use Rattle.std.proofs.lemmas.Slice.Eq.{bytes_eq-Decides}
use Rattle.wu_core.specs.declared.workunit.Grant.{Grant}
use Rattle.wu_loader.specs.Granting.{by_name, referred, IsListed, Rise}
use Rattle.wu_schema.specs.declared.rows.HostSum.{HostSum}
use Rattle.wu_loader.proofs.GrantLemmas.{by_name_total}

-- hosts of which each is above the one before it are in order
sorted_rise : (hosts : List HostSum) → Rise hosts → IsSorted by_name hosts
sorted_rise hosts up k d low high = ap is_lt (by_name_total.antisymm (get_or hosts (k + 1) d) (get_or hosts k d) ∙ ap ordering_reverse (up k d high))

module _ (name : List ℕ) where
  -- how a host's name stands to this one
  abbrev pub stands : HostSum → Ordering
  stands h = slice_cmp nat_cmp h.name name

  pub found_listed : (hosts : List HostSum) (r : Result ℕ ℕ) → IsSearchInRange r (length hosts) → IsBinarySearchResult stands hosts r → is_ok r ≡ true → IsListed hosts name
  found_listed [] (Ok i) low found is = absurd (omega (arith, low))
  found_listed (h ∷ hosts) (Ok i) low found is = (i, h, low, (bytes_eq-Decides (get_or (h ∷ hosts) i h).name name).0 (texts_ties (get_or (h ∷ hosts) i h).name name ∙ ap is_eq (found h)))
  found_listed hosts (Err i) low found is = absurd cc

  -- a name that is there stands so to itself
  itself : (hosts : List HostSum) (listed : IsListed hosts name) → stands (get_or hosts listed.0 listed.1) ≡ Equal
  itself hosts listed = ap (λ n. slice_cmp nat_cmp n name) listed.3 ∙ tied_itself nat_list_cmp_total name

  pub listed_found : (hosts : List HostSum) → Rise hosts → (r : Result ℕ ℕ) → IsBinarySearchResult stands hosts r → IsListed hosts name → is_ok r ≡ true
  listed_found hosts up (Ok i) found listed = refl
  listed_found hosts up (Err i) found listed =
      let point = found (searchable_from_sorted nat_list_cmp_total (λ (h : HostSum). h.name) hosts name (sorted_rise hosts up)) in
      let here = itself hosts listed in
      elim (cases_lt listed.0 i) [
        | inl before ↦ absurd (let low = point.0 listed.0 listed.1 (omega arith) before in let both : Less ≡ Equal = sym low ∙ here in cc)
        | inr behind ↦ absurd (let high = point.1 listed.0 listed.1 behind listed.2 in let both : Greater ≡ Equal = sym high ∙ here in cc)
      ]

-- ---- the hosts of grants that are referred to

module _ (hosts : List HostSum) (grants : List (Bor Grant)) where
  pub each_listed : All (λ (g : Bor Grant). IsListed hosts g.now.host) grants → All (λ (g : Grant). IsListed hosts g.host) (referred grants)
  each_listed all = All-map (λ (g : Grant). IsListed hosts g.host) (λ (g : Bor Grant). g.now) grants all

  pub listed_each : All (λ (g : Grant). IsListed hosts g.host) (referred grants) → All (λ (g : Bor Grant). IsListed hosts g.now.host) grants
  listed_each all k d low = subst (λ (g : Grant). IsListed hosts g.host) (get_or-map (λ (g : Bor Grant). g.now) grants k d d.now low) (all k d.now (omega (arith, low, length-map grants (λ (g : Bor Grant). g.now))))
