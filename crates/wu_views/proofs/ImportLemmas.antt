-- Imports in order: all of them, each once, and ascending.
use Rattle.wu_schema.proofs.Words.{AllByRecursion, Equal, Greater, Import, IsAscending, IsPermutation, IsPermutation-refl, IsPermutation-trans, Less, List, Ordering, [], ap, arith, bytes_eq, import_kind_code, is_eq, is_import, refl, true, false, ℕ, ◌==◌, ◌∙◌, ◌∷◌, ◌≡◌}
use Rattle.std.specs.Cmp.{IsTotalOrder}
use Rattle.std.specs.Cmp.Lexicographic.{slice_cmp, texts_ties}
use Rattle.std.specs.Ordering.{nat_cmp, ordering_reverse, ordering_then}
use Rattle.std.proofs.lemmas.Bool.Decides.{nat_tests}
use Rattle.std.proofs.lemmas.Cmp.{nat_cmp_total, nat_list_cmp_total, on_total, then_total}
use Rattle.std.proofs.lemmas.List.Sorted.{IsPermutation-cons, IsPermutation-middle}
use Rattle.wu_core.proofs.HostLemmas.{by_order}
use Rattle.wu_views.specs.Imports.{import_order, imports_in_order, with_import_placed}

-- the first stands before the second
abbrev pub Precedes : Import → Import → Type 0
Precedes a b = import_order a b ≡ Less

order_total : IsTotalOrder import_order
order_total = then_total (on_total (λ (i : Import). import_kind_code i.kind) nat_cmp_total) (on_total (λ (i : Import). i.name) nat_list_cmp_total)

-- ---- all of them

placed_same : (import : Import) (more : List Import) → IsPermutation (with_import_placed import more) (import ∷ more)
placed_same import [] = IsPermutation-refl (import ∷ [])
placed_same import (one ∷ more) = by_order (import_order import one)
    (λ low. rw low (IsPermutation-refl (import ∷ one ∷ more)))
    (λ tie. rw tie (IsPermutation-refl (import ∷ one ∷ more)))
    (λ high. rw high (IsPermutation-trans _ _ _ (IsPermutation-cons one _ _ (placed_same import more)) (IsPermutation-middle (one ∷ []) import more)))

pub in_order_same : (imports : List Import) → IsPermutation (imports_in_order imports) imports
in_order_same [] = IsPermutation-refl []
in_order_same (import ∷ more) = IsPermutation-trans _ _ _ (placed_same import (imports_in_order more)) (IsPermutation-cons import _ _ (in_order_same more))

-- ---- what holds of each

module _ (P : Import → Type 0) where
  each_placed : (import : Import) (more : List Import) → P import → AllByRecursion P more → AllByRecursion P (with_import_placed import more)
  each_placed import [] new all = (new, tt)
  each_placed import (one ∷ more) new all = by_order (import_order import one)
      (λ low. rw low (new, all))
      (λ tie. rw tie (new, all))
      (λ high. rw high (all.0, each_placed import more new all.1))

  pub each_in_order : (imports : List Import) → AllByRecursion P imports → AllByRecursion P (imports_in_order imports)
  each_in_order [] all = tt
  each_in_order (import ∷ more) all = each_placed import (imports_in_order more) all.0 (each_in_order more all.1)

each_follows : (a b : Import) → Precedes a b → (more : List Import) → AllByRecursion (Precedes b) more → AllByRecursion (Precedes a) more
each_follows a b low [] all = tt
each_follows a b low (one ∷ more) all = (order_total.trans a b one low all.0, each_follows a b low more all.1)

-- ---- ascending

abbrev pub Differs : Import → Import → Type 0
Differs a b = is_import a.kind a.name b ≡ false

both_tie : (a b : Ordering) → ordering_then a b ≡ Equal → (a ≡ Equal) × (b ≡ Equal)
both_tie Less b tie = absurd cc
both_tie Equal b tie = (refl, tie)
both_tie Greater b tie = absurd cc

number_ties : (m n : ℕ) → nat_cmp m n ≡ Equal → (n == m) ≡ true
number_ties m n tie = grind (arith, nat_tests, tie)

name_ties : (a b : List ℕ) → slice_cmp nat_cmp a b ≡ Equal → bytes_eq b a ≡ true
name_ties a b tie = texts_ties b a ∙ ap is_eq (nat_list_cmp_total.antisymm b a ∙ ap ordering_reverse tie)

-- imports that tie are of one kind and name
tie_is : (a b : Import) → import_order a b ≡ Equal → is_import a.kind a.name b ≡ true
tie_is a b tie =
    let both = both_tie (nat_cmp (import_kind_code a.kind) (import_kind_code b.kind)) (slice_cmp nat_cmp a.name b.name) tie in
    rw (number_ties (import_kind_code a.kind) (import_kind_code b.kind) both.0, name_ties a.name b.name both.1) refl

placed_rises : (import : Import) (more : List Import) → AllByRecursion (Differs import) more → IsAscending Precedes more → IsAscending Precedes (with_import_placed import more)
placed_rises import [] differs up = (tt, tt)
placed_rises import (one ∷ more) differs up = by_order (import_order import one)
    (λ low. rw low ((low, each_follows import one low more up.0), up))
    (λ tie. absurd (let same = tie_is import one tie in let other = differs.0 in cc))
    (λ high. rw high (each_placed (Precedes one) import more (order_total.antisymm one import ∙ ap ordering_reverse high) up.0, placed_rises import more differs.1 up.1))

pub in_order_rises : (imports : List Import) → IsAscending Differs imports → IsAscending Precedes (imports_in_order imports)
in_order_rises [] apart = tt
in_order_rises (import ∷ more) apart = placed_rises import (imports_in_order more) (each_in_order (Differs import) more apart.0) (in_order_rises more apart.1)
