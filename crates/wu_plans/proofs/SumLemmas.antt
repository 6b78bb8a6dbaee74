-- Sums of grants, one grant after another.
use Rattle.std.proofs.Common.{◌≢◌, sym, subst, ℕ, ◌<◌, ◌≤◌, Bor, IsSorted, Less, Equal, Greater, get_or, inl, inr, length, ◌≡◌, ◌+◌, Bool, true, false, cond, List, [], ◌∷◌, ◌++◌, bytes_eq, sum_by, IsPermutation, refl, ap, arith, ◌∙◌}
use Rattle.wu_core.specs.Hosts.{credit_of, grants_of}
use Rattle.wu_core.specs.declared.workunit.Grant.{Grant}
use Rattle.wu_store.proofs.GrantSums.{count_both, counted_both, counted_parts, credit_both, grants_both, same_count, same_credit, sums_both, total_both}
use Rattle.wu_store.specs.Sums.{AreSums, count_of, total_of}
use Rattle.wu_schema.specs.declared.rows.HostSum.{HostSum}
use Rattle.wu_plans.specs.Summing.{sum_of, with_more, AreFew, AreUpTo, IsBegunBehind, PassTogether, SumsAlso}
use Rattle.wu_core.proofs.HostLemmas.{by_order, one_name, order, turned}
use Rattle.std.specs.Ordering.{ordering_index}
use Rattle.std.proofs.lemmas.Cmp.{nat_list_cmp_total, tied_itself}
use Rattle.std.proofs.lemmas.List.Sorted.{searchable_from_sorted}

module _ (g : Grant) where
  one_total : (b : Bool) → sum_by (λ (s : HostSum). s.total) (cond b (sum_of g ∷ []) []) ≡ sum_by (λ (x : Grant). x.credit) (cond b (g ∷ []) [])
  one_total true = refl
  one_total false = refl

  one_count : (b : Bool) → sum_by (λ (s : HostSum). s.grants) (cond b (sum_of g ∷ []) []) ≡ 0 + cond b 1 0
  one_count true = refl
  one_count false = refl

  one_sum : AreSums (sum_of g ∷ []) (g ∷ [])
  one_sum = record { total = λ name. one_total (bytes_eq g.host name); count = λ name. one_count (bytes_eq g.host name); some = (omega arith, tt) }

  -- behind the others
  also_begun : (old : List HostSum) (grants : List Grant) → AreSums old grants → AreSums (old ++ sum_of g ∷ []) (grants ++ g ∷ [])
  also_begun old grants are = sums_both old (sum_of g ∷ []) grants (g ∷ []) are one_sum

  module _ (last : HostSum) (same : last.name ≡ g.host) where
    more_total : (b : Bool) → sum_by (λ (s : HostSum). s.total) (cond b (with_more g last ∷ []) []) ≡ sum_by (λ (s : HostSum). s.total) (cond b (last ∷ []) []) + sum_by (λ (x : Grant). x.credit) (cond b (g ∷ []) [])
    more_total true = omega arith
    more_total false = refl

    more_count : (b : Bool) → sum_by (λ (s : HostSum). s.grants) (cond b (with_more g last ∷ []) []) ≡ sum_by (λ (s : HostSum). s.grants) (cond b (last ∷ []) []) + (0 + cond b 1 0)
    more_count true = omega arith
    more_count false = refl

    -- in the last one
    also_grown : (rest : List HostSum) (grants : List Grant) → AreSums (rest ++ last ∷ []) grants → AreSums (rest ++ with_more g last ∷ []) (grants ++ g ∷ [])
    also_grown rest grants are = record {
      total = λ name.
          let a = total_both rest (last ∷ []) name in
          let b = total_both rest (with_more g last ∷ []) name in
          let c = credit_both grants (g ∷ []) name in
          let d = are.total name in
          let e : total_of (with_more g last ∷ []) name ≡ total_of (last ∷ []) name + credit_of (g ∷ []) name =
          more_total (bytes_eq last.name name) ∙ ap (λ host. total_of (last ∷ []) name + sum_by (λ (x : Grant). x.credit) (cond (bytes_eq host name) (g ∷ []) [])) same in
          omega (arith, a, b, c, d, e);
      count = λ name.
          let a = count_both rest (last ∷ []) name in
          let b = count_both rest (with_more g last ∷ []) name in
          let c = grants_both grants (g ∷ []) name in
          let d = are.count name in
          let e : count_of (with_more g last ∷ []) name ≡ count_of (last ∷ []) name + grants_of (g ∷ []) name =
          more_count (bytes_eq last.name name) ∙ ap (λ host. count_of (last ∷ []) name + (0 + cond (bytes_eq host name) 1 0)) same in
          omega (arith, a, b, c, d, e);
      some = counted_both rest (with_more g last ∷ []) (counted_parts rest last are.some).0 (omega arith, tt);
    }

-- sums of grants are those of the same grants in another order
pub sums_moved : (sums : List HostSum) (xs ys : List Grant) → IsPermutation xs ys → AreSums sums ys → AreSums sums xs
sums_moved sums xs ys moved are = record {
  total = λ name. are.total name ∙ same_credit xs ys moved name;
  count = λ name. are.count name ∙ same_count xs ys moved name;
  some = are.some;
}

-- ---- few sums

-- one more behind the last
few_behind : (rest : List HostSum) (last next : HostSum) → AreFew (rest ++ last ∷ []) → IsBegunBehind last (next ∷ []) → AreFew (rest ++ last ∷ [] ++ next ∷ [])
few_behind [] last next few so = (so, (tt, tt))
few_behind (r ∷ []) last next few so = (few.0, few_behind [] last next few.1 so)
few_behind (r ∷ q ∷ rest) last next few so = (few.0, few_behind (q ∷ rest) last next few.1 so)

-- the last of them grown
few_grown : (g : Grant) (rest : List HostSum) (last : HostSum) → AreFew (rest ++ last ∷ []) → AreFew (rest ++ with_more g last ∷ [])
few_grown g [] last few = (tt, tt)
few_grown g (r ∷ []) last few = (behind few.0, (tt, tt))
  where
    behind : IsBegunBehind r (last ∷ []) → IsBegunBehind r (with_more g last ∷ [])
    behind (inl low) = inl low
    behind (inr (inl total)) = inr (inl (omega (arith, total)))
    behind (inr (inr count)) = inr (inr (omega (arith, count)))
few_grown g (r ∷ q ∷ rest) last few = (few.0, few_grown g (q ∷ rest) last few.1)

pub up_to_last : (rest : List HostSum) (last : HostSum) (host : List ℕ) → order host last.name ≢ Less → AreUpTo host (rest ++ last ∷ [])
up_to_last [] last host so = so
up_to_last (r ∷ []) last host so = so
up_to_last (r ∷ q ∷ rest) last host so = up_to_last (q ∷ rest) last host so

last_up_to : (rest : List HostSum) (last : HostSum) (host : List ℕ) → AreUpTo host (rest ++ last ∷ []) → order host last.name ≢ Less
last_up_to [] last host so = so
last_up_to (r ∷ []) last host so = so
last_up_to (r ∷ q ∷ rest) last host so = last_up_to (q ∷ rest) last host so

module _ (g : Grant) where
  module _ (rest : List HostSum) (last : HostSum) where
    -- a sum behind the others, where the last one could not grow
    pub adds_begun : (last.name ≡ g.host → PassTogether last (sum_of g)) → SumsAlso g (rest ++ last ∷ []) (rest ++ last ∷ [] ++ sum_of g ∷ [])
    adds_begun full = record {
      sums = also_begun g (rest ++ last ∷ []);
      few = λ few up_to. few_behind rest last (sum_of g) few (by_order (order last.name g.host)
          (λ low. inl low)
          (λ tie. inr (full (one_name last.name g.host tie)))
          (λ high. absurd (last_up_to rest last g.host up_to (turned last.name g.host Greater high))));
      up_to = λ host so. up_to_last (rest ++ last ∷ []) (sum_of g) host so;
    }

    -- the last one with it
    pub adds_grown : last.name ≡ g.host → SumsAlso g (rest ++ last ∷ []) (rest ++ with_more g last ∷ [])
    adds_grown same = record {
      sums = also_grown g last same rest;
      few = λ few up_to. few_grown g rest last few;
      up_to = λ host so. up_to_last rest (with_more g last) host (subst (λ name. order host name ≢ Less) (sym same) so);
    }

-- in order of their hosts' names no later grant is for an earlier host
pub no_earlier : (grants : List (Bor Grant)) → IsSorted (λ (one other : Bor Grant). order one.now.host other.now.host) grants → (i j : ℕ) (d : Bor Grant) → i ≤ j → j < length grants
    → order (get_or grants j d).now.host (get_or grants i d).now.host ≢ Less
no_earlier grants up i j d le low earlier =
    let name = (get_or grants i d).now.host in
    let rises = searchable_from_sorted nat_list_cmp_total (λ (g : Bor Grant). g.now.host) grants name up i j d le low in
    let itself : order name name ≡ Equal = tied_itself nat_list_cmp_total name in
    let one : ordering_index (order name name) ≡ ordering_index Equal = ap ordering_index itself in
    let other : ordering_index (order (get_or grants j d).now.host name) ≡ ordering_index Less = ap ordering_index earlier in
    absurd (omega (arith, rises, one, other))
