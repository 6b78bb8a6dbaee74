-- The order of instances, and which of them are a workunit's.
use Rattle.wu_schema.proofs.Words.{AllByRecursion, Instance, List, Workunit, all_has, drop, flat_map, has_right, inl, map-append, ◌≢◌, ◌≤◌, [], ap, arith, enumerate_from, length, map, on_total, refl, sym, subst, suc, take, ℕ, ◌++◌, ◌-◌, ◌+◌, ◌<◌, ◌∙◌, ◌∷◌, ◌≡◌, append-nil}
use Rattle.wu_store.specs.Changes.{without_instances}
use Rattle.std.specs.Prelude.{All}
use Rattle.std.proofs.Common.{get_or, set}
use Rattle.std.proofs.lemmas.List.{append_assoc, append_cancel_left, drop_all, length-append, take_all, take_at, take_more_set}
use Rattle.std.proofs.lemmas.List.Concat.{flat_map-append}
use Rattle.std.proofs.lemmas.List.Elements.{All-nil, All-push, recursion_from_All}
use Rattle.wu_core.specs.Limits.{most_instances}
use Rattle.std.proofs.lemmas.Cmp.{nat_cmp_total, then_total}
use Rattle.std.specs.Cmp.{IsTotalOrder}
use Rattle.wu_loader.specs.Dealing.{by_place, placed_from, placed_of, AreDealt, IsNext}
use Rattle.wu_loader.specs.Worlds.{IsOrdered}
use Rattle.wu_loader.specs.Wrongs.{IsUndealtAt}
use Rattle.wu_loader.specs.declared.rows.Placed.{Placed}
use Rattle.wu_loader.proofs.InPlaceLemmas.{next_is, one_more, rest_stays}

pub by_place_total : IsTotalOrder by_place
by_place_total = then_total (on_total (λ (p : Placed). p.workunit) nat_cmp_total) (on_total (λ (p : Placed). p.n) nat_cmp_total)

abbrev placed_at : ℕ → ℕ → List Instance → List Placed
placed_at workunit from instances = map (λ (p : ℕ × Instance). record { workunit = workunit; n = p.0; instance = p.1 }) (enumerate_from from instances)

more_at : (workunit from : ℕ) (instances : List Instance) (i : Instance) → placed_at workunit from (instances ++ i ∷ []) ≡ placed_at workunit from instances ++ record { workunit = workunit; n = from + length instances; instance = i } ∷ []
more_at workunit from [] i = let e : from ≡ from + 0 = omega arith in (λ k. record { workunit = workunit; n = e k; instance = i } ∷ [])
more_at workunit from (j ∷ instances) i =
    let e : from + 1 + length instances ≡ from + suc (length instances) = omega arith in
    ap (λ ps. record { workunit = workunit; n = from; instance = j } ∷ ps) (more_at workunit (from + 1) instances i ∙ (λ k. placed_at workunit (from + 1) instances ++ record { workunit = workunit; n = e k; instance = i } ∷ []))

-- one more is taken from the front
pub taken_more : (workunit : ℕ) (instances : List Instance) (all left rest : List Placed) (p : Placed) → all ≡ placed_from workunit instances ++ left → left ≡ p ∷ rest → IsNext workunit (length instances) left → all ≡ placed_from workunit (instances ++ p.instance ∷ []) ++ rest
taken_more workunit instances all left rest p so_far front next =
    let is : IsNext workunit (length instances) (p ∷ rest) = subst (IsNext workunit (length instances)) front next in
    let n : p.n ≡ 0 + length instances = omega (arith, is.1) in
    let same : p ≡ record { workunit = workunit; n = 0 + length instances; instance = p.instance } = λ k. record { workunit = is.0 k; n = n k; instance = p.instance } in
    so_far ∙ ap (λ ps. placed_from workunit instances ++ ps) front ∙ (λ k. placed_from workunit instances ++ same k ∷ rest)
    ∙ sym (append_assoc (placed_from workunit instances) (record { workunit = workunit; n = 0 + length instances; instance = p.instance } ∷ []) rest) ∙ ap (λ ps. ps ++ rest) (sym (more_at workunit 0 instances p.instance))

-- ---- workunits are dealt their instances

-- a run from the front is as long as it goes, as far as a workunit may have instances, and so it is one
same_run : (workunit n : ℕ) (is js : List Instance) (left tail : List Placed) → placed_at workunit n is ++ left ≡ placed_at workunit n js ++ tail → n + length js ≤ most_instances → (n + length is < most_instances → ¬ IsNext workunit (n + length is) left) → ¬ IsNext workunit (n + length js) tail
    → (is ≡ js) × (left ≡ tail)
same_run workunit n [] [] left tail same few end other = (refl, same)
same_run workunit n [] (j ∷ js) left tail same few end other = let e : n ≡ n + 0 = omega arith in absurd (end (omega (arith, few)) (subst (IsNext workunit (n + 0)) (sym same) (refl, e)))
same_run workunit n (i ∷ is) [] left tail same few end other = let e : n ≡ n + 0 = omega arith in absurd (other (subst (IsNext workunit (n + 0)) same (refl, e)))
same_run workunit n (i ∷ is) (j ∷ js) left tail same few end other =
    let first : i ≡ j = ap (head_of i) same in
    let a : n + 1 + length is ≡ n + suc (length is) = omega arith in
    let b : n + 1 + length js ≡ n + suc (length js) = omega arith in
    let rest = same_run workunit (n + 1) is js left tail (ap (drop 1) same) (omega (arith, few)) (λ low next. end (omega (arith, low)) (subst (λ k. IsNext workunit k left) a next)) (λ next. other (subst (λ k. IsNext workunit k tail) b next)) in
    ((λ k. first k ∷ rest.0 k), rest.1)
  where
    head_of : Instance → List Placed → Instance
    head_of i [] = i
    head_of i (p ∷ ps) = p.instance

-- none of the instances of later workunits is this one's
never_next : (workunit n : ℕ) (ws : List Workunit) → AllByRecursion (λ (w : Workunit). workunit < w.number) ws → ¬ IsNext workunit n (flat_map placed_of ws)
never_next workunit n [] above next = next
never_next workunit n (w ∷ ws) above next = go w.instances (never_next workunit n ws above.1) next
  where
    go : (is : List Instance) → ¬ IsNext workunit n (flat_map placed_of ws) → IsNext workunit n (placed_at w.number 0 is ++ flat_map placed_of ws) → ⊥
    go [] later next = later next
    go (i ∷ is) later next = let low = above.0 in let same = next.0 in omega (arith, low, same)

ordered_from : (before : List Workunit) (w : Workunit) (more : List Workunit) → IsOrdered (before ++ w ∷ more) → AllByRecursion (λ (u : Workunit). w.number < u.number) more
ordered_from [] w more up = up.0
ordered_from (v ∷ before) w more up = ordered_from before w more up.1

-- what is next is so in front of others
next_front : (workunit n : ℕ) (front back : List Placed) → IsNext workunit n front → IsNext workunit n (front ++ back)
next_front workunit n [] back next = absurd next
next_front workunit n (p ∷ front) back next = next

no_right : {X : Type 0} (xs ys : List X) → xs ++ ys ≡ [] → ys ≡ []
no_right [] ys none = none
no_right (x ∷ xs) ys none = absurd cc

one_of : (P : Workunit → Type 0) (before : List Workunit) (u : Workunit) (more : List Workunit) → All P (before ++ u ∷ more) → P u
one_of P before u more all = all_has P (before ++ u ∷ more) u (recursion_from_All P (before ++ u ∷ more) all) (has_right before (u ∷ more) u (inl refl))

abbrev HasFew : Workunit → Type 0
HasFew w = length w.instances ≤ most_instances

-- so far: what was yielded is dealt, and these are left
pub record IsDealing (workunits : List Workunit) (placed : List Placed) (yielded rest dealt : List Workunit) (left : List Placed) : Type 0 where
  pub whole : yielded ++ rest ≡ workunits
  pub bare : map without_instances dealt ≡ map without_instances yielded
  pub all : flat_map placed_of dealt ++ left ≡ placed
  pub few : All (λ (w : Workunit). length w.instances ≤ most_instances) dealt
  -- where any from the front of those that are left are dealt too, it could not be otherwise
  pub only : (front back : List Placed) → front ++ back ≡ left → front ≢ [] → (ws : List Workunit) → IsOrdered ws → AreDealt workunits (flat_map placed_of dealt ++ front) ws → (more : List Workunit) × (ws ≡ dealt ++ more)

pub deals_none : (workunits : List Workunit) (placed : List Placed) → IsDealing workunits placed [] workunits [] placed
deals_none workunits placed = record { whole = refl; bare = refl; all = refl; few = All-nil _; only = λ front back is some ws up are. (ws, refl) }

module _ (workunits : List Workunit) (placed : List Placed) (yielded rest dealt : List Workunit) (w : Workunit) (left next : List Placed) (is : List Instance) (so_far : IsDealing workunits placed yielded (w ∷ rest) dealt left)
    (taken : left ≡ placed_from w.number is ++ next) (few : length is ≤ most_instances) (end : length is < most_instances → ¬ IsNext w.number (length is) next) where
  abbrev with_its : Workunit
  with_its = record w { instances = is }

  -- what the next of such workunits has to be
  record IsFollowed (ws : List Workunit) : Type 0 where
    more : List Workunit
    split : ws ≡ dealt ++ (with_its ∷ more)

  flat_more : (front : List Placed) → flat_map placed_of (dealt ++ with_its ∷ []) ++ front ≡ flat_map placed_of dealt ++ (placed_from w.number is ++ front)
  flat_more front =
      ap (λ ps. ps ++ front) (flat_map-append placed_of dealt (with_its ∷ []) ∙ ap (λ ps. flat_map placed_of dealt ++ ps) (append-nil (placed_from w.number is)))
      ∙ append_assoc (flat_map placed_of dealt) (placed_from w.number is) front

  module _ (front back : List Placed) (covers : front ++ back ≡ next) (some : front ≢ []) (ws : List Workunit) (up : IsOrdered ws) (dealt_so : AreDealt workunits (flat_map placed_of (dealt ++ with_its ∷ []) ++ front) ws) where
    are : AreDealt workunits (flat_map placed_of dealt ++ (placed_from w.number is ++ front)) ws
    are = subst (λ ps. AreDealt workunits ps ws) (flat_more front) dealt_so

    followed : IsFollowed ws
    followed =
        let before = so_far.only (placed_from w.number is ++ front) back (append_assoc (placed_from w.number is) front back ∙ ap (λ ps. placed_from w.number is ++ ps) covers ∙ sym taken) (λ none. some (no_right (placed_from w.number is) front none)) ws up are in
        go before.0 before.1
      where
        go : (more : List Workunit) → ws ≡ dealt ++ more → IsFollowed ws
        go more split = from more split bares
          where
            bares : map without_instances more ≡ without_instances w ∷ map without_instances rest
            bares = append_cancel_left (map without_instances dealt) (map without_instances more) (without_instances w ∷ map without_instances rest)
                (sym (map-append without_instances dealt more) ∙ ap (map without_instances) (sym split) ∙ are.bare ∙ ap (map without_instances) (sym so_far.whole) ∙ map-append without_instances yielded (w ∷ rest) ∙ ap (λ bs. bs ++ (without_instances w ∷ map without_instances rest)) (sym so_far.bare))

            from : (more : List Workunit) → ws ≡ dealt ++ more → map without_instances more ≡ without_instances w ∷ map without_instances rest → IsFollowed ws
            from [] split bares = absurd cc
            from (v ∷ more) split bares =
                let one : without_instances v ≡ without_instances w = cc in
                let number : w.number ≡ v.number = ap (λ (u : Workunit). u.number) (sym one) in
                let lists : placed_from w.number is ++ front ≡ placed_of v ++ flat_map placed_of more =
                append_cancel_left (flat_map placed_of dealt) (placed_from w.number is ++ front) (placed_of v ++ flat_map placed_of more) (sym are.all ∙ ap (flat_map placed_of) split ∙ flat_map-append placed_of dealt (v ∷ more)) in
                let above = ordered_from dealt v more (subst IsOrdered split up) in
                let few_v : HasFew v = one_of HasFew dealt v more (subst (All HasFew) split are.few) in
                let runs : placed_from w.number is ++ front ≡ placed_from w.number v.instances ++ flat_map placed_of more = lists ∙ ap (λ k. placed_from k v.instances ++ flat_map placed_of more) (sym number) in
                let e : length is ≡ 0 + length is = omega arith in
                let same = same_run w.number 0 is v.instances front (flat_map placed_of more) runs (omega (arith, few_v))
                (λ low n. end (omega (arith, low)) (subst (IsNext w.number (length is)) covers (next_front w.number (length is) front back (subst (λ k. IsNext w.number k front) (sym e) n))))
                (never_next w.number (0 + length v.instances) more (subst (λ k. AllByRecursion (λ (u : Workunit). k < u.number) more) (sym number) above)) in
                let it : v ≡ with_its = λ i. record (one i) { instances = sym same.0 i } in
                record { more = more; split = split ∙ ap (λ u. dealt ++ u ∷ more) it }

  pub deals_more : IsDealing workunits placed (yielded ++ w ∷ []) rest (dealt ++ with_its ∷ []) next
  deals_more = record {
    whole = append_assoc yielded (w ∷ []) rest ∙ so_far.whole;
    bare = map-append without_instances dealt (with_its ∷ []) ∙ ap (λ bs. bs ++ without_instances w ∷ []) so_far.bare ∙ sym (map-append without_instances yielded (w ∷ []));
    all = flat_more next ∙ ap (λ ps. flat_map placed_of dealt ++ ps) (sym taken) ∙ so_far.all;
    few = All-push HasFew dealt with_its so_far.few few;
    only = λ front back covers some ws up are. let it = followed front back covers some ws up are in (it.more, it.split ∙ sym (append_assoc dealt (with_its ∷ []) it.more));
  }

-- so far in place: the workunits before an index are dealt theirs, and the others are as at first
abbrev pub IsDealingAt : List Workunit → List Placed → ℕ → List Workunit → List Placed → Type 0
IsDealingAt workunits placed n now left = IsDealing workunits placed (take n workunits) (drop n workunits) (take n now) left × (drop n now ≡ drop n workunits)

module _ (workunits now : List Workunit) (placed left : List Placed) (n : ℕ) (so_far : IsDealingAt workunits placed n now left) where
  pub deals_next : (next : List Placed) (is : List Instance) (d : Workunit) → n < length now → left ≡ placed_from (get_or now n d).number is ++ next → length is ≤ most_instances
      → (length is < most_instances → ¬ IsNext (get_or now n d).number (length is) next) → IsDealingAt workunits placed (n + 1) (set now n (record (get_or now n d) { instances = is })) next
  deals_next next is d low taken few end =
      let w = get_or now n d in
      let its : Workunit = record w { instances = is } in
      let first : IsDealing workunits placed (take n workunits) (w ∷ drop (n + 1) workunits) (take n now) left = subst (λ rest. IsDealing workunits placed (take n workunits) rest (take n now) left) (next_is workunits now n d low so_far.1) so_far.0 in
      let more = deals_more workunits placed (take n workunits) (drop (n + 1) workunits) (take n now) w left next is first taken few end in (
        subst (λ yielded. IsDealing workunits placed yielded (drop (n + 1) workunits) (take (n + 1) (set now n its)) next) (sym (one_more workunits now n d low so_far.1))
            (subst (λ dealt. IsDealing workunits placed (take n workunits ++ w ∷ []) (drop (n + 1) workunits) dealt next) (sym (take_more_set now n its low)) more),
        rest_stays workunits now n d low so_far.1 its,
      )

  pub deals_ended : length now ≤ n → IsDealing workunits placed (take n workunits) [] now left
  deals_ended end =
      let none : drop n workunits ≡ [] = sym so_far.1 ∙ drop_all n now end in
      subst (λ dealt. IsDealing workunits placed (take n workunits) [] dealt left) (take_all n now end) (subst (λ rest. IsDealing workunits placed (take n workunits) rest (take n now) left) none so_far.0)

module _ (workunits : List Workunit) (placed : List Placed) (yielded dealt : List Workunit) (left : List Placed) (so_far : IsDealing workunits placed yielded [] dealt left) where
  bares_are : map without_instances dealt ≡ map without_instances workunits
  bares_are = so_far.bare ∙ ap (map without_instances) (sym (append-nil yielded) ∙ so_far.whole)

  pub deals_all : left ≡ [] → AreDealt workunits placed dealt
  deals_all none = record {
    bare = bares_are;
    all = sym (append-nil (flat_map placed_of dealt)) ∙ ap (λ ps. flat_map placed_of dealt ++ ps) (sym none) ∙ so_far.all;
    few = so_far.few;
  }

  -- none of those that are left are dealt
  front_undealt : (front back : List Placed) → front ++ back ≡ left → front ≢ [] → (ws : List Workunit) → IsOrdered ws → ¬ AreDealt workunits (flat_map placed_of dealt ++ front) ws
  front_undealt front back covers some ws up are = let it = so_far.only front back covers some ws up are in go it.0 it.1
    where
      go : (more : List Workunit) → ws ≡ dealt ++ more → ⊥
      go [] split = some (append_cancel_left (flat_map placed_of dealt) front [] (sym are.all ∙ ap (flat_map placed_of) split ∙ flat_map-append placed_of dealt []))
      go (v ∷ more) split =
          let none : without_instances v ∷ map without_instances more ≡ [] = append_cancel_left (map without_instances dealt) (without_instances v ∷ map without_instances more) []
          (sym (map-append without_instances dealt (v ∷ more)) ∙ ap (map without_instances) (sym split) ∙ are.bare ∙ sym bares_are ∙ sym (append-nil (map without_instances dealt))) in
          absurd cc

  pub deals_left : left ≢ [] → (ws : List Workunit) → IsOrdered ws → ¬ AreDealt workunits placed ws
  deals_left some ws up are = front_undealt left [] (append-nil left) some ws up (subst (λ ps. AreDealt workunits ps ws) (sym so_far.all) are)

  -- the first of those that are left is none of theirs
  pub first_undealt : left ≢ [] → (place : ℕ) → place + length left ≡ length placed + 1 → IsUndealtAt workunits placed place
  first_undealt some place is = from left refl
    where
      from : (ps : List Placed) → left ≡ ps → IsUndealtAt workunits placed place
      from [] none = absurd (some none)
      from (p ∷ back) split =
          let flat = flat_map placed_of dealt in
          let all : flat ++ (p ∷ back) ≡ placed = ap (λ ps. flat ++ ps) (sym split) ∙ so_far.all in
          let a : length (flat ++ (p ∷ back)) ≡ length placed = ap (λ ps. length ps) all in
          let b = length-append flat (p ∷ back) in
          let l : length left ≡ length (p ∷ back) = ap (λ ps. length ps) split in
          let n : length flat ≡ place - 1 = omega (arith, is, a, b, l) in
          let d = length-append flat (p ∷ []) in
          let m : length (flat ++ p ∷ []) ≡ place = omega (arith, is, a, b, l, d) in
          let without : take (place - 1) placed ≡ flat = ap (take (place - 1)) (sym all) ∙ take_at flat (p ∷ back) (place - 1) n in
          let with : take place placed ≡ flat ++ p ∷ [] = ap (take place) (sym (append_assoc flat (p ∷ []) back ∙ all)) ∙ take_at (flat ++ p ∷ []) back place m in
          record {
            counted = omega (arith, is, a, b, l);
            there = omega (arith, is, a, b, l);
            before = dealt;
            dealt = record { bare = bares_are; all = sym without; few = so_far.few };
            none = λ ws up are. front_undealt (p ∷ []) back (sym split) (λ none. absurd cc) ws up (subst (λ ps. AreDealt workunits ps ws) with are);
          }
