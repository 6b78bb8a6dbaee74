-- The workunits that rows are those of.
use Rattle.wu_schema.proofs.Words.{AllByRecursion, Equal, Instance, IsAscending, IsPermutation, IsPermutation-map, IsPermutation-sym, IsPermutation-trans, IsSorted, Less, List, Ordering, Row, Workunit, [], all_from, ap, arith, column, enumerate_from, flat_map, has_mapped, instance_cells, instances_of, length, map, map-map, on_total, refl, subst, sym, workunit_row, ℕ, ◌+◌, ◌<◌, ◌∙◌, ◌∷◌, ◌≡◌, ◌≤◌}
use Rattle.wu_store.specs.Loading.{classless}
use Rattle.wu_store.specs.Changes.{without_instances}
use Rattle.std.specs.Prelude.{All}
use Rattle.std.specs.Cmp.{IsTotalOrder}
use Rattle.std.specs.Ordering.{nat_cmp, on, ordering_then, then_cmp}
use Rattle.std.proofs.lemmas.Bool.Decides.{nat_tests}
use Rattle.std.proofs.lemmas.Cmp.{nat_cmp_total, then_total}
use Rattle.std.proofs.lemmas.List.Elements.{All-from_recursion, recursion_from_All}
use Rattle.sqlite_trees.proofs.ListLemmas.{all-append, all-map, all_weaker, ascending-append, ascending-map, flat_map-map, flat_map_same_on, map-flat_map}
use Rattle.wu_core.specs.Limits.{most_instances}
use Rattle.wu_core.specs.Storable.{bare, IsStorable, IsStoredInstance, IsStoredWorkunit}
use Rattle.wu_store.proofs.SameWorld.{read_number, same_workunit}
use Rattle.wu_loader.specs.Dealing.{by_place, placed_of, AreDealt}
use Rattle.wu_loader.specs.Rows.{placed_row, IsStoredPlaced}
use Rattle.wu_loader.specs.Whole.{rows_of, IsNoRow}
use Rattle.wu_loader.specs.Worlds.{AreRowsOfWorks, IsOrdered}
use Rattle.wu_loader.specs.declared.rows.Placed.{Placed}
use Rattle.wu_loader.proofs.RowLemmas.{one_placed}
use Rattle.wu_loader.proofs.OrderLemmas.{sorted_are}
use Rattle.wu_loader.proofs.WholeLemmas.{no_rows, none_permuted, rows_plain}

-- ---- rows of instances and instances with their places

pub flat_rows : (ws : List Workunit) → flat_map instances_of ws ≡ map placed_row (flat_map placed_of ws)
flat_rows ws =
    let placed : ℕ → ℕ × Instance → Placed = λ w p. record { workunit = w; n = p.0; instance = p.1 } in
    sym (map-flat_map placed_row placed_of ws ∙ flat_map_same_on (λ w. map placed_row (placed_of w)) instances_of (λ w. map-map placed_row (placed w.number) (enumerate_from 0 w.instances)) ws)

-- rows of instances by the same order
abbrev by_row : Row → Row → Ordering
by_row = then_cmp (on (λ (r : Row). read_number (column r 0)) nat_cmp) (on (λ (r : Row). read_number (column r 1)) nat_cmp)

by_row_total : IsTotalOrder by_row
by_row_total = then_total (on_total (λ (r : Row). read_number (column r 0)) nat_cmp_total) (on_total (λ (r : Row). read_number (column r 1)) nat_cmp_total)

less_is : (m n : ℕ) → m < n → nat_cmp m n ≡ Less
less_is m n low = grind (arith, nat_tests, low)

nat_cmp_same : (n : ℕ) → nat_cmp n n ≡ Equal
nat_cmp_same n = grind (arith, nat_tests)

abbrev Rise : Row → Row → Type 0
Rise a b = by_row a b ≡ Less

rise_number : (w n m : ℕ) (i j : Instance) → n < m → Rise (instance_cells w n i) (instance_cells w m j)
rise_number w n m i j low = ap (λ o. ordering_then o (nat_cmp n m)) (nat_cmp_same w) ∙ less_is n m low

rise_workunit : (v w n m : ℕ) (i j : Instance) → v < w → Rise (instance_cells v n i) (instance_cells w m j)
rise_workunit v w n m i j low = ap (λ o. ordering_then o (nat_cmp n m)) (less_is v w low)

-- the instances of a workunit rise
rise_above : (w n m : ℕ) (i : Instance) (is : List Instance) → n < m → AllByRecursion (Rise (instance_cells w n i)) (map (λ (p : ℕ × Instance). instance_cells w p.0 p.1) (enumerate_from m is))
rise_above w n m i [] low = tt
rise_above w n m i (j ∷ is) low = (rise_number w n m i j low, rise_above w n (m + 1) i is (omega (arith, low)))

rise_within : (w n : ℕ) (is : List Instance) → IsAscending Rise (map (λ (p : ℕ × Instance). instance_cells w p.0 p.1) (enumerate_from n is))
rise_within w n [] = tt
rise_within w n (i ∷ is) = (rise_above w n (n + 1) i is (omega arith), rise_within w (n + 1) is)

-- a row of a workunit is below those of later ones
rise_over : (w n : ℕ) (i : Instance) (ws : List Workunit) → AllByRecursion (λ (u : Workunit). w < u.number) ws → AllByRecursion (Rise (instance_cells w n i)) (flat_map instances_of ws)
rise_over w n i [] above = tt
rise_over w n i (u ∷ us) above =
    all-append (Rise (instance_cells w n i)) (instances_of u) (flat_map instances_of us)
    (all_from (Rise (instance_cells w n i)) (instances_of u) (λ row has.
    let it = has_mapped (λ (p : ℕ × Instance). instance_cells u.number p.0 p.1) (enumerate_from 0 u.instances) row has in
    subst (Rise (instance_cells w n i)) (sym it.2) (rise_workunit w u.number n it.0.0 i it.0.1 above.0)))
    (rise_over w n i us above.1)

rise_all : (ws : List Workunit) → IsOrdered ws → IsAscending Rise (flat_map instances_of ws)
rise_all [] up = tt
rise_all (w ∷ ws) up = ascending-append Rise (instances_of w) (flat_map instances_of ws) (rise_within w.number 0 w.instances) (rise_all ws up.1) (all_from _ (instances_of w) (λ row has.
    let it = has_mapped (λ (p : ℕ × Instance). instance_cells w.number p.0 p.1) (enumerate_from 0 w.instances) row has in
    subst (λ r. AllByRecursion (Rise r) (flat_map instances_of ws)) (sym it.2) (rise_over w.number it.0.0 it.0.1 ws up.0)))

-- ---- workunits by their rows

same_bares : (vs ws : List Workunit) → map workunit_row vs ≡ map workunit_row ws → map bare vs ≡ map bare ws
same_bares [] [] same = refl
same_bares [] (w ∷ ws) same = absurd cc
same_bares (v ∷ vs) [] same = absurd cc
same_bares (v ∷ vs) (w ∷ ws) same =
    let first : workunit_row v ≡ workunit_row w = cc in
    let rest : map workunit_row vs ≡ map workunit_row ws = cc in
    (λ i. bare (same_workunit v w first i) ∷ same_bares vs ws rest i)

bare_rows : (ws : List Workunit) → map workunit_row (map bare ws) ≡ map workunit_row ws
bare_rows ws = map-map workunit_row bare ws

lone_rows : (ws : List Workunit) → map workunit_row (map without_instances ws) ≡ map workunit_row ws
lone_rows ws = map-map workunit_row without_instances ws

-- ---- without their classes

placed_unclassed : (ws : List Workunit) → flat_map placed_of (map classless ws) ≡ flat_map placed_of ws
placed_unclassed = flat_map-map placed_of classless

pub ordered_unclassed : (ws : List Workunit) → IsOrdered ws → IsOrdered (map classless ws)
ordered_unclassed = ascending-map (λ (one other : Workunit). one.number < other.number) classless

few_unclassed : (ws : List Workunit) → AllByRecursion IsStorable ws → AllByRecursion (λ (w : Workunit). length w.instances ≤ most_instances) (map classless ws)
few_unclassed [] all = tt
few_unclassed (w ∷ ws) all = (all.0.instances.few, few_unclassed ws all.1)

lone_bares : (bares : List Workunit) → AllByRecursion IsStoredWorkunit bares → map without_instances bares ≡ map bare bares
lone_bares [] all = refl
lone_bares (w ∷ ws) all = λ i. record (without_instances w) { class = all.0.classless i } ∷ lone_bares ws all.1 i

-- ---- the workunits of the rows

module _ (rows instances : List Row) (bares : List Workunit) (workunits_are : rows ≡ rows_of (λ _. workunit_row) bares) where
  abbrev bare_is : rows ≡ map workunit_row bares
  bare_is = workunits_are ∙ rows_plain workunit_row bares

  module _ (placed sorted : List Placed) (instances_are : instances ≡ rows_of (λ _. placed_row) placed) (moved : IsPermutation placed sorted) where
    abbrev placed_is : instances ≡ map placed_row placed
    placed_is = instances_are ∙ rows_plain placed_row placed

    pub works_are : (dealt : List Workunit) → AreDealt bares sorted dealt → AreRowsOfWorks rows instances dealt
    works_are dealt are = record {
      workunits_are = bare_is ∙ sym (lone_rows bares) ∙ ap (map workunit_row) (sym are.bare) ∙ lone_rows dealt;
      instances_are =
          subst (λ rs. IsPermutation rs instances) (ap (map placed_row) (sym are.all) ∙ sym (flat_rows dealt))
          (subst (IsPermutation (map placed_row sorted)) (sym placed_is) (IsPermutation-map placed_row sorted placed (IsPermutation-sym placed sorted moved)));
    }

    -- no others are dealt so, their classes aside
    pub works_dealt : All IsStoredWorkunit bares → IsSorted by_place sorted → (ws : List Workunit) → IsOrdered ws → All IsStorable ws → AreRowsOfWorks rows instances ws → AreDealt bares sorted (map classless ws)
    works_dealt each up ws ordered storable are = record {
      bare = map-map without_instances classless ws ∙ same_bares ws bares (sym are.workunits_are ∙ bare_is) ∙ sym (lone_bares bares (recursion_from_All IsStoredWorkunit bares each));
      all = placed_unclassed ws ∙ sym same;
      few = All-from_recursion (λ (w : Workunit). length w.instances ≤ most_instances) (map classless ws) (few_unclassed ws (recursion_from_All IsStorable ws storable));
    }
      where
        same : sorted ≡ flat_map placed_of ws
        same = sorted_are by_place placed_row by_row by_row_total (λ a b. refl) one_placed (flat_map placed_of ws) sorted (subst (IsAscending Rise) (flat_rows ws) (rise_all ws ordered)) up
            (IsPermutation-trans _ _ _ (subst (λ rs. IsPermutation rs (map placed_row placed)) (flat_rows ws) (subst (IsPermutation (flat_map instances_of ws)) placed_is are.instances_are)) (IsPermutation-map placed_row placed sorted moved))

-- ---- where a row is that of none

pub never_works : (rows instances : List Row) (place : ℕ) → IsNoRow (λ _. workunit_row) IsStoredWorkunit rows place → (ws : List Workunit) → IsOrdered ws → All IsStorable ws → ¬ AreRowsOfWorks rows instances ws
never_works rows instances place none ws ordered storable are =
    let bares = all-map IsStoredWorkunit bare ws (all_weaker IsStorable (λ w. IsStoredWorkunit (bare w)) (λ w is. is.row) ws (recursion_from_All IsStorable ws storable)) in
    no_rows (λ _. workunit_row) IsStoredWorkunit rows place none (map bare ws) (All-from_recursion IsStoredWorkunit (map bare ws) bares) (are.workunits_are ∙ sym (bare_rows ws) ∙ sym (rows_plain workunit_row (map bare ws)))

pub never_placed : (rows instances : List Row) (place : ℕ) → IsNoRow (λ _. placed_row) IsStoredPlaced instances place → (ws : List Workunit) → IsOrdered ws → All IsStorable ws → ¬ AreRowsOfWorks rows instances ws
never_placed rows instances place none ws ordered storable are =
    none_permuted placed_row IsStoredPlaced instances place none (flat_map placed_of ws) (All-from_recursion IsStoredPlaced (flat_map placed_of ws) (each_placed ws (recursion_from_All IsStorable ws storable))) (subst (λ rs. IsPermutation rs instances) (flat_rows ws) are.instances_are)
  where
    within : (w n : ℕ) (is : List Instance) → AllByRecursion IsStoredInstance is → AllByRecursion IsStoredPlaced (map (λ (p : ℕ × Instance). record { workunit = w; n = p.0; instance = p.1 }) (enumerate_from n is))
    within w n [] each = tt
    within w n (i ∷ is) each = (each.0, within w (n + 1) is each.1)

    each_placed : (ws : List Workunit) → AllByRecursion IsStorable ws → AllByRecursion IsStoredPlaced (flat_map placed_of ws)
    each_placed [] each = tt
    each_placed (w ∷ ws) each = all-append IsStoredPlaced (placed_of w) (flat_map placed_of ws) (within w.number 0 w.instances (recursion_from_All IsStoredInstance w.instances each.0.instances.each)) (each_placed ws each.1)
