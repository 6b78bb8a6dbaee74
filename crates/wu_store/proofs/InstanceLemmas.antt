-- The rows of instances, by the workunit that they are of.
use Rattle.wu_schema.proofs.Words.{Binary, Bool, Has, HoldsAll, Instance, IsPermutation, IsPermutation-filter, IsShaped-filter, List, Row, Workunit, [], all_from, ap, cases_Bool, column, cond, drop, enumerate_from, equal, false, filter, filter-map, filter_all, filter_none, flat_map, has_mapped, inl, inr, instance_cells, instances_of, map, number, refl, subst, sym, true, ℕ, ◌++◌, ◌==◌, ◌∙◌, ◌∷◌, ◌≡◌}
use Rattle.std.proofs.lemmas.List.Elements.{filter-append}
use Rattle.sqlite_trees.specs.declared.store.Shape.TheVariants as shape
use Rattle.wu_store.proofs.EqualLemmas.{number_equal}
use Rattle.wu_schema.proofs.RowLemmas.{filter_same}

-- kept are the instances of some workunits, by a test of their numbers
module _ (fits : Row → Bool) (keeps : ℕ → Bool) (tested : (w n : ℕ) (i : Instance) → fits (instance_cells w n i) ≡ keeps w) where
  -- of one workunit's instances all are kept, or none
  instances_kept : (w k : ℕ) (is : List Instance)
      → filter fits (map (λ (p : ℕ × Instance). instance_cells w p.0 p.1) (enumerate_from k is)) ≡ cond (keeps w) (map (λ (p : ℕ × Instance). instance_cells w p.0 p.1) (enumerate_from k is)) []
  instances_kept w k is =
      let among : (r : Row) → Has (map (λ (p : ℕ × Instance). instance_cells w p.0 p.1) (enumerate_from k is)) r → fits r ≡ keeps w = λ r has.
      let it = has_mapped (λ (p : ℕ × Instance). instance_cells w p.0 p.1) (enumerate_from k is) r has in ap fits it.2 ∙ tested w it.0.0 it.0.1 in
      elim (cases_Bool (keeps w)) [
        | inl on ↦ rw on (filter_all fits _ (all_from (λ r. fits r ≡ true) _ (λ r has. among r has ∙ on)))
        | inr off ↦ rw off (filter_none fits _ (all_from (λ r. fits r ≡ false) _ (λ r has. among r has ∙ off)))
      ]

  pub instances_among : (ws : List Workunit) → filter fits (flat_map instances_of ws) ≡ flat_map instances_of (filter (λ (w : Workunit). keeps w.number) ws)
  instances_among [] = refl
  instances_among (w ∷ ws) =
      filter-append fits (instances_of w) (flat_map instances_of ws) ∙ ap (λ front. front ++ filter fits (flat_map instances_of ws)) (instances_kept w.number 0 w.instances)
      ∙ ap (λ back. cond (keeps w.number) (instances_of w) [] ++ back) (instances_among ws) ∙ go (keeps w.number)
    where
      go : (b : Bool) → (cond b (instances_of w) [] ++ flat_map instances_of (filter (λ (v : Workunit). keeps v.number) ws)) ≡ flat_map instances_of (cond b (w ∷ filter (λ (v : Workunit). keeps v.number) ws) (filter (λ (v : Workunit). keeps v.number) ws))
      go true = refl
      go false = refl

-- those of the workunit of a number, or all others
module _ (n : ℕ) (keeps : Bool → Bool) where
  abbrev pub fits : Row → Bool
  fits cells = keeps (equal Binary (column cells 0) (number n))

  pub instances_left : (ws : List Workunit) → filter fits (flat_map instances_of ws) ≡ flat_map instances_of (filter (λ (w : Workunit). keeps (w.number == n)) ws)
  instances_left = instances_among fits (λ w. keeps (w == n)) (λ w k i. ap keeps (number_equal w n))

  -- behind the rowid
  pub cells_left : (rows : List Row) → map (drop 1) (filter (λ r. keeps (equal Binary (column r 1) (number n))) rows) ≡ filter fits (map (drop 1) rows)
  cells_left rows = ap (map (drop 1)) (filter_same _ _ rows (λ r has. behind r)) ∙ sym (filter-map fits (drop 1) rows)
    where
      behind : (r : Row) → keeps (equal Binary (column r 1) (number n)) ≡ fits (drop 1 r)
      behind [] = refl
      behind (v ∷ r) = refl

  -- of the rows that hold the instances those are left
  pub instances_hold : (ws : List Workunit) (rows : List Row) → HoldsAll rows (flat_map instances_of ws)
      → HoldsAll (filter (λ r. keeps (equal Binary (column r 1) (number n))) rows) (flat_map instances_of (filter (λ (w : Workunit). keeps (w.number == n)) ws))
  instances_hold ws rows held = record {
    shaped = IsShaped-filter shape.Table _ rows held.shaped;
    same = subst (λ cells. IsPermutation cells (map (drop 1) (filter (λ r. keeps (equal Binary (column r 1) (number n))) rows))) (instances_left ws)
        (subst (IsPermutation (filter fits (flat_map instances_of ws))) (sym (cells_left rows)) (IsPermutation-filter fits (flat_map instances_of ws) (map (drop 1) rows) held.same));
  }
