-- The marks of a world's workunits, beside the changes of its tables.
use Rattle.wu_schema.proofs.Words.{AllByRecursion, Database, Greater, Equal, Less, List, Ordering, Refines, Workunit, World, [], ap, arith, filter-map, flat_map, get_or, length, map, not, refl, subst, suc, sym, take, zero, ℕ, ◌++◌, ◌+◌, ◌<◌, ◌==◌, ◌∙◌, ◌∷◌, ◌≡◌}
use Rattle.std.proofs.lemmas.List.{take_more}
use Rattle.std.specs.Cmp.{nat_cmp_is}
use Rattle.std.specs.Ordering.{nat_cmp, match_ordering}
use Rattle.wu_core.specs.declared.marks.Marks.{Marks}
use Rattle.wu_rules.specs.Marks.{marks}
use Rattle.wu_schema.specs.Queue.{HasQueue}
use Rattle.wu_store.specs.Changes.{HasNumber, placed, with_placed, with_replaced, without_workunit}
use Rattle.wu_store.specs.Queues.{ChangesQueue, KeepsQueue, at_place, with_marks, without_marks}
use Rattle.wu_store.specs.StandsFor.{IsQueued, StandsFor, marked}
use Rattle.wu_store.proofs.PlacedLemmas.{Rises, replaced_is}

-- the number of a workunit, with its marks
abbrev pub tagged : Workunit → ℕ × Marks
tagged w = (w.number, marks w)

-- alone
abbrev pub marks_row : Workunit → List (ℕ × Marks)
marks_row w = tagged w ∷ []

pub marks_rows : (ws : List Workunit) → flat_map marks_row ws ≡ map tagged ws
marks_rows [] = refl
marks_rows (w ∷ ws) = ap (λ ps. tagged w ∷ ps) (marks_rows ws)

abbrev by_number : ℕ × Marks → ℕ
by_number p = p.0

-- ---- a workunit at its place, and one that goes

placed_tagged : (w : Workunit) (ws : List Workunit) → at_place by_number (tagged w) (map tagged ws) ≡ map tagged (placed w ws)
placed_tagged w [] = refl
placed_tagged w (v ∷ vs) = go (placed_tagged w vs) (nat_cmp v.number w.number)
  where
    go : at_place by_number (tagged w) (map tagged vs) ≡ map tagged (placed w vs) → (o : Ordering)
        → match_ordering o (tagged v ∷ at_place by_number (tagged w) (map tagged vs)) (tagged w ∷ map tagged vs) (tagged w ∷ tagged v ∷ map tagged vs) ≡ map tagged (match_ordering o (v ∷ placed w vs) (w ∷ vs) (w ∷ v ∷ vs))
    go again Less = ap (λ ps. tagged v ∷ ps) again
    go again Equal = refl
    go again Greater = refl

pub marked_placed : (w : Workunit) (world : World) → with_marks w.number (marks w) (marked world) ≡ marked (with_placed w world)
marked_placed w world = placed_tagged w world.workunits

pub marked_without : (n : ℕ) (world : World) → without_marks n (marked world) ≡ marked (without_workunit n world)
marked_without n world = filter-map (λ (p : ℕ × Marks). not (p.0 == n)) tagged world.workunits

-- deleted, with its marks
pub stands_without : (old new : Database) (world : World) (n : ℕ) → StandsFor old world → ((w : World) → Refines old w → Refines new (without_workunit n w)) → ChangesQueue (without_marks n) old new → StandsFor new (without_workunit n world)
stands_without old new world n stands deletes goes = record {
  refines = deletes world stands.refines;
  queue = λ queued. subst (HasQueue new) (marked_without n world) (goes world (marked world) stands.refines (stands.queue queued));
}

-- deleted, and then put at its place
pub stands_replaced : (old new : Database) (world : World) (w : Workunit) → Refines old world → HasNumber w.number world.workunits → StandsFor new (with_placed w (without_workunit w.number world)) → StandsFor new (with_replaced w world)
stands_replaced old new world w s there stands = subst (StandsFor new) (replaced_is old world s w there) stands

-- ---- a table that is filled in order

module _ {X : Type 0} (of : Workunit → X) where
  abbrev with_number : Workunit → ℕ × X
  with_number w = (w.number, of w)

  last_in_place : (ps : List (ℕ × X)) (one : ℕ × X) → AllByRecursion (λ (p : ℕ × X). p.0 < one.0) ps → at_place (λ (p : ℕ × X). p.0) one ps ≡ ps ++ one ∷ []
  last_in_place [] one low = refl
  last_in_place (p ∷ ps) one low = let less : nat_cmp p.0 one.0 ≡ Less = sym (nat_cmp_is p.0 one.0 Less low.0) in rw less (ap (λ l. p ∷ l) (last_in_place ps one low.1))

  all_below : (n : ℕ) (ws : List Workunit) → AllByRecursion (λ (u : Workunit). n < u.number) ws → (k : ℕ) (d : ℕ × X) → k < length (map with_number ws) → n < (get_or (map with_number ws) k d).0
  all_below n [] up k d low = absurd (omega (arith, low))
  all_below n (u ∷ us) up zero d low = up.0
  all_below n (u ∷ us) up (suc k) d low = all_below n us up.1 k d (omega (arith, low))

  below : (ws : List Workunit) → Rises ws → (i : ℕ) (d : ℕ × X) → i < length (map with_number ws) → AllByRecursion (λ (p : ℕ × X). p.0 < (get_or (map with_number ws) i d).0) (take i (map with_number ws))
  below [] up i d low = absurd (omega (arith, low))
  below (v ∷ vs) up zero d low = tt
  below (v ∷ vs) up (suc k) d low = (all_below v.number vs up.0 k d (omega (arith, low)), below vs up.1 k d (omega (arith, low)))

  -- the next row comes behind those that are there
  pub filled_more : (ws : List Workunit) → Rises ws → (i : ℕ) (d one : ℕ × X) → i < length (map with_number ws) → get_or (map with_number ws) i d ≡ one → at_place (λ (p : ℕ × X). p.0) one (take i (map with_number ws)) ≡ take (i + 1) (map with_number ws)
  filled_more ws up i d one low at =
      ap (λ (p : ℕ × X). at_place (λ (q : ℕ × X). q.0) p (take i (map with_number ws))) (sym at) ∙ last_in_place (take i (map with_number ws)) (get_or (map with_number ws) i d) (below ws up i d low) ∙ sym (take_more (map with_number ws) i d low)

-- ---- what leaves the workunits

pub stands_kept : (old new : Database) (world after : World) → StandsFor old world → (IsQueued after → IsQueued world) → marked after ≡ marked world → Refines new after → KeepsQueue old new → StandsFor new after
stands_kept old new world after stands version same refines keeps = record {
  refines = refines;
  queue = λ queued. subst (HasQueue new) (sym same) (keeps world (marked world) stands.refines (stands.queue (version queued)));
}
