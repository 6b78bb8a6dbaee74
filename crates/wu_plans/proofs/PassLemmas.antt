-- What the changes of a pass make of a world is what the pass makes of it.
use Rattle.std.proofs.Common.{◌≡◌, ℕ, false, ◌<◌, ◌==◌, if◌then◌else◌, List, [], ◌∷◌, ◌++◌, map, refl, sym, ap, subst, ◌∙◌}
use Rattle.std.proofs.lemmas.Bool.{eq-eqb}
use Rattle.std.specs.List.{AllByRecursion, filter, flat_map}
use Rattle.std.specs.Prelude.{find, not, Some}
use Rattle.sqlite.specs.Effect.{Database}
use Rattle.wu_core.specs.declared.workunit.Archived.{Archived}
use Rattle.wu_core.specs.declared.workunit.Grant.{Grant}
use Rattle.wu_core.specs.declared.workunit.Workunit.{Workunit}
use Rattle.wu_core.specs.World.{World}
use Rattle.wu_schema.specs.Refines.{Refines}
use Rattle.wu_store.specs.Changes.{IsNextPlace, with_replaced, without_workunit}
use Rattle.wu_store.specs.Changing.{AreRight, archived_from, KeepsGrants, made_all}
use Rattle.wu_store.specs.StandsFor.{KnowsClasses}
use Rattle.wu_rules.specs.Due.{changes, chosen}
use Rattle.wu_store.specs.declared.changes.Change.{Change}
use Rattle.wu_store.specs.declared.changes.Change.TheVariants.{Remove, Replace}
use Rattle.wu_rules.specs.declared.due.Pass.{Pass}
use Rattle.wu_rules.specs.declared.due.Pass.TheVariants.{Purge}
use Rattle.wu_store.proofs.ChangingLemmas.{archived_made, archived_right, grants_made, grants_right}
use Rattle.wu_store.proofs.PlacedLemmas.{Rises, is_other, replaced, world_rises}
use Rattle.wu_machine.specs.Passes.{archives, granted, images, passed}
use Rattle.wu_plans.proofs.TouchedLemmas.{ChangesTo, made_append, others_found, right_append}
use Rattle.wu_machine.proofs.ImageLemmas.{Above, IsPart, none, taken, left, apart, first_ones, leaves, leaves_left, leaves_more, leaves_taken, part_all}

-- each is found there by its number
abbrev pub Have : List Workunit → List Workunit → Type 0
Have ws = AllByRecursion (λ (w : Workunit). find (λ (v : Workunit). v.number == w.number) ws ≡ Some w)

own_numbers : (ws : List Workunit) → Rises ws → Have ws ws
own_numbers [] up = tt
own_numbers (w ∷ ws) up = (rw (eq-eqb w.number w.number refl) refl, behind w ws ws up.0 (own_numbers ws up.1))
  where
    behind : (w : Workunit) (ts ws : List Workunit) → Above w.number ts → Have ws ts → Have (w ∷ ws) ts
    behind w [] ws above has = tt
    behind w (t ∷ ts) ws above has = let off = apart w.number t.number above.0 in (rw off.0 has.0, behind w ts ws above.1 has.1)

-- ---- one workunit after another, each found by its number

abbrev all_steps : (Workunit → List Workunit → List Workunit) → List Workunit → List Workunit → List Workunit
all_steps step [] ws = ws
all_steps step (t ∷ ts) ws = all_steps step ts (step t ws)

-- a step leaves images in the place of one workunit, and the others as they are
module _ (step : Workunit → List Workunit → List Workunit) (image : Workunit → List Workunit) (ends : (t : Workunit) → step t [] ≡ [])
    (keeps : (t w : Workunit) (ws : List Workunit) → (w.number == t.number) ≡ false → step t (w ∷ ws) ≡ w ∷ step t ws)
    (takes : (t : Workunit) (ws : List Workunit) → step t (t ∷ ws) ≡ image t ++ step t ws) (numbers : (t : Workunit) → AllByRecursion (λ (v : Workunit). v.number ≡ t.number) (image t)) where
  steps_below : (w : Workunit) (ts ws : List Workunit) → Above w.number ts → all_steps step ts (w ∷ ws) ≡ w ∷ all_steps step ts ws
  steps_below w [] ws above = refl
  steps_below w (t ∷ ts) ws above = ap (all_steps step ts) (keeps t w ws (apart w.number t.number above.0).0) ∙ steps_below w ts (step t ws) above.1

  step_above : (t : Workunit) (ws : List Workunit) → Above t.number ws → step t ws ≡ ws
  step_above t [] above = ends t
  step_above t (w ∷ ws) above = keeps t w ws (apart t.number w.number above.0).1 ∙ ap (λ l. w ∷ l) (step_above t ws above.1)

  steps_over : (n : ℕ) (is ts ws : List Workunit) → AllByRecursion (λ (v : Workunit). v.number ≡ n) is → Above n ts → all_steps step ts (is ++ ws) ≡ is ++ all_steps step ts ws
  steps_over n [] ts ws same above = refl
  steps_over n (i ∷ is) ts ws same above = steps_below i ts (is ++ ws) (subst (λ m. Above m ts) (sym same.0) above) ∙ ap (λ l. i ∷ l) (steps_over n is ts ws same.1 above)

  pub steps_part : {ts ws : List Workunit} → IsPart ts ws → Rises ws → all_steps step ts ws ≡ flat_map (leaves image ts) ws
  steps_part none up = refl
  steps_part (taken {w} {ts} {ws} part) up =
      ap (all_steps step ts) (takes w ws ∙ ap (λ l. image w ++ l) (step_above w ws up.0))
      ∙ steps_over w.number (image w) ts ws (numbers w) (part_all (λ v. w.number < v.number) part up.0)
      ∙ ap (λ l. image w ++ l) (steps_part part up.1 ∙ sym (leaves_more image w ts ws up.0))
      ∙ ap (λ l. l ++ flat_map (leaves image (w ∷ ts)) ws) (sym (leaves_taken image w ts))
  steps_part (left {w} {ts} {ws} part) up =
      let above = part_all (λ v. w.number < v.number) part up.0 in
      steps_below w ts ws above
      ∙ ap (λ l. w ∷ l) (steps_part part up.1)
      ∙ ap (λ l. l ++ flat_map (leaves image ts) ws) (sym (leaves_left image w ts above))

-- ---- images in the places of workunits

-- each in place of the one of its number
abbrev pub replacements : (Workunit → Workunit) → List Workunit → List Change
replacements image ts = map (λ w. Replace w (image w)) ts

module _ (image : Workunit → Workunit) (numbers : (w : Workunit) → (image w).number ≡ w.number) where
  abbrev put : Workunit → List Workunit → List Workunit
  put t ws = replaced (image t) ws

  made_put : (ts : List Workunit) (world : World) → made_all (replacements image ts) world ≡ record world { workunits = all_steps put ts world.workunits }
  made_put [] world = refl
  made_put (t ∷ ts) world = made_put ts (with_replaced (image t) world)

  put_part : {ts ws : List Workunit} → IsPart ts ws → Rises ws → all_steps put ts ws ≡ flat_map (leaves (λ w. image w ∷ []) ts) ws
  put_part = steps_part put (λ w. image w ∷ []) (λ t. refl)
      (λ t w ws off. ap (λ b. (if b then image t else w) ∷ put t ws) (ap (λ n. w.number == n) (numbers t) ∙ off))
      (λ t ws. ap (λ b. (if b then image t else t) ∷ put t ws) (eq-eqb t.number (image t).number (sym (numbers t)))) (λ t. (numbers t, tt))

  -- the others stay
  still_have : (t : Workunit) (ts ws : List Workunit) → Above t.number ts → Have ws ts → Have (replaced (image t) ws) ts
  still_have t [] ws above has = tt
  still_have t (v ∷ ts) ws above has =
      let off = apart t.number v.number above.0 in
      (others_found (image t) v.number ws (ap (λ n. n == v.number) (numbers t) ∙ off.0) ∙ has.0, still_have t ts ws above.1 has.1)

  right_put : (ts : List Workunit) (world : World) → KnowsClasses world → Rises ts → Have world.workunits ts → AreRight (replacements image ts) world
  right_put [] world classed up has = tt
  right_put (t ∷ ts) world classed up has = (
    (classed, subst (λ n. find (λ (v : Workunit). v.number == n) world.workunits ≡ Some t) (sym (numbers t)) has.0),
    right_put ts (with_replaced (image t) world) classed up.1 (still_have t ts world.workunits up.0 has.1),
  )

-- some of a list whose numbers rise
part_rises : {ts ws : List Workunit} → IsPart ts ws → Rises ws → Rises ts
part_rises none up = tt
part_rises (taken {w} part) up = (part_all (λ v. w.number < v.number) part up.0, part_rises part up.1)
part_rises (left part) up = part_rises part up.1

-- ---- workunits taken out

abbrev cut : Workunit → List Workunit → List Workunit
cut t ws = filter (is_other t.number) ws

made_cut : (ts : List Workunit) (world : World) → made_all (map (λ (w : Workunit). Remove w.number) ts) world ≡ record world { workunits = all_steps cut ts world.workunits }
made_cut [] world = refl
made_cut (t ∷ ts) world = made_cut ts (without_workunit t.number world)

right_cut : (ts : List Workunit) (world : World) → AreRight (map (λ (w : Workunit). Remove w.number) ts) world
right_cut [] world = tt
right_cut (t ∷ ts) world = (tt, right_cut ts (without_workunit t.number world))

cut_part : {ts ws : List Workunit} → IsPart ts ws → Rises ws → all_steps cut ts ws ≡ flat_map (leaves (λ w. []) ts) ws
cut_part = steps_part cut (λ w. []) (λ t. refl)
    (λ t w ws off. ap (λ b. if not b then w ∷ cut t ws else cut t ws) off)
    (λ t ws. ap (λ b. if not b then t ∷ cut t ws else cut t ws) (eq-eqb t.number t.number refl)) (λ t. tt)

-- ---- what a pass makes of a world that tables stand for

-- each taken out
abbrev pub removals : List Workunit → List Change
removals ts = map (λ (w : Workunit). Remove w.number) ts

module _ (db : Database) (world : World) (stands : Refines db world) (pass : Pass) (now min_age limit : ℕ) where
  chosen_part : IsPart (chosen pass now min_age limit world) world.workunits
  chosen_part = first_ones (changes pass now min_age) world.workunits limit

  -- where a workunit leaves an image of its number, that takes its place
  pub pass_replaces : (image : Workunit → Workunit) → ((w : Workunit) → (image w).number ≡ w.number) → ((w : Workunit) → images pass now w ≡ image w ∷ [])
      → ChangesTo (replacements image (chosen pass now min_age limit world)) world (record world { workunits = (passed pass now min_age limit world).workunits })
  pass_replaces image numbers is = (
    made_put image numbers (chosen pass now min_age limit world) world
        ∙ ap (λ ws. record world { workunits = ws }) (put_part image numbers chosen_part up)
        ∙ (λ i. record world { workunits = flat_map (leaves (λ w. sym (is w) i) (chosen pass now min_age limit world)) world.workunits }),
    λ classed. right_put image numbers (chosen pass now min_age limit world) world classed (part_rises chosen_part up)
        (part_all (λ w. find (λ (v : Workunit). v.number == w.number) world.workunits ≡ Some w) chosen_part (own_numbers world.workunits up)),
  )
    where
      up : Rises world.workunits
      up = world_rises db world stands

-- a purge takes each chosen workunit out
pub purge_removes : (db : Database) (world : World) → Refines db world → (now min_age limit : ℕ) → ChangesTo (removals (chosen Purge now min_age limit world)) world (record world { workunits = (passed Purge now min_age limit world).workunits })
purge_removes db world stands now min_age limit = (
  made_cut (chosen Purge now min_age limit world) world
      ∙ ap (λ ws. record world { workunits = ws }) (cut_part (chosen_part db world stands Purge now min_age limit) (world_rises db world stands)),
  λ classed. right_cut (chosen Purge now min_age limit world) world,
)

-- ---- and then its grants and its archived rows

-- what a pass grants, and what it archives
abbrev pub pass_grants : Pass → ℕ → ℕ → ℕ → World → List Grant
pass_grants pass now min_age limit world = flat_map (granted pass) (chosen pass now min_age limit world)

abbrev pub pass_rows : Pass → ℕ → ℕ → ℕ → World → List Archived
pass_rows pass now min_age limit world = flat_map (archives pass now) (chosen pass now min_age limit world)

-- changes, and then those that keep what a pass grants, and what it archives at places from this one on
abbrev pub and_given : Pass → ℕ → ℕ → ℕ → World → List Change → ℕ → List Change → List Change
and_given pass now min_age limit world given row_place first = first ++ given ++ archived_from row_place (pass_rows pass now min_age limit world)

-- where the first changes make the pass's workunits, all make what the pass makes
module _ (world : World) (pass : Pass) (now min_age limit : ℕ) (given : List Change) (row_place : ℕ) (keeps : KeepsGrants world.grants (pass_grants pass now min_age limit world) given) (first : List Change)
    (makes : ChangesTo first world (record world { workunits = (passed pass now min_age limit world).workunits })) where
  abbrev with_images : World
  with_images = record world { workunits = (passed pass now min_age limit world).workunits }

  abbrev with_granted : World
  with_granted = record with_images { grants = world.grants ++ pass_grants pass now min_age limit world }

  abbrev rows : List Change
  rows = archived_from row_place (pass_rows pass now min_age limit world)

  grants_follow : made_all (first ++ given) world ≡ with_granted
  grants_follow = made_append first given world ∙ ap (made_all given) makes.0 ∙ grants_made world.grants (pass_grants pass now min_age limit world) given with_images keeps

  pub pass_made : IsNextPlace row_place world.archived → ChangesTo (and_given pass now min_age limit world given row_place first) world (passed pass now min_age limit world)
  pass_made row_next = (
    made_append (first ++ given) rows world ∙ ap (made_all rows) grants_follow ∙ archived_made row_place (pass_rows pass now min_age limit world) with_granted,
    λ classed. right_append (first ++ given) rows world
        (right_append first given world (makes.1 classed) (subst (AreRight given) (sym makes.0) (grants_right (pass_grants pass now min_age limit world) given with_images keeps)))
        (subst (AreRight rows) (sym grants_follow) (archived_right row_place (pass_rows pass now min_age limit world) with_granted row_next)),
  )
