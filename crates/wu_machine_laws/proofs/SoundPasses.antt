-- A pass keeps a sound world sound.
use Rattle.std.proofs.Common.{◌≡◌, ℕ, zero, suc, ◌<◌, ◌≤◌, ◌==◌, Bool, true, false, List, [], ◌∷◌, ◌++◌, get_or, length, take, Option, Some, None, refl, sym, ap, subst, ◌∙◌, inl, inr, arith}
use Rattle.std.proofs.lemmas.Bool.{cases_Bool, eq-eqb, ne_eqb}
use Rattle.std.proofs.lemmas.List.Elements.{All-cons, All-filter, All-head, All-nil, All-tail, All-take, All-weaker}
use Rattle.std.proofs.lemmas.List.Folds.{list_any_none}
use Rattle.std.proofs.lemmas.Option.{get_or_from_slice_get, slice_get_within}
use Rattle.std.specs.List.{list_all, All, filter, flat_map}
use Rattle.std.specs.Option.{option_map_or}
use Rattle.std.specs.Prelude.{◌+◌, ◌&&◌, nat_le, ◌||◌, if◌then◌else◌, option_to_list, slice_get}
use Rattle.wu_core.specs.Formed.{IsWorkunit}
use Rattle.wu_core.specs.Limits.{class_version, last_moment, longest_output}
use Rattle.wu_core.specs.World.{World}
use Rattle.wu_core.specs.declared.workunit.Grant.{Grant}
use Rattle.wu_core.specs.declared.workunit.Instance.{Instance}
use Rattle.wu_core.specs.declared.workunit.Workunit.{Workunit}
use Rattle.wu_rules.specs.Assimilation.{archived, archived_row, canonical_output, is_purgeable, is_spent}
use Rattle.wu_rules.specs.Instances.{is_deleted_file, is_done_assimilate, is_ready_assimilate}
use Rattle.wu_rules.specs.Consistent.{IsConsistent, is_done, Rewrites}
use Rattle.wu_rules_laws.proofs.Rewriting.{rewrites_unchanged, rules_rewrite}
use Rattle.wu_rules.specs.Due.{changes, chosen}
use Rattle.wu_core.specs.Storable.{IsStoredArchived, IsStoredInstance, IsStorable}
use Rattle.wu_rules.specs.declared.due.Pass.{Pass}
use Rattle.wu_rules.specs.declared.due.Pass.TheVariants.{Transition, Validate, Assimilate, Delete, Purge}
use Rattle.wu_machine.specs.Machine.{is_limit_right, step}
use Rattle.wu_machine.specs.Passes.{archives, granted, images, is_among, passed}
use Rattle.wu_machine.specs.Sound.{IsProject, IsSound}
use Rattle.wu_machine.specs.Requests.{AskPass}
use Rattle.wu_machine.proofs.PassKeeps.{keeps_project_pass}
use Rattle.wu_machine.proofs.ImageLemmas.{gives_nothing}
use Rattle.wu_machine_laws.proofs.Becoming.{Becomes, sound_changed}
use Rattle.wu_machine_laws.proofs.Lasts.{Leads}
use Rattle.wu_machine_laws.proofs.Middles.{of_each, Pairs, to_pairs}
use Rattle.wu_machine_laws.proofs.Results.{either}
use Rattle.wu_machine_laws.proofs.SoundLemmas.{project_now, now_of}
use Rattle.wu_machine_laws.proofs.SoundParts.{Ordered}

-- ---- what is given for those that are taken

-- numbers ascend
abbrev Rising : List Workunit → Type 0
Rising = Pairs Ordered

-- one before all that are taken is not among them
none_among : (ts : List Workunit) (w : Workunit) → All (λ (t : Workunit). w.number < t.number) ts → is_among ts w ≡ false
none_among ts w low =
    list_any_none (λ (t : Workunit). t.number == w.number) ts
    (All-weaker (λ (t : Workunit). w.number < t.number) (λ (t : Workunit). (t.number == w.number) ≡ false)
    (λ t less. ne_eqb t.number w.number (λ same. absurd (omega (arith, less, same)))) ts low)

module _ {Y : Type 0} (f : Workunit → List Y) where
  -- what one gives, where these are taken
  abbrev picked : List Workunit → Workunit → List Y
  picked ts w = if is_among ts w then f w else []

  -- so it gives nothing
  none_picked : (ts : List Workunit) (w : Workunit) → All (λ (t : Workunit). w.number < t.number) ts → picked ts w ≡ []
  none_picked ts w low = let off : is_among ts w ≡ false = none_among ts w low in rw off refl

  -- the first gives its own
  first_picked : (w : Workunit) (ts : List Workunit) → picked (w ∷ ts) w ≡ f w
  first_picked w ts = let is : (w.number == w.number) ≡ true = eq-eqb w.number w.number refl in rw is refl

  -- those behind the first give what they gave without it
  behind_picked : (w : Workunit) (ts us : List Workunit) → All (λ (u : Workunit). w.number < u.number) us → flat_map (picked (w ∷ ts)) us ≡ flat_map
      (picked ts) us
  behind_picked w ts [] low = refl
  behind_picked w ts (u ∷ us) low =
      let less = All-head (λ (v : Workunit). w.number < v.number) u us low in
      let off : (w.number == u.number) ≡ false = ne_eqb w.number u.number (λ same. absurd (omega (arith, less, same))) in
      let here : picked (w ∷ ts) u ≡ picked ts u = ap (λ b. if b || is_among ts u then f u else []) off in
      ap (λ l. l ++ flat_map (picked (w ∷ ts)) us) here ∙ ap (λ l. picked ts u ++ l)
      (behind_picked w ts us (All-tail (λ (v : Workunit). w.number < v.number) u us low))

  -- what all give is what those that are taken give
  pub all_picked : (p : Workunit → Bool) (ws : List Workunit) (limit : ℕ) → Rising ws → flat_map (picked (take limit (filter p ws))) ws ≡ flat_map f
      (take limit (filter p ws))
  all_picked p [] zero up = refl
  all_picked p [] (suc n) up = refl
  all_picked p (w ∷ ws) zero up = gives_nothing (picked []) (w ∷ ws) (λ u. refl)
  all_picked p (w ∷ ws) (suc n) up = by (p w) (all_picked p ws n up.1) (all_picked p ws (suc n) up.1)
    where
      by : (b : Bool) → flat_map (picked (take n (filter p ws))) ws ≡ flat_map f (take n (filter p ws)) → flat_map (picked (take (suc n) (filter p ws)))
          ws ≡ flat_map f (take (suc n) (filter p ws))
          → flat_map (picked (take (suc n) (if b then w ∷ filter p ws else filter p ws))) (w ∷ ws) ≡ flat_map f
          (take (suc n) (if b then w ∷ filter p ws else filter p ws))
      by true less more =
          let ts = take n (filter p ws) in
          ap (λ l. l ++ flat_map (picked (w ∷ ts)) ws) (first_picked w ts) ∙ ap (λ l. f w ++ l) (behind_picked w ts ws up.0 ∙ less)
      by false less more =
          let ts = take (suc n) (filter p ws) in
          ap (λ l. l ++ flat_map (picked ts) ws) (none_picked ts w (All-take (λ (t : Workunit). w.number < t.number) (suc n) (filter p ws)
          (All-filter p (λ (t : Workunit). w.number < t.number) ws up.0))) ∙ more

-- among those that are taken are only such as the test passes
pub among_passed : (p : Workunit → Bool) (ws : List Workunit) (limit : ℕ) → Rising ws → All (λ w. is_among (take limit (filter p ws)) w ≡ true → p w ≡ true) ws
among_passed p [] limit up = All-nil (λ w. is_among (take limit (filter p [])) w ≡ true → p w ≡ true)
among_passed p (w ∷ ws) zero up = λ k d low among. let never : false ≡ true = among in cc
among_passed p (w ∷ ws) (suc n) up = elim (cases_Bool (p w)) [
  | inl is ↦
      rw is (All-cons (λ u. is_among (w ∷ take n (filter p ws)) u ≡ true → p u ≡ true) w ws (λ among. is) (λ k d low among.
      let less = up.0 k d low in
      let off : (w.number == (get_or ws k d).number) ≡ false = ne_eqb w.number (get_or ws k d).number (λ same. absurd (omega (arith, less, same))) in
      among_passed p ws n up.1 k d low (rw off at among)))
  | inr not ↦
      rw not (All-cons (λ u. is_among (take (suc n) (filter p ws)) u ≡ true → p u ≡ true) w ws (λ among.
      let off = none_among (take (suc n) (filter p ws)) w (All-take (λ (t : Workunit). w.number < t.number) (suc n) (filter p ws)
      (All-filter p (λ (t : Workunit). w.number < t.number) ws up.0)) in
      let both : true ≡ false = sym among ∙ off in
      cc) (among_passed p ws (suc n) up.1))
]

-- ---- what is archived can be read

-- the canonical output is as short as each output
output_short : (w : Workunit) → IsStorable w → length (canonical_output w) ≤ longest_output
output_short w storable = by w.canonical
  where
    at : (n : ℕ) (found : Option Instance) → slice_get w.instances n ≡ found → length (option_map_or (λ (i : Instance). i.output) found []) ≤ longest_output
    at n (Some i) is =
        let kept : IsStoredInstance i = subst IsStoredInstance (get_or_from_slice_get w.instances n i i is)
        (storable.instances.each n i (slice_get_within w.instances n i is)) in
        kept.values.output
    at n None is = omega arith

    by : (place : Option ℕ) → length (option_map_or (λ (n : ℕ). option_map_or (λ (i : Instance). i.output) (slice_get w.instances n) []) place
        []) ≤ longest_output
    by (Some n) = at n (slice_get w.instances n) refl
    by None = omega arith

-- so is what is archived at a moment in range
archived_stored : (w : Workunit) (now : ℕ) → now ≤ last_moment → IsStorable w → All IsStoredArchived (option_to_list (archived w now))
unfolding archived
archived_stored w now low storable =
    either (λ row. All IsStoredArchived (option_to_list row)) (is_ready_assimilate w.assimilate) _ _ (λ ready.
    All-cons IsStoredArchived (archived_row w now) []
    (record { name = storable.row.name; canonical = storable.row.canonical; output = output_short w storable; done_at = low }) (All-nil IsStoredArchived))
    (λ other. All-nil IsStoredArchived)

-- a workunit that may be purged is DONE
purged_done : (w : Workunit) (now min_age : ℕ) → is_purgeable w now min_age ≡ true → is_done w ≡ true
unfolding is_purgeable
purged_done w now min_age is = by (is_done_assimilate w.assimilate) is
  where
    by : (b : Bool) → (b && is_deleted_file w.file_delete && list_all is_spent w.instances && option_map_or (λ done_at. nat_le (done_at + min_age) now)
        w.done_at false) ≡ true → b ≡ true
    by true all = refl
    by false all = all

-- ---- a pass

-- one that is rewritten, and of which nothing is archived
rewritten : (w v : Workunit) (gs : List Grant) → Rewrites w v gs [] → All IsStorable (v ∷ []) → Becomes w (v ∷ []) gs []
rewritten w v gs rewrites stored = (rewrites, All-head IsStorable v [] stored, All-nil IsStoredArchived)

module _ (pass : Pass) (now limit min_age : ℕ) (low : now ≤ last_moment) where
  -- what a pass that changes a workunit makes of it
  image_becomes : (w : Workunit) → IsWorkunit w → IsConsistent w → IsStorable w → (p : Pass) → changes p now min_age w ≡ true
      → All IsStorable (images p now w) → Becomes w (images p now w) (granted p w) (archives p now w)
  image_becomes w formed consistent storable Transition is stored = rewritten w _ _ ((rules_rewrite w formed consistent).transitioned now) stored
  image_becomes w formed consistent storable Validate is stored = rewritten w _ _ (rules_rewrite w formed consistent).validated stored
  image_becomes w formed consistent storable Assimilate is stored = (
    (rules_rewrite w formed consistent).assimilated now,
    All-head IsStorable _ [] stored,
    archived_stored w now low storable,
  )
  image_becomes w formed consistent storable Delete is stored = rewritten w _ _ (rules_rewrite w formed consistent).emptied stored
  image_becomes w formed consistent storable Purge is stored = (refl, refl, purged_done w now min_age is)

  module _ (world : World) (sound : IsSound world) (young : class_version ≤ world.version) (right : is_limit_right pass limit min_age ≡ true) where
    -- those that are taken
    abbrev taken : List Workunit
    taken = chosen pass now min_age limit world

    -- what the pass makes of a workunit, which it may not have taken
    abbrev change : Workunit → List Workunit
    change w = if is_among taken w then images pass now w else w ∷ []

    -- what the pass leaves of the world at the present version
    project : IsProject (passed pass now min_age limit (now_of world))
    project =
        let kept : IsProject (step (now_of world) (AskPass pass now limit min_age)) = keeps_project_pass (now_of world) (project_now world sound) pass now
        limit min_age low in
        rw right at kept

    -- what it leaves of each workunit can be read
    stored : All (λ w. All IsStorable (change w)) world.workunits
    stored = of_each IsStorable change world.workunits project.storable

    -- what becomes of a workunit, whether it is taken or not
    becomes : (w : Workunit) → IsWorkunit w → IsConsistent w → IsStorable w → (is_among taken w ≡ true → changes pass now min_age w ≡ true)
        → All IsStorable (change w) → Becomes w (change w) (picked (granted pass) taken w) (picked (archives pass now) taken w)
    becomes w formed consistent storable due kept = by (is_among taken w) due kept
      where
        by : (b : Bool) → (b ≡ true → changes pass now min_age w ≡ true) → All IsStorable (if b then images pass now w else w ∷ [])
            → Becomes w (if b then images pass now w else w ∷ []) (if b then granted pass w else []) (if b then archives pass now w else [])
        by true is images_kept = image_becomes w formed consistent storable pass (is refl) images_kept
        by false is w_kept = rewritten w w [] (rewrites_unchanged w formed consistent) w_kept

    -- a pass leads to a sound world
    pub sound_passed : Leads world (passed pass now min_age limit world)
    sound_passed =
        let up = to_pairs Ordered world.workunits sound.ascending in
        let p = changes pass now min_age in
        rw (all_picked (granted pass) p world.workunits limit up, all_picked (archives pass now) p world.workunits limit up) at
        (sound_changed world young change (picked (granted pass) taken) (picked (archives pass now) taken) sound (λ k d within.
        becomes _ (sound.formed k d within) (sound.consistent k d within) (sound.storable k d within)
        (among_passed p world.workunits limit up k d within) (stored k d within)))
