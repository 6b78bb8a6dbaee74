-- No workunit goes but by a purge that is due, and what is purged is gone.
use Rattle.std.proofs.Common.{◌≡◌, ◌≢◌, ◌⊎◌, ℕ, ◌==◌, Bool, true, false, List, [], ◌∷◌, ◌++◌, map, get_or, refl, sym, ap, subst, ◌∙◌, inl, inr, eqb-true, eq-eqb}
use Rattle.std.proofs.lemmas.Bool.{cases_Bool, or_left}
use Rattle.std.proofs.lemmas.List.{map-append}
use Rattle.std.proofs.lemmas.List.Folds.{list_any-append, list_any_at}
use Rattle.std.proofs.lemmas.Map.Views.{any-filter_same}
use Rattle.std.specs.List.{All, filter, flat_map, list_any}
use Rattle.std.specs.Prelude.{◌&&◌, ◌||◌, not, if◌then◌else◌}
use Rattle.wu_core.specs.World.{World, IsInOrder}
use Rattle.wu_core.specs.declared.workunit.Workunit.{Workunit}
use Rattle.wu_rules.specs.Assimilation.{is_purgeable}
use Rattle.wu_rules.specs.Due.{changes, chosen}
use Rattle.wu_rules.specs.declared.due.Pass.{Pass}
use Rattle.wu_rules.specs.declared.due.Pass.TheVariants.{Transition, Validate, Assimilate, Delete, Purge}
use Rattle.wu_machine.specs.Machine.{step}
use Rattle.wu_machine.specs.Passes.{images, is_among, passed}
use Rattle.wu_machine.specs.Requests.{Request, AskBatch, AskCancel, AskClasses, AskPass, AskReported, AskSent, AskUpgrade}
use Rattle.wu_machine.proofs.ImageLemmas.{assimilated_of, emptied_of, transitioned_of, validated_of}
use Rattle.wu_machine_laws.specs.Leaving.{GoesByPurgeAlone, PurgedIsGone, TakesAway}
use Rattle.wu_machine_laws.proofs.LeavingLaws.{leaves_others, reported_numbers, sent_numbers}
use Rattle.wu_machine_laws.proofs.Middles.{to_pairs}
use Rattle.wu_machine_laws.proofs.Results.{asked, pass_by}
use Rattle.wu_machine_laws.proofs.SoundPasses.{among_passed}
use Rattle.wu_machine_laws.proofs.SoundParts.{Ordered}

-- ---- numbers

numbers_of : List Workunit → List ℕ
numbers_of ws = map (λ w. w.number) ws

has : List ℕ → ℕ → Bool
has numbers n = list_any (λ k. k == n) numbers

-- a workunit is among others where its number is among theirs
among_is : (ws : List Workunit) (w : Workunit) → is_among ws w ≡ has (numbers_of ws) w.number
unfolding has numbers_of
among_is [] w = refl
among_is (v ∷ ws) w = ap (λ b. (v.number == w.number) || b) (among_is ws w)

-- each is among all
among_all : (ws : List Workunit) → All (λ w. is_among ws w ≡ true) ws
among_all ws k d low = list_any_at (λ (one : Workunit). one.number == (get_or ws k d).number) ws k d low (eq-eqb (get_or ws k d).number (get_or ws k d).number refl)

-- each is among those that have the same numbers
kept_numbers : (ws vs : List Workunit) → numbers_of vs ≡ numbers_of ws → All (λ w. is_among vs w ≡ true) ws
kept_numbers ws vs same k d low =
    let w = get_or ws k d in
    among_is vs w ∙ (ap (λ numbers. has numbers w.number) same ∙ (sym (among_is ws w) ∙ among_all ws k d low))

-- and among those with more behind them
kept_behind : (ws more : List Workunit) → All (λ w. is_among (ws ++ more) w ≡ true) ws
kept_behind ws more k d low =
    let w = get_or ws k d in
    list_any-append (λ (one : Workunit). one.number == w.number) ws more ∙ or_left (is_among ws w) (is_among more w) (among_all ws k d low)

-- ---- a pass that is no purge

-- what is left of a workunit has its number
image_number : (pass : Pass) → pass ≢ Purge → (now : ℕ) (b : Bool) (w : Workunit) → numbers_of (if b then images pass now w else w ∷ []) ≡ w.number ∷ []
unfolding numbers_of
image_number pass other now false w = refl
image_number Transition other now true w = ap (λ n. n ∷ []) (transitioned_of now w).0
image_number Validate other now true w = ap (λ n. n ∷ []) (validated_of w).0
image_number Assimilate other now true w = ap (λ n. n ∷ []) (assimilated_of now w).0
image_number Delete other now true w = ap (λ n. n ∷ []) (emptied_of w).0
image_number Purge other now true w = absurd (other refl)

numbers_passed : (pass : Pass) → pass ≢ Purge → (now : ℕ) (taken ws : List Workunit)
    → numbers_of (flat_map (λ w. if is_among taken w then images pass now w else w ∷ []) ws) ≡ numbers_of ws
unfolding numbers_of
numbers_passed pass other now taken [] = refl
numbers_passed pass other now taken (w ∷ ws) =
    map-append (λ (v : Workunit). v.number) (if is_among taken w then images pass now w else w ∷ []) (flat_map (λ v. if is_among taken v then images pass now v else v ∷ []) ws)
    ∙ (ap (λ l. l ++ numbers_of (flat_map (λ v. if is_among taken v then images pass now v else v ∷ []) ws)) (image_number pass other now (is_among taken w) w)
    ∙ ap (λ l. w.number ∷ l) (numbers_passed pass other now taken ws))

-- ---- a purge

-- what is left where these are taken out
left_is : (taken ws : List Workunit) → flat_map (λ w. if is_among taken w then [] else w ∷ []) ws ≡ filter (λ w. not (is_among taken w)) ws
left_is taken [] = refl
left_is taken (w ∷ ws) = elim (cases_Bool (is_among taken w)) [
  | inl is ↦ rw is (left_is taken ws)
  | inr off ↦ rw off (ap (λ l. w ∷ l) (left_is taken ws))
]

-- among them is what was there and is not taken
left_among : (taken ws : List Workunit) (w : Workunit)
    → is_among (flat_map (λ v. if is_among taken v then [] else v ∷ []) ws) w ≡ (not (is_among taken w) && is_among ws w)
left_among taken ws w =
    ap (λ vs. is_among vs w) (left_is taken ws)
    ∙ any-filter_same (λ one. one.number == w.number) (λ v. not (is_among taken v)) (not (is_among taken w))
    (λ v is. ap (λ n. not (list_any (λ (t : Workunit). t.number == n) taken)) (eqb-true v.number w.number is)) ws

-- where workunits are in order, what is taken may be purged
purged_or_left : (world : World) (now min_age limit : ℕ) → IsInOrder world
    → All (λ w. (is_among (passed Purge now min_age limit world).workunits w ≡ true) ⊎ (is_purgeable w now min_age ≡ true)) world.workunits
purged_or_left world now min_age limit order k d low =
    let ws = world.workunits in
    let taken = chosen Purge now min_age limit world in
    elim (cases_Bool (is_among taken (get_or ws k d))) [
      | inl is ↦ inr (among_passed (changes Purge now min_age) ws limit (to_pairs Ordered ws order) k d low is)
      | inr off ↦
          let there : (not (is_among taken (get_or ws k d)) && is_among ws (get_or ws k d)) ≡ true = rw off (among_all ws k d low) in
          inl (left_among taken ws (get_or ws k d) ∙ there)
    ]

-- ---- the law

-- what is present is kept, or taken out
abbrev Kept : World → Request → World → Type 0
Kept world request after = All (λ w. (is_among after.workunits w ≡ true) ⊎ TakesAway request w) world.workunits

kept_all : (world : World) (request : Request) (after : World) → All (λ w. is_among after.workunits w ≡ true) world.workunits → Kept world request after
kept_all world request after all k d low = inl (all k d low)

kept_same : (world : World) (request : Request) (after : World) → map (λ w. w.number) after.workunits ≡ map (λ w. w.number) world.workunits → Kept world request after
unfolding numbers_of
kept_same world request after same = kept_all world request after (kept_numbers world.workunits after.workunits same)

pass_kept : (world : World) (pass : Pass) (now limit min_age : ℕ) → IsInOrder world
    → Kept world (AskPass pass now limit min_age) (passed pass now min_age limit world)
unfolding numbers_of
pass_kept world pass now limit min_age order = by pass
  where
    by_numbers : (p : Pass) → p ≢ Purge → Kept world (AskPass p now limit min_age) (passed p now min_age limit world)
    by_numbers p other = kept_same world (AskPass p now limit min_age) (passed p now min_age limit world) (numbers_passed p other now (chosen p now min_age limit world) world.workunits)

    by : (p : Pass) → Kept world (AskPass p now limit min_age) (passed p now min_age limit world)
    by Transition = by_numbers Transition (λ e. cc)
    by Validate = by_numbers Validate (λ e. cc)
    by Assimilate = by_numbers Assimilate (λ e. cc)
    by Delete = by_numbers Delete (λ e. cc)
    by Purge = purged_or_left world now min_age limit order

pub goes_by_purge : GoesByPurgeAlone
goes_by_purge world (AskBatch name template file) order =
    let behind = (leaves_others world).batch name template file in
    kept_all world (AskBatch name template file) (step world (AskBatch name template file))
    (subst (λ vs. All (λ w. is_among vs w ≡ true) world.workunits) (sym behind.1) (kept_behind world.workunits behind.0))
goes_by_purge world (AskSent name file) order = kept_same world (AskSent name file) (step world (AskSent name file)) (sent_numbers world name file)
goes_by_purge world (AskReported name file) order = kept_same world (AskReported name file) (step world (AskReported name file)) (reported_numbers world name file)
goes_by_purge world (AskClasses name file) order =
    kept_same world (AskClasses name file) (step world (AskClasses name file)) (ap (map (λ w. w.number)) ((leaves_others world).classed name file))
goes_by_purge world (AskPass pass now limit min_age) order =
    let Is = Kept world (AskPass pass now limit min_age) in
    let same = kept_same world (AskPass pass now limit min_age) world refl in
    asked Is world same (AskPass pass now limit min_age) (λ younger. pass_by Is world same pass now limit min_age
    (λ right. pass_kept world pass now limit min_age order))
goes_by_purge world (AskCancel name) order = kept_same world (AskCancel name) (step world (AskCancel name)) ((leaves_others world).cancelled name).numbers
goes_by_purge world AskUpgrade order = kept_same world AskUpgrade (step world AskUpgrade) (ap (map (λ w. w.number)) (leaves_others world).upgraded)

-- ---- what is purged

pub purged_is_gone : PurgedIsGone
purged_is_gone now min_age limit world k d low =
    let taken = chosen Purge now min_age limit world in
    let is : is_among taken (get_or taken k d) ≡ true = among_all taken k d low in
    left_among taken world.workunits (get_or taken k d) ∙ rw is refl
