-- Rows of a file, one by one: what they leave of the touched workunits is what they leave of the world.
use Rattle.std.proofs.Common.{◌≡◌, ℕ, ◌==◌, true, false, List, [], ◌∷◌, ◌++◌, map, bytes_eq, if◌then◌else◌, is_some, Option, Some, None, IfSome, Result, Ok, Err, OnOk, refl, sym, ap, subst, ◌∙◌, inl, inr}
use Rattle.std.proofs.lemmas.Bool.{cases_Bool}
use Rattle.std.proofs.lemmas.Slice.Eq.{bytes_eq-Decides}
use Rattle.std.specs.Option.{option_map, option_map_or}
use Rattle.wu_core.specs.declared.workunit.HostClass.{HostClass}
use Rattle.wu_core.specs.declared.workunit.Workunit.{Workunit}
use Rattle.wu_core.specs.declared.fault.Fault.{Fault}
use Rattle.wu_core.specs.World.{World}
use Rattle.wu_store.proofs.WorldOnce.{NamesOnce}
use Rattle.wu_machine.specs.FileRows.{KeepsIdentity, Rule, left_by, unknown}
use Rattle.wu_plans.specs.declared.touched.Touch.{Touch}
use Rattle.wu_plans.specs.Touched.{AreImages, HasAlso, IsLeft, IsTouched, LeavesBy, as_left, rule_in, touched_by, touched_named, untouched, with_touched}
use Rattle.wu_machine.specs.Worlds.{workunit_named, with_named}
use Rattle.wu_plans.proofs.TouchedLemmas.{IsWith, after_found, changed_if, found_touched, found_unknown, images_by_row, images_loaded, left_by_row, loaded, loaded_found, more_left, now_of, touch_found}

-- ---- a workunit is among the touched, if it is present

pub touched_has : (world : World) (ts : List Touch) (name : List ℕ) → is_some (touched_named ts name) ≡ true → AreImages world ts → IsTouched name world ts ts
touched_has world ts name has images = go (touched_named ts name) refl
  where
    go : (o : Option Touch) → touched_named ts name ≡ o → IsTouched name world ts ts
    go None is = absurd (let no = ap is_some (sym is) ∙ has in cc)
    go (Some t) is = record { images = images; left = refl; found = ap (option_map (λ (t : Touch). t.now)) is ∙ sym (found_touched world ts name t is images) }

pub not_touched : (ts : List Touch) (name : List ℕ) → is_some (touched_named ts name) ≡ false → touched_named ts name ≡ None
not_touched ts name has = go (touched_named ts name) refl
  where
    go : (o : Option Touch) → touched_named ts name ≡ o → touched_named ts name ≡ None
    go None is = is
    go (Some w) is = absurd (let no = ap is_some (sym is) ∙ has in cc)

pub touched_none : (world : World) (ts : List Touch) (name : List ℕ) → touched_named ts name ≡ None → workunit_named world name ≡ None → AreImages world ts → IsTouched name world ts ts
touched_none world ts name new none images = record { images = images; left = refl; found = ap (option_map (λ (t : Touch). t.now)) new ∙ sym (found_unknown world ts name none) }

pub touched_more : (world : World) → NamesOnce world → (ts more : List Touch) (name : List ℕ) (w : Workunit) → workunit_named world name ≡ Some w → touched_named ts name ≡ None → HasAlso w ts more
    → AreImages world ts → IsTouched name world ts more
touched_more world once ts more name w present new also images =
    let all = images_loaded world once ts more name w present new also images in
    let here = loaded_found world once ts more name w present new also in
    record { images = all; left = loaded world once ts more name w present new also; found = ap (option_map (λ (t : Touch). t.now)) here ∙ sym (found_touched world more name (untouched w) here all) }

-- with Ok it was taken in
pub taken_in : {T : Type 0} → (world : World) → NamesOnce world → (ts more : List Touch) (name : List ℕ) (w : Workunit) → workunit_named world name ≡ Some w → touched_named ts name ≡ None → AreImages world ts
    → (r : Result T Fault) → OnOk r (HasAlso w ts more) → OnOk r (IsTouched name world ts more)
taken_in world once ts more name w present new images (Ok it) also = touched_more world once ts more name w present new also images
taken_in world once ts more name w present new images (Err fault) also = tt

-- ---- a row

-- looked up by name they are as they were
same_left : (world : World) (ts after : List Touch) → ((name : List ℕ) → touched_named after name ≡ touched_named ts name) → with_touched after world ≡ with_touched ts world
same_left world ts after same = ap (λ ws. record world { workunits = ws }) (each world.workunits)
  where
    each : (ws : List Workunit) → map (as_left after) ws ≡ map (as_left ts) ws
    each [] = refl
    each (w ∷ ws) = (λ i. now_of (same w.name i) w ∷ each ws i)

module _ {Row : Type 0} (rule : Rule Row) (world : World) (ts after : List Touch) (rows : List Row) (row : Row) (verdicts : List ℕ) (verdict : ℕ)
    (before : IsLeft rule rows world ts verdicts) (found : option_map (λ (t : Touch). t.now) (touched_named ts (rule.workunit row)) ≡ workunit_named (with_touched ts world) (rule.workunit row))
    (left : LeavesBy rule row verdict ts after) where
  abbrev name : List ℕ
  name = rule.workunit row

  row_unknown : touched_named ts name ≡ None → verdict ≡ unknown → IsLeft rule (rows ++ row ∷ []) world after (verdicts ++ verdict ∷ [])
  row_unknown none is =
      let it = after_found rule (with_touched ts world) row None (sym found ∙ ap (option_map (λ (t : Touch). t.now)) none) in
      more_left rule world ts after rows row verdicts verdict before (λ n w has. before.images n w (sym (same n) ∙ has)) (same_left world ts after same ∙ sym it.1) (is ∙ sym it.0)
    where
      same : (n : List ℕ) → touched_named after n ≡ touched_named ts n
      same n = left n ∙ elim (cases_Bool (bytes_eq name n)) [
        | inl on ↦
            let gone : touched_named ts n ≡ None = subst (λ (bytes : List ℕ). touched_named ts bytes ≡ None) ((bytes_eq-Decides name n).0 on) none in
            rw (on, gone) refl
        | inr off ↦ rw off refl
      ]

  row_known : (t : Touch) → touched_named ts name ≡ Some t → verdict ≡ rule.verdict row t.now → KeepsIdentity t.now (left_by rule row verdict t.now) → IsLeft rule (rows ++ row ∷ []) world after (verdicts ++ verdict ∷ [])
  row_known t there is keeps =
      let it = after_found rule (with_touched ts world) row (Some t.now) (sym found ∙ ap (option_map (λ (t : Touch). t.now)) there) in
      let now = left_by_row world ts after name t (left_by rule row verdict t.now) there before.images keeps.name keeps.number with_it (left_by rule row verdict) refl in
      more_left rule world ts after rows row verdicts verdict before (images_by_row world ts after name t (left_by rule row verdict t.now) there before.images keeps.name keeps.number with_it)
      (now ∙ changed_if (verdict == 0) (with_touched ts world) name (rule.image row)
      ∙ ap (λ (v : ℕ). if v == 0 then with_named (with_touched ts world) name (rule.image row) else with_touched ts world) is ∙ sym it.1) (is ∙ sym it.0)
    where
      with_it : IsWith ts t.now.name (touched_by rule row verdict t) after
      with_it n = left n ∙ elim (cases_Bool (bytes_eq name n)) [
        | inl on ↦
            let here : touched_named ts n ≡ Some t = subst (λ (bytes : List ℕ). touched_named ts bytes ≡ Some t) ((bytes_eq-Decides name n).0 on) there in
            let own : bytes_eq t.now.name n ≡ true = ap (λ bytes. bytes_eq bytes n) (touch_found ts name t there) ∙ on in
            rw (on, here, own) refl
        | inr off ↦
            let apart : bytes_eq t.now.name n ≡ false = ap (λ bytes. bytes_eq bytes n) (touch_found ts name t there) ∙ off in
            rw (off, apart) refl
      ]

  -- the verdict on the row, where one of its name was touched or none was
  abbrev pub verdict_of : Option Touch → ℕ
  verdict_of o = option_map_or (λ (t : Touch). rule.verdict row t.now) o unknown

  -- what it makes of one that was touched has its name and number
  abbrev pub Keeps : Option Touch → Type 0
  Keeps o = IfSome o (λ (t : Touch). KeepsIdentity t.now (left_by rule row verdict t.now))

  pub row_left : verdict ≡ verdict_of (touched_named ts name) → Keeps (touched_named ts name) → IsLeft rule (rows ++ row ∷ []) world after (verdicts ++ verdict ∷ [])
  row_left told keeps = go (touched_named ts name) refl
    where
      go : (o : Option Touch) → touched_named ts name ≡ o → IsLeft rule (rows ++ row ∷ []) world after (verdicts ++ verdict ∷ [])
      go None is = row_unknown is (told ∙ ap verdict_of is)
      go (Some t) is = row_known t is (told ∙ ap verdict_of is) (subst Keeps is keeps)

-- the same after the workunit was touched
pub left_touched : {Row : Type 0} → (rule : Rule Row) (rows : List Row) (world : World) (n : List ℕ) (old new : List Touch) (verdicts : List ℕ) → IsLeft rule rows world old verdicts → IsTouched n world old new
    → IsLeft rule rows world new verdicts
left_touched rule rows world n old new verdicts before at = record { images = at.images; left = at.left ∙ before.left; told = before.told }

-- a row was applied or skipped by the class on which its verdict depends, so by the classes of the world
pub row_applied : {Row : Type 0} → (rule : ℕ → Rule Row) (class_in : List HostClass → Row → ℕ) (world : World) (old ts after : List Touch) (rows : List Row) (row : Row) (verdicts : List ℕ) (verdict class : ℕ)
    → class ≡ class_in world.classes row → IsLeft (rule_in rule class_in world.classes) rows world old verdicts → IsTouched ((rule class).workunit row) world old ts
    → LeavesBy (rule class) row verdict ts after → verdict ≡ option_map_or (λ (t : Touch). (rule class).verdict row t.now) (touched_named ts ((rule class).workunit row)) unknown
    → IfSome (touched_named ts ((rule class).workunit row)) (λ (t : Touch). KeepsIdentity t.now (left_by (rule class) row verdict t.now))
    → IsLeft (rule_in rule class_in world.classes) (rows ++ row ∷ []) world after (verdicts ++ verdict ∷ [])
row_applied {Row} rule class_in world old ts after rows row verdicts verdict class is before at left told keeps =
    let here : IsTouched ((rule (class_in world.classes row)).workunit row) world old ts = subst (λ k. IsTouched ((rule k).workunit row) world old ts) is at in
    row_left (rule_in rule class_in world.classes) world ts after rows row verdicts verdict
    (left_touched (rule_in rule class_in world.classes) rows world ((rule (class_in world.classes row)).workunit row) old ts verdicts before here) here.found
    (subst (λ k. LeavesBy (rule k) row verdict ts after) is left)
    (subst (λ k. verdict ≡ option_map_or (λ (t : Touch). (rule k).verdict row t.now) (touched_named ts ((rule k).workunit row)) unknown) is told)
    (subst (λ k. IfSome (touched_named ts ((rule k).workunit row)) (λ (t : Touch). KeepsIdentity t.now (left_by (rule k) row verdict t.now))) is keeps)
