-- Workunits that rows of a file spoke of: which are found, and what the world is with them as they were left.
use Rattle.std.proofs.Common.{◌≡◌, ◌≢◌, ℕ, suc, ◌<◌, ◌≤◌, ◌==◌, Bool, true, false, List, [], ◌∷◌, ◌++◌, length, map, Option, Some, None, refl, sym, ap, subst, ◌∙◌, inl, inr, arith, get_or, option_map}
use Rattle.std.proofs.lemmas.Bool.{cases_Bool, eq-eqb, eqb-true, false_from_ne_true}
use Rattle.std.proofs.lemmas.Bool.Decides.{Decides-like, same_from_decides}
use Rattle.std.proofs.lemmas.List.{length-map, map-id}
use Rattle.std.proofs.lemmas.Slice.Eq.{bytes_eq-Decides}
use Rattle.wu_schema.proofs.Words.{filter-map}
use Rattle.std.specs.List.{filter}
use Rattle.std.specs.Option.{option_map_or}
use Rattle.std.specs.Prelude.{◌&&◌, find, bytes_eq, if◌then◌else◌}
use Rattle.wu_core.specs.World.{World}
use Rattle.wu_core.specs.declared.workunit.Workunit.{Workunit}
use Rattle.wu_store.specs.Changes.{with_replaced}
use Rattle.wu_store.specs.Answers.{numbered}
use Rattle.wu_store.specs.Changing.{AreRight, IsRight, made, made_all}
use Rattle.wu_store.specs.StandsFor.{KnowsClasses}
use Rattle.wu_store.specs.declared.changes.Change.{Change}
use Rattle.wu_machine.specs.FileRows.{Rule, after_row, after_rows, row_verdict, row_verdicts, unknown}
use Rattle.wu_plans.specs.declared.touched.Touch.{Touch}
use Rattle.wu_plans.specs.Touched.{AreDistinct, AreImages, IsImage, IsLeft, as_left, replaces, touched_named, untouched, with_touched}
use Rattle.wu_machine.specs.Worlds.{with_named, workunit_named}
use Rattle.wu_store.proofs.WorldOnce.{NamesOnce, NumbersOnce}

-- ---- names

same_name : (a b : List ℕ) → bytes_eq a b ≡ true → a ≡ b
same_name a b is = (bytes_eq-Decides a b).0 is

own_name : (a : List ℕ) → bytes_eq a a ≡ true
own_name a = (bytes_eq-Decides a a).1 refl

other_name : (a b : List ℕ) → a ≢ b → bytes_eq a b ≡ false
other_name a b apart = false_from_ne_true _ (λ is. apart (same_name a b is))

pub name_back : (a b : List ℕ) → bytes_eq a b ≡ bytes_eq b a
name_back a b = same_from_decides _ _ (bytes_eq-Decides a b) (Decides-like (bytes_eq b a) (λ same. sym same) (λ same. sym same) (bytes_eq-Decides b a))

-- what is found passes the test
pub find_passes : {X : Type 0} (p : X → Bool) (xs : List X) (x : X) → find p xs ≡ Some x → p x ≡ true
find_passes p [] x found = absurd cc
find_passes p (y ∷ ys) x found = elim (cases_Bool (p y)) [
  | inl is ↦ let same : Some y ≡ Some x = subst (λ b. (if b then Some y else find p ys) ≡ Some x) is found in let it : y ≡ x = cc in subst (λ z. p z ≡ true) it is
  | inr not ↦ find_passes p ys x (subst (λ b. (if b then Some y else find p ys) ≡ Some x) not found)
]

-- so it has the name that was looked for
pub named_found : {T : Type 0} (named : T → List ℕ) (ts : List T) (n : List ℕ) (t : T) → find (λ v. bytes_eq (named v) n) ts ≡ Some t → named t ≡ n
named_found named ts n t found = same_name (named t) n (find_passes (λ v. bytes_eq (named v) n) ts t found)

abbrev workunit_of : List Workunit → List ℕ → Option Workunit
workunit_of ws n = find (λ (w : Workunit). bytes_eq w.name n) ws

pub name_found : (ws : List Workunit) (n : List ℕ) (w : Workunit) → workunit_of ws n ≡ Some w → w.name ≡ n
name_found = named_found (λ (w : Workunit). w.name)

pub touch_found : (ts : List Touch) (n : List ℕ) (t : Touch) → touched_named ts n ≡ Some t → t.now.name ≡ n
touch_found = named_found (λ (t : Touch). t.now.name)

found_mapped : (f : Workunit → Workunit) → ((v : Workunit) → (f v).name ≡ v.name) → (ws : List Workunit) (n : List ℕ) → workunit_of (map f ws) n ≡ option_map f (workunit_of ws n)
found_mapped f keeps [] n = refl
found_mapped f keeps (v ∷ vs) n = ap (λ m. if bytes_eq m n then Some (f v) else workunit_of (map f vs) n) (keeps v) ∙ go (bytes_eq v.name n) (found_mapped f keeps vs n)
  where
    go : (b : Bool) → workunit_of (map f vs) n ≡ option_map f (workunit_of vs n) → (if b then Some (f v) else workunit_of (map f vs) n) ≡ option_map f (if b then Some v else workunit_of vs n)
    go true again = refl
    go false again = again

-- ---- the world with the touched workunits

-- what is found as it was left
abbrev pub now_of : Option Touch → Workunit → Workunit
now_of o v = option_map_or (λ (t : Touch). t.now) o v

-- a workunit as it was left has its name
left_name : (ts : List Touch) (v : Workunit) → (as_left ts v).name ≡ v.name
left_name ts v = go (touched_named ts v.name) refl
  where
    go : (o : Option Touch) → touched_named ts v.name ≡ o → (now_of o v).name ≡ v.name
    go None is = refl
    go (Some t) is = touch_found ts v.name t is

left_as : (ts : List Touch) (v : Workunit) (o : Option Touch) → touched_named ts v.name ≡ o → as_left ts v ≡ now_of o v
left_as ts v o is = ap (λ found. now_of found v) is

-- one of the name is found as it was left
found_left : (world : World) (ts : List Touch) (n : List ℕ) → workunit_named (with_touched ts world) n ≡ option_map (as_left ts) (workunit_named world n)
found_left world ts n = found_mapped (as_left ts) (left_name ts) world.workunits n

pub found_touched : (world : World) (ts : List Touch) (n : List ℕ) (t : Touch) → touched_named ts n ≡ Some t → AreImages world ts → workunit_named (with_touched ts world) n ≡ Some t.now
found_touched world ts n t touched images =
    let it = images n t touched in
    let present : workunit_named world n ≡ Some t.was = subst (λ m. workunit_named world m ≡ Some t.was) (touch_found ts n t touched) it.present in
    let left : as_left ts t.was ≡ t.now = left_as ts t.was (Some t) (ap (touched_named ts) (name_found world.workunits n t.was present) ∙ touched) in
    found_left world ts n ∙ ap (option_map (as_left ts)) present ∙ ap {B = Option Workunit} (λ (v : Workunit). Some v) left

pub found_unknown : (world : World) (ts : List Touch) (n : List ℕ) → workunit_named world n ≡ None → workunit_named (with_touched ts world) n ≡ None
found_unknown world ts n none = found_left world ts n ∙ ap (option_map (as_left ts)) none

-- ---- before any row

map_same : (ws : List Workunit) → map (as_left []) ws ≡ ws
map_same [] = refl
map_same (w ∷ ws) = ap (λ l. w ∷ l) (map_same ws)

pub touched_empty : (world : World) → with_touched [] world ≡ world
touched_empty world = ap (λ ws. record world { workunits = ws }) (map_same world.workunits)

pub images_empty : (world : World) → AreImages world []
images_empty world n t found = absurd cc

-- ---- one more, or one changed

-- looked up by name, these are the others with this one for its name
abbrev pub IsWith : List Touch → List ℕ → Touch → List Touch → Type 0
IsWith ts name t after = (q : List ℕ) → touched_named after q ≡ (if bytes_eq name q then Some t else touched_named ts q)

images_with : (world : World) (ts : List Touch) (name : List ℕ) (t : Touch) (after : List Touch) → AreImages world ts → IsImage world t → IsWith ts name t after → AreImages world after
images_with world ts name t after images image is q u found = elim (cases_Bool (bytes_eq name q)) [
  | inl on ↦ let it : Some t ≡ Some u = rw on at (sym (is q) ∙ found) in let same : t ≡ u = cc in subst (λ (v : Touch). IsImage world v) same image
  | inr off ↦ let it : touched_named ts q ≡ Some u = rw off at (sym (is q) ∙ found) in images q u it
]

-- where none passes a test, two maps agree that agree on all that fail
map_none : {X : Type 0} (q : X → Bool) (f g : X → X) (xs : List X) → length (filter q xs) ≤ 0 → ((y : X) → q y ≡ false → f y ≡ g y) → map f xs ≡ map g xs
map_none q f g [] none others = refl
map_none q f g (x ∷ xs) none others = elim (cases_Bool (q x)) [
  | inl is ↦ let one : suc (length (filter q xs)) ≤ 0 = rw is at none in absurd (omega (arith, one))
  | inr not ↦ (λ i. others x not i ∷ map_none q f g xs (rw not at none) others i)
]

-- where one passes, that agree on it too
map_once : {X : Type 0} (q : X → Bool) (f g : X → X) (xs : List X) (x : X) → length (filter q xs) ≤ 1 → find q xs ≡ Some x → f x ≡ g x → ((y : X) → q y ≡ false → f y ≡ g y) → map f xs ≡ map g xs
map_once q f g [] x once found same others = refl
map_once {X} q f g (y ∷ ys) x once found same others = elim (cases_Bool (q y)) [
  | inl is ↦
      let it : Some y ≡ Some x = rw is at found in
      let one : y ≡ x = cc in
      let few : suc (length (filter q ys)) ≤ 1 = rw is at once in
      (λ i. subst (λ (z : X). f z ≡ g z) (sym one) same i ∷ map_none q f g ys (omega (arith, few)) others i)
  | inr not ↦ (λ i. others y not i ∷ map_once q f g ys x (rw not at once) (rw not at found) same others i)
]

module _ (world : World) (once : NamesOnce world) (ts more : List Touch) (n : List ℕ) (w : Workunit) (present : workunit_named world n ≡ Some w) (new : touched_named ts n ≡ None) (is : IsWith ts w.name (untouched w) more) where
  named : w.name ≡ n
  named = name_found world.workunits n w present

  -- one that was loaded is found, as it is
  pub loaded_found : touched_named more n ≡ Some (untouched w)
  loaded_found = is n ∙ ap (λ b. if b then Some (untouched w) else touched_named ts n) (ap (λ m. bytes_eq m n) named ∙ own_name n)

  pub loaded : with_touched more world ≡ with_touched ts world
  loaded = ap (λ ws. record world { workunits = ws }) (map_once (λ (v : Workunit). bytes_eq v.name n) (as_left more) (as_left ts) world.workunits w (once n) present same others)
    where
      same : as_left more w ≡ as_left ts w
      same = left_as more w (Some (untouched w)) (ap (touched_named more) named ∙ loaded_found) ∙ sym (left_as ts w None (ap (touched_named ts) named ∙ new))

      others : (v : Workunit) → bytes_eq v.name n ≡ false → as_left more v ≡ as_left ts v
      others v off =
          let apart : bytes_eq w.name v.name ≡ false = ap (λ m. bytes_eq m v.name) named ∙ name_back n v.name ∙ off in
          ap (λ o. now_of o v) (is v.name ∙ ap (λ b. if b then Some (untouched w) else touched_named ts v.name) apart)

  pub images_loaded : AreImages world ts → AreImages world more
  images_loaded images = images_with world ts w.name (untouched w) more images (record { present = ap (workunit_named world) named ∙ present; number = refl }) is

module _ (world : World) (ts after : List Touch) (n : List ℕ) (t : Touch) (image : Workunit) (touched : touched_named ts n ≡ Some t) (images : AreImages world ts)
    (name : image.name ≡ t.now.name) (number : image.number ≡ t.now.number) (is : IsWith ts t.now.name (record t { now = image }) after) where
  pub left_by_row : (change : Workunit → Workunit) → change t.now ≡ image → with_touched after world ≡ with_named (with_touched ts world) n change
  left_by_row change makes = ap (λ ws. record world { workunits = ws }) (each world.workunits)
    where
      by_name : (v : Workunit) → as_left after v ≡ (if bytes_eq v.name n then change (as_left ts v) else as_left ts v)
      by_name v = elim (cases_Bool (bytes_eq v.name n)) [
        | inl on ↦
            let at : v.name ≡ n = same_name v.name n on in
            let was : as_left ts v ≡ t.now = left_as ts v (Some t) (ap (touched_named ts) at ∙ touched) in
            let here : bytes_eq t.now.name v.name ≡ true = ap (λ m. bytes_eq m v.name) (touch_found ts n t touched ∙ sym at) ∙ own_name v.name in
            let now : as_left after v ≡ image = left_as after v (Some (record t { now = image })) (is v.name ∙ ap (λ b. if b then Some (record t { now = image }) else touched_named ts v.name) here) in
            now ∙ sym makes ∙ ap change (sym was) ∙ sym (ap (λ b. if b then change (as_left ts v) else as_left ts v) on)
        | inr off ↦
            let apart : bytes_eq t.now.name v.name ≡ false = ap (λ m. bytes_eq m v.name) (touch_found ts n t touched) ∙ name_back n v.name ∙ off in
            ap (λ o. now_of o v) (is v.name ∙ ap (λ b. if b then Some (record t { now = image }) else touched_named ts v.name) apart) ∙ sym (ap (λ b. if b then change (as_left ts v) else as_left ts v) off)
      ]

      one : (v : Workunit) → as_left after v ≡ (if bytes_eq (as_left ts v).name n then change (as_left ts v) else as_left ts v)
      one v = by_name v ∙ sym (ap (λ m. if bytes_eq m n then change (as_left ts v) else as_left ts v) (left_name ts v))

      each : (ws : List Workunit) → map (as_left after) ws ≡ map (λ v. if bytes_eq v.name n then change v else v) (map (as_left ts) ws)
      each [] = refl
      each (v ∷ vs) = (λ i. one v i ∷ each vs i)

  pub images_by_row : AreImages world after
  images_by_row =
      let it = images n t touched in
      images_with world ts t.now.name (record t { now = image }) after images (record { present = ap (workunit_named world) name ∙ it.present; number = number ∙ it.number }) is

-- ---- one row more

pub after_more : {Row : Type 0} (rule : Rule Row) (world : World) (rows : List Row) (row : Row) → after_rows rule world (rows ++ row ∷ []) ≡ after_row rule (after_rows rule world rows) row
after_more rule world [] row = refl
after_more rule world (first ∷ rows) row = after_more rule (after_row rule world first) rows row

pub verdicts_more : {Row : Type 0} (rule : Rule Row) (world : World) (rows : List Row) (row : Row)
    → row_verdicts rule world (rows ++ row ∷ []) ≡ row_verdicts rule world rows ++ row_verdict rule (after_rows rule world rows) row ∷ []
verdicts_more rule world [] row = refl
verdicts_more rule world (first ∷ rows) row = ap (λ codes. row_verdict rule world first ∷ codes) (verdicts_more rule (after_row rule world first) rows row)

either_same : (b : Bool) (w : Workunit) → (if b then w else w) ≡ w
either_same true w = refl
either_same false w = refl

-- no workunit is changed, or each of the name is
pub changed_if : (b : Bool) (world : World) (n : List ℕ) (change : Workunit → Workunit) → with_named world n (λ w. if b then change w else w) ≡ (if b then with_named world n change else world)
changed_if true world n change = refl
changed_if false world n change = ap (λ ws. record world { workunits = ws }) ((λ i. map (λ v. either_same (bytes_eq v.name n) v i) world.workunits) ∙ map-id world.workunits)

module _ {Row : Type 0} (rule : Rule Row) where
  pub after_found : (world : World) (row : Row) (o : Option Workunit) → workunit_named world (rule.workunit row) ≡ o
      → (row_verdict rule world row ≡ option_map_or (rule.verdict row) o unknown)
      × (after_row rule world row ≡ (if option_map_or (rule.verdict row) o unknown == 0 then with_named world (rule.workunit row) (rule.image row) else world))
  after_found world row o is =
      (ap (λ found. option_map_or (rule.verdict row) found unknown) is, ap (λ found. if option_map_or (rule.verdict row) found unknown == 0 then with_named world (rule.workunit row) (rule.image row) else world) is)

  pub more_left : (world : World) (ts after : List Touch) (rows : List Row) (row : Row) (verdicts : List ℕ) (verdict : ℕ) → IsLeft rule rows world ts verdicts → AreImages world after
      → with_touched after world ≡ after_row rule (with_touched ts world) row → verdict ≡ row_verdict rule (with_touched ts world) row → IsLeft rule (rows ++ row ∷ []) world after (verdicts ++ verdict ∷ [])
  more_left world ts after rows row verdicts verdict before images left told = record {
    images = images;
    left = left ∙ ap (λ now. after_row rule now row) before.left ∙ sym (after_more rule world rows row);
    told = (λ i. before.told i ++ told i ∷ []) ∙ ap (λ now. row_verdicts rule world rows ++ row_verdict rule now row ∷ []) before.left ∙ sym (verdicts_more rule world rows row);
  }

  pub no_rows_left : (world : World) → IsLeft rule [] world [] []
  no_rows_left world = record { images = images_empty world; left = touched_empty world; told = refl }

-- ---- each in the place of the present one

count_mapped : (q : Workunit → Bool) (f : Workunit → Workunit) → ((w : Workunit) → q (f w) ≡ q w) → (ws : List Workunit) → length (filter q (map f ws)) ≡ length (filter q ws)
count_mapped q f same ws = ap (λ vs. length vs) (filter-map q f ws) ∙ length-map (filter (λ w. q (f w)) ws) f ∙ (λ i. length (filter (λ w. same w i) ws))

-- what is found by one test counts for another that it passes
found_counts : (p q : Workunit → Bool) (ws : List Workunit) (w : Workunit) → find p ws ≡ Some w → q w ≡ true → 1 ≤ length (filter q ws)
found_counts p q [] w found passes = absurd cc
found_counts p q (v ∷ vs) w found passes = elim (cases_Bool (q v)) [
  | inl on ↦ rw on (omega arith)
  | inr off ↦ elim (cases_Bool (p v)) [
    | inl is ↦ let it : Some v ≡ Some w = rw is at found in let same : v ≡ w = cc in let e : true ≡ false = sym passes ∙ ap q (sym same) ∙ off in absurd cc
    | inr not ↦ rw off (found_counts p q vs w (rw not at found) passes)
  ]
]

-- and is found by it, where one passes
found_once : (p q : Workunit → Bool) (ws : List Workunit) (w : Workunit) → find p ws ≡ Some w → q w ≡ true → length (filter q ws) ≤ 1 → find q ws ≡ Some w
found_once p q [] w found passes once = absurd cc
found_once p q (v ∷ vs) w found passes once = elim (cases_Bool (q v)) [
  | inl on ↦ elim (cases_Bool (p v)) [
    | inl is ↦ let it : Some v ≡ Some w = rw is at found in rw on it
    | inr not ↦
        let few : suc (length (filter q vs)) ≤ 1 = rw on at once in
        let some = found_counts p q vs w (rw not at found) passes in
        absurd (omega (arith, few, some))
  ]
  | inr off ↦ elim (cases_Bool (p v)) [
    | inl is ↦ let it : Some v ≡ Some w = rw is at found in let same : v ≡ w = cc in let e : true ≡ false = sym passes ∙ ap q (sym same) ∙ off in absurd cc
    | inr not ↦ rw off (found_once p q vs w (rw not at found) passes (rw off at once))
  ]
]

-- what is found stands at a place
found_at : {T : Type 0} (p : T → Bool) (ts : List T) (t : T) → find p ts ≡ Some t → (i : ℕ) × (i < length ts) × ((d : T) → get_or ts i d ≡ t)
found_at p [] t found = absurd cc
found_at p (v ∷ vs) t found = elim (cases_Bool (p v)) [
  | inl is ↦ let it : Some v ≡ Some t = rw is at found in (0, omega arith, λ d. cc)
  | inr not ↦ let later = found_at p vs t (rw not at found) in (suc later.0, (let low = later.1 in omega (arith, low)), λ d. later.2 d)
]

-- in the place of one of its number, and of one of its name
abbrev for_number : Workunit → Workunit → Workunit
for_number t v = if v.number == t.number then t else v

abbrev for_name : Workunit → Workunit → Workunit
for_name t v = if bytes_eq v.name t.name then t else v

number_kept : (t v : Workunit) → (for_number t v).number ≡ v.number
number_kept t v = elim (cases_Bool (v.number == t.number)) [
  | inl is ↦ ap (λ b. (if b then t else v).number) is ∙ sym (eqb-true _ _ is)
  | inr not ↦ ap (λ b. (if b then t else v).number) not
]

name_kept : (t v : Workunit) → (for_name t v).name ≡ v.name
name_kept t v = elim (cases_Bool (bytes_eq v.name t.name)) [
  | inl is ↦ ap (λ b. (if b then t else v).name) is ∙ sym (same_name _ _ is)
  | inr not ↦ ap (λ b. (if b then t else v).name) not
]

-- of another number the same is found
pub others_found : (t : Workunit) (n : ℕ) (ws : List Workunit) → (t.number == n) ≡ false → find (λ (v : Workunit). v.number == n) (map (for_number t) ws) ≡ find (λ (v : Workunit). v.number == n) ws
others_found t n [] off = refl
others_found t n (v ∷ vs) off = elim (cases_Bool (v.number == t.number)) [
  | inl is ↦
      let not : (v.number == n) ≡ false = ap (λ m. m == n) (eqb-true _ _ is) ∙ off in
      rw (is, off, not) (others_found t n vs off)
  | inr not ↦ rw not (ap (λ o. if v.number == n then Some v else o) (others_found t n vs off))
]

-- where names and numbers stand once, both are the same place
one_place : (t b : Workunit) (ws : List Workunit) → length (filter (λ (v : Workunit). bytes_eq v.name t.name) ws) ≤ 1 → length (filter (λ (v : Workunit). v.number == t.number) ws) ≤ 1
    → workunit_of ws t.name ≡ Some b → t.number ≡ b.number → map (for_number t) ws ≡ map (for_name t) ws
one_place t b ws names numbers found same =
    let for_both : Workunit → Workunit = λ v. if (v.number == t.number) && bytes_eq v.name t.name then t else v in
    let its_number : (b.number == t.number) ≡ true = eq-eqb _ _ (sym same) in
    let its_name : bytes_eq b.name t.name ≡ true = find_passes (λ (v : Workunit). bytes_eq v.name t.name) ws b found in
    let numbered = found_once (λ (v : Workunit). bytes_eq v.name t.name) (λ (v : Workunit). v.number == t.number) ws b found its_number numbers in
    map_once (λ (v : Workunit). v.number == t.number) (for_number t) for_both ws b numbers numbered (rw (its_number, its_name) refl) (λ v off. rw off refl)
    ∙ map_once (λ (v : Workunit). bytes_eq v.name t.name) for_both (for_name t) ws b names found (rw (its_number, its_name) refl) (λ v off. elim (cases_Bool (v.number == t.number)) [
      | inl on ↦ rw (on, off) refl
      | inr other ↦ rw (other, off) refl
    ])

-- the first, and then the others
left_then : (t : Touch) (ts : List Touch) → touched_named ts t.now.name ≡ None → (v : Workunit) → as_left ts (for_name t.now v) ≡ as_left (t ∷ ts) v
left_then t ts new v = elim (cases_Bool (bytes_eq v.name t.now.name)) [
  | inl is ↦
      let turned : bytes_eq t.now.name v.name ≡ true = name_back t.now.name v.name ∙ is in
      ap (λ b. as_left ts (if b then t.now else v)) is ∙ left_as ts t.now None new ∙ sym (ap (λ b. now_of (if b then Some t else touched_named ts v.name) v) turned)
  | inr not ↦
      let turned : bytes_eq t.now.name v.name ≡ false = name_back t.now.name v.name ∙ not in
      ap (λ b. as_left ts (if b then t.now else v)) not ∙ sym (ap (λ b. now_of (if b then Some t else touched_named ts v.name) v) turned)
]

-- one of distinct ones is put into its place
module _ (world : World) (t : Touch) (ts : List Touch) (names : NamesOnce world) (numbers : NumbersOnce world) (images : AreImages world (t ∷ ts)) (distinct : AreDistinct (t ∷ ts)) where
  own : IsImage world t
  own = images t.now.name t (ap (λ b. if b then Some t else touched_named ts t.now.name) (own_name t.now.name))

  places : (with_replaced t.now world).workunits ≡ map (for_name t.now) world.workunits
  places = one_place t.now t.was world.workunits (names t.now.name) (numbers t.now.number) own.present own.number

  right_first : numbered t.now.number world ≡ Some t.was
  right_first = found_once (λ (v : Workunit). bytes_eq v.name t.now.name) (λ (v : Workunit). v.number == t.now.number) world.workunits t.was own.present (eq-eqb _ _ (sym own.number)) (numbers t.now.number)

  apart_from : (q : List ℕ) (u : Touch) → touched_named ts q ≡ Some u → t.now.name ≢ u.now.name
  apart_from q u found same =
      let at = found_at (λ (v : Touch). bytes_eq v.now.name q) ts u found in
      distinct 0 (suc at.0) u (omega arith) (let low = at.1 in omega (arith, low)) (same ∙ sym (ap (λ (v : Touch). v.now.name) (at.2 u)))

  new_in : touched_named ts t.now.name ≡ None
  new_in = go (touched_named ts t.now.name) refl
    where
      go : (o : Option Touch) → touched_named ts t.now.name ≡ o → o ≡ None
      go None is = refl
      go (Some u) is = absurd (apart_from t.now.name u is (sym (touch_found ts t.now.name u is)))

  names_then : NamesOnce (with_replaced t.now world)
  names_then n =
      let same = ap (λ ws. length (filter (λ (v : Workunit). bytes_eq v.name n) ws)) places ∙ count_mapped (λ (v : Workunit). bytes_eq v.name n) (for_name t.now) (λ v. ap (λ m. bytes_eq m n) (name_kept t.now v)) world.workunits in
      subst (λ k. k ≤ 1) (sym same) (names n)

  numbers_then : NumbersOnce (with_replaced t.now world)
  numbers_then n = subst (λ k. k ≤ 1) (sym (count_mapped (λ (v : Workunit). v.number == n) (for_number t.now) (λ v. ap (λ m. m == n) (number_kept t.now v)) world.workunits)) (numbers n)

  images_then : AreImages (with_replaced t.now world) ts
  images_then q u found =
      let apart = apart_from q u found in
      let off : bytes_eq t.now.name q ≡ false = ap (bytes_eq t.now.name) (sym (touch_found ts q u found)) ∙ other_name t.now.name u.now.name apart in
      let it = images q u (ap (λ b. if b then Some t else touched_named ts q) off ∙ found) in
      let before_name : u.was.name ≡ u.now.name = name_found world.workunits u.now.name u.was it.present in
      let stays : for_name t.now u.was ≡ u.was = ap (λ b. if b then t.now else u.was) (ap (λ m. bytes_eq m t.now.name) before_name ∙ other_name u.now.name t.now.name (λ same. apart (sym same))) in
      record {
        present = ap (λ ws. workunit_of ws u.now.name) places ∙ found_mapped (for_name t.now) (name_kept t.now) world.workunits u.now.name ∙ ap (option_map (for_name t.now)) it.present ∙ ap {B = Option Workunit} (λ (v : Workunit). Some v) stays;
        number = it.number;
      }

  distinct_then : AreDistinct ts
  distinct_then i j d low within = distinct (suc i) (suc j) d (omega arith) (omega (arith, within))

  touched_then : with_touched ts (with_replaced t.now world) ≡ with_touched (t ∷ ts) world
  touched_then = ap (λ ws. record world { workunits = ws }) (ap (map (as_left ts)) places ∙ each world.workunits)
    where
      each : (ws : List Workunit) → map (as_left ts) (map (for_name t.now) ws) ≡ map (as_left (t ∷ ts)) ws
      each [] = refl
      each (v ∷ vs) = (λ i. left_then t ts new_in v i ∷ each vs i)

-- the changes make this of the world, and may be made where it has classes
abbrev pub ChangesTo : List Change → World → World → Type 0
ChangesTo changes world after = (made_all changes world ≡ after) × (KnowsClasses world → AreRight changes world)

-- every touched workunit takes the place of the present one of its number: that makes the world with them
pub replaced_all : (ts : List Touch) (world : World) → NamesOnce world → NumbersOnce world → AreImages world ts → AreDistinct ts → ChangesTo (map replaces ts) world (with_touched ts world)
replaced_all [] world names numbers images distinct = (sym (touched_empty world), λ classed. tt)
replaced_all (t ∷ ts) world names numbers images distinct =
    let rest = replaced_all ts (with_replaced t.now world) (names_then world t ts names numbers images distinct) (numbers_then world t ts names numbers images distinct)
    (images_then world t ts names numbers images distinct) (distinct_then world t ts names numbers images distinct) in
    (rest.0 ∙ touched_then world t ts names numbers images distinct, λ classed. ((classed, right_first world t ts names numbers images distinct), rest.1 classed))

-- ---- changes one after another

pub made_append : (first next : List Change) (world : World) → made_all (first ++ next) world ≡ made_all next (made_all first world)
made_append [] next world = refl
made_append (change ∷ more) next world = made_append more next (made change world)

pub right_append : (first next : List Change) (world : World) → AreRight first world → AreRight next (made_all first world) → AreRight (first ++ next) world
right_append [] next world right later = later
right_append (change ∷ more) next world right later = (right.0, right_append more next (made change world) right.1 later)

-- what rows left, and a change more
pub rows_then : {Row : Type 0} (rule : Rule Row) (rows : List Row) (world : World) (ts : List Touch) (verdicts : List ℕ) (change : Change) → NamesOnce world → NumbersOnce world
    → IsLeft rule rows world ts verdicts → AreDistinct ts
    → (made_all (map replaces ts ++ change ∷ []) world ≡ made change (after_rows rule world rows))
    × (KnowsClasses world → IsRight change (after_rows rule world rows) → AreRight (map replaces ts ++ change ∷ []) world)
rows_then rule rows world ts verdicts change names numbers left distinct =
    let all = replaced_all ts world names numbers left.images distinct in
    let after : made_all (map replaces ts) world ≡ after_rows rule world rows = all.0 ∙ left.left in
    (made_append (map replaces ts) (change ∷ []) world ∙ ap (made change) after, λ classed right. right_append (map replaces ts) (change ∷ []) world (all.1 classed) (subst (IsRight change) (sym after) right, tt))
