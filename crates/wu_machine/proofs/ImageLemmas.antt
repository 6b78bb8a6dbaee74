-- What the changes of a pass make of a world is what the pass makes of it.
use Rattle.std.proofs.Common.{◌≡◌, ℕ, zero, suc, ◌<◌, ◌==◌, Bool, true, false, if◌then◌else◌, List, [], ◌∷◌, ◌++◌, Option, Some, None, Ok, refl, ap, ◌∙◌, inl, inr, arith, append-nil, take}
use Rattle.std.proofs.lemmas.Bool.{cases_Bool, eq-eqb, ne_eqb}
use Rattle.std.specs.List.{AllByRecursion, filter, flat_map}
use Rattle.std.specs.Prelude.{not, ◌||◌}
use Rattle.wu_core.specs.declared.workunit.Workunit.{Workunit}
use Rattle.wu_core.specs.World.{World}
use Rattle.wu_rules.specs.Assimilation.{assimilated, emptied}
use Rattle.wu_rules.specs.Counts.{consensus}
use Rattle.wu_rules.specs.Instances.{is_done_assimilate, is_ready_assimilate}
use Rattle.wu_rules.specs.Transition.{ended, extended, readied, settled, timed, transitioned, with_files_readied}
use Rattle.wu_rules.specs.Validation.{checked, concluded, decided, is_to_validate, left_open, validated, validated_by}
use Rattle.wu_rules.specs.Due.{chosen}
use Rattle.wu_rules.specs.declared.due.Pass.{Pass}
use Rattle.wu_machine.specs.Machine.{done, is_limit_right, IsUpToDate, pass_done}
use Rattle.wu_machine.specs.Passes.{archives, granted, handled, images, is_among, passed}
use Rattle.wu_machine.specs.Requests.{AskPass, Passed}
use Rattle.wu_machine.proofs.Versions.{done_up_to_date}

-- ---- the number and the name of an image

-- it has the number and the name of the other
abbrev pub IsOf : Workunit → Workunit → Type 0
IsOf image w = (image.number ≡ w.number) × (image.name ≡ w.name)

of_then : (a b c : Workunit) → IsOf a b → IsOf b c → IsOf a c
of_then a b c one next = (one.0 ∙ next.0, one.1 ∙ next.1)

of_either : (b : Bool) (one other w : Workunit) → IsOf one w → IsOf other w → IsOf (if b then one else other) w
of_either true one other w first second = first
of_either false one other w first second = second

readied_of : (w : Workunit) → IsOf (readied w) w
readied_of w = of_either (is_done_assimilate w.assimilate) (with_files_readied w) w w (refl, refl) (refl, refl)

settled_of : (w : Workunit) → IsOf (settled w) w
settled_of w = of_either _ w (ended w) w (refl, refl) (refl, refl)

pub transitioned_of : (now : ℕ) (w : Workunit) → IsOf (transitioned w now) w
unfolding transitioned
transitioned_of now w =
    let more = extended (timed w now) in
    of_then (readied (settled more)) (settled more) w (readied_of (settled more)) (settled_of more)

left_open_of : (w : Workunit) → IsOf (left_open w) w
left_open_of w = of_either _ _ _ w (refl, refl) (refl, refl)

decided_of : (w : Workunit) (o : Option ℕ) → IsOf (decided w o) w
decided_of w (Some n) = (refl, refl)
decided_of w None = left_open_of w

validated_by_of : (w : Workunit) (o : Option ℕ) → IsOf (validated_by w o) w
validated_by_of w (Some n) = (refl, refl)
validated_by_of w None = decided_of w (consensus w)

checked_of : (w : Workunit) → IsOf (checked w) w
checked_of w = of_either (is_to_validate w) _ w w (refl, refl) (refl, refl)

concluded_of : (w : Workunit) → IsOf (concluded w) w
unfolding concluded
concluded_of w = of_either (is_to_validate w) (validated_by w w.canonical) w w (validated_by_of w w.canonical) (refl, refl)

pub validated_of : (w : Workunit) → IsOf (validated w) w
unfolding validated
validated_of w = of_then (concluded (checked w)) (checked w) w (concluded_of (checked w)) (checked_of w)

pub assimilated_of : (now : ℕ) (w : Workunit) → IsOf (assimilated w now) w
unfolding assimilated
assimilated_of now w = of_either (is_ready_assimilate w.assimilate) _ w w (refl, refl) (refl, refl)

pub emptied_of : (w : Workunit) → IsOf (emptied w) w
unfolding emptied
emptied_of w = (refl, refl)

-- ---- some workunits among all

-- these are among those, in the same order
pub data IsPart : List Workunit → List Workunit → Type 0 where
  none : IsPart [] []
  taken : {w : Workunit} {ts ws : List Workunit} → IsPart ts ws → IsPart (w ∷ ts) (w ∷ ws)
  left : {w : Workunit} {ts ws : List Workunit} → IsPart ts ws → IsPart ts (w ∷ ws)

pub none_of : (ws : List Workunit) → IsPart [] ws
none_of [] = none
none_of (w ∷ ws) = left (none_of ws)

pub first_ones : (q : Workunit → Bool) (ws : List Workunit) (limit : ℕ) → IsPart (take limit (filter q ws)) ws
first_ones q [] zero = none
first_ones q [] (suc limit) = none
first_ones q (w ∷ ws) zero = none_of (w ∷ ws)
first_ones q (w ∷ ws) (suc limit) = elim (cases_Bool (q w)) [
  | inl is ↦ rw is (taken (first_ones q ws limit))
  | inr not ↦ rw not (left (first_ones q ws (suc limit)))
]

pub part_all : (P : Workunit → Type 0) {ts ws : List Workunit} → IsPart ts ws → AllByRecursion P ws → AllByRecursion P ts
part_all P none all = tt
part_all P (taken part) all = (all.0, part_all P part all.1)
part_all P (left part) all = part_all P part all.1

-- all numbers of the list are above
abbrev pub Above : ℕ → List Workunit → Type 0
Above number = AllByRecursion (λ (w : Workunit). number < w.number)

pub apart : (m n : ℕ) → m < n → ((m == n) ≡ false) × ((n == m) ≡ false)
apart m n low = (ne_eqb m n (λ same. omega (arith, same, low)), ne_eqb n m (λ same. omega (arith, same, low)))

-- none of those above is among them
pub none_among : (ts : List Workunit) (w : Workunit) → Above w.number ts → is_among ts w ≡ false
none_among [] w above = refl
none_among (t ∷ ts) w above = let off = apart w.number t.number above.0 in rw off.1 (none_among ts w above.1)

-- ---- each of some in the place of which others come

module _ (f : Workunit → List Workunit) where
  -- what a workunit leaves, where these are taken
  abbrev pub leaves : List Workunit → Workunit → List Workunit
  leaves ts w = if is_among ts w then f w else w ∷ []

  pub leaves_taken : (w : Workunit) (ts : List Workunit) → leaves (w ∷ ts) w ≡ f w
  leaves_taken w ts = ap (λ b. if b || is_among ts w then f w else w ∷ []) (eq-eqb w.number w.number refl)

  pub leaves_left : (w : Workunit) (ts : List Workunit) → Above w.number ts → leaves ts w ≡ w ∷ []
  leaves_left w ts above = ap (λ b. if b then f w else w ∷ []) (none_among ts w above)

  -- one below changes nothing
  pub leaves_more : (w : Workunit) (ts ws : List Workunit) → Above w.number ws → flat_map (leaves (w ∷ ts)) ws ≡ flat_map (leaves ts) ws
  leaves_more w ts [] above = refl
  leaves_more w ts (v ∷ vs) above =
      let off = apart w.number v.number above.0 in
      (λ i. (if off.0 i || is_among ts v then f v else v ∷ []) ++ leaves_more w ts vs above.1 i)

  pub leaves_all : (ws : List Workunit) → flat_map (leaves []) ws ≡ ws
  leaves_all [] = refl
  leaves_all (w ∷ ws) = ap (λ l. w ∷ l) (leaves_all ws)

-- where each workunit gives nothing, all give nothing
pub gives_nothing : {A : Type 0} (f : Workunit → List A) (ws : List Workunit) → ((w : Workunit) → f w ≡ []) → flat_map f ws ≡ []
gives_nothing f [] nothing = refl
gives_nothing f (w ∷ ws) nothing = ap (λ l. l ++ flat_map f ws) (nothing w) ∙ gives_nothing f ws nothing

-- ---- a pass that finds nothing, and what a pass answers

pub passed_none : (pass : Pass) (now min_age limit : ℕ) (world : World) → chosen pass now min_age limit world ≡ [] → passed pass now min_age limit world ≡ world
passed_none pass now min_age limit world nothing =
    ap (λ ts. record world {
      workunits = flat_map (leaves (images pass now) ts) world.workunits;
      grants = world.grants ++ flat_map (granted pass) ts;
      archived = world.archived ++ flat_map (archives pass now) ts;
    }) nothing
    ∙ (λ i. record world { workunits = leaves_all (images pass now) world.workunits i; grants = append-nil world.grants i; archived = append-nil world.archived i })

module _ (world : World) (is : IsUpToDate world) (pass : Pass) (now limit min_age : ℕ) where
  asked_pass : done world (AskPass pass now limit min_age) ≡ pass_done world pass now limit min_age
  asked_pass = done_up_to_date world (AskPass pass now limit min_age) is

  pub pass_asked : is_limit_right pass limit min_age ≡ true
      → done world (AskPass pass now limit min_age) ≡ Ok (Passed pass (handled pass now min_age limit world), passed pass now min_age limit world)
  pass_asked right = asked_pass ∙ rw right refl
