-- What each step of the transitioner leaves alone, and what it leaves nothing of.
use Rattle.std.proofs.Common.{◌≡◌, ℕ, nat_lt, Bool, true, false, not, cond, ◌&&◌, ◌||◌, List, [], ◌∷◌, map, Option, refl, ap, ◌∙◌, arith}
use Rattle.std.proofs.lemmas.Bool.Decides.{nat_tests}
use Rattle.std.specs.List.{list_any, list_all, enumerate_from}
use Rattle.wu_core.specs.declared.workunit.Instance.{Instance}
use Rattle.wu_core.specs.declared.workunit.Workunit.{Workunit}
use Rattle.wu_core.specs.declared.states.ValidateState.{ValidateState}
use Rattle.wu_core.specs.declared.states.ValidateState.TheVariants as validate
use Rattle.wu_core.specs.declared.states.Assimilate.{Assimilate}
use Rattle.wu_core.specs.declared.states.Assimilate.TheVariants as assimilate
use Rattle.wu_core.specs.declared.states.FileDelete.{FileDelete}
use Rattle.wu_core.specs.declared.states.FileDelete.TheVariants as file_delete
use Rattle.wu_rules.specs.Instances.{is_unsent, is_over, is_viable, closed, given_up, is_init_assimilate, readied_assimilate, is_done_assimilate, is_init_file, readied_file}
use Rattle.wu_rules.specs.Counts.{is_clear}
use Rattle.wu_rules.specs.Transition.{is_all_over, is_finished, may_output_go, with_output_readied, outputs_readied, with_files_readied, readied, ended, settled, unbound}
use Rattle.wu_rules.specs.Waking.{is_to_unbind, is_unsettled, is_output_to_ready, has_output_to_ready, has_files_to_ready}
use Rattle.wu_rules_laws.proofs.Changed.{cond_keeps, any_false-map, map-untouched, placed-untouched, any_false-placed, any-placed, all-placed}

-- ---- files

file_readied-once : (b : Bool) (f : FileDelete) → (b && is_init_file (readied_file b f)) ≡ false
file_readied-once b f = grind arith

file-untouched : (b : Bool) (f : FileDelete) → (b && is_init_file f) ≡ false → readied_file b f ≡ f
file-untouched b f e = ap (λ v. cond v file_delete.Ready f) e

finished_all : (c : Option ℕ) (xs : List Instance) → list_all is_finished (outputs_readied c xs) ≡ list_all is_finished xs
finished_all c xs = all-placed is_finished is_finished (with_output_readied c (list_all is_finished xs)) (λ n x. refl) 0 xs

-- once named for deletion, nothing is left to name
pub outputs_readied-once : (c : Option ℕ) (xs : List Instance) → has_output_to_ready c (outputs_readied c xs) ≡ false
outputs_readied-once c xs =
    ap (λ b. list_any (λ p. is_output_to_ready c b p.0 p.1) (enumerate_from 0 (outputs_readied c xs))) (finished_all c xs)
    ∙ any_false-placed (is_output_to_ready c (list_all is_finished xs)) (with_output_readied c (list_all is_finished xs)) (λ n x. file_readied-once (may_output_go c (list_all is_finished xs) n x) x.file_delete) 0 xs

pub files_readied-once : (w : Workunit) → has_files_to_ready (readied w) ≡ false
files_readied-once w =
    let over_all = all-placed is_over is_over (with_output_readied w.canonical (list_all is_finished w.instances)) (λ n x. refl) 0 w.instances in
    let input : (is_all_over (with_files_readied w) && is_init_file (readied_file (is_all_over w) w.file_delete)) ≡ false =
    ap (λ b. b && is_init_file (readied_file (is_all_over w) w.file_delete)) over_all ∙ file_readied-once (is_all_over w) w.file_delete in
    let outputs : has_output_to_ready w.canonical (outputs_readied w.canonical w.instances) ≡ false = outputs_readied-once w.canonical w.instances in
    grind arith

-- where nothing is to name, nothing changes
pub files-untouched : (w : Workunit) → has_files_to_ready w ≡ false → readied w ≡ w
files-untouched w e = by (is_done_assimilate w.assimilate) refl
  where
    f : ℕ → Instance → Instance
    f = with_output_readied w.canonical (list_all is_finished w.instances)

    by : (b : Bool) → is_done_assimilate w.assimilate ≡ b → cond b (with_files_readied w) w ≡ w
    by false undone = refl
    by true done =
        let input : (is_all_over w && is_init_file w.file_delete) ≡ false = grind arith in
        let outputs : has_output_to_ready w.canonical w.instances ≡ false = grind arith in
        let each = λ (n : ℕ) (x : Instance) (h : is_output_to_ready w.canonical (list_all is_finished w.instances) n x ≡ false).
        ap (λ g. record x { file_delete = g }) (file-untouched (may_output_go w.canonical (list_all is_finished w.instances) n x) x.file_delete h) in
        ap (λ g. record w { file_delete = g; instances = outputs_readied w.canonical w.instances }) (file-untouched (is_all_over w) w.file_delete input)
        ∙ ap (λ zs. record w { instances = zs })
        (placed-untouched (is_output_to_ready w.canonical (list_all is_finished w.instances)) f each 0 w.instances outputs)

-- ---- under a mask

pub unsent_closed : (i : Instance) → is_unsent (closed i) ≡ false
unsent_closed i = grind arith

-- nothing is unsent where viable successes have a verdict and the others are closed
pub unsent_judged : (v : ValidateState) (i : Instance) → is_unsent (cond (is_viable i) (record i { validate_state = v }) (closed i)) ≡ false
unsent_judged v i = grind arith

viable_given_up : (i : Instance) → is_viable (given_up i) ≡ false
viable_given_up i = grind arith

assimilate-untouched : (a : Assimilate) → is_init_assimilate a ≡ false → readied_assimilate a ≡ a
assimilate-untouched a e = ap (λ b. cond b assimilate.Ready a) e

-- once settled, nothing is left to settle
pub settled-once : (w : Workunit) → is_unsettled (settled w) ≡ false
settled-once w =
    let unsents : list_any is_unsent (map given_up w.instances) ≡ false = any_false-map is_unsent given_up (unsent_judged validate.NoCheck) w.instances in
    let viables : list_any is_viable (map given_up w.instances) ≡ false = any_false-map is_viable given_up viable_given_up w.instances in
    grind arith

-- naming files for deletion unsettles nothing
pub unsettled-readied : (w : Workunit) → is_unsettled (readied w) ≡ is_unsettled w
unsettled-readied w =
    let f = with_output_readied w.canonical (list_all is_finished w.instances) in
    let a = any-placed is_unsent is_unsent f (λ n x. refl) 0 w.instances in
    let b = any-placed is_viable is_viable f (λ n x. refl) 0 w.instances in
    cond_keeps is_unsettled (is_done_assimilate w.assimilate) (with_files_readied w) w (ap (λ v. not (is_clear w.error_mask) && (is_init_assimilate w.assimilate || v || list_any is_viable (outputs_readied w.canonical w.instances))) a ∙ ap (λ v. not (is_clear w.error_mask) && (is_init_assimilate w.assimilate || list_any is_unsent w.instances || v)) b)

given_up-untouched : (i : Instance) → (is_unsent i || is_viable i) ≡ false → given_up i ≡ i
given_up-untouched i e = grind arith

either_any : {A : Type 0} (p q : A → Bool) (xs : List A) → list_any p xs ≡ false → list_any q xs ≡ false → list_any (λ x. p x || q x) xs ≡ false
either_any p q [] e f = refl
either_any p q (x ∷ xs) e f = let rest = either_any p q xs (grind arith) (grind arith) in grind arith

-- where nothing is unsettled, nothing changes
pub settled-untouched : (w : Workunit) → is_unsettled w ≡ false → settled w ≡ w
settled-untouched w e = by (is_clear w.error_mask) refl
  where
    by : (b : Bool) → is_clear w.error_mask ≡ b → cond b w (ended w) ≡ w
    by true clear = refl
    by false set =
        let init : is_init_assimilate w.assimilate ≡ false = grind arith in
        let unsents : list_any is_unsent w.instances ≡ false = grind arith in
        let viables : list_any is_viable w.instances ≡ false = grind arith in
        let either = either_any is_unsent is_viable w.instances unsents viables in
        ap (λ s. record w { assimilate = s; instances = map given_up w.instances }) (assimilate-untouched w.assimilate init)
        ∙ ap (λ zs. record w { instances = zs }) (map-untouched (λ i. is_unsent i || is_viable i) given_up given_up-untouched w.instances either)

-- ---- classes

pub not_lt-zero : (n : ℕ) → nat_lt 0 n ≡ false → n ≡ 0
not_lt-zero n e = grind (arith, nat_tests)

-- once it is unbound, a workunit that is not active has no class
pub unbound-once : (w : Workunit) → is_to_unbind (unbound w) ≡ false
unbound-once w = grind (arith, nat_tests)

-- where nothing is to unbind, nothing changes
pub unbound-untouched : (w : Workunit) → is_to_unbind w ≡ false → unbound w ≡ w
unbound-untouched w e = grind (arith, nat_tests)
