-- What becomes of the instances of a workunit, each at its place.
use Rattle.std.proofs.Common.{◌≡◌, ◌≢◌, ℕ, zero, suc, ◌+◌, Bool, true, false, ◌&&◌, ◌||◌, List, [], ◌∷◌, ◌++◌, map, replicate, slice_get, slice_set, Option, Some, None, option_map, refl, sym, ap, subst, ◌∙◌, bytes_eq, arith}
use Rattle.std.specs.List.{AllByRecursion}
use Rattle.std.specs.Option.{option_map_or}
use Rattle.wu_core.specs.Workunit.{fresh}
use Rattle.wu_core.specs.declared.workunit.Instance.{Instance}
use Rattle.wu_core.specs.declared.states.FileDelete.{FileDelete}
use Rattle.wu_core.specs.declared.states.FileDelete.TheVariants as file_delete
use Rattle.wu_core.specs.declared.states.Outcome.TheVariants as outcome
use Rattle.wu_core.specs.declared.states.Status.{Status}
use Rattle.wu_core.specs.declared.states.ValidateState.{ValidateState}
use Rattle.wu_core.specs.declared.states.ValidateState.TheVariants as validate
use Rattle.wu_rules.specs.Assimilation.{without_output}
use Rattle.wu_rules.specs.Instances.{closed, given_up, is_new, is_open_verdict, is_success, is_unsent, is_viable, output_readied, readied_file, timed_out}
use Rattle.wu_rules.specs.Reporting.{reported_as}
use Rattle.wu_rules.specs.Sending.{due_at}
use Rattle.wu_rules.specs.Validation.{doubted, doubted_or_closed, is_judged_where, judged_by, judged_late_by, refused_where}
use Rattle.wu_rules.specs.Consistent.{IsPossible, instance_host, is_valid_at, is_valid_verdict}
use Rattle.wu_rules_laws.proofs.Changed.{placed}

-- ---- verdicts and states

-- of what is possible, what is unsent has no verdict
pub unsent_init : (i : Instance) → IsPossible i → is_unsent i ≡ true → i.validate_state ≡ validate.Init
unsent_init i possible e = possible.judged (grind arith) (λ f. grind arith)

-- a file that is named for deletion is not in error
pub readied_right : (b : Bool) (f : FileDelete) → f ≢ file_delete.Error → readied_file b f ≢ file_delete.Error
readied_right b f right e = grind arith

-- ---- what becomes of one instance

-- It stays possible and keeps a final verdict and its host; it is made VALID or not.
pub record Becomes (made : Bool) (i j : Instance) : Type 0 where
  pub possible : IsPossible i → IsPossible j
  pub valid : is_valid_verdict j.validate_state ≡ (made || is_valid_verdict i.validate_state)
  pub final : is_open_verdict i.validate_state ≡ false → j.validate_state ≡ i.validate_state
  pub host : j.host ≡ i.host

-- what stays becomes itself
pub stays : (i : Instance) → Becomes false i i
stays i = record { possible = λ h. h; valid = refl; final = λ e. refl; host = refl }

-- a possible instance that is sent stays possible
pub possible_sent : (deadline : ℕ) (host : List ℕ) (moment : ℕ) (i : Instance) → IsPossible i → is_unsent i ≡ true
    → IsPossible (due_at deadline host moment i)
possible_sent deadline host moment i h e = grind arith

-- a possible instance that is reported, and was no success and not refused
pub becomes_reported : (moment : ℕ) (status : Status) (output : List ℕ) (i : Instance) → IsPossible i → is_success i ≡ false → i.outcome ≢ outcome.ValidateError
    → Becomes false i (reported_as moment status output i)
becomes_reported moment status output i possible fails other = grind arith

-- ---- what the rules make of one instance

-- one that is closed where it is unsent
pub becomes_closed : (i : Instance) → Becomes false i (closed i)
becomes_closed i = grind arith

-- one that is over where it is overdue
pub becomes_timed_out : (now : ℕ) (i : Instance) → Becomes false i (timed_out now i)
becomes_timed_out now i = grind arith

-- one of a workunit that is given up
pub becomes_given_up : (i : Instance) → Becomes false i (given_up i)
becomes_given_up i = grind arith

-- what is judged is viable
pub judged_is_viable : (undecided : Bool) (i : Instance) → is_judged_where undecided i ≡ true → is_viable i ≡ true
judged_is_viable undecided i e = grind arith

-- one that is refused where it is no result
pub becomes_refused_where : (undecided : Bool) (i : Instance) → Becomes false i (refused_where undecided i)
becomes_refused_where undecided i = grind arith

-- one that is inconclusive where it is viable
pub becomes_doubted : (i : Instance) → Becomes false i (doubted i)
becomes_doubted i = grind arith

-- one that is inconclusive where it is viable, and else closed
pub becomes_doubted_or_closed : (i : Instance) → Becomes false i (doubted_or_closed i)
becomes_doubted_or_closed i = grind arith

-- one whose output is deleted where it is ready for that
pub becomes_without_output : (i : Instance) → Becomes false i (without_output i)
becomes_without_output i = grind arith

-- one whose output is named for deletion
pub becomes_readied : (may_go : Bool) (i : Instance) → Becomes false i (output_readied may_go i)
becomes_readied may_go i = grind arith

-- one that is judged at the decision: made VALID where it is viable and equal
pub becomes_judged_by : (output : List ℕ) (i : Instance) → Becomes (is_viable i && bytes_eq i.output output) i (judged_by output i)
becomes_judged_by output i = grind arith

-- one that is judged after the decision: made VALID where it is new and equal
pub becomes_judged_late_by : (output : List ℕ) (i : Instance) → Becomes (is_new i && bytes_eq i.output output) i (judged_late_by false output i)
becomes_judged_late_by output i = grind arith

-- one that is too late where it is new
pub becomes_too_late : (output : List ℕ) (i : Instance) → Becomes false i (judged_late_by true output i)
becomes_too_late output i = grind arith

-- ---- what becomes of all of them

-- each instance becomes the one at its place, and any more are new
abbrev pub AllBecome : (Instance → Bool) → List Instance → List Instance → Type 0
AllBecome made [] ys = AllByRecursion (λ y. y ≡ fresh) ys
AllBecome made (x ∷ xs) [] = ⊥
AllBecome made (x ∷ xs) (y ∷ ys) = Becomes (made x) x y × AllBecome made xs ys

-- none is made VALID
abbrev pub none_made : Instance → Bool
none_made i = false

-- where each is changed
pub all_become : (made : Instance → Bool) (f : Instance → Instance) → ((i : Instance) → Becomes (made i) i (f i)) → (xs : List Instance)
    → AllBecome made xs (map f xs)
all_become made f each [] = tt
all_become made f each (x ∷ xs) = (each x, all_become made f each xs)

-- where each is changed by its place
pub all_become-placed : (f : ℕ → Instance → Instance) → ((n : ℕ) (i : Instance) → Becomes false i (f n i)) → (s : ℕ) (xs : List Instance)
    → AllBecome none_made xs (placed f s xs)
all_become-placed f each s [] = tt
all_become-placed f each s (x ∷ xs) = (each s x, all_become-placed f each (s + 1) xs)

-- new instances are new
all_fresh : (n : ℕ) → AllByRecursion (λ y. y ≡ fresh) (replicate n fresh)
all_fresh zero = tt
all_fresh (suc n) = (refl, all_fresh n)

-- where none is changed
pub all_stay : (xs : List Instance) → AllBecome none_made xs xs
all_stay [] = tt
all_stay (x ∷ xs) = (stays x, all_stay xs)

-- where new ones are added
pub all_become-more : (xs : List Instance) (n : ℕ) → AllBecome none_made xs (xs ++ replicate n fresh)
all_become-more [] n = all_fresh n
all_become-more (x ∷ xs) n = (stays x, all_become-more xs n)

-- where one is changed
pub all_become-set : (xs : List Instance) (n : ℕ) (i j : Instance) → slice_get xs n ≡ Some i → Becomes false i j → AllBecome none_made xs (slice_set xs n j)
all_become-set [] n i j e h = tt
all_become-set (x ∷ xs) zero i j e h = let same : x ≡ i = cc in (subst (λ y. Becomes false y j) (sym same) h, all_stay xs)
all_become-set (x ∷ xs) (suc n) i j e h = (stays x, all_become-set xs n i j e h)

-- ---- what that leaves

-- a new instance is possible
fresh_possible : IsPossible fresh
fresh_possible = record { active = λ e. cc; sendable = λ e. cc; refused = λ e. cc; deletable = λ e. cc; judged = λ e f. refl }

-- new instances are possible
all_fresh_possible : (ys : List Instance) → AllByRecursion (λ y. y ≡ fresh) ys → AllByRecursion IsPossible ys
all_fresh_possible [] h = tt
all_fresh_possible (y ∷ ys) h = (subst IsPossible (sym h.0) fresh_possible, all_fresh_possible ys h.1)

-- all stay possible
pub all_possible : (made : Instance → Bool) (xs ys : List Instance) → AllBecome made xs ys → AllByRecursion IsPossible xs → AllByRecursion IsPossible ys
all_possible made [] ys h all = all_fresh_possible ys h
all_possible made (x ∷ xs) [] h all = absurd h
all_possible made (x ∷ xs) (y ∷ ys) h all = (h.0.possible all.0, all_possible made xs ys h.1 all.1)

-- the verdict of the instance of this number, if there is one
abbrev pub verdict_at : List Instance → ℕ → Option ValidateState
verdict_at instances n = option_map (λ i. i.validate_state) (slice_get instances n)

-- what holds of two places without an instance, of a new instance, and of one and what it becomes, holds at each place
become_at : (P : Option Instance → Option Instance → Type 0) (made : Instance → Bool) → P None None → P None (Some fresh)
    → ((x y : Instance) → Becomes (made x) x y → P (Some x) (Some y)) → (xs ys : List Instance) → AllBecome made xs ys
    → (n : ℕ) → P (slice_get xs n) (slice_get ys n)
become_at P made none new one [] [] h n = none
become_at P made none new one [] (y ∷ ys) h zero = subst (λ i. P None (Some i)) (sym h.0) new
become_at P made none new one [] (y ∷ ys) h (suc n) = become_at P made none new one [] ys h.1 n
become_at P made none new one (x ∷ xs) [] h n = absurd h
become_at P made none new one (x ∷ xs) (y ∷ ys) h zero = one x y h.0
become_at P made none new one (x ∷ xs) (y ∷ ys) h (suc n) = become_at P made none new one xs ys h.1 n

-- a final verdict stays
pub final_at : (made : Instance → Bool) (xs ys : List Instance) → AllBecome made xs ys → (n : ℕ) (v : ValidateState) → verdict_at xs n ≡ Some v
    → is_open_verdict v ≡ false → verdict_at ys n ≡ Some v
final_at made xs ys h n v =
    become_at (λ o p. option_map (λ i. i.validate_state) o ≡ Some v → is_open_verdict v ≡ false → option_map (λ i. i.validate_state) p ≡ Some v) made
    (λ e final. e) (λ e final. cc) (λ x y become e final.
    let same : x.validate_state ≡ v = cc in
    ap Some (become.final (subst (λ u. is_open_verdict u ≡ false) (sym same) final) ∙ same)) xs ys h n

-- VALID is what was VALID and what is made so
pub valid_at : (made : Instance → Bool) (xs ys : List Instance) → AllBecome made xs ys → (n : ℕ)
    → is_valid_at ys n ≡ (option_map_or made (slice_get xs n) false || is_valid_at xs n)
valid_at made xs ys h n =
    become_at (λ o p. option_map_or (λ i. is_valid_verdict i.validate_state) p false
    ≡ (option_map_or made o false || option_map_or (λ i. is_valid_verdict i.validate_state) o false)) made
    refl refl (λ x y become. become.valid) xs ys h n

-- each has its host still, and no other
pub same_host : (made : Instance → Bool) (xs ys : List Instance) → AllBecome made xs ys → (n : ℕ) → instance_host ys n ≡ instance_host xs n
same_host made xs ys h n =
    become_at (λ o p. option_map_or (λ i. i.host) p None ≡ option_map_or (λ i. i.host) o None) made refl refl (λ x y become. become.host) xs ys h n
