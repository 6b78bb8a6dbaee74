-- Outputs while instances are judged in place.
use Rattle.std.proofs.Common.{◌≡◌, ℕ, zero, suc, ◌<◌, List, [], ◌∷◌, ◌++◌, map, length, take, drop, get_or, refl, sym, ap, ◌∙◌, Bool, true, false, cond, bytes_eq, arith}
use Rattle.std.proofs.lemmas.List.{map-append, take-append-drop}
use Rattle.wu_core.specs.declared.workunit.Instance.{Instance}
use Rattle.wu_core.specs.declared.states.ServerState.TheVariants as server
use Rattle.wu_core.specs.declared.states.Outcome.TheVariants as outcome
use Rattle.wu_rules.specs.Instances.{is_viable, is_new, is_unsent}
use Rattle.wu_rules.specs.Validation.{output_at, verdict, judged, late_verdict, judged_late}

abbrev pub outputs : List Instance → List (List ℕ)
outputs xs = map (λ i. i.output) xs

pub output_at-is : (xs : List Instance) (n : ℕ) → output_at xs n ≡ get_or (outputs xs) n []
output_at-is [] n = refl
output_at-is (x ∷ xs) zero = refl
output_at-is (x ∷ xs) (suc n) = output_at-is xs n

pub output_at-get_or : (xs : List Instance) (n : ℕ) (d : Instance) → n < length xs → output_at xs n ≡ (get_or xs n d).output
output_at-get_or [] n d lt = absurd (omega arith)
output_at-get_or (x ∷ xs) zero d lt = refl
output_at-get_or (x ∷ xs) (suc n) d lt = output_at-get_or xs n d (omega arith)

-- a change that keeps each output keeps all
pub outputs-map : (f : Instance → Instance) → ((i : Instance) → (f i).output ≡ i.output) → (xs : List Instance) → outputs (map f xs) ≡ outputs xs
outputs-map f same [] = refl
outputs-map f same (x ∷ xs) = let e = same x in let r = outputs-map f same xs in cc

pub outputs-so_far : (f : Instance → Instance) → ((i : Instance) → (f i).output ≡ i.output) → (old now : List Instance) (k : ℕ) → now ≡ map f (take k old) ++ drop k old → outputs now ≡ outputs old
outputs-so_far f same old now k e =
    ap outputs e ∙ (map-append (λ i. i.output) (map f (take k old)) (drop k old) ∙ (ap (λ zs. zs ++ outputs (drop k old)) (outputs-map f same (take k old)) ∙ (sym (map-append (λ i. i.output) (take k old) (drop k old)) ∙ ap outputs (take-append-drop k old))))

pub output_at-so_far : (f : Instance → Instance) → ((i : Instance) → (f i).output ≡ i.output) → (old now : List Instance) (k n : ℕ) → now ≡ map f (take k old) ++ drop k old → output_at now n ≡ output_at old n
output_at-so_far f same old now k n e = output_at-is now n ∙ (ap (λ zs. get_or zs n []) (outputs-so_far f same old now k e) ∙ sym (output_at-is old n))

pub output-judged : (is_equal : Bool) (i : Instance) → (judged is_equal i).output ≡ i.output
output-judged is_equal i = by_case (is_viable i) (is_unsent i)
  where
    by_case : (v u : Bool) → (cond v (record i { validate_state = verdict is_equal }) (cond u (record i { server_state = server.Over; outcome = outcome.DidntNeed }) i)).output ≡ i.output
    by_case true u = refl
    by_case false true = refl
    by_case false false = refl

pub output-judged_late : (is_gone is_equal : Bool) (i : Instance) → (judged_late is_gone is_equal i).output ≡ i.output
output-judged_late is_gone is_equal i = by_case (is_new i)
  where
    by_case : (v : Bool) → (cond v (record i { validate_state = late_verdict is_gone is_equal }) i).output ≡ i.output
    by_case true = refl
    by_case false = refl

-- what the outputs of two places give while others are judged
pub equal-so_far : (f : Instance → Instance) → ((i : Instance) → (f i).output ≡ i.output) → (old now : List Instance) (k n : ℕ) (d : Instance) → k < length now → now ≡ map f (take k old) ++ drop k old → bytes_eq (output_at now k) (output_at now n) ≡ bytes_eq (get_or now k d).output (output_at old n)
equal-so_far f same old now k n d lt e = ap (λ o. bytes_eq o (output_at now n)) (output_at-get_or now k d lt) ∙ ap (λ o. bytes_eq (get_or now k d).output o) (output_at-so_far f same old now k n e)
