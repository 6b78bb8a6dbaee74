-- The last '_' of a text parts the workunit's name from the place.
use Rattle.std.proofs.Common.{◌≡◌, ◌<◌, ◌+◌, ◌-◌, ℕ, Bool, true, false, not, List, [], ◌∷◌, length, take, drop, zero, suc, if◌then◌else◌, Err, arith, refl, slice_index, ◌||◌, inl, inr, Option, Some, None, Ok, Result, ◌∙◌}
use Rattle.std.proofs.lemmas.List.Sums.{suffix_len_is}
use Rattle.std.proofs.lemmas.List.{length-drop, take_all}
use Rattle.std.specs.List.{list_any, before_last, after_last, suffix_len}
use Rattle.wu_core.specs.declared.fault.Fault.{Fault}
use Rattle.wu_core.specs.declared.fault.Fault.TheVariants.{BadName}
use Rattle.wu_core.specs.declared.name.ResultName.{ResultName}
use Rattle.wu_core.specs.Names.{is_name, name_of, place_of}
use Rattle.wu_core.specs.Reads.{IsOrWantsMemory, TellsRefusal}
use Rattle.wu_core.specs.ResultNames.{is_underscore, instance_of, result_name_of, IsFreeFrom, IsLastUnderscore}

none_from : (text : List ℕ) → ((k : ℕ) → k < length text → is_underscore (slice_index text k) ≡ false) → list_any is_underscore text ≡ false
none_from [] h = refl
none_from (x ∷ xs) h = rw (h 0 (omega arith)) (none_from xs (λ k within. h (suc k) (omega arith)))

any_at : (text : List ℕ) (i : ℕ) → i < length text → is_underscore (slice_index text i) ≡ true → list_any is_underscore text ≡ true
any_at [] i within h = absurd (omega arith)
any_at (x ∷ xs) zero within h = rw h refl
any_at (x ∷ xs) (suc i) within h = or_true (is_underscore x) _ (any_at xs i (omega arith) h)
  where
    or_true : (a b : Bool) → b ≡ true → (a || b) ≡ true
    or_true true b h = refl
    or_true false b h = h

-- a text with no '_' names no instance
pub result_name_of-none : (text : List ℕ) → IsFreeFrom text 0 → result_name_of text ≡ Err BadName
result_name_of-none text free = rw (none_from text (λ k within. free k (omega arith) within)) refl

not_false : (b : Bool) → b ≡ false → not b ≡ true
not_false b h = rw h refl

not_true : (b : Bool) → b ≡ true → not b ≡ false
not_true b h = rw h refl

after_length : (text : List ℕ) (i : ℕ) → IsLastUnderscore text i → suffix_len (λ x. not (is_underscore x)) text ≡ length text - (i + 1)
after_length text i (within, here, free) =
    suffix_len_is (λ x. not (is_underscore x)) text (i + 1) 0 (omega arith) (λ k from below. not_false _ (free k from below)) (λ _. let e : i + 1 - 1 ≡ i = omega arith in rw e (not_true _ here))

-- what stands before the last '_', and after it
pub before_last-at : (text : List ℕ) (i : ℕ) → IsLastUnderscore text i → before_last is_underscore text ≡ take i text
before_last-at text i last =
    let e : length text - (length text - (i + 1)) - 1 ≡ i = omega (arith, last.0) in
    rw (after_length text i last, e) refl

pub after_last-at : (text : List ℕ) (i : ℕ) → IsLastUnderscore text i → after_last is_underscore text ≡ drop (i + 1) text
after_last-at text i last =
    let e : length text - (length text - (i + 1)) ≡ i + 1 = omega (arith, last.0) in
    rw (after_length text i last, e) refl

pub result_name_of-at : (text : List ℕ) (i : ℕ) → IsLastUnderscore text i
    → result_name_of text ≡ (if is_name (take i text) then instance_of (take i text) (place_of (drop (i + 1) text)) else Err BadName)
result_name_of-at text i last =
    rw (any_at text i last.0 last.1, before_last-at text i last, after_last-at text i last) refl

-- the bytes after a place, as a slice has them
abbrev pub tail_of : List ℕ → ℕ → List ℕ
tail_of text i = take (length text - (i + 1)) (drop (i + 1) text)

tail_of-drop : (text : List ℕ) (i : ℕ) → tail_of text i ≡ drop (i + 1) text
tail_of-drop text i = take_all (length text - (i + 1)) (drop (i + 1) text) (omega (arith, length-drop (i + 1) text))

parts : (text : List ℕ) (i : ℕ) → IsLastUnderscore text i
    → result_name_of text ≡ (if is_name (take i text) then instance_of (take i text) (place_of (tail_of text i)) else Err BadName)
parts text i last = rw (tail_of-drop text i) (result_name_of-at text i last)

no_place : (b : Bool) (name : List ℕ) (o : Option ℕ) → None ≡ o → (if b then instance_of name o else Err BadName) ≡ Err BadName
no_place true name o e = rw (← e) refl
no_place false name o e = refl

pub result_name_of-no_place : (text : List ℕ) (i : ℕ) → IsLastUnderscore text i → None ≡ place_of (tail_of text i) → result_name_of text ≡ Err BadName
result_name_of-no_place text i last e = parts text i last ∙ no_place (is_name (take i text)) (take i text) _ e

no_name : (b : Bool) (name : List ℕ) (o : Option ℕ) (fault : Fault) → IsOrWantsMemory (Err fault) (if b then Ok name else Err BadName)
    → IsOrWantsMemory (Err fault) (if b then instance_of name o else Err BadName)
no_name true name o fault (inl e) = cc e
no_name true name o fault (inr e) = inr (cc e)
no_name false name o fault (inl e) = inl (cc e)
no_name false name o fault (inr e) = inr (cc e)

pub result_name_of-no_name : (text : List ℕ) (i : ℕ) (fault : Fault) → IsLastUnderscore text i → IsOrWantsMemory {T = List ℕ} (Err fault) (name_of (take i text))
    → IsOrWantsMemory {T = ResultName} (Err fault) (result_name_of text)
result_name_of-no_name text i fault last e = rw (parts text i last) (no_name (is_name (take i text)) (take i text) _ fault e)

both : (b : Bool) (name found : List ℕ) (o : Option ℕ) (n : ℕ) → Some n ≡ o → IsOrWantsMemory (Ok found) (if b then Ok name else Err BadName)
    → IsOrWantsMemory (Ok (record { workunit = found; n = n })) (if b then instance_of name o else Err BadName)
both true name found o n p (inl e) = let same : found ≡ name = cc e in inl (rw (← p, same) refl)
both true name found o n p (inr e) = cc e
both false name found o n p (inl e) = cc e
both false name found o n p (inr e) = cc e

pub result_name_of-both : (text : List ℕ) (i : ℕ) (name : List ℕ) (n : ℕ) → IsLastUnderscore text i → Some n ≡ place_of (tail_of text i)
    → IsOrWantsMemory (Ok name) (name_of (take i text)) → IsOrWantsMemory (Ok (record { workunit = name; n = n })) (result_name_of text)
result_name_of-both text i name n last p e = rw (parts text i last) (both (is_name (take i text)) (take i text) name _ n p e)

-- ---- want of memory is told of a name's text alone

told : (b : Bool) (name : List ℕ) (o : Option ℕ) (n : ℕ) (fault : Fault) → Some n ≡ o → TellsRefusal {T = List ℕ} (Err fault) (if b then Ok name else Err BadName)
    → TellsRefusal {T = ResultName} (Err fault) (if b then instance_of name o else Err BadName)
told true name o n fault p e = rw (← p) tt
told false name o n fault p e = cc e

pub result_name_of-told : (text : List ℕ) (i : ℕ) (n : ℕ) (fault : Fault) → IsLastUnderscore text i → Some n ≡ place_of (tail_of text i)
    → TellsRefusal {T = List ℕ} (Err fault) (name_of (take i text)) → TellsRefusal {T = ResultName} (Err fault) (result_name_of text)
result_name_of-told text i n fault last p e = rw (parts text i last) (told (is_name (take i text)) (take i text) _ n fault p e)

pub given_told : {T : Type 0} (x : T) (r : Result T Fault) → IsOrWantsMemory (Ok x) r → TellsRefusal (Ok x) r
given_told x (Ok y) it = tt
given_told x (Err fault) (inl is) = cc is
given_told x (Err fault) (inr is) = cc is
