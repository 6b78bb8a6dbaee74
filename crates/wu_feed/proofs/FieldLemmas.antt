-- The fields of a row, place by place.
use Rattle.std.proofs.Common.{◌≡◌, ◌≢◌, ◌≤◌, ◌<◌, ◌+◌, ℕ, zero, suc, Bool, true, false, not, ◌&&◌, bytes_eq, length, get_or, map, drop, arith, List, [], ◌∷◌, Bor, Option, Some, None, option_map, add-one, ap, refl, sym, ◌∙◌}
use Rattle.std.specs.Option.{IsSome}
use Rattle.csv.specs.Records.{field_at}
use Rattle.std.proofs.lemmas.List.{drop_all, drop_more}
use Rattle.wu_feed.specs.Fields.{two_of}
use Rattle.wu_feed.specs.Rows.{is_header}

-- there is a field at each place before the end
no_hole : (fields : List (List ℕ)) (i : ℕ) → i < length fields → None ≢ field_at fields i
unfolding field_at
no_hole [] i within e = absurd (omega arith)
no_hole (a ∷ more) zero within e = cc e
no_hole (a ∷ more) (suc i) within e = no_hole more i (omega arith) e

pub is_there : {X : Type 0} (f : X → List ℕ) (o : Option X) (fields : List (List ℕ)) (i : ℕ) → i < length fields → option_map f o ≡ field_at fields i → IsSome o
is_there f (Some x) fields i within e = refl
is_there f None fields i within e = absurd (no_hole fields i within e)

-- the fields from a place on
pub field_here : (fields : List (List ℕ)) (i : ℕ) (field : List ℕ) → Some field ≡ field_at fields i → drop i fields ≡ field ∷ drop (i + 1) fields
unfolding field_at
field_here [] i field e = cc e
field_here (a ∷ more) zero field e = cc e
field_here (a ∷ more) (suc i) field e = rw add-one (field_here more i field e ∙ rw add-one refl)

pub not_two : (fields : List (List ℕ)) → length fields ≢ 2 → None ≡ two_of fields
not_two [] other = refl
not_two (a ∷ []) other = refl
not_two (a ∷ b ∷ []) other = absurd (other refl)
not_two (a ∷ b ∷ c ∷ more) other = refl

pub two_found : (a b : List ℕ) (fields : List (List ℕ)) → length fields ≡ 2 → Some a ≡ field_at fields 0 → Some b ≡ field_at fields 1 → Some (a, b) ≡ two_of fields
unfolding field_at
two_found a b [] long first second = absurd (omega arith)
two_found a b (u ∷ []) long first second = absurd (omega arith)
two_found a b (u ∷ v ∷ []) long first second = cc (first, second)
two_found a b (u ∷ v ∷ w ∷ more) long first second = absurd (omega arith)

pub three_found : (a b c : List ℕ) (fields : List (List ℕ)) → length fields ≡ 3 → Some a ≡ field_at fields 0 → Some b ≡ field_at fields 1 → Some c ≡ field_at fields 2
    → fields ≡ a ∷ b ∷ c ∷ []
unfolding field_at
three_found a b c [] long first second third = absurd (omega arith)
three_found a b c (u ∷ []) long first second third = absurd (omega arith)
three_found a b c (u ∷ v ∷ []) long first second third = absurd (omega arith)
three_found a b c (u ∷ v ∷ w ∷ []) long first second third = cc (first, second, third)
three_found a b c (u ∷ v ∷ w ∷ x ∷ more) long first second third = absurd (omega arith)

pub five_found : (a b c d e : List ℕ) (fields : List (List ℕ)) → length fields ≡ 5 → Some a ≡ field_at fields 0 → Some b ≡ field_at fields 1 → Some c ≡ field_at fields 2
    → Some d ≡ field_at fields 3 → Some e ≡ field_at fields 4 → fields ≡ a ∷ b ∷ c ∷ d ∷ e ∷ []
unfolding field_at
five_found a b c d e [] long first second third fourth fifth = absurd (omega arith)
five_found a b c d e (u ∷ []) long first second third fourth fifth = absurd (omega arith)
five_found a b c d e (u ∷ v ∷ []) long first second third fourth fifth = absurd (omega arith)
five_found a b c d e (u ∷ v ∷ w ∷ []) long first second third fourth fifth = absurd (omega arith)
five_found a b c d e (u ∷ v ∷ w ∷ x ∷ []) long first second third fourth fifth = absurd (omega arith)
five_found a b c d e (u ∷ v ∷ w ∷ x ∷ y ∷ []) long first second third fourth fifth = cc (first, second, third, fourth, fifth)
five_found a b c d e (u ∷ v ∷ w ∷ x ∷ y ∷ z ∷ more) long first second third fourth fifth = absurd (omega arith)

pub two_long : (pair : List ℕ × List ℕ) (fields : List (List ℕ)) → Some pair ≡ two_of fields → length fields ≡ 2
two_long pair [] e = cc e
two_long pair (a ∷ []) e = cc e
two_long pair (a ∷ b ∷ []) e = refl
two_long pair (a ∷ b ∷ c ∷ more) e = cc e

-- these are the names of a header
abbrev pub are_names : List (Bor (List ℕ)) → List (List ℕ) → Bool
are_names names fields = is_header (map (λ name. name.now) names) fields

both_false : (a b : Bool) → false ≡ b → false ≡ (a && b)
both_false true b e = e
both_false false b e = refl

pub other_number : (names : List (Bor (List ℕ))) (fields : List (List ℕ)) → length fields ≢ length names → false ≡ are_names names fields
other_number [] [] other = absurd (other refl)
other_number [] (field ∷ fields) other = refl
other_number (name ∷ names) [] other = refl
other_number (name ∷ names) (field ∷ fields) other =
    both_false (bytes_eq field name.now) (are_names names fields) (other_number names fields (λ same. other (ap suc same)))

-- the name and the field at a place are compared, and then those after them
names_at : (names : List (Bor (List ℕ))) (fields : List (List ℕ)) (i : ℕ) (d : Bor (List ℕ)) (field : List ℕ) → i < length names → Some field ≡ field_at fields i
    → are_names (drop i names) (drop i fields) ≡ (bytes_eq field (get_or names i d).now && are_names (drop (i + 1) names) (drop (i + 1) fields))
names_at names fields i d field within is = rw (drop_more names i d within, field_here fields i field is) refl

compared : (same more whole : Bool) → (same && more) ≡ whole → (not same ≡ true → false ≡ whole) × (not same ≡ false → more ≡ whole)
compared true more whole e = (λ t. cc t, λ f. e)
compared false more whole e = (λ t. e, λ f. cc f)

pub name_compared : (names : List (Bor (List ℕ))) (fields : List (List ℕ)) (i : ℕ) (d : Bor (List ℕ)) (field : List ℕ) (whole : Bool) → i < length names → Some field ≡ field_at fields i
    → are_names (drop i names) (drop i fields) ≡ whole
    → (not (bytes_eq field (get_or names i d).now) ≡ true → false ≡ whole) × (not (bytes_eq field (get_or names i d).now) ≡ false → are_names (drop (i + 1) names) (drop (i + 1) fields) ≡ whole)
name_compared names fields i d field whole within is so_far =
    compared (bytes_eq field (get_or names i d).now) (are_names (drop (i + 1) names) (drop (i + 1) fields)) whole (sym (names_at names fields i d field within is) ∙ so_far)

pub all_compared : (names : List (Bor (List ℕ))) (fields : List (List ℕ)) (i : ℕ) (whole : Bool) → length names ≤ i → length fields ≡ length names
    → are_names (drop i names) (drop i fields) ≡ whole → true ≡ whole
all_compared names fields i whole past long so_far =
    let no_name = drop_all i names past in
    let no_field = drop_all i fields (omega arith) in
    rw (no_name, no_field) at so_far
