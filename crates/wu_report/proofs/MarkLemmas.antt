-- A scan of a text that finds a line that begins with '=', and the texts and parts of lines in which it finds none.
use Rattle.std.proofs.Common.{◌≡◌, ◌≢◌, ℕ, zero, suc, ◌+◌, ◌-◌, ◌/◌, ◌%◌, ◌==◌, Bool, true, false, cond, not, ◌&&◌, nat_le, true≢false, List, [], ◌∷◌, ◌++◌, length, take, flat_map, slice_get, slice_index, All, Option, Some, unwrap_or, decimal, append_assoc, append-nil, arith, refl, sym, ap, subst, ◌∙◌, lt-ltb, ne_eqb}
use Rattle.std.proofs.lemmas.Bool.{and_from}
use Rattle.std.proofs.lemmas.List.Elements.{All-from_recursion, All-head, All-tail}
use Rattle.std.specs.Fmt.{digit_glyph, digits, digits_onto}
use Rattle.std.specs.List.{AllByRecursion, list_all, onto_first, slice_split}
use Rattle.std.specs.Str.Lines.{lines, lines_of_parts, strip_carriage_return}
use Rattle.wu_core.specs.Names.{is_name, is_name_byte}
use Rattle.wu_report.specs.Marks.{NoLineBeginsWith, equals_sign}

pub both_true : (a b : Bool) → (a && b) ≡ true → (a ≡ true) × (b ≡ true)
both_true true b h = (refl, h)
both_true false b h = absurd (true≢false (sym h))

-- ---- the scan

-- whether no line of a text begins with '=', if its first byte begins one just where the flag says so
abbrev pub is_unmarked : Bool → List ℕ → Bool
is_unmarked begins [] = true
is_unmarked begins (byte ∷ bytes) = not (begins && byte == 61) && is_unmarked (byte == 10) bytes

abbrev IsUnmarked : List ℕ → Type 0
IsUnmarked line = slice_get line 0 ≢ Some 61

-- no part begins with '=', except the first where the flag does not say that it begins a line
abbrev AreUnmarked : Bool → List (List ℕ) → Type 0
AreUnmarked begins [] = Unit {0}
AreUnmarked begins (part ∷ parts) = (begins ≡ true → IsUnmarked part) × AllByRecursion IsUnmarked parts

none_unmarked : IsUnmarked []
none_unmarked e = cc

other_unmarked : (byte : ℕ) (bytes : List ℕ) → not (byte == 61) ≡ true → IsUnmarked (byte ∷ bytes)
other_unmarked byte bytes h e =
    let same : byte ≡ 61 = ap (λ (o : Option ℕ). unwrap_or o 0) e in
    true≢false (sym h ∙ ap (λ (b : ℕ). not (b == 61)) same)

first_too : (parts : List (List ℕ)) → AreUnmarked true parts → AllByRecursion IsUnmarked parts
first_too [] all = tt
first_too (part ∷ parts) all = (all.0 refl, all.1)

joined : (begins : Bool) (byte : ℕ) (parts : List (List ℕ)) → not (begins && byte == 61) ≡ true → AreUnmarked false parts → AreUnmarked begins (onto_first byte parts)
joined begins byte [] h all = (λ is. other_unmarked byte [] (subst (λ (b : Bool). not (b && byte == 61) ≡ true) is h), tt)
joined begins byte (part ∷ parts) h all = (λ is. other_unmarked byte part (subst (λ (b : Bool). not (b && byte == 61) ≡ true) is h), all.1)

parts_unmarked : (text : List ℕ) (begins : Bool) → is_unmarked begins text ≡ true → AreUnmarked begins (slice_split (λ b. b == 10) text)
parts_unmarked [] begins h = (λ _. none_unmarked, tt)
parts_unmarked (byte ∷ bytes) begins h =
    let both = both_true (not (begins && byte == 61)) (is_unmarked (byte == 10) bytes) h in
    by_end (byte == 10) both.0 (parts_unmarked bytes (byte == 10) both.1)
  where
    by_end : (end : Bool) → not (begins && byte == 61) ≡ true → AreUnmarked end (slice_split (λ b. b == 10) bytes)
        → AreUnmarked begins (cond end ([] ∷ slice_split (λ b. b == 10) bytes) (onto_first byte (slice_split (λ b. b == 10) bytes)))
    by_end true other rest = (λ _. none_unmarked, first_too (slice_split (λ b. b == 10) bytes) rest)
    by_end false other rest = joined begins byte (slice_split (λ b. b == 10) bytes) other rest

front_unmarked : (line : List ℕ) (n : ℕ) → IsUnmarked line → IsUnmarked (take n line)
front_unmarked line zero h = none_unmarked
front_unmarked [] (suc n) h = h
front_unmarked (byte ∷ bytes) (suc n) h = h

stripped_unmarked : (line : List ℕ) → IsUnmarked line → IsUnmarked (strip_carriage_return line)
stripped_unmarked line h = by_last (slice_index line (length line - 1) == 13)
  where
    by_last : (b : Bool) → IsUnmarked (cond b (take (length line - 1) line) line)
    by_last true = front_unmarked line (length line - 1) h
    by_last false = h

lines_unmarked : (parts : List (List ℕ)) → AllByRecursion IsUnmarked parts → AllByRecursion IsUnmarked (lines_of_parts parts)
lines_unmarked [] all = tt
lines_unmarked (part ∷ []) all = by_length (length part == 0)
  where
    by_length : (b : Bool) → AllByRecursion IsUnmarked (cond b [] (part ∷ []))
    by_length true = tt
    by_length false = all
lines_unmarked (part ∷ next ∷ more) all = (stripped_unmarked part all.0, lines_unmarked (next ∷ more) all.1)

unmarked_text : (text : List ℕ) → is_unmarked true text ≡ true → NoLineBeginsWith equals_sign text
unmarked_text text h =
    All-from_recursion IsUnmarked (lines text)
    (lines_unmarked (slice_split (λ b. b == 10) text) (first_too (slice_split (λ b. b == 10) text) (parts_unmarked text true h)))

-- ---- texts of whole lines

-- after the text the scan goes on as at its beginning: it is made of whole lines, and none begins with '='
abbrev pub IsWhole : List ℕ → Type 0
IsWhole text = (rest : List ℕ) → is_unmarked true (text ++ rest) ≡ is_unmarked true rest

pub whole_append : (xs ys : List ℕ) → IsWhole xs → IsWhole ys → IsWhole (xs ++ ys)
whole_append xs ys h k rest = ap (is_unmarked true) (append_assoc xs ys rest) ∙ h (ys ++ rest) ∙ k rest

-- so are the texts of a list's elements, one after another, where each is
pub whole_flat_map : {X : Type 0} (P : X → Type 0) (text : X → List ℕ) → ((x : X) → P x → IsWhole (text x)) → (xs : List X) → All P xs → IsWhole (flat_map text xs)
whole_flat_map P text each [] all = λ rest. refl
whole_flat_map P text each (x ∷ xs) all =
    whole_append (text x) (flat_map text xs) (each x (All-head P x xs all)) (whole_flat_map P text each xs (All-tail P x xs all))

pub unmarked_whole : (text : List ℕ) → IsWhole text → NoLineBeginsWith equals_sign text
unmarked_whole text h = unmarked_text text (ap (is_unmarked true) (sym (append-nil text)) ∙ h [])

-- ---- parts of lines

abbrev pub is_inside : ℕ → Bool
is_inside byte = not (byte == 10)

-- the part has no end of a line
abbrev pub IsInside : List ℕ → Type 0
IsInside text = list_all is_inside text ≡ true

abbrev pub is_front : List ℕ → Bool
is_front [] = false
is_front (byte ∷ bytes) = not (byte == 61)

-- the part has a first byte, which is not '='
abbrev pub IsFront : List ℕ → Type 0
IsFront text = is_front text ≡ true

-- the scan passes such a part in a line
pub past : (text : List ℕ) → IsInside text → (rest : List ℕ) → is_unmarked false (text ++ rest) ≡ is_unmarked false rest
past [] h rest = refl
past (byte ∷ bytes) h rest =
    let both = both_true (is_inside byte) (list_all is_inside bytes) h in
    by_end (byte == 10) both.0 (past bytes both.1 rest)
  where
    by_end : (end : Bool) → not end ≡ true → is_unmarked false (bytes ++ rest) ≡ is_unmarked false rest → is_unmarked end (bytes ++ rest) ≡ is_unmarked false rest
    by_end true h k = absurd (true≢false (sym h))
    by_end false h k = k

-- and at the front of one
pub begun : (text : List ℕ) → IsFront text → IsInside text → (rest : List ℕ) → is_unmarked true (text ++ rest) ≡ is_unmarked false rest
begun [] front h rest = absurd (true≢false (sym front))
begun (byte ∷ bytes) front h rest = ap (λ (b : Bool). b && is_unmarked (byte == 10) (bytes ++ rest)) front ∙ past (byte ∷ bytes) h rest

-- ---- numbers

pub digit_inside : (digit : ℕ) → is_inside (48 + digit) ≡ true
digit_inside digit = ap not (ne_eqb (48 + digit) 10 (λ e. omega arith))

either : (P : List ℕ → Type 0) (b : Bool) (xs ys : List ℕ) → P xs → P ys → P (cond b xs ys)
either P true xs ys h k = h
either P false xs ys h k = k

module _ (n : ℕ) where
  glyph_is : digit_glyph false (n % 10) ≡ 48 + n % 10
  glyph_is = ap (λ (b : Bool). cond b (48 + n % 10) (87 + n % 10)) (lt-ltb (n % 10) 10 (omega arith))

  glyph_inside : is_inside (digit_glyph false (n % 10)) ≡ true
  glyph_inside = ap is_inside glyph_is ∙ digit_inside (n % 10)

  glyph_front : not (digit_glyph false (n % 10) == 61) ≡ true
  glyph_front = ap (λ (d : ℕ). not (d == 61)) glyph_is ∙ ap not (ne_eqb (48 + n % 10) 61 (λ e. omega arith))

onto_inside : (k n : ℕ) (acc : List ℕ) → IsInside acc → IsInside (digits_onto k 10 false n acc)
onto_inside zero n acc h = h
onto_inside (suc k) n acc h =
    let more : IsInside (digit_glyph false (n % 10) ∷ acc) = and_from _ _ (glyph_inside n) h in
    either IsInside (n / 10 == 0) _ _ more (onto_inside k (n / 10) _ more)

onto_front : (k n : ℕ) (acc : List ℕ) → IsFront (digits_onto (suc k) 10 false n acc)
onto_front zero n acc = either IsFront (n / 10 == 0) _ _ (glyph_front n) (glyph_front n)
onto_front (suc k) n acc = either IsFront (n / 10 == 0) _ _ (glyph_front n) (onto_front k (n / 10) _)

decimal_inside : (n : ℕ) → IsInside (decimal n)
unfolding digits
decimal_inside n = onto_inside 64 n [] refl

decimal_front : (n : ℕ) → IsFront (decimal n)
unfolding digits
decimal_front n = onto_front 63 n []

pub past_decimal : (n : ℕ) (rest : List ℕ) → is_unmarked false (decimal n ++ rest) ≡ is_unmarked false rest
past_decimal n = past (decimal n) (decimal_inside n)

pub begun_decimal : (n : ℕ) (rest : List ℕ) → is_unmarked true (decimal n ++ rest) ≡ is_unmarked false rest
begun_decimal n = begun (decimal n) (decimal_front n) (decimal_inside n)

-- ---- names

-- a byte that passes a test is no other one that fails it
differs : (test : ℕ → Bool) (other byte : ℕ) → test other ≡ false → test byte ≡ true → not (byte == other) ≡ true
differs test other byte fails passes = ap not (ne_eqb byte other (λ same. true≢false (sym passes ∙ ap test same ∙ fails)))

name_bytes : (name : List ℕ) → is_name name ≡ true → list_all is_name_byte name ≡ true
name_bytes name h = (both_true (nat_le 1 (length name) && nat_le (length name) 64) (list_all is_name_byte name) h).1

bytes_inside : (bytes : List ℕ) → list_all is_name_byte bytes ≡ true → IsInside bytes
bytes_inside [] h = refl
bytes_inside (byte ∷ bytes) h =
    let both = both_true (is_name_byte byte) (list_all is_name_byte bytes) h in
    and_from _ _ (differs is_name_byte 10 byte refl both.0) (bytes_inside bytes both.1)

name_front : (name : List ℕ) → is_name name ≡ true → IsFront name
name_front [] h = absurd (true≢false (sym h))
name_front (byte ∷ bytes) h = differs is_name_byte 61 byte refl (both_true (is_name_byte byte) (list_all is_name_byte bytes) (name_bytes (byte ∷ bytes) h)).0

pub past_name : (name : List ℕ) → is_name name ≡ true → (rest : List ℕ) → is_unmarked false (name ++ rest) ≡ is_unmarked false rest
past_name name h = past name (bytes_inside name (name_bytes name h))

pub begun_name : (name : List ℕ) → is_name name ≡ true → (rest : List ℕ) → is_unmarked true (name ++ rest) ≡ is_unmarked false rest
begun_name name h = begun name (name_front name h) (bytes_inside name (name_bytes name h))

-- ---- digits of a table, as of hex

pub read_inside : (table : List ℕ) → IsInside table → (i : ℕ) → is_inside (slice_index table i) ≡ true
read_inside [] h i = refl
read_inside (byte ∷ bytes) h zero = (both_true (is_inside byte) (list_all is_inside bytes) h).0
read_inside (byte ∷ bytes) h (suc i) = read_inside bytes (both_true (is_inside byte) (list_all is_inside bytes) h).1 i
