-- The lines of an input, and what is heard of them.
use Rattle.std.proofs.Common.{◌≡◌, ◌≢◌, ◌⊎◌, ◌∙◌, inl, inr, ◌==◌, append-nil, true≢false, option_copied, Bor, ℕ, zero, suc, ◌-◌, ◌+◌, ◌<◌, ◌≤◌, Bool, true, false, eqb, cond, ltb, List, [], ◌∷◌, ◌++◌, All, get_or, length, map, take, option_map, slice_get, slice_index, Option, Some, None, Result, Ok, Err, Vec, refl, sym, ap, subst, arith, append_assoc, take_all, take_at, get_or-take, length-append, length-take, length-take-le}
use Rattle.std.proofs.KnownBytes.{Consumes-kept, Consumes-nil}
use Rattle.std.proofs.BufReadLemmas.{take_through-nil, take_through_nonempty}
use Rattle.std.proofs.lemmas.Bool.{cases_Bool, eq-eqb, eqb-false, eqb-true, le-ltb, lt-ltb, ltb-false, ltb-true}
use Rattle.std.proofs.lemmas.Option.{get_or_from_slice_get, none-some, same_Some, slice_get-get_or, slice_get_within}
use Rattle.std.specs.Option.{option_eq}
use Rattle.std.proofs.lemmas.List.{take-append-le}
use Rattle.std.proofs.lemmas.List.Elements.{All-cons, All-from_get_or, All-nil, All-take}
use Rattle.std.proofs.Math.Seq.{get_or-append_seam}
use Rattle.std.proofs.Transfers.{StopsAt-take}
use Rattle.memchr.specs.Find.{is_byte, IsFirstByte, Nowhere, Passes}
use Rattle.std.specs.Io.BufRead.{drop_through, take_through}
use Rattle.std.specs.Io.KnownBytes.{Keeps}
use Rattle.wu_arguments.specs.declared.refusal.Refusal.{Refusal}
use Rattle.wu_arguments.specs.declared.refusal.Refusal.TheVariants as refusal
use Rattle.wu_arguments.specs.declared.usage.Usage.TheVariants as usage
use Rattle.wu_cli.specs.Hearing.{begin_line, heard_line, heard_lines, heard_text, Hears, HearsNext, IsKeptOf, IsPartOfLine, kept_line, KeepsLine, lines_of, TakesPart}
use Rattle.wu_cli.specs.declared.hearing.TheConstants.{LONGEST_LINE}

-- ---- the first line of an input

abbrev line_at : List ℕ → List ℕ
line_at [] = []
line_at (x ∷ xs) = cond (eqb x 10) [] (x ∷ line_at xs)

lines_first : (x : ℕ) (xs : List ℕ) → lines_of (x ∷ xs) ≡ line_at (x ∷ xs) ∷ lines_of (drop_through 10 (x ∷ xs))
lines_first x [] = at (eqb x 10)
  where
    at : (b : Bool) → cond b ([] ∷ []) ((x ∷ []) ∷ []) ≡ cond b [] (x ∷ []) ∷ lines_of (cond b [] [])
    at true = refl
    at false = refl
lines_first x (y ∷ ys) = at (eqb x 10) (lines_first y ys)
  where
    at : (b : Bool) → lines_of (y ∷ ys) ≡ line_at (y ∷ ys) ∷ lines_of (drop_through 10 (y ∷ ys)) → cond b ([] ∷ lines_of (y ∷ ys)) (begin_line x (lines_of (y ∷ ys))) ≡ cond b [] (x ∷ line_at (y ∷ ys)) ∷ lines_of (cond b (y ∷ ys) (drop_through 10 (y ∷ ys)))
    at true next = refl
    at false next = ap (begin_line x) next

first_heard : (x : ℕ) (xs : List ℕ) → slice_get (heard_lines (x ∷ xs)) 0 ≡ Some (heard_line (line_at (x ∷ xs)))
first_heard x xs = ap (λ lines. slice_get (map heard_line lines) 0) (lines_first x xs)

-- ---- what is heard of the next line

hears_line : (bytes : List ℕ) (one : Result (List ℕ) Refusal) → slice_get (heard_lines bytes) 0 ≡ Some one → heard_lines bytes ≡ one ∷ heard_lines (drop_through 10 bytes)
hears_line [] one is = absurd (none-some one is)
hears_line (x ∷ xs) one is =
    let same : heard_line (line_at (x ∷ xs)) ≡ one = same_Some _ _ (sym (first_heard x xs) ∙ is) in
    ap (map heard_line) (lines_first x xs) ∙ ap (λ o. o ∷ heard_lines (drop_through 10 (x ∷ xs))) same

hears_nothing : (bytes : List ℕ) → slice_get (heard_lines bytes) 0 ≡ None → bytes ≡ []
hears_nothing [] is = refl
hears_nothing (x ∷ xs) is = absurd (none-some _ (sym is ∙ first_heard x xs))

-- The line that was read is heard, or the input is at its end.
pub hears_next : {A : Type 0} (old new : Option (List ℕ)) (text : List ℕ) (heard : Option (Result (Vec ℕ A) Refusal)) → KeepsLine old new text
    → ((bytes : List ℕ) → IsKeptOf bytes text → option_map heard_text heard ≡ slice_get (heard_lines bytes) 0) → HearsNext old new (Ok heard)
hears_next None new text (Some one) kept is = tt
hears_next None new text None kept is = (tt, tt)
hears_next (Some bytes) new text (Some one) kept is = (drop_through 10 bytes, kept.1, hears_line bytes (heard_text one) (sym (is bytes kept.0)))
hears_next (Some bytes) new text None kept is =
    let empty = hears_nothing bytes (sym (is bytes kept.0)) in
    (empty, (drop_through 10 bytes, kept.1, ap heard_lines empty ∙ sym (ap (λ bs. heard_lines (drop_through 10 bs)) empty)))

-- ---- lines after lines

-- Nothing is heard where nothing is read.
pub hears_none : (input : Option (List ℕ)) → Hears input input []
hears_none None = tt
hears_none (Some bytes) = (bytes, refl, refl)

-- One more line is heard.
pub hears_more : (old mid new : Option (List ℕ)) (heard : List (Result (List ℕ) Refusal)) (one : Result (List ℕ) Refusal) → Hears old mid heard → Hears mid new (one ∷ []) → Hears old new (heard ++ one ∷ [])
hears_more None mid new heard one before last = tt
hears_more (Some bytes) None new heard one (rest, is, all) last = absurd (none-some rest is)
hears_more (Some bytes) (Some left) new heard one (rest, is, all) (more, then, next) =
    (more, then, all ∙ ap (λ l. heard ++ heard_lines l) (sym (same_Some _ _ is)) ∙ ap (λ l. heard ++ l) next ∙ sym (append_assoc heard (one ∷ []) (heard_lines more)))

-- ---- the part of a line that is ready

all_lack : (ready : List ℕ) (count : ℕ) → Nowhere (Passes (is_byte 10) ready) 0 count → All (λ byte. byte ≢ 10) (take count ready)
all_lack ready count none = All-from_get_or (λ byte. byte ≢ 10) (take count ready) 0 (λ i within.
    let below : i < count = omega (arith, within, length-take count ready) in
    λ is. none i (omega arith) below (eq-eqb (slice_index ready i) 10 (sym (get_or-take count ready i 0 below) ∙ is)))

-- Its end is among the bytes.
pub part_ended : (ready : List ℕ) (place : ℕ) → IsFirstByte (is_byte 10) ready (Some place) → IsPartOfLine ready (place + 1) true
part_ended ready place (first, passes) =
    let within : place + 1 ≤ length ready = omega (arith, first.high) in
    let long = length-take-le (place + 1) ready within in
    record {
      within = within;
      some = λ _. omega arith;
      stops = StopsAt-take ready 10 (place + 1) within (all_lack ready (place + 1 - 1) (λ k low high. first.before k low (omega (arith, high))));
      more = λ no. absurd (no refl);
      whole = λ _ _. ap (λ n. get_or (take (place + 1) ready) (n - 1) 0) long ∙ get_or-take (place + 1) ready (place + 1 - 1) 0 (omega arith)
          ∙ ap (λ n. get_or ready n 0) (omega arith) ∙ eqb-true (slice_index ready place) 10 passes;
    }

-- It is not.
pub part_goes_on : (ready : List ℕ) (ended : Bool) → IsFirstByte (is_byte 10) ready None → (ended ≡ true → length ready ≡ 0) → IsPartOfLine ready (length ready) ended
part_goes_on ready ended none empty =
    let all = all_lack ready (length ready) none in
    record {
      within = omega arith;
      some = λ some. some;
      stops = All-take (λ byte. byte ≢ 10) (length (take (length ready) ready) - 1) (take (length ready) ready) all;
      more = λ _. all;
      whole = λ is some. absurd (omega (arith, empty is, some, length-take (length ready) ready));
    }

-- ---- a part is taken

-- Nothing was ready.
pub none_taken : (old new : Option (List ℕ)) (text : List ℕ) → Keeps old new → TakesPart old new text text false
none_taken old new text keeps = record {
  part = [];
  kept = sym (ap (λ l. text ++ l) (take_all (LONGEST_LINE + 1 - length text) [] (omega arith)) ∙ append-nil text);
  taken = Consumes-kept old old new [] (Consumes-nil old) keeps;
  stops = All-nil (λ byte. byte ≢ 10);
  more = λ _. All-nil (λ byte. byte ≢ 10);
  whole = λ no. absurd (true≢false (sym no));
  end = λ no. absurd (true≢false (sym no));
}

-- ---- what is kept of a line

take_kept : (most : ℕ) (seen part : List ℕ) → take most seen ++ take (most - length (take most seen)) part ≡ take most (seen ++ part)
take_kept zero seen part = refl
take_kept (suc most) [] part = let all : suc most - 0 ≡ suc most = omega arith in ap (λ n. take n part) all
take_kept (suc most) (x ∷ seen) part =
    let left : suc most - suc (length (take most seen)) ≡ most - length (take most seen) = omega arith in
    ap (λ n. x ∷ take most seen ++ take n part) left ∙ ap (λ l. x ∷ l) (take_kept most seen part)

-- A part is kept after what was seen before it.
pub kept_more : (text seen part : List ℕ) → text ≡ take (LONGEST_LINE + 1) seen → kept_line text part ≡ take (LONGEST_LINE + 1) (seen ++ part)
kept_more text seen part is = ap (λ t. kept_line t part) is ∙ take_kept (LONGEST_LINE + 1) seen part

-- ---- what is heard of what was kept

lacks : (bytes : List ℕ) → All (λ byte. byte ≢ 10) (line_at bytes)
lacks [] = All-nil (λ byte. byte ≢ 10)
lacks (x ∷ xs) = elim (cases_Bool (eqb x 10)) [
  | inl is ↦ subst (λ b. All (λ byte. byte ≢ 10) (cond b [] (x ∷ line_at xs))) (sym is) (All-nil (λ byte. byte ≢ 10))
  | inr not ↦ subst (λ b. All (λ byte. byte ≢ 10) (cond b [] (x ∷ line_at xs))) (sym not) (All-cons (λ byte. byte ≢ 10) x (line_at xs) (eqb-false x 10 not) (lacks xs))
]

-- The first line with its end, or all bytes if it has none.
through : (bytes : List ℕ) → (take_through 10 bytes ≡ line_at bytes ++ 10 ∷ []) ⊎ ((take_through 10 bytes ≡ line_at bytes) × (bytes ≡ line_at bytes))
through [] = inr (refl, refl)
through (x ∷ xs) = elim (cases_Bool (eqb x 10)) [
  | inl is ↦ inl (ap (λ b. cond b (x ∷ []) (x ∷ take_through 10 xs)) is ∙ ap (λ y. y ∷ []) (eqb-true x 10 is) ∙ sym (ap (λ b. cond b [] (x ∷ line_at xs) ++ 10 ∷ []) is))
  | inr not ↦ elim (through xs) [
    | inl ended ↦ inl (ap (λ b. cond b (x ∷ []) (x ∷ take_through 10 xs)) not ∙ ap (λ l. x ∷ l) ended ∙ sym (ap (λ b. cond b [] (x ∷ line_at xs) ++ 10 ∷ []) not))
    | inr (all, same) ↦ inr (ap (λ b. cond b (x ∷ []) (x ∷ take_through 10 xs)) not ∙ ap (λ l. x ∷ l) all ∙ sym (ap (λ b. cond b [] (x ∷ line_at xs)) not), ap (λ l. x ∷ l) same ∙ sym (ap (λ b. cond b [] (x ∷ line_at xs)) not))
  ]
]

-- A text ends with its line end, or not.
pub record EndsLine (text : List ℕ) : Type 0 where
  pub some : 0 < length text
  pub last : slice_index text (length text - 1) ≡ 10

-- Whether the last byte is a line end.
pub last_ends : (text : List ℕ) (last : Option (Bor ℕ)) (end : Bor ℕ) → end.now ≡ 10 → option_copied last ≡ slice_get text (length text - 1) → option_eq (λ x y. x.now == y.now) last (Some end) ≡ true → EndsLine text
last_ends text None end ten copied is = absurd (true≢false (sym is))
last_ends text (Some byte) end ten copied is =
    let there = sym copied in
    let same : byte.now ≡ 10 = eqb-true byte.now end.now is ∙ ten in
    let within = slice_get_within text (length text - 1) byte.now there in
    record { some = omega (arith, within); last = get_or_from_slice_get text (length text - 1) byte.now 0 there ∙ same }

pub last_goes_on : (text : List ℕ) (last : Option (Bor ℕ)) (end : Bor ℕ) → end.now ≡ 10 → option_copied last ≡ slice_get text (length text - 1) → option_eq (λ x y. x.now == y.now) last (Some end) ≡ false → EndsLine text → ⊥
last_goes_on text None end ten copied isnt ends =
    none-some _ (copied ∙ slice_get-get_or text (length text - 1) 0 (let some = ends.some in omega (arith, some)))
last_goes_on text (Some byte) end ten copied isnt ends =
    eqb-false byte.now end.now isnt (sym (get_or_from_slice_get text (length text - 1) byte.now 0 (sym copied)) ∙ ends.last ∙ sym ten)

never_ends : (text : List ℕ) → All (λ byte. byte ≢ 10) text → EndsLine text → ⊥
never_ends text none ends = none (length text - 1) 0 (let some = ends.some in omega (arith, some)) ends.last

ends_whole : (line : List ℕ) → EndsLine (line ++ 10 ∷ [])
ends_whole line = record {
  some = omega (arith, length-append line (10 ∷ []));
  last = ap (λ n. get_or (line ++ 10 ∷ []) n 0) (omega (arith, length-append line (10 ∷ []))) ∙ get_or-append_seam line 10 [] 0;
}

heard_short : (line : List ℕ) → length line ≤ LONGEST_LINE → heard_line line ≡ Ok line
heard_short line short = ap (λ b. cond b (Err (refusal.Words usage.LongLine)) (Ok line)) (le-ltb LONGEST_LINE (length line) short)

heard_beyond : (line : List ℕ) → LONGEST_LINE < length line → heard_line line ≡ Err (refusal.Words usage.LongLine)
heard_beyond line long = ap (λ b. cond b (Err (refusal.Words usage.LongLine)) (Ok line)) (lt-ltb LONGEST_LINE (length line) long)

some_bytes : (bytes : List ℕ) → 0 < length bytes → slice_get (heard_lines bytes) 0 ≡ Some (heard_line (line_at bytes))
some_bytes [] some = absurd (omega (arith, some))
some_bytes (x ∷ xs) some = first_heard x xs

-- What is kept of the first line: it with its end; the front of one that is too long; or a last one, which has no end.
abbrev Kept : List ℕ → List ℕ → Type 0
Kept bytes text =
    ((text ≡ line_at bytes ++ 10 ∷ []) × (length (line_at bytes) ≤ LONGEST_LINE))
    ⊎ ((text ≡ take (LONGEST_LINE + 1) (line_at bytes)) × (LONGEST_LINE < length (line_at bytes)))
    ⊎ ((text ≡ line_at bytes) × (length (line_at bytes) ≤ LONGEST_LINE))

kept_cases : (bytes text : List ℕ) → IsKeptOf bytes text → Kept bytes text
kept_cases bytes text is =
    let line = line_at bytes in
    let most = LONGEST_LINE + 1 in
    elim (through bytes) [
      | inl ended ↦ elim (cases_Bool (ltb LONGEST_LINE (length line))) [
        | inl long ↦
            let beyond = ltb-true LONGEST_LINE (length line) long in
            inr (inl (is ∙ ap (take most) ended ∙ take-append-le most line (10 ∷ []) (omega (arith, beyond)), beyond))
        | inr short ↦
            let within = ltb-false LONGEST_LINE (length line) short in
            inl (is ∙ ap (take most) ended ∙ take_all most (line ++ 10 ∷ []) (omega (arith, within, length-append line (10 ∷ []))), within)
      ]
      | inr (all, same) ↦ elim (cases_Bool (ltb LONGEST_LINE (length line))) [
        | inl long ↦ inr (inl (is ∙ ap (take most) all, ltb-true LONGEST_LINE (length line) long))
        | inr short ↦
            let within = ltb-false LONGEST_LINE (length line) short in
            inr (inr (is ∙ ap (take most) all ∙ take_all most line (omega (arith, within)), within))
      ]
    ]

some_kept : (bytes text : List ℕ) → IsKeptOf bytes text → 0 < length text → 0 < length bytes
some_kept bytes text is some = take_through_nonempty 10 bytes (omega (arith, some, ap length is, length-take (LONGEST_LINE + 1) (take_through 10 bytes)))

-- A text with its end is heard without it.
pub heard_ended : (bytes text : List ℕ) → IsKeptOf bytes text → EndsLine text → Some (Ok (take (length text - 1) text)) ≡ slice_get (heard_lines bytes) 0
heard_ended bytes text is ends =
    let line = line_at bytes in
    elim (kept_cases bytes text is) [
      | inl (all, short) ↦
          let front : take (length text - 1) text ≡ line = ap (λ t. take (length t - 1) t) all ∙ take_at line (10 ∷ []) (length (line ++ 10 ∷ []) - 1) (omega (arith, length-append line (10 ∷ []))) in
          ap (λ t. Some (Ok t)) front ∙ sym (some_bytes bytes (some_kept bytes text is ends.some) ∙ ap Some (heard_short line short))
      | inr (inl (front, long)) ↦ absurd (never_ends text (subst (All (λ byte. byte ≢ 10)) (sym front) (All-take (λ byte. byte ≢ 10) (LONGEST_LINE + 1) line (lacks bytes))) ends)
      | inr (inr (all, short)) ↦ absurd (never_ends text (subst (All (λ byte. byte ≢ 10)) (sym all) (lacks bytes)) ends)
    ]

-- Of a text without its end, more than a line may have is a line that is too long.
pub heard_too_long : (bytes text : List ℕ) → IsKeptOf bytes text → (EndsLine text → ⊥) → LONGEST_LINE < length text → Some (Err (refusal.Words usage.LongLine)) ≡ slice_get (heard_lines bytes) 0
heard_too_long bytes text is lacks_end long =
    let line = line_at bytes in
    elim (kept_cases bytes text is) [
      | inl (all, short) ↦ absurd (lacks_end (subst EndsLine (sym all) (ends_whole line)))
      | inr (inl (front, beyond)) ↦ sym (some_bytes bytes (some_kept bytes text is (omega (arith, long))) ∙ ap Some (heard_beyond line beyond))
      | inr (inr (all, short)) ↦ absurd (omega (arith, long, short, ap length all))
    ]

-- Another one is the last line, which lacks its end.
pub heard_last : (bytes text : List ℕ) → IsKeptOf bytes text → (EndsLine text → ⊥) → length text ≤ LONGEST_LINE → 0 < length text → Some (Ok text) ≡ slice_get (heard_lines bytes) 0
heard_last bytes text is lacks_end within some =
    let line = line_at bytes in
    elim (kept_cases bytes text is) [
      | inl (all, short) ↦ absurd (lacks_end (subst EndsLine (sym all) (ends_whole line)))
      | inr (inl (front, beyond)) ↦ absurd (omega (arith, within, beyond, ap length front, length-take (LONGEST_LINE + 1) line))
      | inr (inr (all, short)) ↦ ap (λ t. Some (Ok t)) all ∙ sym (some_bytes bytes (some_kept bytes text is some) ∙ ap Some (heard_short line short))
    ]

-- Without a text the input is at its end.
pub heard_end : (bytes text : List ℕ) → IsKeptOf bytes text → length text ≡ 0 → None ≡ slice_get (heard_lines bytes) 0
heard_end bytes text is none =
    let empty : length (take_through 10 bytes) ≡ 0 = omega (arith, none, ap length is, length-take (LONGEST_LINE + 1) (take_through 10 bytes)) in
    sym (ap (λ bs. slice_get (heard_lines bs) 0) (take_through-nil 10 bytes empty))
