-- Classes as files write them.
use Rattle.std.proofs.Common.{◌≡◌, ◌≤◌, ◌<◌, ◌^◌, ◌+◌, ◌==◌, ℕ, Bool, true, false, not, ◌&&◌, nat_le, List, [], ◌∷◌, length, slice_index, Ok, Err, Some, None, if◌then◌else◌, IsUtf8, arith, refl, rules}
use Rattle.std.proofs.lemmas.Bool.{and_parts}
use Rattle.std.proofs.lemmas.Bool.Decides.{nat_tests}
use Rattle.std.proofs.lemmas.List.Sums.{AllPass-from_list_all}
use Rattle.std.proofs.lemmas.Str.{IsUtf8-from_ascii, digit_value_digit}
use Rattle.std.proofs.lemmas.Str.Ascii.{IsAscii-from_all}
use Rattle.std.proofs.lemmas.Str.Parse.{IsNumeralModel, digits_value-take-le, numerals_by_value, parse_digits}
use Rattle.std.specs.Char.{digit_value, is_ascii_digit}
use Rattle.std.specs.List.{list_all}
use Rattle.std.specs.Str.Parse.{ParsesUnsigned, digits_value}
use Rattle.wu_core.specs.Limits.{highest_class}
use Rattle.wu_feed.specs.Classes.{class_written, is_decimal}

abbrev AreDigits : List ℕ → Type 0
AreDigits text = list_all is_ascii_digit text ≡ true

digits : IsNumeralModel AreDigits (digits_value 10)
digits = numerals_by_value _ (search rules)

-- the parts of a decimal
abbrev Decimal : List ℕ → Type 0
Decimal text = (1 ≤ length text) × (not (slice_index text 0 == 48) ≡ true) × AreDigits text

parts : (text : List ℕ) → is_decimal text ≡ true → Decimal text
parts text is =
    let all = and_parts (nat_le 1 (length text) && not (slice_index text 0 == 48)) (list_all is_ascii_digit text) is in
    let some = and_parts (nat_le 1 (length text)) (not (slice_index text 0 == 48)) all.0 in
    (grind (arith, nat_tests, some.0), some.1, all.1)

digit_is_ascii : (byte : ℕ) → is_ascii_digit byte ≡ true → byte < 128
digit_is_ascii byte is = grind (arith, nat_tests)

-- digits are text
pub decimal_text : (text : List ℕ) → is_decimal text ≡ true → IsUtf8 text
decimal_text text is =
    let each = AllPass-from_list_all is_ascii_digit text (parts text is).2 in
    IsUtf8-from_ascii text (IsAscii-from_all text (λ k d within. digit_is_ascii _ (each k d within)))

-- what is read of digits as a number of 16 bits is the class, or there is none
pub class_parsed : (text : List ℕ) (class : ℕ) → is_decimal text ≡ true → ParsesUnsigned {E = ℕ} 16 10 text (Ok class) → Some class ≡ class_written text
class_parsed text class is read =
    let value = parse_digits digits {E = ℕ} 16 text (Ok class) read (parts text is).2 in
    let low : digits_value 10 text < 2 ^ 16 = value.0.1 in
    let fits : nat_le (digits_value 10 text) highest_class ≡ true = grind (arith, nat_tests) in
    rw (is, fits, value.1) refl

pub class_refused : (text : List ℕ) (why : ℕ) → is_decimal text ≡ true → ParsesUnsigned {E = ℕ} 16 10 text (Err why) → None ≡ class_written text
class_refused text why is read = by (nat_le (digits_value 10 text) highest_class) refl
  where
    by : (b : Bool) → nat_le (digits_value 10 text) highest_class ≡ b → None ≡ (if is_decimal text && b then Some (digits_value 10 text) else None)
    by true fits = absurd (parse_digits digits {E = ℕ} 16 text (Err why) read (parts text is).2 ((parts text is).0, grind (arith, nat_tests)))
    by false long = rw is refl

-- ---- a class is from 1 to the highest

written : (text : List ℕ) → Decimal text → 1 ≤ digits_value 10 text
written [] decimal = absurd (omega (arith, decimal.0))
written (first ∷ more) decimal =
    let digit = (and_parts (is_ascii_digit first) (list_all is_ascii_digit more) decimal.2).0 in
    let low : 49 ≤ first = grind (arith, nat_tests, decimal.1, digit) in
    let high : first ≤ 57 = grind (arith, nat_tests, digit) in
    let here : digit_value first + 48 ≡ first = digit_value_digit first (omega (arith, low), high) in
    let all = digits_value-take-le 10 (first ∷ more) 1 (omega arith) in
    omega (arith, low, here, all)

pub class_within : (text : List ℕ) (class : ℕ) → class_written text ≡ Some class → (1 ≤ class) × (class ≤ highest_class)
class_within text class e = by (is_decimal text) (nat_le (digits_value 10 text) highest_class) refl refl e
  where
    by : (a b : Bool) → is_decimal text ≡ a → nat_le (digits_value 10 text) highest_class ≡ b
        → (if a && b then Some (digits_value 10 text) else None) ≡ Some class → (1 ≤ class) × (class ≤ highest_class)
    by true true is fits e =
        let same : digits_value 10 text ≡ class = cc e in
        rw (← same) (written text (parts text is), grind (arith, nat_tests))
    by true false is fits e = cc e
    by false b is fits e = cc e
