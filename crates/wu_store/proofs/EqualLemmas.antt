-- When SQL finds two values equal.
use Rattle.wu_schema.proofs.Words.{Binary, Bool, Equal, Greater, Int, Less, List, Ordering, Some, Text, ap, arith, binary, bytes_eq, cond, equal, false, int_cmp, is_eq, is_true, nat_le, nat_lt, nat_tests, negsuc, not, pos, refl, sym, true, value_cmp, value_cmp-Int, ℕ, ℤ, ◌==◌, ◌∙◌, ◌≡◌}
use Rattle.std.specs.Prelude.{int_lt}
use Rattle.std.specs.Ordering.{is_gt}
use Rattle.std.proofs.lemmas.Map.Text.{is_eq-slice_cmp}
use Rattle.sqlite_value.proofs.OrderLemmas.{value_cmp-Text}
use Rattle.sqlite_sql.specs.Ops.{test}
use Rattle.sqlite_sql.specs.declared.ops.BinaryOp.TheVariants as by
use Rattle.sqlite_sql.specs.declared.ops.CompareOp.TheVariants as compare

true_if : (b : Bool) → is_true (Rattle.sqlite_sql.specs.Ops.from_truth (Some b)) ≡ b
true_if true = refl
true_if false = refl

pub text_equal : (a b : List ℕ) → equal Binary (Text a) (Text b) ≡ bytes_eq a b
unfolding binary
text_equal a b = true_if (is_eq (value_cmp (Text a) (Text b))) ∙ ap is_eq (value_cmp-Text a b) ∙ is_eq-slice_cmp a b

pub number_tied : (a b : ℕ) → is_eq (value_cmp (Int (pos a)) (Int (pos b))) ≡ (a == b)
number_tied a b = ap is_eq (value_cmp-Int (pos a) (pos b)) ∙ tests
  where
    tests : is_eq (int_cmp (pos a) (pos b)) ≡ (a == b)
    tests = grind (arith, nat_tests)

pub int_equal : (m n : ℤ) → equal Binary (Int m) (Int n) ≡ is_eq (value_cmp (Int m) (Int n))
unfolding binary
int_equal m n = true_if (is_eq (value_cmp (Int m) (Int n)))

pub number_equal : (a b : ℕ) → equal Binary (Int (pos a)) (Int (pos b)) ≡ (a == b)
number_equal a b = int_equal (pos a) (pos b) ∙ number_tied a b

is_more : (o : Ordering) → test compare.Gt o ≡ is_gt o
is_more Less = refl
is_more _ = refl

-- one number is above another
is_greater : (a b : ℤ) → is_gt (int_cmp a b) ≡ int_lt b a
is_greater a b = greater (int_lt a b) refl
  where
    -- what is lower is not higher
    lower : (a b : ℤ) → int_lt a b ≡ true → int_lt b a ≡ false
    lower (pos m) (pos n) low = grind (arith, nat_tests)
    lower (pos m) (negsuc n) low = absurd (cc)
    lower (negsuc m) (pos n) low = refl
    lower (negsuc m) (negsuc n) low = grind (arith, nat_tests)

    chosen : (c : Bool) → is_gt (cond c Greater Equal) ≡ c
    chosen true = refl
    chosen false = refl

    greater : (c : Bool) → int_lt a b ≡ c → is_gt (cond c Less (cond (int_lt b a) Greater Equal)) ≡ int_lt b a
    greater true low = sym (lower a b low)
    greater false high = chosen (int_lt b a)

pub int_above : (a b : ℤ) → is_true (binary (by.Compare compare.Gt Binary) (Int a) (Int b)) ≡ int_lt b a
unfolding binary
int_above a b = true_if (test compare.Gt (value_cmp (Int a) (Int b))) ∙ ap (test compare.Gt) (value_cmp-Int a b) ∙ is_more (int_cmp a b) ∙ is_greater a b

pub number_above : (a b : ℕ) → is_true (binary (by.Compare compare.Gt Binary) (Int (pos a)) (Int (pos b))) ≡ nat_lt b a
number_above a b = int_above (pos a) (pos b)

-- and is not
pub int_at_most : (a b : ℤ) → is_true (binary (by.Compare compare.Le Binary) (Int a) (Int b)) ≡ not (int_lt b a)
unfolding binary
int_at_most a b = true_if (test compare.Le (value_cmp (Int a) (Int b))) ∙ ap (test compare.Le) (value_cmp-Int a b) ∙ tested (int_cmp a b) ∙ ap not (is_greater a b)
  where
    tested : (o : Ordering) → test compare.Le o ≡ not (is_gt o)
    tested Less = refl
    tested _ = refl

pub number_at_most : (a b : ℕ) → is_true (binary (by.Compare compare.Le Binary) (Int (pos a)) (Int (pos b))) ≡ nat_le a b
number_at_most a b = int_at_most (pos a) (pos b) ∙ tests
  where
    tests : not (nat_lt b a) ≡ nat_le a b
    tests = grind (arith, nat_tests)

-- one number is at least another
pub number_at_least : (a b : ℕ) → is_true (binary (by.Compare compare.Ge Binary) (Int (pos a)) (Int (pos b))) ≡ nat_le b a
unfolding binary
number_at_least a b = true_if (test compare.Ge (value_cmp (Int (pos a)) (Int (pos b)))) ∙ ap (test compare.Ge) (value_cmp-Int (pos a) (pos b)) ∙ tested (int_cmp (pos a) (pos b)) ∙ ap not (chosen (nat_lt a b) (nat_lt b a)) ∙ tests
  where
    is_less : Ordering → Bool
    is_less Less = true
    is_less _ = false

    tested : (o : Ordering) → test compare.Ge o ≡ not (is_less o)
    tested Less = refl
    tested _ = refl

    chosen : (c d : Bool) → is_less (cond c Less (cond d Greater Equal)) ≡ c
    chosen true d = refl
    chosen false true = refl
    chosen false false = refl

    tests : not (nat_lt a b) ≡ nat_le b a
    tests = grind (arith, nat_tests)
