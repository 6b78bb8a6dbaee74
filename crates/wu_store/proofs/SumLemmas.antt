-- SQLite's sum of two integers in an INTEGER column of a strict table: what is stored there is the exact sum, and it
-- fits 64 bits. Where a + b is 2 ^ 63 or more, SQLite adds in floats. Each of a and b is rounded first, and the float
-- sum is still not below 2 ^ 63: with 2 ^ 62 ≤ a < 2 ^ 63, a rounds to 1024 * k, the closest such multiple, so b is 2 ^
-- 63 - 512 - 1024 * k or more. That is a float, so b's float is no smaller, and the exact sum of the two floats is 2 ^
-- 63 - 512 or more. 2 ^ 63 - 512 lies halfway between two floats, and the even one is 2 ^ 63.
use Rattle.wu_schema.proofs.Words.{Bool, Int, Integer, T, Value, ap, arith, binary, cast, cond, div-add-mod', false, false_from_ne_true, inl, inr, is_of, le_of_mul-le-mul_right, le_trans, mul-le-mul_right, mul-one, mul-pos, mul_assoc, mul_comm, mul_right_comm, nat_lt, nat_tests, pos, refl, subst, suc, sym, true, true≢false, unary, value_cmp, ℕ, ◌%◌, ◌*◌, ◌+◌, ◌-◌, ◌/◌, ◌<◌, ◌^◌, ◌∙◌, ◌≡◌, ◌≤◌, ◌⊎◌}
use Rattle.wu_schema.proofs.InsertEffect.{cast_int}
use Prim.Native.Nat.{compare, Ordering}
use native.Mathlib.Nat.{add-mul, le_antisymm, le_of_eq, le_refl, lt_of_lt_of_le, lt_of_not-le, not-le_of_lt}
use lib.Dec.{is_le, leb→le}
use lib.Pow.{pow_pos, pow_mono, pow-add, shl_lt}
use lib.Ieee.{units, odd, round, add, sum, le, lt, low, emax, up, down, size, nearest, of_int, is_nan}
use lib.Ieee.Casts.{to_signed_in}
use lib.Ieee.Digits.{size-lt, size-le}
use lib.Ieee.Exact.{HasValue, odd_sign, round_exact}
use lib.Ieee.Fits.{round_is, down_pos}
use lib.Ieee.Nearest.{closest, closest_same}
use lib.Ieee.Order.{drop, kept, round_mono, le_of_values}
use lib.Ieee.Scale.{grid}
use Rattle.std.proofs.lemmas.Bool.{cases_order}
use Rattle.std.proofs.lemmas.Float as floats
use Rattle.std.specs.Float.{Float, nan, inf, fin, binary64, two_to}
use Rattle.std.specs.Float.Ieee
use Rattle.sqlite_value.proofs.IntReal.{far_above}
use Rattle.sqlite_sql.specs.declared.ops.BinaryOp.TheVariants as by
use Rattle.sqlite_sql.specs.declared.ops.ArithOp.TheVariants as arith_op
use Rattle.sqlite.specs.Ops.{real, to_real}

abbrev sum_of : ℕ → ℕ → Value
sum_of a b = binary (by.Arith arith_op.Add) (Int (pos a)) (Int (pos b))

below : (n : ℕ) → n < 2 ^ 63 → nat_lt n (2 ^ 63) ≡ true
below n h = grind (arith, nat_tests)

beyond : (n : ℕ) → 2 ^ 63 ≤ n → nat_lt n (2 ^ 63) ≡ false
beyond n h = grind (arith, nat_tests)

exact_sum : (a b : ℕ) → a + b < 2 ^ 63 → sum_of a b ≡ Int (pos (a + b))
unfolding binary
exact_sum a b h = rw (below (a + b) h) refl

float_sum : (a b : ℕ) → 2 ^ 63 ≤ a + b → sum_of a b ≡ real (Ieee.add binary64 (to_real (pos a)) (to_real (pos b)))
unfolding binary
float_sum a b h = rw (beyond (a + b) h) refl

pub sum_is : (a b : ℕ) → a + b < 2 ^ 63 → cast Integer (binary (by.Arith arith_op.Add) (Int (pos a)) (Int (pos b))) ≡ Int (pos (a + b))
sum_is a b h = ap (cast Integer) (exact_sum a b h) ∙ cast_int (pos (a + b))

-- ---- a float that is not negative and p or more
abbrev AtLeast : ℕ → Float → Type 0
AtLeast p nan = ⊥
AtLeast p (inf s) = s ≡ false
AtLeast p (fin s m e) = (s ≡ false) × (p * down e ≤ m * up e)

-- p / 1 ≤ w / l, which is m / d
scaled : (p l w m d : ℕ) → 0 < l → p * l ≤ w → m * l ≡ w * d → p * d ≤ m
scaled p l w m d L h e =
    let x : p * d * l ≤ w * d = le_trans (omega (arith, mul_right_comm p d l)) (mul-le-mul_right d h) in
    le_of_mul-le-mul_right (subst (λ z. p * d * l ≤ z) (sym e) x) L

by_value : (p l w : ℕ) (x : Float) → 0 < l → p * l ≤ w → HasValue x false w l → AtLeast p x
by_value p l w nan L h v = v
by_value p l w (inf s) L h v = absurd v
by_value p l w (fin s m e) L h v = (v.0, scaled p l w (m * up e) (down e) L h v.1)

at_units : (p q k : ℕ) → p * 2 ^ low binary64 ≤ q * 2 ^ k → AtLeast p (units binary64 false q k)
unfolding units
at_units p q k h = go _
  where
    go : (b : Bool) → AtLeast p (cond b (odd 54 false q k (low binary64)) (inf false))
    go true = by_value p (2 ^ low binary64) (q * 2 ^ k) _ (pow_pos (low binary64)) h (odd_sign 54 false q k (low binary64))
    go false = refl

at_grid : (p n : ℕ) → p * 2 ^ low binary64 ≤ grid binary64 n 1 → AtLeast p (round binary64 false n 1)
at_grid p n h = subst (AtLeast p) (sym (round_is binary64 false n 1)) (at_units p _ _ h)

-- ---- an integer in the binade below 2 ^ 63 rounds to the closest multiple of 1024
digits : (n k : ℕ) → 2 ^ k ≤ n → n < 2 ^ suc k → size n ≡ suc k
digits n k lo hi = le_antisymm (size-le n (suc k) hi) (lt_of_not-le (λ g. not-le_of_lt (size-lt n) (le_trans (pow_mono g) lo)))

module _ (a l : ℕ) (lo : 2 ^ 62 ≤ a) (hi : a < 2 ^ 63) where
  dropped : drop 53 (a * 2 ^ l) 1 ≡ 10 + l
  dropped =
      let n = a * 2 ^ l in
      let one : n / 1 ≡ n = omega arith in
      let least : 2 ^ (62 + l) ≤ n = le_trans (le_of_eq (pow-add 2 62 l)) (mul-le-mul_right (2 ^ l) lo) in
      let most : n < 2 ^ suc (62 + l) = subst (λ k. n < 2 ^ k) (omega arith) (shl_lt 63 l hi) in
      let is = digits n (62 + l) least most in
      ap (λ z. size z - 53) one ∙ omega arith

  gridded : closest a 1024 * 1024 * 2 ^ l ≡ kept 53 (a * 2 ^ l) 1 * 2 ^ drop 53 (a * 2 ^ l) 1
  gridded =
      let scale : 2 ^ (10 + l) ≡ 1024 * 2 ^ l = pow-add 2 10 l in
      let same : closest a 1024 ≡ closest (a * 2 ^ l) (1 * 2 ^ (10 + l)) = closest_same a 1024 (a * 2 ^ l) (1 * 2 ^ (10 + l)) (omega arith) (omega (arith, pow_pos (10 + l))) (rw scale (omega (arith, mul_comm a (1024 * 2 ^ l), mul_assoc 1024 (2 ^ l) a, mul_comm (2 ^ l) a))) in
      rw dropped (rw (sym same) (rw scale (mul_assoc (closest a 1024) 1024 (2 ^ l))))

nearest_error : (q r : ℕ) (o : Ordering) → (T (is_le o) → r * 2 ≤ 1024) → r < 1024 → q * 1024 + r ≤ nearest q o * 1024 + 512
nearest_error q r Ordering.gt h small = omega arith
nearest_error q r _ h small = omega (arith, h tt)

closest_error : (a : ℕ) → a ≤ closest a 1024 * 1024 + 512
closest_error a = subst (λ z. z ≤ closest a 1024 * 1024 + 512) (div-add-mod' a 1024) (nearest_error (a / 1024) (a % 1024) (compare (a % 1024 * 2) 1024) (leb→le (a % 1024 * 2) 1024) (omega arith))

rounded_at : (a : ℕ) → 2 ^ 62 ≤ a → a < 2 ^ 63 → AtLeast (closest a 1024 * 1024) (round binary64 false a 1)
rounded_at a lo hi = at_grid _ a (le_of_eq (gridded a (low binary64) lo hi))

-- ---- rounding does not go below a float
not_below : (p : ℕ) (y : Float) → AtLeast 0 y → T (le (fin false p (pos 0)) y) → AtLeast p y
unfolding le lt Ieee.eq
not_below p nan h k = absurd h
not_below p (inf s) h k = h
not_below p (fin true m e) h k = absurd (true≢false h.0)
not_below p (fin false m e) h k = (refl, grind (arith, nat_tests, k))

exact_at : (u j n : ℕ) → u < 2 ^ 53 → j ≤ 900 → u * 2 ^ j ≤ n → AtLeast (u * 2 ^ j) (round binary64 false n 1)
exact_at u j n few small h =
    let p = u * 2 ^ j in
    let l = low binary64 in
    let shifted : p * 2 ^ l ≡ u * 2 ^ (j + l) * 1 = mul_assoc u (2 ^ j) (2 ^ l) ∙ ap (λ z. u * z) (sym (pow-add 2 j l)) ∙ sym (mul-one (u * 2 ^ (j + l))) in
    let value : HasValue (round binary64 false p 1) false p 1 =
    round_exact binary64 false p 1 u (j + l) (omega arith) few (lt_of_lt_of_le (shl_lt 53 (j + l) few) (pow_mono {i = 53 + (j + l)} {j = l + suc (emax binary64)} (omega arith))) shifted in
    let own : HasValue (fin false p (pos 0)) false p 1 = (refl, omega arith) in
    let held = le_of_values (fin false p (pos 0)) (round binary64 false p 1) p 1 p 1 (omega arith) (omega arith) own value (le_refl (p * 1)) in
    not_below p (round binary64 false n 1) (at_grid 0 n (omega arith))
    (floats.le_trans (fin false p (pos 0)) (round binary64 false p 1) (round binary64 false n 1) held (round_mono binary64 p 1 n 1 (omega arith) (omega arith) (mul-le-mul_right 1 h)))

-- ---- the sum of two such floats
half_way : round binary64 false (2 ^ 63 - 512) 1 ≡ two_to 63
unfolding round
half_way = refl

crossed : (p q x y d e : ℕ) → 2 ^ 63 - 512 ≤ p + q → p * e ≤ x → q * d ≤ y → (2 ^ 63 - 512) * (e * d) ≤ (x * d + y * e) * 1
crossed p q x y d e h k l =
    let a : p * e * d ≤ x * d = mul-le-mul_right d k in
    let b : q * d * e ≤ y * e = mul-le-mul_right e l in
    let c : (2 ^ 63 - 512) * (e * d) ≤ (p + q) * (e * d) = mul-le-mul_right (e * d) h in
    omega (arith, add-mul p q (e * d), mul_assoc p e d, mul_assoc q d e, mul_comm d e)

sum_at : (p q : ℕ) (x y : Float) → AtLeast p x → AtLeast q y → 2 ^ 63 - 512 ≤ p + q → T (le (two_to 63) (add binary64 x y))
unfolding add sum le lt Ieee.eq
sum_at p q nan y h k l = absurd h
sum_at p q (inf true) y h k l = absurd (true≢false h)
sum_at p q (inf false) nan h k l = absurd k
sum_at p q (inf false) (inf true) h k l = absurd (true≢false k)
sum_at p q (inf false) (inf false) h k l = tt
sum_at p q (inf false) (fin t n d) h k l = tt
sum_at p q (fin s m e) nan h k l = absurd k
sum_at p q (fin s m e) (inf true) h k l = absurd (true≢false k)
sum_at p q (fin s m e) (inf false) h k l = tt
sum_at p q (fin true m e) (fin t n d) h k l = absurd (true≢false h.0)
sum_at p q (fin false m e) (fin true n d) h k l = absurd (true≢false k.0)
sum_at p q (fin false m e) (fin false n d) h k l =
    subst (λ z. T (le z (round binary64 false (m * up e * down d + n * up d * down e) (down e * down d)))) half_way
    (round_mono binary64 (2 ^ 63 - 512) 1 (m * up e * down d + n * up d * down e) (down e * down d) (omega arith) (mul-pos (down_pos e) (down_pos d)) (crossed p q (m * up e) (n * up d) (down d) (down e) l h.1 k.1))

-- ---- the sum of two integers, each rounded: at a + b = 2 ^ 63 and beyond it is not below 2 ^ 63
record Parts (a b : ℕ) : Type 0 where
  left : ℕ
  right : ℕ
  of_left : AtLeast left (round binary64 false a 1)
  of_right : AtLeast right (round binary64 false b 1)
  enough : 2 ^ 63 - 512 ≤ left + right

below_or : (m n : ℕ) → (m < n) ⊎ (n ≤ m)
below_or m n = elim (cases_order m n) [ inl e ↦ inr (omega arith) | inr (inl l) ↦ inl l | inr (inr g) ↦ inr (omega arith) ]

plain : (n : ℕ) → AtLeast 0 (round binary64 false n 1)
plain n = at_grid 0 n (omega arith)

alone : (a b : ℕ) → 2 ^ 63 ≤ a → Parts a b
alone a b h = record { left = 2 ^ 63; right = 0; of_left = exact_at 1 63 a (omega arith) (omega arith) (omega arith); of_right = plain b; enough = omega arith }

parts : (a b : ℕ) → 2 ^ 62 ≤ a → 2 ^ 63 ≤ a + b → Parts a b
parts a b lo h =
    let k = closest a 1024 in
    let error : a ≤ k * 1024 + 512 = closest_error a in
    elim (below_or a (2 ^ 63)) [
      | inr large ↦ alone a b large
      | inl hi ↦ elim (below_or k (2 ^ 53)) [
        | inr full ↦ record { left = k * 1024; right = 0; of_left = rounded_at a lo hi; of_right = plain b; enough = omega arith }
        | inl few ↦
            let u : ℕ = 2 ^ 54 - 1 - 2 * k in
            record { left = k * 1024; right = u * 2 ^ 9; of_left = rounded_at a lo hi; of_right = exact_at u 9 b (omega arith) (omega arith) (omega arith); enough = omega arith }
      ]
    ]

of_parts : (a b : ℕ) → Parts a b → T (le (two_to 63) (add binary64 (to_real (pos a)) (to_real (pos b))))
unfolding of_int
of_parts a b h = sum_at h.left h.right (round binary64 false a 1) (round binary64 false b 1) h.of_left h.of_right h.enough

of_parts' : (a b : ℕ) → Parts b a → T (le (two_to 63) (add binary64 (to_real (pos a)) (to_real (pos b))))
unfolding of_int
of_parts' a b h = sum_at h.right h.left (round binary64 false a 1) (round binary64 false b 1) h.of_right h.of_left (omega (arith, h.enough))

pub float_sum_reaches : (a b : ℕ) → 2 ^ 63 ≤ a + b → T (le (two_to 63) (add binary64 (to_real (pos a)) (to_real (pos b))))
float_sum_reaches a b h = elim (below_or a (2 ^ 62)) [
  | inr large ↦ of_parts a b (parts a b large h)
  | inl small ↦ of_parts' a b (parts b a (omega arith) (omega arith))
]

-- ---- such a float stays one in an INTEGER column, and a strict one refuses it
is_a_number : (x : Float) → T (le (two_to 63) x) → is_nan x ≡ false
unfolding le lt Ieee.eq is_nan
is_a_number nan h = absurd h
is_a_number (inf s) h = refl
is_a_number (fin s m e) h = refl

not_under : (x : Float) → T (le (two_to 63) x) → lt x (two_to 63) ≡ false
not_under x h = false_from_ne_true _ (λ under. floats.lt_irrefl x (floats.lt_of_lt_of_le x (two_to 63) x (subst T (sym under) tt) h))

refused : (x : Float) → T (le (two_to 63) x) → is_of Integer (cast Integer (real x)) ≡ false
unfolding unary value_cmp
refused x h =
    let less = far_above (Ieee.to_signed 63 x) x (record { sfits = to_signed_in 63 x }) (not_under x h) in
    rw (is_a_number x h) (rw (sym less) refl)

pub sum_fits : (a b : ℕ) → is_of Integer (cast Integer (binary (by.Arith arith_op.Add) (Int (pos a)) (Int (pos b)))) ≡ true → a + b < 2 ^ 63
sum_fits a b h = elim (below_or (a + b) (2 ^ 63)) [
  | inl fits ↦ fits
  | inr over ↦ absurd (true≢false (sym h ∙ ap (λ v. is_of Integer (cast Integer v)) (float_sum a b over) ∙ refused _ (float_sum_reaches a b over)))
]

-- so a sum that a strict INTEGER column took is stored exactly
pub stored_sum : (a b : ℕ) → is_of Integer (cast Integer (binary (by.Arith arith_op.Add) (Int (pos a)) (Int (pos b)))) ≡ true
    → cast Integer (binary (by.Arith arith_op.Add) (Int (pos a)) (Int (pos b))) ≡ Int (pos (a + b))
stored_sum a b h = sum_is a b (sum_fits a b h)
