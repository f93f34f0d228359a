-- Rounding a fraction n / m up to a full 10.
use mathlib.Core.Path.{◌≡◌, sym, ap, ◌∙◌}
use Prim.Native.Nat.{ℕ, ◌+◌, ◌-◌, ◌*◌, ◌/◌, ◌%◌, ◌≤◌, ◌<◌}
use native.Mathlib.Nat.{mul_assoc, mul_left_comm, one-mul, add-mul, mul-pos, mul-le-mul_left, mul-lt-mul_of_pos_left, div-mul-le_self, div-lt_iff_lt-mul, div-eq_of_lt-le}
use native.Mathlib.Omega.{arith}
use Rattle.machine.specs.Board.{ratio, full_tens}

-- Division -----------------------------------------------------------------------------------------------------------------------------
once_more : (k m : ℕ) → (k + 1) * m ≡ k * m + m
once_more k m = add-mul k 1 m ∙ ap (λ (x : ℕ). k * m + x) (one-mul m)

-- x / y for an x of n + (y - 1) at least is not less than n / y
reach : (n : ℕ) {x y : ℕ} → 0 < y → n + (y - 1) ≤ x → n ≤ x / y * y
reach n {x} {y} p l = omega (arith, (div-lt_iff_lt-mul {k = y} {x = x} {y = x / y + 1} p).0 (omega arith), once_more (x / y) y)

-- and for one of n + (y - 1) at most less than 1 above it
near : (n : ℕ) {x y : ℕ} → 0 < y → x ≤ n + (y - 1) → x / y * y < n + y
near n {x} {y} p l = omega (arith, div-mul-le_self x y)

-- no other number is both
only : (n k : ℕ) {x y : ℕ} → 0 < y → x ≡ n + (y - 1) → n ≤ k * y → k * y < n + y → x / y ≡ k
only n k {x} {y} p e enough close = div-eq_of_lt-le {k = k} y {m = x} (omega (arith, e)) (omega (arith, e, once_more k y))

-- To a full 10 -------------------------------------------------------------------------------------------------------------------------
in_tens : (k m : ℕ) → 10 * k * m ≡ k * (m * 10)
in_tens k m = mul_assoc 10 k m ∙ mul_left_comm 10 k m ∙ ap (λ (x : ℕ). k * x) (omega arith)

tens_reach : (n m : ℕ) {x y : ℕ} → 0 < m → y ≡ m * 10 → n + (y - 1) ≤ x → n ≤ 10 * (x / y) * m
tens_reach n m {x} {y} p e l = rw e (omega (arith, in_tens (x / (m * 10)) m, reach n {x = x} {y = m * 10} (omega arith) (omega (arith, e))))

tens_near : (n m : ℕ) {x y : ℕ} → 0 < m → y ≡ m * 10 → x ≤ n + (y - 1) → 10 * (x / y) * m < n + 10 * m
tens_near n m {x} {y} p e l = rw e (omega (arith, in_tens (x / (m * 10)) m, near n {x = x} {y = m * 10} (omega arith) (omega (arith, e))))

module _ (n m : ℕ) where
  pub full_of_10 : full_tens (ratio n m) % 10 ≡ 0
  unfolding full_tens
  full_of_10 = omega arith

  -- not less
  pub full_enough : 0 < m → n ≤ full_tens (ratio n m) * m
  unfolding full_tens
  full_enough p = tens_reach n m p (omega arith) (omega arith)

  -- less than 10 above
  pub full_close : 0 < m → full_tens (ratio n m) * m < n + 10 * m
  unfolding full_tens
  full_close p = tens_near n m p (omega arith) (omega arith)

-- the same of a fraction that is not in its lowest terms
pub full_scaled : (c n m : ℕ) → 0 < c → 0 < m → full_tens (ratio (c * n) (c * m)) ≡ full_tens (ratio n m)
unfolding full_tens
full_scaled c n m p l =
    ap (λ (x : ℕ). 10 * x) (only (c * n) tens (omega (arith, mul-pos p l)) (omega arith) (omega (arith, turned, enough)) (omega (arith, turned, close)))
  where
    tens : ℕ
    tens = (n * 1 + (m * 10 - 1)) / (m * 10)

    turned : c * (tens * (m * 10)) ≡ tens * (c * m * 10)
    turned = mul_left_comm c tens (m * 10) ∙ ap (λ (x : ℕ). tens * x) (sym (mul_assoc c m 10))

    enough : c * n ≤ c * (tens * (m * 10))
    enough = mul-le-mul_left c (reach n (omega arith) (omega arith))

    close : c * (tens * (m * 10)) < c * (n + m * 10)
    close = mul-lt-mul_of_pos_left (near n (omega arith) (omega arith)) p
