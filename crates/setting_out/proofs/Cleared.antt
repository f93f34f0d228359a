-- The formula with its units is the cleared fraction.
use mathlib.Core.Path.{◌≡◌, refl, sym, ap, ◌∙◌}
use Prim.Native.Nat.{ℕ, zero, suc, ◌+◌, ◌-◌, ◌*◌, ◌≤◌, ◌<◌}
use native.Mathlib.Nat.{mul_comm, mul_assoc, mul_left_comm, zero-mul, mul-le-mul}
use native.Mathlib.Omega.{arith}
use borrow.Author.Tests.{le-ltb}
use lib.IntN.{ℤ, pos, negsuc, neg_ℤ, ◌+ℤ◌, ◌*ℤ◌}
use Rattle.machine.specs.Board.{Fraction, ratio, ◌plus◌, ◌times◌, ◌over◌, speed, retardation, pull, braking, formula}
use Rattle.setting_out.specs.SettingOut.{Speed, Retardation, Gradient, slowing, top, bottom}

-- Numbers below zero -------------------------------------------------------------------------------------------------------------------
minus_times : (x y : ℕ) → neg_ℤ (pos x) *ℤ pos y ≡ neg_ℤ (pos (x * y))
minus_times zero y = rw (zero-mul y)
minus_times (suc x) y = refl

pos_less : (a b : ℕ) → b ≤ a → pos a +ℤ neg_ℤ (pos b) ≡ pos (a - b)
pos_less a zero l = ap pos (omega arith)
pos_less a (suc b) l = rw (le-ltb a (suc b) l)

same_ratio : {a b c d : ℕ} → a ≡ c → b ≡ d → ratio a b ≡ ratio c d
same_ratio p q = rw (p, q)

-- D + 9.81 H / 1000 --------------------------------------------------------------------------------------------------------------------
slowed : (d : ℕ) (h : ℤ) → Retardation d → Gradient h → braking d h ≡ ratio (1000 * slowing d h) 100000000
unfolding braking retardation pull slowing
slowed d (pos n) r g = same_ratio (omega arith) (omega arith)
slowed d (negsuc n) r g =
    rw (minus_times (981 * suc n) 1, minus_times (981 * suc n * 1) 1000, pos_less (d * 1 * 100000) (981 * suc n * 1 * 1000) (omega arith))
    (same_ratio (omega arith) (omega arith))

-- its bounds
pub slowing_bounds : (d : ℕ) (h : ℤ) → Retardation d → Gradient h → (20570 ≤ slowing d h) × (slowing d h ≤ 179430)
unfolding slowing
slowing_bounds d (pos n) r g = (omega arith, omega arith)
slowing_bounds d (negsuc n) r g = (omega arith, omega arith)

-- The formula --------------------------------------------------------------------------------------------------------------------------
factors : (a b x y : ℕ) → a * x * (b * y) ≡ a * b * (x * y)
factors a b x y = simp (mul_assoc, mul_left_comm)

-- 3 V times the denominator of V V / (2 ..)
path : (v q : ℕ) → 3 * (v * 1000) * (12960000 * (2 * (1000 * q))) ≡ v * q * 77760000000000
path v q = rw (three, twice) (factors v q 3000 25920000000)
  where
    three : 3 * (v * 1000) ≡ v * 3000
    three = omega arith

    twice : 12960000 * (2 * (1000 * q)) ≡ q * 25920000000
    twice = omega arith

-- what its two numbers have in common
unfoldable pub common : ℕ
common = 576000000000

pub formula_is : (v d : ℕ) (h : ℤ) → Retardation d → Gradient h
    → formula v d h ≡ ratio (common * top v (slowing d h)) (common * bottom (slowing d h))
unfolding formula speed top bottom common
formula_is v d h r g =
    rw (slowed d h r g) (same_ratio (omega (arith, factors v v 1000 1000, path v (slowing d h))) (omega arith))
