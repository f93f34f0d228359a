-- The gradient above -30, and how large the numbers become.
use mathlib.Core.Path.{◌≡◌, refl, ap}
use Prim.Native.Nat.{ℕ, suc, min, ◌+◌, ◌-◌, ◌*◌, ◌/◌, ◌%◌, ◌^◌, ◌≤◌, ◌<◌}
use native.Mathlib.Nat.{add-mul-div_left, div-eq_of_lt, div-lt_iff_lt-mul, mod-add-div, mod-lt, mul-le-mul, mul-suc}
use native.Mathlib.Numerals.{add-one}
use native.Mathlib.Omega.{arith}
use lib.Dec.{eqb}
use borrow.Author.Tests.{le-ltb, eqb-true, eqb-false}
use lib.IntN.{ℤ, pos, negsuc, nat_abs, ◌+ℤ◌}
use Rattle.machine.proofs.Tools.{by_test}
use Rattle.setting_out.specs.SettingOut.{Retardation, Gradient, slowing}

-- raised by 30 it is not below zero, and 60 at most
fall_raised : (n : ℕ) → n + 1 ≤ 30 → negsuc n +ℤ pos 30 ≡ pos (29 - n)
fall_raised n l = rw (le-ltb 30 (suc n) (omega arith)) (ap pos (omega arith))

pub raised_is : (h : ℤ) → Gradient h → h +ℤ pos 30 ≡ pos (nat_abs (h +ℤ pos 30))
raised_is (pos n) g = refl
raised_is (negsuc n) g = rw (fall_raised n g)

pub raised_most : (h : ℤ) → Gradient h → nat_abs (h +ℤ pos 30) ≤ 60
raised_most (pos n) g = omega arith
raised_most (negsuc n) g = rw (fall_raised n g) (omega arith)

pub slowing_is : (d : ℕ) (h : ℤ) → Retardation d → Gradient h → 100 * d + 981 * nat_abs (h +ℤ pos 30) ≡ slowing d h + 29430
unfolding slowing
slowing_is d (pos n) r g = omega arith
slowing_is d (negsuc n) r g = rw (fall_raised n g) (omega arith)

-- the products of two numbers
pub sizes : (v q : ℕ) → v ≤ 120 → q ≤ 179430 → (v * v ≤ 14400) × (v * q ≤ 21531600)
sizes v q s l = (mul-le-mul s s, mul-le-mul s l)

-- a quotient rounded up, as std and as the machine say it
pub ceiling : (x y : ℕ) → 0 < y → x / y + min 1 (x % y) ≡ (x + (y - 1)) / y
ceiling x y p =
    let h = mod-add-div x y in
    let r : x % y < y = mod-lt x p in
    let m : y * (x / y + 1) ≡ y * (x / y) + y = rw (add-one (x / y)) (mul-suc y (x / y)) in
    by_test (eqb (x % y) 0)
    (λ q.
    let z = eqb-true (x % y) 0 q in
    let e : x + (y - 1) ≡ (y - 1) + y * (x / y) = omega arith in
    let d : (y - 1) / y ≡ 0 = div-eq_of_lt (omega arith) in
    let s = add-mul-div_left (y - 1) (x / y) {y = y} p in
    rw e (omega arith))
    (λ q.
    let z = eqb-false (x % y) 0 q in
    let e : x + (y - 1) ≡ (x % y - 1) + y * (x / y + 1) = omega arith in
    let d : (x % y - 1) / y ≡ 0 = div-eq_of_lt (omega arith) in
    let s = add-mul-div_left (x % y - 1) (x / y + 1) {y = y} p in
    rw e (omega arith))

-- tens of metres: few enough, and the same of the same numbers
pub tens_fit : {x y : ℕ} → 0 < y → x < 6553 * y → 10 * (x / y) < 65536
tens_fit {x} {y} p l = omega (arith, (div-lt_iff_lt-mul {k = y} {x = x} {y = 6553} p).1 l)

pub same_tens : {x y m n : ℕ} → x ≡ m → y ≡ n → 10 * (x / y) ≡ 10 * (m / n)
same_tens p q = rw (p, q)

pub wide : {n : ℕ} → n < 65536 → n < 2 ^ 64
wide l = omega arith
