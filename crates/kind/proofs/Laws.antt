-- Bits of a byte.
use mathlib.Core.Path.{◌≡◌}
use mathlib.Core.Bool.{false}
use Prim.Native.Nat.{ℕ, ◌<◌, ◌≤◌, ◌/◌, ◌%◌, ◌^◌}
use native.Mathlib.Nat.{div-eq_of_lt}
use native.Mathlib.Omega.{arith}
use lib.Dec.{eqb}
use lib.Pow.{pow_mono}

-- a byte has no bit at or above 8
pub no_bit : (mask t : ℕ) → mask < 256 → 8 ≤ t → false ≡ eqb ((mask / (2 ^ t)) % 2) 1
no_bit mask t b h = let p : 2 ^ 8 ≤ 2 ^ t = pow_mono h in let q : mask < 2 ^ t = omega arith in rw (div-eq_of_lt q)
