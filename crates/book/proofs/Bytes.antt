-- A number of 16 bits and its two bytes.
use mathlib.Core.Path.{◌≡◌}
use Prim.Native.Nat.{ℕ, ◌+◌, ◌*◌, ◌<◌}
use native.Mathlib.Omega.{arith}
use Rattle.machine.specs.Common.{low, high}

pub low_word : (x y : ℕ) → x < 256 → low (x + 256 * y) ≡ x
low_word x y a = omega arith

pub high_word : (x y : ℕ) → x < 256 → y < 256 → high (x + 256 * y) ≡ y
high_word x y a b = omega arith

pub word_of : (x : ℕ) → x < 65536 → low x + 256 * high x ≡ x
word_of x h = omega arith
