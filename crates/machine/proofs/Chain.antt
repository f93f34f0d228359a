-- The numbers of an event as a chain of tests: without the right, told by the chain with it (T-04). Of tests alone; who cites it shows that
-- `refusal` is such a chain.
use mathlib.Core.Path.{◌≡◌, refl}
use mathlib.Core.Bool.{Bool, true, false, not, ◌&&◌, ◌||◌}
use Prim.Native.Nat.{ℕ}
use lib.Dec.{eqb, leb}
use Rattle.machine.specs.Common.{refuse}

-- 5, 6, 7, 8, 17, 13, 10, 11, 12
abbrev pub chain : Bool → Bool → Bool → Bool → Bool → Bool → Bool → Bool → Bool → ℕ
chain may a b c d e f g h = refuse a 5 (refuse b 6 (refuse c 7 (refuse d 8 (refuse (not may) 17 (refuse e 13 (refuse f 10 (refuse g 11 (refuse h 12 0))))))))

-- m with the right, r without it: r is m where that is 5 to 8, and otherwise 17; m is 0 or 5 to 13
abbrev pub Told : ℕ → ℕ → Type 0
Told m r = (r ≡ refuse (leb 5 m && leb m 8) m 17) × ((leb m 13 ≡ true) × ((eqb m 0 || leb 5 m) ≡ true))

pub told : (a b c d e f g h : Bool) → Told (chain true a b c d e f g h) (chain false a b c d e f g h)
told true b c d e f g h = (refl, (refl, refl))
told false true c d e f g h = (refl, (refl, refl))
told false false true d e f g h = (refl, (refl, refl))
told false false false true e f g h = (refl, (refl, refl))
told false false false false true f g h = (refl, (refl, refl))
told false false false false false true g h = (refl, (refl, refl))
told false false false false false false true h = (refl, (refl, refl))
told false false false false false false false true = (refl, (refl, refl))
told false false false false false false false false = (refl, (refl, refl))
