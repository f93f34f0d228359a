-- Board distance to the metre (document 02, T-08): source document 000, section 3.4.3. v is the speed in km/h, d the retardation D in mm/s2,
-- h the gradient H in per mille, a fall negative.
use Rattle.std.specs.Prelude.{Bool, cond, not, ◌&&◌, ℕ, ◌+◌, ◌-◌, ◌*◌, ◌/◌, eqb, leb, ℤ, pos, negsuc, nat_abs, ◌+ℤ◌, ◌*ℤ◌}
use Rattle.std.specs.Int.Signed.{le_z}
pub use Rattle.machine.specs.declared.BoardDistance.{BoardDistance}
use Rattle.machine.specs.Common.{refuse}
use Rattle.machine.specs.Numbers.{bad_speed, bad_retardation, bad_gradient}

-- Fractions of whole numbers -----------------------------------------------------------------------------------------------------------
-- above over below, each of either sign
pub record Fraction : Type 0 where
  pub above : ℤ
  pub below : ℤ

-- a over b, neither below zero
abbrev pub ratio : ℕ → ℕ → Fraction
ratio a b = record { above = pos a; below = pos b }

-- a whole number, which may be below zero
abbrev pub whole : ℤ → Fraction
whole z = record { above = z; below = pos 1 }

-- the sum
infixl 6 ◌plus◌
abbrev pub ◌plus◌ : Fraction → Fraction → Fraction
f plus g = record { above = f.above *ℤ g.below +ℤ g.above *ℤ f.below; below = f.below *ℤ g.below }

-- the product
infixl 7 ◌times◌
abbrev pub ◌times◌ : Fraction → Fraction → Fraction
f times g = record { above = f.above *ℤ g.above; below = f.below *ℤ g.below }

-- the quotient
infixl 7 ◌over◌
abbrev pub ◌over◌ : Fraction → Fraction → Fraction
f over g = record { above = f.above *ℤ g.below; below = f.below *ℤ g.above }

-- the least whole number that is not less than a fraction above zero
abbrev pub rounded_up : Fraction → ℕ
rounded_up f = (nat_abs f.above + (nat_abs f.below - 1)) / nat_abs f.below

-- The formula --------------------------------------------------------------------------------------------------------------------------
-- V, m/s: a km is 1,000 m, an hour 3,600 s
unfoldable pub speed : ℕ → Fraction
speed v = ratio v 1 times ratio 1000 3600

-- D, m/s2: 1,000 mm are a m
unfoldable pub retardation : ℕ → Fraction
retardation d = ratio d 1 over ratio 1000 1

-- 9.81 H / 1000, m/s2
unfoldable pub pull : ℤ → Fraction
pull h = ratio 981 100 times whole h over ratio 1000 1

-- D + 9.81 H / 1000
unfoldable pub braking : ℕ → ℤ → Fraction
braking d h = retardation d plus pull h

-- P = V V / (2 (D + 9.81 H / 1000)) + 3 V, m
unfoldable pub formula : ℕ → ℕ → ℤ → Fraction
formula v d h = speed v times speed v over (ratio 2 1 times braking d h) plus ratio 3 1 times speed v

-- nothing rounded before the end, then up to a full 10 m
unfoldable pub full_tens : Fraction → ℕ
full_tens f = 10 * rounded_up (f over ratio 10 1)

-- The call -----------------------------------------------------------------------------------------------------------------------------
-- 1 to 120 km/h
unfoldable pub speed_in : ℕ → Bool
speed_in v = leb 1 v && leb v 120

-- 500 to 1,500 mm/s2
unfoldable pub retardation_in : ℕ → Bool
retardation_in d = leb 500 d && leb d 1500

-- -30 to 30 per mille; negsuc 29 is -30
unfoldable pub gradient_in : ℤ → Bool
gradient_in h = le_z (negsuc 29) h && le_z h (pos 30)

-- 19, 20, 21, in that order
unfoldable pub board_number : ℕ → ℕ → ℤ → ℕ
board_number v d h =
    refuse (not (speed_in v)) bad_speed
    (refuse (not (retardation_in d)) bad_retardation
    (refuse (not (gradient_in h)) bad_gradient
    0))

-- the answer: the distance in metres; refused: the number, distance 0
unfoldable pub board_distance : ℕ → ℕ → ℤ → BoardDistance
board_distance v d h =
    cond (eqb (board_number v d h) 0)
    (record { number = 0; distance = full_tens (formula v d h) })
    (record { number = board_number v d h; distance = 0 })
