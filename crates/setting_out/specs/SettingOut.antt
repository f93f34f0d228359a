-- Setting out an arrow board (T-08), one claim in words of its own: which number, which distance, and the printed table beside it.
use Rattle.std.specs.Prelude.{◌≡◌, ℕ, ◌+◌, ◌-◌, ◌*◌, ◌%◌, ◌≤◌, ◌<◌, ℤ, pos, negsuc, ◌*ℤ◌, ◌<ℤ◌}
use Rattle.std.proofs.Math.IntN.{sub_ℕ}
use Rattle.machine.specs.declared.BoardDistance.{BoardDistance}
use Rattle.machine.specs.Board.{formula, board_distance}
use Rattle.machine.specs.BoardTable.{printed}

-- The ranges: speed in km/h, retardation in mm/s2, gradient in per mille
abbrev pub Speed : ℕ → Type 0
Speed v = (1 ≤ v) × (v ≤ 120)

abbrev pub Retardation : ℕ → Type 0
Retardation d = (500 ≤ d) × (d ≤ 1500)

-- a rise of n, or a fall of n + 1
abbrev pub Gradient : ℤ → Type 0
Gradient (pos n) = n ≤ 30
Gradient (negsuc n) = n + 1 ≤ 30

-- D + 9.81 H / 1000 in hundred-thousandths of a m/s2, where it is above zero
unfoldable pub slowing : ℕ → ℤ → ℕ
slowing d (pos n) = 100 * d + 981 * n
slowing d (negsuc n) = 100 * d - 981 * (n + 1)

-- The formula cleared: with V = 5 v / 18 and q from above, V V / (2 q / 100,000) + 3 V = (625,000 v v + 135 v q) / (162 q)
unfoldable pub top : ℕ → ℕ → ℕ
top v q = 625000 * (v * v) + 135 * (v * q)

unfoldable pub bottom : ℕ → ℕ
bottom q = 162 * q

abbrev pub taken : ℕ → BoardDistance
taken metres = record { number = 0; distance = metres }

abbrev pub refused : ℕ → BoardDistance
refused number = record { number = number; distance = 0 }

-- x metres are the distance of the formula, up to a full 10
pub record Placed (v d : ℕ) (h : ℤ) (x : ℕ) : Type 0 where
  -- neither denominator is zero or below
  pub positive : (pos 0 <ℤ (formula v d h).below) × (0 < bottom (slowing d h))
  -- the formula with its units is the cleared fraction: above and below multiplied crosswise
  pub cleared : (formula v d h).above *ℤ pos (bottom (slowing d h)) ≡ pos (top v (slowing d h)) *ℤ (formula v d h).below
  -- a multiple of 10
  pub tens : x % 10 ≡ 0
  -- not less than the fraction
  pub enough : top v (slowing d h) ≤ x * bottom (slowing d h)
  -- less than 10 above it
  pub close : x * bottom (slowing d h) < top v (slowing d h) + 10 * bottom (slowing d h)
  -- so it is the least multiple of 10 that is not less
  pub least : (k : ℕ) → top v (slowing d h) ≤ 10 * k * bottom (slowing d h) → x ≤ 10 * k
  -- and a fraction that is a multiple of 10 stays
  pub exact : (k : ℕ) → top v (slowing d h) ≡ 10 * k * bottom (slowing d h) → x ≡ 10 * k
  -- no number on the way is above this one, if the cleared fraction is rounded up by one division
  pub largest : top v (slowing d h) + (10 * bottom (slowing d h) - 1) ≤ 12197442599

-- The printed table: all 35 cells
pub record Table : Type 0 where
  -- it is for 870 mm/s2
  pub retardations : (i j : ℕ) → i < 5 → j < 7 → (printed i j).retardation ≡ 870
  -- gradients from 15 down by 5
  pub gradients : (i j : ℕ) → i < 5 → j < 7 → (printed i j).gradient ≡ sub_ℕ 15 (5 * j)
  -- each cell but the short one is the call's answer
  pub cells : (i j : ℕ) → i < 5 → j < 7 → ((i ≡ 1) × (j ≡ 2) → ⊥)
      → board_distance (printed i j).speed (printed i j).retardation (printed i j).gradient ≡ taken (printed i j).distance
  -- the short one: at 60 km/h and +5 the table has 200, the formula 201.1 and so the call 210
  pub short : printed 1 2 ≡ record { speed = 60; retardation = 870; gradient = pos 5; distance = 200 }
  pub formula_there : (2011 * bottom (slowing 870 (pos 5)) ≤ 10 * top 60 (slowing 870 (pos 5)))
      × (10 * top 60 (slowing 870 (pos 5)) < 2012 * bottom (slowing 870 (pos 5)))
  pub call_there : board_distance 60 870 (pos 5) ≡ taken 210

-- The claim
pub record SettingOut : Type 0 where
  -- the numbers in their order, with distance 0
  pub speed : (v d : ℕ) (h : ℤ) → (Speed v → ⊥) → board_distance v d h ≡ refused 19
  pub retardation : (v d : ℕ) (h : ℤ) → Speed v → (Retardation d → ⊥) → board_distance v d h ≡ refused 20
  pub gradient : (v d : ℕ) (h : ℤ) → Speed v → Retardation d → (Gradient h → ⊥) → board_distance v d h ≡ refused 21
  -- in range: number 0 and the distance of the formula
  pub placed : (v d : ℕ) (h : ℤ) → Speed v → Retardation d → Gradient h
      → ((board_distance v d h).number ≡ 0) × Placed v d h (board_distance v d h).distance
  -- an exact multiple, as an example: 9 km/h, 1,250 mm/s2 and level give 10
  pub stays : board_distance 9 1250 (pos 0) ≡ taken 10
  -- the largest number on the way is reached: 120 km/h, 1,500 mm/s2, a rise of 30
  pub reached : top 120 (slowing 1500 (pos 30)) + (10 * bottom (slowing 1500 (pos 30)) - 1) ≡ 12197442599
  pub table : Table
