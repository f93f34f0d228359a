-- Kinds (document 01, "Site book"; T-09): the six numbers, and what a kind has. A rule asks what a kind has, never which number it is.
--
--                          1    2    3    4    5    6
--   lights only            x                   x
--   half booms                  x                   x
--   four booms                            x
--   under the 1959 sheet                       x    x
--   booms under it                                  x
use Rattle.std.specs.Prelude.{Bool, cond, ◌||◌, ℕ, eqb}

-- 1 lights only
abbrev pub lights : ℕ
lights = 1

-- 2 half booms
abbrev pub half : ℕ
half = 2

-- 3 two full booms
abbrev pub two_full : ℕ
two_full = 3

-- 4 four full booms
abbrev pub four_full : ℕ
four_full = 4

-- 5 lights only under the 1959 sheet, source 003 (T-09)
abbrev pub old_lights : ℕ
old_lights = 5

-- 6 half booms under that sheet (T-09)
abbrev pub old_half : ℕ
old_half = 6

-- no booms
abbrev pub lights_only : ℕ → Bool
lights_only kind = eqb kind lights || eqb kind old_lights

-- booms over half of the road
abbrev pub half_booms : ℕ → Bool
half_booms kind = eqb kind half || eqb kind old_half

-- booms left of the road too
abbrev pub four_booms : ℕ → Bool
four_booms kind = eqb kind four_full

-- the 1959 sheet and not chapter 9
abbrev pub old_sheet : ℕ → Bool
old_sheet kind = eqb kind old_lights || eqb kind old_half

-- booms under the 1959 sheet, with reports of their lamps
abbrev pub old_booms : ℕ → Bool
old_booms kind = eqb kind old_half

-- Booms 0 and 1 stand right of the road, none for lights only; 2 and 3 left, with four booms alone
abbrev pub boom_count : ℕ → ℕ
boom_count kind = cond (lights_only kind) 0 (cond (four_booms kind) 4 2)

-- Lamps 0 to 4 at every kind; 5 and 6 are the lamps of booms 0 and 1 under the 1959 sheet (T-09)
abbrev pub lamp_count : ℕ → ℕ
lamp_count kind = cond (old_booms kind) 7 5
