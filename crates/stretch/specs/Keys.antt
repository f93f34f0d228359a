-- Stretches as the code has them: of each event its key, a number that is 0 for a tick.
use Rattle.std.specs.Prelude.{Bool, List, ◌++◌, ℕ, eqb}
use Rattle.machine.specs.Shift.{how_many, all_of}

-- a key stands in both as often
abbrev pub as_often : List ℕ → List ℕ → ℕ → Bool
as_often x y k = eqb (how_many (eqb k) x) (how_many (eqb k) y)

-- Shift `alike`, of keys
unfoldable pub alike : List ℕ → List ℕ → Bool
alike x y = all_of (as_often x y) (x ++ y)

-- a key is a tick's
abbrev pub is_zero : ℕ → Bool
is_zero k = eqb k 0
