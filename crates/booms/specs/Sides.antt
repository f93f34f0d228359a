-- The booms of a kind by the two sides of the road.
use Rattle.std.specs.Prelude.{Bool, true, ◌&&◌, cond, ℕ}
use Rattle.machine.specs.Kinds.{lights_only, four_booms}

-- a test of each boom that a kind has, from the tests of the booms right and left of the road
unfoldable pub on_sides : ℕ → Bool → Bool → Bool
on_sides kind right left = cond (lights_only kind) true (cond (four_booms kind) (right && left) right)
