-- The booms of a kind by the sides of the road.
use mathlib.Core.Path.{◌≡◌, refl, sym}
use mathlib.Core.Bool.{Bool, true, false, ◌&&◌, ◌||◌, cond, and_assoc, and-true}
use Prim.Native.Nat.{ℕ}
use lib.Dec.{eqb, leb}
use Rattle.machine.specs.Common.{all_below}
use borrow.Author.Tests.{eqb-true}
use Rattle.machine.specs.Kinds.{half, old_half, lights_only, half_booms, four_booms, boom_count}
use Rattle.machine.specs.Plant.{each_boom}
use Rattle.machine.proofs.Tools.{by_test}
use Rattle.booms.specs.Sides.{on_sides}

by_side : (none four : Bool) (f : ℕ → Bool) → cond none true (cond four ((f 0 && f 1) && (f 2 && f 3)) (f 0 && f 1)) ≡ all_below 4 (λ b. leb (cond none 0 (cond four 4 2)) b || f b)
by_side true four f = refl
by_side false true f = sym (and_assoc (f 0 && f 1) (f 2) (f 3))
by_side false false f = simp and-true

-- a test of each boom that a kind has is the test of its sides
pub sides : (kind : ℕ) (f : ℕ → Bool) → on_sides kind (f 0 && f 1) (f 2 && f 3) ≡ each_boom kind f
unfolding on_sides
sides kind f = by_side (lights_only kind) (four_booms kind) f

-- half booms are two
pub two_half : (kind : ℕ) → half_booms kind ≡ true → boom_count kind ≡ 2
two_half kind q = by_test (eqb kind half)
    (λ t. rw (eqb-true kind half t))
    (λ f. let old : eqb kind old_half ≡ true = rw f at q in rw (eqb-true kind old_half old))
