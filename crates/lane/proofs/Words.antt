-- The booms of a crossing in words.
use mathlib.Core.Path.{◌≡◌, refl, sym, ◌∙◌, ap}
use mathlib.Core.Bool.{true, cond, ◌&&◌, and_assoc}
use Prim.Native.Nat.{ℕ, ◌%◌}
use native.Mathlib.Omega.{arith}
use lib.Dec.{eqb}
use Rattle.machine.specs.Plant.{lights_only, four_booms, boom, booms_up}
use Rattle.booms.specs.Sides.{on_sides}
use Rattle.booms.proofs.Laws.{sides}
use Rattle.digits.specs.Digits.{digit}
use Rattle.digits.proofs.Laws.{none_on}
use Rattle.lane.specs.declared.Lane.{Lane}
use Rattle.lane.specs.Lanes.{crossing_of}

module _ (kind w : ℕ) where
  two_up : (eqb (digit 4 w 0) 0 && eqb (digit 4 w 1) 0) ≡ eqb (w % 16) 0
  two_up = none_on 4 (omega arith) 2 w

  four_up : ((eqb (digit 4 w 0) 0 && eqb (digit 4 w 1) 0) && (eqb (digit 4 w 2) 0 && eqb (digit 4 w 3) 0)) ≡ eqb (w % 256) 0
  four_up = sym (and_assoc (eqb (digit 4 w 0) 0 && eqb (digit 4 w 1) 0) (eqb (digit 4 w 2) 0) (eqb (digit 4 w 3) 0)) ∙ none_on 4 (omega arith) 4 w

  pub up_in_words : booms_up kind (λ b. digit 4 w b) ≡ cond (lights_only kind) true (cond (four_booms kind) (eqb (w % 256) 0) (eqb (w % 16) 0))
  unfolding booms_up on_sides
  up_in_words =
      sym (sides kind (λ b. eqb (digit 4 w b) 0))
      ∙ ap (λ x. cond (lights_only kind) true (cond (four_booms kind) x (eqb (digit 4 w 0) 0 && eqb (digit 4 w 1) 0))) four_up
      ∙ ap (λ x. cond (lights_only kind) true (cond (four_booms kind) (eqb (w % 256) 0) x)) two_up

pub booms_in_words : (kind : ℕ) (l : Lane) → booms_up kind (λ b. digit 4 l.booms b) ≡ booms_up kind (boom (crossing_of l))
unfolding booms_up crossing_of
booms_in_words kind l = refl
