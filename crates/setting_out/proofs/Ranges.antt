-- The ranges, the numbers that they give and the answers to them.
use mathlib.Core.Path.{◌≡◌, refl, sym, ap, ◌∙◌}
use mathlib.Core.Bool.{Bool, true, false, not, ◌&&◌, and-eq-true_iff}
use mathlib.Core.Logic.{◌↔◌}
use Prim.Native.Nat.{ℕ, ◌≤◌, ◌<◌}
use native.Mathlib.Omega.{arith}
use lib.Dec.{leb, eqb}
use lib.IntN.{ℤ, pos, negsuc}
use borrow.Author.Tests.{leb-true, le-leb, eq-eqb, ne_eqb}
use Rattle.machine.specs.Common.{refuse}
use Rattle.machine.specs.Board.{formula, full_tens, speed_in, retardation_in, gradient_in, board_number, board_distance}
use Rattle.setting_out.specs.SettingOut.{Speed, Retardation, Gradient, taken, refused}

-- Ranges -------------------------------------------------------------------------------------------------------------------------------
from : {a b : ℕ} (x : ℕ) → (leb a x && leb x b) ≡ true → (a ≤ x) × (x ≤ b)
from {a} {b} x t = let p = (and-eq-true_iff (leb a x) (leb x b)).0 t in (leb-true a x p.0, leb-true x b p.1)

to : {a b : ℕ} (x : ℕ) → a ≤ x → x ≤ b → (leb a x && leb x b) ≡ true
to {a} {b} x l m = (and-eq-true_iff (leb a x) (leb x b)).1 (le-leb a x l, le-leb x b m)

speed_is : (v : ℕ) → (speed_in v ≡ true) ↔ Speed v
unfolding speed_in
speed_is v = ((λ t. (omega (arith, from v t), omega (arith, from v t))), (λ s. to v (omega (arith, s)) (omega (arith, s))))

retardation_is : (d : ℕ) → (retardation_in d ≡ true) ↔ Retardation d
unfolding retardation_in
retardation_is d = ((λ t. (omega (arith, from d t), omega (arith, from d t))), (λ s. to d (omega (arith, s)) (omega (arith, s))))

gradient_is : (h : ℤ) → (gradient_in h ≡ true) ↔ Gradient h
unfolding gradient_in
gradient_is (pos n) = ((λ t. omega (arith, leb-true n _ t)), (λ g. le-leb n _ (omega arith)))
gradient_is (negsuc n) = (
  (λ t. omega (arith, leb-true n _ ((and-eq-true_iff _ true).0 t).0)),
  (λ g. (and-eq-true_iff _ true).1 (le-leb n _ (omega arith), refl)),
)

-- Numbers ------------------------------------------------------------------------------------------------------------------------------
-- a chain that gives 0 passed each test
passes : (a b c : Bool) → refuse (not a) 19 (refuse (not b) 20 (refuse (not c) 21 0)) ≡ 0 → (a ≡ true) × (b ≡ true) × (c ≡ true)
passes false b c q = absurd (omega arith)
passes true false c q = absurd (omega arith)
passes true true false q = absurd (omega arith)
passes true true true q = (refl, refl, refl)

fails : (b : Bool) → (b ≡ true → ⊥) → b ≡ false
fails true f = absurd (f refl)
fails false f = refl

module _ (v d : ℕ) (h : ℤ) where
  pub number_speed : (Speed v → ⊥) → board_number v d h ≡ 19
  unfolding board_number
  number_speed f = rw (fails (speed_in v) (λ t. f ((speed_is v).0 t)))

  pub number_retardation : Speed v → (Retardation d → ⊥) → board_number v d h ≡ 20
  unfolding board_number
  number_retardation s f = rw ((speed_is v).1 s, fails (retardation_in d) (λ t. f ((retardation_is d).0 t)))

  pub number_gradient : Speed v → Retardation d → (Gradient h → ⊥) → board_number v d h ≡ 21
  unfolding board_number
  number_gradient s r f = rw ((speed_is v).1 s, (retardation_is d).1 r, fails (gradient_in h) (λ t. f ((gradient_is h).0 t)))

  pub number_taken : Speed v → Retardation d → Gradient h → board_number v d h ≡ 0
  unfolding board_number
  number_taken s r g = rw ((speed_is v).1 s, (retardation_is d).1 r, (gradient_is h).1 g)

  -- number 0 is given in range alone
  pub in_range : board_number v d h ≡ 0 → Speed v × Retardation d × Gradient h
  unfolding board_number
  in_range q =
      let t = passes (speed_in v) (retardation_in d) (gradient_in h) q in
      ((speed_is v).0 t.0, (retardation_is d).0 t.1, (gradient_is h).0 t.2)

  -- Answers
  pub answer_refused : (n : ℕ) → (n ≡ 0 → ⊥) → board_number v d h ≡ n → board_distance v d h ≡ refused n
  unfolding board_distance
  answer_refused n f q = rw (q, ne_eqb n 0 f)

  pub answer_taken : board_number v d h ≡ 0 → board_distance v d h ≡ taken (full_tens (formula v d h))
  unfolding board_distance
  answer_taken q = rw (eq-eqb (board_number v d h) 0 q)
