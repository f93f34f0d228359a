-- The printed table against the call: 35 cells in one computed test.
use mathlib.Core.Path.{◌≡◌, refl, ap, ◌∙◌}
use mathlib.Core.Bool.{Bool, true, false, ◌&&◌, ◌||◌, and-eq-true_iff}
use Prim.Native.Nat.{ℕ, zero, suc, ◌+◌, ◌*◌, ◌≤◌, ◌<◌}
use native.Mathlib.Omega.{arith}
use native.Mathlib.Decide.{ℕ_discrete}
use lib.Dec.{eqb, lit<, lit≤}
use lib.ListN.{get_or}
use lib.IntN.{ℤ, pos, negsuc, sub_ℕ}
use borrow.Author.Tests.{eqb-true, lt-ltb}
use Rattle.machine.specs.Common.{all_below}
use Rattle.machine.specs.declared.BoardDistance.{BoardDistance}
use Rattle.machine.specs.Board.{speed, retardation, pull, braking, formula, full_tens, speed_in, retardation_in, gradient_in, board_number, board_distance}
use Rattle.machine.specs.BoardTable.{table_gradients, printed}
use Rattle.setting_out.specs.SettingOut.{slowing, top, bottom, taken, Table}

-- a computed test
each : (n : ℕ) (f : ℕ → Bool) → all_below n f ≡ true → (k : ℕ) → k < n → f k ≡ true
each zero f q k l = absurd (omega arith)
each (suc n) f q k l = let b = (and-eq-true_iff (all_below n f) (f n)).0 q in at (ℕ_discrete k n) b.1 (each n f b.0 k)
  where
    at : Dec (k ≡ n) → f n ≡ true → (k < n → f k ≡ true) → f k ≡ true
    at (yes e) last before = rw e last
    at (no ne) last before = before (omega (arith, ne))

abbrev answered : ℕ → ℕ → BoardDistance
answered i j = board_distance (printed i j).speed (printed i j).retardation (printed i j).gradient

agrees : ℕ → ℕ → Bool
agrees i j = (eqb i 1 && eqb j 2) || (eqb (answered i j).number 0 && eqb (answered i j).distance (printed i j).distance)

same_answer : (r : BoardDistance) (x : ℕ) → r.number ≡ 0 → r.distance ≡ x → r ≡ taken x
same_answer r x p q = ap (λ (n : ℕ). record { number = n; distance = r.distance }) p ∙ ap taken q

-- what is computed: the cells, the short one, and 9 km/h, 1,250 mm/s2 and level
computed : (all_below 5 (λ (i : ℕ). all_below 7 (agrees i)) ≡ true) × (board_distance 60 870 (pos 5) ≡ taken 210) × (board_distance 9 1250 (pos 0) ≡ taken 10)
unfolding agrees printed board_distance board_number speed_in retardation_in gradient_in full_tens formula speed braking retardation pull
computed = (refl, refl, refl)

-- but for the short cell
cell : (i j : ℕ) → i < 5 → j < 7 → ((i ≡ 1) × (j ≡ 2) → ⊥) → answered i j ≡ taken (printed i j).distance
unfolding agrees
cell i j a b ns = two (eqb i 1 && eqb j 2) refl (each 7 (agrees i) (each 5 (λ (m : ℕ). all_below 7 (agrees m)) computed.0 i a) j b)
  where
    two : (short : Bool) → (eqb i 1 && eqb j 2) ≡ short → agrees i j ≡ true → answered i j ≡ taken (printed i j).distance
    two true e t = let p = (and-eq-true_iff (eqb i 1) (eqb j 2)).0 e in absurd (ns (eqb-true i 1 p.0, eqb-true j 2 p.1))
    two false e t = let p = (and-eq-true_iff (eqb (answered i j).number 0) _).0 (rw e at t) in same_answer (answered i j) _ (eqb-true _ _ p.0) (eqb-true _ _ p.1)

column : (j : ℕ) → j < 7 → get_or table_gradients j (pos 0) ≡ sub_ℕ 15 (5 * j)
column zero l = refl
column (suc zero) l = refl
column (suc (suc zero)) l = refl
column (suc (suc (suc zero))) l = refl
column (suc (suc (suc (suc zero)))) l = refl
column (suc (suc (suc (suc (suc zero))))) l = refl
column (suc (suc (suc (suc (suc (suc zero)))))) l = refl
column (suc (suc (suc (suc (suc (suc (suc j))))))) l = absurd (omega arith)

gradient_of : (i j : ℕ) → i < 5 → j < 7 → (printed i j).gradient ≡ sub_ℕ 15 (5 * j)
unfolding printed
gradient_of i j a b = rw (lt-ltb i 5 a, lt-ltb j 7 b) (column j b)

retardation_of : (i j : ℕ) → i < 5 → j < 7 → (printed i j).retardation ≡ 870
unfolding printed
retardation_of i j a b = rw (lt-ltb i 5 a, lt-ltb j 7 b)

short_is : printed 1 2 ≡ record { speed = 60; retardation = 870; gradient = pos 5; distance = 200 }
unfolding printed
short_is = refl

pub table : Table
unfolding bottom top slowing
table = record {
  retardations = retardation_of;
  gradients = gradient_of;
  cells = λ i j a b ns. cell i j a b (λ s. ns (omega (arith, s), omega (arith, s)));
  short = short_is;
  formula_there = (lit≤ tt, lit< tt);
  call_there = computed.1;
}

pub stays_is : board_distance 9 1250 (pos 0) ≡ taken 10
stays_is = computed.2
