-- Setting out an arrow board (T-08), proved.
use mathlib.Core.Path.{◌≡◌, refl, sym, ap, ◌∙◌}
use Prim.Native.Nat.{ℕ, ◌+◌, ◌-◌, ◌*◌, ◌%◌, ◌≤◌, ◌<◌}
use native.Mathlib.Nat.{add-mul, mul_assoc, mul-le-mul, mul_left_comm, lt_of_mul-lt-mul_right, le_of_mul-le-mul_right}
use native.Mathlib.Omega.{arith}
use lib.Dec.{lt→ltb}
use lib.IntN.{ℤ, pos, ◌*ℤ◌}
use lib.Signed.{◌<ℤ◌}
use Rattle.machine.specs.Board.{ratio, formula, full_tens, board_number, board_distance}
use Rattle.setting_out.specs.SettingOut.{Speed, Retardation, Gradient, slowing, top, bottom, Placed, SettingOut}
use Rattle.setting_out.proofs.Rounded.{full_of_10, full_enough, full_close, full_scaled}
use Rattle.setting_out.proofs.Cleared.{common, slowing_bounds, formula_is}
use Rattle.setting_out.proofs.Ranges.{number_speed, number_retardation, number_gradient, number_taken, answer_refused, answer_taken}
use Rattle.setting_out.proofs.Table.{stays_is, table}

-- In range -----------------------------------------------------------------------------------------------------------------------------
module _ (v d : ℕ) (h : ℤ) (r : Retardation d) (g : Gradient h) where
  positive : 0 < bottom (slowing d h)
  unfolding bottom
  positive = omega (arith, (slowing_bounds d h r g).0)

  -- the distance is that of the cleared fraction
  pub distance_is : full_tens (formula v d h) ≡ full_tens (ratio (top v (slowing d h)) (bottom (slowing d h)))
  unfolding common
  distance_is = rw (formula_is v d h r g) (full_scaled common (top v (slowing d h)) (bottom (slowing d h)) (omega arith) positive)

  above_zero : pos 0 <ℤ (formula v d h).below
  unfolding common
  above_zero = rw (formula_is v d h r g) (record { lt = lt→ltb 0 (common * bottom (slowing d h)) (omega (arith, positive)) })

  crosswise : (formula v d h).above *ℤ pos (bottom (slowing d h)) ≡ pos (top v (slowing d h)) *ℤ (formula v d h).below
  crosswise =
      rw (formula_is v d h r g)
      (ap pos (mul_assoc common (top v (slowing d h)) (bottom (slowing d h)) ∙ mul_left_comm common (top v (slowing d h)) (bottom (slowing d h))))

-- x is the least multiple of 10 that is not less than n / m
module _ (n m x : ℕ) (p : 0 < m) (full : x % 10 ≡ 0) (enough : n ≤ x * m) (close : x * m < n + 10 * m) where
  least_is : (k : ℕ) → n ≤ 10 * k * m → x ≤ 10 * k
  least_is k l = omega (arith, full, lt_of_mul-lt-mul_right m {m = x} {n = 10 * k + 10} (omega (arith, add-mul (10 * k) 10 m)))

  exact_is : (k : ℕ) → n ≡ 10 * k * m → x ≡ 10 * k
  exact_is k e = omega (arith, least_is k (omega (arith, e)), le_of_mul-le-mul_right {m = 10 * k} {n = x} {k = m} (omega (arith, e, enough)) p)

largest_is : (v q : ℕ) → v ≤ 120 → q ≤ 179430 → top v q + (10 * bottom q - 1) ≤ 12197442599
unfolding top bottom
largest_is v q s l = omega (arith, mul-le-mul s s, mul-le-mul s l)

reached_is : top 120 (slowing 1500 (pos 30)) + (10 * bottom (slowing 1500 (pos 30)) - 1) ≡ 12197442599
unfolding top bottom slowing
reached_is = refl

placed_at : (v d : ℕ) (h : ℤ) → Speed v → Retardation d → Gradient h → Placed v d h (full_tens (formula v d h))
unfolding bottom
placed_at v d h s r g =
    let n = top v (slowing d h) in
    let m = bottom (slowing d h) in
    let p = positive v d h r g in
    rw (distance_is v d h r g)
    (record {
      positive = (above_zero v d h r g, omega (arith, slowing_bounds d h r g));
      cleared = crosswise v d h r g;
      tens = omega (arith, full_of_10 n m);
      enough = omega (arith, full_enough n m p);
      close = omega (arith, full_close n m p);
      least = λ k l. omega (arith, least_is n m (full_tens (ratio n m)) p (full_of_10 n m) (full_enough n m p) (full_close n m p) k l);
      exact = λ k e. omega (arith, exact_is n m (full_tens (ratio n m)) p (full_of_10 n m) (full_enough n m p) (full_close n m p) k e);
      largest = omega (arith, largest_is v (slowing d h) s.1 (slowing_bounds d h r g).1);
    })

-- The claim ----------------------------------------------------------------------------------------------------------------------------
pub setting_out : SettingOut
setting_out = record {
  speed = λ v d h f. answer_refused v d h 19 (λ z. omega arith) (number_speed v d h f);
  retardation = λ v d h s f. answer_refused v d h 20 (λ z. omega arith) (number_retardation v d h (omega (arith, s), omega (arith, s)) f);
  gradient = λ v d h s r f. answer_refused v d h 21 (λ z. omega arith) (number_gradient v d h (omega (arith, s), omega (arith, s)) (omega (arith, r), omega (arith, r)) f);
  placed = λ v d h s r g. rw (answer_taken v d h (number_taken v d h s r g)) (refl, placed_at v d h s r g);
  stays = stays_is;
  reached = reached_is;
  table = table;
}
