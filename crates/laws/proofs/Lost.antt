-- A boom whose position is lost (T-02) counts neither as up nor as down: raising waits on it, normal position is not reached, and the bell
-- sounds on. That it does not close the road is the claim's to say (crates/demand).
use mathlib.Core.Path.{◌≡◌, refl, sym, ◌∙◌, ap}
use mathlib.Core.Bool.{Bool, true, false, ◌||◌, true≢false, and-false}
use Prim.Native.Nat.{ℕ, ◌<◌}
use native.Mathlib.Omega.{arith}
use lib.Dec.{eqb, leb}
use borrow.Author.Tests.{lt-leb}
use Rattle.machine.specs.Reports.{up, down, lost}
use Rattle.machine.specs.declared.Entry.{Entry}
use Rattle.machine.specs.declared.Crossing.{Crossing}
use Rattle.machine.specs.Plant.{boom, boom_count, each_boom, reason, booms_up, booms_down, normal}
use Rattle.machine.specs.Settling.{phase_settled, settle}
use Rattle.machine.specs.Panel.{bell}
use Rattle.machine.proofs.Tools.{by_test, or_left_false, all_below_at}
use Rattle.machine.proofs.Entries.{at_most_four}

-- boom b of a crossing is lost
module _ (s : Entry) (c : Crossing) (b : ℕ) (has : b < boom_count s.kind) (report : boom c b ≡ lost) where
  -- a test of each boom that fails of a lost one
  fails : (test : ℕ → Bool) → test lost ≡ false → each_boom s.kind (λ t. test (boom c t)) ≡ false
  fails test q = by_test (each_boom s.kind (λ t. test (boom c t)))
      (λ all.
      let four = at_most_four s.kind in
      let h = all_below_at 4 (λ t. leb (boom_count s.kind) t || test (boom c t)) all b (omega arith) in
      absurd (true≢false (sym (or_left_false _ (test (boom c b)) (lt-leb _ _ has) h) ∙ rw report q)))
      (λ r. r)

  not_up : booms_up s.kind (boom c) ≡ false
  unfolding booms_up
  not_up = fails (λ r. eqb r up) refl

  not_down : booms_down s.kind (boom c) ≡ false
  unfolding booms_down
  not_down = fails (λ r. eqb r down) refl

  -- raising waits on it, whatever reason stands
  pub lost_raising : (add : ℕ) → c.phase ≡ 4 → (settle s add c).phase ≡ 4
  unfolding settle phase_settled
  lost_raising add four = ap (λ all_up. phase_settled s (reason c) all_up c.left c.phase) not_up ∙ rw four

  -- normal position is not reached
  pub lost_normal : normal s c ≡ false
  unfolding normal
  lost_normal = rw (not_up, and-false)

  -- the bell sounds on
  pub lost_bell : bell s c ≡ 1
  unfolding bell
  lost_bell = rw (lost_normal, not_down, and-false)
