-- The ticks that a crossing has still to go before all booms are ordered down: with a reason and every boom up, a tick takes one from them and
-- nothing adds to them.
use mathlib.Core.Path.{◌≡◌}
use mathlib.Core.Bool.{Bool, true, false, cond}
use Prim.Native.Nat.{ℕ, suc, ◌+◌, pred, ◌≤◌}
use native.Mathlib.Omega.{arith}
use lib.Dec.{eqb}
use borrow.Author.Tests.{eqb-false}
use Rattle.machine.specs.Common.{bit}
use Rattle.machine.specs.declared.Entry.{Entry}
use Rattle.machine.specs.declared.Crossing.{Crossing}
use Rattle.machine.specs.Plant.{boom, four_booms, reason, booms_up}
use Rattle.machine.specs.Range.{left_limit}
use Rattle.machine.specs.Effects.{phase_ticked, timer_ticked, tick}
use Rattle.machine.specs.Settling.{phase_settled, timer_settled, left_settled, settle}
use Rattle.machine.proofs.Tools.{by_test}
use Rattle.machine.proofs.Ranges.{PhaseIn, opened, warning, right, closed, raising, CrossingIn}
use Rattle.demand.specs.Demand.{enough_ticks}

some : (n : ℕ) → 1 ≤ n + bit (eqb n 0) 1
some n = by_test (eqb n 0) (λ q. rw q (omega arith)) (λ q. let d : n ≡ 0 → ⊥ = eqb-false _ _ q in rw q (omega arith))

one : (b : Bool) → bit b 1 ≤ 1
one true = omega arith
one false = omega arith

less : (n g : ℕ) → 1 ≤ n → pred n + g ≤ pred (n + g)
less n g l = omega arith

last : (n g : ℕ) → 1 ≤ n → g ≤ pred (n + g)
last n g l = omega arith

module _ (s : Entry) where
  -- F + G: from the beginning of a warning
  abbrev closing : ℕ
  closing = s.pre + s.gap

  -- by phase, timer and ticks left to motorists
  abbrev to_go : ℕ → ℕ → ℕ → ℕ
  to_go phase timer left =
      cond (eqb phase 0) (left + bit (eqb left 0) 1 + closing)
      (cond (eqb phase 1) (timer + s.gap)
      (cond (eqb phase 2) timer
      (cond (eqb phase 4) (suc (s.pause + closing))
      0)))

  -- of a crossing
  abbrev pub ticks_to_go : Crossing → ℕ
  ticks_to_go c = to_go c.phase c.timer c.left

  -- after settling, with a reason and every boom up
  abbrev settled : ℕ → ℕ → ℕ → ℕ
  settled phase timer left =
      let next = phase_settled s true true left phase in
      to_go next (timer_settled s.pre phase next timer) (left_settled s.pause phase next left)

  -- open: the ticks left, then the warning
  from_open : (timer left : ℕ) → settled 0 timer left ≤ left + closing
  unfolding phase_settled timer_settled left_settled
  from_open timer left = by_test (eqb left 0) (λ q. rw q (omega arith)) (λ q. simp q (omega arith))

  -- raising ends with M ticks left, or in a warning
  from_raising : (timer left : ℕ) → settled 4 timer left ≤ s.pause + closing
  unfolding phase_settled timer_settled left_settled
  from_raising timer left = by_test (eqb s.pause 0) (λ q. rw q (omega arith)) (λ q. simp q (omega arith))

  settles : {phase timer : ℕ} (left : ℕ) → PhaseIn s phase timer → settled phase timer left ≤ to_go phase timer left
  unfolding phase_settled timer_settled left_settled
  settles left (opened p z) = rw (p, z) (omega (arith, from_open 0 left))
  settles left (warning p l h) = rw p (omega arith)
  settles left (right p four l h) = rw p (omega arith)
  settles left (closed p z) = rw p (omega arith)
  settles {phase} {timer} left (raising p z h) = rw p (omega (arith, from_raising timer left))

  ticks : {phase timer : ℕ} (left : ℕ) → PhaseIn s phase timer → settled (phase_ticked s phase timer) (timer_ticked s phase timer) (pred left) ≤ pred (to_go phase timer left)
  unfolding phase_settled timer_settled left_settled phase_ticked timer_ticked
  ticks left (opened p z) = rw (p, z) (omega (arith, from_open 0 (pred left), some left))
  ticks {phase} {timer} left (warning p l h) = rw p (by_test (eqb timer 1)
      (λ q. by_test (four_booms s.kind) (λ four. rw (q, four) (last timer s.gap l)) (λ four. rw (q, four) (omega arith)))
      (λ q. rw q (less timer s.gap l)))
  ticks {phase} {timer} left (right p four l h) = rw p (by_test (eqb timer 1) (λ q. rw q (omega arith)) (λ q. rw q (omega arith)))
  ticks left (closed p z) = rw (p, z) (omega arith)
  ticks {phase} {timer} left (raising p z h) = rw (p, z) (omega (arith, from_raising 0 (pred left)))

  -- in range there are never more than M + F + G + 1
  pub at_most : (c : Crossing) → CrossingIn s c → ticks_to_go c ≤ enough_ticks s
  at_most c h = by_phase h.phase h.left
    where
      by_phase : {phase timer left : ℕ} → PhaseIn s phase timer → left ≤ left_limit s phase → to_go phase timer left ≤ enough_ticks s
      by_phase {phase} {timer} {left} (opened p z) b = let l : left ≤ s.pause = rw p at b in rw p (omega (arith, one (eqb left 0)))
      by_phase (warning p l h) b = rw p (omega arith)
      by_phase (right p four l h) b = rw p (omega arith)
      by_phase (closed p z) b = rw p (omega arith)
      by_phase (raising p z h) b = rw p (omega arith)

  -- and where there are none, all booms are ordered down
  pub none_to_go : (c : Crossing) → CrossingIn s c → ticks_to_go c ≤ 0 → c.phase ≡ 3
  none_to_go c h = by_phase c.left h.phase
    where
      by_phase : {phase timer : ℕ} (left : ℕ) → PhaseIn s phase timer → to_go phase timer left ≤ 0 → phase ≡ 3
      by_phase left (opened p z) b = let n = rw p at b in absurd (omega (arith, some left))
      by_phase left (warning p l h) b = let n = rw p at b in absurd (omega arith)
      by_phase left (right p four l h) b = let n = rw p at b in absurd (omega arith)
      by_phase left (closed p z) b = p
      by_phase left (raising p z h) b = let n = rw p at b in absurd (omega arith)

  -- One crossing: ready after it settles ---------------------------------------------------------------------------------------------
  module _ (c : Crossing) (h : PhaseIn s c.phase c.timer) where
    pub own_nearer : reason (settle s 0 c) ≡ true → booms_up s.kind (boom (settle s 0 c)) ≡ true → ticks_to_go (settle s 0 c) ≤ ticks_to_go c
    unfolding settle reason
    own_nearer r u = rw (r, u) (settles c.left h)

    pub tick_nearer : reason (settle s 1 (tick s c)) ≡ true → booms_up s.kind (boom (settle s 1 (tick s c))) ≡ true → ticks_to_go (settle s 1 (tick s c)) ≤ pred (ticks_to_go c)
    unfolding settle reason tick
    tick_nearer r u = rw (r, u) (ticks c.left h)
