-- The phase, its timer and the ticks left to motorists stay in their range under a tick and under settling.
use mathlib.Core.Path.{◌≡◌, refl}
use mathlib.Core.Bool.{Bool, true, false, cond, not, ◌&&◌}
use Prim.Native.Nat.{ℕ, pred, ◌≤◌}
use native.Mathlib.Omega.{arith}
use lib.Dec.{eqb}
use borrow.Author.Tests.{eqb-true, eqb-false}
use Rattle.machine.specs.Common.{bit}
use Rattle.machine.specs.Plant.{Entry, lights_only, four_booms}
use Rattle.machine.specs.Range.{left_limit}
use Rattle.machine.specs.Effects.{to_gap, phase_ticked, timer_ticked}
use Rattle.machine.specs.Settling.{phase_settled, timer_settled, left_settled}
use Rattle.machine.proofs.Tools.{by_test, by_cond, and_both}
use Rattle.machine.proofs.Entries.{EntryIn, some_gap}
use Rattle.machine.proofs.Ranges.{PhaseIn, opened, warning, right, closed, raising}

-- a timer that does not run out yet
still_runs : (timer : ℕ) → 1 ≤ timer → eqb timer 1 ≡ false → 1 ≤ pred timer
still_runs timer l q = let d : timer ≡ 1 → ⊥ = eqb-false _ _ q in omega arith

pub less : (n m : ℕ) → n ≤ m → pred n ≤ m
less n m l = omega arith

module _ (s : Entry) (g : EntryIn s) where
  -- what a timer that runs out leads to
  runs_out : (phase : ℕ) → PhaseIn s (cond (to_gap s phase) 2 3) (bit (to_gap s phase) s.gap)
  runs_out phase = by_test (to_gap s phase)
      (λ q. let four = (and_both (eqb phase 1) (four_booms s.kind) q).1 in rw q (right refl four (some_gap g four) (omega arith)))
      (λ q. rw q (closed refl refl))

  pub phase_ticks : {phase timer : ℕ} → PhaseIn s phase timer → PhaseIn s (phase_ticked s phase timer) (timer_ticked s phase timer)
  unfolding phase_ticked timer_ticked
  phase_ticks (opened p z) = rw (p, z) (opened refl refl)
  phase_ticks {phase} {timer} (warning p l h) = by_test (eqb timer 1)
      (λ q. rw q (runs_out phase))
      (λ q. rw q (warning p (still_runs timer l q) (less timer _ h)))
  phase_ticks {phase} {timer} (right p four l h) = by_test (eqb timer 1)
      (λ q. rw q (runs_out phase))
      (λ q. rw q (right p four (still_runs timer l q) (less timer _ h)))
  phase_ticks (closed p z) = rw (p, z) (closed refl refl)
  phase_ticks (raising p z h) = rw (p, z) (raising refl refl h)

  -- a settled phase and its timer, from phase `from`
  abbrev Next : ℕ → ℕ → ℕ → Type 0
  Next from timer next = PhaseIn s next (timer_settled s.pre from next timer)

  -- open, or in warning with F, from another phase
  restarts : (stands : Bool) (from timer : ℕ) → eqb 0 from ≡ false → eqb 1 from ≡ false → Next from timer (bit stands 1)
  unfolding timer_settled
  restarts true from timer a b = rw b (warning refl g.some_pre (omega arith))
  restarts false from timer a b = rw a (opened refl refl)

  -- 2 or 3: it stays while a reason stands
  lowers : (stands : Bool) {from timer : ℕ} → eqb 0 from ≡ false → eqb 4 from ≡ false → eqb from from ≡ true → PhaseIn s from timer → Next from timer (cond stands from (cond (lights_only s.kind) 0 4))
  unfolding timer_settled
  lowers true a b e h = rw e h
  lowers false {from} {timer} a b e h = by_cond (Next from timer) (lights_only s.kind)
      (λ _. rw a (opened refl refl))
      (λ q. rw b (raising refl refl q))

  -- 0: a warning begins, or it stays
  waits : (b : Bool) → Next 0 0 (bit b 1)
  unfolding timer_settled
  waits true = warning refl g.some_pre (omega arith)
  waits false = opened refl refl

  pub phase_settles : (stands up : Bool) (left : ℕ) {phase timer : ℕ} → PhaseIn s phase timer → Next phase timer (phase_settled s stands up left phase)
  unfolding phase_settled timer_settled
  phase_settles stands up left (opened p z) = rw (p, z) (waits (stands && eqb left 0))
  phase_settles true up left (warning p l h) = rw p (warning refl l h)
  phase_settles false up left (warning p l h) = rw p (opened refl refl)
  phase_settles stands up left (right p four l h) = rw p (lowers stands refl refl refl (right refl four l h))
  phase_settles stands up left (closed p z) = rw p (lowers stands refl refl refl (closed refl z))
  phase_settles stands true left {phase} {timer} (raising p z h) = rw p (restarts (stands && eqb s.pause 0) 4 timer refl refl)
  phase_settles stands false left (raising p z h) = rw p (raising refl z h)

  -- no tick is left outside phase 0, and none becomes more
  pub left_ticks : {phase timer left : ℕ} → PhaseIn s phase timer → left ≤ left_limit s phase → pred left ≤ left_limit s (phase_ticked s phase timer)
  unfolding phase_ticked
  left_ticks (opened p z) b = let l = rw p at b in rw (p, z) (omega arith)
  left_ticks (warning p l h) b = let z = rw p at b in omega arith
  left_ticks (right p four l h) b = let z = rw p at b in omega arith
  left_ticks (closed p z) b = let z = rw p at b in omega arith
  left_ticks (raising p z h) b = let z = rw p at b in omega arith

  pub left_settles : (phase next : ℕ) {left : ℕ} → left ≤ left_limit s phase → left_settled s.pause phase next left ≤ left_limit s next
  unfolding left_settled
  left_settles phase next {left} b = by_cond (λ x. x ≤ left_limit s next) (eqb next phase)
      (λ q. rw (eqb-true next phase q) b)
      (λ _. by_test (eqb next 0)
      (λ z. rw z (by_cond (λ x. x ≤ s.pause) (not (eqb phase 1)) (λ _. omega arith) (λ _. omega arith)))
      (λ z. rw z (omega arith)))
