-- The stage of the ledger and the three numbers that the plant holds for it: a tick and settling do the same to both.
use mathlib.Core.Path.{◌≡◌, refl}
use mathlib.Core.Logic.{◌⊎◌, inl, inr}
use mathlib.Core.Bool.{Bool, true, false, ◌&&◌, ◌||◌, false≢true}
use Prim.Native.Nat.{ℕ, pred, ◌<◌}
use native.Mathlib.Omega.{arith}
use lib.Dec.{eqb}
use borrow.Author.Tests.{eqb-false}
use Rattle.machine.specs.declared.Entry.{Entry}
use Rattle.machine.specs.declared.Crossing.{Crossing}
use Rattle.machine.specs.Plant.{lights_only}
use Rattle.machine.specs.Effects.{phase_ticked, timer_ticked}
use Rattle.machine.specs.Settling.{phase_settled, timer_settled, left_settled}
use Rattle.machine.proofs.Tools.{by_test}
use Rattle.demand.specs.Ledger.{Stage, free, warns, lowers, shut, rises, ticked, settled, is_free, ticks_left}

-- phase, timer and ticks left to motorists
pub record Clock : Type 0 where
  pub phase : ℕ
  pub timer : ℕ
  pub left : ℕ

abbrev clock : ℕ → ℕ → ℕ → Clock
clock phase timer left = record { phase = phase; timer = timer; left = left }

-- those of a crossing
abbrev pub clock_of : Crossing → Clock
clock_of c = clock c.phase c.timer c.left

-- those of a stage
abbrev pub numbers : Stage → Clock
numbers (free n) = clock 0 0 n
numbers (warns n) = clock 1 n 0
numbers (lowers n) = clock 2 n 0
numbers shut = clock 3 0 0
numbers rises = clock 4 0 0

module _ (s : Entry) where
  abbrev pub clock_ticked : Clock → Clock
  clock_ticked k = clock (phase_ticked s k.phase k.timer) (timer_ticked s k.phase k.timer) (pred k.left)

  pub tick_clock : (x : Stage) → clock_ticked (numbers x) ≡ numbers (ticked s x)
  unfolding phase_ticked timer_ticked ticked
  tick_clock (free n) = refl
  tick_clock (warns n) = by_test (eqb n 1) (λ q. by_test (eqb s.kind 4) (λ k. rw (q, k)) (λ k. rw (q, k))) (λ q. rw q)
  tick_clock (lowers n) = by_test (eqb n 1) (λ q. rw q) (λ q. rw q)
  tick_clock shut = refl
  tick_clock rises = refl

  abbrev pub clock_settled : Bool → Bool → Clock → Clock
  clock_settled stands up k =
      let next = phase_settled s stands up k.left k.phase in
      clock next (timer_settled s.pre k.phase next k.timer) (left_settled s.pause k.phase next k.left)

  pub settle_clock : (stands up : Bool) (x : Stage) → clock_settled stands up (numbers x) ≡ numbers (settled s stands up x)
  unfolding phase_settled timer_settled left_settled settled
  settle_clock stands up (free n) = by_test (stands && eqb n 0) (λ q. rw q) (λ q. rw q)
  settle_clock true up (warns n) = refl
  settle_clock false up (warns n) = refl
  settle_clock true up (lowers n) = refl
  settle_clock false up (lowers n) = by_test (lights_only s.kind) (λ q. rw q) (λ q. rw q)
  settle_clock true up shut = refl
  settle_clock false up shut = by_test (lights_only s.kind) (λ q. rw q) (λ q. rw q)
  settle_clock stands true rises = by_test (stands && eqb s.pause 0) (λ q. rw q) (λ q. rw q)
  settle_clock stands false rises = refl

-- phase 0 is open
pub phase_free : (x : Stage) → eqb (numbers x).phase 0 ≡ is_free x
phase_free (free n) = refl
phase_free (warns n) = refl
phase_free (lowers n) = refl
phase_free shut = refl
phase_free rises = refl

-- At rest --------------------------------------------------------------------------------------------------------------------------
-- open or raising
abbrev pub rests : Stage → Bool
rests (free n) = true
rests (warns n) = false
rests (lowers n) = false
rests shut = false
rests rises = true

-- then the phase is 0 or 4, and no timer runs
pub resting : (x : Stage) → rests x ≡ true → (((numbers x).phase ≡ 0) ⊎ ((numbers x).phase ≡ 4)) × ((numbers x).timer ≡ 0)
resting (free n) q = (inl refl, refl)
resting (warns n) q = absurd (false≢true q)
resting (lowers n) q = absurd (false≢true q)
resting shut q = absurd (false≢true q)
resting rises q = (inr refl, refl)

-- phases 1 and 3 are not at rest
pub not_resting : (x : Stage) → (eqb (numbers x).phase 1 || eqb (numbers x).phase 3) ≡ true → rests x ≡ false
not_resting (free n) q = absurd (false≢true q)
not_resting (warns n) q = refl
not_resting (lowers n) q = absurd (false≢true q)
not_resting shut q = refl
not_resting rises q = absurd (false≢true q)

-- ticks are left to motorists in phase 0 alone
pub left_open : (x : Stage) → 0 < ticks_left x → (numbers x).phase ≡ 0
left_open (free n) l = refl
left_open (warns n) l = absurd (omega arith)
left_open (lowers n) l = absurd (omega arith)
left_open shut l = absurd (omega arith)
left_open rises l = absurd (omega arith)

-- where a reason stands a crossing is open only while ticks are left
pub stands_open : (s : Entry) (up : Bool) (x : Stage) → (numbers (settled s true up x)).phase ≡ 0 → 0 < ticks_left (settled s true up x)
unfolding settled
stands_open s up (free n) = by_test (eqb n 0) (λ q. rw q (λ z. absurd (omega arith))) (λ q. let d : n ≡ 0 → ⊥ = eqb-false _ _ q in rw q (λ z. omega arith))
stands_open s up (warns n) = λ z. absurd (omega arith)
stands_open s up (lowers n) = λ z. absurd (omega arith)
stands_open s up shut = λ z. absurd (omega arith)
stands_open s true rises = by_test (eqb s.pause 0) (λ q. rw q (λ z. absurd (omega arith))) (λ q. let d : s.pause ≡ 0 → ⊥ = eqb-false _ _ q in rw q (λ z. omega arith))
stands_open s false rises = λ z. absurd (omega arith)
