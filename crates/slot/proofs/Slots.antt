-- Laws of a slot.
use mathlib.Core.Path.{◌≡◌, refl, sym}
use mathlib.Core.Bool.{true, false}
use Prim.Native.Nat.{ℕ, suc, ◌+◌, ◌-◌, ◌≤◌, ◌<◌}
use native.Mathlib.Omega.{arith}
use lib.Dec.{ltb}
use borrow.Author.Tests.{ltb-true}
use Rattle.machine.specs.declared.Entry.{Entry}
use Rattle.machine.specs.declared.Crossing.{Crossing}
use Rattle.machine.specs.declared.Event.{Event}
use Rattle.machine.specs.Common.{bit}
use Rattle.machine.specs.Plant.{total}
use Rattle.machine.specs.Events.{refusal}
use Rattle.machine.specs.Effects.{act, tick, releases}
use Rattle.machine.specs.Settling.{settle}
use Rattle.machine.proofs.Tools.{by_cond}
use Rattle.quiet.specs.Passing.{passed, span}
use Rattle.quiet.proofs.Quiet.{Tracks, Calm, Quiet, quiet_span, passed_none, settled_calm}
use Rattle.slot.specs.Slots.{Slot, current, laid, woken, written_off, acted}

-- a slot that speaks of the tick `now`
pub record Good (s : Entry) (now : ℕ) (z : Slot) : Type 0 where
  pub past : z.since ≤ now
  pub ahead : now ≤ z.due
  pub quiet : Quiet s z.crossing (z.due - z.since)

-- A slot at a tick -----------------------------------------------------------------------------------------------------------------
-- a settled crossing laid into a slot speaks of this tick, and is the slot's crossing
module _ (s : Entry) (now : ℕ) (c : Crossing) (l : Tracks c) (h : Calm s c) where
  pub laid_good : Good s now (laid s now c)
  unfolding laid
  laid_good = let e : now + span s c - now ≡ span s c = omega arith in record { past = omega arith; ahead = omega arith; quiet = rw e (quiet_span s c l h) }

  pub laid_current : current s now (laid s now c) ≡ c
  unfolding laid current
  laid_current = let e : now - now ≡ 0 = omega arith in rw e (passed_none s c h.top)

module _ (s : Entry) (now : ℕ) (z : Slot) (g : Good s now z) where
  -- a quiet tick: the slot stays as it is
  module _ (b : now < z.due) where
    pub quiet_good : Good s (suc now) z
    quiet_good = record { past = omega (arith, g.past); ahead = omega arith; quiet = g.quiet }

    pub quiet_current : current s (suc now) z ≡ settle s 1 (tick s (current s now z))
    unfolding current
    quiet_current =
        let p = g.past in
        let e : suc now - z.since ≡ suc (now - z.since) = omega arith in
        rw e (sym (g.quiet.next (now - z.since) (omega arith)))

    pub quiet_written : releases s (current s now z) ≡ false
    unfolding current
    quiet_written = let p = g.past in g.quiet.none (now - z.since) (omega arith)

  ticked_tracks : (c : Crossing) → Tracks (settle s 1 (tick s c))
  unfolding settle tick
  ticked_tracks c = record { calling = refl; waiting = refl; unsure = refl }

  -- any tick
  pub woken_good : Good s (suc now) (woken s now z)
  unfolding woken
  woken_good = by_cond (Good s (suc now)) (ltb now z.due)
      (λ q. quiet_good (ltb-true _ _ q))
      (λ q. laid_good s (suc now) _ (ticked_tracks _) (settled_calm s 1 _ (omega arith)))

  pub woken_current : current s (suc now) (woken s now z) ≡ settle s 1 (tick s (current s now z))
  unfolding woken
  woken_current = by_cond (λ x. current s (suc now) x ≡ settle s 1 (tick s (current s now z))) (ltb now z.due)
      (λ q. quiet_current (ltb-true _ _ q))
      (λ q. laid_current s (suc now) _ (ticked_tracks _) (settled_calm s 1 _ (omega arith)))

  pub woken_written : bit (releases s (current s now z)) (total (current s now z)) ≡ written_off s now z
  unfolding written_off
  woken_written = by_cond (λ x. bit (releases s (current s now z)) (total (current s now z)) ≡ x) (ltb now z.due)
      (λ q. rw (quiet_written (ltb-true _ _ q)))
      (λ q. refl)

-- a taken event of the slot's own crossing
module _ (s : Entry) (now : ℕ) (z : Slot) (e : Event) where
  acted_tracks : (c : Crossing) → Tracks (settle s 0 (act s c e))
  unfolding settle act
  acted_tracks c = record { calling = refl; waiting = refl; unsure = refl }

  pub acted_good : Good s now (acted s now z e)
  unfolding acted
  acted_good = laid_good s now _ (acted_tracks _) (settled_calm s 0 _ (omega arith))

  pub acted_current : current s now (acted s now z e) ≡ settle s 0 (act s (current s now z) e)
  unfolding acted
  acted_current = laid_current s now _ (acted_tracks _) (settled_calm s 0 _ (omega arith))

-- what an event is refused for does not change in quiet ticks
pub current_refusal : (n : ℕ) (s : Entry) (now : ℕ) (z : Slot) (e : Event) → refusal n s z.crossing true e ≡ refusal n s (current s now z) true e
unfolding refusal current passed
current_refusal n s now z e = refl
