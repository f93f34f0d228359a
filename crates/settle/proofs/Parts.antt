-- The parts of settling come to the machine's settling.
use mathlib.Core.Path.{◌≡◌, refl, sym, ◌∙◌, ap}
use mathlib.Core.Bool.{false, true≢false}
use Rattle.std.proofs.Common.{Option, Some, None}
use Rattle.std.specs.Option.{is_some}
use Prim.Native.Nat.{ℕ}
use borrow.Author.Tests.{eq-eqb}
use Rattle.machine.specs.declared.Entry.{Entry}
use Rattle.machine.specs.declared.Crossing.{Crossing}
use Rattle.machine.specs.Plant.{normal}
use Rattle.machine.specs.Settling.{timer_settled, left_settled, settle}
use Rattle.settle.specs.Parts.{moved, next_phase, entered, settled_out}

module _ (s : Entry) (c : Crossing) where
  -- where the phase stays, so do timer and ticks left
  pub stays : (next : ℕ) → next ≡ c.phase → c ≡ entered s next c
  unfolding timer_settled left_settled
  stays next p = rw (eq-eqb next c.phase p, p)

  -- where no phase is entered, the phase stays
  pub none_stays : (r : Option ℕ) → moved c.phase r ≡ next_phase s c → is_some r ≡ false → next_phase s c ≡ c.phase
  none_stays None e q = sym e
  none_stays (Some next) e q = absurd (true≢false q)

module _ (s : Entry) (add : ℕ) (c : Crossing) where
  pub all_parts : settled_out s add (entered s (next_phase s c) c) ≡ settle s add c
  unfolding settle normal
  all_parts = refl

  pub phase_stays : next_phase s c ≡ c.phase → settled_out s add c ≡ settle s add c
  phase_stays q = ap (settled_out s add) (stays s c (next_phase s c) q) ∙ all_parts
