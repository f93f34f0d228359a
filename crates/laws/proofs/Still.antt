-- What the train signal and the distant show in normal position: stop and violet, the train signal dark if its lamp is dead; under the 1959 sheet
-- (T-09) amber, with booms, or nothing. So Panel `train_rhythm`, slow in normal position, is document 01's "stop and violet in normal position".
use mathlib.Core.Path.{◌≡◌, refl}
use mathlib.Core.Bool.{Bool, true, false, cond, ◌&&◌, and-false}
use Prim.Native.Nat.{ℕ}
use lib.Dec.{eqb}
use borrow.Author.Tests.{eqb-true}
use Rattle.machine.specs.Common.{bit}
use Rattle.machine.specs.declared.Entry.{Entry}
use Rattle.machine.specs.declared.Crossing.{Crossing}
use Rattle.machine.specs.Plant.{lamp, lights_only, old_sheet, normal, secured}
use Rattle.machine.specs.Panel.{has_booms, amber, shows_white, signal, distant}
use Rattle.machine.proofs.Tools.{by_cond, and_both}

-- a train signal that shows stop or nothing has a violet distant
violet : (old red : Bool) (shown : ℕ) → cond old (cond old shown (bit red 1)) (cond (eqb (cond old shown (bit red 1)) 2) 2 1) ≡ cond old (cond old shown (bit red 1)) 1
violet true red shown = refl
violet false true shown = refl
violet false false shown = refl

module _ (s : Entry) (c : Crossing) (still : normal s c ≡ true) where
  open_phase : c.phase ≡ 0
  unfolding normal
  open_phase = eqb-true c.phase 0 (and_both _ _ still).0

  not_secured : secured s c ≡ false
  unfolding secured
  not_secured = rw open_phase refl

  not_white : shows_white s c ≡ false
  unfolding shows_white
  not_white = rw (not_secured, open_phase) (by_cond (λ b. (lamp c 3 && b) ≡ false) (lights_only s.kind) (λ _. and-false (lamp c 3)) (λ _. and-false (lamp c 3)))

  pub still_signal : signal s c ≡ cond (old_sheet s.kind) (bit (lamp c 2 && has_booms s) amber) (bit (lamp c 2) 1)
  unfolding signal
  still_signal = rw (not_secured, not_white) refl

  pub still_distant : distant s c ≡ cond (old_sheet s.kind) (signal s c) 1
  unfolding distant signal
  still_distant = rw (not_secured, not_white) (violet (old_sheet s.kind) (lamp c 2) (bit (lamp c 2 && has_booms s) amber))
