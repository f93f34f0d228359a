-- Holds and reports as stores.
use mathlib.Core.Path.{◌≡◌}
use mathlib.Core.Bool.{Bool, true, false}
use Prim.Native.Nat.{ℕ, ◌<◌, ◌≤◌}
use native.Mathlib.Omega.{arith}
use lib.Dec.{eqb}
use borrow.Author.Tests.{ne_eqb}
use lib.ListN.{set}
use Rattle.machine.specs.declared.Entry.{Entry}
use Rattle.machine.specs.declared.Crossing.{Crossing}
use Rattle.machine.specs.declared.Event.{Event}
use Rattle.machine.specs.Effects.{act, cancels}
use Rattle.form.specs.declared.Field.{Field}
use Rattle.form.specs.declared.Field.TheVariants.{Calling, Waiting, Route, Occupied, Unsure, Booms, Lamps}
use Rattle.form.specs.declared.Number.{Number}
use Rattle.form.specs.declared.Number.TheVariants.{Kiosk, Operator, Countdown, Phase, Timer, Left, Out}
use Rattle.form.specs.Forms.{Sized, places, most, array_of, with_array, with_number}
use Rattle.train.specs.Room.{Takes}
use Rattle.train.proofs.Stores.{act_sized}
use Rattle.effect.specs.Parts.{Holds, Reports}

-- a byte fits a hold
pub hold_fits : (which : Number) (code v : ℕ) → Holds which code → v < 256 → v ≤ most which
hold_fits Kiosk code v h l = omega arith
hold_fits Operator code v h l = omega arith
hold_fits Countdown code v h l = absurd h
hold_fits Phase code v h l = absurd h
hold_fits Timer code v h l = absurd h
hold_fits Left code v h l = absurd h
hold_fits Out code v h l = absurd h

module _ (s : Entry) (c : Crossing) (e : Event) where
  pub held_on : (which : Number) → Holds which e.code → Sized c → eqb e.value 1 ≡ true → act s c e ≡ with_number (with_number c which e.value) Countdown 0
  unfolding cancels
  held_on Kiosk h z v = simp (act_sized s c e z, h, v)
  held_on Operator h z v = simp (act_sized s c e z, h, v)
  held_on Countdown h z v = absurd h
  held_on Phase h z v = absurd h
  held_on Timer h z v = absurd h
  held_on Left h z v = absurd h
  held_on Out h z v = absurd h

  pub held_off : (which : Number) → Holds which e.code → Sized c → eqb e.value 1 ≡ false → act s c e ≡ with_number c which e.value
  unfolding cancels
  held_off Kiosk h z v = simp (act_sized s c e z, h, v)
  held_off Operator h z v = simp (act_sized s c e z, h, v)
  held_off Countdown h z v = absurd h
  held_off Phase h z v = absurd h
  held_off Timer h z v = absurd h
  held_off Left h z v = absurd h
  held_off Out h z v = absurd h

  pub report_fits : {limit : Field → ℕ} (field : Field) → Reports field e.code → Takes limit c e → (e.place < places field) × (e.value < limit field)
  report_fits Calling h t = absurd h
  report_fits Waiting h t = absurd h
  report_fits Route h t = absurd h
  report_fits Occupied h t = absurd h
  report_fits Unsure h t = absurd h
  report_fits Booms h t = (rw h at t.room.place, rw h at t.value)
  report_fits Lamps h t = (rw h at t.room.place, rw h at t.value)

  pub reported : (field : Field) → Reports field e.code → Sized c → act s c e ≡ with_array c field (set (array_of c field) e.place e.value)
  unfolding cancels
  reported Calling h z = absurd h
  reported Waiting h z = absurd h
  reported Route h z = absurd h
  reported Occupied h z = absurd h
  reported Unsure h z = absurd h
  reported Booms h z = simp (act_sized s c e z, h)
  reported Lamps h z = simp (act_sized s c e z, h)

  -- a code that is none of these
  pub none_moved : Sized c → ((k : ℕ) → 0 < k → k ≤ 9 → e.code ≡ k → ⊥) → act s c e ≡ c
  unfolding cancels
  none_moved z h = simp (act_sized s c e z, other 1 (omega arith) (omega arith), other 2 (omega arith) (omega arith), other 3 (omega arith) (omega arith), other 4 (omega arith) (omega arith), other 5 (omega arith) (omega arith), other 6 (omega arith) (omega arith), other 7 (omega arith) (omega arith), other 8 (omega arith) (omega arith), other 9 (omega arith) (omega arith))
    where
      other : (k : ℕ) → 0 < k → k ≤ 9 → eqb e.code k ≡ false
      other k a b = ne_eqb e.code k (h k a b)
