-- What a plant in range has for lanes: its numbers are small enough to be packed and to be unpacked.
use mathlib.Core.Path.{◌≡◌}
use mathlib.Core.Bool.{Bool, true, false}
use Prim.Native.Nat.{ℕ, ◌≤◌, ◌<◌}
use native.Mathlib.Omega.{arith}
use lib.Dec.{eqb, ltb, leb}
use borrow.Author.Tests.{eqb-true, leb-true, ltb-true, ltb-false}
use Rattle.machine.specs.declared.Entry.{Entry}
use Rattle.machine.specs.declared.Crossing.{Crossing}
use Rattle.machine.specs.declared.Plant.{Plant}
use Rattle.machine.specs.Common.{bit}
use Rattle.machine.specs.Plant.{boom, lamp_flag, entry, crossing, boom_count, lamp_count, four_booms}
use Rattle.machine.specs.Range.{in_range, report_limit, left_limit}
use Rattle.machine.proofs.Tools.{by_test, by_cond, and_both}
use Rattle.machine.proofs.Entries.{EntryIn}
use Rattle.machine.proofs.Ranges.{CrossingIn, PhaseIn, opened, warning, right, closed, raising, NoCrossing, plant_reads, entry_of}
use Rattle.lane.specs.Lanes.{Small, Fits}

reports : (b : Bool) → report_limit b ≤ 3
reports true = omega arith
reports false = omega arith

flags : (b : Bool) → bit b 1 ≤ 1
flags true = omega arith
flags false = omega arith

module _ (s : Entry) (c : Crossing) where
  used_small : CrossingIn s c → Small c
  used_small h = record {
    calling = λ t l. let x = (h.track t l).few in omega arith;
    waiting = λ t l. let x = (h.track t l).few in omega arith;
    route = λ t l. let x = (h.track t l).route in omega arith;
    occupied = λ t l. let x = (h.track t l).occupied in omega arith;
    unsure = λ t l. let x = (h.track t l).unsure in omega arith;
    booms = λ b l. let x : boom c b ≤ report_limit (ltb b (boom_count s.kind)) = leb-true _ _ (h.boom b l) in let y = reports (ltb b (boom_count s.kind)) in omega arith;
    lamps = λ k l. let x : lamp_flag c k ≤ bit (ltb k (lamp_count s.kind)) 1 = leb-true _ _ (h.lamp k l) in let y = flags (ltb k (lamp_count s.kind)) in omega arith;
  }

  gap_most : EntryIn s → s.gap ≤ 90
  gap_most g = by_test (four_booms s.kind)
      (λ q. leb-true _ _ (and_both (leb 1 s.gap) (leb s.gap 90) (rw q at g.gap)).1)
      (λ q. let z : s.gap ≡ 0 = eqb-true _ _ (rw q at g.gap) in omega arith)

  phase_most : EntryIn s → PhaseIn s c.phase c.timer → (c.phase ≤ 255) × (c.timer ≤ 65535)
  phase_most g (opened p z) = (omega arith, omega arith)
  phase_most g (warning p l h) = let x = g.pre in (omega arith, omega arith)
  phase_most g (right p q l h) = let x = gap_most g in (omega arith, omega arith)
  phase_most g (closed p z) = (omega arith, omega arith)
  phase_most g (raising p z h) = (omega arith, omega arith)

  used_fits : EntryIn s → CrossingIn s c → Fits c
  used_fits g h =
      let p = phase_most g h.phase in
      let k = h.kiosk in
      let o = h.operator in
      let d = h.countdown in
      let u = h.out in
      let l = h.left in
      let m : left_limit s c.phase ≤ s.pause = by_cond (λ x. x ≤ s.pause) (eqb c.phase 0) (λ _. omega arith) (λ _. omega arith) in
      let n = g.pause in
      record { kiosk = omega arith; operator = omega arith; countdown = omega arith; phase = p.0; timer = p.1; left = omega arith; out = omega arith }

module _ (c : Crossing) (h : NoCrossing c) where
  past_small : Small c
  past_small = record {
    calling = λ t l. let x = (h.track t l).calling in omega arith;
    waiting = λ t l. let x = (h.track t l).waiting in omega arith;
    route = λ t l. let x = (h.track t l).route in omega arith;
    occupied = λ t l. let x = (h.track t l).occupied in omega arith;
    unsure = λ t l. let x = (h.track t l).unsure in omega arith;
    booms = λ b l. let x = h.boom b l in omega arith;
    lamps = λ k l. let x = h.lamp k l in omega arith;
  }

  past_fits : Fits c
  past_fits =
      let k = h.kiosk in
      let o = h.operator in
      let d = h.countdown in
      let p = h.phase in
      let t = h.timer in
      let l = h.left in
      let u = h.out in
      record { kiosk = omega arith; operator = omega arith; countdown = omega arith; phase = omega arith; timer = omega arith; left = omega arith; out = omega arith }

module _ (p : Plant) (r : in_range p ≡ true) (i : ℕ) (l : i < 8) where
  pub small_of : Small (crossing p i)
  small_of =
      let h = plant_reads p r in
      by_test (ltb i p.site.n)
      (λ q. used_small (entry p i) (crossing p i) (h.used i (ltb-true _ _ q)))
      (λ q. past_small (crossing p i) (h.past i l (ltb-false _ _ q)))

  pub fits_of : Fits (crossing p i)
  fits_of =
      let h = plant_reads p r in
      by_test (ltb i p.site.n)
      (λ q. let b = ltb-true _ _ q in used_fits (entry p i) (crossing p i) (entry_of h i b) (h.used i b))
      (λ q. past_fits (crossing p i) (h.past i l (ltb-false _ _ q)))

  pub top_of : (crossing p i).out ≤ 1080
  top_of =
      let h = plant_reads p r in
      by_test (ltb i p.site.n)
      (λ q. (h.used i (ltb-true _ _ q)).out)
      (λ q. let z = (h.past i l (ltb-false _ _ q)).out in omega arith)
