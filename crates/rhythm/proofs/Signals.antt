-- The signals of a crossing have one rhythm among them (T-05), but for those that are steady by themselves (T-09): the road is white in normal
-- position alone, and boom lamps that flash are off in it.
use mathlib.Core.Path.{◌≡◌, refl}
use mathlib.Core.Bool.{Bool, true, false, cond, not, ◌&&◌, ◌||◌}
use Prim.Native.Nat.{ℕ, ◌+◌}
use lib.Dec.{eqb, ltb}
use Rattle.machine.specs.Common.{bit}
use Rattle.machine.specs.declared.Entry.{Entry}
use Rattle.machine.specs.declared.Crossing.{Crossing}
use Rattle.machine.specs.declared.Rhythm.{Rhythm}
use Rattle.machine.specs.declared.Rhythm.TheVariants.{Slow, Fast, Steady}
use Rattle.machine.specs.Plant.{boom, lamp, old_sheet, booms_up, normal}
use Rattle.machine.specs.Panel.{has_booms, amber, road, boom_lamps, signal, distant, lit_at, flashing, by_position, road_rhythm, boom_rhythm, train_rhythm, is_lit, lit}
use Rattle.machine.proofs.Tools.{by_test}

-- that rhythm: steady with the flasher dead, otherwise lit at beat 0 in normal position, at beats 0 and 2 out of it
pub now : (beat : ℕ) (flasher still : Bool) → lit_at (by_position flasher still) beat ≡ (not flasher || cond still (eqb beat 0) (eqb beat 0 || eqb beat 2))
unfolding lit_at
now beat false still = refl
now beat true false = refl
now beat true true = refl

-- the road: 1 is white, 2 is red
white : (beat : ℕ) (flasher b : Bool) → is_lit beat (flashing flasher (cond (eqb (bit b 1) 1) Slow Fast)) (bit b 1) ≡ (ltb 0 (bit b 1) && lit_at (by_position flasher true) beat)
unfolding is_lit
white beat flasher true = refl
white beat flasher false = refl

red : (beat : ℕ) (flasher b : Bool) → is_lit beat (flashing flasher (cond (eqb (bit b 2) 1) Slow Fast)) (bit b 2) ≡ (ltb 0 (bit b 2) && lit_at (by_position flasher false) beat)
unfolding is_lit
red beat flasher true = refl
red beat flasher false = refl

-- boom lamps, under the 1959 sheet by the booms, otherwise by the position
booms_alike : (beat : ℕ) (flasher old up still has : Bool) → let shown = bit (not (cond old up still) && has) 1 in is_lit beat (cond old Steady (flashing flasher Fast)) shown ≡ (ltb 0 shown && cond old (lit_at Steady beat) (lit_at (by_position flasher still) beat))
unfolding is_lit
booms_alike beat flasher true up still has = refl
booms_alike beat flasher false up true has = refl
booms_alike beat flasher false up false has = refl

-- a train signal or distant, steady by itself or not
train_alike : (beat shown : ℕ) (steady : Bool) (rhythm : Rhythm) → is_lit beat (cond steady Steady rhythm) shown ≡ (ltb 0 shown && cond steady (lit_at Steady beat) (lit_at rhythm beat))
unfolding is_lit
train_alike beat shown true rhythm = refl
train_alike beat shown false rhythm = refl

four_bits : {a b d e a' b' d' e' : Bool} → a ≡ a' → b ≡ b' → d ≡ d' → e ≡ e' → bit a 1 + bit b 2 + bit d 4 + bit e 8 ≡ bit a' 1 + bit b' 2 + bit d' 4 + bit e' 8
four_bits p q r t = rw (p, q, r, t) refl

module _ (s : Entry) (c : Crossing) where
  road_alike : (beat : ℕ) → is_lit beat (road_rhythm s c) (road s c) ≡ (ltb 0 (road s c) && lit_at (by_position (lamp c 4) (normal s c)) beat)
  unfolding road road_rhythm
  road_alike beat = by_test (normal s c)
      (λ q. rw q (white beat (lamp c 4) (lamp c 0 && not (old_sheet s.kind))))
      (λ q. rw q (red beat (lamp c 4) (lamp c 1)))

  -- byte 1: a bit for each signal that is not dark and whose row is lit, the steady row for those that are steady by themselves, otherwise one row
  -- for all
  pub one_rhythm : (beat : ℕ) → let on = lit_at (by_position (lamp c 4) (normal s c)) beat in let steady = lit_at Steady beat in lit beat s c
      ≡ bit (ltb 0 (road s c) && on) 1
      + bit (ltb 0 (boom_lamps s c) && cond (old_sheet s.kind) steady on) 2
      + bit (ltb 0 (signal s c) && cond (eqb (signal s c) amber) steady on) 4
      + bit (ltb 0 (distant s c) && cond (eqb (distant s c) amber) steady on) 8
  unfolding lit boom_lamps boom_rhythm train_rhythm
  one_rhythm beat =
      four_bits (road_alike beat)
      (booms_alike beat (lamp c 4) (old_sheet s.kind) (booms_up s.kind (boom c)) (normal s c) (has_booms s))
      (train_alike beat (signal s c) (eqb (signal s c) amber) (by_position (lamp c 4) (normal s c)))
      (train_alike beat (distant s c) (eqb (distant s c) amber) (by_position (lamp c 4) (normal s c)))
