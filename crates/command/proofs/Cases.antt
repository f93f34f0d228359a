-- The number of an event without the right (T-04), by its number with it: 5 to 8 stand, and all else is 17.
use Rattle.std.proofs.Common.{◌≡◌, ℕ, true, false}
use Rattle.std.specs.Prelude.{Bool, not, ◌&&◌, eqb, ltb, leb}
use mathlib.Core.Path.{sym}
use Rattle.machine.specs.Common.{refuse}
use Rattle.machine.specs.declared.Entry.{Entry}
use Rattle.machine.specs.declared.Crossing.{Crossing}
use Rattle.machine.specs.declared.Event.{Event}
use Rattle.machine.specs.Plant.{trains, dependent}
use Rattle.machine.specs.Events.{is, is_to, crossing_limit, place_limit, value_limit, any_calling, blocked, refusal}
use Rattle.machine.proofs.Chain.{Told, told}

module _ (n : ℕ) (s : Entry) (c : Crossing) (e : Event) where
  told_by : Told (refusal n s c true e) (refusal n s c false e)
  unfolding refusal
  told_by = told (ltb 9 e.code) (leb (crossing_limit n e.code) e.crossing) (leb (place_limit s e.code) e.place) (leb (value_limit e.code) e.value)
      (is 5 e && not (dependent s e.place)) (is 2 e && eqb (trains c e.place) 0) (is_to 4 0 e && any_calling c) (is 7 e && blocked c)

  pub by_right : (may : Bool) (k : ℕ) → k ≡ refusal n s c true e → may ≡ false → refuse (leb 5 k && leb k 8) k 17 ≡ refusal n s c may e
  by_right may k q r = rw (r, q) (sym told_by.0)
