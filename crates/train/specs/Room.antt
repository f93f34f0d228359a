-- What a crossing has for an event that it takes.
use Rattle.std.specs.Prelude.{cond, eqb, ℕ, ◌≤◌, ◌<◌}
use Rattle.machine.specs.declared.Crossing.{Crossing}
use Rattle.machine.specs.declared.Event.{Event}
use Rattle.machine.specs.Common.{bit}
use Rattle.machine.specs.Plant.{full, trains}
use Rattle.machine.specs.Events.{is, on_track}
use Rattle.form.specs.declared.Field.{Field}
use Rattle.form.specs.declared.Field.TheVariants.{Route, Occupied, Booms, Lamps}

-- the place is one of four tracks or booms, or of seven lamps; a track's trains are together at most 255, and are there for a passage
pub record Room (c : Crossing) (e : Event) : Type 0 where
  pub place : e.place < cond (is 9 e) 7 4
  pub most : bit (on_track e.code) (trains c e.place) ≤ full
  pub least : bit (is 2 e) 1 ≤ trains c e.place

-- what the value of an event of this code is below: of a route, an approach and a report what a form with these limits holds, else a byte
abbrev pub room_for : (Field → ℕ) → ℕ → ℕ
room_for limit code = cond (eqb code 5) (limit Route) (cond (eqb code 6) (limit Occupied) (cond (eqb code 8) (limit Booms) (cond (eqb code 9) (limit Lamps) 256)))

-- room for it in a form with these limits. Of the crossing of the plant, whose places are bytes, that is `Room` alone (`bytes_take`)
pub record Takes (limit : Field → ℕ) (c : Crossing) (e : Event) : Type 0 where
  pub room : Room c e
  pub value : e.value < room_for limit e.code
