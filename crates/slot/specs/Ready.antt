-- What a taken event of a crossing in range has.
use Rattle.std.specs.Prelude.{◌<◌}
use Rattle.machine.specs.declared.Crossing.{Crossing}
use Rattle.machine.specs.declared.Event.{Event}
use Rattle.machine.specs.Events.{value_limit}
use Rattle.train.specs.Room.{Room}

-- room for it, and a value of the table
pub record Ready (c : Crossing) (e : Event) : Type 0 where
  pub room : Room c e
  pub value : e.value < value_limit e.code
