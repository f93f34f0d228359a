-- What a tick of one crossing returns, in the machine's words.
use Rattle.machine.specs.declared.Entry.{Entry}
use Rattle.machine.specs.declared.Crossing.{Crossing}
use Rattle.machine.specs.Common.{bit}
use Rattle.machine.specs.Plant.{total}
use Rattle.machine.specs.Effects.{tick, releases, phase_ticked, timer_ticked}
use Rattle.machine.specs.Settling.{settle}
use Rattle.tick.specs.declared.Ticked.{Ticked}

-- one crossing after a tick, and the trains written off there
abbrev pub ticked_crossing : Entry → Crossing → Ticked Crossing
ticked_crossing s c = record { crossing = settle s 1 (tick s c); written = bit (releases s c) (total c) }

-- a crossing whose timer alone has run
abbrev pub timed : Entry → Crossing → Crossing
timed s c = record c { phase = phase_ticked s c.phase c.timer; timer = timer_ticked s c.phase c.timer }

-- what a tick of a form returns, by the crossing that the form is
abbrev pub held : {F : Type 0} → (F → Crossing) → Ticked F → Ticked Crossing
held crossing t = record { crossing = crossing t.crossing; written = t.written }
