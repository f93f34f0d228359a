-- A slot of the run: a crossing as of an earlier tick. What it is at a later one, and what a tick and an event make of it.
use Rattle.std.specs.Prelude.{cond, ℕ, suc, ◌+◌, ◌-◌, ltb}
use Rattle.machine.specs.declared.Entry.{Entry}
use Rattle.machine.specs.declared.Crossing.{Crossing}
use Rattle.machine.specs.declared.Event.{Event}
use Rattle.machine.specs.Common.{bit}
use Rattle.machine.specs.Plant.{total}
use Rattle.machine.specs.Effects.{act, tick, releases}
use Rattle.machine.specs.Settling.{settle}
use Rattle.lane.specs.Lanes.{crossing_of}
use Rattle.quiet.specs.Passing.{passed, span}
use Rattle.slot.specs.declared.Packed.{Packed}

-- a crossing as it was at the tick `since`; up to the tick `due` every tick is quiet there
pub record Slot : Type 0 where
  pub crossing : Crossing
  pub since : ℕ
  pub due : ℕ

-- the slot that words hold
abbrev pub seen : Packed → Slot
seen z = record { crossing = crossing_of z.lane; since = z.since; due = z.due }

-- the crossing of a slot at the tick `now`
unfoldable pub current : Entry → ℕ → Slot → Crossing
current s now z = passed s (now - z.since) z.crossing

-- a settled crossing laid into a slot at the tick `now`
unfoldable pub laid : Entry → ℕ → Crossing → Slot
laid s now c = record { crossing = c; since = now; due = now + span s c }

-- a slot after the tick `now`: as it was while the tick is quiet there, otherwise ticked and laid anew
unfoldable pub woken : Entry → ℕ → Slot → Slot
woken s now z = cond (ltb now z.due) z (laid s (suc now) (settle s 1 (tick s (current s now z))))

-- the trains that the tick `now` writes off at a slot: none while it is quiet there
unfoldable pub written_off : Entry → ℕ → Slot → ℕ
written_off s now z = cond (ltb now z.due) 0 (bit (releases s (current s now z)) (total (current s now z)))

-- a slot after a taken event of its own crossing
unfoldable pub acted : Entry → ℕ → Slot → Event → Slot
acted s now z e = laid s now (settle s 0 (act s (current s now z) e))

-- a slot before the first tick, which is done there
abbrev pub first_slot : Crossing → Slot
first_slot c = record { crossing = c; since = 0; due = 0 }
