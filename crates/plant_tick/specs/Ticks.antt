-- What a tick of the whole plant returns, in the machine's words.
use Rattle.std.specs.Prelude.{◌+◌, ◌%◌}
use Rattle.machine.specs.declared.Plant.{Plant}
use Rattle.machine.specs.Common.{tab, sum_below}
use Rattle.machine.specs.Plant.{entry, crossing}
use Rattle.tick.specs.Ticks.{ticked_crossing}
use Rattle.plant_tick.specs.declared.Ticks.{Ticks}

-- the plant after a tick, but for its site, and the trains written off, summed
abbrev pub ticked_plant : Plant → Ticks
ticked_plant p = record {
  beat = (p.beat + 1) % 4;
  crossings = tab 8 (λ i. (ticked_crossing (entry p i) (crossing p i)).crossing);
  written = sum_below 8 (λ i. (ticked_crossing (entry p i) (crossing p i)).written);
}
