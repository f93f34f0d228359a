-- What a crossing shows, in the machine's words.
use Rattle.machine.specs.declared.Entry.{Entry}
use Rattle.machine.specs.declared.Crossing.{Crossing}
use Rattle.machine.specs.Panel.{road, boom_lamps, signal, distant}
use Rattle.signals.specs.declared.Shown.{Shown}

-- bytes 0, 3, 6 and 7
unfoldable pub shown_of : Entry → Crossing → Shown
shown_of s c = record { road = road s c; booms = boom_lamps s c; signal = signal s c; distant = distant s c }
