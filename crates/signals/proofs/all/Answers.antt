use native.Mathlib.Omega.{arith}
use Rattle.std.proofs.lemmas.Grind.{common_steps}
use Rattle.machine.specs.Panel.{road, boom_lamps, distant}
use Rattle.signals.specs.Shown.{shown_of}
use Rattle.signals.proofs.all.Goals.{then-old, else-old}
use Rattle.signals.proofs.all.Goals as goal

pub signal-signal-requires : goal.signal-signal-requires
unfolding road
signal-signal-requires c =
    (simp (c.road-road.ensures, c.old_sheet-old.ensures, c.requires.0), c.requires.1)

pub returns : goal.returns
unfolding shown_of road boom_lamps distant
returns c = elim c.if-old.branch [
  | then-old w ↦ grind (arith, common_steps)
  | else-old w ↦ grind (arith, common_steps)
]
