use Rattle.event.proofs.Steps.{tick_step}
use Rattle.machine.proofs.Taken.{taken_tests}
use mathlib.Core.Path.{sym}
use Rattle.event.proofs.take_tick.Goals as goal

pub tick_all-t-requires : goal.tick_all-t-requires
tick_all-t-requires c = (taken_tests _ _ c.requires.0).range

pub returns : goal.returns
returns c = simp c.tick_all-t.ensures.value (sym (tick_step _ _ c.requires.0 c.requires.1))
