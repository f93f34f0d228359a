use mathlib.Core.Path.{◌∙◌}
use Rattle.slot.specs.Slots.{acted}
use Rattle.slot.proofs.Ready.{ready_takes}
use Rattle.slot.proofs.apply.Goals as goal

pub apply-d-requires : goal.apply-d-requires
apply-d-requires c = rw c.current-l.ensures (ready_takes c.requires.1)

pub returns : goal.returns
unfolding acted
returns c =
    c.lay.ensures ∙ rw (c.apply-d.ensures, c.current-l.ensures)
