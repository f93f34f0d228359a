use mathlib.Core.Path.{◌∙◌}
use Rattle.slot.specs.Slots.{current}
use Rattle.slot.proofs.current.Goals as goal

pub returns : goal.returns
unfolding current
returns c =
    c.advance.ensures ∙ rw c.saturating_sub.ensures
