use Rattle.slot.specs.Slots.{laid}
use Rattle.slot.proofs.lay.Goals as goal

pub returns : goal.returns
unfolding laid
returns c =
    simp c.span.ensures.value
