use Rattle.lane.specs.Lanes.{crossing_of}
use Rattle.quiet.specs.Passing.{span}
use Rattle.quiet.proofs.span.Goals as goal

pub returns-then-opens-clause-value : goal.returns-then-opens-clause-value
unfolding span
returns-then-opens-clause-value c =
    simp (← c.opens.ensures, c.if-opens.true)

pub returns-clause-value : goal.returns-clause-value
unfolding span crossing_of
returns-clause-value c =
    simp (c.min-3.ensures, c.sheet_left.ensures.value, c.min-2.ensures, c.ticks_left-3.ensures, c.min.ensures, c.ticks_left-2.ensures, c.ticks_left.ensures, ← c.opens.ensures, c.if-opens.false)
