use Rattle.booms.specs.Sides.{on_sides}
use Rattle.booms.proofs.each.Goals as goal

pub returns-then-lights_only : goal.returns-then-lights_only
unfolding on_sides
returns-then-lights_only c = simp (c.if-lights_only.true, ← c.lights_only.ensures)

pub returns-then-four_booms : goal.returns-then-four_booms
unfolding on_sides
returns-then-four_booms c = simp (c.if-four_booms.true, ← c.four_booms.ensures, c.if-lights_only.false, ← c.lights_only.ensures)

pub returns : goal.returns
unfolding on_sides
returns c = simp (c.if-four_booms.false, ← c.four_booms.ensures, c.if-lights_only.false, ← c.lights_only.ensures)
