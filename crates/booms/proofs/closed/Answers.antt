use mathlib.Core.Path.{sym, ◌∙◌}
use mathlib.Core.Bool.{and-true}
use Rattle.machine.specs.Plant.{booms_closed, booms_down}
use Rattle.booms.proofs.Laws.{two_half}
use Rattle.booms.proofs.closed.Goals as goal

pub returns-then-half_booms : goal.returns-then-half_booms
unfolding booms_closed
returns-then-half_booms c =
    let half = c.half_booms.ensures in
    let taken = c.if-half_booms.true in
    simp (c.half_closed-then-half_booms.ensures, c.half_closed.ensures, two_half c.args.kind (sym half ∙ taken), ← half, taken, and-true)

pub returns : goal.returns
unfolding booms_closed booms_down
returns c = simp (c.down.ensures, ← c.half_booms.ensures, c.if-half_booms.false)
