use mir.Syntax.{w16}
use mir.ValLaws.{to_z-of_z}
use Rattle.machine.specs.Board.{speed_in, retardation_in, gradient_in, board_number}
use Rattle.board.proofs.checked.Goals as goal

pub returns-then-not-speed : goal.returns-then-not-speed
unfolding board_number speed_in
returns-then-not-speed c = simp c.if-not-speed.true

pub returns-then-not-retardation : goal.returns-then-not-retardation
unfolding board_number speed_in retardation_in
returns-then-not-retardation c = simp (c.if-not-retardation.true, c.if-not-speed.false)

pub returns-then-not-gradient : goal.returns-then-not-gradient
unfolding board_number speed_in retardation_in gradient_in
returns-then-not-gradient c =
    simp (rw (to_z-of_z w16 c.args.gradient c.ranges.gradient) at c.if-not-gradient.true, c.if-not-retardation.false, c.if-not-speed.false)

pub returns : goal.returns
unfolding board_number speed_in retardation_in gradient_in
returns c =
    simp (rw (to_z-of_z w16 c.args.gradient c.ranges.gradient) at c.if-not-gradient.false, c.if-not-retardation.false, c.if-not-speed.false)
