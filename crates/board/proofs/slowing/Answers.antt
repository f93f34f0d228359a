use native.Mathlib.Omega.{arith}
use mir.Syntax.{w16}
use mir.ValLaws.{to_z-of_z}
use Rattle.board.proofs.Laws.{slowing_is}
use Rattle.board.proofs.slowing.Goals as goal

pub returns : goal.returns
returns c =
    let e = rw (to_z-of_z w16 c.args.gradient c.ranges.gradient) at c.raised.ensures in
    omega (arith, e, slowing_is c.args.retardation c.args.gradient c.requires.0 c.requires.1)
