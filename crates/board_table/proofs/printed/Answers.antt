use borrow.Author.Tests.{lt-ltb}
use native.Mathlib.Omega.{arith}
use Rattle.std.proofs.lemmas.Grind.{common_steps}
use Rattle.machine.specs.BoardTable.{printed}
use Rattle.board_table.proofs.Heads.{head}
use Rattle.board_table.proofs.printed.Goals as goal

pub returns-then-column-lt7 : goal.returns-then-column-lt7
unfolding printed
returns-then-column-lt7 c =
    simp (lt-ltb _ _ c.if-column-lt7.true, lt-ltb _ _ c.if-row-lt5.true, head c.args.column)

pub returns : goal.returns
unfolding printed
returns c = grind (arith, common_steps)
