use mathlib.Core.Path.{refl}
use native.Mathlib.Omega.{arith}
use borrow.Author.Tests.{le-ltb}
use Rattle.kind.proofs.Laws.{no_bit}
use Rattle.machine.specs.Plant.{dependent}
use Rattle.kind.proofs.dependent.Goals as goal

pub returns-then-t-lt8 : goal.returns-then-t-lt8
unfolding dependent
returns-then-t-lt8 c = refl

pub returns-else-t-lt8 : goal.returns-else-t-lt8
unfolding dependent
returns-else-t-lt8 c = rw (le-ltb c.args.t 8 c.if-t-lt8.false) (no_bit c.args.s.mask c.args.t (omega arith) c.if-t-lt8.false)
