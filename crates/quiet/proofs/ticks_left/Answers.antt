use borrow.Author.Tests.{eq-eqb, ne_eqb}
use Rattle.quiet.specs.Passing.{ticks_left}
use Rattle.quiet.proofs.ticks_left.Goals as goal

pub returns-then-count-eq0 : goal.returns-then-count-eq0
unfolding ticks_left
returns-then-count-eq0 c =
    simp (eq-eqb _ _ c.if-count-eq0.true)

pub returns : goal.returns
unfolding ticks_left
returns c =
    simp (ne_eqb _ _ c.if-count-eq0.false)
